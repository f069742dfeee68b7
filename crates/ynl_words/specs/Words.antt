-- The command line.
use Rattle.std.specs.Prelude.{◌≡◌, ℕ, Bool, true, false, not, ◌&&◌, ◌||◌, List, [], ◌∷◌, length, nat_lt, nat_le, Option, Some, None, is_some, option_and_then, option_map, codes, if◌then◌else◌}
use Rattle.std.specs.Option.{option_map_or, option_zip}
use Rattle.std.specs.Result.{result_ok}
use Rattle.std.specs.Str.{bytes_eq, all_ascii_digits}
use Rattle.std.specs.Str.Parse.{digits_value, without_leading_plus}
use Rattle.clap.specs.Walk.{Rule, Row, Text, first_of}
use Rattle.clap.specs.Simple.{App, app_of, new_app, new_rule, on_top, subcommand_of, with_rule, with_subcommand}
use Rattle.clap.specs.declared.builder.command.Command.{Command}
use Rattle.clap.specs.declared.builder.command.Command.TheViews.{out-Command}
use Rattle.clap.specs.declared.builder.action.ArgAction.TheVariants.{SetTrue}
use Rattle.clap.specs.declared.builder.value_parser.ValueParser.TheVariants.{Unsigned}
use Rattle.ynl_resource.specs.declared.names.Name.{Name}
use Rattle.ynl_resource.specs.declared.labels.Label.{Label}
use Rattle.ynl_resource.specs.Texts.{read_name, read_label}
use Rattle.ynl_words.specs.declared.words.Question.{Question}
use Rattle.ynl_words.specs.declared.words.Kind.{Kind}
use Rattle.ynl_check.specs.declared.checking.Form.{Form}
use Rattle.ynl_check.specs.declared.checking.Form.TheVariants.{Lines, Plain}
use Rattle.ynl_words.specs.declared.words.Kind.TheVariants.{Sequential, Check, Live}
use Rattle.ynl_words.specs.declared.words.SequentialKind.TheVariants.{Run, Tenant, Audit, Evidence, AuditEvidence, Explain, Save}

-- what a command takes, none of it in all subcommands
pub record IsApp (a : App) (c : Command) : Type 0 where
  pub app : app_of c ≡ a
  pub local : (out-Command c).has_globals ≡ false

-- an option of this name that takes a value
abbrev pub valued : Text → Rule
valued name = record (new_rule name) { long = Some name; value_names = 1 }

-- the option `--config FILE`
abbrev pub config_rule : Rule
config_rule = valued (codes "config")

-- the option `--from FILE`
abbrev pub from_rule : Rule
from_rule = valued (codes "from")

-- the option `--tenant NAME`, which is required
abbrev pub tenant_rule : Rule
tenant_rule = record (valued (codes "tenant")) { required = true }

-- the option `--label LABEL`, which is required
abbrev pub label_rule : Rule
label_rule = record (valued (codes "label")) { required = true }

-- the option `--app NAME`, which is required
abbrev pub app_rule : Rule
app_rule = record (valued (codes "app")) { required = true }

-- the option `--workers N`, from 1 to 64, without which it is 2
abbrev pub workers_rule : Rule
workers_rule = record (valued (codes "workers")) { parser = Some (Unsigned 1 64); defaults = codes "2" ∷ [] }

-- the option `--rounds R`, from 0 to 1000, without which it is 1
abbrev pub rounds_rule : Rule
rounds_rule = record (valued (codes "rounds")) { parser = Some (Unsigned 0 1000); defaults = codes "1" ∷ [] }

-- the flag `--plain`
abbrev pub plain_rule : Rule
plain_rule = record (new_rule (codes "plain")) { long = Some (codes "plain"); action = Some SetTrue }

-- a subcommand with the options that name the files of the configuration and of the state to begin from
abbrev pub with_files : App → App
with_files a = with_rule (with_rule a config_rule) from_rule

-- the subcommand `run`
abbrev pub run_command : App
run_command = with_files (new_app (codes "run"))

-- a subcommand with the options that name a tenant's partition, and behind them the one that names the configuration
abbrev pub with_partition : App → App
with_partition a = with_rule (with_rule (with_rule a tenant_rule) label_rule) config_rule

-- a subcommand with two options more, and behind them those that name the files
abbrev pub with_options_and_files : App → Rule → Rule → App
with_options_and_files a first second = with_files (with_rule (with_rule a first) second)

-- the subcommand `tenant`
abbrev pub tenant_command : App
tenant_command = with_partition (new_app (codes "tenant"))

-- the option `--tenant NAME` of an audit
abbrev pub audit_tenant_rule : Rule
audit_tenant_rule = valued (codes "tenant")

-- the option `--label LABEL` of an audit
abbrev pub audit_label_rule : Rule
audit_label_rule = valued (codes "label")

-- the subcommand `audit`
abbrev pub audit_command : App
audit_command = with_options_and_files (new_app (codes "audit")) audit_tenant_rule audit_label_rule

-- the subcommand `evidence`
abbrev pub evidence_command : App
evidence_command = with_partition (new_app (codes "evidence"))

-- the subcommand `explain`
abbrev pub explain_command : App
explain_command = with_options_and_files (with_rule (new_app (codes "explain")) tenant_rule) app_rule plain_rule

-- the subcommand `save`
abbrev pub save_command : App
save_command = with_files (new_app (codes "save"))

-- the subcommand `check`
abbrev pub check_command : App
check_command = with_rule (with_rule (new_app (codes "check")) plain_rule) config_rule

-- the subcommand `live`
abbrev pub live_command : App
live_command = with_options_and_files (new_app (codes "live")) workers_rule rounds_rule

-- the command `ynl`, which wants a subcommand, without those that there are
abbrev pub bare_command : App
bare_command = on_top (λ s. record s { subcommand_required = true }) (new_app (codes "ynl"))

-- the command `ynl`
abbrev pub command : App
command = with_subcommand (with_subcommand (with_subcommand (with_subcommand (with_subcommand (with_subcommand (with_subcommand (with_subcommand bare_command
    run_command.top) tenant_command.top) audit_command.top) evidence_command.top) explain_command.top) save_command.top) check_command.top) live_command.top

-- the file that the options of a subcommand name for the configuration, where they name one
abbrev pub file_met : Text × List Row → Option Text
file_met met = first_of (codes "config") met.1

-- the file that the words name for the configuration
abbrev pub file_of : List Text → Option Text
file_of words = option_and_then file_met (subcommand_of command words)

-- the file that the options of a subcommand name for the state to begin from, where they name one
abbrev pub from_met : Text × List Row → Option Text
from_met met = first_of (codes "from") met.1

-- the file that the words name for that state
abbrev pub from_of : List Text → Option Text
from_of words = option_and_then from_met (subcommand_of command words)

-- the name that a text is
abbrev pub name_in : Text → Option Name
name_in text = result_ok (read_name text)

-- the label that a text is
abbrev pub label_in : Text → Option Label
label_in text = result_ok (read_label text)

-- the form that `--plain` asks for, or its absence
abbrev pub form_in : Text → Form
form_in text = if bytes_eq text (codes "true") then Plain else Lines

-- the same of the options of a subcommand
abbrev pub form_met : List Row → Form
form_met rows = option_map_or form_in (first_of (codes "plain") rows) Lines

-- the name that an option of a subcommand gives
abbrev pub name_met : Text → List Row → Option Name
name_met option rows = option_and_then name_in (first_of option rows)

-- the tenant and the label that the options give: both are to be there
abbrev pub partition_met : List Row → Option (Name × Label)
partition_met rows = option_zip (name_met (codes "tenant") rows) (option_and_then label_in (first_of (codes "label") rows))

-- what `tenant` asks for with its options
abbrev pub tenant_met : List Row → Option Kind
tenant_met rows = option_map (λ p. Sequential (Tenant p.0 p.1)) (partition_met rows)

-- what `evidence` asks for with its options
abbrev pub evidence_met : List Row → Option Kind
evidence_met rows = option_map (λ p. Sequential (Evidence p.0 p.1)) (partition_met rows)

-- whether an option is given
abbrev pub has_option : Text → List Row → Bool
has_option option rows = is_some (first_of option rows)

-- what `audit` asks for with its options: without tenant and label the audit of a journal, and else that of evidence, which no state goes with
abbrev pub audit_met : List Row → Option Kind
audit_met rows =
    if not (has_option (codes "tenant") rows) && not (has_option (codes "label") rows) then Some (Sequential Audit)
    else if has_option (codes "from") rows then None
    else option_map (λ p. Sequential (AuditEvidence p.0 p.1)) (partition_met rows)

-- whether an audit is given the tenant or the label alone
abbrev pub is_unpaired : Text × List Row → Bool
is_unpaired met =
    bytes_eq met.0 (codes "audit")
    && ((has_option (codes "tenant") met.1 && not (has_option (codes "label") met.1)) || (not (has_option (codes "tenant") met.1) && has_option (codes "label") met.1))

-- whether an audit of evidence is given a state to begin from
abbrev pub is_from_with_tenant : Text × List Row → Bool
is_from_with_tenant met =
    bytes_eq met.0 (codes "audit") && (has_option (codes "from") met.1 && has_option (codes "tenant") met.1)

-- a question on a tenant's application
abbrev pub question : Form → Name × Name → Question
question form names = record { tenant = names.0; app = names.1; form = form }

-- what `explain` asks for with its options
abbrev pub explain_met : List Row → Option Kind
explain_met rows =
    option_map (λ p. Sequential (Explain (question (form_met rows) p))) (option_zip (name_met (codes "tenant") rows) (name_met (codes "app") rows))

-- digits, at least one, that are the number of a `u64`
abbrev pub is_number : Text → Bool
is_number digits = nat_lt 0 (length digits) && all_ascii_digits digits && nat_lt (digits_value 10 digits) 18446744073709551616

-- the number that digits are
abbrev pub number_of : Text → Option ℕ
number_of digits = if is_number digits then Some (digits_value 10 digits) else None

-- the number that a text is, which may begin with a plus
abbrev pub number_in : Text → Option ℕ
number_in text = number_of (without_leading_plus text)

-- so many workers, where there may be so many
abbrev pub workers_of : ℕ → Option ℕ
workers_of n = if nat_le 1 n && nat_le n 64 then Some n else None

-- so many rounds, where there may be so many
abbrev pub rounds_of : ℕ → Option ℕ
rounds_of n = if nat_le n 1000 then Some n else None

-- the number of workers that a text is
abbrev pub workers_in : Text → Option ℕ
workers_in text = option_and_then workers_of (number_in text)

-- the number of rounds that a text is
abbrev pub rounds_in : Text → Option ℕ
rounds_in text = option_and_then rounds_of (number_in text)

-- what `live` asks for with its options
abbrev pub live_met : List Row → Option Kind
live_met rows =
    option_map (λ p. Live p.0 p.1) (option_zip (option_and_then workers_in (first_of (codes "workers") rows)) (option_and_then rounds_in (first_of (codes "rounds") rows)))

-- what `check` asks for with its options
abbrev pub check_met : List Row → Kind
check_met rows = Check (form_met rows)

-- what a subcommand asks for with its options
abbrev pub kind_met : Text × List Row → Option Kind
kind_met met =
    if bytes_eq met.0 (codes "tenant") then tenant_met met.1
    else if bytes_eq met.0 (codes "audit") then audit_met met.1
    else if bytes_eq met.0 (codes "evidence") then evidence_met met.1
    else if bytes_eq met.0 (codes "explain") then explain_met met.1
    else if bytes_eq met.0 (codes "save") then Some (Sequential Save)
    else if bytes_eq met.0 (codes "live") then live_met met.1
    else if bytes_eq met.0 (codes "check") then Some (check_met met.1)
    else Some (Sequential Run)

-- what the words ask for
abbrev pub kind_of : List Text → Option Kind
kind_of words = option_and_then kind_met (subcommand_of command words)

-- a subcommand was found, and what it is given for a name, a label or a number is none
abbrev pub HasBadName : List Text → Type 0
HasBadName words = (met : Text × List Row) × (subcommand_of command words ≡ Some met) × (kind_met met ≡ None)

-- a subcommand was found that is an audit, which is given the tenant or the label alone
abbrev pub IsUnpaired : List Text → Type 0
IsUnpaired words = (met : Text × List Row) × (subcommand_of command words ≡ Some met) × (is_unpaired met ≡ true)

-- a subcommand was found that is an audit of evidence, which is given a state to begin from
abbrev pub IsFromWithTenant : List Text → Type 0
IsFromWithTenant words = (met : Text × List Row) × (subcommand_of command words ≡ Some met) × (is_from_with_tenant met ≡ true)
