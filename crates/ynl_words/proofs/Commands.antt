-- Which words the command takes, and what they ask for.
use Rattle.std.proofs.Common.{ℕ, ◌<◌, ◌^◌, Bool, false, length, Result, Ok, Err, arith, ◌≡◌, ◌≢◌, ◌⊎◌, inl, inr, subst, ◌&&◌, ◌||◌, not, is_some, ◌∙◌, true, cond, List, [], ◌∷◌, Option, Some, None, codes, drop, refl, sym, ap, option_map, option_and_then}
use Rattle.std.specs.Prelude.{Box}
use Rattle.std.specs.Box.{box_value}
use Rattle.std.specs.Cmp.Lexicographic.{bytes_decides}
use Rattle.std.specs.Option.{option_zip}
use Rattle.std.specs.Str.{bytes_eq}
use Rattle.std.proofs.lemmas.Bool.{and_parts}
use mathlib.Core.Bool.{true≢false}
use Rattle.ynl_resource.specs.declared.names.Name.{Name}
use Rattle.ynl_resource.specs.declared.labels.Label.{Label}
use Rattle.std.specs.Str.{all_ascii_digits}
use Rattle.std.specs.Str.Parse.{digits_value, IsNumeral}
use Rattle.std.specs.Result.{OkIff, result_ok}
use Rattle.std.proofs.lemmas.Bool.Decides.{nat_tests}
use Rattle.std.proofs.lemmas.Str.Parse.{IsNumeralModel, numerals_by_value, tells_all_ascii_digits}
use Rattle.clap.specs.Walk.{Text, Row, first_of, nothing_held, stop_after}
use Rattle.clap.specs.Simple.{built, entered, is_simple, names_of, subcommand_rows}
use Rattle.clap.specs.Takes.{takes, built_takes}
use Rattle.clap.specs.Faults.{is_simple_and_free}
use Rattle.clap.specs.Kinds.{Kinds, HasKind, IsAmong}
use Rattle.clap.specs.Values.{kind_of as error_kind}
use Rattle.clap.specs.declared.error.Error.{Error}
use Rattle.clap.specs.declared.error.kind.ErrorKind.TheVariants.{OutOfMemory}
use Rattle.clap.specs.Words.{App, HasMatchesOf, subcommand_name_of, subcommand_of, subcommand_rows_of}
use Rattle.clap.specs.declared.parser.matches.ArgMatches.{ArgMatches}
use Rattle.clap.specs.declared.parser.matches.ArgMatches.TheViews.{out-SubCommand}
use Rattle.clap.specs.declared.parser.matches.SubCommand.{SubCommand}
use Rattle.clap.proofs.OnLiterals.{clap_on_literals}
use Rattle.ynl_words.specs.declared.words.Kind.{Kind}
use Rattle.ynl_words.specs.declared.words.Kind.TheVariants.{Sequential}
use Rattle.ynl_words.specs.declared.words.SequentialKind.TheVariants.{Run, Audit, AuditEvidence}
use Rattle.ynl_words.specs.declared.words.WordsFault.{WordsFault}
use Rattle.ynl_words.specs.declared.words.WordsFault.TheVariants.{Words, NoMemory}
use Rattle.ynl_words.specs.Words.{command, has_option, is_from_with_tenant, is_number, is_unpaired, label_in, name_in, number_of, kind_met, kind_of}

pub taken : (words : List Text) → drop 1 words ≡ codes "run" ∷ [] → takes command words ≡ true
unfolding clap_on_literals
taken words same = ap (λ rest. is_simple command && built_takes (built command) nothing_held rest) same

pub command_simple : is_simple command ≡ true
unfolding clap_on_literals
command_simple = refl

pub command_free : is_simple_and_free command ≡ true
unfolding clap_on_literals
command_free = refl

-- ---- what is told of an error

-- what `clap`'s error becomes
abbrev Becomes : Error → WordsFault → Type 0
Becomes error e = ((error_kind error ≡ OutOfMemory) × (e ≡ NoMemory)) ⊎ ((error_kind error ≢ OutOfMemory) × (e ≡ Words error))

pub wants_memory : (error : Error) (e : WordsFault) → Becomes error e → error_kind error ≡ OutOfMemory → e ≡ NoMemory
wants_memory error e (inl h) kind = h.1
wants_memory error e (inr h) kind = absurd (h.0 kind)

-- an error that is told has a kind that was found
pub told_by_kind : (found : Error) (e : WordsFault) (error : Error) (kinds : Kinds) → Becomes found e → e ≡ Words error → HasKind kinds found → IsAmong (error_kind error) kinds
told_by_kind found e error kinds (inl h) is among = absurd (let none = sym h.1 ∙ is in cc)
told_by_kind found e error kinds (inr h) is (inl memory) = absurd (h.0 memory)
told_by_kind found e error kinds (inr h) is (inr among) =
    let same : found ≡ error = let told = sym h.1 ∙ is in cc in
    subst (λ x. IsAmong (error_kind x) kinds) same among

-- ---- numbers

-- digits by their test
own : IsNumeralModel (λ ds. all_ascii_digits ds ≡ true) (digits_value 10)
own = numerals_by_value _ tells_all_ascii_digits

-- what `parse` reads is the number that the digits are
pub number_told : {E : Type 0} (ds : List ℕ) (r : Result ℕ E) → OkIff r (IsNumeral 10 ds × (digits_value 10 ds < 2 ^ 64)) (digits_value 10 ds) → result_ok r ≡ number_of ds
number_told ds (Ok n) h =
    let digits = own.from ds h.0.0.1 in
    let some = h.0.0.0 in
    let fits = h.0.1 in
    let test : is_number ds ≡ true = grind (arith, nat_tests) in
    ap Some h.1 ∙ sym (ap (λ b. cond b (Some (digits_value 10 ds)) None) test)
number_told ds (Err e) h = refused (is_number ds) refl
  where
    refused : (b : Bool) → is_number ds ≡ b → None ≡ cond b (Some (digits_value 10 ds)) None
    refused true test =
        let parts : (0 < length ds) × (all_ascii_digits ds ≡ true) × (digits_value 10 ds < 2 ^ 64) = grind (arith, nat_tests) in
        absurd (h ((parts.0, own.to ds parts.1), parts.2))
    refused false test = refl

-- `run` alone asks for a run
pub asks_run : (words : List Text) → drop 1 words ≡ codes "run" ∷ [] → kind_of words ≡ Some (Sequential Run)
unfolding clap_on_literals
asks_run words same =
    ap (λ rest. option_and_then kind_met (entered (built command) (stop_after (built command).top.rules (names_of (built command)) rest))) same

-- the subcommand that was met, by its name and its rows
pub met_is : {Z : Type 0} (x : Option (Box SubCommand Z)) (name : Text) (rows : List Row) → Some name ≡ option_map (λ b. (out-SubCommand (box_value b)).name.now) x → Some rows ≡ option_map (λ p. p.1) (subcommand_rows x)
    → subcommand_rows x ≡ Some (name, rows)
met_is None name rows p q = absurd (cc)
met_is (Some b) name rows p q = cc

-- the same of the words
pub met_of : (a : App) (words : List Text) (m : ArgMatches) (name : Text) (rows : List Row) → a ≡ command → HasMatchesOf a words m → Some name ≡ subcommand_name_of m
    → Some rows ≡ option_map (λ p. p.1) (subcommand_rows_of m) → subcommand_of command words ≡ Some (name, rows)
met_of a words m name rows same matches named given =
    ap (λ b. subcommand_of b words) (sym same) ∙ sym (matches (ap is_simple same ∙ command_simple)).1 ∙ met_is _ name rows named given

-- ---- an audit of one option alone

zip-none : (o : Option Name) → option_map (λ (p : Name × Label). Sequential (AuditEvidence p.0 p.1)) (option_zip o None) ≡ None
zip-none None = refl
zip-none (Some name) = refl

-- what an audit asks for, by its tenant, its label and whether it is given a state
abbrev audit-asked : Option Text → Option Text → Bool → Option Kind
audit-asked a b from =
    cond (not (is_some a) && not (is_some b)) (Some (Sequential Audit)) (cond from None (option_map (λ (p : Name × Label). Sequential (AuditEvidence p.0 p.1)) (option_zip (option_and_then name_in a) (option_and_then label_in b))))

-- with the tenant or the label alone an audit asks for nothing
audit-none : (a b : Option Text) (from : Bool) → ((is_some a && not (is_some b)) || (not (is_some a) && is_some b)) ≡ true → audit-asked a b from ≡ None
audit-none None None from h = absurd (true≢false (sym h))
audit-none (Some x) None true h = refl
audit-none (Some x) None false h = zip-none (name_in x)
audit-none None (Some y) true h = refl
audit-none None (Some y) false h = refl
audit-none (Some x) (Some y) from h = absurd (true≢false (sym h))

-- the same of the words' subcommand
pub unpaired-none : (met : Text × List Row) → is_unpaired met ≡ true → kind_met met ≡ None
unpaired-none met h =
    let parts = and_parts (bytes_eq met.0 (codes "audit")) ((has_option (codes "tenant") met.1 && not (has_option (codes "label") met.1)) || (not (has_option (codes "tenant") met.1) && has_option (codes "label") met.1)) h in
    let named : met.0 ≡ codes "audit" = (bytes_decides met.0 (codes "audit")).0 parts.0 in
    ap (λ (name : Text). kind_met (name, met.1)) named ∙ audit-none (first_of (codes "tenant") met.1) (first_of (codes "label") met.1) (has_option (codes "from") met.1) parts.1

-- ---- an audit of evidence from a state

-- with a state and the tenant an audit asks for nothing
from-none : (a b : Option Text) (from : Bool) → (from && is_some a) ≡ true → audit-asked a b from ≡ None
from-none a b false h = absurd (true≢false (sym h))
from-none None b true h = absurd (true≢false (sym h))
from-none (Some x) b true h = refl

-- the same of the words' subcommand
pub from_with_tenant-none : (met : Text × List Row) → is_from_with_tenant met ≡ true → kind_met met ≡ None
from_with_tenant-none met h =
    let parts = and_parts (bytes_eq met.0 (codes "audit")) (has_option (codes "from") met.1 && has_option (codes "tenant") met.1) h in
    let named : met.0 ≡ codes "audit" = (bytes_decides met.0 (codes "audit")).0 parts.0 in
    ap (λ (name : Text). kind_met (name, met.1)) named ∙ from-none (first_of (codes "tenant") met.1) (first_of (codes "label") met.1) (has_option (codes "from") met.1) parts.1
