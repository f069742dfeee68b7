use Rattle.std.proofs.Common.{◌≡◌, true, false, is_some, IfErr, Some, None, rules, map, option_and_then, string_bytes, ap, sym, subst, ◌∙◌}
use Rattle.std.proofs.lemmas.Result.{err_from_is_err_and}
use Rattle.ynl_words.specs.declared.words.WordsFault.TheVariants.{Words, NoMemory}
use Rattle.clap.specs.Values.{kind_of}
use Rattle.clap.specs.Kinds.{HasKind, IsAmong}
use Rattle.clap.specs.Faults.{fault_of, is_simple_and_free}
use Rattle.clap.specs.declared.error.Error.{Error}
use Rattle.clap.specs.Takes.{takes}
use Rattle.clap.specs.Words.{found_of, rows_of}
use Rattle.ynl_words.specs.declared.words.Kind.TheVariants.{Sequential}
use Rattle.ynl_words.specs.declared.words.SequentialKind.TheVariants.{Run}
use Rattle.ynl_words.specs.Words.{command, kind_met, file_met, from_met, kind_of as words_kind}
use Rattle.ynl_words.proofs.Commands.{taken, command_free, wants_memory, told_by_kind, asks_run, met_of, unpaired-none, from_with_tenant-none}
use Rattle.ynl_words.proofs.words.parse_words.Goals as goal

pub returns-in_err-matches-clause-run : goal.returns-in_err-matches-clause-run
returns-in_err-matches-clause-run c = λ same.
    let words = map string_bytes c.args.words.now in
    let kind = c.in_err-matches.ensures.passes (ap (λ a. takes a words) c.in_ok-command.ensures.app ∙ taken words same) in
    let p = err_from_is_err_and c.from_residual-in_err-matches.result c.from_residual-in_err-matches.ensures.1 in
    subst (λ r. IfErr r (λ e. e ≡ NoMemory)) (sym p.1) (wants_memory _ _ p.2 kind)

pub returns-in_err-matches-clause-good : goal.returns-in_err-matches-clause-good
returns-in_err-matches-clause-good c = λ good known.
    let words = map string_bytes c.args.words.now in
    let kind = c.in_err-matches.ensures.passes (ap (λ a. takes a words) c.in_ok-command.ensures.app ∙ good) in
    let p = err_from_is_err_and c.from_residual-in_err-matches.result c.from_residual-in_err-matches.ensures.1 in
    subst (λ r. IfErr r (λ e. e ≡ NoMemory)) (sym p.1) (wants_memory _ _ p.2 kind)

pub returns-in_err-matches-clause-words : goal.returns-in_err-matches-clause-words
returns-in_err-matches-clause-words c =
    let words = map string_bytes c.args.words.now in
    let kinds = c.in_err-matches.ensures.kinds (ap is_simple_and_free c.in_ok-command.ensures.app ∙ command_free) in
    let among = subst (λ a. HasKind (fault_of a words) c.in_err-matches.field-0.0) c.in_ok-command.ensures.app kinds in
    let p = err_from_is_err_and c.from_residual-in_err-matches.result c.from_residual-in_err-matches.ensures.1 in
    subst (λ r. IfErr r (λ e. (error : Error) → e ≡ Words error → IsAmong (kind_of error) (fault_of command words))) (sym p.1)
    (λ error is. told_by_kind _ _ error (fault_of command words) p.2 is among)

pub returns-in_default-clause-bad : goal.returns-in_default-clause-bad
returns-in_default-clause-bad c = λ _.
    let words = map string_bytes c.args.words.now in
    let met = met_of _ words c.in_ok-matches.matches _ _ c.in_ok-command.ensures.app c.in_ok-matches.ensures.matches c.in-Some.ensures.name c.in-Some.ensures.rows in
    let none : c.kind_of.result ≡ None = search rules in
    ((c.in-Some.name.now, rows_of (found_of c.in-Some.options.now)), met, sym c.kind_of.ensures ∙ none)

pub returns-in_default-clause-run : goal.returns-in_default-clause-run
returns-in_default-clause-run c = λ same.
    let words = map string_bytes c.args.words.now in
    let met = met_of _ words c.in_ok-matches.matches _ _ c.in_ok-command.ensures.app c.in_ok-matches.ensures.matches c.in-Some.ensures.name c.in-Some.ensures.rows in
    let none : c.kind_of.result ≡ None = search rules in
    let asked : None ≡ Some (Sequential Run) = sym none ∙ c.kind_of.ensures ∙ ap (option_and_then kind_met) (sym met) ∙ asks_run words same in
    absurd (cc)

pub returns-clause-file : goal.returns-clause-file
returns-clause-file c =
    let words = map string_bytes c.args.words.now in
    let met = met_of _ words c.in_ok-matches.matches _ _ c.in_ok-command.ensures.app c.in_ok-matches.ensures.matches c.in-Some.ensures.name c.in-Some.ensures.rows in
    c.value_in-config.ensures ∙ ap (option_and_then file_met) (sym met)

pub returns-clause-from : goal.returns-clause-from
returns-clause-from c =
    let words = map string_bytes c.args.words.now in
    let met = met_of _ words c.in_ok-matches.matches _ _ c.in_ok-command.ensures.app c.in_ok-matches.ensures.matches c.in-Some.ensures.name c.in-Some.ensures.rows in
    c.value_in-from.ensures ∙ ap (option_and_then from_met) (sym met)

pub returns-in_default-clause-good : goal.returns-in_default-clause-good
returns-in_default-clause-good c = λ good known.
    let words = map string_bytes c.args.words.now in
    let met = met_of _ words c.in_ok-matches.matches _ _ c.in_ok-command.ensures.app c.in_ok-matches.ensures.matches c.in-Some.ensures.name c.in-Some.ensures.rows in
    let none : c.kind_of.result ≡ None = search rules in
    let asked : words_kind words ≡ None = ap (option_and_then kind_met) met ∙ sym c.kind_of.ensures ∙ none in
    let no : false ≡ true = sym (ap is_some asked) ∙ known in
    absurd (cc)

pub returns-clause-kind : goal.returns-clause-kind
returns-clause-kind c =
    let words = map string_bytes c.args.words.now in
    let met = met_of _ words c.in_ok-matches.matches _ _ c.in_ok-command.ensures.app c.in_ok-matches.ensures.matches c.in-Some.ensures.name c.in-Some.ensures.rows in
    ap (option_and_then kind_met) met ∙ sym c.kind_of.ensures ∙ c.in-Some-kind_of.is

-- ---- the tenant or the label alone

pub returns-then-is_unpaired-clause-unpaired : goal.returns-then-is_unpaired-clause-unpaired
returns-then-is_unpaired-clause-unpaired c = λ _.
    let words = map string_bytes c.args.words.now in
    let met = met_of _ words c.in_ok-matches.matches _ _ c.in_ok-command.ensures.app c.in_ok-matches.ensures.matches c.in-Some.ensures.name c.in-Some.ensures.rows in
    ((c.in-Some.name.now, rows_of (found_of c.in-Some.options.now)), met, sym c.is_unpaired.ensures ∙ c.if-is_unpaired.true)

pub returns-then-is_unpaired-clause-good : goal.returns-then-is_unpaired-clause-good
returns-then-is_unpaired-clause-good c = λ good known.
    let words = map string_bytes c.args.words.now in
    let met = met_of _ words c.in_ok-matches.matches _ _ c.in_ok-command.ensures.app c.in_ok-matches.ensures.matches c.in-Some.ensures.name c.in-Some.ensures.rows in
    let asked : words_kind words ≡ None = ap (option_and_then kind_met) met ∙ unpaired-none (c.in-Some.name.now, rows_of (found_of c.in-Some.options.now)) (sym c.is_unpaired.ensures ∙ c.if-is_unpaired.true) in
    let no : false ≡ true = sym (ap is_some asked) ∙ known in
    absurd (cc)

pub returns-then-is_unpaired-clause-run : goal.returns-then-is_unpaired-clause-run
returns-then-is_unpaired-clause-run c = λ same.
    let words = map string_bytes c.args.words.now in
    let met = met_of _ words c.in_ok-matches.matches _ _ c.in_ok-command.ensures.app c.in_ok-matches.ensures.matches c.in-Some.ensures.name c.in-Some.ensures.rows in
    let none : words_kind words ≡ None = ap (option_and_then kind_met) met ∙ unpaired-none (c.in-Some.name.now, rows_of (found_of c.in-Some.options.now)) (sym c.is_unpaired.ensures ∙ c.if-is_unpaired.true) in
    let asked : None ≡ Some (Sequential Run) = sym none ∙ asks_run words same in
    absurd (cc)

-- ---- an audit of evidence from a state

pub returns-then-is_from_with_tenant-clause-mixed : goal.returns-then-is_from_with_tenant-clause-mixed
returns-then-is_from_with_tenant-clause-mixed c = λ _.
    let words = map string_bytes c.args.words.now in
    let met = met_of _ words c.in_ok-matches.matches _ _ c.in_ok-command.ensures.app c.in_ok-matches.ensures.matches c.in-Some.ensures.name c.in-Some.ensures.rows in
    ((c.in-Some.name.now, rows_of (found_of c.in-Some.options.now)), met, sym c.is_from_with_tenant.ensures ∙ c.if-is_from_with_tenant.true)

pub returns-then-is_from_with_tenant-clause-good : goal.returns-then-is_from_with_tenant-clause-good
returns-then-is_from_with_tenant-clause-good c = λ good known.
    let words = map string_bytes c.args.words.now in
    let met = met_of _ words c.in_ok-matches.matches _ _ c.in_ok-command.ensures.app c.in_ok-matches.ensures.matches c.in-Some.ensures.name c.in-Some.ensures.rows in
    let asked : words_kind words ≡ None = ap (option_and_then kind_met) met ∙ from_with_tenant-none (c.in-Some.name.now, rows_of (found_of c.in-Some.options.now)) (sym c.is_from_with_tenant.ensures ∙ c.if-is_from_with_tenant.true) in
    let no : false ≡ true = sym (ap is_some asked) ∙ known in
    absurd (cc)

pub returns-then-is_from_with_tenant-clause-run : goal.returns-then-is_from_with_tenant-clause-run
returns-then-is_from_with_tenant-clause-run c = λ same.
    let words = map string_bytes c.args.words.now in
    let met = met_of _ words c.in_ok-matches.matches _ _ c.in_ok-command.ensures.app c.in_ok-matches.ensures.matches c.in-Some.ensures.name c.in-Some.ensures.rows in
    let none : words_kind words ≡ None = ap (option_and_then kind_met) met ∙ from_with_tenant-none (c.in-Some.name.now, rows_of (found_of c.in-Some.options.now)) (sym c.is_from_with_tenant.ensures ∙ c.if-is_from_with_tenant.true) in
    let asked : None ≡ Some (Sequential Run) = sym none ∙ asks_run words same in
    absurd (cc)
