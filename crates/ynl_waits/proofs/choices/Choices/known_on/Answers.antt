use Rattle.std.proofs.Common.{List, refl, sym, subst, ◌∙◌}
use Rattle.std.proofs.lemmas.Option.{slice_get_read}
use Rattle.std.specs.List.{AllByRecursion}
use Rattle.ynl_waits.specs.Choices.{IsChoice}
use Rattle.ynl_waits.specs.declared.choices.Choice.{Choice}
use Rattle.ynl_waits.proofs.Shared.{all_got, row-tells}
use Rattle.ynl_waits.proofs.choices.Choices.known_on.Goals as goal

pub returns-then-is_for : goal.returns-then-is_for
returns-then-is_for c config s known is =
    let row : Choice = c.in_ok-row.row.now in
    let rows : List Choice = c.deref.result.now in
    let place = c.in_ok-place.field-0.now in
    let all = subst (λ (xs : List Choice). AllByRecursion (IsChoice config s) xs) (sym c.deref.ensures.value) known in
    let look = c.in_ok-row.ensures.lookup in
    c.moved.ensures ∙ row-tells config s row c.args.spot.now (all_got (IsChoice config s) rows place row all (slice_get_read rows _ place row refl look.3.0 look.1)) (sym c.is_for.ensures ∙ c.if-is_for.true) is
