use Rattle.std.proofs.Common.{◌≡◌, true, Ok, Some, IfOk, rules, subst, sym}
use Rattle.toml.specs.View.{table_view}
use Rattle.ynl_model.specs.Accepted.{is_accepted}
use Rattle.ynl_config.specs.Earliest.{ConfigFault}
use Rattle.ynl_config.specs.Meaning.{reading, config_of}
use Rattle.ynl_config.specs.Places.{place_of}
use Rattle.ynl_config.specs.Misplaced.{told_place}
use Rattle.ynl_config.proofs.Placed.{told}
use Rattle.ynl_config.proofs.Ranges.{accepted_if}
use Rattle.ynl_config.proofs.check.check_config.Goals as goal

pub returns-in-Ok-clause-accepted : goal.returns-in-Ok-clause-accepted
unfolding config_of
returns-in-Ok-clause-accepted c =
    let means : Ok c.in-Ok.config ≡ config_of c.args.text.now = search rules in
    subst (λ r. IfOk r (λ config. is_accepted config ≡ true)) (sym means) (accepted_if c.args.text.now)

pub returns-clause-place : goal.returns-clause-place
returns-clause-place c =
    let m = c.in_ok-misplaced-in-Err.field-0 in
    let ms = table_view c.in-Some.table in
    let read : reading c.args.text.now ≡ Some ms = search rules in
    subst (λ (found : ConfigFault). place_of m.place ≡ told_place m.place.line found c.args.text.now) (sym c.in_ok-misplaced-in-Err.ensures.fault)
    (told c.in-Err.fault c.args.text.now ms (place_of m.place) read c.in_ok-misplaced-in-Err.ensures.place)
