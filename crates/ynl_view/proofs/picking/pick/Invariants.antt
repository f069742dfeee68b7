use Rattle.std.proofs.Common.{◌≡◌, take, map, Some}
use Rattle.ynl_model.specs.View.{at_places}
use Rattle.ynl_view.proofs.picking.pick.Given as goal

abbrev pub invariant-loop-place : goal.invariant-loop-place
invariant-loop-place l = map (λ answer. Some answer) l.picked.items ≡ at_places l.answers (take l.place-index l.places)
