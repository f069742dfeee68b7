use Rattle.std.proofs.Common.{map, take}
use Rattle.ynl_model.specs.declared.proposals.What.TheVariants.{Ask as Asked}
use Rattle.ynl_sights.specs.Rows.{offer_at}
use Rattle.ynl_sights.specs.Planning.{HoldsFirst, open_in}
use Rattle.ynl_sights.specs.declared.rows.Offered.{Offered}
use Rattle.ynl_sights.proofs.planning.hold_asks_of.Given as goal

abbrev pub invariant-loop-offered : goal.invariant-loop-offered
invariant-loop-offered l = HoldsFirst l.initial.held (open_in l.free (map (λ (o : Offered). offer_at l.leaves l.leaf (Asked l.label o.wanted.priority) o) (take l.offered-index l.asks))) l.held
