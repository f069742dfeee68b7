use Rattle.std.proofs.Common.{map, take}
use Rattle.ynl_model.specs.declared.proposals.What.TheVariants.{Master}
use Rattle.ynl_sights.specs.Rows.{offer_at}
use Rattle.ynl_sights.specs.Planning.{HoldsFirst, open_in}
use Rattle.ynl_sights.proofs.planning.hold_masters_of.Given as goal

abbrev pub invariant-loop-offered : goal.invariant-loop-offered
invariant-loop-offered l = HoldsFirst l.initial.held (open_in l.free (map (offer_at l.leaves l.leaf Master) (take l.offered-index l.masters))) l.held
