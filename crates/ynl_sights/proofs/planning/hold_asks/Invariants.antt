use Rattle.std.proofs.Common.{take}
use Rattle.std.specs.Prelude.{flat_map}
use Rattle.ynl_sights.specs.Rows.{asks_at}
use Rattle.ynl_sights.specs.Planning.{HoldsFirst, open_in}
use Rattle.ynl_sights.proofs.planning.hold_asks.Given as goal

abbrev pub invariant-loop-leaf : goal.invariant-loop-leaf
invariant-loop-leaf l = HoldsFirst l.initial.held (open_in l.free (flat_map (asks_at l.label l.leaves) (take l.leaf-index l.all))) l.held
