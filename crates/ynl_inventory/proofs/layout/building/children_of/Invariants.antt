use Rattle.ynl_inventory.specs.layout.Building.{AreChildrenUpTo, paths_by}
use Rattle.ynl_inventory.proofs.layout.building.children_of.Given as goal

abbrev pub invariant-loop-child : goal.invariant-loop-child
invariant-loop-child l = AreChildrenUpTo (paths_by l.lines l.names) l.queue l.child l.children.items
