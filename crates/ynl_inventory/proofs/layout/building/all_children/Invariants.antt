use Rattle.ynl_inventory.specs.layout.Building.{paths_by}
use Rattle.ynl_inventory.specs.layout.Paths.{AreChildren, HasNumber}
use Rattle.ynl_inventory.proofs.layout.Filled.{Hold}
use Rattle.ynl_inventory.proofs.layout.building.all_children.Given as goal

abbrev pub invariant-loop-queue : goal.invariant-loop-queue
invariant-loop-queue l = Hold (λ n list. HasNumber (paths_by l.lines l.names) n → AreChildren (paths_by l.lines l.names) n list.items) l.queue l.all.items
