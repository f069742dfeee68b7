use Rattle.std.proofs.Common.{take}
use Rattle.ynl_inventory.specs.layout.Paths.{IsNumberOf}
use Rattle.ynl_inventory.proofs.layout.layout.Layout.find.Given as goal

abbrev pub invariant-loop-name : goal.invariant-loop-name
invariant-loop-name l = IsNumberOf l.self (take l.name-index l.queue) l.at
