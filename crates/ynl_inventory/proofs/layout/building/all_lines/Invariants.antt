use Rattle.std.proofs.Common.{◌+◌}
use Rattle.ynl_inventory.proofs.layout.Lines.{HasLine}
use Rattle.ynl_inventory.proofs.layout.Filled.{Hold}
use Rattle.ynl_inventory.proofs.layout.building.all_lines.Given as goal

abbrev pub invariant-loop-place : goal.invariant-loop-place
invariant-loop-place l = Hold (HasLine l.config) (l.place + 1) l.lines.items
