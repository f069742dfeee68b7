use Rattle.std.proofs.Common.{◌≡◌, ◌++◌, take}
use Rattle.std.specs.List.{flat_map}
use Rattle.ynl_explain.specs.Told.{wait_line}
use Rattle.ynl_explain.proofs.telling.with_lines.Given as goal

abbrev pub invariant-loop-wait : goal.invariant-loop-wait
invariant-loop-wait l = l.longer.items ≡ l.initial.longer.items ++ flat_map (wait_line l.tenant l.app) (take l.wait-index l.waits)
