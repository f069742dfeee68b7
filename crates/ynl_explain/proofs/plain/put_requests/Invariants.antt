use Rattle.std.proofs.Common.{◌≡◌, ◌++◌, take}
use Rattle.std.specs.List.{flat_map}
use Rattle.ynl_explain.specs.Sentences.{plain_lines}
use Rattle.ynl_explain.proofs.plain.put_requests.Given as goal

abbrev pub invariant-loop-wait : goal.invariant-loop-wait
invariant-loop-wait l = l.longer.items ≡ l.initial.longer.items ++ flat_map (plain_lines l.tenant l.app) (take l.wait-index l.waits)
