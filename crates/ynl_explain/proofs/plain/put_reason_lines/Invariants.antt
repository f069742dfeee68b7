use Rattle.std.proofs.Common.{◌≡◌, ◌++◌, take}
use Rattle.std.specs.List.{flat_map}
use Rattle.ynl_explain.specs.Sentences.{reason_line}
use Rattle.ynl_explain.proofs.plain.put_reason_lines.Given as goal

abbrev pub invariant-loop-reason : goal.invariant-loop-reason
invariant-loop-reason l = l.longer.items ≡ l.initial.longer.items ++ flat_map (reason_line l.request) (take l.reason-index l.reasons)
