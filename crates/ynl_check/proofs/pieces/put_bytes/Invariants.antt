use Rattle.std.proofs.Common.{◌≡◌, ◌++◌, replicate}
use Rattle.ynl_check.proofs.pieces.put_bytes.Given as goal

abbrev pub invariant-loop-i : goal.invariant-loop-i
invariant-loop-i l = l.text.items ≡ l.initial.text.items ++ replicate l.i l.byte
