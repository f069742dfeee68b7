use Rattle.std.proofs.Common.{◌≡◌, ◌++◌, take}
use Rattle.ynl_packed.proofs.pieces.Pieces.append.Given as goal

abbrev pub invariant-loop-i : goal.invariant-loop-i
invariant-loop-i l = l.self ≡ l.fn.self ++ take l.i l.others
