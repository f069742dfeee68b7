use Rattle.std.proofs.Common.{◌≡◌, take}
use Rattle.ynl_packed.proofs.entries.Entries.to_vec.Given as goal

abbrev pub invariant-loop-i : goal.invariant-loop-i
invariant-loop-i l = l.list.items ≡ take l.i l.self
