use Rattle.std.proofs.Common.{◌≡◌, length, take}
use Rattle.ynl_journal.proofs.comparing.is_same_pending.Given as goal

abbrev pub invariant-loop-i : goal.invariant-loop-i
invariant-loop-i l = (length l.given ≡ length l.list) × (take l.i l.given ≡ take l.i l.list)
