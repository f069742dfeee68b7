use Rattle.std.proofs.Common.{◌≡◌, ℕ, ◌+◌, ◌-◌, length}
use Rattle.ynl_sights.specs.Lists.{slot_at}
use Rattle.ynl_sights.proofs.lists.reserve_in.Given as goal

abbrev pub invariant-loop-row : goal.invariant-loop-row
invariant-loop-row l = (r : ℕ) → slot_at l.row.items r ≡ slot_at l.initial.row.items r

abbrev pub decreases-loop-row : goal.decreases-loop-row
decreases-loop-row l = l.p + 1 - length l.row.items
