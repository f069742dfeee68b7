use Rattle.ynl_slots.proofs.Walks.{IsWalk, left_from}
use Rattle.ynl_slots.proofs.slots.Slots.copies.Given as goal

-- those before the next are listed
abbrev pub invariant-loop-next : goal.invariant-loop-next
invariant-loop-next g l = IsWalk (λ e. e.1) l.self.entries l.next l.rows.items

-- one less is left
abbrev pub decreases-loop-next : goal.decreases-loop-next
decreases-loop-next g l = left_from l.next l.self.entries
