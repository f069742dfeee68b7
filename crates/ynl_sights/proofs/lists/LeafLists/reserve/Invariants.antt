use Rattle.std.proofs.Common.{◌≡◌, ℕ, ◌+◌, ◌-◌, length}
use Rattle.ynl_sights.specs.Lists.{kept_at}
use Rattle.ynl_sights.proofs.lists.LeafLists.reserve.Given as goal

abbrev pub invariant-loop-self : goal.invariant-loop-self
invariant-loop-self l = (r q : ℕ) → kept_at l.self r q ≡ kept_at l.initial.self r q

abbrev pub decreases-loop-self : goal.decreases-loop-self
decreases-loop-self l = l.leaf + 1 - length l.self.rows.items
