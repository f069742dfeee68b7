use Rattle.std.proofs.Common.{◌≡◌, ℕ, ◌<◌, length, get_or}
use Rattle.std.specs.Prelude.{map}
use Rattle.ynl_live.proofs.matching.is_one_for_each.Given as goal

abbrev pub invariant-loop-i : goal.invariant-loop-i
invariant-loop-i l = (k : ℕ) → k < l.i → get_or (map (λ v. length v) l.lists) k 0 ≡ get_or (map (λ s. s.calls) l.seats) k 0
