-- Headroom, by parts.
use Rattle.std.proofs.Common.{◌≡◌, ℕ, ◌+◌, ◌-◌, min, arith}
use Rattle.std.specs.Prelude.{nat_le, ◌&&◌}
use Rattle.std.proofs.lemmas.Bool.Decides.{nat_tests}

pub opened_room : (u m s : ℕ) → nat_le (u + s) m ≡ (nat_le u m && nat_le s (m - u))
opened_room u m s = grind (arith, nat_tests)

pub both_rooms : (a b s : ℕ) → nat_le s (min a b) ≡ (nat_le s a && nat_le s b)
both_rooms a b s = grind (arith, nat_tests)
