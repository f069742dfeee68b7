-- A share of an amount is at most the amount.
use Rattle.std.proofs.Common.{◌≡◌, ℕ, ◌*◌, ◌/◌, ◌≤◌, true, arith}
use Rattle.std.proofs.lemmas.Bool.Decides.{nat_tests}
use Rattle.ynl_resource.specs.Amounts.{fits_in}
use Rattle.ynl_resource.specs.declared.amounts.Resource.{Resource}
use Rattle.std.proofs.Math.Nat.{mul-le-mul_left}
use Rattle.std.proofs.Math.Nat.{div-le_of_le-mul}

pub share_small : (a n : ℕ) → n ≤ 10000 → a * n / 10000 ≤ a
share_small a n h = div-le_of_le-mul 10000 (omega (arith, mul-le-mul_left a h))

pub fits_chain : (a b c : Resource) → fits_in a b ≡ true → fits_in b c ≡ true → fits_in a c ≡ true
fits_chain a b c h k = grind (arith, nat_tests)
