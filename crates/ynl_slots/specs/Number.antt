-- The number of a row, or of none.
use Rattle.std.proofs.Common.{◌≡◌, ℕ, ◌-◌, ◌^◌, Bool, true, false, cond, nat_eq, Option, Some, None, if◌then◌else◌, refl, ap, arith}
use Rattle.std.proofs.lemmas.Bool.Decides.{nat_tests}
use Rattle.ynl_slots.specs.declared.number.MaybeRow.TheInside.{Inside}

-- a number, or none for the one that no slot has
abbrev pub number_of : ℕ → Option ℕ
number_of n = if nat_eq n (2 ^ 32 - 1) then None else Some n

-- what stands in the four bytes
abbrev pub standing_for : Option ℕ → ℕ
standing_for None = 2 ^ 32 - 1
standing_for (Some n) = n

abbrev pub shown : Inside → Option ℕ
shown a = number_of a.number

abbrev pub fields_of : Option ℕ → Inside
fields_of o = record { number = standing_for o }

pub fields_back : (a : Inside) → fields_of (shown a) ≡ a
fields_back a = go (nat_eq a.number (2 ^ 32 - 1)) refl
  where
    go : (b : Bool) → nat_eq a.number (2 ^ 32 - 1) ≡ b → fields_of (cond b None (Some a.number)) ≡ a
    go true is = let same : 2 ^ 32 - 1 ≡ a.number = grind (arith, nat_tests) in ap (λ n. record { number = n }) same
    go false is = refl
