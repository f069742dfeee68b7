-- Numbers that are divided and rounded up.
use Rattle.std.proofs.Common.{◌≡◌, ℕ, suc, ◌+◌, ◌-◌, ◌*◌, ◌/◌, ◌<◌, ◌≤◌, max, subst, ◌∙◌, lit≤, arith}
use Rattle.std.specs.Prelude.{nat_le, nat_lt, ◌||◌}
use Rattle.std.proofs.lemmas.Bool.Decides.{nat_tests}
use Rattle.std.proofs.Math.Nat.{div-lt_iff_lt-mul, le-div_iff_mul-le}
use Rattle.std.proofs.lemmas.Grind.{div_ceil_times}
use Rattle.std.specs.Int.{div_ceil}
use Rattle.ynl_resource.specs.Amounts.{ceil_of}
use Rattle.ynl_resource.specs.Ranges.{whole}
use Rattle.ynl_search.specs.limits.Shares.{share_of}

-- a quotient that is rounded up, in two ways
pub ceil_alike : (x m d : ℕ) → 1 ≤ d → div_ceil (x * m) d ≡ ceil_of x m d
ceil_alike x m d some =
    let q : ℕ = div_ceil (x * m) d in
    let low : x * m ≤ q * d = (div_ceil_times (x * m) d some).0 in
    let high : q * d < x * m + d = (div_ceil_times (x * m) d some).1 in
    let below : x * m + (d - 1) < (q + 1) * d = omega (arith, low, some) in
    let above : q * d ≤ x * m + (d - 1) = omega (arith, high, some) in
    let most : (x * m + (d - 1)) / d < q + 1 = (div-lt_iff_lt-mul some).1 below in
    let least : q ≤ (x * m + (d - 1)) / d = (le-div_iff_mul-le some).1 above in
    omega (arith, most, least)

-- what is not 0 is at most a quotient that is rounded up where one less is below it before
within_ceil : (y x m d : ℕ) → 1 ≤ d → y * d < x * m → suc y ≤ ceil_of x m d
within_ceil y x m d some below =
    let times : suc y * d ≤ x * m + (d - 1) = omega (arith, below, some) in
    (le-div_iff_mul-le some).1 times

-- and only there
below_ceil : (y x m d : ℕ) → 1 ≤ d → suc y ≤ ceil_of x m d → y * d < x * m
below_ceil y x m d some within =
    let times : suc y * d ≤ x * m + (d - 1) = (le-div_iff_mul-le some).0 within in
    omega (arith, times, some)

tests_alike : (y x m d : ℕ) → 1 ≤ d → nat_lt (y * d) (x * m) ≡ nat_le (suc y) (ceil_of x m d)
tests_alike y x m d some = grind (arith, nat_tests, within_ceil y x m d some, below_ceil y x m d some)

either : (x a b : ℕ) → (nat_le x a || nat_le x b) ≡ nat_le x (max a b)
either x a b = grind (arith, nat_tests)

shares_alike : (less base users percent : ℕ) → 1 ≤ users → (nat_lt (less * users) (base * 1) || nat_lt (less * whole) (base * percent)) ≡ nat_le (suc less) (share_of base users percent)
shares_alike less base users percent some =
    (λ i. tests_alike less base 1 users some i || tests_alike less base percent whole (lit≤ tt) i)
    ∙ either (suc less) (ceil_of base 1 users) (ceil_of base percent whole)

-- so whether something is at most a share is known with no division
pub within_share : (used less base users percent : ℕ) → 1 ≤ users → suc less ≡ used → (nat_lt (less * users) base || nat_lt (less * whole) (base * percent)) ≡ nat_le used (share_of base users percent)
within_share used less base users percent some is =
    let one : base * 1 ≡ base = omega arith in
    subst (λ (u : ℕ). (nat_lt (less * users) base || nat_lt (less * whole) (base * percent)) ≡ nat_le u (share_of base users percent)) is
    (subst (λ (b : ℕ). (nat_lt (less * users) b || nat_lt (less * whole) (base * percent)) ≡ nat_le (suc less) (share_of base users percent)) one
    (shares_alike less base users percent some))
