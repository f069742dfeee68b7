-- A larger request raises the limit of a user, by no more than it is larger.
use Rattle.std.proofs.Common.{◌≡◌, ℕ, ◌+◌, ◌-◌, ◌*◌, ◌/◌, ◌<◌, ◌≤◌, min, max, true, lit≤, arith}
use Rattle.std.specs.Prelude.{nat_le, IsTrue}
use Rattle.std.proofs.Math.Nat.{mul-le-mul_left, le-div_iff_mul-le, div-mul-le_self, div-lt_iff_lt-mul}
use Rattle.std.proofs.lemmas.Bool.{and_parts, and_from, leb-true, le-leb}
use Rattle.ynl_resource.specs.Amounts.{ceil_of, plus, fits_in}
use Rattle.ynl_resource.specs.Ranges.{whole}
use Rattle.ynl_resource.specs.declared.amounts.Resource.{Resource}
use Rattle.ynl_lanes.specs.declared.lows.users.UserLow.{UserLow}
use Rattle.ynl_lanes.specs.lows.Users.{IsUserBelow}
use Rattle.ynl_lanes.specs.lows.Order.{below-trans}
use Rattle.ynl_search.specs.limits.Shares.{share_of}
use Rattle.ynl_search.specs.limits.Limits.{limit_of}
use Rattle.ynl_search.specs.declared.limits.limits.Limits.{Limits}
use Rattle.ynl_search.specs.declared.guests.FitsIn.{FitsIn}
use Rattle.ynl_search.specs.declared.user_limits.UserLimits.{UserLimits}
use Rattle.ynl_search.specs.UserTests.{AreWithinLimits}

-- a part of a number, rounded up, grows with the number
ceil-grows : (a b m d : ℕ) → 1 ≤ d → a ≤ b → ceil_of a m d ≤ ceil_of b m d
ceil-grows a b m d some h =
    let times : m * a ≤ m * b = mul-le-mul_left m h in
    let whole_part : (a * m + (d - 1)) / d * d ≤ b * m + (d - 1) = omega (arith, times, div-mul-le_self (a * m + (d - 1)) d) in
    (le-div_iff_mul-le some).1 whole_part

pub share-grows : (a b users percent : ℕ) → 1 ≤ users → a ≤ b → share_of a users percent ≤ share_of b users percent
share-grows a b users percent some h =
    omega (arith, ceil-grows a b 1 users some h, ceil-grows a b percent whole (omega arith) h)

-- and by no more than the number
ceil-raised : (x d m k : ℕ) → 1 ≤ k → m ≤ k → ceil_of (x + d) m k ≤ ceil_of x m k + d
ceil-raised x d m k some le =
    let q : ℕ = ceil_of x m k in
    let above : x * m + (k - 1) < (q + 1) * k = (div-lt_iff_lt-mul some).0 (omega arith) in
    let more : d * m ≤ d * k = mul-le-mul_left d le in
    let below : (x + d) * m + (k - 1) < (q + d + 1) * k = omega (arith, above, more) in
    let least : ((x + d) * m + (k - 1)) / k < q + d + 1 = (div-lt_iff_lt-mul some).1 below in
    omega (arith, least)

share-raised : (x d users percent : ℕ) → 1 ≤ users → percent ≤ whole → share_of (x + d) users percent ≤ share_of x users percent + d
share-raised x d users percent some le =
    omega (arith, ceil-raised x d 1 users some some, ceil-raised x d percent whole (lit≤ tt) le)

-- so a user that keeps the limit with a request does so with a smaller one, and where the user uses less
part-below : (guaranteed used users percent cap low size x y : ℕ) → 1 ≤ users → percent ≤ whole → nat_le low size ≡ true → nat_le x y ≡ true
    → nat_le (y + size) (min (share_of (max guaranteed (used + size)) users percent) cap) ≡ true
    → nat_le (x + low) (min (share_of (max guaranteed (used + low)) users percent) cap) ≡ true
part-below guaranteed used users percent cap low size x y some le lower less keeps =
    let l : low ≤ size = leb-true low size lower in
    let u : x ≤ y = leb-true x y less in
    let k : y + size ≤ min (share_of (max guaranteed (used + size)) users percent) cap = leb-true _ _ keeps in
    let base : max guaranteed (used + size) ≤ max guaranteed (used + low) + (size - low) = omega (arith, l) in
    let grown = share-grows (max guaranteed (used + size)) (max guaranteed (used + low) + (size - low)) users percent some base in
    let raised = share-raised (max guaranteed (used + low)) (size - low) users percent some le in
    le-leb (x + low) _ (omega (arith, l, u, k, grown, raised))

keeps-below : (limits : Limits) (low size x y : Resource) → fits_in low size ≡ true → fits_in x y ≡ true
    → fits_in (plus y size) (limit_of limits size) ≡ true → fits_in (plus x low) (limit_of limits low) ≡ true
unfolding limit_of
keeps-below limits low size x y lower less keeps =
    let l = and_parts (nat_le low.memory size.memory) (nat_le low.vcores size.vcores) lower in
    let u = and_parts (nat_le x.memory y.memory) (nat_le x.vcores y.vcores) less in
    let k =
    and_parts (nat_le (y.memory + size.memory) (min (share_of (max limits.guaranteed.memory (limits.used.memory + size.memory)) limits.users limits.percent) limits.cap.memory))
    (nat_le (y.vcores + size.vcores) (min (share_of (max limits.guaranteed.vcores (limits.used.vcores + size.vcores)) limits.users limits.percent) limits.cap.vcores)) keeps in
    and_from (nat_le (x.memory + low.memory) (min (share_of (max limits.guaranteed.memory (limits.used.memory + low.memory)) limits.users limits.percent) limits.cap.memory))
    (nat_le (x.vcores + low.vcores) (min (share_of (max limits.guaranteed.vcores (limits.used.vcores + low.vcores)) limits.users limits.percent) limits.cap.vcores))
    (part-below limits.guaranteed.memory limits.used.memory limits.users limits.percent limits.cap.memory low.memory size.memory x.memory y.memory limits.some_users limits.at_most_whole l.0 u.0 k.0)
    (part-below limits.guaranteed.vcores limits.used.vcores limits.users limits.percent limits.cap.vcores low.vcores size.vcores x.vcores y.vcores limits.some_users limits.at_most_whole l.1 u.1 k.1)

-- users pass where others that use no less, and of whom nothing smaller waits, do
pub within_limits-below : (test : UserLimits) (x y : UserLow) → IsUserBelow x y → AreWithinLimits test y → AreWithinLimits test x
within_limits-below test x y below within = record {
  fits = below-trans x.low y.low test.room below.low within.fits;
  keeps = keeps-below test.limits x.low y.low x.used y.used below.low below.used within.keeps;
}

-- the same where a guest fits in a room
pub guests-below : (test : FitsIn) (x y : UserLow) → IsUserBelow x y → IsTrue (fits_in y.low test.room) → IsTrue (fits_in x.low test.room)
guests-below test x y below fits = below-trans x.low y.low test.room below.low fits
