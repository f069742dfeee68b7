-- The limit of a leaf's numbers is the model's, and grows with the ask.
use Rattle.std.proofs.Common.{◌≡◌, ℕ, ◌+◌, ◌≤◌, min, max, true, arith}
use Rattle.std.specs.Prelude.{nat_le, ◌&&◌}
use Rattle.std.proofs.lemmas.Bool.{and_parts, leb-true, le-leb}
use Rattle.ynl_resource.specs.Amounts.{plus, greater_of, smaller_of, scale_ceil, fits_in}
use Rattle.ynl_resource.specs.Ranges.{whole}
use Rattle.ynl_resource.specs.declared.amounts.Resource.{Resource}
use Rattle.ynl_resource.specs.declared.labels.Label.{Label}
use Rattle.ynl_resource.specs.declared.paths.Path.{Path}
use Rattle.ynl_model.specs.Queues.{Config}
use Rattle.ynl_model.specs.Cluster.{State}
use Rattle.ynl_model.specs.Limits.{user_limit}
use Rattle.ynl_search.specs.limits.Shares.{share_of}
use Rattle.ynl_search.specs.limits.Limits.{limit_of, AreLimitsOf}
use Rattle.ynl_search.specs.limits.Raised.{share-grows}
use Rattle.ynl_search.specs.declared.limits.limits.Limits.{Limits}

-- for the numbers of a leaf it is the user limit
pub limit_is : (c : Config) (s : State) (leaf : Path) (label : Label) (limits : Limits) → AreLimitsOf c s leaf label limits → (ask : Resource) → limit_of limits ask ≡ user_limit c s leaf label ask
unfolding limit_of user_limit
limit_is c s leaf label limits are ask = λ i.
    let base : Resource = greater_of (are.guaranteed i) (plus (are.used i) ask) in
    smaller_of (greater_of (scale_ceil base 1 (are.users i)) (scale_ceil base (are.percent i) whole)) (are.cap i)

capped : (a b cap : ℕ) → a ≤ b → min a cap ≤ min b cap
capped a b cap h = omega arith

part-grows : (guaranteed used users percent cap x y : ℕ) → 1 ≤ users → nat_le x y ≡ true →
    nat_le (min (share_of (max guaranteed (used + x)) users percent) cap) (min (share_of (max guaranteed (used + y)) users percent) cap) ≡ true
part-grows guaranteed used users percent cap x y some h =
    let within : x ≤ y = leb-true x y h in
    let base : max guaranteed (used + x) ≤ max guaranteed (used + y) = omega (arith, within) in
    let share = share-grows (max guaranteed (used + x)) (max guaranteed (used + y)) users percent some base in
    le-leb _ _ (capped _ _ cap share)

-- a request that asks for no more has no greater limit
pub limit-grows : (limits : Limits) (lesser ask : Resource) → fits_in lesser ask ≡ true → fits_in (limit_of limits lesser) (limit_of limits ask) ≡ true
unfolding limit_of
limit-grows limits lesser ask h =
    let parts = and_parts (nat_le lesser.memory ask.memory) (nat_le lesser.vcores ask.vcores) h in
    let memory = part-grows limits.guaranteed.memory limits.used.memory limits.users limits.percent limits.cap.memory lesser.memory ask.memory limits.some_users parts.0 in
    let vcores = part-grows limits.guaranteed.vcores limits.used.vcores limits.users limits.percent limits.cap.vcores lesser.vcores ask.vcores limits.some_users parts.1 in
    λ i. memory i && vcores i

-- a user that keeps the limit with a request is within the cap with it
pub within-cap : (limits : Limits) (used ask : Resource) → fits_in (plus used ask) (limit_of limits ask) ≡ true
    → (used.memory + ask.memory ≤ limits.cap.memory) × (used.vcores + ask.vcores ≤ limits.cap.vcores)
unfolding limit_of
within-cap limits used ask keeps =
    let memory-share : ℕ = share_of (max limits.guaranteed.memory (limits.used.memory + ask.memory)) limits.users limits.percent in
    let vcores-share : ℕ = share_of (max limits.guaranteed.vcores (limits.used.vcores + ask.vcores)) limits.users limits.percent in
    let parts = and_parts (nat_le (used.memory + ask.memory) (min memory-share limits.cap.memory)) (nat_le (used.vcores + ask.vcores) (min vcores-share limits.cap.vcores)) keeps in
    let memory = leb-true (used.memory + ask.memory) (min memory-share limits.cap.memory) parts.0 in
    let vcores = leb-true (used.vcores + ask.vcores) (min vcores-share limits.cap.vcores) parts.1 in (
      omega (arith, memory),
      omega (arith, vcores),
    )
