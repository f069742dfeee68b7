-- What a user uses is small.
use Rattle.std.proofs.Common.{◌≡◌, ℕ, ◌<◌, ◌≤◌, ◌^◌, Bool, true, false, cond, not, ◌&&◌, List, [], ◌∷◌, filter, nat_eq, Option, Some, None, arith}
use Rattle.std.specs.Prelude.{IfSome}
use Rattle.std.specs.Map.{lookup}
use Rattle.std.specs.Option.{option_map_or}
use Rattle.std.proofs.lemmas.Bool.Decides.{nat_tests}
use Rattle.ynl_resource.specs.Amounts.{fits_in, plus, total_of}
use Rattle.ynl_resource.specs.Names.{root}
use Rattle.ynl_resource.specs.declared.amounts.Resource.{Resource}
use Rattle.ynl_model.specs.declared.uses.Use.{Use}
use Rattle.ynl_laws.proofs.Amounts.{fits-trans}
use Rattle.ynl_tables.specs.declared.containers.container.Container.{Container}
use Rattle.ynl_cluster.specs.uses.Tallies.{raised_as, IsTotal}
use Rattle.ynl_cluster.specs.declared.uses.tally.Counted.TheVariants.{Guest, Master, Asked}
use Rattle.ynl_lanes.specs.lane.Rows.{IsUse}
use Rattle.ynl_inventory.specs.Rows.{Rows, AppRow}
use Rattle.ynl_inventory.specs.Apps.{containers_of, is_guest_role, is_master_role}
use Rattle.ynl_inventory.specs.Sound.{HasPartition, IsSound}
use Rattle.ynl_inventory.proofs.Used.{fits-parts}
use Rattle.ynl_cluster.specs.ledger.Ledger.{is_below, total_in, use_by, use_where, IsBounded}
use Rattle.ynl_cluster.proofs.ledger.Small.{nothing-fits, total-small, uses-within}
use Rattle.ynl_cluster.specs.seating.Seating.{counts, is_of, user_use}

both-more : (a b size : Resource) → fits_in a b ≡ true → fits_in (plus size a) (plus b size) ≡ true
both-more a b size h = grind (arith, nat_tests)

wider : (a b size : Resource) → fits_in a b ≡ true → fits_in a (plus b size) ≡ true
wider a b size h = grind (arith, nat_tests)

-- one container more, as what it counts and of what application
one-more : (q user : ℕ) (e : ℕ × Container) (rest : List (ℕ × Container)) (u : Use) → fits_in (total_of (λ (e : ℕ × Container). e.1.size) rest) u.used ≡ true → (guest master : Bool) (o : Option AppRow)
    → fits_in (total_of (λ (e : ℕ × Container). e.1.size) (cond (not guest && option_map_or (is_of q user) o false) (e ∷ rest) rest))
    (cond (option_map_or (λ (row : AppRow). true) o false) (raised_as (cond guest Guest (cond master Master Asked)) e.1.size u) u).used ≡ true
one-more q user e rest u h true master None = h
one-more q user e rest u h false master None = h
one-more q user e rest u h true master (Some row) = h
one-more q user e rest u h false true (Some row) = go (is_of q user row)
  where
    go : (b : Bool) → fits_in (total_of (λ (e : ℕ × Container). e.1.size) (cond b (e ∷ rest) rest)) (plus u.used e.1.size) ≡ true
    go true = both-more (total_of (λ (e : ℕ × Container). e.1.size) rest) u.used e.1.size h
    go false = wider (total_of (λ (e : ℕ × Container). e.1.size) rest) u.used e.1.size h
one-more q user e rest u h false false (Some row) = go (is_of q user row)
  where
    go : (b : Bool) → fits_in (total_of (λ (e : ℕ × Container). e.1.size) (cond b (e ∷ rest) rest)) (plus u.used e.1.size) ≡ true
    go true = both-more (total_of (λ (e : ℕ × Container). e.1.size) rest) u.used e.1.size h
    go false = wider (total_of (λ (e : ℕ × Container). e.1.size) rest) u.used e.1.size h

-- what a user uses is part of what root uses
user-within : (v : Rows) (p q user : ℕ) (es : List (ℕ × Container)) → fits_in (total_of (λ e. e.1.size) (filter (counts v p q user) es)) (use_where (λ c. is_below v root c) p es).used ≡ true
user-within v p q user [] = nothing-fits (use_where (λ c. is_below v root c) p []).used
user-within v p q user (e ∷ es) =
    one-more q user e (filter (counts v p q user) es) (use_where (λ c. is_below v root c) p es) (user-within v p q user es) (is_guest_role p e.1.role) (is_master_role e.1.role) (lookup (nat_eq e.1.app) v.apps)

within-use : (used amount : Resource) → fits_in used amount ≡ true → IsTotal amount → IsUse used
within-use used amount fits small =
    let parts = fits-parts used amount fits in
    let memory : amount.memory < 2 ^ 48 = small.0 in
    let vcores : amount.vcores ≤ 2 ^ 32 = small.1 in
    record { memory = omega (arith, parts.0, memory); vcores = omega (arith, parts.1, vcores) }

-- what a user uses is an amount that lanes keep
pub user-small : (v : Rows) → IsSound v → IsBounded v → (p : ℕ) → HasPartition v p → (q user : ℕ) → IsUse (user_use v p q user)
user-small v sound bounded p has q user =
    within-use (user_use v p q user) (total_in v p).amount
    (fits-trans (user_use v p q user) (use_by v p root (containers_of v p)).used (total_in v p).amount (user-within v p q user (containers_of v p)) (uses-within v sound bounded p has root).used)
    (total-small v sound bounded p).amount

-- so it is with the user of an application
pub own-small : (v : Rows) → IsSound v → IsBounded v → (p : ℕ) → HasPartition v p → (app : ℕ) → IfSome (lookup (nat_eq app) v.apps) (λ row. IsUse (user_use v p row.leaf row.user))
own-small v sound bounded p has app = go (lookup (nat_eq app) v.apps)
  where
    go : (o : Option AppRow) → IfSome o (λ row. IsUse (user_use v p row.leaf row.user))
    go None = tt
    go (Some row) = user-small v sound bounded p has row.leaf row.user
