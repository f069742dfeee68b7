-- What queues use, with one container more or less.
use Rattle.std.proofs.Common.{◌≡◌, ℕ, ◌+◌, ◌-◌, Bool, true, false, cond, not, ◌&&◌, List, ◌∷◌, ◌++◌, length, filter, refl, ap, ◌∙◌, arith}
use Rattle.std.specs.List.{AllByRecursion}
use Rattle.std.specs.Option.{option_map_or}
use Rattle.ynl_resource.specs.Amounts.{plus, less}
use Rattle.ynl_resource.specs.declared.amounts.Resource.{Resource}
use Rattle.ynl_resource.specs.declared.labels.Label.{Label}
use Rattle.ynl_resource.specs.declared.names.Name.{Name}
use Rattle.ynl_resource.specs.declared.paths.Path.{Path}
use Rattle.ynl_resource.specs.Names.{is_within}
use Rattle.ynl_model.specs.declared.containers.Placed.{Placed as Container}
use Rattle.ynl_model.specs.declared.uses.Use.{Use}
use Rattle.ynl_model.specs.Applications.{LeafApps, leaf_of}
use Rattle.ynl_model.specs.Cluster.{State, sizes, containers_on, is_master, is_guest, is_below, used, masters_used, guests}
use Rattle.ynl_laws.specs.Uses.{counts, counts_as_guest, use_by, use_of, raised, lowered, raised_in, lowered_in}
use Rattle.ynl_laws.proofs.Lists.{filter-agree, Each-all}
use Rattle.ynl_laws.proofs.Totals.Inserted.{Inserted, inserted, inserted-filter, inserted-total, inserted-length}

-- what is used is told by the containers of the partition
pub use-is : (s : State) (p : Label) (queue : Path) → use_of s p queue ≡ use_by s.leaves queue (containers_on s p)
unfolding used masters_used guests
use-is s p queue = refl

-- ---- one container more

-- a use with a container more, which is a guest, a master or neither
abbrev raised_as : Bool → Bool → Resource → Use → Use
raised_as guest master size u =
    cond guest (record u { guests = plus u.guests size })
    (cond master (record u { used = plus u.used size; masters = plus u.masters size; master_count = u.master_count + 1 }) (record u { used = plus u.used size }))

joined : (below guest master : Bool) (size : Resource) (u new : Use)
    → new.used ≡ cond (not guest && below) (plus u.used size) u.used
    → new.masters ≡ cond ((not guest && below) && master) (plus u.masters size) u.masters
    → new.master_count ≡ cond ((not guest && below) && master) (u.master_count + 1) u.master_count
    → new.guests ≡ cond (guest && below) (plus u.guests size) u.guests
    → new ≡ cond below (raised_as guest master size u) u
joined true true master size u new x y n z = λ i. record { used = x i; masters = y i; master_count = n i; guests = z i }
joined true false true size u new x y n z = λ i. record { used = x i; masters = y i; master_count = n i; guests = z i }
joined true false false size u new x y n z = λ i. record { used = x i; masters = y i; master_count = n i; guests = z i }
joined false true master size u new x y n z = λ i. record { used = x i; masters = y i; master_count = n i; guests = z i }
joined false false master size u new x y n z = λ i. record { used = x i; masters = y i; master_count = n i; guests = z i }

pub use-inserted : (leaves : List LeafApps) (queue : Path) (k : Container) (more fewer : List Container) → Inserted true k more fewer → use_by leaves queue more ≡ raised_in leaves queue k (use_by leaves queue fewer)
use-inserted leaves queue k more fewer h =
    let counted : Inserted (counts leaves queue k) k (filter (counts leaves queue) more) (filter (counts leaves queue) fewer) = inserted-filter (counts leaves queue) true k more fewer h in
    let masters : Inserted (counts leaves queue k && is_master k) k (filter is_master (filter (counts leaves queue) more)) (filter is_master (filter (counts leaves queue) fewer)) =
    inserted-filter is_master (counts leaves queue k) k (filter (counts leaves queue) more) (filter (counts leaves queue) fewer) counted in
    let guests : Inserted (counts_as_guest leaves queue k) k (filter (counts_as_guest leaves queue) more) (filter (counts_as_guest leaves queue) fewer) = inserted-filter (counts_as_guest leaves queue) true k more fewer h in
    joined (is_below leaves queue k) (is_guest k) (is_master k) k.size (use_by leaves queue fewer) (use_by leaves queue more)
    (inserted-total (λ (x : Container). x.size) _ k _ _ counted)
    (inserted-total (λ (x : Container). x.size) _ k _ _ masters)
    (inserted-length _ k _ _ masters)
    (inserted-total (λ (x : Container). x.size) _ k _ _ guests)

pub use-with : (leaves : List LeafApps) (queue : Path) (before after : List Container) (k : Container) → use_by leaves queue (before ++ k ∷ after) ≡ raised_in leaves queue k (use_by leaves queue (before ++ after))
use-with leaves queue before after k = use-inserted leaves queue k (before ++ k ∷ after) (before ++ after) (inserted before after k)

-- ---- one container less

abbrev lowered_as : Bool → Bool → Resource → Use → Use
lowered_as guest master size u =
    cond guest (record u { guests = less u.guests size })
    (cond master (record u { used = less u.used size; masters = less u.masters size; master_count = u.master_count - 1 }) (record u { used = less u.used size }))

less-plus : (a b : Resource) → less (plus a b) b ≡ a
less-plus a b = grind (arith)

one_less : (n : ℕ) → (n + 1) - 1 ≡ n
one_less n = omega arith

back : (guest master : Bool) (size : Resource) (u : Use) → lowered_as guest master size (raised_as guest master size u) ≡ u
back true master size u = λ i. record { used = u.used; masters = u.masters; master_count = u.master_count; guests = less-plus u.guests size i }
back false true size u = λ i. record { used = less-plus u.used size i; masters = less-plus u.masters size i; master_count = one_less u.master_count i; guests = u.guests }
back false false size u = λ i. record { used = less-plus u.used size i; masters = u.masters; master_count = u.master_count; guests = u.guests }

lowered-raised : (leaves : List LeafApps) (queue : Path) (k : Container) (u : Use) → lowered_in leaves queue k (raised_in leaves queue k u) ≡ u
lowered-raised leaves queue k u = go (is_below leaves queue k)
  where
    go : (b : Bool) → cond b (lowered k (cond b (raised k u) u)) (cond b (raised k u) u) ≡ u
    go true = back (is_guest k) (is_master k) k.size u
    go false = refl

pub use-taken : (leaves : List LeafApps) (queue : Path) (k : Container) (more fewer : List Container) → Inserted true k more fewer → lowered_in leaves queue k (use_by leaves queue more) ≡ use_by leaves queue fewer
use-taken leaves queue k more fewer h = ap (lowered_in leaves queue k) (use-inserted leaves queue k more fewer h) ∙ lowered-raised leaves queue k (use_by leaves queue fewer)

-- ---- other leaves

-- leaves by which the same containers count
counted-alike : (old new : List LeafApps) (queue : Path) (containers : List Container) → filter (counts new queue) containers ≡ filter (counts old queue) containers
    → filter (counts_as_guest new queue) containers ≡ filter (counts_as_guest old queue) containers → use_by new queue containers ≡ use_by old queue containers
counted-alike old new queue containers e f = λ i. record { used = sizes (e i); masters = sizes (filter is_master (e i)); master_count = length (filter is_master (e i)); guests = sizes (f i) }

-- leaves in which the applications of the containers are found where they were
found-alike : (old new : List LeafApps) (queue : Path) (P : Container → Type 0) → ((k : Container) → P k → leaf_of new k.tenant k.app ≡ leaf_of old k.tenant k.app) → (containers : List Container) → AllByRecursion P containers
    → use_by new queue containers ≡ use_by old queue containers
found-alike old new queue P same containers h =
    counted-alike old new queue containers
    (filter-agree P (counts new queue) (counts old queue) (λ k p i. not (is_guest k) && option_map_or (is_within queue) (same k p i) false) containers h)
    (filter-agree P (counts_as_guest new queue) (counts_as_guest old queue) (λ k p i. is_guest k && option_map_or (is_within queue) (same k p i) false) containers h)

pub use-same : (old new : List LeafApps) → ((tenant name : Name) → leaf_of new tenant name ≡ leaf_of old tenant name) → (queue : Path) (containers : List Container) → use_by new queue containers ≡ use_by old queue containers
use-same old new same queue containers = found-alike old new queue (λ k. Unit {0}) (λ k p. same k.tenant k.app) containers (Each-all (λ k. Unit {0}) (λ k. tt) containers)
