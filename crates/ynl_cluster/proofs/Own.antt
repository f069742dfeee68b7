-- The containers of an application, in the rows and in the model.
use Rattle.std.proofs.Common.{◌≡◌, ◌≢◌, ℕ, zero, suc, ◌<◌, Bool, true, false, cond, not, List, [], ◌∷◌, ◌++◌, filter, map, flat_map, slice_get, nat_eq, Some, None, refl, sym, ap, subst, ◌∙◌, arith}
use Rattle.std.specs.List.{AllByRecursion}
use Rattle.std.specs.Map.{lookup}
use Rattle.std.specs.Option.{option_map_or}
use Rattle.std.proofs.lemmas.Bool.Decides.{nat_tests}
use Rattle.std.proofs.lemmas.Option.{none-some, same_Some}
use Rattle.ynl_resource.specs.declared.labels.Label.{Label}
use Rattle.ynl_resource.specs.declared.names.Name.{Name}
use Rattle.ynl_model.specs.declared.containers.Placed.{Placed}
use Rattle.ynl_model.specs.declared.queues.StopRow.{StopRow}
use Rattle.ynl_model.specs.declared.queues.MaximumRow.{MaximumRow}
use Rattle.ynl_model.specs.Changes.{all_own}
use Rattle.ynl_model.specs.Cluster.{Partition, is_of}
use Rattle.ynl_laws.proofs.Lists.{Each-weaker, filter-agree, filter-map, filter-nothing, flat-map}
use Rattle.ynl_slots.specs.Slots.{HasDistinctNumbers, IsUnused, without}
use Rattle.ynl_slots.specs.Chain.{first_or}
use Rattle.ynl_slots.proofs.Entries.{without-unused}
use Rattle.ynl_tables.specs.containers.Chains.{numbers_of}
use Rattle.ynl_tables.specs.declared.containers.container.Container.{Container}
use Rattle.ynl_inventory.specs.Rows.{Rows, PartitionRow, NodeRow, AppRow}
use Rattle.ynl_inventory.specs.Apps.{containers_of}
use Rattle.ynl_inventory.specs.Changes.{next_clock_at, ticked, with_at, with_ended}
use Rattle.ynl_inventory.specs.Meaning.{label_at, partition_of, placed_of, state_of}
use Rattle.ynl_inventory.specs.Sound.{IsPartition, IsSound}
use Rattle.ynl_inventory.proofs.Ending.{ended-sound}
use Rattle.ynl_inventory.proofs.Finding.{own-label}
use Rattle.ynl_inventory.proofs.Lookups.{live-found}
use Rattle.ynl_inventory.proofs.Naming.{label-at, node_name-changed, placed-same}
use Rattle.ynl_inventory.proofs.Updates.{each-number}
use Rattle.ynl_cluster.proofs.requests.Running.{owner-tells}
use Rattle.ynl_cluster.specs.Cluster.{name_in, tenant_in}

-- ---- lists

-- lists that agree in each place are one list in a row
flat-agree : {X Y : Type 0} (f g : X → List Y) (xs : List X) → ((p : ℕ) (x : X) → slice_get xs p ≡ Some x → f x ≡ g x) → flat_map f xs ≡ flat_map g xs
flat-agree f g [] h = refl
flat-agree f g (x ∷ xs) h = λ i. h 0 x refl i ++ flat-agree f g xs (λ p. h (suc p)) i

-- where those before a place have none, the first of all is the first of that place
flat-first : {X Y : Type 0} (f : X → List Y) (change : X → X) (y : Y) (p : ℕ) (x : X) (xs : List X) → slice_get xs p ≡ Some x → ((q : ℕ) (z : X) → q < p → slice_get xs q ≡ Some z → f z ≡ [])
    → f x ≡ y ∷ f (change x) → flat_map f xs ≡ y ∷ flat_map f (with_at p change xs)
flat-first f change y p x [] at before first = absurd (none-some x at)
flat-first {X} f change y zero x (z ∷ xs) at before first =
    ap (λ l. l ++ flat_map f xs) (subst (λ (z : X). f z ≡ y ∷ f (change z)) (sym (same_Some z x at)) first)
flat-first f change y (suc p) x (z ∷ xs) at before first =
    let none : f z ≡ [] = before 0 z (omega arith) refl in
    ap (λ l. l ++ flat_map f xs) none
    ∙ flat-first f change y p x xs at (λ q w below there. before (suc q) w (omega (arith, below)) there) first
    ∙ ap (λ l. y ∷ l ++ flat_map f (with_at p change xs)) (sym none)

-- the first row of a key goes with its number, and the others stay
filter-first : (app number : ℕ) (c : Container) (es : List (ℕ × Container)) → HasDistinctNumbers es → Some number ≡ first_or None (numbers_of (λ (c : Container). c.app) app es)
    → lookup (nat_eq number) es ≡ Some c → c.app ≡ app
    → filter (λ e. nat_eq e.1.app app) es ≡ (number, c) ∷ filter (λ e. nat_eq e.1.app app) (without number es)
filter-first app number c [] distinct first found own = absurd (none-some c found)
filter-first app number c (e ∷ es) distinct first found own =
    go (nat_eq e.1.app app) refl first (nat_eq number e.0) refl found (λ k is. filter-first app number c es distinct.1 k is own)
  where
    go : (b : Bool) → nat_eq e.1.app app ≡ b → Some number ≡ first_or None (map (λ e. e.0) (cond b (e ∷ filter (λ e. nat_eq e.1.app app) es) (filter (λ e. nat_eq e.1.app app) es)))
        → (d : Bool) → nat_eq number e.0 ≡ d → cond d (Some e.1) (lookup (nat_eq number) es) ≡ Some c
        → (Some number ≡ first_or None (map (λ e. e.0) (filter (λ e. nat_eq e.1.app app) es)) → lookup (nat_eq number) es ≡ Some c → filter (λ e. nat_eq e.1.app app) es ≡ (number, c) ∷ filter (λ e. nat_eq e.1.app app) (without number es))
        → cond b (e ∷ filter (λ e. nat_eq e.1.app app) es) (filter (λ e. nat_eq e.1.app app) es) ≡ (number, c) ∷ filter (λ e. nat_eq e.1.app app) (cond (not d) (e ∷ without number es) (without number es))
    go true same k true here is rest =
        let number-is : e.0 ≡ number = sym (same_Some number e.0 k) in
        let one : e.1 ≡ c = same_Some e.1 c is in
        let others : without number es ≡ es = without-unused number es (subst (λ (n : ℕ). IsUnused n es) number-is distinct.0) in
        λ i. (number-is i, one i) ∷ filter (λ e. nat_eq e.1.app app) (sym others i)
    go true same k false here is rest =
        let number-is : number ≡ e.0 = same_Some number e.0 k in
        absurd (grind (arith, nat_tests, here, number-is))
    go false same k true here is rest =
        let one : e.1.app ≡ app = ap (λ (c : Container). c.app) (same_Some e.1 c is) ∙ own in
        absurd (grind (arith, nat_tests, same, one))
    go false same k false here is rest = rest k is ∙ ap (λ b. (number, c) ∷ cond b (e ∷ filter (λ e. nat_eq e.1.app app) (without number es)) (filter (λ e. nat_eq e.1.app app) (without number es))) (sym same)

-- ---- rows

-- an application's containers of a partition
abbrev pub owned : Rows → ℕ → PartitionRow → List Placed
owned v app part = map (λ e. placed_of v part.label e.1) (filter (λ e. nat_eq e.1.app app) part.containers)

module _ (v : Rows) (sound : IsSound v) (app : ℕ) (row : AppRow) (found : lookup (nat_eq app) v.apps ≡ Some row) where
  abbrev tenant : Name
  tenant = tenant_in v row

  abbrev name : Name
  name = name_in v row

  -- are those of its tenant and name
  pub own-means : (p : ℕ) (part : PartitionRow) → slice_get v.partitions p ≡ Some part → filter (is_of tenant name) (map (λ e. placed_of v part.label e.1) part.containers) ≡ owned v app part
  own-means p part there =
      filter-map (λ (e : ℕ × Container). placed_of v part.label e.1) (is_of tenant name) part.containers
      ∙ ap (map (λ e. placed_of v part.label e.1))
      (filter-agree (λ e. is_of tenant name (placed_of v part.label e.1) ≡ nat_eq e.1.app app) (λ e. is_of tenant name (placed_of v part.label e.1)) (λ e. nat_eq e.1.app app) (λ e h. h) part.containers
      (each-number (λ n c. is_of tenant name (placed_of v part.label c) ≡ nat_eq c.app app) part.containers is.numbers
      (λ n c at. let live = live-found c.app v.apps (is.each n c at).app in owner-tells v sound c.app live.0 live.1 app row found)))
    where
      is : IsPartition v p part
      is = sound.partitions p part there

  -- so are all of its containers
  pub all-means : (stops : List StopRow) (maxima : List MaximumRow) → all_own (state_of v stops maxima) tenant name ≡ flat_map (owned v app) v.partitions
  all-means stops maxima =
      flat-map (λ (part : Partition). filter (is_of tenant name) part.containers) (partition_of v) v.partitions
      ∙ flat-agree (λ part. filter (is_of tenant name) (map (λ e. placed_of v part.label e.1) part.containers)) (owned v app) v.partitions own-means

  -- where none is its, it has none
  pub owned-none : (p : ℕ) (part : PartitionRow) → slice_get v.partitions p ≡ Some part → AllByRecursion (λ e. e.1.app ≢ app) (containers_of v p) → owned v app part ≡ []
  owned-none p part there none =
      ap (map (λ e. placed_of v part.label e.1))
      (filter-nothing (λ e. nat_eq e.1.app app) part.containers
      (Each-weaker (λ e. e.1.app ≢ app) (λ e. nat_eq e.1.app app ≡ false) (λ e apart. grind (arith, nat_tests, apart)) part.containers
      (subst (λ o. AllByRecursion (λ e. e.1.app ≢ app) (option_map_or (λ (row : PartitionRow). row.containers) o [])) there none)))

-- the first container of an application ends: the others are left
module _ (v : Rows) (sound : IsSound v) (app : ℕ) (row : AppRow) (found : lookup (nat_eq app) v.apps ≡ Some row)
    (p number : ℕ) (part : PartitionRow) (there : slice_get v.partitions p ≡ Some part) (c : Container) (held : lookup (nat_eq number) part.containers ≡ Some c) (own : c.app ≡ app)
    (first : Some number ≡ first_or None (numbers_of (λ (c : Container). c.app) app part.containers))
    (before : (q : ℕ) → q < p → AllByRecursion (λ e. e.1.app ≢ app) (containers_of v q)) where
  abbrev after : Rows
  after = with_ended p number c.node v

  -- containers are called as before
  still : (label : Label) (d : Container) → placed_of after label d ≡ placed_of v label d
  still label d =
      placed-same v after (label-at p (ticked (without number)) (λ row. refl) v.partitions) label d
      (node_name-changed c.node (λ (node : NodeRow). record node { stamp = next_clock_at v.partitions p }) (λ node. refl) v.nodes d.node) refl

  pub first-ends : (stops : List StopRow) (maxima : List MaximumRow)
      → all_own (state_of v stops maxima) (tenant_in v row) (name_in v row) ≡ placed_of v (label_at v.partitions p) c ∷ all_own (state_of after stops maxima) (tenant_in v row) (name_in v row)
  first-ends stops maxima =
      all-means v sound app row found stops maxima
      ∙ flat-first (owned v app) (ticked (without number)) (placed_of v part.label c) p part v.partitions there
      (λ q other below at. owned-none v sound app row found q other at (before q below))
      (ap (map (λ e. placed_of v part.label e.1)) (filter-first app number c part.containers (sound.partitions p part there).numbers first held own))
      ∙ (λ i. placed_of v (sym (own-label v sound p part there) i) c ∷ flat_map (λ (other : PartitionRow). map (λ e. sym (still other.label e.1) i) (filter (λ e. nat_eq e.1.app app) other.containers)) after.partitions)
      ∙ ap (λ l. placed_of v (label_at v.partitions p) c ∷ l) (sym (all-means after (ended-sound v sound p part there number c held) app row found stops maxima))
