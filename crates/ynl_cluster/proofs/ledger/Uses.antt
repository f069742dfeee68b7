-- How uses change with the rows.
use Rattle.std.proofs.Common.{◌≡◌, ◌≢◌, ℕ, Bool, true, false, cond, not, nat_eq, List, [], ◌∷◌, ◌++◌, slice_get, Some, refl, sym, ap, subst, ◌∙◌, arith}
use Rattle.std.specs.List.{AllByRecursion}
use Rattle.std.specs.Map.{lookup}
use Rattle.std.specs.Option.{option_and_then, option_map_or}
use Rattle.std.proofs.lemmas.Bool.Decides.{nat_tests}
use Rattle.std.proofs.lemmas.List.{append-nil}
use Rattle.std.proofs.lemmas.Option.{none-some, same_Some}
use Rattle.ynl_resource.specs.declared.amounts.Resource.{Resource}
use Rattle.ynl_resource.specs.declared.names.Name.{Name}
use Rattle.ynl_resource.specs.declared.paths.Path.{Path}
use Rattle.ynl_model.specs.declared.uses.Use.{Use}
use Rattle.ynl_laws.specs.Ways.{along}
use Rattle.ynl_laws.proofs.Lists.{Each-all, Each-weaker}
use Rattle.ynl_laws.proofs.Totals.Inserted.{Inserted}
use Rattle.ynl_inventory.specs.layout.Paths.{is_above}
use Rattle.ynl_slots.specs.Slots.{HasDistinctNumbers, IsLive, IsUnused, without}
use Rattle.ynl_slots.proofs.Entries.{lookup-without-other, without-unused}
use Rattle.ynl_tables.specs.apps.Apps.{with_change}
use Rattle.ynl_tables.specs.declared.containers.container.Container.{Container}
use Rattle.ynl_tables.specs.declared.containers.container.Role.{Role}
use Rattle.ynl_cluster.specs.uses.Tallies.{raised, lowered, with_partition}
use Rattle.ynl_inventory.specs.Rows.{Rows, PartitionRow, NodeRow, AppRow}
use Rattle.ynl_inventory.specs.Changes.{next_clock_at, next_container, partition_of_node, ticked, with_at, with_clock, with_dropped, with_ended, with_joined, with_placed, with_stood, with_taken}
use Rattle.ynl_inventory.specs.Parts.{held_at}
use Rattle.ynl_inventory.specs.Sound.{IsSound, OwnsNoContainers}
use Rattle.ynl_inventory.proofs.Lookups.{pushed-live}
use Rattle.ynl_inventory.proofs.Naming.{taken-leaf}
use Rattle.ynl_inventory.proofs.Updates.{each-number}
use Rattle.ynl_cluster.specs.ledger.Ledger.{is_below, tally_of, uses_by, uses_in}
use Rattle.ynl_cluster.specs.ledger.Changes.{IsLineOf}
use Rattle.ynl_cluster.proofs.ledger.Below.{below-changed, uses-lowered, uses-raised, uses-same}
use Rattle.ynl_cluster.proofs.ledger.Places.{at-none, by_place-changed, by_place-same, partition-at}

-- ---- one row more

-- one more row stands last
pub inserted-last : {X : Type 0} (xs : List X) (x : X) → Inserted true x (xs ++ x ∷ []) xs
inserted-last xs x = record { before = xs; after = []; more_is = refl; fewer_is = sym (append-nil xs) }

-- a number's row is one more than the rows without it
pub inserted-number : {X : Type 0} (n : ℕ) (x : X) (es : List (ℕ × X)) → HasDistinctNumbers es → lookup (nat_eq n) es ≡ Some x → Inserted true (n, x) es (without n es)
inserted-number n x [] d found = absurd (none-some x found)
inserted-number n x (e ∷ es) d found = go (nat_eq n e.0) refl found (inserted-number n x es d.1)
  where
    go : (b : Bool) → nat_eq n e.0 ≡ b → cond b (Some e.1) (lookup (nat_eq n) es) ≡ Some x → (lookup (nat_eq n) es ≡ Some x → Inserted true (n, x) es (without n es))
        → Inserted true (n, x) (e ∷ es) (cond (not b) (e ∷ without n es) (without n es))
    go true q k rest =
        let number : n ≡ e.0 = grind (arith, nat_tests, q) in
        let row : e.1 ≡ x = same_Some e.1 x k in
        record {
          before = [];
          after = es;
          more_is = λ i. (sym number i, row i) ∷ es;
          fewer_is = without-unused n es (subst (λ (m : ℕ). IsUnused m es) (sym number) d.0);
        }
    go false q k rest =
        let one : Inserted true (n, x) es (without n es) = rest k in
        record { before = e ∷ one.before; after = one.after; more_is = ap (λ ys. e ∷ ys) one.more_is; fewer_is = ap (λ ys. e ∷ ys) one.fewer_is }

-- ---- uses of one partition

module _ (v : Rows) (p : ℕ) (change : PartitionRow → PartitionRow) (nodes : List (ℕ × NodeRow)) (apps : List (ℕ × AppRow)) where
  abbrev after : Rows
  after = record v { partitions = with_at p change v.partitions; nodes = nodes; apps = apps }

  -- the uses of the partition change, if containers count for the same queues
  uses-changed : (become : List Use → List Use) → ((queue : Path) (c : Container) → is_below after queue c ≡ is_below v queue c)
      → ((row : PartitionRow) → slice_get v.partitions p ≡ Some row → uses_by v p (change row).containers ≡ become (uses_by v p row.containers))
      → uses_in after ≡ with_partition p become (uses_in v)
  uses-changed become below own =
      by_place-changed (λ q row. uses_by v q row.containers) (λ q row. uses_by after q row.containers) become p change v.partitions
      (λ q row at apart. same q row.containers) (λ row at. same p (change row).containers ∙ own row at) ∙ sym (partition-at p become (uses_in v))
    where
      same : (q : ℕ) (es : List (ℕ × Container)) → uses_by after q es ≡ uses_by v q es
      same q es = uses-same v after refl q es (λ queue. Each-all (λ (e : ℕ × Container). is_below after queue e.1 ≡ is_below v queue e.1) (λ e. below queue e.1) es)

-- a container is placed
pub placed-uses : (v : Rows) (number node app : ℕ) (role : Role) (size : Resource) (line : List ℕ) → IsLive app v.apps → IsLineOf v app line
    → uses_in (with_placed number node app role size v) ≡ with_partition (partition_of_node v.nodes node) (along (raised (tally_of (partition_of_node v.nodes node) role size)) line) (uses_in v)
placed-uses v number node app role size line live way =
    uses-changed v p (ticked (λ es. es ++ e ∷ [])) (with_change node (λ row. record row { stamp = next_clock_at v.partitions p }) v.nodes) (with_change app (with_taken role) v.apps)
    (along (raised (tally_of p role size)) line) (λ queue c. below-changed v app (with_taken role) (taken-leaf role) queue c)
    (λ row at. uses-raised v p e (row.containers ++ e ∷ []) row.containers (inserted-last row.containers e) line live way)
  where
    p : ℕ
    p = partition_of_node v.nodes node

    e : ℕ × Container
    e = (number, next_container v node app role size)

-- or comes to stand
pub stood-uses : (v : Rows) (p number : ℕ) (c : Container) (line : List ℕ) → IsLive c.app v.apps → IsLineOf v c.app line
    → uses_in (with_stood p number c v) ≡ with_partition p (along (raised (tally_of p c.role c.size)) line) (uses_in v)
stood-uses v p number c line live way =
    uses-changed v p (λ row. record row { containers = row.containers ++ (number, c) ∷ [] }) v.nodes v.apps (along (raised (tally_of p c.role c.size)) line) (λ queue d. refl)
    (λ row at. uses-raised v p (number, c) (row.containers ++ (number, c) ∷ []) row.containers (inserted-last row.containers (number, c)) line live way)

-- a container goes
module _ (v : Rows) (sound : IsSound v) (p number : ℕ) (c : Container) (held : held_at v p number ≡ Some c) (line : List ℕ) (way : IsLineOf v c.app line) where
  found : (row : PartitionRow) → slice_get v.partitions p ≡ Some row → lookup (nat_eq number) row.containers ≡ Some c
  found row at = sym (ap (option_and_then (λ (row : PartitionRow). lookup (nat_eq number) row.containers)) at) ∙ held

  gone-uses : (row : PartitionRow) → slice_get v.partitions p ≡ Some row → uses_by v p (without number row.containers) ≡ along (lowered (tally_of p c.role c.size)) line (uses_by v p row.containers)
  gone-uses row at =
      let its = sound.partitions p row at in
      uses-lowered v p (number, c) row.containers (without number row.containers) (inserted-number number c row.containers its.numbers (found row at)) line
      (its.each number c (found row at)).app way

  pub ended-uses : (node : ℕ) → uses_in (with_ended p number node v) ≡ with_partition p (along (lowered (tally_of p c.role c.size)) line) (uses_in v)
  ended-uses node =
      uses-changed v p (ticked (without number)) (with_change node (λ row. record row { stamp = next_clock_at v.partitions p }) v.nodes) v.apps
      (along (lowered (tally_of p c.role c.size)) line) (λ queue d. refl) gone-uses

  pub dropped-uses : uses_in (with_dropped p number v) ≡ with_partition p (along (lowered (tally_of p c.role c.size)) line) (uses_in v)
  dropped-uses =
      uses-changed v p (λ row. record row { containers = without number row.containers }) v.nodes v.apps (along (lowered (tally_of p c.role c.size)) line) (λ queue d. refl) gone-uses

-- a node joins
pub joined-uses : (v : Rows) (number : ℕ) (name : Name) (p : ℕ) (size : Resource) → uses_in (with_joined number name p size v) ≡ uses_in v
joined-uses v number name p size =
    uses-changed v p (ticked (λ es. es)) (v.nodes ++ (number, record { name = name; partition = p; size = size; stamp = next_clock_at v.partitions p }) ∷ []) v.apps (λ us. us) (λ queue c. refl) (λ row at. refl)
    ∙ partition-at p (λ us. us) (uses_in v) ∙ at-none p (uses_in v)

-- a clock is set
pub clock-uses : (v : Rows) (p clock : ℕ) → uses_in (with_clock p clock v) ≡ uses_in v
clock-uses v p clock =
    uses-changed v p (λ row. record row { clock = clock }) v.nodes v.apps (λ us. us) (λ queue c. refl) (λ row at. refl) ∙ partition-at p (λ us. us) (uses_in v) ∙ at-none p (uses_in v)

-- ---- applications

module _ (v : Rows) (apps : List (ℕ × AppRow)) where
  abbrev pub with_apps : Rows
  with_apps = record v { apps = apps }

  -- no use changes, if containers count for the same queues
  pub uses-kept : ((p : ℕ) (row : PartitionRow) → slice_get v.partitions p ≡ Some row → AllByRecursion (λ e. lookup (nat_eq e.1.app) apps ≡ lookup (nat_eq e.1.app) v.apps) row.containers)
      → uses_in with_apps ≡ uses_in v
  uses-kept same =
      by_place-same (λ p row. uses_by v p row.containers) (λ p row. uses_by with_apps p row.containers) v.partitions
      (λ p row at. uses-same v with_apps refl p row.containers (λ queue. Each-weaker (λ (e : ℕ × Container). lookup (nat_eq e.1.app) apps ≡ lookup (nat_eq e.1.app) v.apps) (λ e. is_below with_apps queue e.1 ≡ is_below v queue e.1) (λ e is. below queue e.1 is) row.containers (same p row at)))
    where
      below : (queue : Path) (c : Container) → lookup (nat_eq c.app) apps ≡ lookup (nat_eq c.app) v.apps → is_below with_apps queue c ≡ is_below v queue c
      below queue c is = ap (λ o. option_map_or (λ (row : AppRow). is_above v.paths row.leaf queue) o false) is

-- an application changes that stays in its leaf
pub changed-uses : (v : Rows) (app : ℕ) (change : AppRow → AppRow) → ((row : AppRow) → (change row).leaf ≡ row.leaf) → uses_in (record v { apps = with_change app change v.apps }) ≡ uses_in v
changed-uses v app change keeps =
    by_place-same (λ p row. uses_by v p row.containers) (λ p row. uses_by w p row.containers) v.partitions
    (λ p row at. uses-same v w refl p row.containers (λ queue. Each-all (λ (e : ℕ × Container). is_below w queue e.1 ≡ is_below v queue e.1) (λ e. below-changed v app change keeps queue e.1) row.containers))
  where
    w : Rows
    w = record v { apps = with_change app change v.apps }

-- an application is submitted
pub submitted-uses : (v : Rows) → IsSound v → (number : ℕ) (row : AppRow) → uses_in (with_apps v (v.apps ++ (number, row) ∷ [])) ≡ uses_in v
submitted-uses v sound number new =
    uses-kept v (v.apps ++ (number, new) ∷ [])
    (λ p row at.
    each-number (λ n c. lookup (nat_eq c.app) (v.apps ++ (number, new) ∷ []) ≡ lookup (nat_eq c.app) v.apps) row.containers (sound.partitions p row at).numbers
    (λ n c found. pushed-live c.app number new v.apps ((sound.partitions p row at).each n c found).app))

-- an application that has no containers goes
pub finished-uses : (v : Rows) (app : ℕ) → OwnsNoContainers v app → uses_in (with_apps v (without app v.apps)) ≡ uses_in v
finished-uses v app none =
    uses-kept v (without app v.apps) (λ p row at. Each-weaker (λ (e : ℕ × Container). e.1.app ≢ app) (λ e. lookup (nat_eq e.1.app) (without app v.apps) ≡ lookup (nat_eq e.1.app) v.apps) (λ e apart. lookup-without-other e.1.app app v.apps apart) row.containers (none p row at))
