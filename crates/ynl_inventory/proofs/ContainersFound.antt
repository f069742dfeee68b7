-- The containers that ids find, and those of their clocks.
use Rattle.std.proofs.Common.{◌≡◌, ◌≢◌, ◌==◌, ◌&&◌, ℕ, Bool, true, false, cond, List, [], ◌∷◌, map, find, slice_get, Option, Some, None, nat_eq, refl, sym, ap, ◌∙◌, arith, inl, inr}
use Rattle.std.specs.List.{AllByRecursion}
use Rattle.std.specs.Map.{lookup}
use Rattle.std.specs.Option.{option_map_or, option_and_then}
use Rattle.std.proofs.lemmas.Bool.{cases_eq, and_from}
use Rattle.std.proofs.lemmas.Bool.Decides.{nat_tests}
use Rattle.std.proofs.lemmas.Option.{none-some, same_Some}
use Rattle.ynl_resource.specs.Names.{same_name, same_label, same_id, top_level}
use Rattle.ynl_resource.specs.declared.names.Name.{Name}
use Rattle.ynl_resource.specs.declared.labels.Label.{Label}
use Rattle.ynl_resource.specs.declared.ids.Id.{Id}
use Rattle.ynl_laws.proofs.Lists.{find-nothing, Each-map}
use Rattle.ynl_laws.proofs.Logic.{and-false}
use Rattle.ynl_laws.proofs.Names.{same-label_self, same-name_sym}
use Rattle.ynl_inventory.specs.layout.Paths.{HasNumber, path_at}
use Rattle.ynl_model.specs.declared.nodes.Node.{Node}
use Rattle.ynl_model.specs.declared.containers.Placed.{Placed}
use Rattle.ynl_model.specs.declared.queues.StopRow.{StopRow}
use Rattle.ynl_model.specs.declared.queues.MaximumRow.{MaximumRow}
use Rattle.ynl_model.specs.Cluster.{Partition, is_partition, containers_on}
use Rattle.ynl_model.specs.Events.{container_at, container_for}
use Rattle.ynl_slots.specs.Slots.{HasDistinctNumbers}
use Rattle.ynl_slots.proofs.Entries.{itself}
use Rattle.ynl_tables.specs.declared.containers.container.Container.{Container}
use Rattle.ynl_tables.specs.containers.Table.{number_at}
use Rattle.ynl_inventory.specs.Rows.{Rows, PartitionRow, NodeRow, AppRow}
use Rattle.ynl_inventory.specs.Meaning.{label_at, owner_of, placed_of, partition_of, container_with, state_of}
use Rattle.ynl_inventory.specs.Sound.{IsContainer, IsPartition, IsSound}
use Rattle.ynl_inventory.proofs.Updates.{find-number, each-number, head-found, later-found, unused-apart}
use Rattle.ynl_inventory.proofs.Clocks.{rising-numbers}
use Rattle.ynl_inventory.proofs.Finding.{not-true, own-label, containers-at, find-node, name-tells}
use Rattle.ynl_inventory.proofs.Lookups.{each-place, live-found}
use Rattle.ynl_inventory.proofs.Submitted.{app-submission}
use Rattle.ynl_inventory.proofs.Tenants.{owner-named, tenant-number, tenant-top, tenant-tells}

-- no container has a clock that has no number
pub unclocked : (clock : ℕ) (es : List (ℕ × Container)) → number_at clock es ≡ None → AllByRecursion (λ e. (e.1.clock == clock) ≡ false) es
unclocked clock [] h = tt
unclocked clock (e ∷ es) h = go (nat_eq clock e.1.clock) refl h (unclocked clock es)
  where
    go : (b : Bool) → nat_eq clock e.1.clock ≡ b → cond b (Some e.0) (number_at clock es) ≡ None
        → (number_at clock es ≡ None → AllByRecursion (λ e. (e.1.clock == clock) ≡ false) es) → ((e.1.clock == clock) ≡ false) × AllByRecursion (λ e. (e.1.clock == clock) ≡ false) es
    go true q k rest = absurd (none-some e.0 (sym k))
    go false q k rest = (grind (arith, nat_tests, q), rest k)

-- one that has a number is that of the number
pub clocked : (clock : ℕ) (es : List (ℕ × Container)) (n : ℕ) → HasDistinctNumbers es → number_at clock es ≡ Some n → (c : Container) × (lookup (nat_eq n) es ≡ Some c) × (clock ≡ c.clock)
clocked clock [] n d h = absurd (none-some n h)
clocked clock (e ∷ es) n d h = go (nat_eq clock e.1.clock) refl h (clocked clock es n d.1)
  where
    go : (b : Bool) → nat_eq clock e.1.clock ≡ b → cond b (Some e.0) (number_at clock es) ≡ Some n
        → (number_at clock es ≡ Some n → (c : Container) × (lookup (nat_eq n) es ≡ Some c) × (clock ≡ c.clock))
        → (c : Container) × (lookup (nat_eq n) (e ∷ es) ≡ Some c) × (clock ≡ c.clock)
    go true q k rest = (e.1, ap (λ m. lookup (nat_eq m) (e ∷ es)) (sym (same_Some e.0 n k)) ∙ head-found e es, grind (arith, nat_tests, q))
    go false q k rest = let is = rest k in (is.0, later-found n is.0 e es (unused-apart n e.0 is.0 es d.0 is.1) is.1, is.2)

module _ (v : Rows) (sound : IsSound v) (p : ℕ) (row : PartitionRow) (there : slice_get v.partitions p ≡ Some row) where
  is-partition : IsPartition v p row
  is-partition = sound.partitions p row there

  abbrev placed : Container → Placed
  placed c = placed_of v row.label c

  module _ (passes : Placed → Bool) (clock : ℕ) where
    abbrev test : Placed → Bool
    test x = same_id x.id (record { label = row.label; clock = clock }) && passes x

    -- the container, if it passes
    abbrev if_passes : Container → Option Placed
    if_passes c = cond (passes (placed c)) (Some (placed c)) None

    test-is : (c : Container) → c.clock ≡ clock → test (placed c) ≡ passes (placed c)
    test-is c is =
        ap (λ b. b && passes (placed c)) (and_from (same_label row.label row.label) (c.clock == clock) (same-label_self row.label) (ap (λ n. n == clock) is ∙ itself clock))

    test-fails : (c : Container) → (c.clock == clock) ≡ false → test (placed c) ≡ false
    test-fails c fails =
        ap (λ b. (same_label row.label row.label && b) && passes (placed c)) fails ∙ ap (λ b. b && passes (placed c)) (and-false (same_label row.label row.label))

    found : (n : ℕ) (c : Container) → lookup (nat_eq n) row.containers ≡ Some c → clock ≡ c.clock → (b : Bool) → passes (placed c) ≡ b
        → find test (map (λ e. placed e.1) row.containers) ≡ cond b (Some (placed c)) None
    found n c at is true holds =
        find-number placed test row.containers n c at (test-is c (sym is) ∙ holds)
        (each-number (λ m d. m ≢ n → test (placed d) ≡ false) row.containers is-partition.numbers
        (λ m d it apart.
        test-fails d (not-true (d.clock == clock) (λ same. apart (rising-numbers row.containers m n d c is-partition.rising it at (grind (arith, nat_tests, same, is)))))))
    found n c at is false fails =
        find-nothing test (map (λ e. placed e.1) row.containers)
        (Each-map (λ e. test (placed e.1) ≡ false) (λ x. test x ≡ false) (λ (e : ℕ × Container). placed e.1) (λ e h. h) row.containers
        (each-number (λ m d. test (placed d) ≡ false) row.containers is-partition.numbers none))
      where
        none : (m : ℕ) (d : Container) → lookup (nat_eq m) row.containers ≡ Some d → test (placed d) ≡ false
        none m d it =
            elim (cases_eq d.clock clock) [
              | inl same ↦
                  let numbers : m ≡ n = rising-numbers row.containers m n d c is-partition.rising it at (same ∙ is) in
                  let one : d ≡ c = same_Some d c (sym it ∙ ap (λ k. lookup (nat_eq k) row.containers) numbers ∙ at) in
                  test-is d same ∙ ap (λ (d : Container). passes (placed d)) one ∙ fails
              | inr apart ↦ test-fails d (grind (arith, nat_tests, apart))
            ]

    -- the container of an id here is that of the clock, if it passes
    pub find-id : find test (map (λ e. placed e.1) row.containers) ≡ option_and_then if_passes (container_with clock row)
    find-id = go (number_at clock row.containers) refl
      where
        go : (o : Option ℕ) → number_at clock row.containers ≡ o
            → find test (map (λ e. placed e.1) row.containers) ≡ option_and_then if_passes (option_and_then (λ n. lookup (nat_eq n) row.containers) o)
        go None is =
            find-nothing test (map (λ e. placed e.1) row.containers)
            (Each-map (λ e. (e.1.clock == clock) ≡ false) (λ x. test x ≡ false) (λ (e : ℕ × Container). placed e.1) (λ e fails. test-fails e.1 fails) row.containers
            (unclocked clock row.containers is))
        go (Some n) is =
            let its = clocked clock row.containers n is-partition.numbers is in
            found n its.0 its.1 its.2 (passes (placed its.0)) refl ∙ sym (ap (option_and_then if_passes) its.1)

  -- an id of another partition finds nothing
  pub find-no-id : (passes : Placed → Bool) (id : Id) → same_label row.label id.label ≡ false → find (λ x. same_id x.id id && passes x) (map (λ e. placed e.1) row.containers) ≡ None
  find-no-id passes id apart =
      find-nothing (λ x. same_id x.id id && passes x) (map (λ e. placed e.1) row.containers) (each row.containers)
    where
      each : (es : List (ℕ × Container)) → AllByRecursion (λ x. (same_id x.id id && passes x) ≡ false) (map (λ e. placed e.1) es)
      each [] = tt
      each (e ∷ es) = (ap (λ b. (b && (e.1.clock == id.clock)) && passes (placed e.1)) apart, each es)

  -- what is told of the container of a clock may be told by what is known of containers
  agree : (clock : ℕ) (f g : Container → Option Placed) → ((c : Container) → IsContainer v p row.clock c → f c ≡ g c) → option_and_then f (container_with clock row) ≡ option_and_then g (container_with clock row)
  agree clock f g same = at (number_at clock row.containers)
    where
      known : (o : Option Container) → ((c : Container) → o ≡ Some c → IsContainer v p row.clock c) → option_and_then f o ≡ option_and_then g o
      known None h = refl
      known (Some c) h = same c (h c refl)

      at : (o : Option ℕ) → option_and_then f (option_and_then (λ n. lookup (nat_eq n) row.containers) o) ≡ option_and_then g (option_and_then (λ n. lookup (nat_eq n) row.containers) o)
      at None = refl
      at (Some n) = known (lookup (nat_eq n) row.containers) (λ c it. is-partition.each n c it)

  module _ (stops : List StopRow) (maxima : List MaximumRow) where
    -- the container of an id, on the node of a name
    module _ (node : ℕ) (nrow : NodeRow) (found : lookup (nat_eq node) v.nodes ≡ Some nrow) (stands : nrow.partition ≡ p) where
      on-node : (id : Id) → container_at (state_of v stops maxima) nrow.name id ≡ find (λ x. same_id x.id id && same_name x.node nrow.name) (map (λ e. placed e.1) row.containers)
      on-node id =
          ap (option_and_then (λ (n : Node). find (λ x. same_id x.id id && same_name x.node nrow.name) (containers_on (state_of v stops maxima) n.label))) (find-node v sound node nrow found)
          ∙ ap (λ l. find (λ x. same_id x.id id && same_name x.node nrow.name) (containers_on (state_of v stops maxima) l)) (ap (label_at v.partitions) stands ∙ own-label v sound p row there)
          ∙ ap (find (λ x. same_id x.id id && same_name x.node nrow.name)) (containers-at v sound p row there stops maxima)

      -- is that of the clock, if it stands on the node
      pub container-at : (clock : ℕ) → container_at (state_of v stops maxima) nrow.name (record { label = row.label; clock = clock })
          ≡ option_and_then (λ c. cond (nat_eq c.node node) (Some (placed c)) None) (container_with clock row)
      container-at clock =
          on-node (record { label = row.label; clock = clock })
          ∙ find-id (λ x. same_name x.node nrow.name) clock
          ∙ agree clock (if_passes (λ x. same_name x.node nrow.name) clock) (λ c. cond (nat_eq c.node node) (Some (placed c)) None)
          (λ c is. ap (λ b. cond b (Some (placed c)) None)
          (ap (λ o. same_name (option_map_or (λ (r : NodeRow). r.name) o []) nrow.name) is.node_found ∙ name-tells v sound node nrow found c.node is.node is.node_found))

      -- and none of another partition
      pub container-not-at : (id : Id) → same_label row.label id.label ≡ false → container_at (state_of v stops maxima) nrow.name id ≡ None
      container-not-at id apart = on-node id ∙ find-no-id (λ x. same_name x.node nrow.name) id apart

    -- the container of an id, of a tenant, is that of the clock, if its application is the tenant's
    pub container-for : (clock t : ℕ) (tenant : Name) → HasNumber v.paths t → path_at v.paths t ≡ top_level tenant
        → container_for (state_of v stops maxima) tenant (record { label = row.label; clock = clock })
        ≡ option_and_then (λ c. cond (nat_eq (option_map_or (λ (r : AppRow). r.tenant) (lookup (nat_eq c.app) v.apps) 0) t) (Some (placed c)) None) (container_with clock row)
    container-for clock t tenant has is =
        ap (find (λ x. same_id x.id (record { label = row.label; clock = clock }) && same_name x.tenant tenant)) (containers-at v sound p row there stops maxima)
        ∙ find-id (λ x. same_name x.tenant tenant) clock
        ∙ agree clock (if_passes (λ x. same_name x.tenant tenant) clock) (λ c. cond (nat_eq (option_map_or (λ (r : AppRow). r.tenant) (lookup (nat_eq c.app) v.apps) 0) t) (Some (placed c)) None)
        (λ c known. ap (λ b. cond b (Some (placed c)) None) (owned c known))
      where
        owned : (c : Container) → IsContainer v p row.clock c → same_name (owner_of v c.app).0 tenant ≡ nat_eq (option_map_or (λ (r : AppRow). r.tenant) (lookup (nat_eq c.app) v.apps) 0) t
        owned c known =
            let app = live-found c.app v.apps known.app in
            ap (λ (names : Name × Name). same_name names.0 tenant) (owner-named v sound c.app app.0 app.1)
            ∙ tenant-tells v sound c.app app.0 app.1 t tenant has is
            ∙ sym (ap (λ o. nat_eq (option_map_or (λ (r : AppRow). r.tenant) o 0) t) app.1)

    -- none is a tenant's that is no top-level queue
    pub container-for-none : (clock : ℕ) (tenant : Name) → ((t : ℕ) → HasNumber v.paths t → path_at v.paths t ≢ top_level tenant)
        → container_for (state_of v stops maxima) tenant (record { label = row.label; clock = clock }) ≡ None
    container-for-none clock tenant none =
        ap (find (λ x. same_id x.id (record { label = row.label; clock = clock }) && same_name x.tenant tenant)) (containers-at v sound p row there stops maxima)
        ∙ find-id (λ x. same_name x.tenant tenant) clock
        ∙ agree clock (if_passes (λ x. same_name x.tenant tenant) clock) (λ c. None) (λ c known. ap (λ b. cond b (Some (placed c)) None) (owned c known))
        ∙ nothing (container_with clock row)
      where
        nothing : (o : Option Container) → ◌≡◌ {A = Option Placed} (option_and_then (λ c. None) o) None
        nothing None = refl
        nothing (Some c) = refl

        owned : (c : Container) → IsContainer v p row.clock c → same_name (owner_of v c.app).0 tenant ≡ false
        owned c known =
            let app = live-found c.app v.apps known.app in
            let own = app-submission v sound c.app app.0 app.1 in
            not-true (same_name (owner_of v c.app).0 tenant)
            (λ same.
            none app.0.tenant (tenant-number v sound c.app app.0 app.1)
            (ap (path_at v.paths) (sym own.tenant) ∙ tenant-top v.paths sound.tree app.0.leaf own.there own.leaf
            ∙ ap top_level (sym (ap (λ (names : Name × Name). names.0) (owner-named v sound c.app app.0 app.1)) ∙ same-name_sym (owner_of v c.app).0 tenant same)))

-- an id of no partition finds nothing
pub no-partition : (v : Rows) (label : Label) → ((p : ℕ) (row : PartitionRow) → slice_get v.partitions p ≡ Some row → same_label row.label label ≡ false)
    → (stops : List StopRow) (maxima : List MaximumRow) → containers_on (state_of v stops maxima) label ≡ []
no-partition v label none stops maxima =
    ap (λ o. option_map_or (λ (row : Partition). row.containers) o [])
    (find-nothing (is_partition label) (map (partition_of v) v.partitions)
    (Each-map (λ row. same_label row.label label ≡ false) (λ row. is_partition label row ≡ false) (partition_of v) (λ row h. h) v.partitions
    (each-place (λ row. same_label row.label label ≡ false) v.partitions none)))
