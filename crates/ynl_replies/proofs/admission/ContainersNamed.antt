-- The containers of ids, by their numbers.
use Rattle.std.proofs.Common.{◌≡◌, ◌≢◌, ℕ, Bool, true, false, cond, ◌&&◌, nat_eq, is_some, IfSome, IsSome, map, find, slice_get, Option, None, Some, refl, sym, ap, subst, ◌∙◌, arith, true≢false}
use Rattle.std.specs.Map.{lookup}
use Rattle.std.specs.Option.{option_and_then}
use Rattle.std.proofs.lemmas.Bool.Decides.{nat_tests}
use Rattle.std.proofs.lemmas.Option.{same_Some, slice_get_within}
use Rattle.ynl_resource.specs.Names.{same_id, same_label, same_name, top_level}
use Rattle.ynl_resource.specs.declared.names.Name.{Name}
use Rattle.ynl_resource.specs.declared.labels.Label.{Label}
use Rattle.ynl_resource.specs.declared.ids.Id.{Id}
use Rattle.ynl_model.specs.declared.containers.Placed.{Placed}
use Rattle.ynl_model.specs.Events.{container_at, container_for}
use Rattle.ynl_model.specs.Nodes.{has_label}
use Rattle.ynl_laws.proofs.Lists.{Each-all, Each-find}
use Rattle.ynl_laws.proofs.Names.{same-label_path, same-name_sym}
use Rattle.ynl_inventory.specs.layout.Paths.{HasNumber, IsChildOf, path_at}
use Rattle.ynl_tables.specs.declared.containers.container.Container.{Container}
use Rattle.ynl_tables.specs.declared.containers.container.Role.TheVariants.{Ask as Asked}
use Rattle.ynl_tables.specs.containers.Table.{number_at}
use Rattle.ynl_inventory.specs.Apps.{is_master_role}
use Rattle.ynl_inventory.specs.Rows.{NodeRow, PartitionRow}
use Rattle.ynl_inventory.specs.Meaning.{container_with, node_of as node_of_row, placed_of}
use Rattle.ynl_inventory.specs.Parts.{held_at}
use Rattle.ynl_inventory.specs.Sound.{HasPartition, IsFor, IsSound}
use Rattle.ynl_inventory.proofs.ContainersFound.{clocked, container-at, container-for, container-for-none, container-not-at, no-partition}
use Rattle.ynl_inventory.proofs.Finding.{not-true, own-label}
use Rattle.ynl_inventory.proofs.Lookups.{place-there}
use Rattle.ynl_cluster.specs.Cluster.{ClusterView, label_of, maxima_in, state_in, stops_in}
use Rattle.ynl_replies.specs.declared.admission.containers.Held.{Held}
use Rattle.ynl_replies.specs.admission.Named.{IsNodeNamed, IsPartitionOf, is_tenants}
use Rattle.ynl_replies.specs.admission.Admitted.{CanExit, CanRelease, IsTenants}
use Rattle.ynl_replies.proofs.admission.NodesNamed.{row-is, stands}
use Rattle.ynl_replies.proofs.admission.LabelsKnown.{label-known}

-- the node of a name has the name
pub own-name : (w : ClusterView) (name : Name) (n : ℕ) → (its : IsNodeNamed w name n) → its.row.name ≡ name
own-name w name n its =
    same-name_sym its.row.name name
    (Each-find (λ node. Unit {0}) (λ node. same_name node.name name) (map (λ e. node_of_row w.rows.partitions e.1) w.rows.nodes)
    (Each-all (λ node. Unit {0}) (λ node. tt) (map (λ e. node_of_row w.rows.partitions e.1) w.rows.nodes)) (node_of_row w.rows.partitions its.row) its.named).1

module _ (w : ClusterView) (sound : IsSound w.rows) (p : ℕ) (has : HasPartition w.rows p) (clock : ℕ) where
  its : (row : PartitionRow) × (slice_get w.rows.partitions p ≡ Some row)
  its = place-there w.rows.partitions p has

  held-is : (n : ℕ) → held_at w.rows p n ≡ lookup (nat_eq n) its.0.containers
  held-is n = ap (λ (o : Option PartitionRow). option_and_then (λ row. lookup (nat_eq n) row.containers) o) its.1

  -- the container of a clock
  abbrev pub of_clock : Option Container
  of_clock = option_and_then (container_with clock) (slice_get w.rows.partitions p)

  with-is : container_with clock its.0 ≡ of_clock
  with-is = sym (ap (option_and_then (container_with clock)) its.1)

  own : label_of w p ≡ its.0.label
  own = own-label w.rows sound p its.0 its.1

  module _ (o : Option ℕ) (read : IfSome (slice_get w.rows.partitions p) (λ row. o ≡ number_at clock row.containers)) where
    read-is : o ≡ number_at clock its.0.containers
    read-is = subst (λ (o' : Option PartitionRow). IfSome o' (λ row. o ≡ number_at clock row.containers)) its.1 read

    -- a number that is read is a container's
    pub held-there : (n : ℕ) → o ≡ Some n → IsSome (held_at w.rows p n)
    held-there n is = ap is_some (held-is n ∙ (clocked clock its.0.containers n (sound.partitions p its.0 its.1).numbers (sym read-is ∙ is)).1)

  -- the container, if it passes
  abbrev pub if_passes : (Container → Bool) → Container → Option Placed
  if_passes passes c = cond (passes c) (Some (placed_of w.rows (label_of w p) c)) None

  relabelled : (passes : Container → Bool) (o : Option Container)
      → option_and_then (λ c. cond (passes c) (Some (placed_of w.rows its.0.label c)) None) o ≡ option_and_then (if_passes passes) o
  relabelled passes o = ap (λ (l : Label). option_and_then (λ c. cond (passes c) (Some (placed_of w.rows l c)) None) o) (sym own)

  module _ (id : Id) (on : label_of w p ≡ id.label) (at : id.clock ≡ clock) where
    -- the container of an id on a node is that of the clock, if it stands there
    pub exit-told : (name : Name) (node : ℕ) → (named : IsNodeNamed w name node) → named.row.partition ≡ p
        → container_at (state_in w) name id ≡ option_and_then (if_passes (λ c. nat_eq c.node node)) of_clock
    exit-told name node named stands =
        (λ i. container_at (state_in w) (sym (own-name w name node named) i) (record { label = (sym on ∙ own) i; clock = at i }))
        ∙ container-at w.rows sound p its.0 its.1 (stops_in w) (maxima_in w) node named.row named.found stands clock
        ∙ ap (option_and_then (λ c. cond (nat_eq c.node node) (Some (placed_of w.rows its.0.label c)) None)) with-is
        ∙ relabelled (λ c. nat_eq c.node node) of_clock

    -- the container of an id and a tenant is that of the clock, if its application is the tenant's
    pub release-told : (tenant : Name) (t : ℕ) → HasNumber w.rows.paths t → path_at w.rows.paths t ≡ top_level tenant
        → container_for (state_in w) tenant id ≡ option_and_then (if_passes (λ c. is_tenants w.rows t c.app)) of_clock
    release-told tenant t there is =
        (λ i. container_for (state_in w) tenant (record { label = (sym on ∙ own) i; clock = at i }))
        ∙ container-for w.rows sound p its.0 its.1 (stops_in w) (maxima_in w) clock t tenant there is
        ∙ ap (option_and_then (λ c. cond (is_tenants w.rows t c.app) (Some (placed_of w.rows its.0.label c)) None)) with-is
        ∙ relabelled (λ c. is_tenants w.rows t c.app) of_clock

module _ (w : ClusterView) (sound : IsSound w.rows) where
  -- an id of another partition than the node's finds nothing there
  exit-elsewhere : (name : Name) (node : ℕ) → (named : IsNodeNamed w name node) (p : ℕ) → HasPartition w.rows p → named.row.partition ≡ p → (id : Id)
      → same_label (label_of w p) id.label ≡ false → container_at (state_in w) name id ≡ None
  exit-elsewhere name node named p has stands id apart =
      let its = place-there w.rows.partitions p has in
      ap (λ (name : Name). container_at (state_in w) name id) (sym (own-name w name node named))
      ∙ container-not-at w.rows sound p its.0 its.1 (stops_in w) (maxima_in w) node named.row named.found stands id
      (ap (λ l. same_label l id.label) (sym (own-label w.rows sound p its.0 its.1)) ∙ apart)

  -- nor does one of no partition
  pub release-nowhere : IsFor w.config w.rows → (tenant : Name) (id : Id) → has_label w.config.labels id.label ≡ false → container_for (state_in w) tenant id ≡ None
  release-nowhere is tenant id unknown =
      ap (find (λ container. same_id container.id id && same_name container.tenant tenant))
      (no-partition w.rows id.label
      (λ p row at.
      not-true (same_label row.label id.label)
      (λ same.
      true≢false
      (sym (label-known w.config w.rows is id.label p (slice_get_within w.rows.partitions p row at) (own-label w.rows sound p row at ∙ same-label_path row.label id.label same)) ∙ unknown)))
      (stops_in w) (maxima_in w))

  -- nor does one of a tenant that is no top-level queue
  pub release-unowned : (tenant : Name) → ((t : ℕ) → HasNumber w.rows.paths t → path_at w.rows.paths t ≢ top_level tenant)
      → (id : Id) (p : ℕ) → HasPartition w.rows p → label_of w p ≡ id.label → container_for (state_in w) tenant id ≡ None
  release-unowned tenant none id p has on =
      let its = place-there w.rows.partitions p has in
      (λ i. container_for (state_in w) tenant (record { label = (sym on ∙ own-label w.rows sound p its.0 its.1) i; clock = id.clock }))
      ∙ container-for-none w.rows sound p its.0 its.1 (stops_in w) (maxima_in w) id.clock tenant none

-- ---- on a node

module _ (w : ClusterView) (sound : IsSound w.rows) (node : ℕ) (row : NodeRow) (found : lookup (nat_eq node) w.rows.nodes ≡ Some row) (id : Id) (name : Name) (named : IsNodeNamed w name node) where
  pub has-own : HasPartition w.rows row.partition
  has-own = stands w sound name node named row found

  on-own : named.row.partition ≡ row.partition
  on-own = ap (λ (row : NodeRow). row.partition) (row-is w sound name node named row found)

  -- no container of the id stands there where the node's partition has another label
  pub exit-apart : same_label (label_of w row.partition) id.label ≡ false → container_at (state_in w) name id ≡ None
  exit-apart apart = exit-elsewhere w sound name node named row.partition has-own on-own id apart

  module _ (same : same_label (label_of w row.partition) id.label ≡ true) where
    told : container_at (state_in w) name id ≡ option_and_then (if_passes w sound row.partition has-own id.clock (λ c. nat_eq c.node node)) (of_clock w sound row.partition has-own id.clock)
    told = exit-told w sound row.partition has-own id.clock id (same-label_path (label_of w row.partition) id.label same) refl name node named on-own

    -- nor where there is none of the clock
    pub exit-none : None ≡ of_clock w sound row.partition has-own id.clock → container_at (state_in w) name id ≡ None
    exit-none none = told ∙ ap (option_and_then (if_passes w sound row.partition has-own id.clock (λ c. nat_eq c.node node))) (sym none)

    module _ (c : Container) (some : Some c ≡ of_clock w sound row.partition has-own id.clock) where
      -- nor where that one stands on another node
      pub exit-other : c.node ≢ node → container_at (state_in w) name id ≡ None
      exit-other apart =
          let fails : nat_eq c.node node ≡ false = grind (arith, nat_tests, apart) in
          told ∙ ap (option_and_then (if_passes w sound row.partition has-own id.clock (λ c. nat_eq c.node node))) (sym some)
          ∙ ap (λ b. cond b (Some (placed_of w.rows (label_of w row.partition) c)) None) fails

      -- else it is that one
      pub exit-can : (n : ℕ) → held_at w.rows row.partition n ≡ Some c → c.node ≡ node → CanExit w name id (record { partition = row.partition; number = n })
      exit-can n held same = record {
        container = c;
        found = record { there = has-own; found = held };
        named =
            let passes : nat_eq c.node node ≡ true = grind (arith, nat_tests, same) in
            told ∙ ap (option_and_then (if_passes w sound row.partition has-own id.clock (λ c. nat_eq c.node node))) (sym some)
            ∙ ap (λ b. cond b (Some (placed_of w.rows (label_of w row.partition) c)) None) passes;
      }

-- ---- of a tenant

module _ (w : ClusterView) (sound : IsSound w.rows) (tenant : Name) (t : ℕ) (child : IsChildOf w.rows.paths 0 tenant t) (id : Id) (p : ℕ) (on : IsPartitionOf w id.label p) where
  told-of : container_for (state_in w) tenant id ≡ option_and_then (if_passes w sound p on.there id.clock (λ c. is_tenants w.rows t c.app)) (of_clock w sound p on.there id.clock)
  told-of = release-told w sound p on.there id.clock id on.own refl tenant t child.there child.path

  -- the tenant has no container of the id where there is none of the clock
  pub release-none : None ≡ of_clock w sound p on.there id.clock → container_for (state_in w) tenant id ≡ None
  release-none none = told-of ∙ ap (option_and_then (if_passes w sound p on.there id.clock (λ c. is_tenants w.rows t c.app))) (sym none)

  module _ (c : Container) (some : Some c ≡ of_clock w sound p on.there id.clock) where
    is-that : container_for (state_in w) tenant id ≡ cond (is_tenants w.rows t c.app) (Some (placed_of w.rows (label_of w p) c)) None
    is-that = told-of ∙ ap (option_and_then (if_passes w sound p on.there id.clock (λ c. is_tenants w.rows t c.app))) (sym some)

    -- nor where that one is another tenant's
    pub release-other : is_tenants w.rows t c.app ≡ false → container_for (state_in w) tenant id ≡ None
    release-other apart = is-that ∙ ap (λ b. cond b (Some (placed_of w.rows (label_of w p) c)) None) apart

    -- else it is that one
    pub release-can : (n : ℕ) → held_at w.rows p n ≡ Some c → is_tenants w.rows t c.app ≡ true → IsTenants w tenant id (record { partition = p; number = n })
    release-can n held same = record {
      container = c;
      found = record { there = on.there; found = held };
      named = is-that ∙ ap (λ b. cond b (Some (placed_of w.rows (label_of w p) c)) None) same;
    }

-- a container that was asked for may be given back
pub release-asked : (w : ClusterView) (tenant : Name) (id : Id) (held : Held) → (its : IsTenants w tenant id held) → (c : Container) → held_at w.rows held.partition held.number ≡ Some c
    → (p priority : ℕ) → c.role ≡ Asked p priority → CanRelease w tenant id held
release-asked w tenant id held its c read p priority is = record {
  its = its;
  asked = ap (λ (c : Container). is_master_role c.role) (same_Some its.container c (sym its.found.found ∙ read)) ∙ ap is_master_role is;
}
