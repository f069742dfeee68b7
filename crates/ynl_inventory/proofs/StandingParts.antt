-- A container comes to stand: what the parts give before, and how they go together after.
use Rattle.std.proofs.Common.{◌≡◌, ℕ, true, find, IfSome, List, [], ◌∷◌, ◌++◌, map, slice_get, Some, None, nat_eq, refl, sym, ap, subst, ◌∙◌, true≢false}
use Rattle.std.specs.Prelude.{slice_set}
use Rattle.std.specs.Map.{lookup}
use Rattle.std.proofs.lemmas.Option.{same_Some}
use Rattle.ynl_resource.specs.Amounts.{less}
use Rattle.ynl_slots.specs.Slots.{Numbered, IsUnused, with_row}
use Rattle.ynl_slots.specs.declared.chain.Chain.{Chain}
use Rattle.ynl_tables.specs.declared.nodes.nodes.NodeRow.{NodeRow as NodePart}
use Rattle.ynl_tables.specs.declared.apps.app.AppRow.{AppRow as AppPart}
use Rattle.ynl_tables.specs.apps.Apps.{with_change, with_app}
use Rattle.ynl_tables.specs.apps.Chains.{chain_of}
use Rattle.ynl_tables.specs.declared.containers.container.Role.{Role}
use Rattle.ynl_tables.specs.declared.containers.container.Role.TheVariants.{Master, Ask as Asked}
use Rattle.ynl_tables.specs.containers.Table.{IsAbove}
use Rattle.ynl_tables.specs.containers.Fields.{of_rows}
use Rattle.ynl_inventory.specs.declared.partition.Placement.{Placement}
use Rattle.ynl_inventory.specs.declared.partition.Partition.{Partition}
use Rattle.ynl_inventory.specs.declared.inventory.Inventory.TheInside.{Inside}
use Rattle.ynl_inventory.specs.Rows.{Rows, PartitionRow, NodeRow, AppRow}
use Rattle.ynl_inventory.specs.Changes.{with_at, partition_of_node, with_stood}
use Rattle.ynl_inventory.specs.Apps.{is_master_role, is_master_of}
use Rattle.ynl_inventory.specs.Sound.{MayHave, IsSound}
use Rattle.ynl_inventory.specs.Parts.{held_of, partition_row, node_row, app_row, placed_on, owned_part, AreLinked, IsInventory, CanStand}
use Rattle.ynl_inventory.proofs.ComingParts.{AreThere, is-owner, row-at, is-on, stands, has-free, is-part}
use Rattle.ynl_inventory.proofs.Updates.{each-number}
use Rattle.ynl_inventory.proofs.Standing.{none-yet, stood-sound}
use Rattle.ynl_inventory.proofs.PartLists.{map-set, of_rows-changed, of_rows-kept}
use Rattle.ynl_inventory.proofs.HoldingParts.{IsHeld, IsOwning, held-linked}
use Rattle.ynl_inventory.proofs.DroppingParts.{changed-none}

-- ---- before

-- the node and the application are there
abbrev pub coming : (v : Rows) (placed : Placement) (clock : ℕ) → CanStand v placed clock → AreThere v placed.node placed.app
coming v placed clock can = record {
  on = can.standable.node_row;
  on_found = can.standable.node_found;
  partition = can.standable.partition;
  partition_found = can.standable.partition_found;
  owner = can.standable.app_row;
  owner_found = can.standable.app_found;
}

module _ (a : Inside) (inv : IsInventory a) (placed : Placement) (clock : ℕ) (can : CanStand (held_of a).rows placed clock) (row : NodePart) (at : lookup (nat_eq placed.node) a.nodes.entries ≡ Some row) where
  abbrev v : Rows
  v = (held_of a).rows

  abbrev are : AreThere v placed.node placed.app
  are = coming v placed clock can

  module _ (part : Partition) (there : slice_get a.partitions.items row.partition ≡ Some part) where
    own-part : partition_row part ≡ can.standable.partition
    own-part = is-part a placed.node placed.app are row at part there

    -- the container is later than all there
    pub is-above : IsAbove clock part.containers.entries
    is-above = subst (λ (r : PartitionRow). IsAbove clock r.containers) (sym own-part) can.standable.last

    -- a master stands at home, where its application has none
    pub at-home : is_master_role placed.role ≡ true → (r : AppPart) → lookup (nat_eq placed.app) a.apps.entries ≡ Some r → r.home ≡ row.partition
    at-home master r found =
        ap (λ (r : AppRow). r.home) (is-owner a placed.node placed.app are r found) ∙ go placed.role can.standable.role master
        ∙ ap (λ (r : NodeRow). r.partition) (sym (is-on a placed.node placed.app are row at))
      where
        go : (s : Role) → MayHave v placed.app can.standable.node_row.partition can.standable.partition.guests can.standable.app_row s → is_master_role s ≡ true
            → can.standable.app_row.home ≡ can.standable.node_row.partition
        go Master may is = may.0
        go (Asked asked priority) may is = absurd (true≢false (sym is))

    pub none-there : (number : ℕ) → is_master_role placed.role ≡ true → find (is_master_of placed.app) part.containers.entries ≡ None
    none-there number master =
        ap (λ (r : PartitionRow). find (is_master_of placed.app) r.containers) own-part ∙ none-yet v inv.sound number placed clock can.standable master

-- ---- after

owning : (r : Role) (number p : ℕ) (chain : Chain) → IsOwning r number p chain (λ part. owned_part r number (record part { chains = with_row p chain part.chains }))
owning Master number p chain = record { home = λ part. refl; chains = λ part. refl; master = λ is part. refl; other = λ fails part. absurd (true≢false fails); asks = λ P part each. each }
owning (Asked q priority) number p chain = record { home = λ part. refl; chains = λ part. refl; master = λ is part. absurd (true≢false (sym is)); other = λ fails part. refl; asks = λ P part each. each }

-- an application's row stays
owned-row : (r : Role) (number : ℕ) (chains : List (ℕ × Chain) → List (ℕ × Chain)) (part : AppPart) → app_row (owned_part r number (record part { chains = chains part.chains })) ≡ app_row part
owned-row Master number chains part = refl
owned-row (Asked p priority) number chains part = refl

module _ (a : Inside) (inv : IsInventory a) (placed : Placement) (clock : ℕ) (can : CanStand (held_of a).rows placed clock) (row : NodePart) (at : lookup (nat_eq placed.node) a.nodes.entries ≡ Some row)
    (part : Partition) (there : slice_get a.partitions.items row.partition ≡ Some part)
    (number : ℕ) (new : Partition) (of_node of_app : Chain) (ticks : new.clock ≡ part.clock) (is : IsHeld placed clock number part new of_node of_app)
    (nodes' : List (ℕ × NodePart)) (apps' : Numbered AppPart)
    (nodes-are : nodes' ≡ with_change placed.node (λ r. record r { containers = of_node; stamp = row.stamp; free = less r.free placed.size }) a.nodes.entries)
    (apps-are : apps' ≡ with_app placed.app (λ r. owned_part placed.role number (record r { chains = with_row row.partition of_app r.chains })) a.apps)
    (chained : IfSome (lookup (nat_eq placed.app) apps'.entries) (λ r. chain_of row.partition r.chains ≡ of_app)) where
  abbrev before : Rows
  before = (held_of a).rows

  abbrev p : ℕ
  p = partition_of_node before.nodes placed.node

  abbrev push : PartitionRow → PartitionRow
  push r = record r { containers = r.containers ++ (number, placed_on placed clock) ∷ [] }

  abbrev used_one : NodePart → NodePart
  used_one r = record r { containers = of_node; stamp = row.stamp; free = less r.free placed.size }

  abbrev owned_one : AppPart → AppPart
  owned_one r = owned_part placed.role number (record r { chains = with_row row.partition of_app r.chains })

  abbrev rows_after : Rows
  rows_after = record {
    paths = a.layout;
    partitions = map partition_row (slice_set a.partitions.items row.partition new);
    nodes = of_rows node_row nodes';
    apps = of_rows app_row apps'.entries;
    tenants = before.tenants;
    users = a.users;
  }

  -- the rows are those with the container
  pub stood-rows : rows_after ≡ with_stood p number (placed_on placed clock) before
  stood-rows = λ i. record { paths = a.layout; partitions = partitions i; nodes = nodes i; apps = apps i; tenants = before.tenants; users = a.users }
    where
      partitions : map partition_row (slice_set a.partitions.items row.partition new) ≡ with_at p push before.partitions
      partitions =
          map-set partition_row push a.partitions.items row.partition part new there
          (λ i. record { label = is.label i; guests = is.guests i; limit = is.limit i; clock = ticks i; containers = is.entries i })
          ∙ ap (λ q. with_at q push before.partitions) (sym (stands a placed.node placed.app (coming before placed clock can) row at))

      stamped : (n : ℕ) (r : NodeRow) → lookup (nat_eq n) before.nodes ≡ Some r → n ≡ placed.node → record r { stamp = row.stamp } ≡ r
      stamped n r its same =
          let own : node_row row ≡ r = same_Some (node_row row) r (sym (row-at a placed.node placed.app (coming before placed clock can) row at) ∙ ap (λ m. lookup (nat_eq m) before.nodes) (sym same) ∙ its) in
          λ i. record r { stamp = ap (λ (r : NodeRow). r.stamp) own i }

      nodes : of_rows node_row nodes' ≡ before.nodes
      nodes =
          ap (of_rows node_row) nodes-are ∙ of_rows-changed node_row used_one (λ r. record r { stamp = row.stamp }) placed.node a.nodes.entries (λ r. refl)
          ∙ changed-none placed.node (λ r. record r { stamp = row.stamp }) before.nodes
          (each-number (λ n r. n ≡ placed.node → record r { stamp = row.stamp } ≡ r) before.nodes inv.sound.node_numbers stamped)

      apps : of_rows app_row apps'.entries ≡ before.apps
      apps =
          ap (λ (apps : Numbered AppPart). of_rows app_row apps.entries) apps-are
          ∙ of_rows-kept app_row owned_one placed.app a.apps.entries (λ r. owned-row placed.role number (with_row row.partition of_app) r)

  unused-there : IsUnused number can.standable.partition.containers
  unused-there = subst (λ (r : PartitionRow). IsUnused number r.containers) (own-part a inv placed clock can row at part there) is.unused

  -- the invariant holds
  pub stood-rows-sound : IsSound rows_after
  stood-rows-sound = subst IsSound (sym stood-rows) (stood-sound before inv.sound number placed clock can.standable unused-there)

  pub stood-linked : AreLinked (slice_set a.partitions.items row.partition new) nodes' apps'.entries
  stood-linked =
      subst (λ (apps : Numbered AppPart). AreLinked (slice_set a.partitions.items row.partition new) nodes' apps.entries) (sym apps-are)
      (subst (λ nodes. AreLinked (slice_set a.partitions.items row.partition new) nodes (with_change placed.app owned_one a.apps.entries)) (sym nodes-are)
      (held-linked a inv placed row at part there (has-free a placed.node placed.app (coming before placed clock can) row at inv placed.size can.fits) (at-home a inv placed clock can row at part there)
      (none-there a inv placed clock can row at part there number) clock number new of_node of_app is row.stamp owned_one (owning placed.role number row.partition of_app)
      (subst (λ (apps : Numbered AppPart). IfSome (lookup (nat_eq placed.app) apps.entries) (λ r. chain_of row.partition r.chains ≡ of_app)) apps-are chained)))
