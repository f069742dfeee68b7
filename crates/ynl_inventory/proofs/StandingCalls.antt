-- A container comes to stand: what the calls ask for and leave.
use Rattle.std.proofs.Common.{◌≡◌, ℕ, List, IfSome, map, length, get_or, slice_get, Some, nat_eq, refl, sym, ap, subst, ◌∙◌}
use Rattle.std.specs.Prelude.{slice_set}
use Rattle.std.specs.Map.{lookup}
use Rattle.std.proofs.lemmas.Option.{slice_get_read}
use Rattle.ynl_resource.specs.Amounts.{less}
use Rattle.ynl_slots.specs.Slots.{Numbered, IsLive, IsUnused, with_row}
use Rattle.ynl_slots.specs.declared.chain.Chain.{Chain}
use Rattle.ynl_tables.specs.declared.nodes.nodes.NodeRow.{NodeRow as NodePart}
use Rattle.ynl_tables.specs.declared.apps.app.AppRow.{AppRow as AppPart}
use Rattle.ynl_tables.specs.apps.Apps.{with_change, with_app}
use Rattle.ynl_tables.specs.apps.Chains.{chain_of}
use Rattle.ynl_tables.specs.containers.Table.{Table, IsAbove}
use Rattle.ynl_tables.specs.containers.Chains.{IsNodeChain, IsAppChain}
use Rattle.ynl_tables.specs.containers.Fields.{of_rows}
use Rattle.ynl_inventory.specs.declared.partition.Placement.{Placement}
use Rattle.ynl_inventory.specs.declared.partition.Partition.{Partition}
use Rattle.ynl_inventory.specs.declared.inventory.Inventory.TheInside.{Inside}
use Rattle.ynl_inventory.specs.Rows.{Rows}
use Rattle.ynl_inventory.specs.Changes.{partition_of_node, with_stood}
use Rattle.ynl_inventory.specs.Apps.{containers_of}
use Rattle.ynl_inventory.specs.Sound.{IsSound}
use Rattle.ynl_inventory.specs.Parts.{Held, held_of, partition_row, node_row, app_row, placed_on, owned_part, AreLinked, HasMorePlaces, IsInventory, CanStand}
use Rattle.ynl_inventory.proofs.AskParts.{placed-held, placed-inventory}
use Rattle.ynl_inventory.proofs.ChainsRead.{containers-are, node-partition}
use Rattle.ynl_inventory.proofs.ComingParts.{AreThere, app-live, stands, app-chain}
use Rattle.ynl_inventory.proofs.RoomParts.{room-rows, room-linked}
use Rattle.ynl_inventory.proofs.HoldingParts.{IsHeld, held-reserved}
use Rattle.ynl_inventory.proofs.StandingParts.{coming, is-above, stood-rows, stood-rows-sound, stood-linked}

-- what is required, of the parts
pub able : (a : Inside) (h : Held) (placed : Placement) (clock : ℕ) → held_of a ≡ h → CanStand h.rows placed clock → CanStand (held_of a).rows placed clock
able a h placed clock view required = subst (λ (h : Held). CanStand h.rows placed clock) (sym view) required

-- ---- with a place for the chain

module _ (a : Inside) (h : Held) (placed : Placement) (clock : ℕ) (view : held_of a ≡ h) (inv : IsInventory a) (required : CanStand h.rows placed clock)
    (apps' : Numbered AppPart) (more : HasMorePlaces placed.app a.apps apps') where
  abbrev mid : Inside
  mid = record a { apps = apps' }

  mid-inv : IsInventory mid
  mid-inv = placed-inventory a inv placed.app apps' more

  mid-view : held_of mid ≡ h
  mid-view = placed-held a inv placed.app apps' more ∙ view

  mid-able : CanStand (held_of mid).rows placed clock
  mid-able = able mid h placed clock mid-view required

  abbrev mid-are : AreThere (held_of mid).rows placed.node placed.app
  mid-are = coming (held_of mid).rows placed clock mid-able

  -- the rows stay
  pub mid-rows : (held_of mid).rows ≡ h.rows
  mid-rows = ap (λ (h : Held). h.rows) mid-view

  -- the application is still there
  pub mid-live : IsLive placed.app apps'.entries
  mid-live = app-live mid placed.node placed.app mid-are

  module _ (row : NodePart) (at : lookup (nat_eq placed.node) a.nodes.entries ≡ Some row) (part : Partition) (read : part ≡ get_or a.partitions.items row.partition part) where
    -- the partition that was read
    pub there : slice_get a.partitions.items row.partition ≡ Some part
    there = slice_get_read a.partitions.items (length a.partitions.items) row.partition part refl (node-partition a inv placed.node row at) read

    -- ---- with room

    module _ (reserved : Partition) (own : reserved ≡ record part { containers = reserved.containers }) (same : reserved.containers ≡ record part.containers { room = reserved.containers.room }) where
      abbrev rows_reserved : Rows
      rows_reserved = record (held_of mid).rows { partitions = map partition_row (slice_set a.partitions.items row.partition reserved) }

      -- the rows stay, and the invariant holds
      reserved-same : rows_reserved ≡ (held_of mid).rows
      reserved-same = ap (λ rows. record (held_of mid).rows { partitions = rows }) (room-rows a.partitions.items row.partition part reserved there same own)

      pub reserved-rows : rows_reserved ≡ h.rows
      reserved-rows = reserved-same ∙ mid-rows

      pub reserved-sound : IsSound rows_reserved
      reserved-sound = subst IsSound (sym reserved-same) mid-inv.sound

      pub reserved-linked : AreLinked (slice_set a.partitions.items row.partition reserved) a.nodes.entries apps'.entries
      reserved-linked =
          room-linked a.partitions.items row.partition part reserved there same (ap (λ (x : Partition). x.guests) own) a.nodes.entries apps'.entries mid-inv.linked

      -- what the call asks for
      pub above : IsAbove clock reserved.containers.entries
      above = subst (λ (t : Table). IsAbove clock t.entries) (sym same) (is-above mid mid-inv placed clock mid-able row at part there)

      pub of-node : IsNodeChain reserved.containers row.containers placed.node
      of-node = subst (λ (t : Table). IsNodeChain t row.containers placed.node) (sym same) (mid-inv.linked.node placed.node row part at there)

      pub of-app : (chain : Chain) → IfSome (lookup (nat_eq placed.app) apps'.entries) (λ r. chain ≡ chain_of row.partition r.chains) → IsAppChain reserved.containers chain placed.app
      of-app chain is = subst (λ (t : Table). IsAppChain t chain placed.app) (sym same) (app-chain mid placed.node placed.app mid-are row at part there mid-inv chain is)

      -- ---- with the container

      module _ (number : ℕ) (new : Partition) (of_node of_app : Chain) (ticks : new.clock ≡ reserved.clock) (held : IsHeld placed clock number reserved new of_node of_app)
          (nodes' : List (ℕ × NodePart)) (apps'' : Numbered AppPart)
          (nodes-are : nodes' ≡ with_change placed.node (λ r. record r { containers = of_node; stamp = row.stamp; free = less r.free placed.size }) a.nodes.entries)
          (apps-are : apps'' ≡ with_app placed.app (λ r. owned_part placed.role number (record r { chains = with_row row.partition of_app r.chains })) apps')
          (chained : IfSome (lookup (nat_eq placed.app) apps''.entries) (λ r. chain_of row.partition r.chains ≡ of_app)) where
        is : IsHeld placed clock number part new of_node of_app
        is = held-reserved placed clock number part reserved new of_node of_app own same held

        still : new.clock ≡ part.clock
        still = ticks ∙ ap (λ (x : Partition). x.clock) own

        abbrev rows_after : Rows
        rows_after = record (held_of mid).rows {
          partitions = map partition_row (slice_set a.partitions.items row.partition new);
          nodes = of_rows node_row nodes';
          apps = of_rows app_row apps''.entries;
        }

        pub after-rows : rows_after ≡ with_stood (partition_of_node h.rows.nodes placed.node) number (placed_on placed clock) h.rows
        after-rows =
            stood-rows mid mid-inv placed clock mid-able row at part there number new of_node of_app still is nodes' apps'' nodes-are apps-are chained
            ∙ ap (λ (h : Held). with_stood (partition_of_node h.rows.nodes placed.node) number (placed_on placed clock) h.rows) mid-view

        pub after-sound : IsSound rows_after
        after-sound = stood-rows-sound mid mid-inv placed clock mid-able row at part there number new of_node of_app still is nodes' apps'' nodes-are apps-are chained

        pub after-linked : AreLinked (slice_set a.partitions.items row.partition new) nodes' apps''.entries
        after-linked = stood-linked mid mid-inv placed clock mid-able row at part there number new of_node of_app still is nodes' apps'' nodes-are apps-are chained

        pub after-unused : IsUnused number (containers_of h.rows (partition_of_node h.rows.nodes placed.node))
        after-unused =
            subst (λ (h : Held). IsUnused number (containers_of h.rows (partition_of_node h.rows.nodes placed.node))) mid-view
            (subst (λ es. IsUnused number es)
            (sym
            (ap (containers_of (held_of mid).rows) (stands mid placed.node placed.app mid-are row at)
            ∙ containers-are mid row.partition part there))
            is.unused)
