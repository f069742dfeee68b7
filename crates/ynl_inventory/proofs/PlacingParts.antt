-- A container is placed: what the parts give before, and how they go together after.
use Rattle.std.proofs.Common.{◌≡◌, ◌<◌, ◌+◌, ◌^◌, ℕ, true, cond, find, nat_lt, IfSome, List, [], ◌∷◌, ◌++◌, map, slice_get, Some, None, option_map, nat_eq, refl, sym, ap, subst, ◌∙◌, arith, inl, inr, true≢false}
use mathlib.Core.Logic.{◌⊎◌}
use Rattle.std.specs.Prelude.{slice_set}
use Rattle.std.specs.Map.{lookup}
use Rattle.std.specs.Option.{option_map_or}
use Rattle.std.proofs.lemmas.Bool.Decides.{nat_tests}
use Rattle.std.proofs.lemmas.Option.{slice_get-map}
use Rattle.ynl_resource.specs.Amounts.{less}
use Rattle.ynl_slots.specs.Slots.{Numbered, IsLive, IsUnused, with_row}
use Rattle.ynl_slots.specs.declared.chain.Chain.{Chain}
use Rattle.ynl_slots.proofs.Lists.{all_from}
use Rattle.ynl_tables.specs.declared.nodes.nodes.NodeRow.{NodeRow as NodePart}
use Rattle.ynl_tables.specs.declared.apps.app.AppRow.{AppRow as AppPart}
use Rattle.ynl_tables.specs.apps.Apps.{with_change, with_app}
use Rattle.ynl_tables.specs.apps.Chains.{chain_of}
use Rattle.ynl_tables.specs.declared.containers.container.Container.{Container}
use Rattle.ynl_tables.specs.declared.containers.container.Role.{Role}
use Rattle.ynl_tables.specs.declared.containers.container.Role.TheVariants.{Master, Ask as Asked}
use Rattle.ynl_tables.specs.containers.Table.{IsAbove}
use Rattle.ynl_tables.specs.containers.Fields.{of_rows}
use Rattle.ynl_tables.proofs.containers.Rows.{lookup-of_rows}
use Rattle.ynl_tables.proofs.containers.Removing.{at_live}
use Rattle.ynl_inventory.specs.declared.partition.Placement.{Placement}
use Rattle.ynl_inventory.specs.declared.partition.Partition.{Partition}
use Rattle.ynl_inventory.specs.declared.inventory.Inventory.TheInside.{Inside}
use Rattle.ynl_inventory.specs.Rows.{Rows, PartitionRow, NodeRow, AppRow}
use Rattle.ynl_inventory.specs.Changes.{with_at, ticked, next_clock, next_clock_at, next_container, partition_of_node, with_taken, with_placed}
use Rattle.ynl_inventory.specs.Apps.{is_master_role, is_master_of}
use Rattle.ynl_inventory.specs.Sound.{CanTake, IsAskedOn, IsApp, IsSound, IsPartition}
use Rattle.ynl_inventory.specs.Parts.{Held, held_of, partition_row, node_row, app_row, placed_on, taken_part, HasGuestPlaces, HasPlaces, AreLinked, IsInventory, CanPlace}
use Rattle.ynl_inventory.proofs.ComingParts.{AreThere, is-owner, is-on, stands, has-free, part-at, is-part}
use Rattle.ynl_inventory.proofs.Asked.{ask-there, one-taken}
use Rattle.ynl_inventory.proofs.Placing.{none-yet, placed-sound}
use Rattle.ynl_inventory.proofs.PartLists.{map-set, of_rows-changed}
use Rattle.ynl_inventory.proofs.HoldingParts.{IsHeld, IsOwning, held-linked}
use Rattle.ynl_inventory.proofs.Updates.{each-number}

-- ---- before

-- the node and the application are there
abbrev pub coming : (h : Held) (placed : Placement) → CanPlace h placed → AreThere h.rows placed.node placed.app
coming h placed can = record {
  on = can.placeable.node_row;
  on_found = can.placeable.node_found;
  partition = can.placeable.partition;
  partition_found = can.placeable.partition_found;
  owner = can.placeable.app_row;
  owner_found = can.placeable.app_found;
}

module _ (a : Inside) (inv : IsInventory a) (placed : Placement) (can : CanPlace (held_of a) placed) (row : NodePart) (at : lookup (nat_eq placed.node) a.nodes.entries ≡ Some row) where
  abbrev v : Rows
  v = (held_of a).rows

  abbrev are : AreThere v placed.node placed.app
  are = coming (held_of a) placed can

  module _ (part : Partition) (there : slice_get a.partitions.items row.partition ≡ Some part) where
    own-part : partition_row part ≡ can.placeable.partition
    own-part = is-part a placed.node placed.app are row at part there

    is-partition : IsPartition v row.partition (partition_row part)
    is-partition = inv.sound.partitions row.partition (partition_row part) (part-at a placed.node placed.app are row at part there)

    pub has-room : 0 < part.containers.room
    has-room =
        at_live (λ room. 0 < room) (slice_get (held_of a).rooms (partition_of_node v.nodes placed.node)) part.containers.room can.room
        (ap (slice_get (held_of a).rooms) (stands a placed.node placed.app are row at) ∙ slice_get-map (λ (part : Partition). part.containers.room) a.partitions.items row.partition
        ∙ ap (option_map (λ (part : Partition). part.containers.room)) there)

    pub still-rises : part.clock < part.limit
    still-rises = subst (λ (r : PartitionRow). r.clock < r.limit) (sym own-part) can.placeable.rises

    pub is-above : IsAbove (part.clock + 1) part.containers.entries
    is-above =
        each-number (λ n c. c.clock < part.clock + 1) part.containers.entries is-partition.numbers (λ n c found. omega (arith, (is-partition.each n c found).clock))

    module _ (arow : AppPart) (app-at : lookup (nat_eq placed.app) a.apps.entries ≡ Some arow) where
      app-row-at : lookup (nat_eq placed.app) v.apps ≡ Some (app_row arow)
      app-row-at = lookup-of_rows app_row placed.app a.apps.entries ∙ ap (option_map app_row) app-at

      its : IsApp v placed.app (app_row arow)
      its = inv.sound.apps placed.app (app_row arow) app-row-at

      places : HasPlaces a.partitions.items arow
      places = inv.linked.places placed.app arow app-at

      takes : CanTake v placed.app row.partition part.guests (app_row arow) placed.role
      takes =
          subst (λ (r : AppRow). CanTake v placed.app row.partition part.guests r placed.role) (sym (is-owner a placed.node placed.app are arow app-at))
          (subst (λ (r : PartitionRow). CanTake v placed.app row.partition r.guests can.placeable.app_row placed.role) (sym own-part)
          (subst (λ (r : NodeRow). CanTake v placed.app r.partition can.placeable.partition.guests can.placeable.app_row placed.role) (sym (is-on a placed.node placed.app are row at)) can.placeable.role))

      -- the application has a place for the chain: at home, where it asks, or where it comes as a guest
      pub has-place : row.partition < 2 ^ 8 → IsLive row.partition arow.chains
      has-place small = go placed.role takes
        where
          at-own : (p : ℕ) → IsAskedOn arow.home p → IsLive p arow.chains
          at-own p (inl home) = subst (λ p. IsLive p arow.chains) (sym home) places.home
          at-own p (inr default) = subst (λ p. IsLive p arow.chains) (sym default) places.default

          go : (s : Role) → CanTake v placed.app row.partition part.guests (app_row arow) s → IsLive row.partition arow.chains
          go Master can = subst (λ p. IsLive p arow.chains) can.0 places.home
          go (Asked asked priority) can = on can.1
            where
              on : (asked ≡ row.partition) ⊎ ((asked ≡ 0) × (part.guests ≡ true)) → IsLive row.partition arow.chains
              on (inl same) =
                  subst (λ p. IsLive p arow.chains) same
                  (at-own asked (ask-there (IsAskedOn arow.home) asked priority arow.asks (all_from (λ ask. IsAskedOn arow.home ask.partition) arow.asks its.asked) can.0))
              on (inr guest) =
                  ask-there (λ p. p ≡ 0 → HasGuestPlaces a.partitions.items arow.chains) asked priority arow.asks places.guests can.0 guest.0 row.partition part small there guest.1

-- ---- after

-- an application's part changes as its row
taken-row : (r : Role) (number : ℕ) (chains : List (ℕ × Chain) → List (ℕ × Chain)) (part : AppPart)
    → app_row (taken_part r number (record part { chains = chains part.chains })) ≡ with_taken r (app_row part)
taken-row Master number chains part = refl
taken-row (Asked p priority) number chains part = refl

-- and owns one container more
taking : (r : Role) (number p : ℕ) (chain : Chain) → IsOwning r number p chain (λ part. taken_part r number (record part { chains = with_row p chain part.chains }))
taking Master number p chain = record { home = λ part. refl; chains = λ part. refl; master = λ is part. refl; other = λ fails part. absurd (true≢false fails); asks = λ P part each. each }
taking (Asked q priority) number p chain = record {
  home = λ part. refl;
  chains = λ part. refl;
  master = λ is part. absurd (true≢false (sym is));
  other = λ fails part. refl;
  asks = λ P part each. one-taken P q priority part.asks each;
}

-- what `Partition::place` leaves
pub record IsPlaced (placed : Placement) (number : ℕ) (old new : Partition) (of_node of_app : Chain) : Type 0 where
  pub clock : new.clock ≡ old.clock + 1
  pub held : IsHeld placed (old.clock + 1) number old new of_node of_app

module _ (a : Inside) (inv : IsInventory a) (placed : Placement) (can : CanPlace (held_of a) placed) (row : NodePart) (at : lookup (nat_eq placed.node) a.nodes.entries ≡ Some row)
    (part : Partition) (there : slice_get a.partitions.items row.partition ≡ Some part)
    (number : ℕ) (new : Partition) (of_node of_app : Chain) (is : IsPlaced placed number part new of_node of_app)
    (chained : IfSome (lookup (nat_eq placed.app) (with_change placed.app (λ r. taken_part placed.role number (record r { chains = with_row row.partition of_app r.chains })) a.apps.entries)) (λ r. chain_of row.partition r.chains ≡ of_app)) where
  abbrev used_one : NodePart → NodePart
  used_one r = record r { containers = of_node; stamp = new.clock; free = less r.free placed.size }

  abbrev taken_one : AppPart → AppPart
  taken_one r = taken_part placed.role number (record r { chains = with_row row.partition of_app r.chains })

  abbrev before : Rows
  before = (held_of a).rows

  abbrev p : ℕ
  p = partition_of_node before.nodes placed.node

  p-is : p ≡ row.partition
  p-is = stands a placed.node placed.app (coming (held_of a) placed can) row at

  clock-is : next_clock_at before.partitions p ≡ part.clock + 1
  clock-is =
      let yes : nat_lt part.clock part.limit ≡ true = let rises = still-rises a inv placed can row at part there in grind (arith, nat_tests, rises) in
      ap (λ o. option_map_or next_clock o 0) (ap (slice_get before.partitions) p-is ∙ part-at a placed.node placed.app (coming (held_of a) placed can) row at part there)
      ∙ ap (λ b. cond b (part.clock + 1) part.clock) yes

  next-is : placed_on placed (part.clock + 1) ≡ next_container before placed.node placed.app placed.role placed.size
  next-is = λ i. placed_on placed (sym clock-is i)

  abbrev push : List (ℕ × Container) → List (ℕ × Container)
  push = λ containers. containers ++ (number, next_container before placed.node placed.app placed.role placed.size) ∷ []

  part-is : partition_row new ≡ ticked push (partition_row part)
  part-is = λ i. record { label = is.held.label i; guests = is.held.guests i; limit = is.held.limit i; clock = ticks i; containers = (is.held.entries ∙ (λ j. part.containers.entries ++ (number, next-is j) ∷ [])) i }
    where
      ticks : new.clock ≡ next_clock (partition_row part)
      ticks = is.clock ∙ sym clock-is ∙ ap (λ o. option_map_or next_clock o 0) (ap (slice_get before.partitions) p-is ∙ part-at a placed.node placed.app (coming (held_of a) placed can) row at part there)

  -- the rows are those with the container placed
  pub rows-placed : ◌≡◌ {A = Rows} (record {
    paths = a.layout;
    partitions = map partition_row (slice_set a.partitions.items row.partition new);
    nodes = of_rows node_row (with_change placed.node used_one a.nodes.entries);
    apps = of_rows app_row (with_change placed.app taken_one a.apps.entries);
    tenants = before.tenants;
    users = a.users;
  }) (with_placed number placed.node placed.app placed.role placed.size before)
  rows-placed = λ i. record {
    paths = a.layout;
    partitions = partitions i;
    nodes = nodes i;
    apps = apps i;
    tenants = before.tenants;
    users = a.users;
  }
    where
      partitions : map partition_row (slice_set a.partitions.items row.partition new) ≡ with_at p (ticked push) before.partitions
      partitions =
          map-set partition_row (ticked push) a.partitions.items row.partition part new there part-is ∙ ap (λ q. with_at q (ticked push) before.partitions) (sym p-is)

      nodes : of_rows node_row (with_change placed.node used_one a.nodes.entries) ≡ with_change placed.node (λ r. record r { stamp = next_clock_at before.partitions p }) before.nodes
      nodes =
          of_rows-changed node_row used_one (λ r. record r { stamp = new.clock }) placed.node a.nodes.entries (λ r. refl)
          ∙ ap (λ t. with_change placed.node (λ (r : NodeRow). record r { stamp = t }) before.nodes) (is.clock ∙ sym clock-is)

      apps : of_rows app_row (with_change placed.app taken_one a.apps.entries) ≡ with_change placed.app (with_taken placed.role) before.apps
      apps = of_rows-changed app_row taken_one (with_taken placed.role) placed.app a.apps.entries (λ r. taken-row placed.role number (with_row row.partition of_app) r)

  none-there : is_master_role placed.role ≡ true → find (is_master_of placed.app) part.containers.entries ≡ None
  none-there master =
      let own = own-part a inv placed can row at part there in
      ap (λ (r : PartitionRow). find (is_master_of placed.app) r.containers) own
      ∙ none-yet before inv.sound number placed.node placed.app placed.role placed.size can.placeable (subst (λ (r : PartitionRow). IsUnused number r.containers) own is.held.unused) master

  -- a master stands at home
  at-home : is_master_role placed.role ≡ true → (r : AppPart) → lookup (nat_eq placed.app) a.apps.entries ≡ Some r → r.home ≡ row.partition
  at-home master r found =
      ap (λ (r : AppRow). r.home) (is-owner a placed.node placed.app (coming (held_of a) placed can) r found) ∙ go placed.role can.placeable.role master ∙ ap (λ (r : NodeRow). r.partition) (sym (is-on a placed.node placed.app (coming (held_of a) placed can) row at))
    where
      go : (s : Role) → CanTake before placed.app can.placeable.node_row.partition can.placeable.partition.guests can.placeable.app_row s → is_master_role s ≡ true
          → can.placeable.app_row.home ≡ can.placeable.node_row.partition
      go Master able is = able.0
      go (Asked q priority) able is = absurd (true≢false (sym is))

  -- the parts go together
  pub parts-linked : AreLinked (slice_set a.partitions.items row.partition new) (with_change placed.node used_one a.nodes.entries) (with_change placed.app taken_one a.apps.entries)
  parts-linked =
      held-linked a inv placed row at part there (has-free a placed.node placed.app (coming (held_of a) placed can) row at inv placed.size can.fits) at-home none-there (part.clock + 1) number new of_node of_app is.held new.clock taken_one
      (taking placed.role number row.partition of_app) chained

  -- and the rows are sound
  pub rows-sound : IsSound (with_placed number placed.node placed.app placed.role placed.size before)
  rows-sound =
      placed-sound before inv.sound number placed.node placed.app placed.role placed.size can.placeable
      (subst (λ (r : PartitionRow). IsUnused number r.containers) (own-part a inv placed can row at part there) is.held.unused)

  module _ (nodes' : List (ℕ × NodePart)) (apps' : Numbered AppPart) (nodes-are : nodes' ≡ with_change placed.node used_one a.nodes.entries) (apps-are : apps' ≡ with_app placed.app taken_one a.apps) where
    abbrev rows_after : Rows
    rows_after = record {
      paths = a.layout;
      partitions = map partition_row (slice_set a.partitions.items row.partition new);
      nodes = of_rows node_row nodes';
      apps = of_rows app_row apps'.entries;
      tenants = before.tenants;
      users = a.users;
    }

    -- so it is with what the calls leave
    pub all-rows : rows_after ≡ with_placed number placed.node placed.app placed.role placed.size before
    all-rows = (λ i. record rows_after { nodes = of_rows node_row (nodes-are i); apps = of_rows app_row (apps-are i).entries }) ∙ rows-placed

    pub all-sound : IsSound rows_after
    all-sound = subst IsSound (sym all-rows) rows-sound

    pub all-linked : AreLinked (slice_set a.partitions.items row.partition new) nodes' apps'.entries
    all-linked =
        subst (λ (apps : Numbered AppPart). AreLinked (slice_set a.partitions.items row.partition new) nodes' apps.entries) (sym apps-are)
        (subst (λ nodes. AreLinked (slice_set a.partitions.items row.partition new) nodes (with_change placed.app taken_one a.apps.entries)) (sym nodes-are) parts-linked)
