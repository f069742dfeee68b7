-- The parts of a cluster after a container was placed.
use Rattle.std.proofs.Common.{◌≡◌, ℕ, ◌<◌, nat_eq, List, [], ◌∷◌, ◌++◌, length, slice_get, Some, refl, sym, ap, subst, ◌∙◌, inl}
use Rattle.std.specs.Prelude.{IfSome}
use Rattle.std.specs.Map.{lookup}
use Rattle.std.specs.Option.{option_map_or}
use Rattle.std.proofs.lemmas.Option.{slice_get_within}
use Rattle.ynl_resource.specs.Amounts.{IsSize}
use Rattle.ynl_model.specs.declared.uses.Use.{Use}
use Rattle.ynl_model.specs.Changes.{place}
use Rattle.ynl_slots.specs.Slots.{IsLive, IsUnused}
use Rattle.ynl_tables.specs.declared.containers.container.Container.{Container}
use Rattle.ynl_tables.specs.declared.containers.container.Role.{Role}
use Rattle.ynl_lanes.specs.lane.Rows.{IsUse}
use Rattle.ynl_lanes.specs.lane.Seats.{Seats}
use Rattle.ynl_inventory.specs.declared.partition.Placement.{Placement}
use Rattle.ynl_inventory.specs.Rows.{AppRow, Rows, PartitionRow, NodeRow}
use Rattle.ynl_inventory.specs.Apps.{containers_of}
use Rattle.ynl_inventory.specs.Changes.{next_clock_at, next_container, partition_of_node, ticked, with_at, with_changed, with_placed, with_taken}
use Rattle.ynl_inventory.specs.Meaning.{item_of, node_of, state_of}
use Rattle.ynl_inventory.specs.Parts.{CanPlace}
use Rattle.ynl_inventory.specs.Sound.{HasPartition, IsFor, IsPlaceable, IsSound}
use Rattle.ynl_inventory.proofs.Lookups.{changed-live, found-live, length-at, read-changed}
use Rattle.ynl_inventory.proofs.Placing.{placed-for, placed-means, placed-sound}
use Rattle.ynl_cluster.specs.ledger.Ledger.{totals_in, uses_in, IsBounded}
use Rattle.ynl_cluster.proofs.ledger.Bounded.{placing as bounded-placing}
use Rattle.ynl_cluster.proofs.ledger.Sums.{changed-totals}
use Rattle.ynl_cluster.specs.seating.Seating.{user_use, AreSeated}
use Rattle.ynl_cluster.specs.seating.Steps.{IsPlaced}
use Rattle.ynl_cluster.specs.declared.cluster.Cluster.TheInside.{Inside}
use Rattle.ynl_cluster.specs.Cluster.{ClusterView, held_in, maxima_in, state_in, stops_in}
use Rattle.ynl_cluster.specs.Whole.{view_of, AreNumbered, AreParts, AskSizes, IsCluster}
use Rattle.ynl_cluster.proofs.Numbers.{numbers-at}
use Rattle.ynl_cluster.proofs.Sizes.{changed-sizes, taken-sizes}
use Rattle.ynl_cluster.proofs.Users.{own-small}

module _ (v : Rows) (node app : ℕ) (role : Role) (can : IsPlaceable v node app role) where
  -- the node's partition
  stands : can.node_row.partition ≡ partition_of_node v.nodes node
  stands = sym (ap (λ o. option_map_or (λ (row : NodeRow). row.partition) o 0) can.node_found)

  there : slice_get v.partitions (partition_of_node v.nodes node) ≡ Some can.partition
  there = ap (slice_get v.partitions) (sym stands) ∙ can.partition_found

  own-containers : containers_of v (partition_of_node v.nodes node) ≡ can.partition.containers
  own-containers = ap (λ o. option_map_or (λ (row : PartitionRow). row.containers) o []) there

module _ (a : Inside) (is : IsCluster a) (w : ClusterView) (view : view_of a ≡ w) (placed : Placement) (required : CanPlace (held_in w) placed) where
  abbrev v : Rows
  v = a.inventory.rows

  -- it may be placed
  pub may : CanPlace a.inventory placed
  may = subst (λ (w : ClusterView). CanPlace (held_in w) placed) (sym view) required

  abbrev can : IsPlaceable v placed.node placed.app placed.role
  can = may.placeable

  abbrev place_of : ℕ
  place_of = partition_of_node v.nodes placed.node

  pub app-live : IsLive placed.app v.apps
  app-live = found-live placed.app can.app_row v.apps can.app_found

  pub node-live : IsLive placed.node v.nodes
  node-live = found-live placed.node can.node_row v.nodes can.node_found

  has : HasPartition v place_of
  has = slice_get_within v.partitions place_of can.partition (there v placed.node placed.app placed.role can)

  module _ (number : ℕ) (unused : IsUnused number (containers_of v place_of)) (new : Rows) (rows : new ≡ with_placed number placed.node placed.app placed.role placed.size v) (sized : IsSize placed.size) where
    abbrev after : Rows
    after = with_placed number placed.node placed.app placed.role placed.size v

    abbrev pushed : List (ℕ × Container) → List (ℕ × Container)
    pushed = λ containers. containers ++ (number, next_container v placed.node placed.app placed.role placed.size) ∷ []

    still-unused : (can : IsPlaceable v placed.node placed.app placed.role) → IsUnused number can.partition.containers
    still-unused can = subst (IsUnused number) (own-containers v placed.node placed.app placed.role can) unused

    sound-after : IsSound new
    sound-after = subst IsSound (sym rows) (placed-sound v is.parts.sound number placed.node placed.app placed.role placed.size can (still-unused can))

    bounded-after : IsBounded new
    bounded-after = subst IsBounded (sym rows) (bounded-placing v is.parts.bounded number placed.node placed.app placed.role placed.size sized may.fits)

    -- the application goes on
    pub live-after : IsLive placed.app new.apps
    live-after = subst (λ (v : Rows). IsLive placed.app v.apps) (sym rows) (changed-live placed.app placed.app (with_taken placed.role) v.apps app-live)

    -- and so does the node, in its partition
    pub place-after : (p : ℕ) → p ≡ place_of → p ≡ partition_of_node new.nodes placed.node
    place-after p own =
        own
        ∙ sym (read-changed (λ (row : NodeRow). row.partition) 0 placed.node placed.node (λ row. record row { stamp = next_clock_at v.partitions place_of }) (λ row. refl) v.nodes)
        ∙ ap (λ (v : Rows). partition_of_node v.nodes placed.node) (sym rows)

    has-after : HasPartition new place_of
    has-after = subst (λ (v : Rows). HasPartition v place_of) (sym rows) (subst (λ (n : ℕ). place_of < n) (sym (length-at place_of (ticked pushed) v.partitions)) has)

    -- what its user uses is small
    pub small-after : (p : ℕ) → p ≡ place_of → IfSome (lookup (nat_eq placed.app) new.apps) (λ row. IsUse (user_use new p row.leaf row.user))
    small-after p own = own-small new sound-after bounded-after p (subst (HasPartition new) (sym own) has-after) placed.app

    -- the lanes are those before
    pub lanes-before : (row : AppRow) → lookup (nat_eq placed.app) v.apps ≡ Some row → IsPlaced placed.node placed.app placed.role placed.size (length row.asks) new a.lanes
    lanes-before row found = record {
      before = v;
      asks = ap (λ o. option_map_or (λ (row : AppRow). length row.asks) o 0) found;
      number = number;
      came = inl (record { can = can; rows = rows });
      sound = is.parts.sound;
      seated = is.parts.seated;
    }

    many : AreNumbered (record v { partitions = with_at place_of (ticked pushed) v.partitions })
    many = numbers-at v place_of (ticked pushed) is.parts.numbers

    -- with uses and lanes that follow, the parts go together
    pub parts-after : (uses : List (List Use)) → uses ≡ uses_in new → (lanes : List (List Seats)) → AreSeated new lanes → AreParts a.config new uses a.totals lanes
    parts-after uses uses-are lanes seated = record {
      configured = subst (IsFor a.config) (sym rows) (placed-for v is.parts.sound number placed.node placed.app placed.role placed.size can (still-unused can) a.config is.parts.configured);
      sound = sound-after;
      bounded = bounded-after;
      sizes = subst AskSizes (sym rows) (changed-sizes (with_changed place_of placed.node pushed v) placed.app (with_taken placed.role) (taken-sizes placed.role) is.parts.sizes);
      numbers = subst AreNumbered (sym rows) (record { partitions = many.partitions; queues = many.queues });
      uses_are = uses-are;
      totals_are = is.parts.totals_are ∙ sym (ap totals_in rows ∙ changed-totals v place_of (ticked pushed) placed.node (next_clock_at v.partitions place_of) after.apps);
      seated = seated;
    }

    -- and the state is the model's
    pub state-after : (can : IsPlaceable w.rows placed.node placed.app placed.role)
        → state_of new (stops_in (view_of a)) (maxima_in (view_of a)) ≡ place w.config (node_of w.rows.partitions can.node_row) (item_of w.rows can.app_row placed.role placed.size) (state_in w)
    state-after =
        subst
        (λ (w : ClusterView). (can : IsPlaceable w.rows placed.node placed.app placed.role)
        → state_of new (stops_in (view_of a)) (maxima_in (view_of a)) ≡ place w.config (node_of w.rows.partitions can.node_row) (item_of w.rows can.app_row placed.role placed.size) (state_in w))
        view
        (λ can.
        ap (λ (v : Rows). state_of v (stops_in (view_of a)) (maxima_in (view_of a))) rows
        ∙ placed-means v is.parts.sound number placed.node placed.app placed.role placed.size can (still-unused can) a.config is.parts.configured (stops_in (view_of a)) (maxima_in (view_of a)))
