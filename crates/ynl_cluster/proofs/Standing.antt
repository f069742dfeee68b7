-- The parts of a cluster after a container came to stand.
use Rattle.std.proofs.Common.{◌≡◌, ℕ, ◌<◌, nat_eq, List, [], ◌∷◌, ◌++◌, Some, sym, ap, subst, ◌∙◌}
use Rattle.std.specs.Prelude.{IfSome}
use Rattle.std.specs.Map.{lookup}
use Rattle.std.specs.Option.{option_map_or}
use Rattle.std.proofs.lemmas.Option.{slice_get_within}
use Rattle.ynl_resource.specs.Amounts.{IsSize}
use Rattle.ynl_resource.specs.declared.paths.Path.{Path}
use Rattle.ynl_resource.specs.Names.{root}
use Rattle.ynl_model.specs.declared.uses.Use.{Use}
use Rattle.ynl_laws.specs.Ways.{IsWay}
use Rattle.ynl_inventory.specs.layout.Paths.{is_above}
use Rattle.ynl_slots.specs.Slots.{IsLive}
use Rattle.ynl_lanes.specs.lane.Rows.{IsUse}
use Rattle.ynl_lanes.specs.lane.Seats.{Seats}
use Rattle.ynl_inventory.specs.declared.partition.Placement.{Placement}
use Rattle.ynl_inventory.specs.Rows.{Rows, PartitionRow, NodeRow, AppRow}
use Rattle.ynl_inventory.specs.Changes.{partition_of_node, with_stood}
use Rattle.ynl_inventory.specs.Meaning.{state_of}
use Rattle.ynl_inventory.specs.Parts.{placed_on, CanStand}
use Rattle.ynl_inventory.specs.Sound.{HasPartition, IsFor, IsSound, IsStandable}
use Rattle.ynl_inventory.proofs.Lookups.{found-live, length-at}
use Rattle.ynl_inventory.proofs.Standing.{stood-for, stood-means}
use Rattle.ynl_cluster.specs.ledger.Ledger.{totals_in, uses_in, IsBounded}
use Rattle.ynl_cluster.specs.ledger.Changes.{IsLineOf}
use Rattle.ynl_cluster.proofs.ledger.Bounded.{standing as bounded-standing}
use Rattle.ynl_cluster.proofs.ledger.Calls.{line-is}
use Rattle.ynl_cluster.proofs.ledger.Sums.{dropped-totals}
use Rattle.ynl_cluster.specs.seating.Seating.{user_use, AreSeated}
use Rattle.ynl_cluster.specs.declared.cluster.Cluster.TheInside.{Inside}
use Rattle.ynl_model.specs.Changes.{with_container}
use Rattle.ynl_cluster.specs.Cluster.{ClusterView, maxima_in, state_in, stood_in, stops_in}
use Rattle.ynl_cluster.specs.Whole.{view_of, AreNumbered, AreParts, AskSizes, IsCluster}
use Rattle.ynl_cluster.proofs.Numbers.{numbers-at}
use Rattle.ynl_cluster.proofs.Users.{own-small}

module _ (a : Inside) (is : IsCluster a) (w : ClusterView) (view : view_of a ≡ w) (placed : Placement) (clock : ℕ) (required : CanStand w.rows placed clock) where
  abbrev v : Rows
  v = a.inventory.rows

  -- it may stand
  pub may : CanStand v placed clock
  may = subst (λ (w : ClusterView). CanStand w.rows placed clock) (sym view) required

  abbrev can : IsStandable v placed.node placed.app placed.role clock
  can = may.standable

  abbrev place_of : ℕ
  place_of = partition_of_node v.nodes placed.node

  stands : can.node_row.partition ≡ place_of
  stands = sym (ap (λ o. option_map_or (λ (row : NodeRow). row.partition) o 0) can.node_found)

  has : HasPartition v place_of
  has = subst (HasPartition v) stands (slice_get_within v.partitions can.node_row.partition can.partition can.partition_found)

  pub app-live : IsLive placed.app v.apps
  app-live = found-live placed.app can.app_row v.apps can.app_found

  module _ (number : ℕ) (new : Rows) (rows : new ≡ with_stood place_of number (placed_on placed clock) v) where
    abbrev more : PartitionRow → PartitionRow
    more = λ row. record row { containers = row.containers ++ (number, placed_on placed clock) ∷ [] }

    -- the node is where it was
    pub place-is : (row : NodeRow) → lookup (nat_eq placed.node) new.nodes ≡ Some row → row.partition ≡ place_of
    place-is row found = sym (ap (λ o. option_map_or (λ (r : NodeRow). r.partition) o 0) (ap (λ (w : Rows). lookup (nat_eq placed.node) w.nodes) (sym rows) ∙ found))

    pub rows-at : (row : NodeRow) → lookup (nat_eq placed.node) new.nodes ≡ Some row → new ≡ with_stood row.partition number (placed_on placed clock) v
    rows-at row found = rows ∙ ap (λ q. with_stood q number (placed_on placed clock) v) (sym (place-is row found))

    pub has-place : (row : NodeRow) → lookup (nat_eq placed.node) new.nodes ≡ Some row → HasPartition v row.partition
    has-place row found = subst (HasPartition v) (sym (place-is row found)) has

    -- the line that was read is the application's
    pub its-line : (row : AppRow) → lookup (nat_eq placed.app) new.apps ≡ Some row → (paths : List Path) → paths ≡ new.paths → (line : List ℕ) → IsWay (root ∷ paths) (is_above paths row.leaf) line → IsLineOf v placed.app line
    its-line row found paths are line way = line-is v placed.app row (ap (λ (w : Rows). lookup (nat_eq placed.app) w.apps) (sym rows) ∙ found) paths (are ∙ ap (λ (w : Rows). w.paths) rows) line way

    module _ (sized : IsSize placed.size) (sound : IsSound new) where
      bounded-after : IsBounded new
      bounded-after = subst IsBounded (sym rows) (bounded-standing v is.parts.bounded number (placed_on placed clock) sized may.fits)

      has-after : HasPartition new place_of
      has-after = subst (λ (v : Rows). HasPartition v place_of) (sym rows) (subst (λ (n : ℕ). place_of < n) (sym (length-at place_of more v.partitions)) has)

      -- what its user uses is small
      pub small-after : (p : ℕ) → p ≡ place_of → IfSome (lookup (nat_eq placed.app) new.apps) (λ row. IsUse (user_use new p row.leaf row.user))
      small-after p own = own-small new sound bounded-after p (subst (HasPartition new) (sym own) has-after) placed.app

      many : AreNumbered (with_stood place_of number (placed_on placed clock) v)
      many = let its = numbers-at v place_of more is.parts.numbers in record { partitions = its.partitions; queues = its.queues }

      -- with uses and lanes that follow, the parts go together
      pub parts-after : (uses : List (List Use)) → uses ≡ uses_in new → (lanes : List (List Seats)) → AreSeated new lanes → AreParts a.config new uses a.totals lanes
      parts-after uses uses-are lanes seated = record {
        configured = subst (IsFor a.config) (sym rows) (stood-for v number placed clock a.config is.parts.configured);
        sound = sound;
        bounded = bounded-after;
        sizes = subst AskSizes (sym rows) is.parts.sizes;
        numbers = subst AreNumbered (sym rows) many;
        uses_are = uses-are;
        totals_are = is.parts.totals_are ∙ sym (ap totals_in rows ∙ dropped-totals v place_of more);
        seated = seated;
      }

    -- and the state has it last
    pub state-after : state_of new (stops_in (view_of a)) (maxima_in (view_of a)) ≡ with_container (stood_in w placed clock) (state_in w)
    state-after =
        subst (λ (w : ClusterView). state_of new (stops_in (view_of a)) (maxima_in (view_of a)) ≡ with_container (stood_in w placed clock) (state_in w)) view
        (ap (λ (v : Rows). state_of v (stops_in (view_of a)) (maxima_in (view_of a))) rows ∙ stood-means v is.parts.sound number placed clock can (stops_in (view_of a)) (maxima_in (view_of a)))
