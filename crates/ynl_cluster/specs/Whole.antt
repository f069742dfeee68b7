-- How the parts of a cluster go together.
use Rattle.std.specs.Prelude.{◌≡◌, ℕ, ◌<◌, Bool, List, length, slice_index_or}
use Rattle.ynl_resource.specs.declared.labels.Label.TheVariants.{Unlabelled}
use Rattle.ynl_model.specs.declared.uses.Use.{Use}
use Rattle.ynl_model.specs.Nodes.{partition_labels}
use Rattle.ynl_model.specs.Queues.{Config, capacity_on}
use Rattle.ynl_inventory.specs.layout.Paths.{HasNumber, path_at, paths_of}
use Rattle.ynl_inventory.specs.declared.layout.settings.shares.Share.{Share}
use Rattle.ynl_inventory.specs.layout.settings.Shares.{capacity_at, HasCell}
use Rattle.ynl_lanes.specs.lane.Seats.{Seats}
use Rattle.ynl_inventory.specs.Rows.{Rows}
use Rattle.ynl_inventory.specs.Sound.{IsFor, IsSound}
use Rattle.ynl_cluster.specs.declared.ledger.totals.Total.{Total}
use Rattle.ynl_cluster.specs.ledger.Ledger.{totals_in, uses_in, IsBounded}
use Rattle.ynl_cluster.specs.seating.Seating.{AreSeated}
use Rattle.ynl_cluster.specs.declared.cluster.Cluster.TheInside.{Inside}
use Rattle.ynl_cluster.specs.Cluster.{ClusterView}
pub use Rattle.ynl_cluster.specs.Cluster.{AreNumbered, AskSizes, AsksSizes}

-- what contracts see of the parts
abbrev pub view_of : Inside → ClusterView
view_of a = record { config = a.config; rows = a.inventory.rows; rooms = a.inventory.rooms; stops = a.stops; shares = a.shares; ready = a.inventory.ready }

-- there is a share for each partition and queue, whose capacity is the configured one, and a mark for each queue below root
pub record AreSettings (c : Config) (shares : List (List Share)) (stops : List Bool) : Type 0 where
  pub cells : (p q : ℕ) → p < length (partition_labels c.labels) → HasNumber (paths_of c) q → HasCell shares p q
  pub capacities : (p q : ℕ) → p < length (partition_labels c.labels) → 0 < q → HasNumber (paths_of c) q
      → capacity_at shares p q ≡ capacity_on c (path_at (paths_of c) q) (slice_index_or (partition_labels c.labels) p Unlabelled)
  pub marks : length stops ≡ length (paths_of c)

-- the rows are those of the configuration, sound and in bounds, with numbers of their types; and uses, totals and lanes are those of the rows
pub record AreParts (c : Config) (v : Rows) (uses : List (List Use)) (totals : List Total) (lanes : List (List Seats)) : Type 0 where
  pub configured : IsFor c v
  pub sound : IsSound v
  pub bounded : IsBounded v
  pub sizes : AskSizes v
  pub numbers : AreNumbered v
  pub uses_are : uses ≡ uses_in v
  pub totals_are : totals ≡ totals_in v
  pub seated : AreSeated v lanes

-- the parts of a cluster go together
pub record IsCluster (a : Inside) : Type 0 where
  pub settings : AreSettings a.config a.shares a.stops
  pub parts : AreParts a.config a.inventory.rows a.uses a.totals a.lanes
