-- What the seats are in the model, and which changes of the rows leave them.
use Rattle.std.specs.Prelude.{◌≡◌, ◌≢◌, ℕ, ◌<◌, max, false, true, nat_eq, List, [], ◌∷◌, map, length, replicate, slice_index_or, Some, unwrap_or}
use Rattle.std.specs.List.{AllByRecursion}
use Rattle.std.specs.Map.{lookup}
use Rattle.ynl_resource.specs.Amounts.{fits_in, IsSize, total_of}
use Rattle.ynl_resource.specs.Names.{root}
use Rattle.ynl_resource.specs.declared.amounts.Resource.{Resource}
use Rattle.ynl_resource.specs.declared.names.Name.{Name}
use Rattle.ynl_model.specs.declared.queues.StopRow.{StopRow}
use Rattle.ynl_model.specs.declared.queues.MaximumRow.{MaximumRow}
use Rattle.ynl_model.specs.Cluster.{used, user_used}
use Rattle.ynl_model.specs.Limits.{sharing, users}
use Rattle.ynl_model.specs.Queues.{Config}
use Rattle.ynl_slots.specs.Slots.{IsUnused}
use Rattle.ynl_tables.specs.declared.apps.asks.Ask.{Ask}
use Rattle.ynl_inventory.specs.layout.Paths.{HasNumber, path_at}
use Rattle.ynl_lanes.specs.lows.Lows.{IsBelow, no_size}
use Rattle.ynl_lanes.specs.declared.lane.kinds.Kind.TheVariants as kind
use Rattle.ynl_lanes.specs.lane.Seats.{Seat, Seats, each_once, is_waiting}
use Rattle.ynl_lanes.specs.lane.Waiting.{IsWaiting}
use Rattle.ynl_lanes.specs.table.Lanes.{lane_at, no_seats}
use Rattle.ynl_inventory.specs.Rows.{Rows, AppRow}
use Rattle.ynl_inventory.specs.Apps.{runs_at}
use Rattle.ynl_inventory.specs.Meaning.{app_of, label_at, state_of}
use Rattle.ynl_inventory.specs.Changes.{with_asked, with_joined, with_node_gone, with_submitted, with_user}
use Rattle.ynl_inventory.specs.Opening.{opening_rows}
use Rattle.ynl_inventory.specs.Parts.{containers_of}
use Rattle.ynl_inventory.specs.Sound.{HasPartition, IsLeaf, IsSound}
use Rattle.ynl_cluster.specs.seating.Seating.{AreSeated, least_asked, shares, sitting, ticket_on, user_use, waits_at}
use Rattle.ynl_cluster.specs.seating.Steps.{AreSeatedBut, IsReserved, IsUnseated}

-- ---- the lanes of rows

-- before any event no lane has a seat
abbrev pub IsSeatedFirst : Type 0
IsSeatedFirst =
    (c : Config) → AreSeated (opening_rows c) (replicate (length (opening_rows c).partitions) (replicate (length (root ∷ (opening_rows c).paths)) no_seats))

-- the seat of an application on a partition that it shares stands under its ticket
abbrev pub AreFound : Type 0
AreFound =
    (v : Rows) (lanes : List (List Seats)) → AreSeated v lanes → (n : ℕ) (row : AppRow) → lookup (nat_eq n) v.apps ≡ Some row → (p : ℕ) → shares p row ≡ true
    → lookup (nat_eq (unwrap_or (ticket_on p row) 0)) (lane_at p row.leaf lanes).seats
    ≡ Some (record { app = n; user = row.user; used = user_use v p row.leaf row.user; waits = waits_at v p n row })

-- ---- changes of the rows

-- a new application comes last and has no seats yet, if there is room for them
abbrev pub IsSubmittedLast : Type 0
IsSubmittedLast =
    (v : Rows) (number : ℕ) (name : Name) (tenant leaf user home : ℕ) (master : Resource) (lanes : List (List Seats)) → AreSeated v lanes → IsUnused number v.apps
    → HasPartition v home → HasNumber v.paths leaf → IsReserved home leaf user lanes → IsUnseated number (with_submitted number name tenant leaf user home master v) lanes

-- no seat changes where a node joins, where one without containers leaves, and where a user gets a number
pub record AreStill : Type 0 where
  pub joined : (v : Rows) (number : ℕ) (name : Name) (p : ℕ) (size : Resource) → HasPartition v p → (lanes : List (List Seats)) → AreSeated v lanes → AreSeated (with_joined number name p size v) lanes
  pub left : (v : Rows) (node : ℕ) (lanes : List (List Seats)) → AreSeated v lanes → AreSeated (with_node_gone node v) lanes
  pub user : (v : Rows) (name : Name) (lanes : List (List Seats)) → AreSeated v lanes → AreSeated (with_user name v) lanes

-- where an application asks, only what waits of it changes
abbrev pub IsAskedBut : Type 0
IsAskedBut = (v : Rows) (app : ℕ) (ask : Ask) (lanes : List (List Seats)) → AreSeated v lanes → AreSeatedBut app (with_asked app ask v) lanes

-- ---- what waits

-- the least that is asked for on a partition is below each size that is asked for there, so that it waits; and nothing waits where nothing is asked for
pub record AreLeasts : Type 0 where
  pub below : (p : ℕ) (asks : List Ask) → AllByRecursion (λ ask. ask.partition ≡ p → IsBelow (least_asked p asks) ask.size) asks
  pub waiting : (p : ℕ) (asks : List Ask) → AllByRecursion (λ ask. ask.partition ≡ p → IsSize ask.size → IsWaiting (least_asked p asks)) asks
  pub none : (p : ℕ) (asks : List Ask) → AllByRecursion (λ ask. ask.partition ≢ p) asks → least_asked p asks ≡ no_size

-- something waits at a seat where a request of its application does: an ask of one that runs, or its master
pub record AreMet : Type 0 where
  pub ask : (v : Rows) (n : ℕ) (row : AppRow) (p : ℕ) → runs_at v n row ≡ true → (seat : Seat) → seat.waits ≡ waits_at v p n row
      → AllByRecursion (λ ask. ask.partition ≡ p → IsSize ask.size → is_waiting kind.Ask seat ≡ true) row.asks
  pub master : (v : Rows) (n : ℕ) (row : AppRow) → runs_at v n row ≡ false → (seat : Seat) → seat.waits ≡ waits_at v row.home n row → IsSize row.master → is_waiting kind.Master seat ≡ true

-- ---- the model

-- those who sit in a lane are the model's applications that share the leaf's part of the partition, in this order
abbrev pub AreSharing : Type 0
AreSharing =
    (v : Rows) → IsSound v → (p q : ℕ) → HasPartition v p → IsLeaf v q → (stops : List StopRow) (maxima : List MaximumRow)
    → sharing (state_of v stops maxima) (path_at v.paths q) (label_at v.partitions p) ≡ map (app_of v) (sitting p q v.apps)

-- the users of the seats, each once, are as many as the model counts
abbrev pub AreUsers : Type 0
AreUsers =
    (v : Rows) → IsSound v → (lanes : List (List Seats)) → AreSeated v lanes → (p q : ℕ) → HasPartition v p → IsLeaf v q
    → (stops : List StopRow) (maxima : List MaximumRow)
    → users (state_of v stops maxima) (path_at v.paths q) (label_at v.partitions p) ≡ max 1 (length (each_once (map (λ e. e.1.user) (lane_at p q lanes).seats)))

-- what a user uses is what the model says
abbrev pub IsUserUse : Type 0
IsUserUse =
    (v : Rows) → IsSound v → (p q user : ℕ) → HasPartition v p → IsLeaf v q → user < length v.users → (stops : List StopRow) (maxima : List MaximumRow)
    → user_used (state_of v stops maxima) (path_at v.paths q) (slice_index_or v.users user []) (label_at v.partitions p) ≡ user_use v p q user

-- which fits in what the containers of the partition use together, and in what the leaf uses
pub record IsUseWithin : Type 0 where
  pub containers : (v : Rows) (p q user : ℕ) → fits_in (user_use v p q user) (total_of (λ e. e.1.size) (containers_of v p)) ≡ true
  pub leaf : (v : Rows) → IsSound v → (p q user : ℕ) → HasPartition v p → IsLeaf v q → user < length v.users → (stops : List StopRow) (maxima : List MaximumRow)
      → fits_in (user_use v p q user) (used (state_of v stops maxima) (path_at v.paths q) (label_at v.partitions p)) ≡ true
