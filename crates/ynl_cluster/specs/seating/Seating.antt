-- Which seats the lanes have. In the lane of a leaf on a partition sit the live applications that share the leaf's part of it, in the order of submission.
use Rattle.std.specs.Prelude.{◌≡◌, ℕ, Bool, false, true, not, ◌&&◌, ◌||◌, nat_eq, List, map, filter, fold, Option, Some, IsSome, unwrap_or, if◌then◌else◌}
use Rattle.std.specs.List.{AllByRecursion}
use Rattle.std.specs.Map.{lookup}
use Rattle.std.specs.Option.{option_map_or}
use Rattle.ynl_resource.specs.Amounts.{smaller_of, total_of}
use Rattle.ynl_resource.specs.declared.amounts.Resource.{Resource}
use Rattle.ynl_slots.specs.Slots.{HasDistinctNumbers}
use Rattle.ynl_tables.specs.declared.apps.asks.Ask.{Ask}
use Rattle.ynl_tables.specs.declared.containers.container.Container.{Container}
use Rattle.ynl_inventory.specs.layout.Paths.{HasNumber}
use Rattle.ynl_lanes.specs.lows.Lows.{no_size}
use Rattle.ynl_lanes.specs.declared.lane.kinds.Both.{Both}
use Rattle.ynl_lanes.specs.lane.Seats.{Seat, Seats, nothing_waits}
use Rattle.ynl_lanes.specs.table.Lanes.{IsLaneAt, lane_at}
use Rattle.ynl_inventory.specs.Rows.{Rows, AppRow}
use Rattle.ynl_inventory.specs.Parts.{containers_of}
use Rattle.ynl_inventory.specs.Apps.{is_guest_role, runs_at}
use Rattle.ynl_inventory.specs.Sound.{HasPartition}

-- ---- who sits where

-- whether an application shares its leaf's part of a partition: all share that of DEFAULT, and of another those that are at home there
abbrev pub shares : ℕ → AppRow → Bool
shares p row = nat_eq p 0 || nat_eq row.home p

-- whether an application has a seat in the lane of a leaf on a partition
abbrev pub sits : ℕ → ℕ → AppRow → Bool
sits p q row = nat_eq row.leaf q && shares p row

-- the applications that sit there
abbrev pub sitting : ℕ → ℕ → List (ℕ × AppRow) → List (ℕ × AppRow)
sitting p q apps = filter (λ e. sits p q e.1) apps

-- the ticket of an application on a partition, if it has one
abbrev pub ticket_on : ℕ → AppRow → Option ℕ
ticket_on p row = if nat_eq row.home p then row.tickets.home else row.tickets.default

-- ---- what a seat shows

-- whether an application is of a leaf and of a user
abbrev pub is_of : ℕ → ℕ → AppRow → Bool
is_of q user row = nat_eq row.leaf q && nat_eq row.user user

-- whether a container on a partition counts in what a user uses of it in a leaf
abbrev pub counts : Rows → ℕ → ℕ → ℕ → ℕ × Container → Bool
counts v p q user e = not (is_guest_role p e.1.role) && option_map_or (is_of q user) (lookup (nat_eq e.1.app) v.apps) false

-- what a user uses of a partition in a leaf: the containers there that are no guests, of the user's live applications of the leaf
abbrev pub user_use : Rows → ℕ → ℕ → ℕ → Resource
user_use v p q user = total_of (λ e. e.1.size) (filter (counts v p q user) (containers_of v p))

-- the least so far, with one more ask, if that is for the partition
abbrev pub with_least : ℕ → Resource → Ask → Resource
with_least p low ask = if nat_eq ask.partition p then smaller_of low ask.size else low

-- the least, part by part, of the sizes that are asked for on a partition
abbrev pub least_asked : ℕ → List Ask → Resource
least_asked p asks = fold (with_least p) no_size asks

-- what waits of an application on a partition: its master at home, if it does not run, and else its asks for the partition
abbrev pub waits_if : Bool → ℕ → AppRow → Both Resource
waits_if runs p row = record {
  master = if not runs && nat_eq row.home p then row.master else no_size;
  ask = if runs then least_asked p row.asks else no_size;
}

-- the same in some rows, of an application under its number
abbrev pub waits_at : Rows → ℕ → ℕ → AppRow → Both Resource
waits_at v p n row = waits_if (runs_at v n row) p row

-- the same of the live application of a number
abbrev pub waits_of : Rows → ℕ → ℕ → Both Resource
waits_of v p n = option_map_or (waits_at v p n) (lookup (nat_eq n) v.apps) nothing_waits

-- what seats show: by partition, leaf and user what the user uses; by partition and application what waits
pub record Figures : Type 0 where
  pub used : ℕ → ℕ → ℕ → Resource
  pub waits : ℕ → ℕ → Both Resource

-- the figures of the rows
abbrev pub figures_of : Rows → Figures
figures_of v = record { used = user_use v; waits = waits_of v }

-- ---- the seats

-- the seat of an application in the lane of a leaf on a partition, under its ticket
abbrev pub seat_of : Figures → ℕ → ℕ → ℕ × AppRow → ℕ × Seat
seat_of f p q e = (unwrap_or (ticket_on p e.1) 0, record { app = e.0; user = e.1.user; used = f.used p q e.1.user; waits = f.waits p e.0 })

-- the seats of that lane
abbrev pub seats_of : Figures → ℕ → ℕ → List (ℕ × AppRow) → List (ℕ × Seat)
seats_of f p q apps = map (seat_of f p q) (sitting p q apps)

-- a lane is there, and has the seats of the applications, with tickets of their own
pub record IsSeated (f : Figures) (apps : List (ℕ × AppRow)) (p q : ℕ) (lanes : List (List Seats)) : Type 0 where
  pub there : IsLaneAt p q lanes
  pub seats : (lane_at p q lanes).seats ≡ seats_of f p q apps
  pub distinct : HasDistinctNumbers (seats_of f p q apps)

-- an application's partition and leaf are there, and it has a ticket where it shares
pub record HasSeats (v : Rows) (row : AppRow) : Type 0 where
  pub home : HasPartition v row.home
  pub leaf : HasNumber v.paths row.leaf
  pub tickets : (p : ℕ) → shares p row ≡ true → IsSome (ticket_on p row)

-- whether a container is a guest on a partition, or its live application shares that
abbrev pub is_shared : List (ℕ × AppRow) → ℕ → ℕ × Container → Bool
is_shared apps p e = is_guest_role p e.1.role || option_map_or (shares p) (lookup (nat_eq e.1.app) apps) false

-- so it is with each container
abbrev pub AreShared : Rows → Type 0
AreShared v = (p : ℕ) → AllByRecursion (λ e. is_shared v.apps p e ≡ true) (containers_of v p)

-- each lane has the seats of the applications, which are given by partition, with these figures
abbrev pub AreLanes : Figures → (ℕ → List (ℕ × AppRow)) → Rows → List (List Seats) → Type 0
AreLanes f apps v lanes = (p q : ℕ) → HasPartition v p → HasNumber v.paths q → IsSeated f (apps p) p q lanes

-- each application has its seats, and each lane those of its applications, with these figures
pub record AreSeatedWith (f : Figures) (v : Rows) (lanes : List (List Seats)) : Type 0 where
  pub numbers : HasDistinctNumbers v.apps
  pub default : HasPartition v 0
  pub shared : AreShared v
  pub apps : (n : ℕ) (row : AppRow) → lookup (nat_eq n) v.apps ≡ Some row → HasSeats v row
  pub seats : AreLanes f (λ p. v.apps) v lanes

-- the lanes are those of the rows
abbrev pub AreSeated : Rows → List (List Seats) → Type 0
AreSeated v lanes = AreSeatedWith (figures_of v) v lanes
