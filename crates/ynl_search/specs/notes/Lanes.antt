-- What the lane of a leaf says of the rows of a cluster.
use Rattle.std.specs.Prelude.{◌≡◌, ℕ, true, nat_eq, List, IsSome, Some}
use Rattle.std.specs.List.{AllByRecursion}
use Rattle.std.specs.Map.{lookup}
use Rattle.ynl_resource.specs.Amounts.{IsSize}
use Rattle.ynl_lanes.specs.lane.Seats.{Seat}
use Rattle.ynl_inventory.specs.Rows.{Rows, AppRow}
use Rattle.ynl_slots.specs.Slots.{HasDistinctNumbers}
use Rattle.ynl_cluster.specs.seating.Seating.{figures_of, seats_of, shares, ticket_on}

-- a row's requests have the sizes that requests may have
pub record IsSizedRow (row : AppRow) : Type 0 where
  pub master : IsSize row.master
  pub asks : AllByRecursion (λ ask. IsSize ask.size) row.asks

-- a leaf's lane on a partition has its applications' seats, and they have tickets and sizes
pub record IsLaneOf (v : Rows) (p q : ℕ) (seats : List (ℕ × Seat)) : Type 0 where
  pub numbers : HasDistinctNumbers v.apps
  pub seats_are : seats ≡ seats_of (figures_of v) p q v.apps
  pub distinct : HasDistinctNumbers seats
  pub tickets : (n : ℕ) (row : AppRow) → lookup (nat_eq n) v.apps ≡ Some row → shares p row ≡ true → IsSome (ticket_on p row)
  pub sized : (n : ℕ) (row : AppRow) → lookup (nat_eq n) v.apps ≡ Some row → IsSizedRow row
  pub sharing : (n : ℕ) (row : AppRow) → lookup (nat_eq n) v.apps ≡ Some row → AllByRecursion (λ ask. ask.partition ≡ p → shares p row ≡ true) row.asks

-- seats are those of the lane of some leaf on a partition
abbrev pub IsLaneOfSome : Rows → ℕ → List (ℕ × Seat) → Type 0
IsLaneOfSome v p seats = (q : ℕ) × IsLaneOf v p q seats
