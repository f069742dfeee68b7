-- What the applications of a leaf are given, by their seats in its lane.
use Rattle.std.specs.Prelude.{ℕ, Bool, ◌&&◌, nat_eq, List, Option, Some, None, option_map, if◌then◌else◌}
use Rattle.std.specs.Map.{lookup}
use Rattle.std.specs.Option.{option_and_then, option_or}
use Rattle.ynl_resource.specs.declared.amounts.Resource.{Resource}
use Rattle.ynl_tables.specs.declared.apps.asks.Ask.{Ask}
use Rattle.ynl_tables.specs.declared.containers.container.Role.TheVariants.{Master, Ask as Asked}
use Rattle.ynl_lanes.specs.declared.lane.kinds.Kind.TheVariants as kind
use Rattle.ynl_lanes.specs.lane.Seats.{Seat, first_given, given, seats_up_to}
use Rattle.ynl_inventory.specs.Rows.{Rows, AppRow}
use Rattle.ynl_cluster.specs.seating.Seating.{ticket_on}
use Rattle.ynl_search.specs.declared.found.Found.{Found}
use Rattle.ynl_search.specs.declared.leaf.LeafTests.{LeafTests}
use Rattle.ynl_search.specs.Lowest.{lowest}
use Rattle.ynl_search.specs.Leaves.{passes_ask, passes_master}

-- what the user of an application uses, as the application's seat shows it
abbrev pub used_on : List (ℕ × Seat) → ℕ → AppRow → Option Resource
used_on seats p row = option_and_then (λ ticket. option_map (λ seat. seat.used) (lookup (nat_eq ticket) seats)) (ticket_on p row)

-- an application's master, and one of its asks, as what is found
abbrev pub found_master : ℕ → AppRow → Found
found_master n row = record { app = n; role = Master; size = row.master }

abbrev pub found_ask : ℕ → Ask → Found
found_ask n ask = record { app = n; role = Asked ask.partition ask.priority; size = ask.size }

module _ (v : Rows) (seats : List (ℕ × Seat)) (p : ℕ) (tests : LeafTests) where
  -- whether an ask is for the partition, and may be placed where its user uses so much
  abbrev pub is_open_to : Resource → Ask → Bool
  is_open_to used ask = nat_eq ask.partition p && passes_ask tests used ask.size

  -- an application is given its master, if that may be placed
  abbrev pub gives_master : ℕ → Option Found
  gives_master n =
      option_and_then (λ row. option_and_then (λ used. if passes_master tests used row.master then Some (found_master n row) else None) (used_on seats p row))
      (lookup (nat_eq n) v.apps)

  -- and the ask of the lowest priority number that may be
  abbrev pub gives_ask : ℕ → Option Found
  gives_ask n =
      option_and_then (λ row. option_and_then (λ used. option_map (found_ask n) (lowest (is_open_to used) row.asks)) (used_on seats p row))
      (lookup (nat_eq n) v.apps)

  -- the first seat whose application is given its master
  abbrev pub first_master : Option (ℕ × Found)
  first_master = first_given (given kind.Master gives_master) seats

  -- the first before another whose application is given an ask
  abbrev pub first_ask : Option ℕ → Option (ℕ × Found)
  first_ask before = first_given (given kind.Ask gives_ask) (seats_up_to before seats)

  -- what is found in the leaf: what stands first of these
  abbrev pub first_own : Option Found
  first_own = option_or (option_map (λ e. e.1) (first_ask (option_map (λ e. e.0) first_master))) (option_map (λ e. e.1) first_master)
