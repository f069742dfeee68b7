-- What the applications of a leaf are given as guests, by their seats in its lane on DEFAULT.
use Rattle.std.specs.Prelude.{◌≡◌, ℕ, Bool, true, ◌&&◌, nat_eq, List, filter, Option, option_map, IfSome}
use Rattle.std.specs.Map.{lookup}
use Rattle.std.specs.Option.{option_and_then}
use Rattle.ynl_resource.specs.Amounts.{fits_in}
use Rattle.ynl_resource.specs.declared.amounts.Resource.{Resource}
use Rattle.ynl_resource.specs.declared.labels.Label.TheVariants.{Unlabelled}
use Rattle.ynl_model.specs.declared.nodes.Node.{Node}
use Rattle.ynl_model.specs.declared.queues.StopRow.{StopRow}
use Rattle.ynl_model.specs.declared.queues.MaximumRow.{MaximumRow}
use Rattle.ynl_model.specs.Cluster.{free}
use Rattle.ynl_model.specs.Queues.{Config}
use Rattle.ynl_model.specs.Service.{asks_for, has_room, key}
use Rattle.ynl_laws.specs.Descent.{IsBelow}
use Rattle.ynl_laws.specs.First.{IsFirst, is_later}
use Rattle.ynl_inventory.specs.layout.Paths.{path_at}
use Rattle.ynl_tables.specs.declared.apps.asks.Ask.{Ask}
use Rattle.ynl_lanes.specs.lane.Seats.{Seat, first_given, given}
use Rattle.ynl_lanes.specs.declared.lane.kinds.Kind.TheVariants as kind
use Rattle.ynl_inventory.specs.Rows.{Rows}
use Rattle.ynl_inventory.specs.Meaning.{state_of}
use Rattle.ynl_inventory.specs.Sound.{IsLeaf, IsSound}
use Rattle.ynl_search.specs.declared.found.Found.{Found}
use Rattle.ynl_search.specs.notes.Lanes.{IsLaneOf}
use Rattle.ynl_search.specs.InLeaf.{found_ask}
use Rattle.ynl_search.specs.Laws.{is_asked, item_found}
use Rattle.ynl_search.specs.Lowest.{lowest}

-- whether an ask is for DEFAULT, and fits in a room
abbrev pub is_guest_for : Resource → Ask → Bool
is_guest_for room ask = nat_eq ask.partition 0 && fits_in ask.size room

-- an application is given the ask of the lowest priority number of those
abbrev pub gives_guest : Rows → Resource → ℕ → Option Found
gives_guest v room n = option_and_then (λ row. option_map (found_ask n) (lowest (is_guest_for room) row.asks)) (lookup (nat_eq n) v.apps)

-- the first application of the lane that is given one
abbrev pub first_guest : Rows → List (ℕ × Seat) → Resource → Option Found
first_guest v seats room = option_map (λ (e : ℕ × Found). e.1) (first_given (given kind.Ask (gives_guest v room)) seats)

-- it is the first of the leaf's asks for DEFAULT for which a node has room, by the ratios of any partition
abbrev pub FirstGuestIsModel : Type 0
FirstGuestIsModel =
    (v : Rows) → IsSound v → (stops : List StopRow) (maxima : List MaximumRow) (q : ℕ) → IsLeaf v q → (seats : List (ℕ × Seat)) → IsLaneOf v 0 q seats → (c : Config) (node : Node)
    → IsFirst (is_later (key c (state_of v stops maxima) Unlabelled))
    (IsBelow (filter (λ item. has_room (state_of v stops maxima) node item.size) (asks_for (state_of v stops maxima) Unlabelled)) (path_at v.paths q))
    (option_map (item_found v) (first_guest v seats (free (state_of v stops maxima) node)))

-- and its application asks for it
abbrev pub IsGuestAsked : Type 0
IsGuestAsked =
    (v : Rows) → IsSound v → (stops : List StopRow) (maxima : List MaximumRow) (q : ℕ) → IsLeaf v q → (seats : List (ℕ × Seat)) → IsLaneOf v 0 q seats → (c : Config) (node : Node)
    → IfSome (first_guest v seats (free (state_of v stops maxima) node)) (λ found. is_asked v 0 found ≡ true)
