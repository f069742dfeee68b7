-- Lanes, as contracts see them.
use Rattle.std.specs.Prelude.{◌≡◌, ℕ, Bool, not, List, [], ◌∷◌, ◌++◌, map, Option, Some, None, IsSome, nat_eq, if◌then◌else◌}
use Rattle.std.specs.List.{list_any}
use Rattle.std.specs.Map.{lookup}
use Rattle.ynl_resource.specs.declared.amounts.Resource.{Resource}
use Rattle.ynl_resource.specs.Amounts.{fits_in, nothing}
use Rattle.ynl_slots.specs.Slots.{IsUnused}
use Rattle.ynl_lanes.specs.lows.Lows.{no_size}
use Rattle.ynl_lanes.specs.declared.lane.kinds.Kind.{Kind}
use Rattle.ynl_lanes.specs.declared.lane.kinds.Both.{Both}
use Rattle.ynl_lanes.specs.lane.Kinds.{of_kind}
use Rattle.ynl_lanes.specs.lane.Waiting.{IsWaiting}

-- the seat of an application: its number, the number of its user, what the user uses, and the least that waits of each kind
pub record Seat : Type 0 where
  pub app : ℕ
  pub user : ℕ
  pub used : Resource
  pub waits : Both Resource

-- the seats with their tickets, in the order in which they were added, and the user for whose next seat there is room
pub record Seats : Type 0 where
  pub seats : List (ℕ × Seat)
  pub ready : Option ℕ

-- a seat has this ticket
abbrev pub IsSeat : ℕ → List (ℕ × Seat) → Type 0
IsSeat ticket seats = IsSome (lookup (nat_eq ticket) seats)

-- the numbers of a list, each once
abbrev pub each_once : List ℕ → List ℕ
each_once [] = []
each_once (n ∷ ns) = if list_any (nat_eq n) ns then each_once ns else n ∷ each_once ns

-- nothing waits
abbrev pub nothing_waits : Both Resource
nothing_waits = record { master = no_size; ask = no_size }

-- what a user uses, as the user's first seat has it
abbrev pub used_at : ℕ → List (ℕ × Seat) → Resource
used_at user [] = nothing
used_at user (e ∷ es) = if nat_eq user e.1.user then e.1.used else used_at user es

-- a seat of the user comes last, with a ticket of its own, and nothing waits there
pub record Adds (app ticket : ℕ) (user : ℕ) (old new : List (ℕ × Seat)) : Type 0 where
  pub unused : IsUnused ticket old
  pub seats : new ≡ old ++ (ticket, record { app = app; user = user; used = used_at user old; waits = nothing_waits }) ∷ []

-- other things wait at the seat of a ticket
abbrev pub with_waits : ℕ → Both Resource → List (ℕ × Seat) → List (ℕ × Seat)
with_waits ticket waits seats = map (λ e. if nat_eq ticket e.0 then (e.0, record e.1 { waits = waits }) else e) seats

-- a user uses another amount
abbrev pub with_used : ℕ → Resource → List (ℕ × Seat) → List (ℕ × Seat)
with_used user used seats = map (λ e. if nat_eq user e.1.user then (e.0, record e.1 { used = used }) else e) seats

-- whether something of a kind waits at a seat
abbrev pub is_waiting : Kind → Seat → Bool
is_waiting kind seat = not (fits_in no_size (of_kind kind seat.waits))

-- what the application of such a seat is given
abbrev pub given : {F : Type 0} → Kind → (ℕ → Option F) → Seat → Option F
given kind gives seat = if is_waiting kind seat then gives seat.app else None

-- whatever is given passes a test: where something of a kind waits at a seat and its application is given something,
-- the user, who uses so much, may have what waits there
abbrev pub PassesGiven : {F : Type 0} → Kind → (Resource → Resource → Type 0) → (ℕ → Option F) → List (ℕ × Seat) → Type 0
PassesGiven kind may gives seats =
    (ticket : ℕ) (seat : Seat) → lookup (nat_eq ticket) seats ≡ Some seat → IsWaiting (of_kind kind seat.waits) → IsSome (gives seat.app)
    → may seat.used (of_kind kind seat.waits)

-- what this seat is given, with its ticket, or else what is found behind it
abbrev pub given_or : {F : Type 0} → ℕ → Option F → Option (ℕ × F) → Option (ℕ × F)
given_or ticket (Some given) rest = Some (ticket, given)
given_or ticket None rest = rest

-- the first seat that is given something, with what it is given
abbrev pub first_given : {F : Type 0} → (Seat → Option F) → List (ℕ × Seat) → Option (ℕ × F)
first_given gives [] = None
first_given gives (e ∷ es) = given_or e.0 (gives e.1) (first_given gives es)

-- the seats before that of a ticket
abbrev pub seats_before : ℕ → List (ℕ × Seat) → List (ℕ × Seat)
seats_before ticket [] = []
seats_before ticket (e ∷ es) = if nat_eq ticket e.0 then [] else e ∷ seats_before ticket es

-- or all seats
abbrev pub seats_up_to : Option ℕ → List (ℕ × Seat) → List (ℕ × Seat)
seats_up_to None seats = seats
seats_up_to (Some ticket) seats = seats_before ticket seats
