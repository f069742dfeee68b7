-- How the ledger changes with the rows, as statements over all rows.
use Rattle.std.specs.Prelude.{◌≡◌, ℕ, List, ◌∷◌, nat_eq, Some}
use Rattle.std.specs.Map.{lookup}
use Rattle.ynl_resource.specs.Names.{root}
use Rattle.ynl_resource.specs.declared.amounts.Resource.{Resource}
use Rattle.ynl_resource.specs.declared.names.Name.{Name}
use Rattle.ynl_model.specs.declared.uses.Use.{Use}
use Rattle.ynl_laws.specs.Ways.{IsWay, along}
use Rattle.ynl_inventory.specs.layout.Paths.{is_above}
use Rattle.ynl_slots.specs.Slots.{IsLive}
use Rattle.ynl_tables.specs.declared.apps.asks.Ask.{Ask}
use Rattle.ynl_tables.specs.declared.apps.app.Tickets.{Tickets}
use Rattle.ynl_tables.specs.declared.containers.container.Container.{Container}
use Rattle.ynl_tables.specs.declared.containers.container.Role.{Role}
use Rattle.ynl_cluster.specs.uses.Tallies.{lowered, raised, with_partition}
use Rattle.ynl_inventory.specs.Rows.{Rows, NodeRow}
use Rattle.ynl_inventory.specs.Apps.{leaf_of_app}
use Rattle.ynl_inventory.specs.Changes.{partition_of_node, with_app_gone, with_asked, with_at, with_clock, with_dropped, with_ended, with_joined, with_node_gone, with_placed, with_stamp, with_stood, with_submitted, with_tickets, with_user}
use Rattle.ynl_inventory.specs.Parts.{held_at}
use Rattle.ynl_inventory.specs.Sound.{IsSound, OwnsNoContainers}
use Rattle.ynl_cluster.specs.declared.ledger.totals.Total.{Total}
use Rattle.ynl_cluster.specs.ledger.Totals.{grown, shrunk}
use Rattle.ynl_cluster.specs.ledger.Ledger.{tally_of, totals_in, uses_in}

-- the uses of a partition change, and no total
pub record ChangesUses (v w : Rows) (p : ℕ) (change : List Use → List Use) : Type 0 where
  pub uses : uses_in w ≡ with_partition p change (uses_in v)
  pub totals : totals_in w ≡ totals_in v

-- the total of a partition changes, and no use
pub record ChangesTotal (v w : Rows) (p : ℕ) (change : Total → Total) : Type 0 where
  pub uses : uses_in w ≡ uses_in v
  pub totals : totals_in w ≡ with_at p change (totals_in v)

-- no use and no total changes
pub record ChangesNothing (v w : Rows) : Type 0 where
  pub uses : uses_in w ≡ uses_in v
  pub totals : totals_in w ≡ totals_in v

-- a line has the numbers of the queues on the way to an application's leaf
abbrev pub IsLineOf : Rows → ℕ → List ℕ → Type 0
IsLineOf v app line = IsWay (root ∷ v.paths) (is_above v.paths (leaf_of_app v app)) line

-- a placement raises the uses of its node's partition along the line of its application
abbrev pub PlacingRaises : Type 0
PlacingRaises = (v : Rows) (number node app : ℕ) (role : Role) (size : Resource) (line : List ℕ) → IsLive app v.apps → IsLineOf v app line
    → ChangesUses v (with_placed number node app role size v) (partition_of_node v.nodes node) (along (raised (tally_of (partition_of_node v.nodes node) role size)) line)

-- so does a container that comes to stand
abbrev pub StandingRaises : Type 0
StandingRaises = (v : Rows) (p number : ℕ) (c : Container) (line : List ℕ) → IsLive c.app v.apps → IsLineOf v c.app line
    → ChangesUses v (with_stood p number c v) p (along (raised (tally_of p c.role c.size)) line)

-- an end lowers those of the container's partition along the line of its application
abbrev pub EndingLowers : Type 0
EndingLowers = (v : Rows) → IsSound v → (p number : ℕ) (c : Container) → held_at v p number ≡ Some c → (node : ℕ) (line : List ℕ) → IsLineOf v c.app line
    → ChangesUses v (with_ended p number node v) p (along (lowered (tally_of p c.role c.size)) line)

-- so does a container that goes with its node
abbrev pub DroppingLowers : Type 0
DroppingLowers = (v : Rows) → IsSound v → (p number : ℕ) (c : Container) → held_at v p number ≡ Some c → (line : List ℕ) → IsLineOf v c.app line
    → ChangesUses v (with_dropped p number v) p (along (lowered (tally_of p c.role c.size)) line)

-- a node that joins adds to its partition's total
abbrev pub JoiningAdds : Type 0
JoiningAdds = (v : Rows) (number : ℕ) (name : Name) (p : ℕ) (size : Resource) → ChangesTotal v (with_joined number name p size v) p (grown size)

-- one that leaves takes from it
abbrev pub LeavingTakes : Type 0
LeavingTakes = (v : Rows) → IsSound v → (node : ℕ) (row : NodeRow) → lookup (nat_eq node) v.nodes ≡ Some row → ChangesTotal v (with_node_gone node v) row.partition (shrunk row.size)

-- an application that is submitted changes nothing
abbrev pub SubmittingStays : Type 0
SubmittingStays = (v : Rows) → IsSound v → (number : ℕ) (name : Name) (tenant leaf user home : ℕ) (master : Resource) → ChangesNothing v (with_submitted number name tenant leaf user home master v)

-- nor does what an application asks for
abbrev pub AskingStays : Type 0
AskingStays = (v : Rows) (app : ℕ) (ask : Ask) → ChangesNothing v (with_asked app ask v)

-- nor do its tickets
abbrev pub TicketsStay : Type 0
TicketsStay = (v : Rows) (app : ℕ) (tickets : Tickets) → ChangesNothing v (with_tickets app tickets v)

-- nor does an application that goes, which has no containers
abbrev pub FinishingStays : Type 0
FinishingStays = (v : Rows) (app tenant turn : ℕ) → OwnsNoContainers v app → ChangesNothing v (with_app_gone app tenant turn v)

-- nor does a clock that is set
abbrev pub ClocksStay : Type 0
ClocksStay = (v : Rows) (p clock : ℕ) → ChangesNothing v (with_clock p clock v)

-- nor does a stamp
abbrev pub StampsStay : Type 0
StampsStay = (v : Rows) (node stamp : ℕ) → ChangesNothing v (with_stamp node stamp v)

-- nor does a new user
abbrev pub UsersStay : Type 0
UsersStay = (v : Rows) (name : Name) → ChangesNothing v (with_user name v)
