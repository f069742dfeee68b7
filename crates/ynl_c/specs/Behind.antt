-- What stands behind a handle, and the status of a call.
use Rattle.std.specs.Prelude.{◌≡◌, ℕ, List, Option, Some, None, Ok, Err}
use Rattle.ynl_c.specs.declared.desk.desk.Desk.{Desk}
use Rattle.ynl_c.specs.declared.desk.faults.DeskFault.TheVariants.{Closed, NoMemory, Config, Line, Label, NoRoom}
use Rattle.ynl_c.specs.desk.Standing.{Standing, standing, no_cluster}
use Rattle.ynl_c.specs.desk.Calls.{Ended, Copies}

-- what can be seen of the desk that a handle holds; of one that is closed, what is seen where nothing was opened yet
abbrev pub behind : Option Desk → Standing
behind (Some desk) = standing desk
behind None = no_cluster

-- the number of how a call ended
abbrev pub status_of : Ended → ℕ
status_of (Ok _) = 0
status_of (Err NoMemory) = 1
status_of (Err (Config fault)) = 2
status_of (Err (Line fault)) = 3
status_of (Err NoRoom) = 4
status_of (Err Closed) = 5
status_of (Err Label) = 6

-- the status is that of an ending of which this holds
abbrev pub Came : ℕ → (Ended → Type 0) → Type 0
Came status P = (ended : Ended) × (status ≡ status_of ended) × P ended

-- copying the text that is behind a handle into a block; a closed handle has none
abbrev pub Replies : Option Desk → Option Desk → List ℕ → List ℕ → ℕ → Ended → Type 0
Replies (Some desk) new before after size ended = Copies (standing desk) (behind new) before after size ended
Replies None new before after size ended = (ended ≡ Err Closed) × (new ≡ None) × (after ≡ before)
