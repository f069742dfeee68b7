-- Queues that a search passes by.
use Rattle.std.specs.Prelude.{◌≡◌, ◌||◌, ℕ, Bool, true, false, not, Option}
use Rattle.std.specs.Option.{option_map_or}
use Rattle.ynl_resource.specs.Amounts.{fits_in}
use Rattle.ynl_resource.specs.declared.amounts.Resource.{Resource}
use Rattle.ynl_resource.specs.declared.labels.Label.{Label}
use Rattle.ynl_resource.specs.declared.labels.Label.TheVariants.{Unlabelled}
use Rattle.ynl_resource.specs.declared.paths.Path.{Path}
use Rattle.ynl_model.specs.Queues.{Config}
use Rattle.ynl_model.specs.Cluster.{State}
use Rattle.ynl_model.specs.Service.{Item, asks_for, items_for}
use Rattle.ynl_laws.specs.Descent.{IsBelow}
use Rattle.ynl_cluster.specs.Cluster.{ClusterView, label_of, path_of, state_in}
use Rattle.ynl_search.specs.declared.notes.noted.Noted.{Noted}
use Rattle.ynl_search.specs.notes.Shut.{IsRight, IsShut, keeps_below, keeps_maximum}
use Rattle.ynl_search.specs.declared.headroom.Headroom.{Headroom}
use Rattle.ynl_search.specs.Places.{allows}

-- whether a room that is noted covers another: what fits in the other fits in it
abbrev pub covers : Option Resource → Resource → Bool
covers noted room = option_map_or (λ r. fits_in room r) noted false

-- of the requests below a queue for which there is headroom none keeps what is to be kept below the queue
abbrev pub HasNoneFor : Config → State → Label → Headroom → Path → Type 0
HasNoneFor c s label h queue = (item : Item) → IsBelow (items_for s label) queue item → allows h item.size ≡ true → keeps_below c s label queue item ≡ false

-- of those for which there is headroom above the queue, and with which the queue keeps its maximum, none does
abbrev pub IsClosed : Config → State → Label → Headroom → Path → Type 0
IsClosed c s label h queue =
    (item : Item) → IsBelow (items_for s label) queue item → allows h item.size ≡ true → keeps_maximum s label item.size queue ≡ true → keeps_below c s label queue item ≡ false

-- that a queue is shut, has none or is closed, of a queue of a cluster and on a partition
abbrev pub IsShutIn : ClusterView → ℕ → ℕ → Resource → Type 0
IsShutIn w p q room = IsShut w.config (state_in w) (label_of w p) (path_of w q) room

abbrev pub HasNoneIn : ClusterView → ℕ → Headroom → ℕ → Type 0
HasNoneIn w p h q = HasNoneFor w.config (state_in w) (label_of w p) h (path_of w q)

abbrev pub IsClosedIn : ClusterView → ℕ → Headroom → ℕ → Type 0
IsClosedIn w p h q = IsClosed w.config (state_in w) (label_of w p) h (path_of w q)

-- what is noted of a queue is right
abbrev pub IsRightIn : ClusterView → ℕ → ℕ → Noted → Type 0
IsRightIn w p q noted = IsRight w.config (state_in w) (label_of w p) (path_of w q) noted

-- whether what is noted of a queue says that nothing below it may be placed in a room
abbrev pub is_passed : Noted → Resource → Bool
is_passed noted room = covers noted.room room || not (fits_in noted.least room)

-- no guest comes from below a queue in a room: nothing that is asked for there on DEFAULT fits
abbrev pub IsGuestless : State → Path → Resource → Type 0
IsGuestless s queue room = (item : Item) → IsBelow (asks_for s Unlabelled) queue item → fits_in item.size room ≡ false
