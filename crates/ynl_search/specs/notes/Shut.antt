-- When what is noted of queues is right: a queue is shut in its room, and each request below it is for its least at least.
use Rattle.std.specs.Prelude.{◌≡◌, ℕ, Bool, true, false, ◌&&◌, ◌||◌, List, ◌∷◌, IfSome}
use Rattle.std.specs.List.{list_all}
use Rattle.ynl_resource.specs.Amounts.{fits_in, plus}
use Rattle.ynl_resource.specs.Names.{root, is_within, way_to}
use Rattle.ynl_resource.specs.declared.amounts.Resource.{Resource}
use Rattle.ynl_resource.specs.declared.labels.Label.{Label}
use Rattle.ynl_resource.specs.declared.labels.Label.TheVariants.{Unlabelled}
use Rattle.ynl_resource.specs.declared.paths.Path.{Path}
use Rattle.ynl_model.specs.Queues.{Config}
use Rattle.ynl_model.specs.Cluster.{State, maximum, used}
use Rattle.ynl_model.specs.Service.{Item, asks_for, items_for, within_master_share, within_user_limit}
use Rattle.ynl_laws.specs.Descent.{IsBelow}
use Rattle.ynl_inventory.specs.layout.Paths.{HasNumber}
use Rattle.ynl_cluster.specs.Cluster.{ClusterView, IsCell, label_of, path_of, state_in}
use Rattle.ynl_search.specs.declared.notes.noted.Noted.{Noted}
use Rattle.ynl_search.specs.notes.Notes.{Notes, Row, Table, noted_at, noted_in}

-- whether a queue stays within its maximum with so much more
abbrev pub keeps_maximum : State → Label → Resource → Path → Bool
keeps_maximum s label size queue = fits_in (plus (used s queue label) size) (maximum s queue label)

-- whether each queue below another on the way to a request's leaf stays within its maximum with the request, and the limits of the leaf's users and masters are kept
abbrev pub keeps_below : Config → State → Label → Path → Item → Bool
keeps_below c s label queue item =
    list_all (λ step. is_within step queue || keeps_maximum s label item.size step) (root ∷ way_to item.leaf)
    && (within_user_limit c s label item && within_master_share c s label item.leaf item.what item.size)

-- in a room a queue is shut on a partition: of its requests that fit there none keeps what is to be kept below the queue
abbrev pub IsShut : Config → State → Label → Path → Resource → Type 0
IsShut c s label queue room = (item : Item) → IsBelow (items_for s label) queue item → fits_in item.size room ≡ true → keeps_below c s label queue item ≡ false

-- of some requests each below a queue is for so much at least
abbrev pub AreAtLeast : List Item → Path → Resource → Type 0
AreAtLeast items queue least = (item : Item) → IsBelow items queue item → fits_in least item.size ≡ true

-- what is noted of a queue on a partition is right
pub record IsRight (c : Config) (s : State) (label : Label) (queue : Path) (noted : Noted) : Type 0 where
  pub room : IfSome noted.room (IsShut c s label queue)
  pub least : AreAtLeast (items_for s label) queue noted.least

-- what is noted of each queue of a cluster on each partition
abbrev pub AreOwnRight : ClusterView → Table → Type 0
AreOwnRight w table = (p q : ℕ) → IsCell w p q → IsRight w.config (state_in w) (label_of w p) (path_of w q) (noted_at table p q)

-- and of its guests
abbrev pub AreGuestsRight : ClusterView → Row → Type 0
AreGuestsRight w row = (q : ℕ) → HasNumber w.rows.paths q → AreAtLeast (asks_for (state_in w) Unlabelled) (path_of w q) (noted_in row q).least

pub record AreShut (w : ClusterView) (notes : Notes) : Type 0 where
  pub own : AreOwnRight w notes.own
  pub guests : AreGuestsRight w notes.guests
