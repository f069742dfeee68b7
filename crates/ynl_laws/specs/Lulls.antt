-- A lull of a leaf on a partition: none of its requests that fits in a room keeps the limits of its user and of the leaf's masters. It lasts until the leaf itself
-- changes, or the nodes or the maxima do. The maxima of the queues on the way are left out of it, since what they leave hangs on other leaves too.
use Rattle.std.specs.Prelude.{◌≡◌, Bool, true, false, ◌&&◌, List, [], ◌∷◌, ◌++◌, map, filter, flat_map, is_some, Some}
use Rattle.std.specs.List.{AllByRecursion}
use Rattle.ynl_resource.specs.Amounts.{fits_in}
use Rattle.ynl_resource.specs.declared.amounts.Resource.{Resource}
use Rattle.ynl_resource.specs.declared.labels.Label.{Label}
use Rattle.ynl_resource.specs.declared.names.Name.{Name}
use Rattle.ynl_resource.specs.declared.paths.Path.{Path}
use Rattle.ynl_resource.specs.Names.{same_id, same_label, is_within, tenant_of}
use Rattle.ynl_model.specs.declared.nodes.Node.{Node}
use Rattle.ynl_model.specs.declared.applications.AskRow.{AskRow}
use Rattle.ynl_model.specs.declared.containers.Placed.{Placed as Container}
use Rattle.ynl_model.specs.Queues.{Config}
use Rattle.ynl_model.specs.Applications.{Application, apps_of, leaf_of, in_leaf, submitted, with_app, set_ask}
use Rattle.ynl_model.specs.Cluster.{State, containers_on, is_master_what, runs, waits}
use Rattle.ynl_model.specs.Changes.{place, end, app_finishes}
use Rattle.ynl_model.specs.Service.{Item, master_item, asks_of, within_user_limit, within_master_share}
use Rattle.ynl_laws.specs.Tabled.{Tabled}
use Rattle.ynl_laws.specs.Working.{IsKnown, IsOrdered, Kept, has_row}

-- the requests of some applications for a partition: the masters of those that wait, and what those ask for that run
abbrev pub requests_of : State → Label → List Application → List Item
requests_of s label apps = map master_item (filter (λ app. waits s app && same_label app.home label) apps) ++ flat_map (asks_of label) (filter (runs s) apps)

-- the requests of a leaf
abbrev pub requests_at : State → Label → Path → List Item
requests_at s label leaf = requests_of s label (apps_of s.leaves leaf)

-- whether a request keeps the limits of its user and of its leaf's masters
abbrev pub keeps_own_limits : Config → State → Label → Item → Bool
keeps_own_limits c s label item = within_user_limit c s label item && within_master_share c s label item.leaf item.what item.size

-- each request of the leaf is for so much at least, and none that fits in the room keeps those limits
pub record IsLull (c : Config) (s : State) (label : Label) (leaf : Path) (least room : Resource) : Type 0 where
  pub above : AllByRecursion (λ item. fits_in least item.size ≡ true) (requests_at s label leaf)
  pub none : AllByRecursion (λ item. fits_in item.size room ≡ true → keeps_own_limits c s label item ≡ false) (requests_at s label leaf)

-- what is a lull in one state is one in another
abbrev pub Lasts : Config → State → State → Label → Path → Type 0
Lasts c s new label leaf = (least room : Resource) → IsLull c s label leaf least room → IsLull c new label leaf least room

-- a request of another leaf is placed
abbrev pub DoLullsLastPlacing : Type 0
DoLullsLastPlacing = (c : Config) (s : State) (node : Node) (item : Item) (label : Label) (leaf : Path)
    → Kept s → Tabled s → has_row s.partitions node.label ≡ true → IsKnown s.leaves item.leaf item.app → is_within leaf item.leaf ≡ false
    → Lasts c s (place c node item s) label leaf

-- a container of another leaf ends
abbrev pub DoLullsLastEnding : Type 0
DoLullsLastEnding = (c : Config) (s : State) (container : Container) (other : Path) (label : Label) (leaf : Path)
    → Kept s → Tabled s → has_row s.partitions container.id.label ≡ true → filter (λ k. same_id k.id container.id) (containers_on s container.id.label) ≡ container ∷ []
    → leaf_of s.leaves container.tenant container.app ≡ Some other → is_within leaf other ≡ false
    → Lasts c s (end c s container) label leaf

-- an application is submitted to another leaf
abbrev pub DoLullsLastSubmitting : Type 0
DoLullsLastSubmitting = (c : Config) (s : State) (app : Application) (label : Label) (leaf : Path)
    → Kept s → Tabled s → is_some (leaf_of s.leaves (tenant_of app.leaf) app.name) ≡ false → is_within leaf app.leaf ≡ false
    → Lasts c s (record s { leaves = in_leaf app.leaf (submitted app) s.leaves }) label leaf

-- an application of another leaf asks
abbrev pub DoLullsLastAsking : Type 0
DoLullsLastAsking = (c : Config) (s : State) (other : Path) (name : Name) (ask : AskRow) (label : Label) (leaf : Path)
    → Kept s → Tabled s → is_within leaf other ≡ false
    → Lasts c s (record s { leaves = in_leaf other (with_app name (set_ask ask)) s.leaves }) label leaf

-- an application of another leaf finishes
abbrev pub DoLullsLastFinishing : Type 0
DoLullsLastFinishing = (c : Config) (s : State) (found : Application) (label : Label) (leaf : Path)
    → IsOrdered c s → Kept s → Tabled s → IsKnown s.leaves found.leaf found.name → is_within leaf found.leaf ≡ false
    → Lasts c s (app_finishes c found s) label leaf

-- what is asked for is placed: on other partitions than the node's each leaf stays as it was, its own too
abbrev pub DoLullsLastPlacingElsewhere : Type 0
DoLullsLastPlacingElsewhere = (c : Config) (s : State) (node : Node) (item : Item) (label : Label) (leaf : Path)
    → Kept s → Tabled s → has_row s.partitions node.label ≡ true → IsKnown s.leaves item.leaf item.app → is_master_what item.what ≡ false → same_label label node.label ≡ false
    → Lasts c s (place c node item s) label leaf

-- a container of another partition ends
abbrev pub DoLullsLastEndingElsewhere : Type 0
DoLullsLastEndingElsewhere = (c : Config) (s : State) (container : Container) (label : Label) (leaf : Path)
    → Kept s → Tabled s → has_row s.partitions container.id.label ≡ true → filter (λ k. same_id k.id container.id) (containers_on s container.id.label) ≡ container ∷ []
    → same_label label container.id.label ≡ false
    → Lasts c s (end c s container) label leaf

-- an application asks under another label
abbrev pub DoLullsLastAskingElsewhere : Type 0
DoLullsLastAskingElsewhere = (c : Config) (s : State) (other : Path) (name : Name) (ask : AskRow) (label : Label) (leaf : Path)
    → Kept s → Tabled s → same_label label ask.label ≡ false
    → Lasts c s (record s { leaves = in_leaf other (with_app name (set_ask ask)) s.leaves }) label leaf
