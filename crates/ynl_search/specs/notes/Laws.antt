-- How long what is noted of a queue stays right, as statements over all states.
use Rattle.std.specs.Prelude.{◌≡◌, false, true, ◌∷◌, [], filter, is_some, Some}
use Rattle.ynl_resource.specs.Names.{is_within, same_id, same_label, tenant_of}
use Rattle.ynl_resource.specs.declared.labels.Label.{Label}
use Rattle.ynl_resource.specs.declared.names.Name.{Name}
use Rattle.ynl_resource.specs.declared.paths.Path.{Path}
use Rattle.ynl_resource.specs.declared.amounts.Resource.{Resource}
use Rattle.ynl_model.specs.declared.nodes.Node.{Node}
use Rattle.ynl_model.specs.declared.applications.AskRow.{AskRow}
use Rattle.ynl_model.specs.declared.containers.Placed.{Placed as Container}
use Rattle.ynl_model.specs.Queues.{Config}
use Rattle.ynl_model.specs.Applications.{Application, in_leaf, leaf_of, set_ask, submitted, with_app}
use Rattle.ynl_model.specs.Changes.{app_finishes, end, place}
use Rattle.ynl_model.specs.Cluster.{State, containers_on, is_master_what, runs, total}
use Rattle.ynl_model.specs.Service.{Item, items_for}
use Rattle.ynl_laws.specs.Tabled.{Tabled}
use Rattle.ynl_laws.specs.Working.{IsKnown, IsOrdered, Kept, has_row}
use Rattle.ynl_search.specs.notes.Shut.{AreAtLeast, IsShut}

-- where a queue is shut in a room in one state, it is in the other
abbrev pub StaysShut : Config → State → State → Label → Path → Type 0
StaysShut c s t label queue = (room : Resource) → IsShut c s label queue room → IsShut c t label queue room

-- and what each request below it is for at least in one state it is in the other
abbrev pub StaysAtLeast : State → State → Label → Path → Type 0
StaysAtLeast s t label queue = (least : Resource) → AreAtLeast (items_for s label) queue least → AreAtLeast (items_for t label) queue least

pub record Stays (c : Config) (s t : State) (label : Label) (queue : Path) : Type 0 where
  pub shut : StaysShut c s t label queue
  pub least : StaysAtLeast s t label queue

-- what both states are: each leaf and application is found by its names, and in the first each application and each container's leaf is known
pub record AreReadable (s t : State) : Type 0 where
  pub kept : Kept s
  pub tabled : Tabled s
  pub after : Tabled t

-- a request of a leaf that does not stand below the queue is placed
abbrev pub StaysWhilePlacing : Type 0
StaysWhilePlacing = (c : Config) (s : State) (node : Node) (item : Item) (label : Label) (queue : Path) → AreReadable s (place c node item s)
    → has_row s.partitions node.label ≡ true → IsKnown s.leaves item.leaf item.app → is_within queue item.leaf ≡ false
    → Stays c s (place c node item s) label queue

-- what is asked for is placed, on another partition
abbrev pub StaysWhilePlacingElsewhere : Type 0
StaysWhilePlacingElsewhere = (c : Config) (s : State) (node : Node) (item : Item) (label : Label) (queue : Path) → AreReadable s (place c node item s)
    → has_row s.partitions node.label ≡ true → IsKnown s.leaves item.leaf item.app → is_master_what item.what ≡ false → same_label label node.label ≡ false
    → Stays c s (place c node item s) label queue

-- a container of a leaf ends that does not stand below the queue
abbrev pub StaysWhileEnding : Type 0
StaysWhileEnding = (c : Config) (s : State) (container : Container) (leaf : Path) (label : Label) (queue : Path) → AreReadable s (end c s container)
    → has_row s.partitions container.id.label ≡ true → filter (λ k. same_id k.id container.id) (containers_on s container.id.label) ≡ container ∷ []
    → leaf_of s.leaves container.tenant container.app ≡ Some leaf → is_within queue leaf ≡ false
    → Stays c s (end c s container) label queue

-- a container of another partition ends
abbrev pub StaysWhileEndingElsewhere : Type 0
StaysWhileEndingElsewhere = (c : Config) (s : State) (container : Container) (label : Label) (queue : Path) → AreReadable s (end c s container)
    → has_row s.partitions container.id.label ≡ true → filter (λ k. same_id k.id container.id) (containers_on s container.id.label) ≡ container ∷ []
    → same_label label container.id.label ≡ false
    → Stays c s (end c s container) label queue

-- an application is submitted to a leaf that does not stand below the queue
abbrev pub StaysWhileSubmitting : Type 0
StaysWhileSubmitting = (c : Config) (s : State) (app : Application) (label : Label) (queue : Path) → AreReadable s (record s { leaves = in_leaf app.leaf (submitted app) s.leaves })
    → is_some (leaf_of s.leaves (tenant_of app.leaf) app.name) ≡ false → is_within queue app.leaf ≡ false
    → Stays c s (record s { leaves = in_leaf app.leaf (submitted app) s.leaves }) label queue

-- an application of a leaf asks that does not stand below the queue
abbrev pub StaysWhileAsking : Type 0
StaysWhileAsking = (c : Config) (s : State) (leaf : Path) (name : Name) (ask : AskRow) (label : Label) (queue : Path)
    → AreReadable s (record s { leaves = in_leaf leaf (with_app name (set_ask ask)) s.leaves }) → is_within queue leaf ≡ false
    → Stays c s (record s { leaves = in_leaf leaf (with_app name (set_ask ask)) s.leaves }) label queue

-- an application asks on another partition
abbrev pub StaysWhileAskingElsewhere : Type 0
StaysWhileAskingElsewhere = (c : Config) (s : State) (leaf : Path) (name : Name) (ask : AskRow) (label : Label) (queue : Path)
    → AreReadable s (record s { leaves = in_leaf leaf (with_app name (set_ask ask)) s.leaves }) → same_label label ask.label ≡ false
    → Stays c s (record s { leaves = in_leaf leaf (with_app name (set_ask ask)) s.leaves }) label queue

-- an application of a leaf finishes that does not stand below the queue
abbrev pub StaysWhileFinishing : Type 0
StaysWhileFinishing = (c : Config) (s : State) (found : Application) (label : Label) (queue : Path) → AreReadable s (app_finishes c found s)
    → IsOrdered c s → IsKnown s.leaves found.leaf found.name → is_within queue found.leaf ≡ false
    → Stays c s (app_finishes c found s) label queue

-- no application starts to run, and otherwise they stay
pub record NoneStarts (s t : State) : Type 0 where
  pub leaves : t.leaves ≡ s.leaves
  pub runs : (app : Application) → runs t app ≡ true → runs s app ≡ true

-- on a partition the same containers stand, and it has the same total
pub record StandsStill (s t : State) (label : Label) : Type 0 where
  pub apps : NoneStarts s t
  pub on : containers_on t label ≡ containers_on s label
  pub total : total t label ≡ total s label
  pub maxima : t.maxima ≡ s.maxima

-- a partition stands still
abbrev pub StaysStill : Type 0
StaysStill = (c : Config) (s t : State) (label : Label) (queue : Path) → AreReadable s t → StandsStill s t label → Stays c s t label queue
