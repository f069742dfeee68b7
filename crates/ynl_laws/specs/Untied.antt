-- No two requests tie, and so what is chosen is before all others.
use Rattle.std.specs.Prelude.{◌≡◌, ◌≢◌, ◌⊎◌, false, IsFalse, List, Some}
use Rattle.std.specs.List.{AllByRecursion, Contains}
use Rattle.std.specs.declared.cmp.Ordering.TheVariants.{Less, Equal}
use Rattle.ynl_resource.specs.declared.labels.Label.{Label}
use Rattle.ynl_resource.specs.declared.labels.Label.TheVariants.{Unlabelled}
use Rattle.ynl_model.specs.declared.nodes.Node.{Node}
use Rattle.ynl_model.specs.declared.applications.AskRow.{AskRow}
use Rattle.ynl_model.specs.Applications.{Application, LeafApps, is_ask_of}
use Rattle.ynl_model.specs.Queues.{Config}
use Rattle.ynl_model.specs.Cluster.{State}
use Rattle.ynl_model.specs.Service.{Item, Key, key, key_order, items_for, asks_for, eligible, some_eligible, guests_for, choice}
use Rattle.ynl_model.specs.Events.{state_after}
use Rattle.ynl_model.specs.declared.events.Event.{Event}
use Rattle.ynl_laws.specs.Working.{Pairs}

-- the label and the priority of the later ask do not find the earlier one
abbrev pub Differs : AskRow → AskRow → Type 0
Differs a b = is_ask_of b.label b.priority a ≡ false

-- the asks of an application differ, and so those of each in some leaves
abbrev pub Distinct : Application → Type 0
Distinct app = Pairs Differs app.asks

abbrev pub AllDistinct : List LeafApps → Type 0
AllDistinct leaves = AllByRecursion (λ row. AllByRecursion Distinct row.apps) leaves

-- two requests of a list whose keys tie are one request
abbrev pub HaveOwnKeys : (Item → Key) → List Item → Type 0
HaveOwnKeys key_of items = (a b : Item) → Contains items a → Contains items b → key_order (key_of a) (key_of b) ≡ Equal → a ≡ b

-- in each state two requests for a partition whose keys tie there are one. This needs nothing of the configuration: where a queue
-- has two rows, all that waits in it is listed twice, and each request ties with itself alone
abbrev pub DoRequestsNotTie : Type 0
DoRequestsNotTie = (c : Config) (events : List Event) (p : Label) → HaveOwnKeys (key c (state_after c events) p) (items_for (state_after c events) p)

-- and so are two of the asks that guests come from, by their keys on DEFAULT
abbrev pub DoGuestsNotTie : Type 0
DoGuestsNotTie = (c : Config) (events : List Event) → HaveOwnKeys (key c (state_after c events) Unlabelled) (asks_for (state_after c events) Unlabelled)

-- a request of a list is before each other one
pub record IsBeforeOthers (key_of : Item → Key) (items : List Item) (item : Item) : Type 0 where
  pub among : Contains items item
  pub before : (other : Item) → Contains items other → other ≢ item → key_order (key_of item) (key_of other) ≡ Less

-- what is chosen for a node is before all other eligible requests, or, where none is eligible, before all other guests
abbrev pub IsChosenAlone : Config → State → Node → Item → Type 0
IsChosenAlone c s node item =
    IsBeforeOthers (key c s node.label) (eligible c s node) item ⊎ (IsFalse (some_eligible c s node) × IsBeforeOthers (key c s Unlabelled) (guests_for c s node) item)

-- in each state
abbrev pub IsChoiceBeforeAllOthers : Type 0
IsChoiceBeforeAllOthers =
    (c : Config) (events : List Event) (node : Node) (item : Item) → choice c (state_after c events) node ≡ Some item → IsChosenAlone c (state_after c events) node item
