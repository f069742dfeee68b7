-- What is found in a leaf is the model's first request there.
use Rattle.std.specs.Prelude.{◌≡◌, ℕ, Bool, false, ◌&&◌, not, is_some, List, [], option_map, nat_eq, true, IfSome, if◌then◌else◌}
use Rattle.std.specs.Map.{lookup}
use Rattle.std.specs.Option.{option_map_or}
use Rattle.ynl_resource.specs.Amounts.{nothing}
use Rattle.ynl_resource.specs.Names.{root}
use Rattle.ynl_model.specs.declared.nodes.Node.{Node}
use Rattle.ynl_model.specs.declared.proposals.What.TheVariants.{Master as MasterItem}
use Rattle.ynl_model.specs.declared.queues.StopRow.{StopRow}
use Rattle.ynl_model.specs.declared.queues.MaximumRow.{MaximumRow}
use Rattle.ynl_model.specs.Cluster.{free}
use Rattle.ynl_model.specs.Queues.{Config}
use Rattle.ynl_model.specs.Service.{Item, eligible, key}
use Rattle.ynl_laws.specs.Descent.{IsBelow}
use Rattle.ynl_laws.specs.First.{IsFirst, is_later}
use Rattle.ynl_inventory.specs.layout.Paths.{path_at}
use Rattle.ynl_lanes.specs.lane.Seats.{Seat}
use Rattle.ynl_tables.specs.apps.Asks.{find_ask}
use Rattle.ynl_tables.specs.declared.containers.container.Role.{Role}
use Rattle.ynl_tables.specs.declared.containers.container.Role.TheVariants.{Master, Ask as Asked}
use Rattle.ynl_inventory.specs.Rows.{Rows, AppRow}
use Rattle.ynl_inventory.specs.Apps.{runs_at}
use Rattle.ynl_inventory.specs.Meaning.{item_of, label_at, state_of}
use Rattle.ynl_inventory.specs.Sound.{HasPartition, IsLeaf, IsSound}
use Rattle.ynl_search.specs.declared.found.Found.{Found}
use Rattle.ynl_search.specs.declared.leaf.LeafTests.{LeafTests}
use Rattle.ynl_search.specs.notes.Lanes.{IsLaneOf}
use Rattle.ynl_search.specs.InLeaf.{first_own}
use Rattle.ynl_search.specs.Leaves.{AreTests}

-- no request, which stands in no leaf
abbrev pub no_item : Item
no_item = record { leaf = root; app = []; user = []; what = MasterItem; size = nothing }

-- the request of what was found, as the model has it
abbrev pub item_found : Rows → Found → Item
item_found v found = option_map_or (λ (row : AppRow). item_of v row found.role found.size) (lookup (nat_eq found.app) v.apps) no_item

-- whether an application asks for something on a partition
abbrev pub asks_role : ℕ → AppRow → Role → Bool
asks_role p row Master = false
asks_role p row (Asked asked priority) = nat_eq asked p && is_some (find_ask asked priority row.asks)

-- whether it wants something there: its master at home, while it does not run, or what it asks for
abbrev pub wants_role : Rows → ℕ → ℕ → AppRow → Role → Bool
wants_role v p n row Master = not (runs_at v n row) && nat_eq row.home p
wants_role v p n row (Asked asked priority) = nat_eq asked p && is_some (find_ask asked priority row.asks)

-- whether a live application asks for what was found
abbrev pub is_asked : Rows → ℕ → Found → Bool
is_asked v p found = option_map_or (λ (row : AppRow). asks_role p row found.role) (lookup (nat_eq found.app) v.apps) false

-- whether it wants it
abbrev pub is_wanted : Rows → ℕ → Found → Bool
is_wanted v p found = option_map_or (λ (row : AppRow). wants_role v p found.app row found.role) (lookup (nat_eq found.app) v.apps) false

-- the request of what was found, if it passes a test
abbrev pub item_if : (Found → Bool) → Rows → Found → Item
item_if test v found = if test found then item_found v found else no_item

-- that of what is asked for on a partition
abbrev pub item_asked : Rows → ℕ → Found → Item
item_asked v p found = item_if (is_asked v p) v found

-- and that of what is wanted there
abbrev pub item_wanted : Rows → ℕ → Found → Item
item_wanted v p found = item_if (is_wanted v p) v found

-- what is found in the lane of a leaf on a node's partition is the first of the leaf's requests that are eligible on the node, by the ratios of any partition
abbrev pub FirstOwnIsModel : Type 0
FirstOwnIsModel =
    (v : Rows) → IsSound v → (stops : List StopRow) (maxima : List MaximumRow) (p q : ℕ) → HasPartition v p → IsLeaf v q → (seats : List (ℕ × Seat)) → IsLaneOf v p q seats
    → (c : Config) (node : Node) → node.label ≡ label_at v.partitions p → (tests : LeafTests)
    → AreTests c (state_of v stops maxima) (label_at v.partitions p) (free (state_of v stops maxima) node) (path_at v.paths q) tests
    → IsFirst (is_later (key c (state_of v stops maxima) node.label)) (IsBelow (eligible c (state_of v stops maxima) node) (path_at v.paths q)) (option_map (item_found v) (first_own v seats p tests))

-- and its application wants it there
abbrev pub IsOwnWanted : Type 0
IsOwnWanted =
    (v : Rows) → IsSound v → (stops : List StopRow) (maxima : List MaximumRow) (p q : ℕ) → HasPartition v p → IsLeaf v q → (seats : List (ℕ × Seat)) → IsLaneOf v p q seats
    → (c : Config) (node : Node) → node.label ≡ label_at v.partitions p → (tests : LeafTests)
    → AreTests c (state_of v stops maxima) (label_at v.partitions p) (free (state_of v stops maxima) node) (path_at v.paths q) tests
    → IfSome (first_own v seats p tests) (λ found. is_wanted v p found ≡ true)
