-- The state of the cluster, and what its queues and users use. The state has no totals: each is summed where it is wanted.
use Rattle.std.specs.Prelude.{ℕ, Bool, true, false, not, ◌&&◌, nat_le, List, [], map, filter, find, Option}
use Rattle.std.specs.List.{list_any}
use Rattle.std.specs.Option.{option_map_or}
use Rattle.ynl_resource.specs.Amounts.{less, total_of}
use Rattle.ynl_resource.specs.declared.amounts.Resource.{Resource}
use Rattle.ynl_resource.specs.Names.{same_name, same_label, is_default, is_within, tenant_of}
use Rattle.ynl_resource.specs.declared.names.Name.{Name}
use Rattle.ynl_resource.specs.declared.labels.Label.{Label}
use Rattle.ynl_resource.specs.declared.paths.Path.{Path}
use Rattle.ynl_resource.specs.Tables.{update}
use Rattle.ynl_model.specs.Nodes.{Node, Labels, partition_labels, clock_limit, find_node, rises, total as total_on}
use Rattle.ynl_model.specs.Queues.{Config, opening_stops, opening_maxima, maximum as maximum_of, guaranteed as guaranteed_of}
use Rattle.ynl_model.specs.declared.queues.StopRow.{StopRow}
use Rattle.ynl_model.specs.declared.queues.MaximumRow.{MaximumRow}
use Rattle.ynl_model.specs.Applications.{Application, LeafApps, no_apps, leaf_of, find_app}
pub use Rattle.ynl_model.specs.declared.proposals.What.{What}
pub use Rattle.ynl_model.specs.declared.proposals.What.TheVariants.{Master, Ask as Asked}
pub use Rattle.ynl_model.specs.declared.containers.Placed.{Placed as Container}

-- a partition: its clock, and the containers on it in the order in which they were placed, which is that of their ids
pub record Partition : Type 0 where
  pub label : Label
  pub clock : ℕ
  pub containers : List Container

-- the nodes in the order in which they joined, no two of one name; a row for each partition, DEFAULT first;
-- a row for each leaf, as configured; which queues are stopped; and the present maxima
pub record State : Type 0 where
  pub nodes : List Node
  pub partitions : List Partition
  pub leaves : List LeafApps
  pub stops : List StopRow
  pub maxima : List MaximumRow

-- a row for each partition, without containers, and with the clock at 0
abbrev pub no_containers : Labels → List Partition
no_containers labels = map (λ label. record { label = label; clock = 0; containers = [] }) (partition_labels labels)

-- the opening state: no node, application or container, every clock 0, and the configured stops and maxima
abbrev pub opening : Config → State
opening c = record { nodes = []; partitions = no_containers c.labels; leaves = no_apps c; stops = opening_stops c; maxima = opening_maxima c }

-- the node of a name
abbrev pub node_of : State → Name → Option Node
node_of s name = find_node s.nodes name

-- the sum of a partition's nodes
abbrev pub total : State → Label → Resource
total s label = total_on s.nodes label

-- the most that a queue may use of a partition
unfoldable pub maximum : State → Path → Label → Resource
maximum s queue label = maximum_of s.maxima queue label (total s label)

-- what a queue is guaranteed of a partition
unfoldable pub guaranteed : Config → State → Path → Label → Resource
guaranteed c s queue label = guaranteed_of c queue label (total s label)

-- whether a row is that of a partition
abbrev pub is_partition : Label → Partition → Bool
is_partition label row = same_label row.label label

-- what a partition's clock shows
unfoldable pub clock : State → Label → ℕ
clock s label = option_map_or (λ row. row.clock) (find (is_partition label) s.partitions) 0

-- whether a partition's clock is spent: it stands at its limit
unfoldable pub is_spent : Labels → State → Label → Bool
is_spent labels s label = nat_le (clock_limit labels label) (clock s label)

-- what a partition's clock shows after one more change there
unfoldable pub next_clock : Labels → State → Label → ℕ
next_clock labels s label = rises (clock_limit labels label) (clock s label)

-- the containers on a partition
abbrev pub containers_on : State → Label → List Container
containers_on s label = option_map_or (λ row. row.containers) (find (is_partition label) s.partitions) []

-- one partition is changed
abbrev pub in_partition : Label → (Partition → Partition) → List Partition → List Partition
in_partition label change partitions = update (is_partition label) change partitions

-- the sum of the sizes of containers
abbrev pub sizes : List Container → Resource
sizes containers = total_of (λ container. container.size) containers

-- what is free on a node: its size less all its containers
unfoldable pub free : State → Node → Resource
free s node = less node.size (sizes (filter (λ container. same_name container.node node.name) (containers_on s node.label)))

-- whether what is placed is a master
abbrev pub is_master_what : What → Bool
is_master_what Master = true
is_master_what (Asked label priority) = false

-- whether a container is a master
abbrev pub is_master : Container → Bool
is_master container = is_master_what container.what

-- whether a container is that of a tenant's application
abbrev pub is_of : Name → Name → Container → Bool
is_of tenant name container = same_name container.tenant tenant && same_name container.app name

-- whether an application runs: it has its master container, which stands on the home label
unfoldable pub runs : State → Application → Bool
runs s app = list_any (λ container. is_master container && is_of (tenant_of app.leaf) app.name container) (containers_on s app.home)

-- whether an application waits: it has no master container
abbrev pub waits : State → Application → Bool
waits s app = not (runs s app)

-- whether what is placed on a partition is a guest there: an ask for DEFAULT elsewhere
abbrev pub is_guest_on : Label → What → Bool
is_guest_on partition Master = false
is_guest_on partition (Asked label priority) = is_default label && not (is_default partition)

-- whether a container is a guest
abbrev pub is_guest : Container → Bool
is_guest container = is_guest_on container.id.label container.what

-- whether a container's application passes a test
abbrev pub of_app_that : (Application → Bool) → List LeafApps → Container → Bool
of_app_that test leaves container = option_map_or test (find_app leaves container.tenant container.app) false

-- whether a container's leaf is the queue or below
abbrev pub is_below : List LeafApps → Path → Container → Bool
is_below leaves queue container = option_map_or (is_within queue) (leaf_of leaves container.tenant container.app) false

-- the containers that count in the use of a queue on a partition: they stand there, are no guests, and their leaf is the queue or below
abbrev pub counted : State → Path → Label → List Container
counted s queue label = filter (λ container. not (is_guest container) && is_below s.leaves queue container) (containers_on s label)

-- what a queue uses of a partition
unfoldable pub used : State → Path → Label → Resource
used s queue label = sizes (counted s queue label)

-- what a user uses of a partition in a queue
unfoldable pub user_used : State → Path → Name → Label → Resource
user_used s queue user label = sizes (filter (of_app_that (λ app. same_name app.user user) s.leaves) (counted s queue label))

-- what the masters of a queue use of a partition
unfoldable pub masters_used : State → Path → Label → Resource
masters_used s queue label = sizes (filter is_master (counted s queue label))

-- what the guests of a queue use of a partition
unfoldable pub guests : State → Path → Label → Resource
guests s queue label = sizes (filter (λ container. is_guest container && is_below s.leaves queue container) (containers_on s label))
