-- What the rows mean in the model.
use Rattle.std.specs.Prelude.{ℕ, ◌+◌, Bool, not, ◌&&◌, nat_eq, List, [], ◌∷◌, ◌++◌, map, filter, slice_get, slice_index_or, Option, option_map, position, if◌then◌else◌}
use Rattle.std.specs.List.{filter_map, list_any}
use Rattle.std.specs.Map.{lookup}
use Rattle.std.specs.Option.{option_map_or, option_and_then}
use Rattle.ynl_resource.specs.Names.{same_name, same_path, is_within, tenant_of, top_level, root}
use Rattle.ynl_resource.specs.declared.amounts.Resource.{Resource}
use Rattle.ynl_resource.specs.declared.names.Name.{Name}
use Rattle.ynl_resource.specs.declared.labels.Label.{Label}
use Rattle.ynl_resource.specs.declared.labels.Label.TheVariants.{Unlabelled}
use Rattle.ynl_resource.specs.declared.paths.Path.{Path}
use Rattle.ynl_model.specs.declared.applications.AskRow.{AskRow}
use Rattle.ynl_model.specs.declared.containers.Placed.{Placed}
use Rattle.ynl_model.specs.declared.nodes.Node.{Node}
use Rattle.ynl_model.specs.Applications.{Application, LeafApps}
use Rattle.ynl_model.specs.Cluster.{State, Partition}
use Rattle.ynl_model.specs.declared.proposals.What.{What}
use Rattle.ynl_model.specs.declared.proposals.What.TheVariants.{Master, Ask as Asked}
use Rattle.ynl_model.specs.declared.queues.StopRow.{StopRow}
use Rattle.ynl_model.specs.declared.queues.MaximumRow.{MaximumRow}
use Rattle.ynl_model.specs.Service.{Item, item_of as item, last_name}
use Rattle.ynl_inventory.specs.layout.Paths.{path_at}
use Rattle.ynl_tables.specs.declared.apps.asks.Ask.{Ask}
use Rattle.ynl_tables.specs.declared.containers.container.Container.{Container}
use Rattle.ynl_tables.specs.declared.containers.container.Role.{Role}
use Rattle.ynl_tables.specs.declared.containers.container.Role.TheVariants as role
use Rattle.ynl_tables.specs.containers.Table.{number_at}
use Rattle.ynl_tables.specs.declared.submissions.submissions.Submission.{Submission}
use Rattle.ynl_tables.specs.submissions.Submissions.{turn_of}
use Rattle.ynl_inventory.specs.Rows.{Rows, PartitionRow, NodeRow, AppRow}

-- ---- names of numbers

-- the label of a partition
abbrev pub label_at : List PartitionRow → ℕ → Label
label_at partitions p = option_map_or (λ row. row.label) (slice_get partitions p) Unlabelled

-- the name of a node
abbrev pub node_name : List (ℕ × NodeRow) → ℕ → Name
node_name nodes n = option_map_or (λ row. row.name) (lookup (nat_eq n) nodes) []

-- the applications that were submitted to a tenant
abbrev pub submitted_to : List (List (Name × Submission)) → ℕ → List (Name × Submission)
submitted_to tenants t = slice_index_or tenants t []

-- the name of the application of a tenant and a turn
abbrev pub app_name : List (List (Name × Submission)) → ℕ → ℕ → Name
app_name tenants t turn = option_map_or (λ e. e.0) (slice_get (submitted_to tenants t) turn) []

-- the number of the live application of a name, of those that were submitted to a tenant
abbrev pub app_number : Name → List (Name × Submission) → Option ℕ
app_number name entries = option_and_then (λ e. e.1.app) (option_and_then (slice_get entries) (turn_of name entries))

-- the name of a tenant
abbrev pub tenant_name : List Path → ℕ → Name
tenant_name paths t = last_name (path_at paths t)

-- ---- containers

-- what a container is to its application
abbrev pub what_of : List PartitionRow → Role → What
what_of partitions role.Master = Master
what_of partitions (role.Ask p priority) = Asked (label_at partitions p) priority

-- the tenant and the name of an application
abbrev pub owner_of : Rows → ℕ → Name × Name
owner_of v n = option_map_or (λ row. (tenant_name v.paths row.tenant, app_name v.tenants row.tenant row.turn)) (lookup (nat_eq n) v.apps) ([], [])

-- a container of a partition of this label
abbrev pub placed_of : Rows → Label → Container → Placed
placed_of v label c = record {
  id = record { label = label; clock = c.clock };
  node = node_name v.nodes c.node;
  tenant = (owner_of v c.app).0;
  app = (owner_of v c.app).1;
  what = what_of v.partitions c.role;
  size = c.size;
}

-- the container of a clock
abbrev pub container_with : ℕ → PartitionRow → Option Container
container_with clock row = option_and_then (λ n. lookup (nat_eq n) row.containers) (number_at clock row.containers)

-- a partition with its containers
abbrev pub partition_of : Rows → PartitionRow → Partition
partition_of v row = record { label = row.label; clock = row.clock; containers = map (λ e. placed_of v row.label e.1) row.containers }

-- ---- nodes

abbrev pub node_of : List PartitionRow → NodeRow → Node
node_of partitions row = record { name = row.name; label = label_at partitions row.partition; size = row.size; stamp = row.stamp }

-- the number of the node of a name
abbrev pub node_number : Name → List (ℕ × NodeRow) → Option ℕ
node_number name nodes = lookup (same_name name) (map (λ e. (e.1.name, e.0)) nodes)

-- ---- applications

-- an ask
abbrev pub ask_of : List PartitionRow → Ask → AskRow
ask_of partitions ask = record { label = label_at partitions ask.partition; priority = ask.priority; count = ask.count; size = ask.size }

-- a live application of this name
abbrev pub application_of : Rows → Name → AppRow → Application
application_of v name row = record {
  leaf = path_at v.paths row.leaf;
  name = name;
  user = slice_index_or v.users row.user [];
  home = label_at v.partitions row.home;
  master = row.master;
  asks = map (ask_of v.partitions) row.asks;
}

-- the live application of a number and a row, by its own name
abbrev pub app_of : Rows → ℕ × AppRow → Application
app_of v e = application_of v (app_name v.tenants e.1.tenant e.1.turn) e.1

-- what a live application asks to be placed: for what, and how large
abbrev pub item_of : Rows → AppRow → Role → Resource → Item
item_of v row r size = item (application_of v (app_name v.tenants row.tenant row.turn) row) (what_of v.partitions r) size

-- the live application of a submission, if it is live
abbrev pub live_of : Rows → Name × Submission → Option Application
live_of v e = option_map (application_of v e.0) (option_and_then (λ n. lookup (nat_eq n) v.apps) e.1.app)

-- the number of a leaf's tenant: that of the top-level queue on its way
abbrev pub tenant_at : List Path → ℕ → ℕ
tenant_at paths q = option_map_or (λ n. n + 1) (position (same_path (top_level (tenant_of (path_at paths q)))) paths) 0

-- what was submitted to a leaf
abbrev pub submitted_in : Rows → ℕ → List (Name × Submission)
submitted_in v q = filter (λ e. nat_eq e.1.leaf q) (submitted_to v.tenants (tenant_at v.paths q))

-- a leaf with its applications
abbrev pub leaf_of : Rows → ℕ → LeafApps
leaf_of v q = record {
  leaf = path_at v.paths q;
  names = map (λ e. e.0) (submitted_in v q);
  apps = filter_map (live_of v) (submitted_in v q);
}

-- whether a queue below root has no other queue below it
abbrev pub has_none_below : List Path → Path → Bool
has_none_below paths queue = not (same_path queue root) && not (list_any (λ other. is_within queue other && not (same_path queue other)) paths)

-- the numbers of the leaves, in the order of the configuration, of queues from this number on
abbrev pub leaves_from : List Path → ℕ → List Path → List ℕ
leaves_from all n [] = []
leaves_from all n (path ∷ paths) = (if has_none_below all path then n ∷ [] else []) ++ leaves_from all (n + 1) paths

abbrev pub leaf_numbers : List Path → List ℕ
leaf_numbers paths = leaves_from paths 1 paths

-- ---- the state

-- the state of a cluster with these rows, stops and maxima
abbrev pub state_of : Rows → List StopRow → List MaximumRow → State
state_of v stops maxima = record {
  nodes = map (λ e. node_of v.partitions e.1) v.nodes;
  partitions = map (partition_of v) v.partitions;
  leaves = map (leaf_of v) (leaf_numbers v.paths);
  stops = stops;
  maxima = maxima;
}
