-- How the rows change.
use Rattle.std.specs.Prelude.{ℕ, zero, suc, not, nat_eq, List, [], ◌∷◌, ◌++◌, filter, length, slice_get, slice_index_or, Some, if◌then◌else◌}
use Rattle.std.specs.List.{list_any}
use Rattle.std.specs.Map.{lookup}
use Rattle.std.specs.Option.{option_map_or}
use Rattle.ynl_resource.specs.declared.amounts.Resource.{Resource}
use Rattle.ynl_resource.specs.declared.names.Name.{Name}
use Rattle.ynl_resource.specs.Names.{same_name}
use Rattle.ynl_model.specs.Nodes.{rises}
use Rattle.ynl_slots.specs.Slots.{without}
use Rattle.ynl_tables.specs.declared.apps.asks.Ask.{Ask}
use Rattle.ynl_tables.specs.declared.apps.app.Tickets.{Tickets}
use Rattle.ynl_tables.specs.apps.Apps.{no_tickets, with_change}
use Rattle.ynl_tables.specs.apps.Asks.{with_ask, with_one_taken}
use Rattle.ynl_tables.specs.declared.containers.container.Container.{Container}
use Rattle.ynl_tables.specs.declared.containers.container.Role.{Role}
use Rattle.ynl_tables.specs.declared.containers.container.Role.TheVariants.{Master, Ask as Asked}
use Rattle.ynl_tables.specs.submissions.Submissions.{with_finished}
use Rattle.ynl_inventory.specs.Rows.{Rows, PartitionRow, NodeRow, AppRow}

-- the row in a place changes
abbrev pub with_at : {X : Type 0} → ℕ → (X → X) → List X → List X
with_at place change [] = []
with_at zero change (x ∷ xs) = change x ∷ xs
with_at (suc place) change (x ∷ xs) = x ∷ with_at place change xs

-- what the clock of a partition shows after one more change there
abbrev pub next_clock : PartitionRow → ℕ
next_clock row = rises row.limit row.clock

-- the same of the partition of a number
abbrev pub next_clock_at : List PartitionRow → ℕ → ℕ
next_clock_at partitions p = option_map_or next_clock (slice_get partitions p) 0

-- the clock of a partition rises, and its containers change
abbrev pub ticked : (List (ℕ × Container) → List (ℕ × Container)) → PartitionRow → PartitionRow
ticked change row = record row { clock = next_clock row; containers = change row.containers }

-- the partition of a node
abbrev pub partition_of_node : List (ℕ × NodeRow) → ℕ → ℕ
partition_of_node nodes n = option_map_or (λ row. row.partition) (lookup (nat_eq n) nodes) 0

-- one less is asked for, where it is no master
abbrev pub with_taken : Role → AppRow → AppRow
with_taken Master row = row
with_taken (Asked p priority) row = record row { asks = with_one_taken p priority row.asks }

-- the container that is placed next on a node
abbrev pub next_container : Rows → ℕ → ℕ → Role → Resource → Container
next_container v node app role size = record {
  clock = next_clock_at v.partitions (partition_of_node v.nodes node);
  node = node;
  app = app;
  role = role;
  size = size;
}

-- the containers of a partition change, on a node there: the clock rises, and is the node's stamp
abbrev pub with_changed : ℕ → ℕ → (List (ℕ × Container) → List (ℕ × Container)) → Rows → Rows
with_changed p node change v = record v {
  partitions = with_at p (ticked change) v.partitions;
  nodes = with_change node (λ row. record row { stamp = next_clock_at v.partitions p }) v.nodes;
}

-- a live application changes
abbrev pub with_app_changed : ℕ → (AppRow → AppRow) → Rows → Rows
with_app_changed app change v = record v { apps = with_change app change v.apps }

-- the clock of a partition is set
abbrev pub with_clock : ℕ → ℕ → Rows → Rows
with_clock p clock v = record v { partitions = with_at p (λ row. record row { clock = clock }) v.partitions }

-- the stamp of a node is set
abbrev pub with_stamp : ℕ → ℕ → Rows → Rows
with_stamp node stamp v = record v { nodes = with_change node (λ row. record row { stamp = stamp }) v.nodes }

-- a container is placed on a node, under a number
abbrev pub with_placed : ℕ → ℕ → ℕ → Role → Resource → Rows → Rows
with_placed number node app role size v =
    with_app_changed app (with_taken role)
    (with_changed (partition_of_node v.nodes node) node (λ containers. containers ++ (number, next_container v node app role size) ∷ []) v)

-- the container of a number goes from a partition, where it stands on this node
abbrev pub with_ended : ℕ → ℕ → ℕ → Rows → Rows
with_ended p number node v = with_changed p node (without number) v

-- a node joins a partition, under a number
abbrev pub with_joined : ℕ → Name → ℕ → Resource → Rows → Rows
with_joined number name p size v = record v {
  partitions = with_at p (ticked (λ containers. containers)) v.partitions;
  nodes = v.nodes ++ (number, record { name = name; partition = p; size = size; stamp = next_clock_at v.partitions p }) ∷ [];
}

-- a node leaves with its containers
abbrev pub with_left : ℕ → Rows → Rows
with_left node v = record v {
  partitions = with_at (partition_of_node v.nodes node) (λ row. record row { containers = filter (λ e. not (nat_eq e.1.node node)) row.containers }) v.partitions;
  nodes = without node v.nodes;
}

-- a container goes with its node: no clock rises, and no stamp changes
abbrev pub with_dropped : ℕ → ℕ → Rows → Rows
with_dropped p number v = record v { partitions = with_at p (λ row. record row { containers = without number row.containers }) v.partitions }

-- a container comes to stand on a partition, under a number: no clock rises, no stamp changes, and no less is asked for
abbrev pub with_stood : ℕ → ℕ → Container → Rows → Rows
with_stood p number c v = record v { partitions = with_at p (λ row. record row { containers = row.containers ++ (number, c) ∷ [] }) v.partitions }

-- a node without containers leaves
abbrev pub with_node_gone : ℕ → Rows → Rows
with_node_gone node v = record v { nodes = without node v.nodes }

-- a new application of a leaf, under a number
abbrev pub new_app : ℕ → ℕ → ℕ → ℕ → ℕ → Resource → AppRow
new_app tenant turn leaf user home master = record {
  tenant = tenant;
  turn = turn;
  leaf = leaf;
  user = user;
  home = home;
  master = master;
  asks = [];
  tickets = no_tickets;
}

-- it is submitted
abbrev pub with_submitted : ℕ → Name → ℕ → ℕ → ℕ → ℕ → Resource → Rows → Rows
with_submitted number name tenant leaf user home master v = record v {
  apps = v.apps ++ (number, new_app tenant (length (slice_index_or v.tenants tenant [])) leaf user home master) ∷ [];
  tenants = with_at tenant (λ entries. entries ++ (name, record { leaf = leaf; app = Some number }) ∷ []) v.tenants;
}

-- an application asks
abbrev pub with_asked : ℕ → Ask → Rows → Rows
with_asked app ask v = with_app_changed app (λ row. record row { asks = with_ask ask row.asks }) v

-- the tickets of a live application
abbrev pub with_tickets : ℕ → Tickets → Rows → Rows
with_tickets app tickets v = with_app_changed app (λ row. record row { tickets = tickets }) v

-- an application that has no containers is live no more
abbrev pub with_app_gone : ℕ → ℕ → ℕ → Rows → Rows
with_app_gone app tenant turn v = record v {
  apps = without app v.apps;
  tenants = with_at tenant (with_finished turn) v.tenants;
}

-- a user has a number
abbrev pub with_user : Name → Rows → Rows
with_user name v = record v { users = v.users ++ name ∷ [] }

-- so has it if it has none yet
abbrev pub with_user_known : Name → Rows → Rows
with_user_known name v = if list_any (λ other. same_name other name) v.users then v else with_user name v
