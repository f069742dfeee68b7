-- What changes the state: nodes that come and go, containers that are placed and end, and applications that finish.
use Rattle.std.specs.Prelude.{ℕ, zero, suc, List, [], ◌∷◌, ◌++◌, filter, flat_map, fold, Option, None, if◌then◌else◌}
use Rattle.std.specs.Option.{option_map_or}
use Rattle.ynl_resource.specs.declared.amounts.Resource.{Resource}
use Rattle.ynl_resource.specs.Names.{same_name, tenant_of, same_id}
use Rattle.ynl_resource.specs.declared.names.Name.{Name}
use Rattle.ynl_resource.specs.declared.labels.Label.{Label}
use Rattle.ynl_resource.specs.Tables.{without}
use Rattle.ynl_model.specs.Nodes.{Node, stamped, joined, left}
use Rattle.ynl_model.specs.Queues.{Config}
use Rattle.ynl_model.specs.Applications.{Application, in_leaf, with_app, finished, take_one}
use Rattle.ynl_model.specs.Cluster.{State, What, Master, Asked, Container, is_spent, next_clock, in_partition, containers_on, is_of}
use Rattle.ynl_model.specs.Service.{Item, choice}

-- a node joins a partition: the clock rises, and is the node's stamp
unfoldable pub node_joins : Config → Name → Label → Resource → State → State
node_joins c name label size s = record s {
  nodes = joined (record { name = name; label = label; size = size; stamp = next_clock c.labels s label }) s.nodes;
  partitions = in_partition label (λ row. record row { clock = next_clock c.labels s label }) s.partitions;
}

-- a node leaves, and its containers end with it; the clock does not move
unfoldable pub node_leaves : Node → State → State
node_leaves node s = record s {
  nodes = left node s.nodes;
  partitions = in_partition node.label (λ row. record row { containers = without (λ container. same_name container.node node.name) row.containers }) s.partitions;
}

-- the containers of a node's partition change: the clock rises, and is the node's stamp
unfoldable pub changed_at : Config → Name → Label → (List Container → List Container) → State → State
changed_at c name label change s = record s {
  nodes = stamped name label (next_clock c.labels s label) s.nodes;
  partitions = in_partition label (λ row. record row { clock = next_clock c.labels s label; containers = change row.containers }) s.partitions;
}

-- the container that a request becomes on a node: its id is the partition and the clock after the placement
unfoldable pub container_of : Config → State → Node → Item → Container
container_of c s node item = record {
  id = record { label = node.label; clock = next_clock c.labels s node.label };
  node = node.name;
  tenant = tenant_of item.leaf;
  app = item.app;
  what = item.what;
  size = item.size;
}

-- one less is asked for; a master is not counted
abbrev pub taken : What → Application → Application
taken Master app = app
taken (Asked label priority) app = take_one label priority app

-- a request is placed on a node: the container comes last on the partition, and the ask's count falls
unfoldable pub place : Config → Node → Item → State → State
place c node item s = record (changed_at c node.name node.label (λ containers. containers ++ container_of c s node item ∷ []) s) {
  leaves = in_leaf item.leaf (with_app item.app (taken item.what)) s.leaves;
}

-- a container comes last on its partition; no clock moves, no stamp changes, and no less is asked for
abbrev pub with_container : Container → State → State
with_container p s = record s { partitions = in_partition p.id.label (λ row. record row { containers = row.containers ++ p ∷ [] }) s.partitions }

-- a container ends: it goes from its partition
unfoldable pub end : Config → State → Container → State
end c s container = changed_at c container.node container.id.label (without (λ other. same_id other.id container.id)) s

-- the request that is placed next on a node: none where the clock is spent
abbrev pub next_item : Config → State → Node → Option Item
next_item c s node = if is_spent c.labels s node.label then None else choice c s node

-- the containers that were placed, and the state after that
pub record Beat : Type 0 where
  pub placed : List Container
  pub state : State

-- the next request is placed on a node, again and again, so many times at most
unfoldable pub beat : Config → Node → ℕ → State → Beat
beat c node zero s = record { placed = []; state = s }
beat c node (suc times) s = option_map_or
    (λ item. record {
      placed = container_of c s node item ∷ (beat c node times (place c node item s)).placed;
      state = (beat c node times (place c node item s)).state;
    })
    (next_item c s node) (record { placed = []; state = s })

-- an application's containers on a partition, by clock
abbrev pub own_containers : State → Name → Name → Label → List Container
own_containers s tenant name label = filter (is_of tenant name) (containers_on s label)

-- an application's containers in the order of their ids: partition by partition, and in each by clock
abbrev pub all_own : State → Name → Name → List Container
all_own s tenant name = flat_map (λ row. filter (is_of tenant name) row.containers) s.partitions

-- containers end one by one
abbrev pub all_end : Config → List Container → State → State
all_end c containers s = fold (end c) s containers

-- an application finishes: its containers end in the order of their ids, and of it only the name stays
unfoldable pub app_finishes : Config → Application → State → State
app_finishes c app s = record (all_end c (all_own s (tenant_of app.leaf) app.name) s) { leaves = in_leaf app.leaf (finished app.name) s.leaves }
