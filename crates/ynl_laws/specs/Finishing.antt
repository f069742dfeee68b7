-- An application that finishes, in two parts: the clocks rise once for each of its containers, and then the containers go.
use Rattle.std.specs.Prelude.{List, map, fold}
use Rattle.ynl_resource.specs.declared.names.Name.{Name}
use Rattle.ynl_resource.specs.Tables.{without}
use Rattle.ynl_model.specs.declared.containers.Placed.{Placed as Container}
use Rattle.ynl_model.specs.Queues.{Config}
use Rattle.ynl_model.specs.Cluster.{State, Partition, is_of}
use Rattle.ynl_model.specs.Changes.{changed_at}

-- the clock of a container's partition rises, and is the stamp of its node
abbrev pub clock_rises : Config → State → Container → State
clock_rises c s container = changed_at c container.node container.id.label (λ containers. containers) s

-- that for one container after another
abbrev pub clocks_rise : Config → List Container → State → State
clocks_rise c containers s = fold (clock_rises c) s containers

-- a row without the containers of an application
abbrev pub without_own : Name → Name → Partition → Partition
without_own tenant app row = record row { containers = without (is_of tenant app) row.containers }

-- and so all rows of a state
abbrev pub all_without_own : Name → Name → State → State
all_without_own tenant app s = record s { partitions = map (without_own tenant app) s.partitions }
