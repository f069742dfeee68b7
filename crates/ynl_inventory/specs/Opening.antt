-- The rows of a configuration before any event.
use Rattle.std.specs.Prelude.{◌≡◌, not, ◌&&◌, List, [], ◌∷◌, map, length, replicate}
use Rattle.ynl_resource.specs.Names.{is_default, root}
use Rattle.ynl_resource.specs.declared.labels.Label.{Label}
use Rattle.ynl_model.specs.Nodes.{Labels, is_exclusive, clock_limit, partition_labels}
use Rattle.ynl_model.specs.declared.queues.StopRow.{StopRow}
use Rattle.ynl_model.specs.declared.queues.MaximumRow.{MaximumRow}
use Rattle.ynl_model.specs.Cluster.{opening}
use Rattle.ynl_model.specs.Queues.{Config}
use Rattle.ynl_inventory.specs.layout.Paths.{paths_of}
use Rattle.ynl_inventory.specs.Rows.{Rows, PartitionRow}
use Rattle.ynl_inventory.specs.Meaning.{state_of}

-- a partition without containers, whose clock shows 0
abbrev pub opening_partition : Labels → Label → PartitionRow
opening_partition labels label = record { label = label; guests = not (is_default label) && not (is_exclusive labels label); limit = clock_limit labels label; clock = 0; containers = [] }

-- no nodes, applications or containers, and nothing was submitted to any queue
abbrev pub opening_rows : Config → Rows
opening_rows c = record {
  paths = paths_of c;
  partitions = map (opening_partition c.labels) (partition_labels c.labels);
  nodes = [];
  apps = [];
  tenants = replicate (length (root ∷ paths_of c)) [];
  users = [];
}

-- the rows mean the model's opening state, but for its stops and maxima, which are none of theirs
abbrev pub IsOpening : Config → Rows → Type 0
IsOpening c v = (stops : List StopRow) (maxima : List MaximumRow) → state_of v stops maxima ≡ record (opening c) { stops = stops; maxima = maxima }
