-- The lines of a state.
use Rattle.std.specs.Prelude.{◌==◌, List, [], ◌∷◌, ◌++◌, map, find, flat_map, length, if◌then◌else◌}
use Rattle.std.specs.Option.{option_map_or}
use Rattle.ynl_resource.specs.Names.{same_name, tenant_of}
use Rattle.ynl_resource.specs.declared.labels.Label.{Label}
use Rattle.ynl_resource.specs.declared.names.Name.{Name}
use Rattle.ynl_resource.specs.declared.paths.Path.{Path}
use Rattle.ynl_model.specs.Nodes.{partition_labels}
use Rattle.ynl_model.specs.Queues.{Config, configured_maximum, maximum_on}
use Rattle.ynl_model.specs.declared.queues.StopRow.{StopRow}
use Rattle.ynl_model.specs.declared.queues.MaximumRow.{MaximumRow}
use Rattle.ynl_model.specs.Applications.{Application, LeafApps}
use Rattle.ynl_model.specs.Cluster.{State, Partition as PartitionRow}
use Rattle.ynl_saved.specs.declared.lines.StateLine.{StateLine}
use Rattle.ynl_saved.specs.declared.lines.StateLine.TheVariants.{Begin, Partition, Node, Live, Ask, Finished, Container, Stopped, Maximum, End}

-- a partition, with its clock
abbrev pub partition_line : PartitionRow → StateLine
partition_line row = Partition row.label row.clock

-- a live application
abbrev pub live_line : Application → StateLine
live_line app = Live app.leaf app.name app.user app.home app.master

-- and behind it what it asks for
abbrev pub live_lines : Application → List StateLine
live_lines app = live_line app ∷ map (Ask (tenant_of app.leaf) app.name) app.asks

-- an application that was submitted to a leaf: a live one, or else a finished one, of which only the name is left
abbrev pub app_lines : LeafApps → Name → List StateLine
app_lines row name = option_map_or live_lines (find (λ app. same_name app.name name) row.apps) (Finished row.leaf name ∷ [])

-- a leaf's applications, in the order of submission
abbrev pub leaf_lines : LeafApps → List StateLine
leaf_lines row = flat_map (app_lines row) row.names

-- a queue that is stopped itself
abbrev pub stop_lines : StopRow → List StateLine
stop_lines row = if row.stopped then Stopped row.queue ∷ [] else []

-- the maximum of a queue on a partition, where it is not the configured one
abbrev pub maximum_lines : Config → List MaximumRow → Path → Label → List StateLine
maximum_lines c maxima queue label =
    if maximum_on maxima queue label == configured_maximum c queue label then [] else Maximum queue label (maximum_on maxima queue label) ∷ []

-- all maxima of a queue that are not the configured ones
abbrev pub maxima_lines : Config → List MaximumRow → Path → List StateLine
maxima_lines c maxima queue = flat_map (maximum_lines c maxima queue) (partition_labels c.labels)

-- all lines but the last: the version, the partitions, the nodes in the order of joining, the applications leaf by leaf, the containers partition
-- by partition, the queues that are stopped, and the maxima that are not the configured ones
unfoldable pub lines_before_end : Config → State → List StateLine
lines_before_end c s =
    Begin ∷ map partition_line s.partitions ++ map Node s.nodes ++ flat_map leaf_lines s.leaves ++ flat_map (λ row. map Container row.containers) s.partitions
    ++ flat_map stop_lines s.stops ++ flat_map (λ row. maxima_lines c s.maxima row.path) c.queues

-- the lines of a state; the last one tells how many stand before it
abbrev pub state_lines : Config → State → List StateLine
state_lines c s = lines_before_end c s ++ End (length (lines_before_end c s)) ∷ []
