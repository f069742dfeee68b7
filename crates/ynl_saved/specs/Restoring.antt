-- What lines make of a state: each is tested against the lines before it, and then changes the state that they tell.
use Rattle.std.specs.Prelude.{ℕ, ◌+◌, Bool, true, false, not, ◌&&◌, ◌||◌, ◌==◌, nat_lt, nat_le, List, [], ◌∷◌, ◌++◌, map, count_by, fold, is_some, length, Option, Some, None, if◌then◌else◌}
use Rattle.std.specs.List.{list_all, list_any}
use Rattle.std.specs.Option.{option_map_or}
use Rattle.ynl_resource.specs.Amounts.{fits_in}
use Rattle.ynl_resource.specs.Names.{is_default, root, same_label, same_path, tenant_of}
use Rattle.ynl_resource.specs.Ranges.{most_asks}
use Rattle.ynl_resource.specs.declared.amounts.Resource.{Resource}
use Rattle.ynl_resource.specs.declared.labels.Label.{Label}
use Rattle.ynl_resource.specs.declared.names.Name.{Name}
use Rattle.ynl_resource.specs.declared.paths.Path.{Path}
use Rattle.ynl_model.specs.declared.applications.AskRow.{AskRow}
use Rattle.ynl_model.specs.declared.containers.Placed.{Placed}
use Rattle.ynl_model.specs.declared.nodes.Node.{Node as NodeRow}
use Rattle.ynl_model.specs.declared.proposals.What.{What}
use Rattle.ynl_model.specs.declared.queues.StopRow.{StopRow}
use Rattle.ynl_model.specs.declared.proposals.What.TheVariants.{Master, Ask as Asked}
use Rattle.ynl_model.specs.Accepted.{is_from_to}
use Rattle.ynl_model.specs.Nodes.{clock_limit, has_label, is_exclusive, is_full, joined, partition_labels}
use Rattle.ynl_model.specs.Queues.{Config, capacity_on, is_leaf, is_queue, may_use, set_maximum, set_stop, setting}
use Rattle.ynl_model.specs.Applications.{Application, apps_of, find_app, find_ask, in_leaf, is_used, new_app, submitted, with_app}
use Rattle.ynl_model.specs.Changes.{with_container}
use Rattle.ynl_model.specs.Cluster.{State, clock, containers_on, free, in_partition, node_of, opening, runs}
use Rattle.ynl_saved.specs.declared.lines.StateLine.{StateLine}
use Rattle.ynl_saved.specs.declared.lines.StateLine.TheVariants.{Begin, Partition, Node, Live, Ask, Finished, Container, Stopped, Maximum, End}

-- what the lines so far told: the state, which partitions had a line, which maxima, and how many lines there were
pub record Restored : Type 0 where
  pub state : State
  pub partitions : List Label
  pub maxima : List (Path × Label)
  pub lines : ℕ

-- before any line: the opening state, in which all queues run, however they are configured
abbrev pub nothing_restored : Config → Restored
nothing_restored c = record { state = record (opening c) { stops = map (λ (row : StopRow). record row { stopped = false }) (opening c).stops }; partitions = []; maxima = []; lines = 0 }

-- ---- tests

-- the clock of the container that came last on a partition, 0 where there is none
abbrev pub last_clock : State → Label → ℕ
last_clock s label = fold (λ before container. container.id.clock) 0 (containers_on s label)

-- whether a queue is a leaf, and no application of its tenant had the name
abbrev pub may_come : Config → State → Path → Name → Bool
may_come c s queue app = is_queue c queue && is_leaf c queue && not (is_used s.leaves (tenant_of queue) app)

-- whether a size is within the largest that is given
abbrev pub is_given : Config → Resource → Bool
is_given c size = fits_in size c.maximum_allocation

-- whether a leaf has fewer live applications than it may have
abbrev pub has_place : Config → State → Path → Bool
has_place c s queue = nat_lt (length (apps_of s.leaves queue)) (setting (λ row. row.leaf.maximum_applications) 0 c queue)

-- whether an application asks on a label: DEFAULT, or its home
abbrev pub asks_on : Application → Label → Bool
asks_on app label = is_default label || same_label label app.home

-- whether an application may have an ask besides those that it has
abbrev pub may_ask : Config → AskRow → Application → Bool
may_ask c ask app =
    asks_on app ask.label && nat_lt 0 ask.count && is_given c ask.size && not (is_some (find_ask app ask.label ask.priority))
    && nat_lt (count_by (λ other. same_label other.label ask.label) app.asks) most_asks

-- whether a container of a partition may be an application's: its master at home and of the master's size, while it has none; and what it asked for
-- where it asked for it, or as a guest
abbrev pub may_have : Config → State → Placed → What → Application → Bool
may_have c s p Master app = same_label p.id.label app.home && (p.size.memory == app.master.memory) && (p.size.vcores == app.master.vcores) && not (runs s app)
may_have c s p (Asked label priority) app =
    asks_on app label && (same_label label p.id.label || (is_default label && not (is_exclusive c.labels p.id.label)))

-- whether a container may stand on a node: in the node's partition, no earlier than the node's last change, and in what is free there
abbrev pub may_stand : State → Placed → NodeRow → Bool
may_stand s p node = same_label node.label p.id.label && nat_le p.id.clock node.stamp && fits_in p.size (free s node)

-- whether what a line tells goes with what the lines before it told
unfoldable pub is_sound_line : Config → Restored → StateLine → Bool
is_sound_line c r Begin = true
is_sound_line c r (Partition label shown) = has_label c.labels label && not (list_any (same_label label) r.partitions) && nat_le shown (clock_limit c.labels label)
is_sound_line c r (Node node) =
    list_any (same_label node.label) r.partitions && not (is_some (node_of r.state node.name)) && not (is_full r.state.nodes node.label)
    && is_from_to 1 (clock r.state node.label) node.stamp
is_sound_line c r (Live queue app user label master) = may_come c r.state queue app && may_use c queue label && is_given c master && has_place c r.state queue
is_sound_line c r (Ask tenant app ask) = option_map_or (may_ask c ask) (find_app r.state.leaves tenant app) false
is_sound_line c r (Finished queue app) = may_come c r.state queue app
is_sound_line c r (Container p) =
    option_map_or (may_stand r.state p) (node_of r.state p.node) false && nat_lt (last_clock r.state p.id.label) p.id.clock && is_given c p.size
    && option_map_or (may_have c r.state p p.what) (find_app r.state.leaves p.tenant p.app) false
is_sound_line c r (Stopped queue) =
    is_queue c queue && not (same_path queue root) && not (list_any (λ row. row.stopped && same_path row.queue queue) r.state.stops)
is_sound_line c r (Maximum queue label share) =
    is_queue c queue && not (same_path queue root) && may_use c queue label && nat_le (capacity_on c queue label) share
    && not (list_any (λ set. same_path set.0 queue && same_label set.1 label) r.maxima)
is_sound_line c r (End lines) = (lines == r.lines) && list_all (λ label. list_any (same_label label) r.partitions) (partition_labels c.labels)

-- ---- changes

-- the clock of a partition is set
abbrev pub with_clock : Label → ℕ → State → State
with_clock label shown s = record s { partitions = in_partition label (λ row. record row { clock = shown }) s.partitions }

-- a node comes last, with its stamp; no clock moves
abbrev pub with_node : NodeRow → State → State
with_node node s = record s { nodes = joined node s.nodes }

-- a live application comes last in its leaf
abbrev pub with_live : Application → State → State
with_live app s = record s { leaves = in_leaf app.leaf (submitted app) s.leaves }

-- an ask comes last among those of a live application
abbrev pub with_ask : Name → Name → AskRow → State → State
with_ask tenant name ask s =
    option_map_or (λ found. record s { leaves = in_leaf found.leaf (with_app name (λ app. record app { asks = app.asks ++ ask ∷ [] })) s.leaves }) (find_app s.leaves tenant name) s

-- of a finished application there is the name
abbrev pub with_finished : Path → Name → State → State
with_finished queue name s = record s { leaves = in_leaf queue (λ row. record row { names = row.names ++ name ∷ [] }) s.leaves }

-- what the state is with a line more
unfoldable pub with_line : StateLine → State → State
with_line Begin s = s
with_line (Partition label shown) s = with_clock label shown s
with_line (Node node) s = with_node node s
with_line (Live queue app user label master) s = with_live (new_app queue app user label master) s
with_line (Ask tenant app ask) s = with_ask tenant app ask s
with_line (Finished queue app) s = with_finished queue app s
with_line (Container p) s = with_container p s
with_line (Stopped queue) s = record s { stops = set_stop queue true s.stops }
with_line (Maximum queue label share) s = record s { maxima = set_maximum queue label share s.maxima }
with_line (End lines) s = s

-- the partition of a line that tells one
abbrev pub partitions_of : StateLine → List Label
partitions_of (Partition label shown) = label ∷ []
partitions_of _ = []

-- the queue and the partition of a line that tells a maximum
abbrev pub maxima_of : StateLine → List (Path × Label)
maxima_of (Maximum queue label share) = (queue, label) ∷ []
maxima_of _ = []

-- what was told with a line more
abbrev pub restored_with : StateLine → Restored → Restored
restored_with line r = record { state = with_line line r.state; partitions = partitions_of line ++ r.partitions; maxima = maxima_of line ++ r.maxima; lines = r.lines + 1 }

-- what lines tell, one after another, if each is sound
abbrev pub restored_by : Config → Restored → List StateLine → Option Restored
restored_by c r [] = Some r
restored_by c r (line ∷ lines) = if is_sound_line c r line then restored_by c (restored_with line r) lines else None
