-- What holds of the lines of each section of a state holds of all its lines.
use Rattle.std.proofs.Common.{ℕ, Bool, true, false, cond, ◌==◌, List, [], ◌∷◌, ◌++◌, map, Option, Some, None, find}
use Rattle.std.specs.List.{AllByRecursion}
use Rattle.std.specs.Option.{option_map_or}
use Rattle.std.specs.Prelude.{IfSome, ⊤, flat_map}
use Rattle.ynl_resource.specs.Names.{same_name, tenant_of}
use Rattle.ynl_resource.specs.declared.labels.Label.{Label}
use Rattle.ynl_resource.specs.declared.names.Name.{Name}
use Rattle.ynl_resource.specs.declared.paths.Path.{Path}
use Rattle.ynl_model.specs.Applications.{Application, LeafApps}
use Rattle.ynl_model.specs.Cluster.{State, Partition as PartitionRow}
use Rattle.ynl_model.specs.Nodes.{partition_labels}
use Rattle.ynl_model.specs.Queues.{Config, QueueRow, configured_maximum, maximum_on}
use Rattle.ynl_model.specs.declared.containers.Placed.{Placed}
use Rattle.ynl_model.specs.declared.nodes.Node.{Node as NodeRow}
use Rattle.ynl_model.specs.declared.queues.StopRow.{StopRow}
use Rattle.ynl_saved.specs.Saving.{app_lines, leaf_lines, lines_before_end, live_line, live_lines, maxima_lines, maximum_lines, partition_line, state_lines, stop_lines}
use Rattle.ynl_saved.specs.declared.lines.StateLine.TheVariants.{Begin, Node, Ask, Finished, Container, Stopped, Maximum, End}
use Rattle.ynl_saved.specs.declared.lines.StateLine.{StateLine}
use Rattle.ynl_laws.proofs.Lists.{Each-all, Each-append, Each-flat, Each-found, Each-map}

-- a property of lines holds of those of each section of a state
pub record HoldsBySection (P : StateLine → Type 0) (s : State) : Type 0 where
  pub begin : P Begin
  pub partitions : AllByRecursion (λ (row : PartitionRow). P (partition_line row)) s.partitions
  pub nodes : AllByRecursion (λ (node : NodeRow). P (Node node)) s.nodes
  pub lives : (app : Application) → P (live_line app)
  pub asks : AllByRecursion (λ (row : LeafApps). AllByRecursion (λ (app : Application). AllByRecursion (λ ask. P (Ask (tenant_of app.leaf) app.name ask)) app.asks) row.apps) s.leaves
  pub finished : (queue : Path) (name : Name) → P (Finished queue name)
  pub containers : AllByRecursion (λ (row : PartitionRow). AllByRecursion (λ (k : Placed). P (Container k)) row.containers) s.partitions
  pub stopped : (queue : Path) → P (Stopped queue)
  pub maxima : (queue : Path) (label : Label) (share : ℕ) → P (Maximum queue label share)
  pub end : (lines : ℕ) → P (End lines)

module _ (P : StateLine → Type 0) (c : Config) (s : State) (h : HoldsBySection P s) where
  -- the lines of some things, where it holds of those of each such thing
  of-any : {X : Type 0} (lines : X → List StateLine) → ((x : X) → AllByRecursion P (lines x)) → (xs : List X) → AllByRecursion P (flat_map lines xs)
  of-any lines all xs = Each-flat (λ x. ⊤) P lines (λ x _. all x) xs (Each-all (λ x. ⊤) (λ x. tt) xs)

  -- the lines of a leaf
  of-leaf : (row : LeafApps) → AllByRecursion (λ (app : Application). AllByRecursion (λ ask. P (Ask (tenant_of app.leaf) app.name ask)) app.asks) row.apps → AllByRecursion P (leaf_lines row)
  of-leaf row asks = of-any (app_lines row) (λ name. go name (find (λ app. same_name app.name name) row.apps)
      (Each-found (λ (app : Application). AllByRecursion (λ ask. P (Ask (tenant_of app.leaf) app.name ask)) app.asks) (λ app. same_name app.name name) row.apps asks)) row.names
    where
      go : (name : Name) (o : Option Application) → IfSome o (λ (app : Application). AllByRecursion (λ ask. P (Ask (tenant_of app.leaf) app.name ask)) app.asks) →
          AllByRecursion P (option_map_or live_lines o (Finished row.leaf name ∷ []))
      go name None k = (h.finished row.leaf name, tt)
      go name (Some app) k = (h.lives app, Each-map (λ ask. P (Ask (tenant_of app.leaf) app.name ask)) P (Ask (tenant_of app.leaf) app.name) (λ ask j. j) app.asks k)

  -- the line of a stop, where there is one
  of-stop : (row : StopRow) → AllByRecursion P (stop_lines row)
  of-stop row = go row.stopped
    where
      go : (b : Bool) → AllByRecursion P (cond b (Stopped row.queue ∷ []) [])
      go true = (h.stopped row.queue, tt)
      go false = tt

  -- the line of a maximum, where there is one
  of-maximum : (queue : Path) (label : Label) → AllByRecursion P (maximum_lines c s.maxima queue label)
  of-maximum queue label = go (maximum_on s.maxima queue label == configured_maximum c queue label)
    where
      go : (b : Bool) → AllByRecursion P (cond b [] (Maximum queue label (maximum_on s.maxima queue label) ∷ []))
      go true = tt
      go false = (h.maxima queue label (maximum_on s.maxima queue label), tt)

  -- the lines to the nodes, to the applications, to the containers, and to the stops
  abbrev to-nodes : List StateLine
  to-nodes = Begin ∷ map partition_line s.partitions ++ map Node s.nodes

  abbrev to-leaves : List StateLine
  to-leaves = to-nodes ++ flat_map leaf_lines s.leaves

  abbrev to-containers : List StateLine
  to-containers = to-leaves ++ flat_map (λ row. map Container row.containers) s.partitions

  abbrev to-stops : List StateLine
  to-stops = to-containers ++ flat_map stop_lines s.stops

  -- all lines
  pub each-line : AllByRecursion P (state_lines c s)
  unfolding lines_before_end
  each-line =
      Each-append P (lines_before_end c s) _
      (Each-append P to-stops _
      (Each-append P to-containers _
      (Each-append P to-leaves _
      (Each-append P to-nodes _
      (Each-append P (Begin ∷ map partition_line s.partitions) _
      (h.begin, Each-map (λ row. P (partition_line row)) P partition_line (λ row k. k) s.partitions h.partitions)
      (Each-map (λ node. P (Node node)) P Node (λ node k. k) s.nodes h.nodes))
      (Each-flat _ P leaf_lines of-leaf s.leaves h.asks))
      (Each-flat _ P (λ (row : PartitionRow). map Container row.containers) (λ row k. Each-map (λ k. P (Container k)) P Container (λ k j. j) row.containers k) s.partitions h.containers))
      (of-any stop_lines of-stop s.stops))
      (of-any (λ (row : QueueRow). maxima_lines c s.maxima row.path) (λ row. of-any (maximum_lines c s.maxima row.path) (of-maximum row.path) (partition_labels c.labels)) c.queues))
      (h.end _, tt)
