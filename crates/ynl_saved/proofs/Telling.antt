-- The lines of each state are sound one after another, and tell that state.
use Rattle.std.proofs.Common.{◌≡◌, ℕ, ◌+◌, true, false, cond, ◌==◌, List, [], ◌∷◌, ◌++◌, length, map, Some, None, filter, refl, sym, ap, subst, ◌∙◌, arith}
use Rattle.std.specs.Prelude.{IsTrue, flat_map}
use Rattle.std.specs.List.{list_any, list_all}
use Rattle.std.proofs.lemmas.Bool.{and_from}
use Rattle.ynl_resource.specs.Names.{same_label}
use Rattle.ynl_resource.specs.declared.labels.Label.{Label}
use Rattle.ynl_resource.specs.declared.paths.Path.{Path}
use Rattle.ynl_model.specs.Accepted.{is_accepted}
use Rattle.ynl_model.specs.Applications.{LeafApps, no_apps}
use Rattle.ynl_model.specs.Cluster.{State, Partition, no_containers, opening}
use Rattle.ynl_model.specs.Events.{state_after}
use Rattle.ynl_model.specs.declared.queues.StopRow.{StopRow}
use Rattle.ynl_model.specs.Nodes.{partition_labels}
use Rattle.ynl_model.specs.Queues.{Config, QueueRow, configured_maximum, is_leaf, opening_maxima, opening_stops}
use Rattle.ynl_saved.specs.declared.lines.StateLine.{StateLine}
use Rattle.ynl_saved.specs.declared.lines.StateLine.TheVariants.{Begin, Node, Container, End}
use Rattle.ynl_saved.specs.Laws.{TellsState}
use Rattle.ynl_saved.specs.Restoring.{Restored, is_sound_line, nothing_restored, restored_by, with_line}
use Rattle.ynl_saved.specs.Saving.{leaf_lines, lines_before_end, maxima_lines, partition_line, state_lines, stop_lines}
use Rattle.ynl_laws.proofs.Lists.{Each-map, all-each, map-map}
use Rattle.ynl_saved.proofs.Apps.{reads-leaves}
use Rattle.ynl_saved.proofs.Changing.{Base}
use Rattle.ynl_saved.proofs.Leaved.{Leaved}
use Rattle.ynl_saved.proofs.Live.{empty}
use Rattle.ynl_saved.proofs.Marks.{conf, maxima-are, opening-conf, reads-maxima, reads-stops, run}
use Rattle.ynl_saved.proofs.Parts.{fresh, reads-nodes, reads-parts, settled}
use Rattle.ynl_saved.proofs.Served.{same-number_self}
use Rattle.ynl_saved.proofs.Shapes.{Shaped, key_of}
use Rattle.ynl_saved.proofs.Sound.{reads-begin}
use Rattle.ynl_saved.proofs.Stamps.{Stamped}
use Rattle.ynl_saved.proofs.Stand.{reads-containers}
use Rattle.ynl_saved.proofs.Suited.{Suited}
use Rattle.ynl_saved.proofs.Tellable.{IsTellable, tellable-after, tellable-opening}
use Rattle.ynl_saved.proofs.Told.{Reads, Side, by-append, flat-ones, reads-append, told}

-- ---- the state before any line

-- rows that are made of their keys alone are those of any rows of the same keys
from-keys : {X K : Type 0} (key : X → K) (make : K → X) (xs ys : List X) → map key xs ≡ map key ys → map (λ x. make (key x)) xs ≡ map (λ x. make (key x)) ys
from-keys key make xs ys e = sym (map-map make key xs) ∙ ap (map make) e ∙ map-map make key ys

module _ (c : Config) (s : State) (shaped : Shaped c s) where
  -- the state before any line, by the rows of the state that is told
  abbrev start : State
  start = record { nodes = []; partitions = map fresh s.partitions; leaves = map empty s.leaves; stops = map run s.stops; maxima = map (conf c) s.maxima }

  -- its partitions
  first-partitions : no_containers c.labels ≡ map fresh s.partitions
  first-partitions = ap (map (λ label. record { label = label; clock = 0; containers = [] })) (sym shaped.partitions) ∙ map-map (λ label. record { label = label; clock = 0; containers = [] }) (λ (row : Partition). row.label) s.partitions

  -- its leaves
  first-leaves : no_apps c ≡ map empty s.leaves
  first-leaves =
      sym (map-map empty (λ (row : QueueRow). record { leaf = row.path; names = []; apps = [] }) (filter (λ row. is_leaf c row.path) c.queues))
      ∙ from-keys (λ (row : LeafApps). row.leaf) (λ path. record { leaf = path; names = []; apps = [] }) (no_apps c) s.leaves (sym shaped.leaves)

  -- its stops
  first-stops : map run (opening_stops c) ≡ map run s.stops
  first-stops = from-keys (λ (row : StopRow). row.queue) (λ path. record { queue = path; stopped = false }) (opening_stops c) s.stops
      (map-map (λ (row : StopRow). row.queue) (λ (row : QueueRow). record { queue = row.path; stopped = row.stopped }) c.queues ∙ sym shaped.stops)

module _ (c : Config) (accepted : IsTrue (is_accepted c)) (s : State) (shaped : Shaped c s) where
  -- its maxima
  first-maxima : opening_maxima c ≡ map (conf c) s.maxima
  first-maxima = sym (opening-conf c accepted) ∙ from-keys key_of (λ (key : Path × Label). record { queue = key.0; label = key.1; share = configured_maximum c key.0 key.1 }) (opening_maxima c) s.maxima (sym shaped.maxima)

  -- and so it is the state before any line
  first-state : record (opening c) { stops = map run (opening c).stops } ≡ start c s shaped
  first-state = λ i. record { nodes = []; partitions = first-partitions c s shaped i; leaves = first-leaves c s shaped i; stops = first-stops c s shaped i; maxima = first-maxima i }

-- ---- all lines but the last

module _ (c : Config) (accepted : IsTrue (is_accepted c)) (s : State) (tellable : IsTellable c s) where
  -- what is known of the state
  abbrev base : Base c s
  base = tellable.base

  -- of stamps
  abbrev stamped : Stamped c s
  stamped = tellable.stamped

  -- of containers
  abbrev suited : Suited c s
  suited = tellable.suited

  -- what is known of the leaves
  abbrev leaved : Leaved c s
  leaved = suited.leaved

  -- what is known of all rows
  abbrev rows : Shaped c s
  rows = suited.leaved.shaped

  -- nothing is told beside the state
  abbrev none : Side
  none = record { partitions = []; maxima = [] }

  -- the states between the sections
  abbrev of-partitions : State
  of-partitions = record (start c s rows) { partitions = map settled s.partitions }

  -- with the nodes
  abbrev of-nodes : State
  of-nodes = record of-partitions { nodes = s.nodes }

  -- with the leaves
  abbrev of-leaves : State
  of-leaves = record of-nodes { leaves = s.leaves }

  -- with the containers
  abbrev of-containers : State
  of-containers = record of-leaves { partitions = s.partitions }

  -- with the stops
  abbrev of-stops : State
  of-stops = record of-containers { stops = s.stops }

  -- each partition was told
  abbrev AllTold : List Label → Type 0
  AllTold parts = list_all (λ label. list_any (same_label label) parts) (partition_labels c.labels) ≡ true

  -- the lines up to the end of a section
  abbrev to-nodes : List StateLine
  to-nodes = (Begin ∷ map partition_line s.partitions) ++ map Node s.nodes

  -- up to the leaves
  abbrev to-leaves : List StateLine
  to-leaves = to-nodes ++ flat_map leaf_lines s.leaves

  -- up to the containers
  abbrev to-containers : List StateLine
  to-containers = to-leaves ++ flat_map (λ row. map Container row.containers) s.partitions

  -- up to the stops
  abbrev to-stops : List StateLine
  to-stops = to-containers ++ flat_map stop_lines s.stops

  -- all lines but the last make the state of the first one
  reads-before : (new : Side) × AllTold new.partitions × Reads c (start c s rows) none (lines_before_end c s) s new
  unfolding lines_before_end
  reads-before =
      let parts = reads-parts c accepted s rows base (start c s rows) in
      let side : Side = parts.0 in
      let maxima = reads-maxima c accepted s rows side.partitions of-stops side refl parts.1.0 in (
        maxima.0,
        subst AllTold (sym maxima.1) (subst (λ labels. list_all (λ label. list_any (same_label label) side.partitions) labels ≡ true) rows.partitions
            (all-each (λ label. list_any (same_label label) side.partitions) (map (λ (row : Partition). row.label) s.partitions) (Each-map (λ (row : Partition). list_any (same_label row.label) side.partitions ≡ true) _ (λ (row : Partition). row.label) (λ row k. k) s.partitions parts.1.2))),
        reads-append c (start c s rows) of-stops s none side maxima.0 to-stops (flat_map (λ row. maxima_lines c s.maxima row.path) c.queues)
            (reads-append c (start c s rows) of-containers of-stops none side side to-containers (flat_map stop_lines s.stops)
            (reads-append c (start c s rows) of-leaves of-containers none side side to-leaves (flat_map (λ row. map Container row.containers) s.partitions)
            (reads-append c (start c s rows) of-nodes of-leaves none side side to-nodes (flat_map leaf_lines s.leaves)
            (reads-append c (start c s rows) of-partitions of-nodes none side side (Begin ∷ map partition_line s.partitions) (map Node s.nodes)
            (reads-append c (start c s rows) (start c s rows) of-partitions none none side (Begin ∷ []) (map partition_line s.partitions) (reads-begin c (start c s rows) none)
            (subst (λ lines. Reads c (start c s rows) none lines of-partitions side) (sym (flat-ones partition_line s.partitions)) parts.2))
            (subst (λ lines. Reads c of-partitions side lines of-nodes side) (sym (flat-ones Node s.nodes)) (reads-nodes c accepted s rows base stamped side parts.1.2 of-partitions refl)))
            (reads-leaves c accepted s base leaved tellable.distinct side of-nodes))
            (reads-containers c accepted s base stamped suited tellable.housed side of-leaves))
            (reads-stops c accepted s rows side of-containers))
            (subst (λ lines. Reads c of-stops side lines s maxima.0) (sym (maxima-are c accepted s rows)) maxima.2),
      )

  -- ---- the last line

  -- the last line is sound, and changes nothing
  last : (parts : List Label) → AllTold parts → (maxima : List (Path × Label)) (n : ℕ) →
      (r : Restored) × (restored_by c (record { state = s; partitions = parts; maxima = maxima; lines = n }) (End n ∷ []) ≡ Some r) × (r.state ≡ s)
  unfolding is_sound_line with_line
  last parts all maxima n = (
    record { state = s; partitions = parts; maxima = maxima; lines = n + 1 },
    (λ i. cond (and_from (n == n) _ (same-number_self n) all i) (Some (record { state = s; partitions = parts; maxima = maxima; lines = n + 1 })) None),
    refl,
  )

  -- the lines of the state tell it
  pub tells : (r : Restored) × (restored_by c (nothing_restored c) (state_lines c s) ≡ Some r) × (r.state ≡ s)
  tells =
      let all = reads-before in
      let new : Side = all.0 in
      let n : ℕ = length (lines_before_end c s) in
      let end = last new.partitions all.1 new.maxima n in (
        end.0,
        ap (λ u. restored_by c (told u none 0) (state_lines c s)) (first-state c accepted s rows)
            ∙ by-append c (told (start c s rows) none 0) (told s new n) (lines_before_end c s) (End n ∷ []) (all.2 0 ∙ ap (λ m. Some (told s new m)) (plus-zero n))
            ∙ end.1,
        end.2,
      )
    where
      plus-zero : (n : ℕ) → 0 + n ≡ n
      plus-zero n = omega arith

-- in each state
pub tells_state : TellsState
tells_state c events accepted = tells c accepted (state_after c events) (tellable-after c accepted events (opening c) (tellable-opening c accepted))
