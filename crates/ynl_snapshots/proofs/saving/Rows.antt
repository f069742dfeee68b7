-- Rows in places, under their numbers, and what the model has there.
use Rattle.std.proofs.Common.{◌≡◌, ◌<◌, ◌+◌, ℕ, zero, suc, Bool, true, false, cond, List, [], ◌∷◌, ◌++◌, length, map, filter, find, slice_get, Option, None, Some, option_map, is_some, nat_eq, refl, sym, ap, subst, ◌∙◌, arith, true≢false}
use Rattle.std.specs.Prelude.{IfSome, flat_map}
use Rattle.std.specs.Map.{lookup}
use Rattle.std.specs.Option.{option_map_or, option_and_then}
use Rattle.std.proofs.lemmas.Bool.Decides.{nat_tests}
use Rattle.std.proofs.lemmas.List.{length-map}
use Rattle.std.proofs.lemmas.Option.{get_or_from_slice_get, none-some, same_Some, slice_get-map, slice_get_within}
use Rattle.std.specs.Option.{IsSome}
use Rattle.ynl_model.specs.declared.containers.Placed.{Placed}
use Rattle.ynl_model.specs.declared.nodes.Node.{Node}
use Rattle.ynl_tables.specs.declared.containers.container.Container.{Container}
use Rattle.ynl_replies.proofs.admission.Submitting.{leaf-told as configured-leaf}
use Rattle.ynl_replies.proofs.Following.{each-held}
use Rattle.ynl_resource.specs.Names.{root, same_name}
use Rattle.ynl_resource.specs.declared.labels.Label.{Label}
use Rattle.ynl_resource.specs.declared.labels.Label.TheVariants.{Unlabelled}
use Rattle.ynl_resource.specs.declared.names.Name.{Name}
use Rattle.ynl_resource.specs.declared.paths.Path.{Path}
use Rattle.ynl_model.specs.Applications.{LeafApps, find_app}
use Rattle.ynl_model.specs.Cluster.{Partition}
use Rattle.ynl_model.specs.Queues.{QueueRow, is_leaf}
use Rattle.ynl_tables.proofs.containers.Removing.{at_live}
use Rattle.ynl_inventory.specs.layout.Paths.{path_at}
use Rattle.ynl_tables.specs.declared.submissions.submissions.Submission.{Submission}
use Rattle.ynl_inventory.specs.Rows.{Rows, NodeRow, PartitionRow, AppRow}
use Rattle.ynl_inventory.specs.Apps.{containers_of}
use Rattle.ynl_inventory.specs.Meaning.{has_none_below, label_at, leaves_from, leaf_of, live_of, node_of, partition_of, placed_of, submitted_to, tenant_at}
use Rattle.ynl_inventory.specs.Parts.{Held, held_at}
use Rattle.ynl_inventory.specs.Sound.{HasPartition, IsFor, IsLeaf, IsSound}
use Rattle.ynl_inventory.proofs.AppsFound.{app-found, row-found}
use Rattle.ynl_inventory.proofs.Lookups.{in-place, place-there}
use Rattle.ynl_inventory.proofs.Submitted.{app-submission}
use Rattle.ynl_cluster.specs.Cluster.{ClusterView, held_in, label_of, state_in}
use Rattle.ynl_saved.specs.declared.lines.StateLine.{StateLine}
use Rattle.ynl_saved.specs.declared.lines.StateLine.TheVariants.{Container as ContainerLine, Finished, Node as NodeLine, Partition as PartitionLine}
use Rattle.ynl_saved.specs.Saving.{app_lines, leaf_lines, live_lines, partition_line}
use Rattle.ynl_slots.specs.Slots.{number_in, HasDistinctNumbers}
use Rattle.ynl_slots.proofs.Walks.{here, here_found}
use Rattle.ynl_snapshots.specs.saving.Told.{numbered, queue_lines, submission_lines}

-- ---- leaves

-- a leaf's number is not root's
pub leaf-above : (paths : List Path) (q : ℕ) → has_none_below paths (path_at paths q) ≡ true → 0 < q
leaf-above paths zero leaf = absurd (true≢false (sym leaf))
leaf-above paths (suc q) leaf = omega arith

-- the queue of an application is a leaf
pub leaf-of-row : (v : Rows) → IsSound v → (app : ℕ) (row : AppRow) → lookup (nat_eq app) v.apps ≡ Some row → IsLeaf v row.leaf
leaf-of-row v sound app row found = let is = app-submission v sound app row found in record { there = is.there; none_below = is.leaf }

module _ (v : Rows) (sound : IsSound v) (q : ℕ) where
  abbrev entries : List (Name × Submission)
  entries = submitted_to v.tenants (tenant_at v.paths q)

  abbrev row : LeafApps
  row = leaf_of v q

  -- an application of the leaf is told by the row of its leaf as by its submission
  told-alike : (turn : ℕ) (name : Name) (s : Submission) → slice_get entries turn ≡ Some (name, s) → s.leaf ≡ q → app_lines row name ≡ option_map_or live_lines (live_of v (name, s)) (Finished (path_at v.paths q) name ∷ [])
  unfolding find_app
  told-alike turn name s at leaf = ap (λ o. option_map_or live_lines o (Finished (path_at v.paths q) name ∷ [])) found
    where
      own : find (λ app. same_name app.name name) (leaf_of v s.leaf).apps ≡ live_of v (name, s)
      own =
          sym (ap (option_and_then (λ (row : LeafApps). find (λ app. same_name app.name name) row.apps)) (row-found v sound (tenant_at v.paths q) turn name s at))
          ∙ app-found v sound (tenant_at v.paths q) turn name s at

      found : find (λ app. same_name app.name name) row.apps ≡ live_of v (name, s)
      found = subst (λ r. find (λ app. same_name app.name name) (leaf_of v r).apps ≡ live_of v (name, s)) leaf own

  -- the lines of the leaf are those of what was submitted to it, one after another
  pub leaf-told : flat_map (submission_lines v q) entries ≡ leaf_lines row
  leaf-told = go entries 0 (λ turn e at. let same : turn ≡ 0 + turn = omega arith in subst (λ n. slice_get entries n ≡ Some e) same at)
    where
      go : (es : List (Name × Submission)) (k : ℕ) → ((i : ℕ) (e : Name × Submission) → slice_get es i ≡ Some e → slice_get entries (k + i) ≡ Some e)
          → flat_map (submission_lines v q) es ≡ flat_map (app_lines row) (map (λ e. e.0) (filter (λ e. nat_eq e.1.leaf q) es))
      go [] k behind = refl
      go (e ∷ es) k behind = step (nat_eq e.1.leaf q) refl (go es (suc k) (λ i f at. let next : k + suc i ≡ suc k + i = omega arith in subst (λ n. slice_get entries n ≡ Some f) next (behind (suc i) f at)))
        where
          first : slice_get entries k ≡ Some e
          first = let same : k + 0 ≡ k = omega arith in subst (λ n. slice_get entries n ≡ Some e) same (behind 0 e refl)

          same : nat_eq e.1.leaf q ≡ true → e.1.leaf ≡ q
          same is = grind (arith, nat_tests, is)

          step : (b : Bool) → nat_eq e.1.leaf q ≡ b
              → flat_map (submission_lines v q) es ≡ flat_map (app_lines row) (map (λ e. e.0) (filter (λ e. nat_eq e.1.leaf q) es))
              → cond b (option_map_or live_lines (live_of v e) (Finished (path_at v.paths q) e.0 ∷ [])) [] ++ flat_map (submission_lines v q) es
              ≡ flat_map (app_lines row) (map (λ e. e.0) (cond b (e ∷ filter (λ e. nat_eq e.1.leaf q) es) (filter (λ e. nat_eq e.1.leaf q) es)))
          step true is rest = λ i. sym (told-alike k e.0 e.1 first (same is)) i ++ rest i
          step false is rest = rest

-- ---- partitions

module _ (w : ClusterView) (p : ℕ) where
  -- what is told of a partition is what the model has in its place
  pub partition-told : (label : Label) (clock : ℕ) → label ≡ label_at w.rows.partitions p → IfSome (slice_get w.rows.partitions p) (λ row. clock ≡ row.clock)
      → IfSome (slice_get (state_in w).partitions p) (λ row. PartitionLine label clock ≡ partition_line row)
  partition-told label clock labelled shown = subst (λ o. IfSome o (λ row. PartitionLine label clock ≡ partition_line row)) (sym (slice_get-map (partition_of w.rows) w.rows.partitions p)) (go (slice_get w.rows.partitions p) refl shown)
    where
      go : (o : Option PartitionRow) → slice_get w.rows.partitions p ≡ o → IfSome o (λ row. clock ≡ row.clock) → IfSome (option_map (partition_of w.rows) o) (λ row. PartitionLine label clock ≡ partition_line row)
      go None is h = tt
      go (Some there) is h = λ i. PartitionLine ((labelled ∙ ap (λ o. option_map_or (λ (row : PartitionRow). row.label) o Unlabelled) is) i) (h i)

  -- as many as are counted are there
  pub partition-counted : (h : Held) → h ≡ held_in w → (count : ℕ) → count ≡ length h.rows.partitions → p < count → HasPartition w.rows p
  partition-counted h is count counts below = subst (λ (h : Held). p < length h.rows.partitions) is (subst (λ n. p < n) counts below)

  -- there is one in each place below their number
  pub partition-there : HasPartition w.rows p → (row : PartitionRow) × (slice_get w.rows.partitions p ≡ Some row) × (slice_get (state_in w).partitions p ≡ Some (partition_of w.rows row))
  partition-there has =
      let there = place-there w.rows.partitions p has in
      (there.0, there.1, slice_get-map (partition_of w.rows) w.rows.partitions p ∙ ap (option_map (partition_of w.rows)) there.1)

  -- its line is the one in that place
  pub line-there : HasPartition w.rows p → (line : StateLine) → IfSome (slice_get (state_in w).partitions p) (λ row. line ≡ partition_line row) → slice_get (map partition_line (state_in w).partitions) p ≡ Some line
  line-there has line told =
      let there = partition-there has in
      slice_get-map partition_line (state_in w).partitions p ∙ ap (option_map partition_line) there.2
      ∙ ap (λ (line : StateLine). Some line) (sym (at_live (λ (row : Partition). line ≡ partition_line row) (slice_get (state_in w).partitions p) (partition_of w.rows there.0) told there.2))

-- ---- nodes

module _ (w : ClusterView) (sound : IsSound w.rows) (i n : ℕ) (found : number_in w.rows.nodes i ≡ Some n) where
  -- the line of the node whose number is in a place is the one in that place
  pub node-line-there : (node : Node) → ((row : NodeRow) → lookup (nat_eq n) w.rows.nodes ≡ Some row → node ≡ node_of w.rows.partitions row) → slice_get (map NodeLine (state_in w).nodes) i ≡ Some (NodeLine node)
  node-line-there node told =
      let there = here w.rows.nodes i n found in
      slice_get-map NodeLine (state_in w).nodes i
      ∙ ap (option_map NodeLine) (slice_get-map (λ (e : ℕ × NodeRow). node_of w.rows.partitions e.1) w.rows.nodes i ∙ ap (option_map (λ (e : ℕ × NodeRow). node_of w.rows.partitions e.1)) there.at)
      ∙ ap (λ (node : Node). Some (NodeLine node)) (sym (told there.row (here_found w.rows.nodes i n there.row sound.node_numbers there.at)))

-- ---- containers

-- the containers of a partition have numbers of their own
pub containers-apart : (v : Rows) → IsSound v → (p : ℕ) → HasDistinctNumbers (containers_of v p)
containers-apart v sound p = by (slice_get v.partitions p) refl
  where
    by : (o : Option PartitionRow) → slice_get v.partitions p ≡ o → HasDistinctNumbers (option_map_or (λ (row : PartitionRow). row.containers) o [])
    by None is = tt
    by (Some row) is = (sound.partitions p row is).numbers

module _ (w : ClusterView) (sound : IsSound w.rows) (p i n : ℕ) (found : number_in (containers_of w.rows p) i ≡ Some n) where
  -- the container whose number is in a place
  container-at : (c : Container) × (slice_get (containers_of w.rows p) i ≡ Some (n, c)) × (held_at w.rows p n ≡ Some c)
  container-at =
      let there = here (containers_of w.rows p) i n found in
      let held = in-place (λ (e : ℕ × Container). held_at w.rows p e.0 ≡ Some e.1) (containers_of w.rows p) i (n, there.row) (each-held w.rows sound p) there.at in
      (there.row, there.at, held)

  pub container-held : (h : Held) → h ≡ held_in w → IsSome (held_at h.rows p n)
  container-held h is = subst (λ (h : Held). IsSome (held_at h.rows p n)) (sym is) (ap is_some container-at.2)

  -- its line is the one in that place
  pub container-line-there : (h : Held) → h ≡ held_in w → (placed : Placed) → IfSome (held_at h.rows p n) (λ c. placed ≡ placed_of h.rows (label_at h.rows.partitions p) c)
      → slice_get (map ContainerLine (map (λ e. placed_of w.rows (label_of w p) e.1) (containers_of w.rows p))) i ≡ Some (ContainerLine placed)
  container-line-there h is placed told =
      let own : placed ≡ placed_of w.rows (label_of w p) container-at.0 =
      at_live (λ c. placed ≡ placed_of w.rows (label_of w p) c) (held_at w.rows p n) container-at.0
      (subst (λ (h : Held). IfSome (held_at h.rows p n) (λ c. placed ≡ placed_of h.rows (label_at h.rows.partitions p) c)) is told) container-at.2
      in
      slice_get-map ContainerLine (map (λ (e : ℕ × Container). placed_of w.rows (label_of w p) e.1) (containers_of w.rows p)) i
      ∙ ap (option_map ContainerLine) (slice_get-map (λ (e : ℕ × Container). placed_of w.rows (label_of w p) e.1) (containers_of w.rows p) i ∙ ap (option_map (λ (e : ℕ × Container). placed_of w.rows (label_of w p) e.1)) container-at.1)
      ∙ ap (λ (placed : Placed). Some (ContainerLine placed)) (sym own)

-- what is told of the containers of a partition is what the model has there
pub containers-told : (w : ClusterView) (p : ℕ) (row : PartitionRow) → slice_get w.rows.partitions p ≡ Some row
    → map ContainerLine (map (λ e. placed_of w.rows (label_of w p) e.1) (containers_of w.rows p)) ≡ map ContainerLine (partition_of w.rows row).containers
containers-told w p _ at =
    (λ i. map ContainerLine (map (λ (e : ℕ × Container). placed_of w.rows (option_map_or (λ (own : PartitionRow). own.label) (at i) Unlabelled) e.1) (option_map_or (λ (own : PartitionRow). own.containers) (at i) [])))

-- ---- the leaves

-- the leaves are told queue by queue
pub leaves-told : (v : Rows) (n : ℕ) (paths : List Path) → flat_map leaf_lines (map (leaf_of v) (leaves_from v.paths n paths)) ≡ flat_map (queue_lines v) (numbered n paths)
leaves-told v n [] = refl
leaves-told v n (path ∷ paths) =
    first (has_none_below v.paths path) (leaves_from v.paths (n + 1) paths)
    ∙ ap (λ ls. queue_lines v (n, path) ++ ls) (leaves-told v (n + 1) paths)
  where
    first : (b : Bool) (ns : List ℕ) → flat_map leaf_lines (map (leaf_of v) (cond b (n ∷ []) [] ++ ns)) ≡ cond b (leaf_lines (leaf_of v n)) [] ++ flat_map leaf_lines (map (leaf_of v) ns)
    first true ns = refl
    first false ns = refl

-- each queue has its number
pub numbered-at : (n : ℕ) (paths : List Path) (i : ℕ) (path : Path) → slice_get paths i ≡ Some path → slice_get (numbered n paths) i ≡ Some (n + i, path)
numbered-at n [] i path at = absurd (none-some path at)
numbered-at n (p ∷ ps) zero path at = let same : n ≡ n + 0 = omega arith in λ j. Some (same j, same_Some p path at j)
numbered-at n (p ∷ ps) (suc i) path at = let same : n + 1 + i ≡ n + suc i = omega arith in numbered-at (n + 1) ps i path at ∙ ap (λ (m : ℕ). Some (m, path)) same

pub length-numbered : (n : ℕ) (paths : List Path) → length (numbered n paths) ≡ length paths
length-numbered n [] = refl
length-numbered n (p ∷ ps) = ap suc (length-numbered (n + 1) ps)

module _ (w : ClusterView) (configured : IsFor w.config w.rows) (i : ℕ) (row : QueueRow) (at : slice_get w.config.queues i ≡ Some row) where
  -- a queue's path stands in its place
  pub path-there : slice_get w.rows.paths i ≡ Some row.path
  path-there = ap (λ (paths : List Path). slice_get paths i) configured.paths ∙ slice_get-map (λ (row : QueueRow). row.path) w.config.queues i ∙ ap (option_map (λ (row : QueueRow). row.path)) at

  pub path-own : path_at w.rows.paths (i + 1) ≡ row.path
  path-own = let next : suc i ≡ i + 1 = omega arith in ap (path_at w.rows.paths) (sym next) ∙ get_or_from_slice_get w.rows.paths i row.path root path-there

  -- the queue is a leaf where it is one of the configuration
  pub leaf-here : is_leaf w.config row.path ≡ true → IsLeaf w.rows (i + 1)
  leaf-here leaf =
      let inside = slice_get_within w.rows.paths i row.path path-there in
      record { there = omega (arith, inside); none_below = ap (has_none_below w.rows.paths) path-own ∙ configured-leaf w configured row.path ∙ leaf }

  -- its lines are a leaf's, or none
  pub queue-told : (leaf : Bool) → leaf ≡ is_leaf w.config row.path → (path : Path) → slice_get w.rows.paths i ≡ Some path → queue_lines w.rows (i + 1, path) ≡ cond leaf (leaf_lines (leaf_of w.rows (i + 1))) []
  queue-told leaf told path there =
      let own : path ≡ row.path = same_Some path row.path (sym there ∙ path-there) in
      ap (λ (b : Bool). let ls : List StateLine = cond b (leaf_lines (leaf_of w.rows (i + 1))) [] in ls) (ap (has_none_below w.rows.paths) own ∙ configured-leaf w configured row.path ∙ sym told)

-- the queue that stands in a place, with its number
pub queue-at : (w : ClusterView) → IsFor w.config w.rows → (i : ℕ) → i < length w.config.queues → (path : Path) × (slice_get w.rows.paths i ≡ Some path) × (slice_get (numbered 1 w.rows.paths) i ≡ Some (i + 1, path))
queue-at w configured i inside =
    let row = place-there w.config.queues i inside in
    let at = path-there w configured i row.0 row.1 in
    let same : 1 + i ≡ i + 1 = omega arith in
    (row.0.path, at, numbered-at 1 w.rows.paths i row.0.path at ∙ ap (λ (n : ℕ). Some (n, row.0.path)) same)

-- as many as the configuration has
pub queues-counted : (w : ClusterView) → IsFor w.config w.rows → length (numbered 1 w.rows.paths) ≡ length w.config.queues
queues-counted w configured = length-numbered 1 w.rows.paths ∙ ap length configured.paths ∙ length-map w.config.queues (λ (row : QueueRow). row.path)
