-- The parts of a cluster after a node left, whose containers went first.
use Rattle.std.proofs.Common.{◌≡◌, ◌≢◌, ℕ, suc, ◌<◌, ◌≤◌, Bool, true, false, not, cond, is_some, IsSome, nat_eq, List, [], ◌∷◌, length, slice_get, Option, None, Some, refl, sym, ap, subst, ◌∙◌, arith}
use Rattle.std.specs.Prelude.{option_map}
use Rattle.std.specs.List.{AllByRecursion}
use Rattle.std.specs.Option.{option_and_then, option_map_or}
use Rattle.std.proofs.lemmas.Option.{none-some, same_Some}
use Rattle.ynl_model.specs.Changes.{node_leaves}
use Rattle.ynl_tables.specs.declared.containers.container.Container.{Container}
use Rattle.std.specs.Map.{lookup}
use Rattle.ynl_slots.specs.Slots.{IsLive, without}
use Rattle.ynl_tables.specs.containers.Chains.{IsFirst}
use Rattle.ynl_inventory.specs.Rows.{Rows, PartitionRow, NodeRow}
use Rattle.ynl_inventory.specs.Apps.{containers_of}
use Rattle.ynl_inventory.specs.Changes.{partition_of_node, with_at, with_dropped, with_left, with_node_gone}
use Rattle.ynl_inventory.specs.Meaning.{node_of}
use Rattle.ynl_inventory.specs.Parts.{Held, held_at}
use Rattle.ynl_inventory.specs.Sound.{HasNoContainers, HasPartition, IsFor, IsSound}
use Rattle.ynl_inventory.proofs.Dropping.{dropped-left, dropped-sound, gone-left, gone-sound}
use Rattle.ynl_inventory.proofs.Leaving.{left-means}
use Rattle.ynl_inventory.proofs.Lookups.{at-same, live-found}
use Rattle.ynl_inventory.proofs.Updates.{at-number, each-number}
use Rattle.ynl_cluster.specs.declared.ledger.totals.Total.{Total}
use Rattle.ynl_cluster.specs.ledger.Totals.{shrunk}
use Rattle.ynl_cluster.specs.ledger.Ledger.{uses_in, IsBounded}
use Rattle.ynl_cluster.proofs.ledger.Bounded.{leaving as bounded-leaving}
use Rattle.ynl_cluster.proofs.ledger.Calls.{shrunk-totals}
use Rattle.ynl_cluster.proofs.ledger.Ledger.{leaving as ledger-leaving}
use Rattle.ynl_cluster.specs.seating.Seating.{AreSeated}
use Rattle.ynl_cluster.proofs.seating.RowChanges.{left-seated}
use Rattle.ynl_cluster.specs.declared.cluster.Cluster.TheInside.{Inside}
use Rattle.ynl_cluster.specs.Cluster.{ClusterView, held_in, maxima_in, state_in, stops_in}
use Rattle.ynl_cluster.specs.Leaving.{IsLeaving}
use Rattle.ynl_cluster.specs.Whole.{view_of, AreParts, AskSizes, IsCluster}
use Rattle.ynl_cluster.proofs.Numbers.{as-numbered}

-- a node is there
pub node-there : (a : Inside) (w : ClusterView) → view_of a ≡ w → (node : ℕ) → IsLive node w.rows.nodes → IsLive node a.inventory.rows.nodes
node-there a w view node = subst (λ (w : ClusterView). IsLive node w.rows.nodes) (sym view)

module _ (a : Inside) (is : IsCluster a) (w : ClusterView) (view : view_of a ≡ w) (node : ℕ) (empty : HasNoContainers w.rows node) where
  abbrev v : Rows
  v = a.inventory.rows

  -- it has no containers
  pub empty-before : HasNoContainers v node
  empty-before = subst (λ (w : ClusterView). HasNoContainers w.rows node) (sym view) empty

  module _ (row : NodeRow) (found : lookup (nat_eq node) v.nodes ≡ Some row) where
    -- its partition is there
    pub place-there : HasPartition v row.partition
    place-there = is.parts.sound.nodes node row found

    -- with totals that follow, the parts go together
    pub parts-after : (new : Rows) → new ≡ with_node_gone node v → (totals : List Total) → totals ≡ with_at row.partition (shrunk row.size) a.totals → AreParts a.config new a.uses totals a.lanes
    parts-after new rows totals made = record {
      configured = subst (IsFor a.config) (sym rows) (record {
        labels = is.parts.configured.labels;
        limits = is.parts.configured.limits;
        guests = is.parts.configured.guests;
        paths = is.parts.configured.paths;
      });
      sound = subst IsSound (sym rows) (gone-sound v is.parts.sound node row found empty-before);
      bounded = subst IsBounded (sym rows) (bounded-leaving v is.parts.sound is.parts.bounded node row found);
      sizes = subst AskSizes (sym rows) is.parts.sizes;
      numbers = as-numbered v new (ap (λ (v : Rows). v.partitions) rows) (ap (λ (v : Rows). v.paths) rows) is.parts.numbers;
      uses_are = is.parts.uses_are ∙ sym (ap uses_in rows ∙ (ledger-leaving v is.parts.sound node row found).uses);
      totals_are = shrunk-totals v a.totals is.parts.totals_are is.parts.sound node row found totals made new rows;
      seated = subst (λ v. AreSeated v a.lanes) (sym rows) (left-seated v node a.lanes is.parts.seated);
    }

-- ---- its containers go first

-- at first none went
pub leaves-first : (a : Inside) → IsCluster a → (w : ClusterView) → view_of a ≡ w → (node : ℕ) (row : NodeRow) → lookup (nat_eq node) a.inventory.rows.nodes ≡ Some row → IsLeaving node row.partition w w
leaves-first a is w view node row found =
    subst (λ w. IsLeaving node row.partition w w) view
    (record { same = refl; left = refl; nodes = refl; place = sym (ap (λ o. option_map_or (λ (r : NodeRow). r.partition) o 0) found); live = ap is_some found; sound = is.parts.sound })

-- a container of a node, and where it stands
pub record IsOn (v : Rows) (node p number : ℕ) : Type 0 where
  pub row : PartitionRow
  pub there : slice_get v.partitions p ≡ Some row
  pub gone : Container
  pub found : lookup (nat_eq number) row.containers ≡ Some gone
  pub own : gone.node ≡ node

-- the first one
pub first-on : (v : Rows) (node p number : ℕ) → option_map (λ (c : Container). c.node) (lookup (nat_eq number) (containers_of v p)) ≡ Some node → IsOn v node p number
first-on v node p number = go (slice_get v.partitions p) refl
  where
    at : (row : PartitionRow) → slice_get v.partitions p ≡ Some row → (o : Option Container) → lookup (nat_eq number) row.containers ≡ o → option_map (λ (c : Container). c.node) o ≡ Some node → IsOn v node p number
    at row there None found k = absurd (none-some node k)
    at row there (Some c) found k = record { row = row; there = there; gone = c; found = found; own = same_Some c.node node k }

    go : (o : Option PartitionRow) → slice_get v.partitions p ≡ o
        → option_map (λ (c : Container). c.node) (lookup (nat_eq number) (option_map_or (λ (row : PartitionRow). row.containers) o [])) ≡ Some node → IsOn v node p number
    go None there k = absurd (none-some node k)
    go (Some row) there k = at row there (lookup (nat_eq number) row.containers) refl k

-- it is held there
pub on-held : (v : Rows) (node p number : ℕ) → IsOn v node p number → IsSome (held_at v p number)
on-held v node p number on = ap is_some (ap (λ o. option_and_then (λ (row : PartitionRow). lookup (nat_eq number) row.containers) o) on.there ∙ on.found)

not-more : (number : ℕ) (es : List (ℕ × Container)) → length (without number es) ≤ length es
not-more number [] = omega arith
not-more number (e ∷ es) = go (nat_eq number e.0) (not-more number es)
  where
    go : (b : Bool) → length (without number es) ≤ length es → length (cond (not b) (e ∷ without number es) (without number es)) ≤ suc (length es)
    go true h = omega (arith, h)
    go false h = omega (arith, h)

pub one-fewer : (number : ℕ) (es : List (ℕ × Container)) (c : Container) → lookup (nat_eq number) es ≡ Some c → length (without number es) < length es
one-fewer number [] c found = absurd (none-some c found)
one-fewer number (e ∷ es) c found = go (nat_eq number e.0) found (one-fewer number es c) (not-more number es)
  where
    go : (b : Bool) → cond b (Some e.1) (lookup (nat_eq number) es) ≡ Some c → (lookup (nat_eq number) es ≡ Some c → length (without number es) < length es) → length (without number es) ≤ length es
        → length (cond (not b) (e ∷ without number es) (without number es)) < suc (length es)
    go true k rest h = omega (arith, h)
    go false k rest h = let less = rest k in omega (arith, less)

module _ (node p number : ℕ) (old now after : ClusterView) (leaving : IsLeaving node p old now) (on : IsOn now.rows node p number) (dropped : after ≡ record now { rows = with_dropped p number now.rows; rooms = after.rooms }) where
  rows-are : after.rows ≡ with_dropped p number now.rows
  rows-are = ap (λ (w : ClusterView). w.rows) dropped

  -- where one goes, it is still leaving
  pub leaves-on : IsLeaving node p old after
  leaves-on =
      let nrow = live-found node now.rows.nodes leaving.live in
      record {
        same = dropped ∙ (λ i. record (leaving.same i) { rows = sym rows-are i; rooms = after.rooms });
        left = ap (with_left node) rows-are ∙ dropped-left now.rows leaving.sound p on.row on.there number node nrow.0 nrow.1 on.gone on.found on.own ∙ leaving.left;
        nodes = ap (λ (v : Rows). v.nodes) rows-are ∙ leaving.nodes;
        place = leaving.place ∙ ap (λ (v : Rows). partition_of_node v.nodes node) (sym rows-are);
        live = subst (λ (v : Rows). IsLive node v.nodes) (sym rows-are) leaving.live;
        sound = subst IsSound (sym rows-are) (dropped-sound now.rows leaving.sound p on.row on.there number);
      }

  -- and its partition has one container less
  pub leaves-fewer : length (containers_of after.rows p) < length (containers_of now.rows p)
  leaves-fewer =
      subst (λ n. n < length (containers_of now.rows p))
      (sym (ap (λ (v : Rows). length (containers_of v p)) rows-are
      ∙ ap (λ o. length (option_map_or (λ (row : PartitionRow). row.containers) o []))
      (at-same p (λ (row : PartitionRow). record row { containers = without number row.containers }) now.rows.partitions ∙ ap (option_map (λ (row : PartitionRow). record row { containers = without number row.containers })) on.there)))
      (subst (λ n. length (without number on.row.containers) < n) (sym (ap (λ o. length (option_map_or (λ (row : PartitionRow). row.containers) o [])) on.there))
      (one-fewer number on.row.containers on.gone on.found))

-- where none of the partition's containers is on it, no container is
pub none-left : (v : Rows) → IsSound v → (node p : ℕ) → p ≡ partition_of_node v.nodes node → AllByRecursion (λ e. e.1.node ≢ node) (containers_of v p) → HasNoContainers v node
none-left v sound node p place none q row at =
    each-number (λ n (c : Container). c.node ≢ node) row.containers (sound.partitions q row at).numbers
    (λ n c found same.
    let is = (sound.partitions q row at).each n c found in
    let here : q ≡ p = sym is.node_there ∙ sym (ap (λ o. option_map_or (λ (r : NodeRow). r.partition) o 0) is.node_found) ∙ ap (partition_of_node v.nodes) same ∙ sym place in
    at-number (λ n (c : Container). c.node ≢ node) (containers_of v p) n c none
    (ap (λ r. lookup (nat_eq n) (containers_of v r)) (sym here) ∙ ap (λ o. lookup (nat_eq n) (option_map_or (λ (row : PartitionRow). row.containers) o [])) at ∙ found) same)

-- what is left where the node has gone too
module _ (node p : ℕ) (old now after : ClusterView) (leaving : IsLeaving node p old now) (none : HasNoContainers now.rows node) (gone : after ≡ record now { rows = with_node_gone node now.rows }) where
  pub all-left : after ≡ record old { rows = with_left node old.rows; rooms = after.rooms }
  all-left = gone ∙ (λ i. record (leaving.same i) { rows = (sym (gone-left now.rows node none) ∙ leaving.left) i; rooms = ap (λ (w : ClusterView). w.rooms) (sym gone) i })

  -- and the state is the model's
  pub left-state : IsSound old.rows → (row : NodeRow) → lookup (nat_eq node) old.rows.nodes ≡ Some row → state_in after ≡ node_leaves (node_of old.rows.partitions row) (state_in old)
  left-state sound row found = ap state_in all-left ∙ left-means old.rows sound node row found (stops_in old) (maxima_in old)

-- the first container of the node is there, by what the reader of firsts says
pub first-there : (w : ClusterView) (h : Held) → h ≡ held_in w → (node p number : ℕ) → p ≡ partition_of_node w.rows.nodes node
    → IsFirst (λ c. c.node) node (containers_of h.rows (partition_of_node h.rows.nodes node)) (Some number) → IsOn w.rows node p number
first-there w h is node p number place first =
    first-on w.rows node p number
    (subst (λ q. option_map (λ (c : Container). c.node) (lookup (nat_eq number) (containers_of w.rows q)) ≡ Some node) (sym place)
    (subst (λ (h : Held). option_map (λ (c : Container). c.node) (lookup (nat_eq number) (containers_of h.rows (partition_of_node h.rows.nodes node))) ≡ Some node) is first.own))

-- where it says that there is none, the node has none
pub none-there : (w : ClusterView) → IsSound w.rows → (h : Held) → h ≡ held_in w → (node : ℕ) → IsFirst (λ c. c.node) node (containers_of h.rows (partition_of_node h.rows.nodes node)) None → HasNoContainers w.rows node
none-there w sound h is node first =
    none-left w.rows sound node (partition_of_node w.rows.nodes node) refl
    (subst (λ (h : Held). AllByRecursion (λ e. e.1.node ≢ node) (containers_of h.rows (partition_of_node h.rows.nodes node))) is first.none)

-- what is known of the node's row is so of the one that is found
pub leaving-of : (w : ClusterView) (node : ℕ) (old now : ClusterView) (part : NodeRow) → lookup (nat_eq node) w.rows.nodes ≡ Some part → IsLeaving node part.partition old now
    → (row : NodeRow) → lookup (nat_eq node) w.rows.nodes ≡ Some row → IsLeaving node row.partition old now
leaving-of w node old now part at is row found = subst (λ (r : NodeRow). IsLeaving node r.partition old now) (same_Some part row (sym at ∙ found)) is
