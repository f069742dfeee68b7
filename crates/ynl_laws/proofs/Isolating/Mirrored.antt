-- What the whole cluster is to the tenant of a partition, and what each change does to that.
use Rattle.std.proofs.Common.{◌≡◌, ℕ, Bool, true, false, cond, not, ◌&&◌, ◌||◌, List, [], ◌∷◌, ◌++◌, map, Option, Some, None, option_map, filter, find, refl, sym, ap, ◌∙◌, append-nil}
use Rattle.std.specs.Prelude.{IfSome, nat_le, if◌then◌else◌}
use Rattle.std.specs.Option.{option_map_or}
use mathlib.Core.Bool.{true≢false}
use Rattle.ynl_resource.specs.declared.amounts.Resource.{Resource}
use Rattle.ynl_resource.specs.Names.{same_name, same_label, same_path, is_within, top_level, root}
use Rattle.ynl_resource.specs.declared.names.Name.{Name}
use Rattle.ynl_resource.specs.declared.labels.Label.{Label}
use Rattle.ynl_resource.specs.declared.paths.Path.{Path}
use Rattle.ynl_resource.specs.Tables.{update, without}
use Rattle.ynl_model.specs.Nodes.{rises, clock_limit, nodes_of, is_at, stamped, joined, left}
use Rattle.ynl_model.specs.declared.nodes.Node.{Node}
use Rattle.ynl_model.specs.Queues.{Config, is_maximum_of, set_maximum, set_stop}
use Rattle.ynl_model.specs.declared.queues.MaximumRow.{MaximumRow}
use Rattle.ynl_model.specs.declared.queues.StopRow.{StopRow}
use Rattle.ynl_model.specs.Applications.{LeafApps, in_leaf}
use Rattle.ynl_model.specs.Cluster.{State, Partition, is_partition, in_partition, clock, next_clock, is_spent, containers_on}
use Rattle.ynl_model.specs.declared.containers.Placed.{Placed as Container}
use Rattle.ynl_model.specs.Changes.{node_joins, node_leaves, changed_at}
use Rattle.ynl_model.specs.View.{restrict}
use Rattle.ynl_laws.proofs.Isolating.Own.{only_row, is_row_of}
use Rattle.ynl_laws.proofs.Lists.{found-passes, find-through, filter-swap, filter-filter, map-map, filter-update, update-off, filter-update_off}
use Rattle.ynl_laws.proofs.Logic.{and-false}
use Rattle.ynl_laws.proofs.Names.{same-path, same-label_path, same-label_self}
use Rattle.std.proofs.lemmas.Bool.{and_from, and_parts}
use Rattle.std.proofs.lemmas.List.Elements.{filter-append}

-- ---- what the tenant's cluster has

-- the row of the partition as it is, and any other without containers and with its clock at 0
abbrev pub cleared : Label → Partition → Partition
cleared p row = if same_label row.label p then row else record { label = row.label; clock = 0; containers = [] }

-- the tenant's leaves, with what is asked for on the partition alone
abbrev pub own_leaves : Name → Label → List LeafApps → List LeafApps
own_leaves t p leaves = map (only_row p) (filter (is_row_of t) leaves)

-- whether the stop of a queue can bear on the tenant's
abbrev pub bears_on : Name → StopRow → Bool
bears_on t row = is_within (top_level t) row.queue || same_path row.queue root

-- the present share of a queue on a partition, where there is a row
abbrev pub share_found : List MaximumRow → Path → Label → Option ℕ
share_found maxima queue p = option_map (λ row. row.share) (find (is_maximum_of queue p) maxima)

-- the second state is what the first is to the tenant of the partition
pub record Mirrors (t : Name) (p : Label) (s u : State) : Type 0 where
  pub nodes : u.nodes ≡ nodes_of s.nodes p
  pub partitions : u.partitions ≡ map (cleared p) s.partitions
  pub leaves : u.leaves ≡ own_leaves t p s.leaves
  pub stops : u.stops ≡ filter (bears_on t) s.stops
  pub maxima : (queue : Path) → is_within (top_level t) queue ≡ true → share_found s.maxima queue p ≡ share_found u.maxima queue p

-- ---- partitions

-- the row of the partition is found as it is
find-cleared : (p : Label) (rows : List Partition) → find (is_partition p) (map (cleared p) rows) ≡ find (is_partition p) rows
find-cleared p [] = refl
find-cleared p (row ∷ rows) = go (same_label row.label p) refl (find-cleared p rows)
  where
    empty : Partition
    empty = record { label = row.label; clock = 0; containers = [] }

    go : (b : Bool) → same_label row.label p ≡ b → find (is_partition p) (map (cleared p) rows) ≡ find (is_partition p) rows →
        find (is_partition p) (cond b row empty ∷ map (cleared p) rows) ≡ cond b (Some row) (find (is_partition p) rows)
    go true e rest = λ i. cond (e i) (Some row) (find (is_partition p) (map (cleared p) rows))
    go false e rest = (λ i. cond (e i) (Some empty) (find (is_partition p) (map (cleared p) rows))) ∙ rest

module _ (p : Label) (change : Partition → Partition) (keeps : (row : Partition) → (change row).label ≡ row.label) where
  -- a change of the partition
  partitions-here : (rows : List Partition) → map (cleared p) (in_partition p change rows) ≡ in_partition p change (map (cleared p) rows)
  partitions-here rows =
      map-map (cleared p) (λ row. if is_partition p row then change row else row) rows
      ∙ (λ i. map (λ row. by row (same_label row.label p) refl i) rows)
      ∙ sym (map-map (λ row. if is_partition p row then change row else row) (cleared p) rows)
    where
      empty : Partition → Partition
      empty row = record { label = row.label; clock = 0; containers = [] }

      by : (row : Partition) (b : Bool) → same_label row.label p ≡ b → cleared p (cond b (change row) row) ≡ cond (same_label (cond b row (empty row)).label p) (change (cond b row (empty row))) (cond b row (empty row))
      by row true e = (λ i. cond (same_label (keeps row i) p) (change row) (empty (change row))) ∙ (λ i. cond (e i) (change row) (empty (change row))) ∙ sym (λ i. cond (e i) (change row) row)
      by row false e = (λ i. cond (e i) row (empty row)) ∙ sym (λ i. cond (e i) (change (empty row)) (empty row))

  -- a change of another partition
  partitions-there : (label : Label) → same_label label p ≡ false → (rows : List Partition) → map (cleared p) (in_partition label change rows) ≡ map (cleared p) rows
  partitions-there label off rows =
      map-map (cleared p) (λ row. if is_partition label row then change row else row) rows ∙ (λ i. map (λ row. by row (same_label row.label label) refl i) rows)
    where
      empty : Label → Partition
      empty l = record { label = l; clock = 0; containers = [] }

      by : (row : Partition) (b : Bool) → same_label row.label label ≡ b → cleared p (cond b (change row) row) ≡ cleared p row
      by row true e =
          let away : same_label row.label p ≡ false = ap (λ l. same_label l p) (same-label_path row.label label e) ∙ off in
          (λ i. cond (same_label (keeps row i) p) (change row) (empty (keeps row i))) ∙ (λ i. cond (away i) (change row) (empty row.label)) ∙ sym (λ i. cond (away i) row (empty row.label))
      by row false e = refl

-- ---- leaves

module _ (t : Name) (p : Label) (leaf : Path) (change : LeafApps → LeafApps) (keeps : (row : LeafApps) → (change row).leaf ≡ row.leaf) (leaves : List LeafApps) where
  abbrev at-row : LeafApps → Bool
  at-row row = same_path row.leaf leaf

  kept-rows : filter (is_row_of t) (in_leaf leaf change leaves) ≡ in_leaf leaf change (filter (is_row_of t) leaves)
  kept-rows = filter-update (is_row_of t) at-row change (λ row. ap (is_within (top_level t)) (keeps row)) leaves

  -- a change that is another one on what the tenant's cluster has of a row
  pub leaves-here : (own : LeafApps → LeafApps) → ((row : LeafApps) → only_row p (change row) ≡ own (only_row p row)) → own_leaves t p (in_leaf leaf change leaves) ≡ in_leaf leaf own (own_leaves t p leaves)
  leaves-here own same =
      ap (map (only_row p)) kept-rows ∙ map-map (only_row p) (λ row. if at-row row then change row else row) (filter (is_row_of t) leaves)
      ∙ (λ i. map (λ row. by row (at-row row) i) (filter (is_row_of t) leaves))
      ∙ sym (map-map (λ row. if at-row row then own row else row) (only_row p) (filter (is_row_of t) leaves))
    where
      by : (row : LeafApps) (b : Bool) → only_row p (cond b (change row) row) ≡ cond b (own (only_row p row)) (only_row p row)
      by row true = same row
      by row false = refl

  -- a change that the tenant's cluster has nothing of
  pub leaves-unseen : ((row : LeafApps) → only_row p (change row) ≡ only_row p row) → own_leaves t p (in_leaf leaf change leaves) ≡ own_leaves t p leaves
  leaves-unseen same =
      ap (map (only_row p)) kept-rows ∙ map-map (only_row p) (λ row. if at-row row then change row else row) (filter (is_row_of t) leaves) ∙ (λ i. map (λ row. by row (at-row row) i) (filter (is_row_of t) leaves))
    where
      by : (row : LeafApps) (b : Bool) → only_row p (cond b (change row) row) ≡ only_row p row
      by row true = same row
      by row false = refl

  -- a change of another tenant's leaf
  pub leaves-other : is_within (top_level t) leaf ≡ false → own_leaves t p (in_leaf leaf change leaves) ≡ own_leaves t p leaves
  leaves-other off = ap (map (only_row p)) (kept-rows ∙ update-off (is_row_of t) at-row change (λ row e. go row e (at-row row) refl) leaves)
    where
      go : (row : LeafApps) → is_row_of t row ≡ true → (b : Bool) → at-row row ≡ b → at-row row ≡ false
      go row e true same = absurd (true≢false (sym e ∙ ap (is_within (top_level t)) (same-path row.leaf leaf same) ∙ off))
      go row e false same = same

-- ---- maxima

-- a share that is set is found where it is that of the queue and the partition
share-set : (queue : Path) (label : Label) (share : ℕ) (maxima : List MaximumRow) (q : Path) (p : Label) →
    share_found (set_maximum queue label share maxima) q p ≡ option_map (λ old. if same_path q queue && same_label p label then share else old) (share_found maxima q p)
share-set queue label share maxima q p =
    ap (option_map (λ row. row.share)) (find-through set (is_maximum_of q p) (λ row. elim (is_maximum_of queue label row) as (λ b. is_maximum_of q p (cond b (record row { share = share }) row) ≡ is_maximum_of q p row) [ true ↦ refl | false ↦ refl ]) maxima)
    ∙ go (find (is_maximum_of q p) maxima) (found-passes (is_maximum_of q p) maxima)
  where
    set : MaximumRow → MaximumRow
    set row = if is_maximum_of queue label row then record row { share = share } else row

    by : (row : MaximumRow) (b : Bool) → (cond b (record row { share = share }) row).share ≡ cond b share row.share
    by row true = refl
    by row false = refl

    go : (o : Option MaximumRow) → IfSome o (λ row. is_maximum_of q p row ≡ true) →
        option_map (λ row. row.share) (option_map set o) ≡ option_map (λ old. if same_path q queue && same_label p label then share else old) (option_map (λ row. row.share) o)
    go None k = refl
    go (Some row) k =
        let at : row.queue ≡ q = same-path row.queue q (and_parts _ _ k).0 in
        let on : row.label ≡ p = same-label_path row.label p (and_parts (same_path row.queue q) _ k).1 in
        ap (λ n. Some n) (by row (is_maximum_of queue label row) ∙ (λ i. cond (same_path (at i) queue && same_label (on i) label) share row.share))

-- ---- each change

module _ (c : Config) (t : Name) (p : Label) (s u : State) (h : Mirrors t p s u) where
  abbrev d : Config
  d = restrict c t

  -- the row of the partition is the same
  row-same : find (is_partition p) s.partitions ≡ find (is_partition p) u.partitions
  row-same = sym (ap (find (is_partition p)) h.partitions ∙ find-cleared p s.partitions)

  pub on-same : containers_on s p ≡ containers_on u p
  on-same = ap (λ o. option_map_or (λ row. row.containers) o []) row-same

  pub clock-same : clock s p ≡ clock u p
  unfolding clock
  clock-same = ap (λ o. option_map_or (λ row. row.clock) o 0) row-same

  pub spent-same : is_spent c.labels s p ≡ is_spent c.labels u p
  unfolding is_spent
  spent-same = ap (λ n. nat_le (clock_limit c.labels p) n) clock-same

  pub next-same : next_clock c.labels s p ≡ next_clock c.labels u p
  unfolding next_clock
  next-same = ap (rises (clock_limit c.labels p)) clock-same

  -- a node joins the partition
  pub joins-here : (name : Name) (size : Resource) → Mirrors t p (node_joins c name p size s) (node_joins d name p size u)
  unfolding node_joins joined
  joins-here name size = record {
    nodes = (λ i. h.nodes i ++ new (sym next-same i) ∷ []) ∙ sym (filter-append (λ node. same_label node.label p) s.nodes (new (next_clock c.labels s p) ∷ []) ∙ (λ i. nodes_of s.nodes p ++ cond (same-label_self p i) (new (next_clock c.labels s p) ∷ []) []));
    partitions = (λ i. in_partition p (λ row. record row { clock = sym next-same i }) (h.partitions i)) ∙ sym (partitions-here p (λ row. record row { clock = next_clock c.labels s p }) (λ row. refl) s.partitions);
    leaves = h.leaves;
    stops = h.stops;
    maxima = h.maxima;
  }
    where
      new : ℕ → Node
      new stamp = record { name = name; label = p; size = size; stamp = stamp }

  -- a node joins another partition
  pub joins-there : (name : Name) (label : Label) (size : Resource) → same_label label p ≡ false → Mirrors t p (node_joins c name label size s) u
  unfolding node_joins joined
  joins-there name label size off = record {
    nodes = h.nodes ∙ sym (filter-append (λ node. same_label node.label p) s.nodes (new ∷ []) ∙ (λ i. nodes_of s.nodes p ++ cond (off i) (new ∷ []) []) ∙ append-nil (nodes_of s.nodes p));
    partitions = h.partitions ∙ sym (partitions-there p _ (λ row. refl) label off s.partitions);
    leaves = h.leaves;
    stops = h.stops;
    maxima = h.maxima;
  }
    where
      new : Node
      new = record { name = name; label = label; size = size; stamp = next_clock c.labels s label }

  -- the containers of another partition change
  pub changed-there : (name : Name) (label : Label) (change : List Container → List Container) → same_label label p ≡ false → Mirrors t p (changed_at c name label change s) u
  unfolding changed_at stamped
  changed-there name label change off = record {
    nodes = h.nodes ∙ sym (filter-update_off (λ node. same_label node.label p) (is_at name label) _ (λ node. refl) (λ node e. away node e (same_label node.label label) refl) s.nodes);
    partitions = h.partitions ∙ sym (partitions-there p _ (λ row. refl) label off s.partitions);
    leaves = h.leaves;
    stops = h.stops;
    maxima = h.maxima;
  }
    where
      away : (node : Node) → same_label node.label p ≡ true → (b : Bool) → same_label node.label label ≡ b → (same_name node.name name && same_label node.label label) ≡ false
      away node e true at = absurd (true≢false (sym e ∙ ap (λ l. same_label l p) (same-label_path node.label label at) ∙ off))
      away node e false at = ap (λ b. same_name node.name name && b) at ∙ and-false (same_name node.name name)

  -- the containers of the partition change
  pub changed-here : (name : Name) (change : List Container → List Container) → Mirrors t p (changed_at c name p change s) (changed_at d name p change u)
  unfolding changed_at stamped
  changed-here name change = record {
    nodes = (λ i. update (is_at name p) (λ node. record node { stamp = sym next-same i }) (h.nodes i)) ∙ sym (filter-update (λ node. same_label node.label p) (is_at name p) _ (λ node. refl) s.nodes);
    partitions = (λ i. in_partition p (λ row. record row { clock = sym next-same i; containers = change row.containers }) (h.partitions i)) ∙ sym (partitions-here p _ (λ row. refl) s.partitions);
    leaves = h.leaves;
    stops = h.stops;
    maxima = h.maxima;
  }

  -- a node leaves another partition
  pub departs-there : (node : Node) → same_label node.label p ≡ false → Mirrors t p (node_leaves node s) u
  unfolding node_leaves left
  departs-there node off = record {
    nodes = h.nodes ∙ sym (filter-filter (λ other. not (is_at node.name node.label other)) (λ other. same_label other.label p) (λ other e. away other e (same_label other.label node.label) refl) s.nodes);
    partitions = h.partitions ∙ sym (partitions-there p _ (λ row. refl) node.label off s.partitions);
    leaves = h.leaves;
    stops = h.stops;
    maxima = h.maxima;
  }
    where
      away : (other : Node) → same_label other.label p ≡ true → (b : Bool) → same_label other.label node.label ≡ b → not (same_name other.name node.name && same_label other.label node.label) ≡ true
      away other e true at = absurd (true≢false (sym e ∙ ap (λ l. same_label l p) (same-label_path other.label node.label at) ∙ off))
      away other e false at = ap (λ b. not (same_name other.name node.name && b)) at ∙ ap not (and-false (same_name other.name node.name))

  -- stops
  pub stops-here : (queue : Path) (stopped : Bool) → Mirrors t p (record s { stops = set_stop queue stopped s.stops }) (record u { stops = set_stop queue stopped u.stops })
  stops-here queue stopped = record {
    nodes = h.nodes;
    partitions = h.partitions;
    leaves = h.leaves;
    stops = ap (set_stop queue stopped) h.stops ∙ sym (filter-update (bears_on t) (λ row. same_path row.queue queue) (λ row. record row { stopped = stopped }) (λ row. refl) s.stops);
    maxima = h.maxima;
  }

  pub stops-there : (queue : Path) (stopped : Bool) → is_within (top_level t) queue ≡ false → same_path queue root ≡ false → Mirrors t p (record s { stops = set_stop queue stopped s.stops }) u
  stops-there queue stopped off below = record {
    nodes = h.nodes;
    partitions = h.partitions;
    leaves = h.leaves;
    stops = h.stops ∙ sym (filter-update_off (bears_on t) (λ row. same_path row.queue queue) (λ row. record row { stopped = stopped }) (λ row. refl) (λ row e. away row e (same_path row.queue queue) refl) s.stops);
    maxima = h.maxima;
  }
    where
      away : (row : StopRow) → bears_on t row ≡ true → (b : Bool) → same_path row.queue queue ≡ b → same_path row.queue queue ≡ false
      away row e true at = absurd (true≢false (sym e ∙ ap (λ q. is_within (top_level t) q || same_path q root) (same-path row.queue queue at) ∙ (λ i. off i || below i)))
      away row e false at = at

  -- maxima
  pub maxima-here : (queue : Path) (share : ℕ) → Mirrors t p (record s { maxima = set_maximum queue p share s.maxima }) (record u { maxima = set_maximum queue p share u.maxima })
  maxima-here queue share = record {
    nodes = h.nodes;
    partitions = h.partitions;
    leaves = h.leaves;
    stops = h.stops;
    maxima = λ q w. share-set queue p share s.maxima q p ∙ ap (option_map (λ old. if same_path q queue && same_label p p then share else old)) (h.maxima q w) ∙ sym (share-set queue p share u.maxima q p);
  }

  pub maxima-there : (queue : Path) (label : Label) (share : ℕ) → (same_label label p && is_within (top_level t) queue) ≡ false → Mirrors t p (record s { maxima = set_maximum queue label share s.maxima }) u
  maxima-there queue label share off = record {
    nodes = h.nodes;
    partitions = h.partitions;
    leaves = h.leaves;
    stops = h.stops;
    maxima = λ q w.
        share-set queue label share s.maxima q p ∙ (λ i. option_map (λ old. if away q w (same_path q queue) (same_label p label) refl refl i then share else old) (share_found s.maxima q p)) ∙ as-is (share_found s.maxima q p) ∙ h.maxima q w;
  }
    where
      as-is : (o : Option ℕ) → option_map (λ old. old) o ≡ o
      as-is None = refl
      as-is (Some n) = refl

      away : (q : Path) → is_within (top_level t) q ≡ true → (a b : Bool) → same_path q queue ≡ a → same_label p label ≡ b → (same_path q queue && same_label p label) ≡ false
      away q w false b e f = ap (λ x. x && same_label p label) e
      away q w true false e f = (λ i. same_path q queue && f i) ∙ and-false (same_path q queue)
      away q w true true e f =
          absurd (true≢false (sym (and_from _ _ (ap (λ l. same_label l p) (sym (same-label_path p label f)) ∙ same-label_self p) (ap (is_within (top_level t)) (sym (same-path q queue e)) ∙ w)) ∙ off))

  -- leaves
  pub with-leaves : (mine yours : List LeafApps) → yours ≡ own_leaves t p mine → Mirrors t p (record s { leaves = mine }) (record u { leaves = yours })
  with-leaves mine yours same = record { nodes = h.nodes; partitions = h.partitions; leaves = same; stops = h.stops; maxima = h.maxima }

-- a node leaves its own partition
pub departs-here : (t : Name) (node : Node) (s u : State) → Mirrors t node.label s u → Mirrors t node.label (node_leaves node s) (node_leaves node u)
unfolding node_leaves left
departs-here t node s u h = record {
  nodes = ap (without (is_at node.name node.label)) h.nodes ∙ sym (filter-swap (λ other. not (is_at node.name node.label other)) (λ other. same_label other.label node.label) s.nodes);
  partitions = ap (in_partition node.label (λ row. record row { containers = without (λ container. same_name container.node node.name) row.containers })) h.partitions
      ∙ sym (partitions-here node.label _ (λ row. refl) s.partitions);
  leaves = h.leaves;
  stops = h.stops;
  maxima = h.maxima;
}
