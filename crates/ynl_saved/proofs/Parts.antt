-- The lines of the partitions are read, and those of the nodes.
use Rattle.std.proofs.Common.{◌≡◌, ◌≤◌, ◌<◌, ℕ, Bool, true, false, cond, ◌||◌, is_some, List, [], ◌∷◌, ◌++◌, length, map, Option, Some, None, option_map, find, refl, sym, ap, subst, ◌∙◌, arith, append-nil, length-append}
use Rattle.std.specs.Prelude.{IsTrue, IfSome, flat_map, nat_le}
use Rattle.std.specs.List.{AllByRecursion, list_any}
use Rattle.std.specs.Option.{option_map_or}
use Rattle.std.proofs.lemmas.Bool.Decides.{nat_tests}
use Rattle.std.proofs.lemmas.List.{map-append}
use Rattle.std.proofs.lemmas.List.Elements.{filter-append}
use mathlib.Core.Bool.{true≢false}
use Rattle.ynl_resource.specs.Names.{same_label, same_name}
use Rattle.ynl_resource.specs.Ranges.{most_nodes}
use Rattle.ynl_resource.specs.declared.labels.Label.{Label}
use Rattle.ynl_model.specs.Accepted.{is_accepted}
use Rattle.ynl_model.specs.Cluster.{State, Partition, clock, in_partition, is_partition}
use Rattle.ynl_model.specs.Nodes.{Labels, clock_limit, has_label, is_full, label_row, nodes_of, partition_labels}
use Rattle.ynl_model.specs.declared.labels.LabelRow.{LabelRow}
use Rattle.ynl_resource.specs.declared.labels.Label.TheVariants.{Named}
use Rattle.ynl_model.specs.Queues.{Config}
use Rattle.ynl_model.specs.declared.nodes.Node.{Node}
use Rattle.ynl_saved.specs.declared.lines.StateLine.TheVariants.{Node as NodeLine}
use Rattle.ynl_saved.specs.Saving.{partition_line}
use Rattle.ynl_laws.specs.Working.{Pairs, clock_in, has_row}
use Rattle.ynl_laws.proofs.Lists.{Each-append, Each-found, Each-map, Each-split, Each-unmap, Each-weaker, Each-with, find-nothing, find-through, found-passes, pairs-unmap}
use Rattle.ynl_laws.proofs.Names.{same-label_path, same-label_self, same-name_self}
use Rattle.ynl_model.specs.Promises.{without_stamp}
use Rattle.ynl_saved.proofs.Changing.{Base}
use Rattle.ynl_saved.proofs.Configured.{labels-differ}
use Rattle.ynl_saved.proofs.Rows.{one-done, pairs-before, pairs-behind, pairs-keys, turned, update-in}
use Rattle.ynl_saved.proofs.Shapes.{Shaped}
use Rattle.ynl_saved.proofs.Sound.{reads-node, reads-partition}
use Rattle.ynl_saved.proofs.Stamps.{Stamped}
use Rattle.ynl_saved.proofs.Told.{Reads, Side, plain-section, section}

-- a partition before its line, and after it while no container is told
abbrev pub fresh : Partition → Partition
fresh row = record { label = row.label; clock = 0; containers = [] }

-- a partition after its line, while no container is told
abbrev pub settled : Partition → Partition
settled row = record { label = row.label; clock = row.clock; containers = [] }

-- a clock is the same while no container is told
pub settled-clock : (rows : List Partition) (p : Label) → clock_in (map settled rows) p ≡ clock_in rows p
settled-clock rows p = ap (λ o. option_map_or (λ (row : Partition). row.clock) o 0) (find-through settled (is_partition p) (λ row. refl) rows) ∙ go (find (is_partition p) rows)
  where
    go : (o : Option Partition) → option_map_or (λ (row : Partition). row.clock) (option_map settled o) 0 ≡ option_map_or (λ (row : Partition). row.clock) o 0
    go None = refl
    go (Some row) = refl

-- each label of a partition is configured
label-known : (labels : Labels) → AllByRecursion (λ label. has_label labels label ≡ true) (partition_labels labels)
label-known labels = (refl, Each-map (λ (row : LabelRow). is_some (label_row labels row.name) ≡ true) (λ label. has_label labels label ≡ true) (λ row. Named row.name) (λ row e. e) labels.rows (each labels.rows))
  where
    each : (rows : List LabelRow) → AllByRecursion (λ row. is_some (find (λ other. same_name other.name row.name) rows) ≡ true) rows
    each [] = tt
    each (row ∷ rows) = (
      (λ i. is_some (cond (same-name_self row.name i) (Some row) (find (λ other. same_name other.name row.name) rows))),
      Each-weaker (λ (other : LabelRow). is_some (find (λ another. same_name another.name other.name) rows) ≡ true) _ (λ other k. more (same_name row.name other.name) other k) rows (each rows),
    )
      where
        more : (b : Bool) (other : LabelRow) → is_some (find (λ another. same_name another.name other.name) rows) ≡ true → is_some (cond b (Some row) (find (λ another. same_name another.name other.name) rows)) ≡ true
        more true other k = refl
        more false other k = k

module _ (c : Config) (accepted : IsTrue (is_accepted c)) (s : State) (shaped : Shaped c s) (base : Base c s) where
  -- partitions have labels of their own
  pub partitions-apart : Pairs (λ (a b : Partition). same_label a.label b.label ≡ false) s.partitions
  partitions-apart = pairs-keys same_label (λ (row : Partition). row.label) s.partitions (partition_labels c.labels) shaped.partitions (labels-differ c accepted)

  -- which are configured
  pub partitions-known : AllByRecursion (λ (row : Partition). has_label c.labels row.label ≡ true) s.partitions
  partitions-known = Each-unmap (λ (row : Partition). row.label) (λ label. has_label c.labels label ≡ true) s.partitions (subst (AllByRecursion (λ label. has_label c.labels label ≡ true)) (sym shaped.partitions) (label-known c.labels))

  -- each clock is within its limit
  clocks-within : AllByRecursion (λ (row : Partition). row.clock ≤ clock_limit c.labels row.label) s.partitions
  clocks-within = let ordered = base.ordered in Each-weaker _ (λ (row : Partition). row.clock ≤ clock_limit c.labels row.label)
      (λ row is. subst (λ n. n ≤ clock_limit c.labels row.label) (ap (λ o. option_map_or (λ (row : Partition). row.clock) o 0) is) (ordered.clocks row.label)) s.partitions ordered.found

  -- the partitions that are told, and those that are not
  abbrev pub AreTold : List Partition → List Partition → Side → Type 0
  AreTold done todo side = (side.maxima ≡ []) × AllByRecursion (λ (row : Partition). list_any (same_label row.label) side.partitions ≡ false) todo × AllByRecursion (λ (row : Partition). list_any (same_label row.label) side.partitions ≡ true) done

  -- the state when some partitions had their lines
  abbrev parts_at : State → List Partition → List Partition → State
  parts_at s0 done todo = record s0 { partitions = map settled done ++ map fresh todo }

  -- the line of one partition is read
  part-step : (s0 : State) (done : List Partition) (x : Partition) (todo : List Partition) (side : Side) → done ++ x ∷ todo ≡ s.partitions → AreTold done (x ∷ todo) side →
      (new : Side) × AreTold (done ++ x ∷ []) todo new × Reads c (parts_at s0 done (x ∷ todo)) side (partition_line x ∷ []) (parts_at s0 (done ++ x ∷ []) todo) new
  part-step s0 done x todo side e q = (
    record { partitions = x.label ∷ side.partitions; maxima = side.maxima },
    (
      q.0,
      Each-with (λ (row : Partition). same_label x.label row.label ≡ false) (λ (row : Partition). list_any (same_label row.label) side.partitions ≡ false) (λ (row : Partition). list_any (same_label row.label) (x.label ∷ side.partitions) ≡ false)
          (λ row away k. (λ i. turned same_label same-label_path same-label_self x.label row.label away i || list_any (same_label row.label) side.partitions) ∙ k) todo
          (pairs-behind (λ (a b : Partition). same_label a.label b.label ≡ false) done x todo apart) q.1.1,
      Each-append (λ (row : Partition). list_any (same_label row.label) (x.label ∷ side.partitions) ≡ true) done (x ∷ [])
          (Each-weaker (λ (row : Partition). list_any (same_label row.label) side.partitions ≡ true) _ (λ row k. or-more (same_label row.label x.label) k) done q.2)
          (ap (λ b. b || list_any (same_label x.label) side.partitions) (same-label_self x.label), tt),
    ),
    subst (λ rows. Reads c (parts_at s0 done (x ∷ todo)) side (partition_line x ∷ []) (record s0 { partitions = rows }) (record { partitions = x.label ∷ side.partitions; maxima = side.maxima })) changed
        (reads-partition c (parts_at s0 done (x ∷ todo)) side x.label x.clock (here (λ (row : Partition). has_label c.labels row.label ≡ true) partitions-known) q.1.0 (here (λ (row : Partition). row.clock ≤ clock_limit c.labels row.label) clocks-within)),
  )
    where
      apart : Pairs (λ (a b : Partition). same_label a.label b.label ≡ false) (done ++ x ∷ todo)
      apart = subst (Pairs (λ (a b : Partition). same_label a.label b.label ≡ false)) (sym e) partitions-apart

      here : (P : Partition → Type 0) → AllByRecursion P s.partitions → P x
      here P all = (Each-split P done (x ∷ todo) (subst (AllByRecursion P) (sym e) all)).1.0

      or-more : (a : Bool) {b : Bool} → b ≡ true → (a || b) ≡ true
      or-more true k = refl
      or-more false k = k

      changed : in_partition x.label (λ row. record row { clock = x.clock }) (map settled done ++ fresh x ∷ map fresh todo) ≡ map settled (done ++ x ∷ []) ++ map fresh todo
      changed =
          update-in (is_partition x.label) (λ row. record row { clock = x.clock }) (map settled done) (fresh x) (map fresh todo)
          (Each-map (λ (row : Partition). same_label row.label x.label ≡ false) _ settled (λ row k. k) done (pairs-before (λ (a b : Partition). same_label a.label b.label ≡ false) done x todo apart))
          (same-label_self x.label)
          (Each-map (λ (row : Partition). same_label x.label row.label ≡ false) _ fresh (λ row k. turned same_label same-label_path same-label_self x.label row.label k) todo (pairs-behind (λ (a b : Partition). same_label a.label b.label ≡ false) done x todo apart))
          ∙ one-done (map settled done) (settled x) (map fresh todo)
          ∙ ap (λ rows. rows ++ map fresh todo) (sym (map-append settled done (x ∷ [])))

  -- the lines of the partitions
  pub reads-parts : (s0 : State) → (new : Side) × AreTold s.partitions [] new
      × Reads c (record s0 { partitions = map fresh s.partitions }) (record { partitions = []; maxima = [] }) (flat_map (λ row. partition_line row ∷ []) s.partitions) (record s0 { partitions = map settled s.partitions }) new
  reads-parts s0 =
      let all = section c (λ row. partition_line row ∷ []) (parts_at s0) AreTold s.partitions (part-step s0) [] s.partitions (record { partitions = []; maxima = [] }) refl (refl, none s.partitions, tt) in
      (all.0, all.1, subst (λ rows. Reads c (record s0 { partitions = map fresh s.partitions }) (record { partitions = []; maxima = [] }) (flat_map (λ row. partition_line row ∷ []) s.partitions) (record s0 { partitions = rows }) all.0) (append-nil (map settled s.partitions)) all.2)
    where
      none : (rows : List Partition) → AllByRecursion (λ (row : Partition). list_any (same_label row.label) [] ≡ false) rows
      none [] = tt
      none (row ∷ rows) = (refl, none rows)

  -- ---- nodes

  module _ (stamped : Stamped c s) (side : Side) (all : AllByRecursion (λ (row : Partition). list_any (same_label row.label) side.partitions ≡ true) s.partitions) (s1 : State) (parts : s1.partitions ≡ map settled s.partitions) where
    -- no two nodes have one name
    names-apart : Pairs (λ (a b : Node). same_name a.name b.name ≡ false) s.nodes
    names-apart = pairs-unmap without_stamp (λ a b. same_name a.name b.name ≡ false) s.nodes base.apart

    -- a partition that has a row was told
    row-told : (label : Label) → has_row s.partitions label ≡ true → list_any (same_label label) side.partitions ≡ true
    row-told label there = go (find (is_partition label) s.partitions) there (Each-found _ (is_partition label) s.partitions all) (found-passes (is_partition label) s.partitions)
      where
        go : (o : Option Partition) → option_map_or (λ row. true) o false ≡ true → IfSome o (λ (row : Partition). list_any (same_label row.label) side.partitions ≡ true) → IfSome o (λ (row : Partition). same_label row.label label ≡ true) → list_any (same_label label) side.partitions ≡ true
        go None there told at = absurd (true≢false (sym there))
        go (Some row) there told at = subst (λ l. list_any (same_label l) side.partitions ≡ true) (same-label_path row.label label at) told

    -- the line of one node is read
    node-step : (done : List Node) (x : Node) (todo : List Node) → done ++ x ∷ todo ≡ s.nodes → Reads c (record s1 { nodes = done }) side (NodeLine x ∷ []) (record s1 { nodes = done ++ x ∷ [] }) side
    unfolding is_full clock
    node-step done x todo e =
        let ordered = base.ordered in
        let stamp = here (λ (node : Node). (has_row s.partitions node.label ≡ true) × (node.stamp ≤ clock_in s.partitions node.label)) ordered.stamps in
        let known = here (λ (node : Node). (has_label c.labels node.label ≡ true) × (1 ≤ node.stamp)) stamped.known in
        reads-node c (record s1 { nodes = done }) side x (row-told x.label stamp.0)
        (ap is_some (find-nothing (λ node. same_name node.name x.name) done (pairs-before (λ (a b : Node). same_name a.name b.name ≡ false) done x todo (subst (Pairs (λ (a b : Node). same_name a.name b.name ≡ false)) (sym e) names-apart))))
        (room (length (nodes_of done x.label)) fewer) known.1
        (subst (λ n. x.stamp ≤ n) (sym (ap (λ rows. clock_in rows x.label) parts ∙ settled-clock s.partitions x.label)) stamp.1)
      where
        here : (P : Node → Type 0) → AllByRecursion P s.nodes → P x
        here P each = (Each-split P done (x ∷ todo) (subst (AllByRecursion P) (sym e) each)).1.0

        with-one : (xs ys : List Node) (n : ℕ) → length (xs ++ x ∷ ys) ≤ n → length xs < n
        with-one xs ys n k = omega (arith, k, length-append xs (x ∷ ys))

        fewer : length (nodes_of done x.label) < most_nodes
        fewer = with-one (nodes_of done x.label) (nodes_of todo x.label) most_nodes
            (subst (λ xs. length xs ≤ most_nodes) (ap (λ xs. nodes_of xs x.label) (sym e) ∙ filter-append (λ node. same_label node.label x.label) done (x ∷ todo) ∙ (λ i. nodes_of done x.label ++ cond (same-label_self x.label i) (x ∷ nodes_of todo x.label) (nodes_of todo x.label)))
            (stamped.counts x.label))

        room : (n : ℕ) → n < most_nodes → nat_le most_nodes n ≡ false
        room n k = grind (arith, nat_tests, k)

    -- the lines of the nodes
    pub reads-nodes : Reads c (record s1 { nodes = [] }) side (flat_map (λ node. NodeLine node ∷ []) s.nodes) (record s1 { nodes = s.nodes }) side
    reads-nodes = plain-section c (λ node. NodeLine node ∷ []) (λ done todo. record s1 { nodes = done }) side s.nodes node-step [] s.nodes refl
