-- What lines tell of a cluster, after one more.
use Rattle.std.proofs.Common.{◌≡◌, ◌≤◌, ◌+◌, ℕ, Bool, true, false, cond, not, nat_le, is_some, ◌&&◌, ◌||◌, ◌==◌, List, [], ◌∷◌, ◌++◌, length, map, replicate, Option, Some, None, refl, sym, ap, subst, ◌∙◌, true≢false}
use Rattle.std.specs.List.{AllByRecursion, list_all, list_any}
use Rattle.std.specs.Option.{option_map_or}
use Rattle.std.proofs.lemmas.List.Folds.{list_any-append}
use Rattle.ynl_resource.specs.Names.{same_label}
use Rattle.ynl_resource.specs.Tables.{update}
use Rattle.ynl_resource.specs.declared.labels.Label.{Label}
use Rattle.ynl_resource.specs.declared.names.Name.{Name}
use Rattle.ynl_resource.specs.declared.paths.Path.{Path}
use Rattle.ynl_model.specs.declared.applications.AskRow.{AskRow}
use Rattle.ynl_model.specs.declared.containers.Placed.{Placed}
use Rattle.ynl_model.specs.declared.nodes.Node.{Node as NodeRow}
use Rattle.ynl_model.specs.Accepted.{is_accepted, is_from_to}
use Rattle.ynl_model.specs.Applications.{Application, find_app, in_leaf, with_app}
use Rattle.ynl_model.specs.Cluster.{Partition as PartitionRow, State, clock, is_partition, node_of}
use Rattle.ynl_model.specs.Nodes.{clock_limit, has_label, is_full, nodes_of, partition_labels}
use Rattle.ynl_model.specs.Queues.{Config}
use Rattle.ynl_laws.specs.Working.{clock_in, has_row}
use Rattle.ynl_laws.proofs.Lists.{Each-weaker, filter-nothing}
use Rattle.ynl_laws.proofs.Logic.{and-false}
use Rattle.ynl_cluster.specs.Cluster.{ClusterView, state_in}
use Rattle.ynl_replies.specs.declared.admission.queues.CellNumbers.{CellNumbers}
use Rattle.ynl_saved.specs.declared.lines.StateLine.{StateLine}
use Rattle.ynl_saved.specs.declared.lines.StateLine.TheVariants.{Ask, Container, End, Node, Partition}
use Rattle.ynl_saved.specs.Restoring.{Restored, is_sound_line, maxima_of, partitions_of, restored_with, with_line}
use Rattle.ynl_saved.specs.Lines.{IsSizedLine}
use Rattle.ynl_saved.proofs.Restored.{IsRestored, among, nobody, restored-more}
use Rattle.ynl_snapshots.specs.restoring.Placing.{AreLasts, IsSteady, last_of}
use Rattle.ynl_snapshots.specs.restoring.Taking.{Takes}
use Rattle.ynl_snapshots.proofs.restoring.Cells.{turn}
use Rattle.ynl_snapshots.specs.restoring.Telling.{AreMaxima, Telling, Tells, TakesKind}

-- no stamp is above what its partition's clock shows
stamps-shown : (s : State) → AllByRecursion (λ (node : NodeRow). (has_row s.partitions node.label ≡ true) × (node.stamp ≤ clock_in s.partitions node.label)) s.nodes → AllByRecursion (λ (node : NodeRow). node.stamp ≤ clock s node.label) s.nodes
unfolding clock
stamps-shown s stamps = Each-weaker (λ (node : NodeRow). (has_row s.partitions node.label ≡ true) × (node.stamp ≤ clock_in s.partitions node.label)) (λ (node : NodeRow). node.stamp ≤ clock_in s.partitions node.label) (λ node k. k.1) s.nodes stamps

module _ (t : Telling) (r : Restored) (h : Tells t r) where
  abbrev c : Config
  c = t.cluster.config

  -- what a container's line asks of the state
  pub steady : IsSteady (state_in t.cluster)
  steady =
      let known = h.known in
      let saveable = known.saveable in
      let tellable = saveable.tellable in
      let base = tellable.base in
      let ordered = base.ordered in
      subst IsSteady h.state (record { finds = base.finds; shown = stamps-shown r.state ordered.stamps })

  -- a line that does not go with those before it changes nothing
  pub kind-refused : (line : StateLine) → is_sound_line c r line ≡ false → TakesKind t r line t false
  kind-refused line unsound = record { sound = unsound; config = refl; lines = refl; told = λ e. absurd (true≢false (sym e)); same = λ e. refl }

  module _ (line : StateLine) (sized : IsSizedLine line) (sound : is_sound_line c r line ≡ true) (w : ClusterView) (config : w.config ≡ c) (told : state_in w ≡ with_line line (state_in t.cluster)) where
    -- one that does is told then
    pub kind-taken : (partitions : List Label) → ((label : Label) → list_any (same_label label) partitions ≡ list_any (same_label label) (partitions_of line ++ r.partitions))
        → (maxima : List CellNumbers) → AreMaxima c maxima (maxima_of line ++ r.maxima) → (lasts : List ℕ) → AreLasts (state_in w) lasts
        → TakesKind t r line (record { cluster = w; partitions = partitions; maxima = maxima; lasts = lasts; lines = t.lines }) true
    kind-taken partitions parted maxima set lasts last = record {
      sound = sound;
      config = config;
      lines = refl;
      told = λ e. record {
        state = ap (with_line line) h.state ∙ sym told;
        accepted = ap is_accepted config ∙ h.accepted;
        known = subst (λ c. IsRestored c (restored_with line r)) (sym config) (restored-more c h.accepted r line h.known sized sound);
        partitions = parted;
        maxima = subst (λ c. AreMaxima c maxima (maxima_of line ++ r.maxima)) (sym config) set;
        lasts = last;
        lines = ap (λ n. n + 1) h.lines;
      };
      same = λ e. absurd (true≢false e);
    }

  -- nor does its cluster
  pub kind-off : (line : StateLine) (w : ClusterView) → Takes t.cluster r line w false → TakesKind t r line (record t { cluster = w }) false
  kind-off line w takes = subst (λ (w : ClusterView). TakesKind t r line (record t { cluster = w }) false) (sym (takes.same refl)) (kind-refused line takes.sound)

  -- a line of a kind that tells neither a partition nor a maximum, and changes no row of a partition
  pub plain-kind : (line : StateLine) → IsSizedLine line → partitions_of line ≡ [] → maxima_of line ≡ [] → (with_line line (state_in t.cluster)).partitions ≡ (state_in t.cluster).partitions
      → (w : ClusterView) (taken : Bool) → Takes t.cluster r line w taken → TakesKind t r line (record t { cluster = w }) taken
  plain-kind line sized no-partition no-maximum rows w true takes =
      kind-taken line sized takes.sound w takes.config (takes.told refl) t.partitions
      (λ label. h.partitions label ∙ ap (λ (more : List Label). list_any (same_label label) (more ++ r.partitions)) (sym no-partition)) t.maxima
      (subst (λ (more : List (Path × Label)). AreMaxima c t.maxima (more ++ r.maxima)) (sym no-maximum) h.maxima) t.lasts
      (ap (map last_of) (ap (λ (s : State). s.partitions) (takes.told refl) ∙ rows) ∙ h.lasts)
  plain-kind line sized no-partition no-maximum rows w false takes = kind-off line w takes

  -- ---- partitions

  -- a partition that had a line is configured
  pub told-known : (label : Label) → list_any (same_label label) t.partitions ≡ true → has_label c.labels label ≡ true
  told-known label any = let known = h.known in among (λ l. has_label c.labels l ≡ true) label r.partitions (sym (h.partitions label) ∙ any) known.told

  -- where it had none no node stands
  pub none-there : (label : Label) → list_any (same_label label) t.partitions ≡ false → nodes_of (state_in t.cluster).nodes label ≡ []
  none-there label none =
      let known = h.known in
      filter-nothing (λ (node : NodeRow). same_label node.label label) (state_in t.cluster).nodes
      (nobody label r.partitions (state_in t.cluster).nodes (sym (h.partitions label) ∙ none)
      (subst (λ (s : State). AllByRecursion (λ (node : NodeRow). list_any (same_label node.label) r.partitions ≡ true) s.nodes) h.state known.on_told))

  -- the second line of a partition goes with none
  pub partition-again : (label : Label) (shown : ℕ) → list_any (same_label label) t.partitions ≡ true → is_sound_line c r (Partition label shown) ≡ false
  unfolding is_sound_line
  partition-again label shown any =
      ap (λ b. has_label c.labels label && not b && nat_le shown (clock_limit c.labels label)) (sym (h.partitions label) ∙ any)
      ∙ ap (λ b. b && nat_le shown (clock_limit c.labels label)) (and-false (has_label c.labels label))

  -- nor does the line of a node on a partition that had none
  pub node-untold : (node : NodeRow) → list_any (same_label node.label) t.partitions ≡ false → is_sound_line c r (Node node) ≡ false
  unfolding is_sound_line
  node-untold node none =
      ap (λ b. b && not (is_some (node_of r.state node.name)) && not (is_full r.state.nodes node.label) && is_from_to 1 (clock r.state node.label) node.stamp) (sym (h.partitions node.label) ∙ none)

  -- a partition's line is taken
  pub partition-taken : (label : Label) (shown : ℕ) (w : ClusterView) → Takes t.cluster r (Partition label shown) w true
      → (partitions : List Label) → partitions ≡ t.partitions ++ label ∷ [] → TakesKind t r (Partition label shown) (record t { cluster = w; partitions = partitions }) true
  unfolding with_line
  partition-taken label shown w takes partitions are =
      kind-taken (Partition label shown) tt takes.sound w takes.config (takes.told refl) partitions
      (λ l. ap (list_any (same_label l)) are ∙ list_any-append (same_label l) t.partitions (label ∷ []) ∙ (λ i. h.partitions l i || (same_label l label || false)) ∙ turn (list_any (same_label l) r.partitions) (same_label l label))
      t.maxima h.maxima t.lasts
      (ap (λ (s : State). map last_of s.partitions) (takes.told refl) ∙ same-lasts (is_partition label) (state_in t.cluster).partitions ∙ h.lasts)
    where
      same-lasts : (test : PartitionRow → Bool) (rows : List PartitionRow) → map last_of (update test (λ row. record row { clock = shown }) rows) ≡ map last_of rows
      same-lasts test [] = refl
      same-lasts test (row ∷ rows) = λ i. go (test row) i ∷ same-lasts test rows i
        where
          go : (b : Bool) → last_of (cond b (record row { clock = shown }) row) ≡ last_of row
          go true = refl
          go false = refl

  -- ---- the last line

  -- what is tested of it
  pub end-told : (lines : ℕ) → is_sound_line c r (End lines) ≡ ((lines == t.lines) && list_all (λ label. list_any (same_label label) t.partitions) (partition_labels c.labels))
  unfolding is_sound_line
  end-told lines = λ i. (lines == h.lines i) && list_all (λ label. sym (h.partitions label) i) (partition_labels c.labels)

  -- an ask changes no row of a partition
  pub ask-rows : (tenant name : Name) (ask : AskRow) → (with_line (Ask tenant name ask) (state_in t.cluster)).partitions ≡ (state_in t.cluster).partitions
  unfolding with_line
  ask-rows tenant name ask = go (find_app (state_in t.cluster).leaves tenant name)
    where
      go : (o : Option Application)
          → (option_map_or (λ (found : Application). record (state_in t.cluster) { leaves = in_leaf found.leaf (with_app name (λ app. record app { asks = app.asks ++ ask ∷ [] })) (state_in t.cluster).leaves }) o (state_in t.cluster)).partitions
          ≡ (state_in t.cluster).partitions
      go None = refl
      go (Some found) = refl

-- where no containers are, no clock is that of a last one
pub no-lasts : (labels : List Label) → map last_of (map (λ label. record { label = label; clock = 0; containers = [] }) labels) ≡ replicate (length labels) 0
no-lasts [] = refl
no-lasts (label ∷ labels) = ap (λ ns. 0 ∷ ns) (no-lasts labels)

-- ---- what is kept, as its view

-- the same of a line that tells neither a partition nor a maximum
pub plain-viewed : (s t : Telling) → s ≡ t → (r : Restored) → Tells t r → (line other : StateLine) → other ≡ line → IsSizedLine line → partitions_of line ≡ [] → maxima_of line ≡ []
    → (with_line line (state_in s.cluster)).partitions ≡ (state_in s.cluster).partitions → (w : ClusterView) (taken : Bool) → ((r : Restored) → r.state ≡ state_in s.cluster → Takes s.cluster r line w taken)
    → TakesKind t r other (record s { cluster = w }) taken
plain-viewed s t is r h line other same sized no-partition no-maximum rows w taken takes =
    let told = subst (λ (t : Telling). Tells t r) (sym is) h in
    subst (λ (t : Telling). TakesKind t r other (record s { cluster = w }) taken) is
    (subst (λ (line : StateLine). TakesKind s r line (record s { cluster = w }) taken) (sym same)
    (plain-kind s r told line sized no-partition no-maximum rows w taken (takes r told.state)))

-- a container's line is taken
pub container-viewed : (s t : Telling) → s ≡ t → (r : Restored) → Tells t r → (placed : Placed) (other : StateLine) → other ≡ Container placed → (w : ClusterView) (taken : Bool)
    → ((r : Restored) → r.state ≡ state_in s.cluster → Takes s.cluster r (Container placed) w taken) → (lasts : List ℕ) → AreLasts (state_in w) lasts → TakesKind t r other (record s { cluster = w; lasts = lasts }) taken
container-viewed s t is r h placed other same w taken takes lasts last =
    subst (λ (t : Telling). TakesKind t r other (record s { cluster = w; lasts = lasts }) taken) is
    (subst (λ (line : StateLine). TakesKind s r line (record s { cluster = w; lasts = lasts }) taken) (sym same) (go taken (takes r told.state)))
  where
    told : Tells s r
    told = subst (λ (t : Telling). Tells t r) (sym is) h

    go : (taken : Bool) → Takes s.cluster r (Container placed) w taken → TakesKind s r (Container placed) (record s { cluster = w; lasts = lasts }) taken
    go true its = kind-taken s r told (Container placed) tt its.sound w its.config (its.told refl) s.partitions told.partitions s.maxima told.maxima lasts last
    go false its =
        subst (λ (lasts : List ℕ). TakesKind s r (Container placed) (record s { cluster = w; lasts = lasts }) false)
        (sym told.lasts ∙ ap (λ (w : ClusterView). map last_of (state_in w).partitions) (sym (its.same refl)) ∙ last)
        (kind-off s r told (Container placed) w its)

-- a line by which nothing changes is taken where it goes with those before it
pub still-told : (t : Telling) (r : Restored) → Tells t r → (line other : StateLine) → other ≡ line → IsSizedLine line → partitions_of line ≡ [] → maxima_of line ≡ []
    → ((s : State) → with_line line s ≡ s) → (taken : Bool) → is_sound_line t.cluster.config r line ≡ taken → TakesKind t r other t taken
still-told t r h line other same sized no-partition no-maximum still taken sound =
    subst (λ (line : StateLine). TakesKind t r line t taken) (sym same)
    (plain-kind t r h line sized no-partition no-maximum (ap (λ (s : State). s.partitions) (still (state_in t.cluster))) t.cluster taken
    (record { sound = sound; config = refl; told = λ e. sym (still (state_in t.cluster)); same = λ e. refl }))
