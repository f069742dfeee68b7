-- Clocks and stamps stay within their limits, and the ids of a partition rise along its containers.
use Rattle.std.proofs.Common.{◌≡◌, ◌⊎◌, inl, inr, ℕ, ◌+◌, ◌≤◌, ◌<◌, Bool, true, false, cond, List, [], ◌∷◌, ◌++◌, map, Option, Some, None, is_some, option_map, filter, find, refl, sym, ap, subst, ◌∙◌, arith, le_refl, le_trans}
use Rattle.std.specs.Prelude.{⊤, IfSome, nat_le, nat_lt, if◌then◌else◌}
use Rattle.std.specs.List.{AllByRecursion}
use Rattle.std.specs.Option.{option_map_or}
use Rattle.std.proofs.lemmas.Bool.Decides.{nat_tests}
use mathlib.Core.Bool.{true≢false}
use Rattle.ynl_resource.specs.declared.amounts.Resource.{Resource}
use Rattle.ynl_resource.specs.Names.{same_name, same_label}
use Rattle.ynl_resource.specs.declared.names.Name.{Name}
use Rattle.ynl_resource.specs.declared.labels.Label.{Label}
use Rattle.ynl_resource.specs.declared.labels.Label.TheVariants.{Unlabelled, Named}
use Rattle.ynl_model.specs.Nodes.{Labels, has_label, clock_limit, partition_labels, rises, is_at, stamped, joined, left}
use Rattle.ynl_model.specs.declared.labels.LabelRow.{LabelRow}
use Rattle.ynl_model.specs.declared.nodes.Node.{Node}
use Rattle.ynl_model.specs.Queues.{Config}
use Rattle.ynl_model.specs.Cluster.{Partition, is_partition, in_partition, clock, next_clock, is_spent, no_containers, opening}
use Rattle.ynl_model.specs.declared.containers.Placed.{Placed as Container}
use Rattle.ynl_model.specs.Changes.{node_joins, node_leaves, changed_at, container_of, place, end}
use Rattle.ynl_model.specs.Events.{after}
use Rattle.ynl_model.specs.declared.events.Event.{Event}
use Rattle.ynl_laws.specs.Working.{on_in, clock_in, has_row, EachFound, Numbered, Ordered, IsOrdered}
use Rattle.ynl_laws.proofs.Events.Kept.{by-row}
use Rattle.ynl_laws.proofs.Soundness.Steps.{Stays, always}
use Rattle.ynl_laws.proofs.Lists.{Each-filter, Each-append, Each-map, Each-all, Each-weaker, Each-found, found-passes, find-through, Pairs-filter, Pairs-last, keyed-update, keyed-made}
use Rattle.ynl_laws.proofs.Names.{same-label_path, same-label_self}
use Rattle.std.proofs.lemmas.Bool.{and_parts}

-- ---- one partition changes

-- a change of clock and containers
abbrev pub with_both : ℕ → (List Container → List Container) → Partition → Partition
with_both new change row = record row { clock = new; containers = change row.containers }

abbrev pub ticked : Label → ℕ → (List Container → List Container) → List Partition → List Partition
ticked label new change rows = in_partition label (with_both new change) rows

through : (label p : Label) (change : Partition → Partition) → ((row : Partition) → (change row).label ≡ row.label) → (rows : List Partition) →
    find (is_partition p) (in_partition label change rows) ≡ option_map (λ row. if same_label row.label label then change row else row) (find (is_partition p) rows)
through label p change keeps rows = find-through (λ row. if same_label row.label label then change row else row) (is_partition p)
    (λ row. elim (same_label row.label label) as (λ b. same_label (cond b (change row) row).label p ≡ same_label row.label p) [ true ↦ ap (λ l. same_label l p) (keeps row) | false ↦ refl ]) rows

abbrev pub EitherWay : Label → Label → ℕ → (List Container → List Container) → List Partition → Type 0
EitherWay label p new change rows =
    ((clock_in (ticked label new change rows) p ≡ clock_in rows p) × (on_in (ticked label new change rows) p ≡ on_in rows p))
    ⊎ ((label ≡ p) × (clock_in (ticked label new change rows) p ≡ new) × (on_in (ticked label new change rows) p ≡ change (on_in rows p)))

-- a partition is as it was, or it is the one that is changed
pub either-way : (label p : Label) (new : ℕ) (change : List Container → List Container) (rows : List Partition) → EitherWay label p new change rows
either-way label p new change rows =
    go (find (is_partition p) rows) (found-passes (is_partition p) rows) (find (is_partition p) (ticked label new change rows)) (through label p (with_both new change) (λ row. refl) rows)
  where
    go : (o : Option Partition) → IfSome o (λ row. same_label row.label p ≡ true) → (n : Option Partition) → n ≡ option_map (λ row. if same_label row.label label then with_both new change row else row) o →
        ((option_map_or (λ row. row.clock) n 0 ≡ option_map_or (λ row. row.clock) o 0) × (option_map_or (λ row. row.containers) n [] ≡ option_map_or (λ row. row.containers) o []))
        ⊎ ((label ≡ p) × (option_map_or (λ row. row.clock) n 0 ≡ new) × (option_map_or (λ row. row.containers) n [] ≡ change (option_map_or (λ row. row.containers) o [])))
    go None at n q = inl (ap (λ o. option_map_or (λ row. row.clock) o 0) q, ap (λ o. option_map_or (λ row. row.containers) o []) q)
    go (Some row) at n q = by (same_label row.label label) refl
      where
        by : (b : Bool) → same_label row.label label ≡ b →
            ((option_map_or (λ row. row.clock) n 0 ≡ row.clock) × (option_map_or (λ row. row.containers) n [] ≡ row.containers))
            ⊎ ((label ≡ p) × (option_map_or (λ row. row.clock) n 0 ≡ new) × (option_map_or (λ row. row.containers) n [] ≡ change row.containers))
        by true e =
            let same : n ≡ Some (with_both new change row) = q ∙ (λ i. Some (cond (e i) (with_both new change row) row)) in
            inr (sym (same-label_path row.label label e) ∙ same-label_path row.label p at, ap (λ o. option_map_or (λ row. row.clock) o 0) same, ap (λ o. option_map_or (λ row. row.containers) o []) same)
        by false e =
            let same : n ≡ Some row = q ∙ (λ i. Some (cond (e i) (with_both new change row) row)) in
            inl (ap (λ o. option_map_or (λ row. row.clock) o 0) same, ap (λ o. option_map_or (λ row. row.containers) o []) same)

row-stays : (label p : Label) (change : Partition → Partition) → ((row : Partition) → (change row).label ≡ row.label) → (rows : List Partition) → has_row (in_partition label change rows) p ≡ has_row rows p
row-stays label p change keeps rows = by-row (λ a b. b ≡ a) (λ row. true) false label p change keeps rows (λ row _ e. refl) refl

-- the clock of a partition that is there shows the new value
shows : (label : Label) (new : ℕ) (change : List Container → List Container) (rows : List Partition) → has_row rows label ≡ true → clock_in (ticked label new change rows) label ≡ new
shows label new change rows there =
    go (find (is_partition label) rows) there (found-passes (is_partition label) rows) (find (is_partition label) (ticked label new change rows)) (through label label (with_both new change) (λ row. refl) rows)
  where
    go : (o : Option Partition) → option_map_or (λ row. true) o false ≡ true → IfSome o (λ row. same_label row.label label ≡ true) → (n : Option Partition) →
        n ≡ option_map (λ row. if same_label row.label label then with_both new change row else row) o → option_map_or (λ row. row.clock) n 0 ≡ new
    go None there at n q = absurd (true≢false (sym there))
    go (Some row) there at n q = ap (λ o. option_map_or (λ row. row.clock) o 0) (q ∙ (λ i. Some (cond (at i) (with_both new change row) row)))

-- ---- clocks

rises-more : (limit value : ℕ) → value ≤ rises limit value
rises-more limit value = go (nat_lt value limit)
  where
    go : (b : Bool) → value ≤ cond b (value + 1) value
    go true = grind (arith)
    go false = le_refl value

rises-within : (limit value : ℕ) → value ≤ limit → rises limit value ≤ limit
rises-within limit value h = go (nat_lt value limit) refl
  where
    go : (b : Bool) → nat_lt value limit ≡ b → cond b (value + 1) value ≤ limit
    go true e = grind (arith, nat_tests, e)
    go false e = h

rises-above : (limit value : ℕ) → nat_le limit value ≡ false → value < rises limit value
rises-above limit value h = go (nat_lt value limit) refl
  where
    go : (b : Bool) → nat_lt value limit ≡ b → value < cond b (value + 1) value
    go true e = grind (arith)
    go false e = absurd (grind (arith, nat_tests, h, e))

-- ---- what stays

-- rows that are changed are still found by their labels
found-stays : (label : Label) (change : Partition → Partition) → ((row : Partition) → (change row).label ≡ row.label) → (rows : List Partition) → EachFound rows → EachFound (in_partition label change rows)
found-stays label change keeps rows h = keyed-update same_label (λ row. row.label) (is_partition label) change keeps rows h

numbered-more : (p : Label) (old new : ℕ) (containers : List Container) → old ≤ new → Numbered p old containers → Numbered p new containers
numbered-more p old new containers more h = record { own = Each-weaker _ _ (λ container k. (k.0, le_trans k.1 more)) containers h.own; rising = h.rising }

numbered-filter : (p : Label) (shown : ℕ) (f : Container → Bool) (containers : List Container) → Numbered p shown containers → Numbered p shown (filter f containers)
numbered-filter p shown f containers h = record { own = Each-filter _ f containers h.own; rising = Pairs-filter _ f containers h.rising }

numbered-last : (p : Label) (old new : ℕ) (container : Container) (containers : List Container) → old < new → container.id.label ≡ p → container.id.clock ≡ new → Numbered p old containers → Numbered p new (containers ++ container ∷ [])
numbered-last p old new container containers less label e h = record {
  own = Each-append _ containers (container ∷ []) (numbered-more p old new containers (grind (arith, less)) h).own ((label, subst (λ n. n ≤ new) (sym e) (le_refl new)), tt);
  rising = Pairs-last _ containers container h.rising (Each-weaker _ _ (λ other k. subst (λ n. other.id.clock < n) (sym e) (below k.1)) containers h.own);
}
  where
    below : {n : ℕ} → n ≤ old → n < new
    below k = grind (arith, less, k)

module _ (c : Config) (nodes : List Node) (rows : List Partition) (h : Ordered c nodes rows) (label : Label) (change : List Container → List Container) where
  abbrev next : ℕ
  next = rises (clock_limit c.labels label) (clock_in rows label)

  tick-there : (p : Label) → has_label c.labels p ≡ true → has_row (ticked label next change rows) p ≡ true
  tick-there p known = row-stays label p (with_both next change) (λ row. refl) rows ∙ h.there p known

  tick-clocks : (p : Label) → clock_in (ticked label next change rows) p ≤ clock_limit c.labels p
  tick-clocks p = go (either-way label p next change rows)
    where
      go : EitherWay label p next change rows → clock_in (ticked label next change rows) p ≤ clock_limit c.labels p
      go (inl k) = subst (λ n. n ≤ clock_limit c.labels p) (sym k.0) (h.clocks p)
      go (inr k) = subst (λ n. n ≤ clock_limit c.labels p) (sym k.1) (subst (λ l. next ≤ clock_limit c.labels l) k.0 (rises-within _ _ (h.clocks label)))

  tick-more : (p : Label) → clock_in rows p ≤ clock_in (ticked label next change rows) p
  tick-more p = go (either-way label p next change rows)
    where
      go : EitherWay label p next change rows → clock_in rows p ≤ clock_in (ticked label next change rows) p
      go (inl k) = subst (λ n. clock_in rows p ≤ n) (sym k.0) (le_refl (clock_in rows p))
      go (inr k) = subst (λ n. clock_in rows p ≤ n) (sym k.1) (subst (λ l. clock_in rows l ≤ next) k.0 (rises-more (clock_limit c.labels label) (clock_in rows label)))

  tick-ids : (Numbered label (clock_in rows label) (on_in rows label) → Numbered label next (change (on_in rows label))) → (p : Label) → Numbered p (clock_in (ticked label next change rows) p) (on_in (ticked label next change rows) p)
  tick-ids keeps p = go (either-way label p next change rows)
    where
      go : EitherWay label p next change rows → Numbered p (clock_in (ticked label next change rows) p) (on_in (ticked label next change rows) p)
      go (inl k) = subst (λ n. Numbered p n (on_in (ticked label next change rows) p)) (sym k.0) (subst (Numbered p (clock_in rows p)) (sym k.1) (h.ids p))
      go (inr k) = subst (λ n. Numbered p n (on_in (ticked label next change rows) p)) (sym k.1)
          (subst (Numbered p next) (sym k.2) (subst (λ l. Numbered l next (change (on_in rows l))) k.0 (keeps (h.ids label))))

  tick-stamp : (node : Node) → (has_row rows node.label ≡ true) × (node.stamp ≤ clock_in rows node.label) → (has_row (ticked label next change rows) node.label ≡ true) × (node.stamp ≤ clock_in (ticked label next change rows) node.label)
  tick-stamp node k = (row-stays label node.label (with_both next change) (λ row. refl) rows ∙ k.0, le_trans k.1 (tick-more node.label))

  new-stamp : has_row rows label ≡ true → (has_row (ticked label next change rows) label ≡ true) × (next ≤ clock_in (ticked label next change rows) label)
  new-stamp there = (row-stays label label (with_both next change) (λ row. refl) rows ∙ there, subst (λ n. next ≤ n) (sym (shows label next change rows there)) (le_refl next))

  tick-joins : (name : Name) (size : Resource) → has_label c.labels label ≡ true → (Numbered label (clock_in rows label) (on_in rows label) → Numbered label next (change (on_in rows label))) →
      Ordered c (joined (record { name = name; label = label; size = size; stamp = next }) nodes) (ticked label next change rows)
  unfolding joined
  tick-joins name size known keeps = record {
    there = tick-there;
    clocks = tick-clocks;
    stamps = Each-append _ nodes _ (Each-weaker _ _ tick-stamp nodes h.stamps) (new-stamp (h.there label known), tt);
    ids = tick-ids keeps;
    found = found-stays label (with_both next change) (λ row. refl) rows h.found;
  }

  tick-at : (name : Name) → (Numbered label (clock_in rows label) (on_in rows label) → Numbered label next (change (on_in rows label))) → Ordered c (stamped name label next nodes) (ticked label next change rows)
  unfolding stamped
  tick-at name keeps = record {
    there = tick-there;
    clocks = tick-clocks;
    stamps = Each-map _ _ (λ node. if is_at name label node then record node { stamp = next } else node) (λ node k. go node k (is_at name label node) refl) nodes h.stamps;
    ids = tick-ids keeps;
    found = found-stays label (with_both next change) (λ row. refl) rows h.found;
  }
    where
      go : (node : Node) → (has_row rows node.label ≡ true) × (node.stamp ≤ clock_in rows node.label) → (b : Bool) → is_at name label node ≡ b →
          (has_row (ticked label next change rows) (cond b (record node { stamp = next }) node).label ≡ true) × ((cond b (record node { stamp = next }) node).stamp ≤ clock_in (ticked label next change rows) (cond b (record node { stamp = next }) node).label)
      go node k false e = tick-stamp node k
      go node k true e =
          let same : label ≡ node.label = sym (same-label_path node.label label (and_parts (same_name node.name name) _ e).1) in
          subst (λ l. (has_row (ticked label next change rows) l ≡ true) × (next ≤ clock_in (ticked label next change rows) l)) same (new-stamp (subst (λ l. has_row rows l ≡ true) (sym same) k.0))

ordered-leaves : (c : Config) (nodes : List Node) (rows : List Partition) (label : Label) (f : Container → Bool) (g : Node → Bool) → Ordered c nodes rows →
    Ordered c (filter g nodes) (in_partition label (λ row. record row { containers = filter f row.containers }) rows)
ordered-leaves c nodes rows label f g h = record {
  there = λ p known. row-stays label p fewer (λ row. refl) rows ∙ h.there p known;
  clocks = λ p. subst (λ n. n ≤ clock_limit c.labels p) (sym (same p)) (h.clocks p);
  stamps = Each-filter _ g nodes (Each-weaker _ _ (λ node k. (row-stays label node.label fewer (λ row. refl) rows ∙ k.0, subst (λ n. node.stamp ≤ n) (sym (same node.label)) k.1)) nodes h.stamps);
  ids = λ p. subst (λ n. Numbered p n (on_in (in_partition label fewer rows) p)) (sym (same p))
      (by-row (λ a b. Numbered p (clock_in rows p) a → Numbered p (clock_in rows p) b) (λ row. row.containers) [] label p fewer (λ row. refl) rows (λ row _ e. go p row (same_label row.label label)) (λ k. k) (h.ids p));
  found = found-stays label fewer (λ row. refl) rows h.found;
}
  where
    fewer : Partition → Partition
    fewer row = record row { containers = filter f row.containers }

    same : (p : Label) → clock_in (in_partition label fewer rows) p ≡ clock_in rows p
    same p = by-row (λ a b. b ≡ a) (λ row. row.clock) 0 label p fewer (λ row. refl) rows (λ row _ e. elim (same_label row.label label) as (λ b. (cond b (fewer row) row).clock ≡ row.clock) [ true ↦ refl | false ↦ refl ]) refl

    go : (p : Label) (row : Partition) (b : Bool) → Numbered p (clock_in rows p) row.containers → Numbered p (clock_in rows p) (cond b (fewer row) row).containers
    go p row true k = numbered-filter p (clock_in rows p) f row.containers k
    go p row false k = k

-- ---- each change

pub ordered-stays : (c : Config) → Stays (IsOrdered c) c
unfolding node_joins node_leaves left end place changed_at next_clock clock is_spent container_of
ordered-stays c = record {
  joins = λ s name label size h known free. tick-joins c s.nodes s.partitions h label (λ containers. containers) name size known (numbered-more label _ _ (on_in s.partitions label) (rises-more _ _));
  leaves = λ s node h stands apart. ordered-leaves c s.nodes s.partitions node.label _ _ h;
  ends = λ s container h. tick-at c s.nodes s.partitions h container.id.label _ container.node
      (λ k. numbered-filter container.id.label _ _ (on_in s.partitions container.id.label) (numbered-more container.id.label _ _ (on_in s.partitions container.id.label) (rises-more _ _) k));
  placed = λ s node item h kept stands apart fits fresh. tick-at c s.nodes s.partitions h node.label _ node.name
      (λ k. numbered-last node.label _ _ (container_of c s node item) (on_in s.partitions node.label) (rises-above _ _ fresh) refl refl k);
  elsewhere = λ s u nodes rows h. subst (λ rows. Ordered c u.nodes rows) rows (subst (λ nodes. Ordered c nodes s.partitions) nodes h);
}

-- ---- runs

-- a partition's row at first
abbrev empty_row : Label → Partition
empty_row label = record { label = label; clock = 0; containers = [] }

opening-row : (labels : List LabelRow) (name : Name) → is_some (find (λ row. same_name row.name name) labels) ≡ true →
    has_row (map (λ label. record { label = label; clock = 0; containers = [] }) (map (λ row. Named row.name) labels)) (Named name) ≡ true
opening-row [] name h = absurd (true≢false (sym h))
opening-row (row ∷ labels) name h = go (same_name row.name name) h (opening-row labels name)
  where
    go : (b : Bool) → is_some (cond b (Some row) (find (λ row. same_name row.name name) labels)) ≡ true →
        (is_some (find (λ row. same_name row.name name) labels) ≡ true → has_row (map (λ label. record { label = label; clock = 0; containers = [] }) (map (λ row. Named row.name) labels)) (Named name) ≡ true) →
        option_map_or (λ (row : Partition). true) (cond b (Some (record { label = Named row.name; clock = 0; containers = [] }))
        (find (is_partition (Named name)) (map (λ label. record { label = label; clock = 0; containers = [] }) (map (λ row. Named row.name) labels)))) false ≡ true
    go true h rest = refl
    go false h rest = rest h

opening-has : (labels : Labels) (p : Label) → has_label labels p ≡ true → has_row (no_containers labels) p ≡ true
opening-has labels Unlabelled known = refl
opening-has labels (Named name) known = opening-row labels.rows name known

pub opening-empty : (labels : Labels) → AllByRecursion (λ row. (row.clock ≡ 0) × (row.containers ≡ [])) (no_containers labels)
opening-empty labels = Each-map (λ (label : Label). ⊤) _ _ (λ label _. (refl, refl)) (partition_labels labels) (Each-all (λ (label : Label). ⊤) (λ label. tt) (partition_labels labels))

pub ordered-opening : (c : Config) → IsOrdered c (opening c)
ordered-opening c = record {
  there = opening-has c.labels;
  clocks = λ p. clocks p (find (is_partition p) (no_containers c.labels)) (Each-found _ (is_partition p) (no_containers c.labels) (opening-empty c.labels));
  stamps = tt;
  ids = λ p. ids p (find (is_partition p) (no_containers c.labels)) (Each-found _ (is_partition p) (no_containers c.labels) (opening-empty c.labels));
  found = keyed-made same_label (λ row. row.label) empty_row same-label_self (λ a b e. ap empty_row (same-label_path a b e)) (partition_labels c.labels);
}
  where
    clocks : (p : Label) (o : Option Partition) → IfSome o (λ row. (row.clock ≡ 0) × (row.containers ≡ [])) → option_map_or (λ row. row.clock) o 0 ≤ clock_limit c.labels p
    clocks p None h = grind (arith)
    clocks p (Some row) h = subst (λ n. n ≤ clock_limit c.labels p) (sym h.0) (grind (arith))

    ids : (p : Label) (o : Option Partition) → IfSome o (λ row. (row.clock ≡ 0) × (row.containers ≡ [])) → Numbered p (option_map_or (λ row. row.clock) o 0) (option_map_or (λ row. row.containers) o [])
    ids p None h = record { own = tt; rising = tt }
    ids p (Some row) h = subst (Numbered p row.clock) (sym h.1) (record { own = tt; rising = tt })

pub is_ordered : (c : Config) (events : List Event) → IsOrdered c (after c (opening c) events)
is_ordered c events = always (IsOrdered c) c (ordered-stays c) (ordered-opening c) events
