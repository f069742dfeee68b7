-- In each state nodes are of configured partitions, with stamps from 1 that are no earlier than what stands on them, and no partition has too many.
use Rattle.std.proofs.Common.{◌≡◌, ◌≤◌, ◌<◌, ◌+◌, ℕ, Bool, true, false, cond, not, List, [], ◌∷◌, ◌++◌, length, filter, refl, sym, ap, subst, ◌∙◌, arith, append-nil, length-append, le_trans}
use Rattle.std.specs.Prelude.{nat_le, nat_lt}
use Rattle.std.specs.List.{AllByRecursion}
use Rattle.std.proofs.lemmas.Bool.Decides.{nat_tests}
use Rattle.std.proofs.lemmas.Bool.{and_from, and_parts}
use Rattle.std.proofs.lemmas.List.{length-map}
use Rattle.std.proofs.lemmas.List.Elements.{filter-append}
use Rattle.std.proofs.lemmas.List.Sums.{length-filter, count_by-le-length}
use mathlib.Core.Bool.{true≢false}
use Rattle.ynl_resource.specs.Names.{same_label, same_name, tenant_of}
use Rattle.ynl_resource.specs.Ranges.{most_nodes}
use Rattle.ynl_resource.specs.declared.labels.Label.{Label}
use Rattle.ynl_resource.specs.declared.names.Name.{Name}
use Rattle.ynl_model.specs.Changes.{all_end, all_own, app_finishes, changed_at, container_of, end, node_joins, node_leaves, place}
use Rattle.ynl_model.specs.Cluster.{State, Partition, clock, in_partition, is_spent, next_clock, opening}
use Rattle.ynl_model.specs.Nodes.{clock_limit, has_label, is_at, is_full, joined, left, nodes_of, rises, stamped}
use Rattle.ynl_model.specs.Queues.{Config}
use Rattle.ynl_model.specs.declared.containers.Placed.{Placed as Container}
use Rattle.ynl_model.specs.declared.nodes.Node.{Node}
use Rattle.ynl_laws.specs.Working.{IsOrdered, clock_in, on_in}
use Rattle.ynl_laws.proofs.Lists.{Each-append, Each-filter, Each-weaker, filter-swap, filter-update}
use Rattle.ynl_laws.proofs.Lives.Homes.{each-in, each-then, opening-each}
use Rattle.ynl_laws.proofs.Names.{same-label_path, same-label_self, same-name_self, same-name_sym}
use Rattle.ynl_saved.proofs.Changing.{Goes}
use Rattle.ynl_laws.proofs.Soundness.Ordered.{ordered-stays}
use Rattle.ynl_saved.proofs.Rows.{Each-updated}

-- what stands on a node came no later than the node's stamp says
abbrev pub IsEarlier : Node → Container → Type 0
IsEarlier node k = same_name k.node node.name ≡ true → k.id.clock ≤ node.stamp

-- what is known of nodes, their stamps, and what stands on them
pub record Stamped (c : Config) (s : State) : Type 0 where
  pub known : AllByRecursion (λ (node : Node). (has_label c.labels node.label ≡ true) × (1 ≤ node.stamp)) s.nodes
  pub counts : (p : Label) → length (nodes_of s.nodes p) ≤ most_nodes
  pub later : AllByRecursion (λ (node : Node). AllByRecursion (IsEarlier node) (on_in s.partitions node.label)) s.nodes
  pub early : (p : Label) → AllByRecursion (λ (k : Container). 1 ≤ k.id.clock) (on_in s.partitions p)

-- a clock that may move shows at least 1 then, and no less than before
some-rises : (limit value : ℕ) → 1 ≤ limit → 1 ≤ rises limit value
some-rises limit value h = go (nat_lt value limit) refl
  where
    go : (b : Bool) → nat_lt value limit ≡ b → 1 ≤ cond b (value + 1) value
    go true e = grind (arith)
    go false e = grind (arith, nat_tests, e, h)

-- a clock shows no less after it rose
more-rises : (limit value : ℕ) → value ≤ rises limit value
more-rises limit value = go (nat_lt value limit)
  where
    go : (b : Bool) → value ≤ cond b (value + 1) value
    go true = grind (arith)
    go false = grind (arith)

-- a clock that was not spent shows at least 1 after it rose
fresh-rises : (limit value : ℕ) → nat_le limit value ≡ false → 1 ≤ rises limit value
fresh-rises limit value h = go (nat_lt value limit) refl
  where
    go : (b : Bool) → nat_lt value limit ≡ b → 1 ≤ cond b (value + 1) value
    go true e = grind (arith)
    go false e = absurd (grind (arith, nat_tests, e, h))

-- ---- counts

-- a partition that is not full has a place
not-full : (n : ℕ) → nat_le most_nodes n ≡ false → n < most_nodes
not-full n h = grind (arith, nat_tests, h)

-- a node joins a partition that is not full
pub counts-joined : (nodes : List Node) (node : Node) → ((p : Label) → length (nodes_of nodes p) ≤ most_nodes) → is_full nodes node.label ≡ false → (p : Label) → length (nodes_of (nodes ++ node ∷ []) p) ≤ most_nodes
unfolding is_full
counts-joined nodes node h room p = subst (λ more. length more ≤ most_nodes) (sym (filter-append (λ other. same_label other.label p) nodes (node ∷ []))) (go (same_label node.label p) refl)
  where
    one-more : (xs : List Node) → length xs < most_nodes → length (xs ++ node ∷ []) ≤ most_nodes
    one-more xs k = omega (arith, k, length-append xs (node ∷ []))

    go : (b : Bool) → same_label node.label p ≡ b → length (nodes_of nodes p ++ cond b (node ∷ []) []) ≤ most_nodes
    go true e = one-more (nodes_of nodes p) (not-full (length (nodes_of nodes p)) (subst (λ l. nat_le most_nodes (length (nodes_of nodes l)) ≡ false) (same-label_path node.label p e) room))
    go false e = subst (λ more. length more ≤ most_nodes) (sym (append-nil (nodes_of nodes p))) (h p)

-- where nodes go no partition has more
counts-filter : (f : Node → Bool) (nodes : List Node) (p : Label) → length (nodes_of (filter f nodes) p) ≤ length (nodes_of nodes p)
counts-filter f nodes p = subst (λ few. length few ≤ length (nodes_of nodes p)) (sym (filter-swap f (λ other. same_label other.label p) nodes))
    (omega (arith, length-filter f (nodes_of nodes p), count_by-le-length f (nodes_of nodes p)))

-- a stamp changes no number of nodes
counts-stamped : (name : Name) (label : Label) (stamp : ℕ) (nodes : List Node) (p : Label) → length (nodes_of (stamped name label stamp nodes) p) ≡ length (nodes_of nodes p)
unfolding stamped
counts-stamped name label stamp nodes p =
    ap length (filter-update (λ other. same_label other.label p) (is_at name label) (λ node. record node { stamp = stamp }) (λ node. refl) nodes) ∙ length-map (nodes_of nodes p) _

-- ---- one partition and the stamp of a node change

module _ (c : Config) (limits : (label : Label) → has_label c.labels label ≡ true → 1 ≤ clock_limit c.labels label) where
  -- what was there is no later than the clock that has risen
  below-next : (s : State) → IsOrdered c s → (label : Label) → AllByRecursion (λ (k : Container). k.id.clock ≤ rises (clock_limit c.labels label) (clock_in s.partitions label)) (on_in s.partitions label)
  below-next s ordered label = Each-weaker _ _ (λ k own. le_trans own.1 (more-rises (clock_limit c.labels label) (clock_in s.partitions label))) (on_in s.partitions label) (ordered.ids label).own

  module _ (s : State) (ordered : IsOrdered c s) (h : Stamped c s) (name : Name) (label : Label) (change : List Container → List Container) (extra : List Container)
      (grows : (P : Container → Type 0) (xs : List Container) → AllByRecursion P xs → AllByRecursion P extra → AllByRecursion P (change xs)) where
    -- what the clock shows after the change
    abbrev next : ℕ
    next = rises (clock_limit c.labels label) (clock_in s.partitions label)

    -- the partitions after the change
    abbrev rows : List Partition
    rows = in_partition label (λ row. record row { clock = next; containers = change row.containers }) s.partitions

    -- what is new stands on the node, with the clock that has risen
    abbrev IsNew : Container → Type 0
    IsNew k = (k.node ≡ name) × (k.id.clock ≡ next) × (1 ≤ next)

    -- what holds of what was there and of what is new holds of all
    grown : (P : Container → Type 0) (p : Label) → AllByRecursion P (on_in s.partitions p) → AllByRecursion P extra → AllByRecursion P (on_in rows p)
    grown P p old new = each-in P label p (λ row. record row { clock = next; containers = change row.containers }) (λ row. refl) (λ row at here k. grows P row.containers k new) s.partitions old

    -- each node is stamped no earlier than what stands on it
    later-node : AllByRecursion IsNew extra → (node : Node) → AllByRecursion (IsEarlier node) (on_in s.partitions node.label) → (t : Bool) → is_at name label node ≡ t →
        AllByRecursion (IsEarlier (cond t (record node { stamp = next }) node)) (on_in rows (cond t (record node { stamp = next }) node).label)
    later-node new node k true e =
        let at : node.label ≡ label = same-label_path node.label label (and_parts (same_name node.name name) _ e).1 in
        grown (IsEarlier (record node { stamp = next })) node.label
        (Each-weaker (λ x. x.id.clock ≤ next) (IsEarlier (record node { stamp = next })) (λ x less of. less) (on_in s.partitions node.label) (subst (λ l. AllByRecursion (λ (x : Container). x.id.clock ≤ next) (on_in s.partitions l)) (sym at) (below-next s ordered label)))
        (Each-weaker IsNew (IsEarlier (record node { stamp = next })) (λ x j of. equal x.id.clock next j.1) extra new)
      where
        equal : (m n : ℕ) → m ≡ n → m ≤ n
        equal m n e = omega (arith, e)
    later-node new node k false e =
        each-then (IsEarlier node) (IsEarlier node) label node.label (λ row. record row { clock = next; containers = change row.containers }) (λ row. refl)
        (λ row at here j. grows (IsEarlier node) row.containers j (Each-weaker IsNew (IsEarlier node) (λ x i of. absurd (true≢false (sym (hits row at here x i.0 of) ∙ e))) extra new))
        (λ row at off j. j) s.partitions k
      where
        hits : (row : Partition) → same_label row.label node.label ≡ true → same_label row.label label ≡ true → (x : Container) → x.node ≡ name → same_name x.node node.name ≡ true → is_at name label node ≡ true
        hits row at here x on of = and_from _ _
            (ap (same_name node.name) (sym on ∙ same-name_sym x.node node.name of) ∙ same-name_self node.name)
            (ap (same_label node.label) (sym (same-label_path row.label label here) ∙ same-label_path row.label node.label at) ∙ same-label_self node.label)

    -- all that stays where the containers of a partition change
    stamped-changed : AllByRecursion IsNew extra → Stamped c (changed_at c name label change s)
    unfolding changed_at stamped next_clock clock
    stamped-changed new = record {
      known = Each-updated (λ node. (has_label c.labels node.label ≡ true) × (1 ≤ node.stamp)) (λ node. (has_label c.labels node.label ≡ true) × (1 ≤ node.stamp)) (is_at name label) (λ node. record node { stamp = next })
          (λ node e k. (
            k.0,
            some-rises (clock_limit c.labels label) (clock_in s.partitions label)
                (limits label (subst (λ l. has_label c.labels l ≡ true) (same-label_path node.label label (and_parts (same_name node.name name) _ e).1) k.0)),
          ))
          (λ node e k. k) s.nodes h.known;
      counts = λ p. subst (λ n. n ≤ most_nodes) (sym (counts-stamped name label next s.nodes p)) (h.counts p);
      later = Each-updated (λ node. AllByRecursion (IsEarlier node) (on_in s.partitions node.label)) (λ node. AllByRecursion (IsEarlier node) (on_in rows node.label)) (is_at name label) (λ node. record node { stamp = next })
          (λ node e k. later-node new node k true e) (λ node e k. later-node new node k false e) s.nodes h.later;
      early = λ p. grown (λ k. 1 ≤ k.id.clock) p (h.early p) (Each-weaker IsNew (λ k. 1 ≤ k.id.clock) (λ k j. subst (λ n. 1 ≤ n) (sym j.1) j.2) extra new);
    }

  -- a container ends
  stamped-end : (s : State) (container : Container) → IsOrdered c s → Stamped c s → Stamped c (end c s container)
  unfolding end
  stamped-end s container ordered h = stamped-changed s ordered h container.node container.id.label _ [] (λ P xs k none. Each-filter P _ xs k) tt

  -- containers end one after another
  stamped-all : (list : List Container) (s : State) → IsOrdered c s → Stamped c s → Stamped c (all_end c list s)
  stamped-all [] s ordered h = h
  stamped-all (container ∷ list) s ordered h = let stays = ordered-stays c in stamped-all list (end c s container) (stays.ends s container ordered) (stamped-end s container ordered h)

  -- leaves, stops and maxima do not matter here
  pub stamped-same : (s u : State) → u.nodes ≡ s.nodes → u.partitions ≡ s.partitions → Stamped c s → Stamped c u
  stamped-same s u e f h = record {
    known = subst (AllByRecursion (λ (node : Node). (has_label c.labels node.label ≡ true) × (1 ≤ node.stamp))) (sym e) h.known;
    counts = λ p. subst (λ nodes. length (nodes_of nodes p) ≤ most_nodes) (sym e) (h.counts p);
    later = subst (λ nodes. AllByRecursion (λ (node : Node). AllByRecursion (IsEarlier node) (on_in u.partitions node.label)) nodes) (sym e)
        (subst (λ rows. AllByRecursion (λ (node : Node). AllByRecursion (IsEarlier node) (on_in rows node.label)) s.nodes) (sym f) h.later);
    early = λ p. subst (λ rows. AllByRecursion (λ (k : Container). 1 ≤ k.id.clock) (on_in rows p)) (sym f) (h.early p);
  }

  -- that stays with each change
  pub stamped-goes : Goes (Stamped c) c
  unfolding node_joins node_leaves place joined left next_clock clock app_finishes is_spent container_of
  stamped-goes = record {
    joins = λ s name label size b h known room.
        let next : ℕ = rises (clock_limit c.labels label) (clock_in s.partitions label) in
        let rows : List Partition = in_partition label (λ row. record row { clock = next }) s.partitions in
        let node : Node = record { name = name; label = label; size = size; stamp = next } in
        record {
          known = Each-append _ s.nodes (node ∷ []) h.known ((known, some-rises (clock_limit c.labels label) (clock_in s.partitions label) (limits label known)), tt);
          counts = counts-joined s.nodes node h.counts room;
          later = Each-append (λ (node : Node). AllByRecursion (IsEarlier node) (on_in rows node.label)) s.nodes (node ∷ [])
              (Each-weaker (λ node. AllByRecursion (IsEarlier node) (on_in s.partitions node.label)) _ (λ other k. each-in (IsEarlier other) label other.label (λ row. record row { clock = next }) (λ row. refl) (λ row at here j. j) s.partitions k) s.nodes h.later) (
                each-in (IsEarlier node) label label (λ row. record row { clock = next }) (λ row. refl) (λ row at here j. j) s.partitions
                    (Each-weaker (λ k. k.id.clock ≤ next) (IsEarlier node) (λ k less of. less) (on_in s.partitions label) (below-next s b.ordered label)),
                tt,
              );
          early = λ p. each-in (λ k. 1 ≤ k.id.clock) label p (λ row. record row { clock = next }) (λ row. refl) (λ row at here j. j) s.partitions (h.early p);
        };
    leaves = λ s node b h. record {
      known = Each-filter _ _ s.nodes h.known;
      counts = λ p. le_trans (counts-filter (λ other. not (is_at node.name node.label other)) s.nodes p) (h.counts p);
      later = Each-filter _ _ s.nodes (Each-weaker (λ other. AllByRecursion (IsEarlier other) (on_in s.partitions other.label)) _
          (λ other k. each-in (IsEarlier other) node.label other.label (λ row. record row { containers = filter (λ container. not (same_name container.node node.name)) row.containers }) (λ row. refl) (λ row at here j. Each-filter (IsEarlier other) _ row.containers j) s.partitions k) s.nodes h.later);
      early = λ p. each-in (λ k. 1 ≤ k.id.clock) node.label p (λ row. record row { containers = filter (λ container. not (same_name container.node node.name)) row.containers }) (λ row. refl) (λ row at here j. Each-filter (λ k. 1 ≤ k.id.clock) _ row.containers j) s.partitions (h.early p);
    };
    ends = λ s container b h. stamped-end s container b.ordered h;
    placed = λ s node item b h fits wanted served fresh.
        stamped-same (changed_at c node.name node.label (λ containers. containers ++ container_of c s node item ∷ []) s) (place c node item s) refl refl
        (stamped-changed s b.ordered h node.name node.label (λ containers. containers ++ container_of c s node item ∷ []) (container_of c s node item ∷ []) (λ P xs k new. Each-append P xs _ k new)
        ((refl, refl, fresh-rises (clock_limit c.labels node.label) (clock_in s.partitions node.label) fresh), tt));
    submits = λ s app b h comes. stamped-same s _ refl refl h;
    asks = λ s tenant name label priority count size found b h e own given few. stamped-same s _ refl refl h;
    finishes = λ s found b h. stamped-same (all_end c (all_own s (tenant_of found.leaf) found.name) s) _ refl refl (stamped-all (all_own s (tenant_of found.leaf) found.name) s b.ordered h);
    stops = λ s queue stopped h. stamped-same s _ refl refl h;
    maxima = λ s queue label share h may high. stamped-same s _ refl refl h;
  }

  -- it holds at first
  pub stamped-opening : Stamped c (opening c)
  stamped-opening = record { known = tt; counts = λ p. omega arith; later = tt; early = λ p. opening-each _ c.labels p }
