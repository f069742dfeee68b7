-- Containers stand on nodes that are there, and no node is overfull.
use Rattle.std.proofs.Common.{◌≡◌, inl, inr, ℕ, Bool, true, false, cond, not, ◌&&◌, List, [], ◌∷◌, ◌++◌, map, Option, Some, None, filter, find, refl, sym, ap, subst, ◌∙◌, arith, append-nil}
use Rattle.std.specs.Prelude.{IfSome}
use Rattle.std.specs.List.{AllByRecursion}
use Rattle.std.specs.Option.{option_map_or, option_or}
use Rattle.std.proofs.lemmas.Bool.Decides.{nat_tests}
use mathlib.Core.Bool.{true≢false}
use Rattle.ynl_resource.specs.Amounts.{plus, less, fits_in}
use Rattle.ynl_resource.specs.declared.amounts.Resource.{Resource}
use Rattle.ynl_resource.specs.Names.{same_name, same_label}
use Rattle.ynl_resource.specs.declared.names.Name.{Name}
use Rattle.ynl_resource.specs.declared.labels.Label.{Label}
use Rattle.ynl_model.specs.Queues.{Config}
use Rattle.ynl_model.specs.Cluster.{Partition, is_partition, in_partition, sizes, free, no_containers, opening}
use Rattle.ynl_model.specs.declared.containers.Placed.{Placed as Container}
use Rattle.ynl_model.specs.Changes.{node_joins, node_leaves, changed_at, container_of, place, end}
use Rattle.ynl_model.specs.Events.{after}
use Rattle.ynl_model.specs.declared.events.Event.{Event}
use Rattle.ynl_model.specs.View.{tracked, joined, dropped}
use Rattle.ynl_model.specs.declared.nodes.Tracked.{Tracked}
use Rattle.ynl_model.specs.Promises.{without_stamp}
use Rattle.ynl_laws.specs.Working.{Apart, places, on_in, StandsOn, filled, Housed, IsHoused}
use Rattle.ynl_laws.proofs.Soundness.Tracked.{joins-is, leaves-is, place-same, end-same}
use Rattle.ynl_laws.proofs.Amounts.{fits-trans, total-append}
use Rattle.ynl_laws.proofs.Events.Kept.{by-row}
use Rattle.ynl_laws.proofs.Limits.Within.{fewer-in, fewer-filter}
use Rattle.ynl_laws.proofs.Soundness.Apart.{FindsItself, each-itself}
use Rattle.ynl_laws.proofs.Soundness.Steps.{Stays, always}
use Rattle.ynl_laws.proofs.Soundness.Ordered.{ticked, EitherWay, either-way, opening-empty}
use Rattle.ynl_laws.proofs.Lists.{Each-filter, Each-append, Each-kept, Each-weaker, Each-with, Each-found, find-filter, filter-nothing}
use Rattle.ynl_laws.proofs.Logic.{not-true, some-same}
use Rattle.ynl_laws.proofs.Names.{same-name_sym, same-label_path, same-label_self}
use Rattle.std.proofs.lemmas.Bool.{and_parts}
use Rattle.std.proofs.lemmas.List.Folds.{find-append}
use Rattle.std.proofs.lemmas.List.Elements.{filter-append}

-- ---- a node joins

found-later : (test : Tracked → Bool) (p : Label) (nodes more : List Tracked) → option_map_or (λ node. same_label node.label p) (find test nodes) false ≡ true → option_map_or (λ node. same_label node.label p) (find test (nodes ++ more)) false ≡ true
found-later test p nodes more h = go (find test nodes) refl h
  where
    go : (o : Option Tracked) → find test nodes ≡ o → option_map_or (λ node. same_label node.label p) o false ≡ true → option_map_or (λ node. same_label node.label p) (find test (nodes ++ more)) false ≡ true
    go None e h = absurd (true≢false (sym h))
    go (Some node) e h = ap (λ o. option_map_or (λ node. same_label node.label p) o false) (find-append test nodes more ∙ ap (λ found. option_or found (find test more)) e) ∙ h

-- a tick that changes no container
same-on : (label p : Label) (new : ℕ) (rows : List Partition) → on_in (ticked label new (λ containers. containers) rows) p ≡ on_in rows p
same-on label p new rows = go (either-way label p new (λ containers. containers) rows)
  where
    go : EitherWay label p new (λ containers. containers) rows → on_in (ticked label new (λ containers. containers) rows) p ≡ on_in rows p
    go (inl k) = k.1
    go (inr k) = k.2

housed-joins : (nodes : List Tracked) (rows : List Partition) (name : Name) (label : Label) (size : Resource) (new : ℕ) → Housed nodes rows → tracked nodes name ≡ None → Housed (joined nodes name label size) (ticked label new (λ containers. containers) rows)
housed-joins nodes rows name label size new h none = record {
  standing = λ p. subst (AllByRecursion (StandsOn (joined nodes name label size) p)) (sym (same-on label p new rows))
      (Each-weaker _ _ (λ container k. found-later (λ node. same_name node.name container.node) p nodes _ k) (on_in rows p) (h.standing p));
  room = Each-append _ nodes _
      (Each-weaker _ _ (λ node k. subst (λ containers. fits_in (filled containers node.name) node.size ≡ true) (sym (same-on label node.label new rows)) k) nodes h.room)
      (subst (λ containers. fits_in (filled containers name) size ≡ true) (sym (same-on label label new rows)) (subst (λ xs. fits_in (sizes xs) size ≡ true) (sym empty) (grind (arith, nat_tests))), tt);
}
  where
    go : (container : Container) → StandsOn nodes label container → (b : Bool) → same_name container.node name ≡ b → same_name container.node name ≡ false
    go container k false e = e
    go container k true e = absurd (true≢false (sym k ∙ ap (λ o. option_map_or (λ node. same_label node.label label) o false) (ap (tracked nodes) (same-name_sym container.node name e) ∙ none)))

    empty : filter (λ container. same_name container.node name) (on_in rows label) ≡ []
    empty = filter-nothing _ (on_in rows label) (Each-weaker _ _ (λ container k. go container k (same_name container.node name) refl) (on_in rows label) (h.standing label))

-- ---- a node leaves

away : (nodes : List Tracked) (node : Tracked) (p : Label) (container : Container) → same_name container.node node.name ≡ false → StandsOn nodes p container → StandsOn (dropped nodes node) p container
away nodes node p container off k =
    ap (λ o. option_map_or (λ node. same_label node.label p) o false) (find-filter (λ other. same_name other.name container.node) (λ other. not (same_name other.name node.name && same_label other.label node.label))
    (λ other e. go other e (same_name other.name node.name && same_label other.label node.label) refl) nodes) ∙ k
  where
    go : (other : Tracked) → same_name other.name container.node ≡ true → (b : Bool) → (same_name other.name node.name && same_label other.label node.label) ≡ b → not b ≡ true
    go other e false f = refl
    go other e true f = absurd (true≢false (sym (and_parts _ _ f).0 ∙ ap (λ n. same_name n node.name) (same-name_sym other.name container.node e) ∙ off))

housed-leaves : (nodes : List Tracked) (rows : List Partition) (node : Tracked) → Housed nodes rows → tracked nodes node.name ≡ Some node →
    Housed (dropped nodes node) (in_partition node.label (λ row. record row { containers = filter (λ container. not (same_name container.node node.name)) row.containers }) rows)
housed-leaves nodes rows node h found = record {
  standing = λ p. by-row (λ a b. AllByRecursion (StandsOn nodes p) a → AllByRecursion (StandsOn (dropped nodes node) p) b) (λ row. row.containers) [] node.label p fewer (λ row. refl) rows
      (λ row _ e. go p row e (same_label row.label node.label) refl) (λ k. tt) (h.standing p);
  room = Each-filter _ _ nodes (Each-weaker _ _ (λ other k. fits-trans (filled (on_in (in_partition node.label fewer rows) other.label) other.name) (filled (on_in rows other.label) other.name) other.size
      (fewer-in rows node.label other.label fewer (λ row. refl) (λ row. fewer-filter _ row.containers) (λ container. same_name container.node other.name)) k) nodes h.room);
}
  where
    fewer : Partition → Partition
    fewer row = record row { containers = filter (λ container. not (same_name container.node node.name)) row.containers }

    off : (p : Label) (row : Partition) → same_label row.label p ≡ true → same_label row.label node.label ≡ false → (container : Container) → StandsOn nodes p container → (b : Bool) → same_name container.node node.name ≡ b → same_name container.node node.name ≡ false
    off p row e f container k false g = g
    off p row e f container k true g =
        let at : same_label node.label p ≡ true = sym (ap (λ o. option_map_or (λ node. same_label node.label p) o false) (ap (tracked nodes) (same-name_sym container.node node.name g) ∙ found)) ∙ k in
        absurd (true≢false (sym (same-label_self node.label) ∙ ap (λ l. same_label l node.label) (same-label_path node.label p at ∙ sym (same-label_path row.label p e)) ∙ f))

    go : (p : Label) (row : Partition) → same_label row.label p ≡ true → (b : Bool) → same_label row.label node.label ≡ b → AllByRecursion (StandsOn nodes p) row.containers → AllByRecursion (StandsOn (dropped nodes node) p) (cond b (fewer row) row).containers
    go p row e true f k = Each-kept _ _ row.containers (Each-weaker _ _ (λ container st kept. away nodes node p container (not-true _ kept) st) row.containers k)
    go p row e false f k = Each-weaker _ _ (λ container st. away nodes node p container (off p row e f container st (same_name container.node node.name) refl) st) row.containers k

-- ---- containers end and are placed

housed-ends : (nodes : List Tracked) (rows : List Partition) (label : Label) (new : ℕ) (f : Container → Bool) → Housed nodes rows → Housed nodes (ticked label new (filter f) rows)
housed-ends nodes rows label new f h = record {
  standing = λ p. go p (either-way label p new (filter f) rows);
  room = Each-weaker _ _ (λ node k. fits-trans (filled (on_in (ticked label new (filter f) rows) node.label) node.name) (filled (on_in rows node.label) node.name) node.size
      (fewer-in rows label node.label _ (λ row. refl) (λ row. fewer-filter f row.containers) (λ container. same_name container.node node.name)) k) nodes h.room;
}
  where
    go : (p : Label) → EitherWay label p new (filter f) rows → AllByRecursion (StandsOn nodes p) (on_in (ticked label new (filter f) rows) p)
    go p (inl k) = subst (AllByRecursion (StandsOn nodes p)) (sym k.1) (h.standing p)
    go p (inr k) = subst (AllByRecursion (StandsOn nodes p)) (sym k.2) (Each-filter _ f (on_in rows p) (h.standing p))

fits-both : (used item size : Resource) → fits_in used size ≡ true → fits_in item (less size used) ≡ true → fits_in (plus used item) size ≡ true
fits-both used item size h k = grind (arith, nat_tests)

housed-placed : (nodes : List Tracked) (rows : List Partition) (node : Tracked) (container : Container) (new : ℕ) → Housed nodes rows → Apart nodes → tracked nodes node.name ≡ Some node → container.node ≡ node.name →
    fits_in container.size (less node.size (filled (on_in rows node.label) node.name)) ≡ true → Housed nodes (ticked node.label new (λ containers. containers ++ container ∷ []) rows)
housed-placed nodes rows node container new h apart found on room = record {
  standing = λ p. go p (either-way node.label p new adds rows);
  room = Each-with (FindsItself nodes) _ _ (λ other self k. fill other self k (either-way node.label other.label new adds rows)) nodes (each-itself nodes apart) h.room;
}
  where
    adds : List Container → List Container
    adds containers = containers ++ container ∷ []

    go : (p : Label) → EitherWay node.label p new adds rows → AllByRecursion (StandsOn nodes p) (on_in (ticked node.label new adds rows) p)
    go p (inl k) = subst (AllByRecursion (StandsOn nodes p)) (sym k.1) (h.standing p)
    go p (inr k) = subst (AllByRecursion (StandsOn nodes p)) (sym k.2) (Each-append (StandsOn nodes p) (on_in rows p) (container ∷ []) (h.standing p)
        (ap (λ o. option_map_or (λ node. same_label node.label p) o false) (ap (tracked nodes) on ∙ found) ∙ ap (same_label node.label) (sym k.0) ∙ same-label_self node.label, tt))

    more : (other : Tracked) → FindsItself nodes other → fits_in (filled (on_in rows other.label) other.name) other.size ≡ true → (b : Bool) → same_name container.node other.name ≡ b →
        fits_in (sizes (filter (λ container. same_name container.node other.name) (on_in rows other.label) ++ cond b (container ∷ []) [])) other.size ≡ true
    more other self k false e = subst (λ xs. fits_in (sizes xs) other.size ≡ true) (sym (append-nil _)) k
    more other self k true e =
        let same : node ≡ other = some-same node other (tracked nodes other.name) (ap (tracked nodes) (sym (same-name_sym container.node other.name e) ∙ on) ∙ found) self in
        subst (λ t. fits_in t other.size ≡ true) (sym (total-append (λ container. container.size) (filter (λ container. same_name container.node other.name) (on_in rows other.label)) container))
        (fits-both (filled (on_in rows other.label) other.name) container.size other.size k (subst (λ n. fits_in container.size (less n.size (filled (on_in rows n.label) n.name)) ≡ true) same room))

    fill : (other : Tracked) → FindsItself nodes other → fits_in (filled (on_in rows other.label) other.name) other.size ≡ true → EitherWay node.label other.label new adds rows →
        fits_in (filled (on_in (ticked node.label new adds rows) other.label) other.name) other.size ≡ true
    fill other self k (inl same) = subst (λ xs. fits_in (filled xs other.name) other.size ≡ true) (sym same.1) k
    fill other self k (inr here) = subst (λ xs. fits_in (filled xs other.name) other.size ≡ true) (sym here.2)
        (subst (λ xs. fits_in (sizes xs) other.size ≡ true) (sym (filter-append (λ container. same_name container.node other.name) (on_in rows other.label) (container ∷ []))) (more other self k (same_name container.node other.name) refl))

-- ---- runs

pub housed-stays : (c : Config) → Stays IsHoused c
unfolding node_joins node_leaves end place changed_at container_of free
housed-stays c = record {
  joins = λ s name label size h known none. subst (λ nodes. Housed nodes (node_joins c name label size s).partitions) (sym (joins-is c name label size s)) (housed-joins (places s) s.partitions name label size _ h none);
  leaves = λ s node h stands apart. subst (λ nodes. Housed nodes (node_leaves node s).partitions) (sym (leaves-is node s)) (housed-leaves (places s) s.partitions (without_stamp node) h stands);
  ends = λ s container h. subst (λ nodes. Housed nodes (end c s container).partitions) (sym (end-same c s container)) (housed-ends (places s) s.partitions container.id.label _ _ h);
  placed = λ s node item h kept stands apart fits fresh. subst (λ nodes. Housed nodes (place c node item s).partitions) (sym (place-same c node item s))
      (housed-placed (places s) s.partitions (without_stamp node) (container_of c s node item) _ h apart stands refl fits.room);
  elsewhere = λ s u nodes rows h. subst (λ rows. Housed (places u) rows) rows (subst (λ nodes. Housed (map without_stamp nodes) s.partitions) nodes h);
}

pub housed-opening : (c : Config) → IsHoused (opening c)
housed-opening c = record {
  standing = λ p. go p (find (is_partition p) (no_containers c.labels)) (Each-found _ (is_partition p) (no_containers c.labels) (opening-empty c.labels));
  room = tt;
}
  where
    go : (p : Label) (o : Option Partition) → IfSome o (λ row. (row.clock ≡ 0) × (row.containers ≡ [])) → AllByRecursion (StandsOn [] p) (option_map_or (λ row. row.containers) o [])
    go p None h = tt
    go p (Some row) h = subst (AllByRecursion (StandsOn [] p)) (sym h.1) tt

pub is_housed : (c : Config) (events : List Event) → IsHoused (after c (opening c) events)
is_housed c events = always IsHoused c (housed-stays c) (housed-opening c) events
