-- Nodes that join, leave and go elsewhere, as the tenant of a partition sees them.
use Rattle.std.proofs.Common.{◌≡◌, Bool, true, false, cond, not, ◌&&◌, [], ◌∷◌, length, filter, Option, Some, None, is_some, option_map, refl, sym, ap, subst, ◌∙◌}
use Rattle.std.specs.Prelude.{nat_le}
use Rattle.std.specs.Option.{option_map_or}
use mathlib.Core.Bool.{true≢false}
use Rattle.ynl_resource.specs.declared.amounts.Resource.{Resource}
use Rattle.ynl_resource.specs.Names.{same_label}
use Rattle.ynl_resource.specs.declared.names.Name.{Name}
use Rattle.ynl_resource.specs.declared.labels.Label.{Label}
use Rattle.ynl_resource.specs.declared.refusals.Refusal.TheVariants.{NoSuchLabel, NodeExists, NoSuchNode, SameLabel, PartitionFull}
use Rattle.ynl_resource.specs.Refusals.{first_that_holds}
use Rattle.ynl_model.specs.Nodes.{has_label, is_full}
use Rattle.ynl_resource.specs.Ranges.{most_nodes}
use Rattle.ynl_model.specs.declared.nodes.Node.{Node}
use Rattle.ynl_model.specs.Queues.{Config}
use Rattle.ynl_model.specs.Cluster.{State, node_of}
use Rattle.ynl_model.specs.Changes.{node_joins, node_leaves}
use Rattle.ynl_model.specs.Check.{node_that}
use Rattle.ynl_model.specs.Events.{done, where_there, accepted, reasons}
use Rattle.ynl_model.specs.declared.events.Event.TheVariants.{Register, Lost, Relabel}
use Rattle.ynl_model.specs.View.{tracked, is_in, registers, relabels, kept_if, seen_of, restrict}
use Rattle.ynl_model.specs.Promises.{without_stamp}
use Rattle.ynl_laws.specs.Working.{places}
use Rattle.ynl_laws.proofs.Events.Chosen.{none-holds}
use Rattle.ynl_laws.proofs.Soundness.Tracked.{tracked-is, there-is, full-is}
use Rattle.ynl_laws.proofs.Isolating.Mirrored.{Mirrors, joins-here, joins-there, departs-here, departs-there}
use Rattle.ynl_laws.proofs.Isolating.Firm.{Firm}
use Rattle.ynl_laws.proofs.Isolating.Follows.{Follows, Agrees, kept, unseen, there-both, there-unseen, by-place, node-in, node-gone, node-away}
use Rattle.ynl_laws.proofs.Lists.{filter-filter}
use Rattle.ynl_laws.proofs.Logic.{not-true, not-false, some-same, none-is}
use Rattle.ynl_laws.proofs.Names.{same-label_path}
use Rattle.std.proofs.lemmas.Bool.{and_parts}

module _ (c : Config) (t : Name) (p : Label) (s u : State) (firm : Firm c s) (m : Mirrors t p s u) where
  full-same : is_full s.nodes p ≡ is_full u.nodes p
  unfolding is_full
  full-same = sym (ap (λ nodes. nat_le most_nodes (length (filter (λ node. same_label node.label p) nodes))) m.nodes
      ∙ ap (λ nodes. nat_le most_nodes (length nodes)) (filter-filter (λ node. same_label node.label p) (λ node. same_label node.label p) (λ node e. e) s.nodes))

  -- ---- a node joins

  registers-is : (name : Name) (label : Label) → registers c (places s) name label ≡ (has_label c.labels label && not (is_some (node_of s name)) && not (is_full s.nodes label))
  registers-is name label = λ i. has_label c.labels label && not (there-is name s i) && not (full-is label s i)

  register-here : (name : Name) (size : Resource) → is_some (node_of s name) ≡ false → Follows c t p s u (Register name p size) (Some (Register name p size))
  unfolding reasons accepted
  register-here name size free = kept c t p s u m (Register name p size) (Register name p size)
      (λ i. first_that_holds ((NoSuchLabel, not (has_label c.labels p)) ∷ (NodeExists, (free ∙ sym (ap is_some (node-gone c t p s u m name (none-is (node_of s name) free)))) i) ∷ (PartitionFull, full-same i) ∷ []))
      (λ none. (joins-here c t p s u m name size, refl))

  pub sees-register : (name : Name) (label : Label) (size : Resource) → Follows c t p s u (Register name label size) (seen_of t p c (places s) (Register name label size))
  unfolding seen_of reasons accepted
  sees-register name label size = go (registers c (places s) name label) (same_label label p) refl refl
    where
      joins : registers c (places s) name label ≡ false → first_that_holds (reasons c s (Register name label size)) ≡ None → Mirrors t p (accepted c s (Register name label size)).state u
      joins off none =
          let all = none-holds (reasons c s (Register name label size)) none in
          absurd (true≢false (sym (registers-is name label ∙ (λ i. not-false (has_label c.labels label) all.0 i && not (all.1.0 i) && not (all.1.1.0 i))) ∙ off))

      go : (b d : Bool) → registers c (places s) name label ≡ b → same_label label p ≡ d → Follows c t p s u (Register name label size) (kept_if (b && d) (Register name label size))
      go true true e on = subst (λ l. Follows c t p s u (Register name l size) (Some (Register name l size))) (sym (same-label_path label p on))
          (register-here name size (not-true _ (and_parts (has_label c.labels label) _ (and_parts (has_label c.labels label && not (is_some (node_of s name))) _ (sym (registers-is name label) ∙ e)).0).1))
      go true false e off = unseen c t p s u m (Register name label size) (λ none. joins-there c t p s u m name label size off)
      go false d e at = unseen c t p s u m (Register name label size) (joins e)

  -- ---- a node leaves

  departs : (node : Node) → node.label ≡ p → Mirrors t p (node_leaves node s) (node_leaves node u)
  departs node here = subst (λ q. Mirrors t q s u → Mirrors t q (node_leaves node s) (node_leaves node u)) here (departs-here t node s u) m

  pub sees-lost : (name : Name) → Follows c t p s u (Lost name) (seen_of t p c (places s) (Lost name))
  unfolding seen_of reasons accepted
  sees-lost name = by-place c t p s u m name (λ b. Follows c t p s u (Lost name) (kept_if b (Lost name)))
      (λ node e here. let k = node-in c t p s u m name node here e in
      kept c t p s u m (Lost name) (Lost name) (λ i. first_that_holds ((NoSuchNode, not (is_some ((e ∙ sym k) i))) ∷ []))
      (λ none. there-both c t p s u m (node_of s name) (node_of u name) node node _ _ e k (departs node here, refl)))
      (λ node e off. unseen c t p s u m (Lost name) (λ none. there-unseen c t p s u m (node_of s name) _ (λ other f. departs-there c t p s u m other (ap (λ n. same_label n.label p) (some-same other node (node_of s name) f e) ∙ off))))
      (λ e. unseen c t p s u m (Lost name) (λ none. there-unseen c t p s u m (node_of s name) _ (λ other f. let no : is_some (node_of s name) ≡ true = ap is_some f in absurd (true≢false (sym no ∙ ap is_some e)))))

  -- ---- a node goes elsewhere

  in-is : (name : Name) (label : Label) → is_in (places s) name label ≡ node_that s name (λ node. same_label node.label label)
  in-is name label = ap (λ o. option_map_or (λ node. same_label node.label label) o false) (tracked-is name s) ∙ go (node_of s name)
    where
      go : (o : Option Node) → option_map_or (λ node. same_label node.label label) (option_map without_stamp o) false ≡ option_map_or (λ node. same_label node.label label) o false
      go None = refl
      go (Some node) = refl

  relabels-is : (name : Name) (label : Label) → relabels c (places s) name label ≡ (has_label c.labels label && is_some (node_of s name) && not (node_that s name (λ node. same_label node.label label)) && not (is_full s.nodes label))
  relabels-is name label = λ i. has_label c.labels label && there-is name s i && not (in-is name label i) && not (full-is label s i)

  -- what an accepted one tells of the label and the node
  record Moves (name : Name) (label : Label) : Type 0 where
    known : has_label c.labels label ≡ true
    there : is_some (node_of s name) ≡ true
    other : node_that s name (λ node. same_label node.label label) ≡ false
    room : is_full s.nodes label ≡ false

  moves : (name : Name) (label : Label) → relabels c (places s) name label ≡ true → Moves name label
  moves name label e =
      let all : (has_label c.labels label && is_some (node_of s name) && not (node_that s name (λ node. same_label node.label label)) && not (is_full s.nodes label)) ≡ true = sym (relabels-is name label) ∙ e in
      record {
        known = (and_parts _ _ (and_parts _ _ (and_parts _ _ all).0).0).0;
        there = (and_parts (has_label c.labels label) _ (and_parts _ _ (and_parts _ _ all).0).0).1;
        other = not-true _ (and_parts (has_label c.labels label && is_some (node_of s name)) _ (and_parts _ _ all).0).1;
        room = not-true _ (and_parts (has_label c.labels label && is_some (node_of s name) && not (node_that s name (λ node. same_label node.label label))) _ all).1;
      }

  moved : (name : Name) (label : Label) → Moves name label → first_that_holds (reasons c s (Relabel name label)) ≡ None
  unfolding reasons
  moved name label k = λ i. first_that_holds ((NoSuchLabel, not (k.known i)) ∷ (NoSuchNode, not (k.there i)) ∷ (SameLabel, k.other i) ∷ (PartitionFull, k.room i) ∷ [])

  -- it comes into the partition
  comes : (name : Name) (node : Node) → node_of s name ≡ Some node → Moves name p → Follows c t p s u (Relabel name p) (Some (Register name p node.size))
  unfolding reasons accepted
  comes name node e k =
      let off : same_label node.label p ≡ false = sym (ap (λ o. option_map_or (λ node. same_label node.label p) o false) e) ∙ k.other in
      let free : is_some (node_of u name) ≡ false = ap is_some (node-away c t p s u m firm.apart name node off e) in
      kept c t p s u m (Relabel name p) (Register name p node.size)
      (moved name p k ∙ sym (λ i. first_that_holds ((NoSuchLabel, not (k.known i)) ∷ (NodeExists, free i) ∷ (PartitionFull, (sym full-same ∙ k.room) i) ∷ [])))
      (λ none. subst (λ o. Agrees t p (where_there o s (λ node. done (node_joins c name p node.size (node_leaves node s)))) (done (node_joins (restrict c t) name p node.size u))) (sym e)
      (joins-here c t p (node_leaves node s) u (departs-there c t p s u m node off) name node.size, refl))

  -- it goes out of the partition
  goes : (name : Name) (label : Label) (node : Node) → node_of s name ≡ Some node → node.label ≡ p → same_label label p ≡ false → Moves name label → Follows c t p s u (Relabel name label) (Some (Lost name))
  unfolding reasons accepted
  goes name label node e here off k =
      let found = node-in c t p s u m name node here e in
      kept c t p s u m (Relabel name label) (Lost name)
      (moved name label k ∙ sym (λ i. first_that_holds ((NoSuchNode, not (is_some (found i))) ∷ [])))
      (λ none. there-both c t p s u m (node_of s name) (node_of u name) node node _ _ e found (joins-there c t p (node_leaves node s) (node_leaves node u) (departs node here) name label node.size off, refl))

  pub sees-relabel : (name : Name) (label : Label) → Follows c t p s u (Relabel name label) (seen_of t p c (places s) (Relabel name label))
  unfolding seen_of reasons accepted
  sees-relabel name label = go (relabels c (places s) name label) (same_label label p) refl refl
    where
      stays : relabels c (places s) name label ≡ false → first_that_holds (reasons c s (Relabel name label)) ≡ None → Mirrors t p (accepted c s (Relabel name label)).state u
      stays off none =
          let all = none-holds (reasons c s (Relabel name label)) none in
          absurd (true≢false (sym (relabels-is name label ∙ (λ i. not-false (has_label c.labels label) all.0 i && not-false (is_some (node_of s name)) all.1.0 i && not (all.1.1.0 i) && not (all.1.1.1.0 i))) ∙ off))

      into : Moves name label → same_label label p ≡ true → Follows c t p s u (Relabel name label) (option_map_or (λ found. Some (Register name p found.size)) (tracked (places s) name) None)
      into k on = subst (λ o. Follows c t p s u (Relabel name label) (option_map_or (λ found. Some (Register name p found.size)) o None)) (sym (tracked-is name s)) (at (node_of s name) refl k.there)
        where
          at : (o : Option Node) → node_of s name ≡ o → is_some (node_of s name) ≡ true → Follows c t p s u (Relabel name label) (option_map_or (λ found. Some (Register name p found.size)) (option_map without_stamp o) None)
          at None e there = absurd (true≢false (sym there ∙ ap is_some e))
          at (Some node) e there = subst (λ l. Moves name l → Follows c t p s u (Relabel name l) (Some (Register name p node.size))) (sym (same-label_path label p on)) (comes name node e) k

      out : Moves name label → same_label label p ≡ false → Follows c t p s u (Relabel name label) (kept_if (is_in (places s) name p) (Lost name))
      out k off = by-place c t p s u m name (λ b. Follows c t p s u (Relabel name label) (kept_if b (Lost name)))
          (λ node e here. goes name label node e here off k)
          (λ node e away. unseen c t p s u m (Relabel name label) (λ none. there-unseen c t p s u m (node_of s name) _ (λ other f.
          joins-there c t p (node_leaves other s) u (departs-there c t p s u m other (ap (λ n. same_label n.label p) (some-same other node (node_of s name) f e) ∙ away)) name label other.size off)))
          (λ e. absurd (true≢false (sym k.there ∙ ap is_some e)))

      go : (b d : Bool) → relabels c (places s) name label ≡ b → same_label label p ≡ d →
          Follows c t p s u (Relabel name label) (cond b (cond d (option_map_or (λ found. Some (Register name p found.size)) (tracked (places s) name) None) (kept_if (is_in (places s) name p) (Lost name))) None)
      go true true e on = into (moves name label e) on
      go true false e off = out (moves name label e) off
      go false d e at = unseen c t p s u m (Relabel name label) (stays e)
