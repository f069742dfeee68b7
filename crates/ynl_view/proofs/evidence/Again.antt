-- What the view keeps of an event, it keeps as it is in the tenant's own cluster.
use Rattle.std.proofs.Common.{◌≡◌, Bool, true, false, cond, not, ◌&&◌, length, Option, Some, None, is_some, option_map, filter, refl, sym, ap, subst, ◌∙◌}
use Rattle.std.specs.Prelude.{nat_le}
use Rattle.std.specs.Option.{option_map_or}
use mathlib.Core.Bool.{true≢false}
use Rattle.ynl_resource.specs.declared.amounts.Resource.{Resource}
use Rattle.ynl_resource.specs.Names.{same_label}
use Rattle.ynl_resource.specs.Ranges.{most_nodes}
use Rattle.ynl_resource.specs.declared.names.Name.{Name}
use Rattle.ynl_resource.specs.declared.labels.Label.{Label}
use Rattle.ynl_model.specs.Nodes.{has_label, is_full}
use Rattle.ynl_model.specs.declared.nodes.Node.{Node}
use Rattle.ynl_model.specs.declared.nodes.Tracked.{Tracked}
use Rattle.ynl_model.specs.Queues.{Config}
use Rattle.ynl_model.specs.Cluster.{State, node_of}
use Rattle.ynl_model.specs.declared.events.Event.{Event}
use Rattle.ynl_model.specs.declared.events.Event.TheVariants.{Register, Lost, Relabel, Heartbeat, Exited, Submit, Ask, Release, Finish, Stop, Start, Poll, Usage, Propose, Commit, Maximum}
use Rattle.ynl_model.specs.View.{tracked, is_there, is_in, has_place, registers, relabels, kept_if, seen_of}
use Rattle.ynl_model.specs.Promises.{without_stamp}
use Rattle.ynl_laws.specs.Working.{places}
use Rattle.ynl_laws.proofs.Soundness.Tracked.{tracked-is, there-is, full-is}
use Rattle.ynl_laws.proofs.Isolating.Mirrored.{Mirrors}
use Rattle.ynl_laws.proofs.Isolating.Firm.{Firm}
use Rattle.ynl_laws.proofs.Isolating.Follows.{by-place, node-in, node-gone, node-away}
use Rattle.ynl_laws.proofs.Lists.{filter-filter}
use Rattle.ynl_laws.proofs.Logic.{not-true, none-is}
use Rattle.ynl_laws.proofs.Names.{same-label_path, same-label_self}
use Rattle.std.proofs.lemmas.Bool.{and_parts}
use Rattle.ynl_view.specs.evidence.Kept.{is_relabel}

module _ (c : Config) (t : Name) (p : Label) (s u : State) (firm : Firm c s) (m : Mirrors t p s u) where
  -- the view keeps this as it is, by the nodes of the tenant's own cluster
  abbrev pub Again : Option Event → Type 0
  Again None = Unit {0}
  Again (Some viewed) = (seen_of t p c (places u) viewed ≡ Some viewed) × (is_relabel viewed ≡ false)

  by-test : (test : Bool) (event : Event) → (test ≡ true → seen_of t p c (places u) event ≡ Some event) → is_relabel event ≡ false → Again (kept_if test event)
  by-test test event kept other = go test refl
    where
      go : (b : Bool) → test ≡ b → Again (kept_if b event)
      go true e = (kept e, other)
      go false e = tt

  -- ---- nodes

  in-own : (name : Name) (node : Node) → node_of s name ≡ Some node → node.label ≡ p → is_in (places u) name p ≡ true
  in-own name node e here =
      ap (λ o. option_map_or (λ node. same_label node.label p) o false) (tracked-is name u ∙ ap (option_map without_stamp) (node-in c t p s u m name node here e))
      ∙ ap (λ l. same_label l p) here ∙ same-label_self p

  in-both : (name : Name) → is_in (places s) name p ≡ true → is_in (places u) name p ≡ true
  in-both name = by-place c t p s u m name (λ b. b ≡ true → is_in (places u) name p ≡ true)
      (λ node e here _. in-own name node e here)
      (λ node e off h. absurd (true≢false (sym h)))
      (λ e h. absurd (true≢false (sym h)))

  -- what is kept where a node is in the partition
  on-node : (name : Name) (event : Event) → (is_in (places u) name p ≡ true → seen_of t p c (places u) event ≡ Some event) → is_relabel event ≡ false → Again (kept_if (is_in (places s) name p) event)
  on-node name event kept other = by-test (is_in (places s) name p) event (λ e. kept (in-both name e)) other

  full-same : is_full s.nodes p ≡ is_full u.nodes p
  unfolding is_full
  full-same = sym (ap (λ nodes. nat_le most_nodes (length (filter (λ node. same_label node.label p) nodes))) m.nodes
      ∙ ap (λ nodes. nat_le most_nodes (length nodes)) (filter-filter (λ node. same_label node.label p) (λ node. same_label node.label p) (λ node e. e) s.nodes))

  place-same : has_place (places s) p ≡ has_place (places u) p
  place-same = ap not (full-is p s ∙ full-same ∙ sym (full-is p u))

  -- a name that is not in the tenant's own cluster may register there
  registers-own : (name : Name) → has_label c.labels p ≡ true → node_of u name ≡ None → has_place (places s) p ≡ true → registers c (places u) name p ≡ true
  registers-own name known free room =
      let fresh : is_there (places u) name ≡ false = there-is name u ∙ ap is_some free in
      λ i. known i && not (fresh i) && (sym place-same ∙ room) i

  registers-again : (name : Name) → registers c (places s) name p ≡ true → registers c (places u) name p ≡ true
  registers-again name e =
      let known = and_parts (has_label c.labels p && not (is_there (places s) name)) (has_place (places s) p) e in
      let parts = and_parts (has_label c.labels p) (not (is_there (places s) name)) known.0 in
      registers-own name parts.0 (node-gone c t p s u m name (none-is (node_of s name) (sym (there-is name s) ∙ not-true (is_there (places s) name) parts.1))) known.1

  -- what registers in the partition is kept there
  again-register : (name : Name) (size : Resource) → registers c (places u) name p ≡ true → Again (Some (Register name p size))
  unfolding seen_of
  again-register name size e = ((λ i. kept_if (e i && same-label_self p i) (Register name p size)), refl)

  register : (name : Name) (label : Label) (size : Resource) → Again (seen_of t p c (places s) (Register name label size))
  unfolding seen_of
  register name label size = go (registers c (places s) name label) (same_label label p) refl refl
    where
      go : (b d : Bool) → registers c (places s) name label ≡ b → same_label label p ≡ d → Again (kept_if (b && d) (Register name label size))
      go true true e on = subst (λ l. registers c (places s) name l ≡ true → Again (Some (Register name l size))) (sym (same-label_path label p on)) (λ f. again-register name size (registers-again name f)) e
      go true false e off = tt
      go false d e on = tt

  -- a node of another partition is not in the tenant's own cluster
  gone-own : (name : Name) → is_in (places s) name p ≡ false → node_of u name ≡ None
  gone-own name = by-place c t p s u m name (λ b. b ≡ false → node_of u name ≡ None)
      (λ node e here h. absurd (true≢false h))
      (λ node e off _. node-away c t p s u m firm.apart name node off e)
      (λ e _. node-gone c t p s u m name e)

  comes : (name : Name) → relabels c (places s) name p ≡ true → registers c (places u) name p ≡ true
  comes name e =
      let room = and_parts (has_label c.labels p && is_there (places s) name && not (is_in (places s) name p)) (has_place (places s) p) e in
      let away = and_parts (has_label c.labels p && is_there (places s) name) (not (is_in (places s) name p)) room.0 in
      registers-own name (and_parts (has_label c.labels p) (is_there (places s) name) away.0).0 (gone-own name (not-true (is_in (places s) name p) away.1)) room.1

  relabel : (name : Name) (label : Label) → Again (seen_of t p c (places s) (Relabel name label))
  unfolding seen_of
  relabel name label = go (relabels c (places s) name label) (same_label label p) refl refl
    where
      into : relabels c (places s) name p ≡ true → (o : Option Tracked) → Again (option_map_or (λ found. Some (Register name p found.size)) o None)
      into e None = tt
      into e (Some found) = again-register name found.size (comes name e)

      go : (b d : Bool) → relabels c (places s) name label ≡ b → same_label label p ≡ d →
          Again (cond b (cond d (option_map_or (λ found. Some (Register name p found.size)) (tracked (places s) name) None) (kept_if (is_in (places s) name p) (Lost name))) None)
      go true true e on = into (ap (relabels c (places s) name) (sym (same-label_path label p on)) ∙ e) (tracked (places s) name)
      go true false e off = on-node name (Lost name) (λ h. ap (λ b. kept_if b (Lost name)) h) refl
      go false d e on = tt

  -- ---- every event

  pub again : (event : Event) → Again (seen_of t p c (places s) event)
  unfolding seen_of
  again (Register name label size) = register name label size
  again (Lost name) = on-node name (Lost name) (λ h. ap (λ b. kept_if b (Lost name)) h) refl
  again (Relabel name label) = relabel name label
  again (Heartbeat name) = on-node name (Heartbeat name) (λ h. ap (λ b. kept_if b (Heartbeat name)) h) refl
  again (Exited name id) = on-node name (Exited name id) (λ h. ap (λ b. kept_if b (Exited name id)) h) refl
  again (Propose name) = on-node name (Propose name) (λ h. ap (λ b. kept_if b (Propose name)) h) refl
  again (Commit proposal) = on-node proposal.node (Commit proposal) (λ h. ap (λ b. kept_if b (Commit proposal)) h) refl
  again (Submit queue app user label master) = by-test _ (Submit queue app user label master) (λ h. ap (λ b. kept_if b (Submit queue app user label master)) h) refl
  again (Ask tenant app label priority count size) = by-test _ (Ask tenant app label priority count size) (λ h. ap (λ b. kept_if b (Ask tenant app label priority count size)) h) refl
  again (Release tenant id) = by-test _ (Release tenant id) (λ h. ap (λ b. kept_if b (Release tenant id)) h) refl
  again (Finish tenant app) = by-test _ (Finish tenant app) (λ h. ap (λ b. kept_if b (Finish tenant app)) h) refl
  again (Stop queue) = by-test _ (Stop queue) (λ h. ap (λ b. kept_if b (Stop queue)) h) refl
  again (Start queue) = by-test _ (Start queue) (λ h. ap (λ b. kept_if b (Start queue)) h) refl
  again (Poll tenant app label) = by-test _ (Poll tenant app label) (λ h. ap (λ b. kept_if b (Poll tenant app label)) h) refl
  again (Usage queue label) = by-test _ (Usage queue label) (λ h. ap (λ b. kept_if b (Usage queue label)) h) refl
  again (Maximum queue label share) = by-test _ (Maximum queue label share) (λ h. ap (λ b. kept_if b (Maximum queue label share)) h) refl
