-- What a state keeps holds at first, and stays with every event in range and with each placement of a turn.
use Rattle.std.proofs.Common.{◌≡◌, ℕ, ◌≤◌, ◌<◌, Bool, true, false, cond, not, ◌&&◌, List, [], ◌∷◌, ◌++◌, map, length, Some, filter, refl, sym, ap, subst, ◌∙◌, arith, append-nil, length-append, le_trans}
use Rattle.std.specs.Prelude.{IfSome, nat_le}
use Rattle.std.specs.List.{AllByRecursion}
use Rattle.std.proofs.lemmas.List.{length-map}
use Rattle.std.proofs.lemmas.Bool.Decides.{nat_tests}
use Rattle.ynl_resource.specs.Amounts.{IsSize}
use Rattle.ynl_resource.specs.Names.{same_name, same_label}
use Rattle.ynl_resource.specs.declared.labels.Label.{Label}
use Rattle.ynl_model.specs.Nodes.{nodes_of}
use Rattle.ynl_resource.specs.Ranges.{most_nodes}
use Rattle.ynl_model.specs.declared.nodes.Node.{Node}
use Rattle.ynl_model.specs.Queues.{Config}
use Rattle.ynl_model.specs.Cluster.{State, is_spent, opening}
use Rattle.ynl_model.specs.Service.{Item, choice}
use Rattle.ynl_model.specs.Changes.{place}
use Rattle.ynl_model.specs.Events.{step, after}
use Rattle.ynl_model.specs.declared.events.Event.{Event}
use Rattle.ynl_model.specs.View.{dropped, has_place, track_step}
use Rattle.ynl_model.specs.declared.nodes.Tracked.{Tracked}
use Rattle.ynl_model.specs.Promises.{without_stamp}
use Rattle.ynl_laws.specs.Bounded.{AreRanged}
use Rattle.ynl_laws.specs.Working.{places, Apart, Stands, IsOrdered, IsWorking, IsRanged}
use Rattle.ynl_laws.proofs.Soundness.Tracked.{place-same, step-is, track-keeps}
use Rattle.ynl_laws.proofs.Events.Chosen.{Fits, choice-fits}
use Rattle.ynl_laws.proofs.Events.Changed.{kept-place, step-keeps, kept-opening}
use Rattle.ynl_laws.proofs.Soundness.Apart.{step-apart}
use Rattle.ynl_laws.proofs.Soundness.Steps.{step-stays}
use Rattle.ynl_laws.proofs.Soundness.Housed.{housed-stays, housed-opening}
use Rattle.ynl_laws.proofs.Soundness.Ordered.{ordered-stays, ordered-opening}
use Rattle.ynl_laws.proofs.Lists.{Each-filter, Each-append, Each-map, Each-unmap, Each-find, filter-swap, filter-map}
use Rattle.ynl_laws.proofs.Logic.{not-true}
use Rattle.ynl_laws.proofs.Names.{same-label_path}
use Rattle.std.proofs.lemmas.Bool.{and_parts}
use Rattle.std.proofs.lemmas.List.Elements.{filter-append}
use Rattle.std.proofs.lemmas.List.Sums.{length-filter, count_by-le-length}

-- ---- sizes

abbrev pub Sized : List Tracked → Type 0
Sized nodes = AllByRecursion (λ node. IsSize node.size) nodes

pub sized-places : (nodes : List Node) → AllByRecursion (λ node. IsSize node.size) nodes → Sized (map without_stamp nodes)
sized-places nodes h = Each-map _ _ without_stamp (λ node k. k) nodes h

sized-nodes : (nodes : List Node) → Sized (map without_stamp nodes) → AllByRecursion (λ node. IsSize node.size) nodes
sized-nodes nodes h = Each-unmap without_stamp (λ node. IsSize node.size) nodes h

track-sized : (c : Config) (nodes : List Tracked) (event : Event) → IsRanged event → Sized nodes → Sized (track_step c nodes event)
track-sized c nodes event ranged h = track-keeps Sized c nodes event h (record {
  joins = λ name label size is _. Each-append _ nodes _ h (subst IsRanged is ranged, tt);
  drops = λ name node e. Each-filter _ _ nodes h;
  goes = λ name label node e _. Each-append _ (dropped nodes node) _ (Each-filter _ _ nodes h) ((Each-find (λ node. IsSize node.size) (λ node. same_name node.name name) nodes h node e).0, tt);
})

-- ---- counts

-- the nodes on a partition
abbrev pub on : Label → List Tracked → List Tracked
on p nodes = filter (λ node. same_label node.label p) nodes

abbrev pub Counted : List Tracked → Type 0
Counted nodes = (p : Label) → length (on p nodes) ≤ most_nodes

count-same : (p : Label) (nodes : List Node) → length (on p (map without_stamp nodes)) ≡ length (nodes_of nodes p)
count-same p nodes = ap length (filter-map without_stamp (λ node. same_label node.label p) nodes) ∙ length-map (nodes_of nodes p) without_stamp

fewer-on : (f : Tracked → Bool) (p : Label) (nodes : List Tracked) → length (on p (filter f nodes)) ≤ length (on p nodes)
fewer-on f p nodes = subst (λ few. length few ≤ length (on p nodes)) (sym (filter-swap f (λ node. same_label node.label p) nodes)) (omega (arith, length-filter f (on p nodes), count_by-le-length f (on p nodes)))

counted-filter : (f : Tracked → Bool) (nodes : List Tracked) → Counted nodes → Counted (filter f nodes)
counted-filter f nodes h p = le_trans (fewer-on f p nodes) (h p)

one-more : (nodes : List Tracked) (node : Tracked) → length nodes < most_nodes → length (nodes ++ node ∷ []) ≤ most_nodes
one-more nodes node h = omega (arith, h, length-append nodes (node ∷ []))

-- one more node on a partition that has a place
counted-joined : (nodes : List Tracked) (node : Tracked) → Counted nodes → length (on node.label nodes) < most_nodes → Counted (nodes ++ node ∷ [])
counted-joined nodes node h room p = subst (λ more. length more ≤ most_nodes) (sym (filter-append (λ other. same_label other.label p) nodes (node ∷ []))) (go (same_label node.label p) refl)
  where
    go : (b : Bool) → same_label node.label p ≡ b → length (on p nodes ++ cond b (node ∷ []) []) ≤ most_nodes
    go true e = one-more (on p nodes) node (subst (λ l. length (on l nodes) < most_nodes) (same-label_path node.label p e) room)
    go false e = subst (λ more. length more ≤ most_nodes) (sym (append-nil (on p nodes))) (h p)

has-room : (nodes : List Tracked) (label : Label) → has_place nodes label ≡ true → length (on label nodes) < most_nodes
has-room nodes label e = go (length (on label nodes)) e
  where
    go : (n : ℕ) → not (nat_le most_nodes n) ≡ true → n < most_nodes
    go n e = let off : nat_le most_nodes n ≡ false = not-true _ e in grind (arith, nat_tests, off)

track-counted : (c : Config) (nodes : List Tracked) (event : Event) → Counted nodes → Counted (track_step c nodes event)
track-counted c nodes event h = track-keeps Counted c nodes event h (record {
  joins = λ name label size _ e. counted-joined nodes _ h (has-room nodes label (and_parts _ (has_place nodes label) e).1);
  drops = λ name node e. counted-filter _ nodes h;
  goes = λ name label node _ e. counted-joined (dropped nodes node) _ (counted-filter _ nodes h)
      (le_trans (grind (arith, fewer-on (λ other. not (same_name other.name node.name && same_label other.label node.label)) label nodes)) (has-room nodes label (and_parts _ (has_place nodes label) e).1));
})

-- ---- whole states

abbrev Ranged : List Tracked → Type 0
Ranged nodes = Sized nodes × Counted nodes

ranged-of : (c : Config) (s : State) → IsWorking c s → Ranged (places s)
ranged-of c s h = (sized-places s.nodes h.sizes, λ p. subst (λ n. n ≤ most_nodes) (sym (count-same p s.nodes)) (h.counts p))

counts-of : (s : State) → Counted (places s) → (p : Label) → length (nodes_of s.nodes p) ≤ most_nodes
counts-of s h p = subst (λ n. n ≤ most_nodes) (count-same p s.nodes) (h p)

-- the opening state
pub working-opening : (c : Config) → IsWorking c (opening c)
working-opening c = record { kept = kept-opening c; apart = tt; housed = housed-opening c; ordered = ordered-opening c; sizes = tt; counts = λ p. omega arith }

-- an event in range
pub working-step : (c : Config) (s : State) (event : Event) → IsRanged event → IsWorking c s → IsWorking c (step c s event).state
working-step c s event ranged h =
    let now = ranged-of c s h in
    record {
      kept = step-keeps c s event h.kept;
      apart = step-apart c s event h.apart;
      housed = step-stays _ c (housed-stays c) s event h.kept h.apart h.housed;
      ordered = step-stays (IsOrdered c) c (ordered-stays c) s event h.kept h.apart h.ordered;
      sizes = sized-nodes (step c s event).state.nodes (subst Sized (sym (step-is c s event)) (track-sized c (places s) event ranged now.0));
      counts = counts-of (step c s event).state (subst Counted (sym (step-is c s event)) (track-counted c (places s) event now.1));
    }

-- a list of events in range
pub working-after : (c : Config) (events : List Event) (s : State) → AreRanged events → IsWorking c s → IsWorking c (after c s events)
working-after c [] s ranged h = h
working-after c (event ∷ events) s ranged h = working-after c events (step c s event).state ranged.1 (working-step c s event ranged.0 h)

-- the chosen request is placed
pub working-place : (c : Config) (s : State) (node : Node) (item : Item) → IsWorking c s → Stands s node → choice c s node ≡ Some item → is_spent c.labels s node.label ≡ false → IsWorking c (place c node item s)
working-place c s node item h stands chosen fresh =
    let fits : Fits s node item = subst (λ o. IfSome o (Fits s node)) chosen (choice-fits c s node h.kept) in
    let now = ranged-of c s h in
    let stays = housed-stays c in
    let in_order = ordered-stays c in
    record {
      kept = kept-place c node item s h.kept fits.known;
      apart = subst Apart (sym (place-same c node item s)) h.apart;
      housed = stays.placed s node item h.housed h.kept stands h.apart fits fresh;
      ordered = in_order.placed s node item h.ordered h.kept stands h.apart fits fresh;
      sizes = sized-nodes (place c node item s).nodes (subst Sized (sym (place-same c node item s)) now.0);
      counts = counts-of (place c node item s) (subst Counted (sym (place-same c node item s)) now.1);
    }
