-- What is known of the request that is chosen for a node, or committed to it.
use Rattle.std.proofs.Common.{◌≡◌, ◌⊎◌, inl, inr, Bool, true, false, cond, not, ◌&&◌, List, [], ◌∷◌, Option, Some, None, filter, refl, sym, subst, ◌∙◌}
use Rattle.std.specs.Prelude.{⊤, IfSome, nat_lt}
use Rattle.std.specs.List.{AllByRecursion}
use Rattle.std.specs.Option.{option_map_or, option_or}
use Rattle.ynl_resource.specs.Amounts.{fits_in}
use Rattle.ynl_resource.specs.Names.{same_label, is_default}
use Rattle.ynl_resource.specs.declared.labels.Label.{Label}
use Rattle.ynl_resource.specs.declared.labels.Label.TheVariants.{Unlabelled, Named}
use Rattle.ynl_resource.specs.Refusals.{first_that_holds}
use Rattle.ynl_model.specs.declared.nodes.Node.{Node}
use Rattle.ynl_model.specs.Queues.{Config}
use Rattle.ynl_model.specs.Applications.{Application, all_apps, find_app}
use Rattle.ynl_model.specs.declared.applications.AskRow.{AskRow}
use Rattle.ynl_model.specs.Cluster.{State, is_guest_on, free, node_of, runs, waits}
use Rattle.ynl_model.specs.declared.proposals.What.TheVariants.{Master, Ask as Asked}
use Rattle.ynl_model.specs.declared.proposals.What.{What}
use Rattle.ynl_model.specs.Service.{Item, master_item, ask_item, asks_of, masters_for, asks_for, items_for, has_room, within_maximum, is_eligible, eligible, takes_guests, some_eligible, guests_for, key, first_of, choice}
use Rattle.ynl_model.specs.Check.{comes_as_guest, proposed_item, commit_reasons}
use Rattle.ynl_model.specs.declared.proposals.Proposal.{Proposal}
use Rattle.ynl_laws.specs.Working.{IsKnown, Kept}
use Rattle.ynl_laws.proofs.Events.Kept.{kept-find}
use Rattle.ynl_laws.proofs.Lists.{Each-filter, Each-append, Each-map, Each-all, Each-flat, Each-kept, Each-weaker, filter-passes, Each-both, Each-found}
use Rattle.ynl_laws.proofs.Logic.{not-false, either-false}
use Rattle.std.proofs.lemmas.Bool.{and_from, and_parts}

-- the request's application is known, it has room on the node, and it comes as a guest or keeps each maximum
pub record Fits (s : State) (node : Node) (item : Item) : Type 0 where
  pub known : IsKnown s.leaves item.leaf item.app
  pub room : fits_in item.size (free s node) ≡ true
  pub within : (is_guest_on node.label item.what ≡ true) ⊎ (within_maximum s node.label item ≡ true)

-- the application of each request is known
abbrev Known : State → Item → Type 0
Known s item = IsKnown s.leaves item.leaf item.app

known-apps : (s : State) → Kept s → AllByRecursion (λ app. IsKnown s.leaves app.leaf app.name) (all_apps s.leaves)
known-apps s h = Each-flat _ _ (λ row. row.apps) (λ row k. k) s.leaves h.apps

known-asks : (s : State) → Kept s → (label : Label) → AllByRecursion (Known s) (asks_for s label)
unfolding asks_for
known-asks s h label = Each-flat (λ app. IsKnown s.leaves app.leaf app.name) (Known s) (asks_of label)
    (λ app k. Each-map (λ ask. Known s (ask_item app ask)) (Known s) (ask_item app) (λ ask e. e) _ (Each-all _ (λ ask. k) _)) (filter (runs s) (all_apps s.leaves))
    (Each-filter _ (runs s) (all_apps s.leaves) (known-apps s h))

known-items : (s : State) → Kept s → (label : Label) → AllByRecursion (Known s) (items_for s label)
unfolding items_for
known-items s h label = Each-append (Known s) (masters_for s label) (asks_for s label)
    (Each-map _ (Known s) master_item (λ app k. k) _ (Each-filter _ (λ app. waits s app && same_label app.home label) (all_apps s.leaves) (known-apps s h)))
    (known-asks s h label)

-- what is asked for on DEFAULT is a guest on a partition that takes guests
guest-asks : (s : State) (partition : Label) → not (is_default partition) ≡ true → AllByRecursion (λ item. is_guest_on partition item.what ≡ true) (asks_for s Unlabelled)
unfolding asks_for
guest-asks s partition out = Each-flat (λ app. ⊤) _ (asks_of Unlabelled)
    (λ app _. Each-map (λ (ask : AskRow). (same_label ask.label Unlabelled && nat_lt 0 ask.count) ≡ true) (λ item. is_guest_on partition item.what ≡ true) (ask_item app)
    (λ ask e. and_from _ _ (default-is ask.label (and_parts _ _ e).0) out) _ (filter-passes (λ ask. same_label ask.label Unlabelled && nat_lt 0 ask.count) app.asks))
    (filter (runs s) (all_apps s.leaves)) (Each-all _ (λ app. tt) _)
  where
    default-is : (label : Label) → same_label label Unlabelled ≡ true → is_default label ≡ true
    default-is Unlabelled e = refl
    default-is (Named name) e = e

eligible-fits : (c : Config) (s : State) (node : Node) → Kept s → AllByRecursion (Fits s node) (eligible c s node)
unfolding is_eligible
eligible-fits c s node h = Each-kept (Fits s node) (is_eligible c s node) (items_for s node.label)
    (Each-weaker (Known s) _ (λ item k e.
    let both : (has_room s node item.size && within_maximum s node.label item) ≡ true = (and_parts _ _ (and_parts _ _ e).0).0 in
    record { known = k; room = (and_parts _ _ both).0; within = inr (and_parts (has_room s node item.size) _ both).1 })
    (items_for s node.label) (known-items s h node.label))

guests-fit : (c : Config) (s : State) (node : Node) → Kept s → AllByRecursion (Fits s node) (guests_for c s node)
unfolding guests_for
guests-fit c s node h = go (takes_guests c node.label && not (some_eligible c s node)) refl
  where
    go : (b : Bool) → (takes_guests c node.label && not (some_eligible c s node)) ≡ b → AllByRecursion (Fits s node) (cond b (filter (λ item. has_room s node item.size) (asks_for s Unlabelled)) [])
    go true e = Each-kept (Fits s node) (λ item. has_room s node item.size) (asks_for s Unlabelled)
        (Each-weaker _ _ (λ item k room. record { known = k.0; room = room; within = inl k.1 }) (asks_for s Unlabelled)
        (Each-both (Known s) (λ item. is_guest_on node.label item.what ≡ true) (asks_for s Unlabelled) (known-asks s h Unlabelled)
        (guest-asks s node.label (and_parts _ _ (and_parts (takes_guests c node.label) _ e).0).0)))
    go false e = tt

pub choice-fits : (c : Config) (s : State) (node : Node) → Kept s → IfSome (choice c s node) (Fits s node)
unfolding choice
choice-fits c s node h = go (first_of (key c s node.label) (eligible c s node)) (first_of (key c s Unlabelled) (guests_for c s node))
    (Each-found (Fits s node) _ (eligible c s node) (eligible-fits c s node h)) (Each-found (Fits s node) _ (guests_for c s node) (guests-fit c s node h))
  where
    go : (a b : Option Item) → IfSome a (Fits s node) → IfSome b (Fits s node) → IfSome (option_or a b) (Fits s node)
    go None b h k = k
    go (Some item) b h k = h

-- ---- what is committed

-- where no reason holds, each fails
pub none-holds : {X : Type 0} (why : List (X × Bool)) → first_that_holds why ≡ None → AllByRecursion (λ reason. reason.1 ≡ false) why
none-holds [] h = tt
none-holds (reason ∷ why) h = go reason.1 refl h (none-holds why)
  where
    go : (b : Bool) → reason.1 ≡ b → cond b (Some reason.0) (first_that_holds why) ≡ None → (first_that_holds why ≡ None → AllByRecursion (λ reason. reason.1 ≡ false) why) → (reason.1 ≡ false) × AllByRecursion (λ reason. reason.1 ≡ false) why
    go true e h rest = cc
    go false e h rest = (e, rest h)

guest-is : (c : Config) (partition : Label) (what : What) → comes_as_guest c partition what ≡ true → is_guest_on partition what ≡ true
guest-is c partition Master h = h
guest-is c partition (Asked label priority) h = and_from _ _ (and_parts (is_default label) _ h).0 (and_parts (not (is_default partition)) _ (and_parts (is_default label) _ h).1).0

pub commit-fits : (c : Config) (s : State) (proposal : Proposal) (node : Node) (app : Application) → Kept s → first_that_holds (commit_reasons c s proposal) ≡ None → node_of s proposal.node ≡ Some node
    → find_app s.leaves proposal.tenant proposal.app ≡ Some app → Fits s node (proposed_item proposal app)
unfolding commit_reasons
commit-fits c s proposal node app h none e f =
    let all = none-holds (commit_reasons c s proposal) none in
    record {
      known = subst (λ o. IfSome o (λ app. IsKnown s.leaves app.leaf app.name)) f (kept-find s h proposal.tenant proposal.app);
      room = not-false _ (tested (λ node item. not (has_room s node item.size)) all.1.1.1.1.1.1.0);
      within = go (either-false _ _ (tested (λ node item. not (comes_as_guest c node.label item.what) && not (within_maximum s node.label item)) all.1.1.1.1.1.1.1.1.0));
    }
  where
    tested : (test : Node → Item → Bool) → option_map_or (λ node. option_map_or (λ app. test node (proposed_item proposal app)) (find_app s.leaves proposal.tenant proposal.app) false) (node_of s proposal.node) false ≡ false → test node (proposed_item proposal app) ≡ false
    tested test k = sym (λ i. option_map_or (λ node. option_map_or (λ app. test node (proposed_item proposal app)) (f i) false) (e i) false) ∙ k

    go : (comes_as_guest c node.label proposal.what ≡ true) ⊎ (within_maximum s node.label (proposed_item proposal app) ≡ true) → (is_guest_on node.label proposal.what ≡ true) ⊎ (within_maximum s node.label (proposed_item proposal app) ≡ true)
    go (inl k) = inl (guest-is c node.label proposal.what k)
    go (inr k) = inr k
