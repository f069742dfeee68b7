-- The reasons for which a proposal is not committed, one after another.
use Rattle.std.proofs.Common.{◌≡◌, Bool, true, false, cond, not, ◌==◌, [], ◌∷◌, ◌++◌, Option, None, Some, refl, sym, ap, ◌∙◌, true≢false}
use Rattle.std.proofs.lemmas.Option.{none-some}
use Rattle.std.specs.Option.{option_or}
use Rattle.ynl_resource.specs.Refusals.{Reasons, first_that_holds}
use Rattle.ynl_resource.specs.declared.refusals.Refusal.{Refusal}
use Rattle.ynl_resource.specs.declared.refusals.Refusal.TheVariants.{NoSuchNode, ClockSpent, Stale, NotAccessible, NoSuchApplication, NoSuchAsk}
use Rattle.ynl_model.specs.declared.nodes.Node.{Node}
use Rattle.ynl_model.specs.declared.proposals.Proposal.{Proposal}
use Rattle.ynl_model.specs.Queues.{Config}
use Rattle.ynl_model.specs.Applications.{Application, find_app}
use Rattle.ynl_model.specs.Cluster.{State, is_spent, node_of}
use Rattle.ynl_model.specs.Check.{commit_reasons, has_access, has_node, node_that, placing_reasons, proposed_item, wants}
use Rattle.ynl_model.specs.Events.{reasons}
use Rattle.ynl_model.specs.declared.events.Event.TheVariants as event
use Rattle.ynl_service.specs.Checking.{request_reasons}

first-append : (xs ys : Reasons) → first_that_holds (xs ++ ys) ≡ option_or (first_that_holds xs) (first_that_holds ys)
first-append [] ys = refl
first-append (x ∷ xs) ys = go x.1 (first-append xs ys)
  where
    go : (b : Bool) → first_that_holds (xs ++ ys) ≡ option_or (first_that_holds xs) (first_that_holds ys) → cond b (Some x.0) (first_that_holds (xs ++ ys)) ≡ option_or (cond b (Some x.0) (first_that_holds xs)) (first_that_holds ys)
    go true h = refl
    go false h = h

-- a reason that holds comes before the rest, and one that does not is passed
holds : (b : Bool) (x rest : Option Refusal) → b ≡ true → cond b x rest ≡ x
holds true x rest h = refl
holds false x rest h = absurd (true≢false (sym h))

passed : (b : Bool) (x rest : Option Refusal) → b ≡ false → cond b x rest ≡ rest
passed false x rest h = refl
passed true x rest h = absurd (true≢false h)

-- so do two
before : (a b : Bool) (x y : Refusal) (rest : Option Refusal) (z : Refusal) → cond a (Some x) (cond b (Some y) None) ≡ Some z → cond a (Some x) (cond b (Some y) rest) ≡ Some z
before true b x y rest z h = h
before false true x y rest z h = h
before false false x y rest z h = absurd (none-some z h)

-- those that lie in the application that is found
app-reasons : Config → State → Node → Proposal → Option Application → Reasons
app-reasons c s node proposal None = (NoSuchApplication, true) ∷ []
app-reasons c s node proposal (Some app) = (NoSuchAsk, not (wants s node.label proposal.what proposal.size app)) ∷ request_reasons c s node (proposed_item proposal app)

-- those that come after the reasons for which nothing is placed on the node at all
later-reasons : Config → State → Node → Proposal → Option Application → Reasons
later-reasons c s node proposal o =
    (Stale, not (node.stamp == proposal.stamp)) ∷ (NotAccessible, not (has_access c node.label proposal.tenant proposal.what)) ∷ app-reasons c s node proposal o

module _ (c : Config) (s : State) (proposal : Proposal) where
  -- what speaks against anything on the node speaks against the proposal
  pub nothing-placed : (refusal : Refusal) → first_that_holds (reasons c s (event.Heartbeat proposal.node)) ≡ Some refusal → first_that_holds (commit_reasons c s proposal) ≡ Some refusal
  unfolding commit_reasons reasons
  nothing-placed refusal h = before (not (has_node s proposal.node)) (node_that s proposal.node (λ node. is_spent c.labels s node.label)) NoSuchNode ClockSpent _ refusal h

  module _ (node : Node) (e : node_of s proposal.node ≡ Some node) where
    found : (o : Option Application) → find_app s.leaves proposal.tenant proposal.app ≡ o
        → first_that_holds (commit_reasons c s proposal) ≡ first_that_holds (placing_reasons c s proposal.node ++ later-reasons c s node proposal o)
    unfolding commit_reasons later-reasons app-reasons
    found None f = rw (e, f) refl
    found (Some app) f = rw (e, f) refl

    module _ (free : first_that_holds (reasons c s (event.Heartbeat proposal.node)) ≡ None) where
      passes : first_that_holds (placing_reasons c s proposal.node) ≡ None
      unfolding reasons
      passes = free

      past : (o : Option Application) → find_app s.leaves proposal.tenant proposal.app ≡ o → first_that_holds (commit_reasons c s proposal) ≡ first_that_holds (later-reasons c s node proposal o)
      past o f = found o f ∙ first-append (placing_reasons c s proposal.node) (later-reasons c s node proposal o) ∙ ap (λ x. option_or x (first_that_holds (later-reasons c s node proposal o))) passes

      pub is-stale : not (node.stamp == proposal.stamp) ≡ true → first_that_holds (commit_reasons c s proposal) ≡ Some Stale
      unfolding later-reasons
      is-stale h = past (find_app s.leaves proposal.tenant proposal.app) refl ∙ holds (not (node.stamp == proposal.stamp)) (Some Stale) _ h

      module _ (fresh : not (node.stamp == proposal.stamp) ≡ false) where
        pub is-closed : has_access c node.label proposal.tenant proposal.what ≡ false → first_that_holds (commit_reasons c s proposal) ≡ Some NotAccessible
        unfolding later-reasons
        is-closed h =
            past (find_app s.leaves proposal.tenant proposal.app) refl ∙ passed (not (node.stamp == proposal.stamp)) (Some Stale) _ fresh
            ∙ holds (not (has_access c node.label proposal.tenant proposal.what)) (Some NotAccessible) _ (ap not h)

        module _ (open_to : has_access c node.label proposal.tenant proposal.what ≡ true) where
          inside : (o : Option Application) → find_app s.leaves proposal.tenant proposal.app ≡ o → first_that_holds (commit_reasons c s proposal) ≡ first_that_holds (app-reasons c s node proposal o)
          unfolding later-reasons
          inside o f =
              past o f ∙ passed (not (node.stamp == proposal.stamp)) (Some Stale) _ fresh
              ∙ passed (not (has_access c node.label proposal.tenant proposal.what)) (Some NotAccessible) _ (ap not open_to)

          pub no-application : find_app s.leaves proposal.tenant proposal.app ≡ None → first_that_holds (commit_reasons c s proposal) ≡ Some NoSuchApplication
          unfolding app-reasons
          no-application f = inside None f

          module _ (app : Application) (f : find_app s.leaves proposal.tenant proposal.app ≡ Some app) where
            pub not-wanted : wants s node.label proposal.what proposal.size app ≡ false → first_that_holds (commit_reasons c s proposal) ≡ Some NoSuchAsk
            unfolding app-reasons
            not-wanted h = inside (Some app) f ∙ ap (λ b. cond (not b) (Some NoSuchAsk) (first_that_holds (request_reasons c s node (proposed_item proposal app)))) h

            pub by-request : wants s node.label proposal.what proposal.size app ≡ true
                → first_that_holds (commit_reasons c s proposal) ≡ first_that_holds (request_reasons c s node (proposed_item proposal app))
            unfolding app-reasons
            by-request h = inside (Some app) f ∙ ap (λ b. cond (not b) (Some NoSuchAsk) (first_that_holds (request_reasons c s node (proposed_item proposal app)))) h
