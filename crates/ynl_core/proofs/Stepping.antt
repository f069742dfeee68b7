-- What an event leaves of an engine.
use Rattle.std.proofs.Common.{arith, ◌≡◌, ℕ, true, None, Some, sym, ap, subst, ◌∙◌}
use Rattle.std.specs.Option.{option_map_or}
use Rattle.ynl_resource.specs.Refusals.{first_that_holds}
use Rattle.ynl_resource.specs.declared.refusals.Refusal.{Refusal}
use Rattle.ynl_model.specs.declared.events.Event.{Event}
use Rattle.ynl_model.specs.declared.replies.Reply.{Reply}
use Rattle.ynl_model.specs.declared.replies.Reply.TheVariants.{Refused}
use Rattle.ynl_model.specs.Queues.{Config}
use Rattle.ynl_model.specs.Cluster.{State}
use Rattle.ynl_model.specs.Events.{Outcome, accepted, answered, reasons, step}
use Rattle.ynl_laws.specs.Working.{IsRanged}
use Rattle.ynl_laws.proofs.Soundness.Working.{working-step}
use Rattle.ynl_saved.proofs.Tellable.{tellable-step}
use Rattle.ynl_cluster.specs.Cluster.{ClusterView, label_of, path_of, state_in}
use Rattle.std.proofs.lemmas.Bool.Decides.{nat_tests}
use Rattle.ynl_resource.specs.Amounts.{fits_in, nothing}
use Rattle.ynl_resource.specs.declared.amounts.Resource.{Resource}
use Rattle.ynl_search.specs.declared.notes.noted.Noted.{Noted}
use Rattle.ynl_search.specs.notes.Notes.{Changes, IsEmpty, Notes, forgotten, noted_in, nothing_noted}
use Rattle.ynl_search.specs.notes.Shut.{AreShut, IsRight}
use Rattle.ynl_search.proofs.notes.NodesKeeping.{nothing-right}
use Rattle.ynl_core.specs.Reached.{WorksAndIsTold}
use Rattle.ynl_core.specs.World.{Answers, World}

-- the cluster as a contract sees it
abbrev pub world_in : ClusterView → World
world_in w = record { config = w.config; state = state_in w }

-- nothing is at most each amount
all-above : (size : Resource) → fits_in nothing size ≡ true
all-above size = grind (arith, nat_tests)

-- where all is forgotten what is noted is right
pub none-shut : (w : ClusterView) (old new : Notes) → Changes forgotten old.own new.own → ((q : ℕ) → noted_in new.guests q ≡ nothing_noted) → AreShut w new
none-shut w old new changes none = record {
  own = λ p q cell. subst (IsRight w.config (state_in w) (label_of w p) (path_of w q)) (sym (changes.noted p q)) (nothing-right w.config (state_in w) (label_of w p) (path_of w q));
  guests = λ q there item below. subst (λ (n : Noted). fits_in n.least item.size ≡ true) (sym (none q)) (all-above item.size);
}

-- so it is where nothing was noted yet
pub empty-shut : (w : ClusterView) (notes : Notes) (partitions queues : ℕ) → IsEmpty partitions queues notes → AreShut w notes
empty-shut w notes partitions queues empty = record {
  own = λ p q cell. subst (IsRight w.config (state_in w) (label_of w p) (path_of w q)) (sym (empty.own.noted p q)) (nothing-right w.config (state_in w) (label_of w p) (path_of w q));
  guests = λ q there item below. subst (λ (n : Noted). fits_in n.least item.size ≡ true) (sym (empty.guests q)) (all-above item.size);
}

-- an event that is refused changes nothing
pub refuses : (c : Config) (s : State) (event : Event) (refusal : Refusal) → first_that_holds (reasons c s event) ≡ Some refusal → step c s event ≡ answered s (Refused refusal)
unfolding step
refuses c s event refusal first = ap (λ o. option_map_or (λ (r : Refusal). answered s (Refused r)) o (accepted c s event)) first

-- one that is not does what it is for
pub accepts : (c : Config) (s : State) (event : Event) → first_that_holds (reasons c s event) ≡ None → step c s event ≡ accepted c s event
unfolding step
accepts c s event first = ap (λ o. option_map_or (λ (r : Refusal). answered s (Refused r)) o (accepted c s event)) first

module _ (w u : ClusterView) (event : Event) (reply : Reply) (free : first_that_holds (reasons w.config (state_in w) event) ≡ None) (config : u.config ≡ w.config)
    (does : accepted w.config (state_in w) event ≡ record { state = state_in u; reply = reply }) where
  stepped-is : step w.config (state_in w) event ≡ record { state = state_in u; reply = reply }
  stepped-is = accepts w.config (state_in w) event free ∙ does

  -- the answer to one that is not
  pub answers : Answers (world_in w) event (world_in u) reply
  answers = record {
    told = sym (ap (λ (o : Outcome). o.reply) stepped-is);
    left = λ i. record { config = config i; state = sym (ap (λ (o : Outcome). o.state) stepped-is) i };
  }

  -- and the state that it leaves works and is told by its lines, as the one before it
  pub works : IsRanged event → WorksAndIsTold w.config (state_in w) → WorksAndIsTold u.config (state_in u)
  works ranged h =
      subst (λ c. WorksAndIsTold c (state_in u)) (sym config)
      (subst (WorksAndIsTold w.config) (ap (λ (o : Outcome). o.state) stepped-is)
      (record { works = working-step w.config (state_in w) event ranged h.works; told = λ accepted. tellable-step w.config accepted (state_in w) event (h.told accepted) }))
