-- What is known of a state whose lines tell it again.
use Rattle.std.proofs.Common.{List, [], ◌∷◌}
use Rattle.std.specs.Prelude.{IsTrue, ⊤}
use Rattle.ynl_model.specs.Accepted.{is_accepted}
use Rattle.ynl_model.specs.Applications.{LeafApps}
use Rattle.ynl_model.specs.Cluster.{State, opening}
use Rattle.ynl_model.specs.Events.{after, step}
use Rattle.ynl_model.specs.Queues.{Config}
use Rattle.ynl_model.specs.declared.events.Event.{Event}
use Rattle.ynl_laws.specs.Untied.{AllDistinct, Distinct}
use Rattle.ynl_laws.specs.Working.{IsHoused, Kept}
use Rattle.ynl_laws.proofs.Events.Found.{FindsAll}
use Rattle.ynl_laws.proofs.Lives.Asks.{distinct-after}
use Rattle.ynl_laws.proofs.Lives.Entitled.{Entitled}
use Rattle.ynl_laws.proofs.Soundness.Housed.{housed-opening, housed-stays}
use Rattle.ynl_laws.proofs.Soundness.Steps.{step-stays}
use Rattle.ynl_saved.proofs.Asking.{step-asking}
use Rattle.ynl_saved.proofs.Changing.{Base, base-opening, base-step, step-goes}
use Rattle.ynl_saved.proofs.Configured.{limits}
use Rattle.ynl_saved.proofs.Distinct.{any-ask, distinct-stays}
use Rattle.ynl_saved.proofs.Stamps.{Stamped, stamped-goes, stamped-opening}
use Rattle.ynl_saved.proofs.Suited.{Suited, suited-goes, suited-opening}

-- what is known of a state whose lines tell it again
pub record IsTellable (c : Config) (s : State) : Type 0 where
  pub base : Base c s
  pub stamped : Stamped c s
  pub suited : Suited c s
  pub housed : IsHoused s
  pub distinct : AllDistinct s.leaves

-- leaves with other applications, of which the same is known
pub base-apps : (c : Config) (s : State) (leaves : List LeafApps) → Base c s → Kept (record s { leaves = leaves }) → FindsAll leaves → Entitled c (record s { leaves = leaves }) →
    Base c (record s { leaves = leaves })
base-apps c s leaves h kept finds entitled = record { kept = kept; finds = finds; apart = h.apart; ordered = h.ordered; entitled = entitled }

module _ (c : Config) (accepted : IsTrue (is_accepted c)) where
  -- it is known of the opening state
  pub tellable-opening : IsTellable c (opening c)
  tellable-opening = record {
    base = base-opening c;
    stamped = stamped-opening c (limits c accepted);
    suited = suited-opening c accepted;
    housed = housed-opening c;
    distinct = distinct-after c [];
  }

  -- it stays with each event
  pub tellable-step : (s : State) (event : Event) → IsTellable c s → IsTellable c (step c s event).state
  tellable-step s event h =
      let base = h.base in
      record {
        base = base-step c s event base;
        stamped = step-goes (Stamped c) c (stamped-goes c (limits c accepted)) s event base h.stamped;
        suited = step-goes (Suited c) c (suited-goes c accepted) s event base h.suited;
        housed = step-stays IsHoused c (housed-stays c) s event base.kept base.apart h.housed;
        distinct = step-asking Distinct (λ ask. ⊤) c distinct-stays s event base.kept (any-ask event) h.distinct;
      }

  -- and with each list of events
  pub tellable-after : (events : List Event) (s : State) → IsTellable c s → IsTellable c (after c s events)
  tellable-after [] s h = h
  tellable-after (event ∷ events) s h = tellable-after events (step c s event).state (tellable-step s event h)
