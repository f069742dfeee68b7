-- What changes of asks keep of each live application stays with each event.
use Rattle.std.proofs.Common.{◌≡◌, [], ◌∷◌, refl}
use Rattle.std.specs.List.{AllByRecursion}
use Rattle.ynl_resource.specs.Names.{same_name, same_path}
use Rattle.ynl_model.specs.Applications.{Application, LeafApps, find_app, finished, new_app, set_ask, submitted, with_app}
use Rattle.ynl_model.specs.Changes.{app_finishes, changed_at, end, node_joins, node_leaves, place, taken}
use Rattle.ynl_model.specs.Check.{proposed_item}
use Rattle.ynl_model.specs.Cluster.{State, node_of}
use Rattle.ynl_model.specs.Events.{accepted, container_at, container_for, home_of, step}
use Rattle.ynl_model.specs.Queues.{Config}
use Rattle.ynl_model.specs.Service.{Item}
use Rattle.ynl_model.specs.declared.applications.AskRow.{AskRow}
use Rattle.ynl_model.specs.declared.events.Event.TheVariants.{Register, Lost, Relabel, Heartbeat, Exited, Submit, Ask, Release, Finish, Stop, Start, Poll, Usage, Propose, Commit, Maximum}
use Rattle.ynl_model.specs.declared.events.Event.{Event}
use Rattle.ynl_model.specs.declared.nodes.Node.{Node}
use Rattle.ynl_model.specs.declared.proposals.What.{What}
use Rattle.ynl_laws.specs.Working.{Kept}
use Rattle.ynl_laws.proofs.Events.Changed.{beat-keeps, kept-place}
use Rattle.ynl_laws.proofs.Events.Outcomes.{step-cases, there}
use Rattle.ynl_laws.proofs.Lists.{Each-append, Each-filter, Each-update}
use Rattle.ynl_saved.specs.Asks.{OfAsk}

-- what holds of an application that asks for nothing, and stays where one less is asked for, and where an ask is set of which something holds
pub record StaysAsking (P : Application → Type 0) (A : AskRow → Type 0) : Type 0 where
  pub comes : (app : Application) → app.asks ≡ [] → P app
  pub takes : (what : What) (app : Application) → P app → P (taken what app)
  pub asks : (ask : AskRow) (app : Application) → A ask → P app → P (set_ask ask app)

module _ (P : Application → Type 0) (A : AskRow → Type 0) (c : Config) (stays : StaysAsking P A) where
  -- it holds of each live application
  abbrev Each : State → Type 0
  Each s = AllByRecursion (λ (row : LeafApps). AllByRecursion P row.apps) s.leaves

  -- it stays with each placement
  place-asking : (node : Node) (item : Item) (s : State) → Each s → Each (place c node item s)
  unfolding place
  place-asking node item s h = Each-update (λ row. AllByRecursion P row.apps) (λ row. same_path row.leaf item.leaf) (with_app item.app (taken item.what))
      (λ row k. Each-update P (λ app. same_name app.name item.app) (taken item.what) (stays.takes item.what) row.apps k) s.leaves h

  -- with each event that is not refused
  accepted-asking : (s : State) (event : Event) → Kept s → OfAsk A event → Each s → Each (accepted c s event).state
  unfolding accepted node_joins node_leaves end changed_at app_finishes
  accepted-asking s (Register name label size) k of h = h
  accepted-asking s (Lost name) k of h = there Each (node_of s name) s _ h (λ node e. h)
  accepted-asking s (Relabel name label) k of h = there Each (node_of s name) s _ h (λ node e. h)
  accepted-asking s (Heartbeat name) k of h = there Each (node_of s name) s _ h (λ node e.
      (beat-keeps (λ u. Kept u × Each u) c node (λ u item g fits fresh. (kept-place c node item u g.0 fits.known, place-asking node item u g.1)) (λ u g. g.0) c.containers_per_heartbeat s (k, h)).1)
  accepted-asking s (Exited name id) k of h = there Each (container_at s name id) s _ h (λ container e. h)
  accepted-asking s (Submit queue app user label master) k of h =
      let new : Application = new_app queue app user (home_of c queue label) master in
      Each-update (λ row. AllByRecursion P row.apps) (λ row. same_path row.leaf queue) (submitted new) (λ row j. Each-append P row.apps (new ∷ []) j (stays.comes new refl, tt)) s.leaves h
  accepted-asking s (Ask tenant app label priority count size) k of h = there Each (find_app s.leaves tenant app) s _ h (λ found e.
      let ask : AskRow = record { label = label; priority = priority; count = count; size = size } in
      Each-update (λ row. AllByRecursion P row.apps) (λ row. same_path row.leaf found.leaf) (with_app app (set_ask ask))
      (λ row j. Each-update P (λ other. same_name other.name app) (set_ask ask) (λ other i. stays.asks ask other of i) row.apps j) s.leaves h)
  accepted-asking s (Release tenant id) k of h = there Each (container_for s tenant id) s _ h (λ container e. h)
  accepted-asking s (Finish tenant app) k of h = there Each (find_app s.leaves tenant app) s _ h (λ found e.
      Each-update (λ row. AllByRecursion P row.apps) (λ row. same_path row.leaf found.leaf) (finished found.name) (λ row j. Each-filter P _ row.apps j) s.leaves h)
  accepted-asking s (Stop queue) k of h = h
  accepted-asking s (Start queue) k of h = h
  accepted-asking s (Poll tenant app label) k of h = h
  accepted-asking s (Usage queue label) k of h = h
  accepted-asking s (Propose name) k of h = there Each (node_of s name) s _ h (λ node e. h)
  accepted-asking s (Commit proposal) k of h = there Each (node_of s proposal.node) s _ h (λ node e. there Each (find_app s.leaves proposal.tenant proposal.app) s _ h
      (λ app f. place-asking node (proposed_item proposal app) s h))
  accepted-asking s (Maximum queue label share) k of h = h

  -- and with each event
  pub step-asking : (s : State) (event : Event) → Kept s → OfAsk A event → Each s → Each (step c s event).state
  step-asking s event k of h = step-cases Each c s event h (λ none. accepted-asking s event k of h)
