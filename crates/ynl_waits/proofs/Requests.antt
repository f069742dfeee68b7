-- What the requests of an application are, and that each is among the requests for its own partition while the application is ready for it.
use Rattle.std.proofs.Common.{◌≡◌, Bool, true, false, cond, not, ◌&&◌, List, [], ◌∷◌, filter, refl, sym, ap, subst, ◌∙◌}
use Rattle.std.specs.Prelude.{⊤, nat_lt, flat_map}
use Rattle.std.specs.List.{AllByRecursion}
use Rattle.std.proofs.lemmas.Bool.{and_from, and_parts}
use mathlib.Core.Bool.{true≢false}
use Rattle.ynl_resource.specs.Names.{same_label, is_default}
use Rattle.ynl_resource.specs.declared.labels.Label.{Label}
use Rattle.ynl_resource.specs.declared.labels.Label.TheVariants.{Unlabelled, Named}
use Rattle.ynl_model.specs.Nodes.{partition_labels}
use Rattle.ynl_model.specs.Queues.{Config}
use Rattle.ynl_model.specs.Applications.{Application, all_apps}
use Rattle.ynl_model.specs.declared.applications.AskRow.{AskRow}
use Rattle.ynl_model.specs.Cluster.{State, runs, waits}
use Rattle.ynl_model.specs.declared.proposals.What.{What}
use Rattle.ynl_model.specs.declared.proposals.What.TheVariants.{Master, Ask as Asked}
use Rattle.ynl_model.specs.Service.{takes_guests, master_item, ask_item, masters_for, asks_of, asks_for, items_for}
use Rattle.ynl_model.specs.Check.{comes_as_guest}
use Rattle.ynl_model.specs.Events.{pending, by_priority, sorted}
use Rattle.ynl_laws.proofs.Lists.{Each-all, Each-append, Each-both, Each-filter, Each-flat, Each-map, filter-passes}
use Rattle.ynl_laws.proofs.Names.{same-label_path, same-label_self}
use Rattle.ynl_waits.specs.Waits.{Request, applicant, master_request, ask_request, asks_under, requests, item, is_ready}
use Rattle.ynl_waits.proofs.Among.{IsAmong, each-among, among-each, among-filter, among-flat, among-left, among-map, among-right}

-- ---- what the requests are

-- a request is for the master of an application that waits, or one of its asks
pub data Source (s : State) (app : Application) (request : Request) : Type 0 where
  of_master : runs s app ≡ false → request ≡ master_request app → Source s app request
  of_ask : (ask : AskRow) → IsAmong ask app.asks → request ≡ ask_request ask.label (pending ask) → Source s app request

-- what holds of asks holds of them in the order of their priority
put-each : (P : AskRow → Type 0) (ask : AskRow) (others : List AskRow) → P ask → AllByRecursion P others → AllByRecursion P (by_priority ask others)
put-each P ask [] k h = (k, tt)
put-each P ask (other ∷ others) k h = go (nat_lt ask.priority other.priority) (put-each P ask others k h.1)
  where
    go : (b : Bool) → AllByRecursion P (by_priority ask others) → AllByRecursion P (cond b (ask ∷ other ∷ others) (other ∷ by_priority ask others))
    go true rest = (k, h)
    go false rest = (h.0, rest)

sorted-each : (P : AskRow → Type 0) (asks : List AskRow) → AllByRecursion P asks → AllByRecursion P (sorted asks)
sorted-each P [] h = tt
sorted-each P (ask ∷ asks) h = put-each P ask (sorted asks) h.0 (sorted-each P asks h.1)

under-are : (s : State) (app : Application) (label : Label) → AllByRecursion (Source s app) (asks_under app label)
under-are s app label = Each-map (λ shown. Source s app (ask_request label shown)) (Source s app) (ask_request label) (λ shown k. k) _
    (Each-map (λ (ask : AskRow). IsAmong ask app.asks × (same_label ask.label label ≡ true)) (λ shown. Source s app (ask_request label shown)) pending
    (λ ask k. of_ask ask k.0 (λ i. ask_request (sym (same-label_path ask.label label k.1) i) (pending ask))) _
    (sorted-each (λ (ask : AskRow). IsAmong ask app.asks × (same_label ask.label label ≡ true)) (filter (λ (ask : AskRow). same_label ask.label label) app.asks)
    (Each-both (λ ask. IsAmong ask app.asks) (λ (ask : AskRow). same_label ask.label label ≡ true) (filter (λ (ask : AskRow). same_label ask.label label) app.asks)
    (Each-filter (λ ask. IsAmong ask app.asks) (λ (ask : AskRow). same_label ask.label label) app.asks (each-among app.asks)) (filter-passes (λ (ask : AskRow). same_label ask.label label) app.asks))))

pub requests-are : (c : Config) (s : State) (app : Application) → AllByRecursion (Source s app) (requests c s app)
unfolding requests
requests-are c s app = Each-append (Source s app) _ (flat_map (asks_under app) (partition_labels c.labels)) (go (runs s app) refl)
    (Each-flat (λ (label : Label). ⊤) (Source s app) (asks_under app) (λ label _. under-are s app label) (partition_labels c.labels) (Each-all (λ (label : Label). ⊤) (λ label. tt) (partition_labels c.labels)))
  where
    go : (b : Bool) → runs s app ≡ b → AllByRecursion (Source s app) (cond b [] (master_request app ∷ []))
    go true e = tt
    go false e = (of_master e refl, tt)

-- ---- where they are among those that are served

default-label : (label : Label) → is_default label ≡ true → label ≡ Unlabelled
default-label Unlabelled h = refl
default-label (Named name) h = absurd (true≢false (sym h))

-- a partition where something comes as a guest takes guests
pub guests-taken : (c : Config) (p : Label) (what : What) → comes_as_guest c p what ≡ true → takes_guests c p ≡ true
guests-taken c p Master h = absurd (true≢false (sym h))
guests-taken c p (Asked label priority) h = (and_parts (is_default label) _ h).1

module _ (s : State) (app : Application) (live : IsAmong app (all_apps s.leaves)) (wanted : AllByRecursion (λ (ask : AskRow). nat_lt 0 ask.count ≡ true) app.asks) where
  master-there : runs s app ≡ false → IsAmong (master_item app) (items_for s app.home)
  unfolding items_for
  master-there waiting = among-left (master_item app) (masters_for s app.home) (asks_for s app.home)
      (among-map master_item app (filter (λ (other : Application). waits s other && same_label other.home app.home) (all_apps s.leaves))
      (among-filter (λ (other : Application). waits s other && same_label other.home app.home) app (all_apps s.leaves) (and_from _ _ (ap not waiting) (same-label_self app.home)) live))

  ask-there : (ask : AskRow) → IsAmong ask app.asks → runs s app ≡ true → IsAmong (ask_item app ask) (asks_for s ask.label)
  unfolding asks_for
  ask-there ask here running = among-flat (asks_of ask.label) (ask_item app ask) app (filter (runs s) (all_apps s.leaves)) (among-filter (runs s) app (all_apps s.leaves) running live)
      (among-map (ask_item app) ask (filter (λ (other : AskRow). same_label other.label ask.label && nat_lt 0 other.count) app.asks)
      (among-filter (λ (other : AskRow). same_label other.label ask.label && nat_lt 0 other.count) ask app.asks (and_from _ _ (same-label_self ask.label) (among-each (λ (other : AskRow). nat_lt 0 other.count ≡ true) ask app.asks wanted here)) here))

  -- among the requests for its own partition
  pub request-there : (request : Request) → Source s app request → is_ready (applicant s app) request.what ≡ true → IsAmong (item (applicant s app) request) (items_for s request.label)
  unfolding items_for
  request-there request (of_master waiting e) ready = subst (λ (r : Request). IsAmong (item (applicant s app) r) (items_for s r.label)) (sym e) (master-there waiting)
  request-there request (of_ask ask here e) ready = subst (λ (r : Request). IsAmong (item (applicant s app) r) (items_for s r.label)) (sym e)
      (among-right (ask_item app ask) (masters_for s ask.label) (asks_for s ask.label) (ask-there ask here (sym (ap (λ r. is_ready (applicant s app) r.what) e) ∙ ready)))

  -- and among those that guests come from
  pub guest-there : (c : Config) (p : Label) (request : Request) → Source s app request → runs s app ≡ true → comes_as_guest c p request.what ≡ true → IsAmong (item (applicant s app) request) (asks_for s Unlabelled)
  guest-there c p request (of_master waiting e) running guest = absurd (true≢false (sym running ∙ waiting))
  guest-there c p request (of_ask ask here e) running guest =
      let asked : (is_default ask.label && takes_guests c p) ≡ true = sym (ap (λ (r : Request). comes_as_guest c p r.what) e) ∙ guest in
      subst (λ (r : Request). IsAmong (item (applicant s app) r) (asks_for s Unlabelled)) (sym e)
      (subst (λ l. IsAmong (ask_item app ask) (asks_for s l)) (default-label ask.label (and_parts (is_default ask.label) _ asked).0) (ask-there ask here running))
