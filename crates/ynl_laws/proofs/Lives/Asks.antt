-- The asks of an application differ in label or priority, and so each is what its label and priority find.
use Rattle.std.proofs.Common.{◌≡◌, ◌-◌, Bool, true, false, cond, not, ◌&&◌, ◌==◌, List, [], ◌∷◌, Some, find, filter, refl, sym, subst, ◌∙◌, arith}
use Rattle.std.specs.Prelude.{⊤}
use Rattle.std.specs.List.{AllByRecursion}
use Rattle.std.proofs.lemmas.Bool.Decides.{nat_tests}
use Rattle.ynl_resource.specs.Names.{same_name, same_label, same_path}
use Rattle.ynl_resource.specs.declared.paths.Path.{Path}
use Rattle.ynl_resource.specs.Tables.{without, put}
use Rattle.ynl_model.specs.Queues.{Config, QueueRow, is_leaf}
use Rattle.ynl_model.specs.Applications.{Application, LeafApps, in_leaf, submitted, with_app, finished, is_ask_of, set_ask}
use Rattle.ynl_model.specs.declared.applications.AskRow.{AskRow}
use Rattle.ynl_model.specs.declared.proposals.What.{What}
use Rattle.ynl_model.specs.declared.proposals.What.TheVariants.{Master, Ask as Asked}
use Rattle.ynl_model.specs.Changes.{node_joins, node_leaves, changed_at, taken, place, end, app_finishes}
use Rattle.ynl_model.specs.Events.{state_after}
use Rattle.ynl_model.specs.declared.events.Event.{Event}
use Rattle.ynl_laws.specs.Untied.{Differs, Distinct, AllDistinct}
use Rattle.ynl_laws.specs.Working.{Pairs}
use Rattle.ynl_laws.proofs.Events.Lasting.{Lasts, lasting}
use Rattle.ynl_laws.proofs.Lists.{Each-filter, Each-append, Each-map, Each-all, Each-weaker, Each-with, Pairs-filter, Pairs-map, Each-update, Each-put}
use Rattle.ynl_laws.proofs.Names.{same-label_path, same-label_self}
use Rattle.std.proofs.lemmas.Bool.{and_from, and_parts}

-- then each ask is what is found
pub each-found : (asks : List AskRow) → Pairs Differs asks → AllByRecursion (λ ask. find (is_ask_of ask.label ask.priority) asks ≡ Some ask) asks
each-found [] h = tt
each-found (ask ∷ asks) h = (
  (λ i. cond (self ask i) (Some ask) (find (is_ask_of ask.label ask.priority) asks)),
  Each-with (Differs ask) (λ other. find (is_ask_of other.label other.priority) asks ≡ Some other) (λ other. find (is_ask_of other.label other.priority) (ask ∷ asks) ≡ Some other)
      (λ other off e. (λ i. cond (off i) (Some ask) (find (is_ask_of other.label other.priority) asks)) ∙ e) asks h.0 (each-found asks h.1),
)
  where
    self : (ask : AskRow) → is_ask_of ask.label ask.priority ask ≡ true
    self ask = and_from _ _ (same-label_self ask.label) (grind (arith, nat_tests))

-- ---- changes of asks

-- one less is asked for
distinct-taken : (what : What) (app : Application) → Distinct app → Distinct (taken what app)
distinct-taken Master app h = h
distinct-taken (Asked label priority) app h = Pairs-filter Differs _ _ (Pairs-map Differs _ (λ a b off. go (is_ask_of label priority a) (is_ask_of label priority b) a b off) app.asks h)
  where
    go : (x y : Bool) (a b : AskRow) → Differs a b → Differs (cond x (record a { count = a.count - 1 }) a) (cond y (record b { count = b.count - 1 }) b)
    go true true a b off = off
    go true false a b off = off
    go false true a b off = off
    go false false a b off = off

-- an ask takes the place of the one that its label and priority find
Pairs-put : (new : AskRow) (asks : List AskRow) → Pairs Differs asks → Pairs Differs (put (is_ask_of new.label new.priority) new asks)
Pairs-put new [] h = (tt, tt)
Pairs-put new (ask ∷ asks) h = go (is_ask_of new.label new.priority ask) refl (Pairs-put new asks h.1)
  where
    same : (other : AskRow) → is_ask_of new.label new.priority ask ≡ true → Differs ask other → Differs new other
    same other e off =
        let number : ask.priority ≡ new.priority = priorities (and_parts (same_label ask.label new.label) _ e).1 in
        (λ i. same_label (sym (same-label_path ask.label new.label (and_parts _ _ e).0) i) other.label && (sym number i == other.priority)) ∙ off
      where
        priorities : (ask.priority == new.priority) ≡ true → ask.priority ≡ new.priority
        priorities k = grind (arith, nat_tests, k)

    go : (b : Bool) → is_ask_of new.label new.priority ask ≡ b → Pairs Differs (put (is_ask_of new.label new.priority) new asks) → Pairs Differs (cond b (new ∷ asks) (ask ∷ put (is_ask_of new.label new.priority) new asks))
    go true e rest = (Each-weaker (Differs ask) (Differs new) (λ other off. same other e off) asks h.0, h.1)
    go false e rest = (Each-put (Differs ask) (is_ask_of new.label new.priority) new e asks h.0, rest)

distinct-asked : (ask : AskRow) (app : Application) → Distinct app → Distinct (set_ask ask app)
distinct-asked ask app h = go (ask.count == 0)
  where
    go : (b : Bool) → Pairs Differs (cond b (without (is_ask_of ask.label ask.priority) app.asks) (put (is_ask_of ask.label ask.priority) ask app.asks))
    go true = Pairs-filter Differs (λ other. not (is_ask_of ask.label ask.priority other)) app.asks h
    go false = Pairs-put ask app.asks h

-- ---- what stays

changed : (leaves : List LeafApps) (leaf : Path) (change : LeafApps → LeafApps) → ((row : LeafApps) → AllByRecursion Distinct row.apps → AllByRecursion Distinct (change row).apps) → AllDistinct leaves → AllDistinct (in_leaf leaf change leaves)
changed leaves leaf change keeps h = Each-update (λ row. AllByRecursion Distinct row.apps) (λ row. same_path row.leaf leaf) change keeps leaves h

distinct-lasts : (c : Config) → Lasts (λ s. AllDistinct s.leaves) c
unfolding node_joins node_leaves end place changed_at app_finishes
distinct-lasts c = record {
  joins = λ s name label size h. h;
  leaves = λ s node h. h;
  ends = λ s container h. h;
  placed = λ s node item h kept finds known wanted.
      changed s.leaves item.leaf (with_app item.app (taken item.what)) (λ row k. Each-update Distinct (λ app. same_name app.name item.app) (taken item.what) (distinct-taken item.what) row.apps k) h;
  submits = λ s app h kept finds unused may none. changed s.leaves app.leaf (submitted app) (λ row k. Each-append Distinct row.apps _ k (subst (Pairs Differs) (sym none) tt, tt)) h;
  asks = λ s tenant name found ask h finds e own. changed s.leaves found.leaf (with_app name (set_ask ask)) (λ row k. Each-update Distinct (λ app. same_name app.name name) (set_ask ask) (distinct-asked ask) row.apps k) h;
  finishes = λ s found h finds. changed s.leaves found.leaf (finished found.name) (λ row k. Each-filter Distinct _ row.apps k) h;
  elsewhere = λ s u nodes rows leaves h. subst AllDistinct leaves h;
}

-- in each state the asks of each application differ
pub distinct-after : (c : Config) (events : List Event) → AllDistinct (state_after c events).leaves
distinct-after c events = lasting (λ s. AllDistinct s.leaves) c (distinct-lasts c)
    (Each-map (λ (row : QueueRow). ⊤) (λ row. AllByRecursion Distinct row.apps) _ (λ row _. tt) (filter (λ row. is_leaf c row.path) c.queues) (Each-all (λ (row : QueueRow). ⊤) (λ row. tt) (filter (λ row. is_leaf c row.path) c.queues))) events
