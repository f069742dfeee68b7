-- No ask of a live application counts more than an ask may: that stays with the lines of applications and of asks that count no more.
use Rattle.std.proofs.Common.{◌≡◌, ◌≤◌, ◌-◌, ◌==◌, ℕ, Bool, true, false, cond, not, arith, List, [], ◌∷◌, Some, filter, sym, subst}
use Rattle.std.specs.List.{AllByRecursion}
use Rattle.std.specs.Prelude.{IsTrue, ⊤}
use Rattle.ynl_resource.specs.Names.{same_path}
use Rattle.ynl_resource.specs.Ranges.{most_count}
use Rattle.ynl_resource.specs.Tables.{put, without}
use Rattle.ynl_resource.specs.declared.names.Name.{Name}
use Rattle.ynl_resource.specs.declared.paths.Path.{Path}
use Rattle.ynl_model.specs.Accepted.{is_accepted}
use Rattle.ynl_model.specs.Applications.{Application, LeafApps, find_app, in_leaf, is_ask_of, no_apps, set_ask, submitted, with_app}
use Rattle.ynl_model.specs.Changes.{taken}
use Rattle.ynl_model.specs.Cluster.{State}
use Rattle.ynl_model.specs.Events.{after, step}
use Rattle.ynl_model.specs.Queues.{Config, QueueRow, is_leaf}
use Rattle.ynl_model.specs.declared.applications.AskRow.{AskRow}
use Rattle.ynl_model.specs.declared.events.Event.{Event}
use Rattle.ynl_model.specs.declared.proposals.What.TheVariants.{Master, Ask as Asked}
use Rattle.ynl_model.specs.declared.proposals.What.{What}
use Rattle.ynl_laws.specs.Working.{Kept}
use Rattle.ynl_laws.proofs.Events.Found.{FindsAll}
use Rattle.ynl_laws.proofs.Lists.{Each-all, Each-append, Each-filter, Each-map, Each-put, Each-update}
pub use Rattle.ynl_saved.specs.Asks.{AllWithin}
use Rattle.ynl_saved.specs.Asks.{IsCounted, IsWithin}
use Rattle.ynl_saved.proofs.Asked.{adds, each-asked}
use Rattle.ynl_saved.proofs.Asking.{StaysAsking, step-asking}
use Rattle.ynl_saved.proofs.Closed.{closed}
use Rattle.ynl_saved.proofs.Tellable.{IsTellable, tellable-step}

-- at first there are none
pub within-opening : (c : Config) → AllWithin (no_apps c)
within-opening c = Each-map (λ (row : QueueRow). ⊤) (λ (row : LeafApps). AllByRecursion (λ (app : Application). AllByRecursion IsWithin app.asks) row.apps) _ (λ row _. tt)
    (filter (λ row. is_leaf c row.path) c.queues)
    (Each-all (λ (row : QueueRow). ⊤) (λ row. tt) (filter (λ row. is_leaf c row.path) c.queues))

-- an application comes that asks for nothing
pub within-comes : (app : Application) (leaves : List LeafApps) → app.asks ≡ [] → AllWithin leaves → AllWithin (in_leaf app.leaf (submitted app) leaves)
within-comes app leaves none h = Each-update (λ row. AllByRecursion (λ (app : Application). AllByRecursion IsWithin app.asks) row.apps) (λ row. same_path row.leaf app.leaf) (submitted app)
    (λ row k. Each-append (λ (app : Application). AllByRecursion IsWithin app.asks) row.apps (app ∷ []) k (subst (AllByRecursion IsWithin) (sym none) tt, tt)) leaves h

-- an ask comes last that counts no more
pub within-asks : (c : Config) → IsTrue (is_accepted c) → (s : State) (tenant name : Name) (found : Application) (ask : AskRow) → FindsAll s.leaves → find_app s.leaves tenant name ≡ Some found →
    IsWithin ask → AllWithin s.leaves →
    AllWithin (in_leaf found.leaf (with_app name (adds ask)) s.leaves)
within-asks c accepted s tenant name found ask finds e within h = each-asked c accepted s tenant name found finds e (λ (app : Application). AllByRecursion IsWithin app.asks) (adds ask)
    (λ k. Each-append IsWithin found.asks (ask ∷ []) k (within, tt)) h

-- a name comes last
pub within-closed : (queue : Path) (name : Name) (leaves : List LeafApps) → AllWithin leaves → AllWithin (in_leaf queue (closed name) leaves)
within-closed queue name leaves h = Each-update (λ row. AllByRecursion (λ (app : Application). AllByRecursion IsWithin app.asks) row.apps) (λ row. same_path row.leaf queue) (closed name)
    (λ row k. k) leaves h

-- it stays where one less is asked for, and where an ask is set that counts no more
pub within-stays : StaysAsking (λ (app : Application). AllByRecursion IsWithin app.asks) IsWithin
within-stays = record { comes = λ app none. subst (AllByRecursion IsWithin) (sym none) tt; takes = takes; asks = asks }
  where
    takes : (what : What) (app : Application) → AllByRecursion IsWithin app.asks → AllByRecursion IsWithin (taken what app).asks
    takes Master app h = h
    takes (Asked label priority) app h = Each-filter IsWithin _ _ (Each-update IsWithin (is_ask_of label priority) (λ ask. record ask { count = ask.count - 1 })
        (λ ask k. fewer ask.count k) app.asks h)
      where
        fewer : (n : ℕ) → n ≤ most_count → n - 1 ≤ most_count
        fewer n k = omega (arith, k)

    asks : (ask : AskRow) (app : Application) → IsWithin ask → AllByRecursion IsWithin app.asks → AllByRecursion IsWithin (set_ask ask app).asks
    asks ask app within h = go (ask.count == 0)
      where
        go : (b : Bool) → AllByRecursion IsWithin (cond b (without (is_ask_of ask.label ask.priority) app.asks) (put (is_ask_of ask.label ask.priority) ask app.asks))
        go true = Each-filter IsWithin (λ other. not (is_ask_of ask.label ask.priority other)) app.asks h
        go false = Each-put IsWithin (is_ask_of ask.label ask.priority) ask within app.asks h

-- it stays with each event that sets no ask that counts more
pub within-step : (c : Config) (s : State) (event : Event) → Kept s → IsCounted event → AllWithin s.leaves → AllWithin (step c s event).state.leaves
within-step c s event kept counted h = step-asking (λ (app : Application). AllByRecursion IsWithin app.asks) IsWithin c within-stays s event kept counted h

-- and with each list of them
pub within-after : (c : Config) → IsTrue (is_accepted c) → (events : List Event) (s : State) → IsTellable c s → AllByRecursion IsCounted events → AllWithin s.leaves →
    AllWithin (after c s events).leaves
within-after c accepted [] s tellable counted h = h
within-after c accepted (event ∷ events) s tellable counted h =
    let base = tellable.base in
    within-after c accepted events (step c s event).state (tellable-step c accepted s event tellable) counted.1 (within-step c s event base.kept counted.0 h)
