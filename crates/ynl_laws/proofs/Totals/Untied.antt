-- Where leaves and applications are found by their names, and the asks of each application differ, no two requests tie.
use Rattle.std.specs.List.{AllByRecursion}
use Rattle.ynl_resource.specs.declared.labels.Label.TheVariants.{Unlabelled}
use Rattle.ynl_resource.specs.Names.{tenant_of}
use Rattle.ynl_model.specs.Applications.{all_apps}
use Rattle.ynl_model.specs.Cluster.{State}
use Rattle.ynl_model.specs.Service.{items_for, asks_for}
use Rattle.ynl_laws.specs.First.{AreTabledUntied}
use Rattle.ynl_laws.specs.Tabled.{Tabled}
use Rattle.ynl_laws.proofs.Lists.{Each-flat, Each-weaker}
use Rattle.ynl_laws.proofs.Lives.InTurn.{IsInTurn}
use Rattle.ynl_laws.proofs.Service.Untied.{asks, requests, untied}
use Rattle.ynl_laws.proofs.Totals.Tabling.{is-found-in-leaf}

tabled-turns : (s : State) → Tabled s → AllByRecursion (IsInTurn s) (all_apps s.leaves)
tabled-turns s h = Each-flat (λ row. AllByRecursion (IsInTurn s) row.apps) (IsInTurn s) (λ row. row.apps) (λ row k. k) s.leaves
    (Each-weaker _ _ (λ row k. Each-weaker _ (IsInTurn s) (λ app found. (is-found-in-leaf s (tenant_of app.leaf) app.name app h found.itself).0) row.apps k) s.leaves h.finds)

pub are-tabled-untied : AreTabledUntied
are-tabled-untied c s h distinct =
    let turns = tabled-turns s h in
    record {
      requests = λ p. untied c s p (items_for s p) (requests s turns distinct p);
      guests = untied c s Unlabelled (asks_for s Unlabelled) (asks s turns distinct Unlabelled);
    }
