-- A live application is found by its own tenant and name.
use Rattle.std.proofs.Common.{ap, subst, sym, ◌∙◌}
use Rattle.ynl_resource.specs.declared.names.Name.{Name}
use Rattle.ynl_model.specs.Applications.{find_app}
use Rattle.ynl_cluster.specs.Cluster.{state_in}
use Rattle.ynl_replies.specs.admission.Named.{IsAppNamed}
use Rattle.ynl_service.proofs.reading.Askers.{asker-named, below, not-missing}
use Rattle.ynl_service.proofs.reading.asking.asker.Goals as goal

pub unreachable-requires : goal.unreachable-requires
unreachable-requires c = c.in_default.ensures (below c.args.cluster.now c.inventory.ensures.sound c.args.app.now c.args.label.now c.requires)

pub unreachable-requires-in_default-app_named : goal.unreachable-requires-in_default-app_named
unreachable-requires-in_default-app_named c =
    not-missing c.args.cluster.now c.inventory.ensures.sound c.args.app.now c.args.label.now c.requires
    (ap (λ (tenant : Name). find_app (state_in c.args.cluster.now).leaves tenant c.args.app.now.name) (sym c.in-Some.ensures.1) ∙ c.in_default-app_named.ensures.none)

pub returns : goal.returns
returns c =
    asker-named c.args.cluster.now c.inventory.ensures.sound c.args.app.now c.args.label.now c.requires c.in-Some-app_named.number
    (subst (λ (tenant : Name). IsAppNamed c.args.cluster.now tenant c.args.app.now.name c.in-Some-app_named.number) c.in-Some.ensures.1 c.in-Some-app_named.ensures.some)
