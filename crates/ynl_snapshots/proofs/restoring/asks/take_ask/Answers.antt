-- An application asks as its line says.
use Rattle.std.proofs.Common.{◌∙◌, ap}
use Rattle.ynl_model.specs.Applications.{in_leaf, set_ask, with_app}
use Rattle.ynl_inventory.specs.Meaning.{app_name}
use Rattle.ynl_cluster.specs.Cluster.{ClusterView, path_of, state_in}
use Rattle.ynl_saved.specs.declared.lines.StateLine.TheVariants.{Ask}
use Rattle.ynl_saved.specs.Restoring.{with_line}
use Rattle.ynl_snapshots.proofs.restoring.NewAsks.{asked-told}
use Rattle.ynl_snapshots.proofs.restoring.Taken.{taken}
use Rattle.ynl_snapshots.proofs.restoring.asks.take_ask.Goals as goal

pub returns : goal.returns
unfolding with_line
returns c r is =
    taken c.args.cluster.now c.ask.new.self r (Ask c.args.tenant.now c.args.name.now c.args.row.now) (c.in-Some.ensures.sound r is) (ap (λ (w : ClusterView). w.config) c.in_ok-ask.ensures.ok)
    (c.in_ok-ask.ensures.state c.in-Some.ensures.asks.can.app.row c.in-Some.ensures.asks.can.app.found
    ∙ ap (λ ask. record (state_in c.args.cluster.now) { leaves = in_leaf (path_of c.args.cluster.now c.in-Some.ensures.asks.can.app.row.leaf) (with_app (app_name c.args.cluster.now.rows.tenants c.in-Some.ensures.asks.can.app.row.tenant c.in-Some.ensures.asks.can.app.row.turn) (set_ask ask)) (state_in c.args.cluster.now).leaves }) c.in-Some.ensures.asks.can.means
    ∙ asked-told c.args.cluster.now c.inventory.ensures.sound c.in-Some.asking.app c.in-Some.ensures.asks.can.app.row c.in-Some.ensures.asks.can.app.found c.args.tenant.now c.args.name.now c.in-Some.ensures.asks.can.app.named c.args.row.now c.in-Some.ensures.asks.counted c.in-Some.ensures.asks.new)
