-- A live application comes as its line says.
use Rattle.std.proofs.Common.{◌∙◌, ap}
use Rattle.ynl_cluster.specs.Cluster.{ClusterView, state_in}
use Rattle.ynl_saved.specs.declared.lines.StateLine.TheVariants.{Live}
use Rattle.ynl_saved.specs.Restoring.{with_line}
use Rattle.ynl_snapshots.proofs.restoring.Coming.{can-submit, live-told}
use Rattle.ynl_snapshots.proofs.restoring.Taken.{taken}
use Rattle.ynl_snapshots.proofs.restoring.applications.take_live.Goals as goal

pub submit-requires : goal.submit-requires
submit-requires c =
    can-submit c.args.cluster.now c.user.new.self c.args.user.now c.in_ok-user.ensures.ok c.args.queue.now c.args.app.now c.args.label.now c.in-Some.numbers c.in-Some.ensures.comes c.in_ok-user.field-0 c.in_ok-user.ensures.own c.args.master.now

pub returns : goal.returns
unfolding with_line
returns c r is =
    taken c.args.cluster.now c.submit.new.self r (Live c.args.queue.now c.args.app.now c.args.user.now c.args.label.now c.args.master.now) (c.in-Some.ensures.sound r c.args.user.now is)
    (ap (λ (w : ClusterView). w.config) c.in_ok-submit.ensures.rows.1 ∙ ap (λ (w : ClusterView). w.config) c.in_ok-user.ensures.ok)
    (live-told c.args.cluster.now c.user.new.self c.args.user.now c.in_ok-user.ensures.ok c.args.queue.now c.args.app.now c.args.label.now c.in-Some.numbers c.in-Some.ensures.comes c.in_ok-user.field-0 c.in_ok-user.ensures.own c.args.master.now
    c.in_ok-user.ensures.state (state_in c.submit.new.self) c.in_ok-submit.ensures.state)
