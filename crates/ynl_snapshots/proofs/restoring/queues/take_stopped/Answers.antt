-- A queue is stopped as its line says.
use Rattle.std.proofs.Common.{◌∙◌, true, ap}
use Rattle.ynl_model.specs.Queues.{set_stop}
use Rattle.ynl_cluster.specs.Cluster.{ClusterView, state_in}
use Rattle.ynl_saved.specs.declared.lines.StateLine.TheVariants.{Stopped}
use Rattle.ynl_saved.specs.Restoring.{with_line}
use Rattle.ynl_snapshots.proofs.restoring.Taken.{taken}
use Rattle.ynl_snapshots.proofs.restoring.queues.take_stopped.Goals as goal

pub returns-in-Some : goal.returns-in-Some
unfolding with_line
returns-in-Some c r is =
    taken c.args.cluster.now c.set_stopped.new.self r (Stopped c.args.queue.now) (c.in-Some.ensures.sound r is) (ap (λ (w : ClusterView). w.config) c.set_stopped.ensures.rows)
    (c.set_stopped.ensures.state ∙ ap (λ path. record (state_in c.args.cluster.now) { stops = set_stop path true (state_in c.args.cluster.now).stops }) c.in-Some.ensures.queue.queue.own)
