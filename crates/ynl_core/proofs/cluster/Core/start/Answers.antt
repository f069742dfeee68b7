use Rattle.std.proofs.Common.{ap, subst, sym}
use Rattle.ynl_model.specs.declared.events.Event.TheVariants.{Start}
use Rattle.ynl_model.specs.declared.replies.Reply.TheVariants.{Done}
use Rattle.ynl_cluster.specs.Cluster.{ClusterView}
use Rattle.ynl_search.specs.notes.Shut.{AreShut}
use Rattle.ynl_core.proofs.Accepted as does
use Rattle.ynl_core.proofs.Known.{stopped-shut}
use Rattle.ynl_core.proofs.Stepping.{works}
use Rattle.ynl_core.proofs.cluster.Core.start.Goals as goal

pub invariant_of-self : goal.invariant_of-self
invariant_of-self c =
    let queue = c.in-Ok.ensures.queue in
    record {
      working =
          works c.self.inside.cluster c.set_stopped.new.self (Start c.args.queue.now) Done c.in-Ok.ensures.free_start (ap (λ (w : ClusterView). w.config) c.set_stopped.ensures.rows)
          (does.starts c.self.inside.cluster c.set_stopped.new.self c.args.queue.now c.in-Ok.number queue.queue c.set_stopped.ensures.state) tt c.self.invariant.working;
      shut = subst (λ (v : ClusterView). AreShut v c.self.inside.shut) (sym c.set_stopped.ensures.rows) (stopped-shut c.self.inside.cluster c.set_stopped.new.self.stops c.self.inside.shut c.self.invariant.shut);
      lists = c.forget_all.ensures c.set_stopped.new.self.rows;
    }
