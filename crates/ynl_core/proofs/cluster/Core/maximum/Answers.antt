use Rattle.std.proofs.Common.{ap}
use Rattle.ynl_model.specs.declared.events.Event.TheVariants.{Maximum}
use Rattle.ynl_model.specs.declared.replies.Reply.TheVariants.{Done}
use Rattle.ynl_cluster.specs.Cluster.{ClusterView}
use Rattle.ynl_core.proofs.Accepted as does
use Rattle.ynl_core.proofs.Stepping.{none-shut, works}
use Rattle.ynl_core.proofs.cluster.Core.maximum.Goals as goal

pub invariant_of-self : goal.invariant_of-self
invariant_of-self c = record {
  working =
      works c.self.inside.cluster c.set_maximum.new.self (Maximum c.args.queue.now c.args.label.now c.args.share) Done c.in-Ok.ensures.free
      (ap (λ (w : ClusterView). w.config) c.set_maximum.ensures.rows)
      (does.bounds c.self.inside.cluster c.set_maximum.new.self c.args.queue.now c.args.label.now c.args.share c.in-Ok.cell c.in-Ok.ensures.cell c.set_maximum.ensures.state)
      tt c.self.invariant.working;
  shut = none-shut c.set_maximum.new.self c.self.inside.shut c.forget_all.new.self c.forget_all.ensures.own c.forget_all.ensures.guests;
  lists = c.forget_all-2.ensures c.set_maximum.new.self.rows;
}
