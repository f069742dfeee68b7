use Rattle.std.proofs.Common.{ap}
use Rattle.ynl_model.specs.declared.events.Event.TheVariants.{Register}
use Rattle.ynl_model.specs.declared.replies.Reply.TheVariants.{Done}
use Rattle.ynl_cluster.specs.Cluster.{ClusterView}
use Rattle.ynl_search.proofs.notes.NodesKeeping.{joined-shut}
use Rattle.ynl_core.proofs.Accepted as does
use Rattle.ynl_core.proofs.Stepping.{works}
use Rattle.ynl_core.proofs.cluster.Core.register.Goals as goal

pub invariant_of-self-2 : goal.invariant_of-self-2
invariant_of-self-2 c = record {
  working =
      works c.self.inside.cluster c.join.new.self (Register c.args.name.now c.args.label.now c.args.size.now) Done (c.in-Ok.ensures.free c.args.size.now) (ap (λ (w : ClusterView). w.config) c.in_ok-join.ensures.ok)
      (does.registered c.self.inside.cluster c.join.new.self c.args.name.now c.args.label.now c.args.size.now c.in-Ok.p c.in-Ok.ensures.joins c.in_ok-join.ensures.state) c.amount-sized.ensures.range c.self.invariant.working;
  shut =
      joined-shut c.self.inside.cluster c.join.new.self c.inventory.ensures.sound c.inventory-2.ensures.sound c.self.invariant.working.works c.inventory.ensures.configured c.inventory-2.ensures.configured
      (ap (λ (w : ClusterView). w.config) c.in_ok-join.ensures.ok) c.self.inside.shut c.forget.new.self c.args.name.now c.in-Ok.p c.args.size.now c.in-Ok.ensures.joins.partition.there c.in_ok-join.ensures.state
      c.forget.ensures.own c.forget.ensures.guests c.self.invariant.shut;
  lists = c.forget_all.ensures c.join.new.self.rows;
}
