use Rattle.std.proofs.Common.{◌≡◌, nat_eq, Some, ap}
use Rattle.std.specs.Map.{lookup}
use Rattle.ynl_model.specs.declared.events.Event.TheVariants.{Lost}
use Rattle.ynl_model.specs.declared.replies.Reply.TheVariants.{Done}
use Rattle.ynl_inventory.specs.Parts.{node_row}
use Rattle.ynl_cluster.specs.Cluster.{ClusterView}
use Rattle.ynl_search.proofs.notes.NodesKeeping.{left-shut}
use Rattle.ynl_core.proofs.Accepted as does
use Rattle.ynl_core.proofs.Stepping.{works}
use Rattle.ynl_core.proofs.cluster.Core.lost.Goals as goal

pub invariant_of-self : goal.invariant_of-self
invariant_of-self c = record {
  working =
      works c.self.inside.cluster c.leave.new.self (Lost c.args.name.now) Done c.in-Ok.ensures.free (ap (λ (w : ClusterView). w.config) c.leave.ensures.rows)
      (does.lost c.self.inside.cluster c.leave.new.self c.args.name.now c.in-Ok.node c.in-Ok.ensures.node (c.leave.ensures.state c.in-Ok.ensures.node.row c.in-Ok.ensures.node.found)) tt c.self.invariant.working;
  shut =
      let row = node_row c.node.result.now in
      let found : lookup (nat_eq c.in-Ok.node) c.self.inside.cluster.rows.nodes ≡ Some row = rw c.inventory.ensures.value at c.node.ensures in
      left-shut c.self.inside.cluster c.leave.new.self c.inventory.ensures.sound c.inventory-2.ensures.sound c.self.invariant.working.works c.inventory.ensures.configured c.inventory-2.ensures.configured
      (ap (λ (w : ClusterView). w.config) c.leave.ensures.rows) c.self.inside.shut c.forget.new.self c.in-Ok.node row found (c.leave.ensures.state row found) c.forget.ensures.own c.forget.ensures.guests c.self.invariant.shut;
  lists = c.forget_all.ensures c.leave.new.self.rows;
}
