use Rattle.std.proofs.Common.{◌≡◌, nat_eq, Some, ap, subst}
use Rattle.std.specs.Map.{lookup}
use Rattle.ynl_model.specs.declared.events.Event.TheVariants.{Relabel}
use Rattle.ynl_model.specs.declared.replies.Reply.TheVariants.{Done}
use Rattle.ynl_inventory.specs.Parts.{node_row}
use Rattle.ynl_cluster.specs.Cluster.{ClusterView}
use Rattle.ynl_search.proofs.notes.NodesKeeping.{moved-shut}
use Rattle.ynl_core.specs.World.{Answers, World}
use Rattle.ynl_core.proofs.Accepted as does
use Rattle.ynl_core.proofs.Stepping.{answers, works, world_in}
use Rattle.ynl_core.proofs.cluster.Core.relabel.Goals as goal

pub invariant_of-self-2 : goal.invariant_of-self-2
invariant_of-self-2 c =
    let node = c.in-Ok.ensures.moves.node in
    record {
      working =
          works c.self.inside.cluster c.relabel-2.new.self (Relabel c.args.name.now c.args.label.now) Done c.in-Ok.ensures.free (ap (λ (w : ClusterView). w.config) (c.in_ok-relabel.ensures.rows node.row node.found))
          (does.relabelled c.self.inside.cluster c.relabel-2.new.self c.args.name.now c.args.label.now c.in-Ok.moved c.in-Ok.ensures.moves (c.in_ok-relabel.ensures.state node.row node.found)) tt c.self.invariant.working;
      shut =
          let row = node_row c.node.result.now in
          let found : lookup (nat_eq c.in-Ok.moved.node) c.self.inside.cluster.rows.nodes ≡ Some row = rw c.inventory.ensures.value at c.node.ensures in
          moved-shut c.self.inside.cluster c.relabel-2.new.self c.inventory.ensures.sound c.inventory-2.ensures.sound c.self.invariant.working.works c.inventory.ensures.configured c.inventory-2.ensures.configured
          (ap (λ (w : ClusterView). w.config) (c.in_ok-relabel.ensures.rows node.row node.found)) c.self.inside.shut c.forget.new.self c.forget-2.new.self c.in-Ok.moved.node row c.in-Ok.moved.partition found
          c.in-Ok.ensures.moves.partition.there (c.in_ok-relabel.ensures.state row found) c.forget.ensures.own c.forget.ensures.guests c.forget-2.ensures.own c.forget-2.ensures.guests c.self.invariant.shut;
      lists = c.forget_all.ensures c.relabel-2.new.self.rows;
    }

pub returns-clause-ok : goal.returns-clause-ok
returns-clause-ok c =
    let node = c.in-Ok.ensures.moves.node in
    subst (λ (v : World). Answers v (Relabel c.args.name.now c.args.label.now) (world_in c.relabel-2.new.self) Done) c.self.view_is
    (answers c.self.inside.cluster c.relabel-2.new.self (Relabel c.args.name.now c.args.label.now) Done c.in-Ok.ensures.free (ap (λ (w : ClusterView). w.config) (c.in_ok-relabel.ensures.rows node.row node.found))
    (does.relabelled c.self.inside.cluster c.relabel-2.new.self c.args.name.now c.args.label.now c.in-Ok.moved c.in-Ok.ensures.moves (c.in_ok-relabel.ensures.state node.row node.found)))
