-- What is known where a stamp is set.
use Rattle.std.proofs.Common.{sym, ap, subst, ◌∙◌}
use Rattle.ynl_slots.specs.Slots.{IsLive}
use Rattle.ynl_inventory.specs.Changes.{with_stamp}
use Rattle.ynl_inventory.specs.Parts.{Held}
use Rattle.ynl_cluster.specs.Cluster.{ClusterView}
use Rattle.ynl_cluster.specs.Whole.{view_of}
use Rattle.ynl_cluster.proofs.Times.{stamp-parts, stamp-state}
use Rattle.ynl_cluster.proofs.cluster.Cluster.set_stamp.Goals as goal

pub set_stamp-requires : goal.set_stamp-requires
set_stamp-requires c = subst (λ (w : ClusterView). IsLive c.args.node w.rows.nodes) (sym c.self.view_is) c.requires

pub invariant_of-self : goal.invariant_of-self
invariant_of-self c = record {
  settings = c.self.invariant.settings;
  parts =
      stamp-parts c.self.inside c.self.invariant c.args.self.now c.self.view_is c.args.node c.args.stamp c.set_stamp.new.self.rows (ap (λ (h : Held). h.rows) c.set_stamp.ensures) c.partition_count.ensures.sound;
}

pub returns-clause-rows : goal.returns-clause-rows
returns-clause-rows c =
    ap (λ (h : Held). record (view_of c.self.inside) { rows = h.rows; rooms = h.rooms; ready = h.ready }) c.set_stamp.ensures
    ∙ ap (λ (w : ClusterView). record w { rows = with_stamp c.args.node c.args.stamp w.rows }) c.self.view_is

pub returns-clause-state : goal.returns-clause-state
returns-clause-state c = stamp-state c.self.inside c.self.invariant c.args.self.now c.self.view_is c.args.node c.args.stamp c.set_stamp.new.self.rows (ap (λ (h : Held). h.rows) c.set_stamp.ensures)
