-- What is known where a clock is set.
use Rattle.std.proofs.Common.{ap, ◌∙◌}
use Rattle.ynl_inventory.specs.Changes.{with_clock}
use Rattle.ynl_inventory.specs.Parts.{Held}
use Rattle.ynl_cluster.specs.Cluster.{ClusterView}
use Rattle.ynl_cluster.specs.Whole.{view_of}
use Rattle.ynl_cluster.proofs.Times.{can-before, clock-parts, clock-state, has-before}
use Rattle.ynl_cluster.proofs.cluster.Cluster.set_clock.Goals as goal

pub set_clock-requires-clause-there : goal.set_clock-requires-clause-there
set_clock-requires-clause-there c = has-before c.self.inside c.self.invariant c.args.self.now c.self.view_is c.args.p c.args.clock c.requires.there

pub set_clock-requires-clause-can : goal.set_clock-requires-clause-can
set_clock-requires-clause-can c = can-before c.self.inside c.self.invariant c.args.self.now c.self.view_is c.args.p c.args.clock c.requires.there c.requires.can

pub invariant_of-self : goal.invariant_of-self
invariant_of-self c = record {
  settings = c.self.invariant.settings;
  parts =
      clock-parts c.self.inside c.self.invariant c.args.self.now c.self.view_is c.args.p c.args.clock c.requires.there c.set_clock.new.self.rows (ap (λ (h : Held). h.rows) c.set_clock.ensures) c.partition_count.ensures.sound;
}

pub returns-clause-rows : goal.returns-clause-rows
returns-clause-rows c =
    ap (λ (h : Held). record (view_of c.self.inside) { rows = h.rows; rooms = h.rooms; ready = h.ready }) c.set_clock.ensures
    ∙ ap (λ (w : ClusterView). record w { rows = with_clock c.args.p c.args.clock w.rows }) c.self.view_is

pub returns-clause-state : goal.returns-clause-state
returns-clause-state c =
    clock-state c.self.inside c.self.invariant c.args.self.now c.self.view_is c.args.p c.args.clock c.requires.there c.set_clock.new.self.rows (ap (λ (h : Held). h.rows) c.set_clock.ensures)
