-- What is known where a container goes with its node.
use Rattle.std.proofs.Common.{ap, ◌∙◌, inr}
use Rattle.ynl_inventory.specs.Changes.{with_dropped}
use Rattle.ynl_inventory.specs.Parts.{app_row}
use Rattle.ynl_cluster.proofs.ledger.Calls.{dropped-uses, has-uses, leaf-number, line-inside, line-is, stands-there}
use Rattle.ynl_cluster.specs.Cluster.{ClusterView}
use Rattle.ynl_cluster.specs.Whole.{view_of}
use Rattle.ynl_cluster.proofs.Ending.{held-in, lanes-before, live-after, parts-after, small-after}
use Rattle.ynl_cluster.proofs.cluster.Cluster.discard.Goals as goal

pub container-held-requires : goal.container-held-requires
container-held-requires c = held-in c.self.inside c.args.self.now c.self.view_is c.args.p c.args.number c.requires

pub app-app-requires : goal.app-app-requires
app-app-requires c = (stands-there c.self.inside.inventory.rows c.self.invariant.parts.sound c.args.p c.args.number c.container-held.result c.container-held.ensures).1

pub line-line-requires : goal.line-line-requires
line-line-requires c =
    leaf-number c.self.inside.inventory.rows c.self.invariant.parts.sound c.container-held.result.app (app_row c.app-app.result.now) c.app-app.ensures c.layout.result.now c.layout.ensures

pub lower-requires-clause-partition : goal.lower-requires-clause-partition
lower-requires-clause-partition c =
    has-uses c.self.inside.inventory.rows c.self.inside.uses c.self.invariant.parts.uses_are c.args.p
    (stands-there c.self.inside.inventory.rows c.self.invariant.parts.sound c.args.p c.args.number c.container-held.result c.container-held.ensures).0

pub lower-requires-clause-inside : goal.lower-requires-clause-inside
lower-requires-clause-inside c =
    line-inside c.self.inside.inventory.rows c.self.inside.uses c.self.invariant.parts.uses_are c.args.p c.container-held.result.app c.line-line.result.now
    (stands-there c.self.inside.inventory.rows c.self.invariant.parts.sound c.args.p c.args.number c.container-held.result c.container-held.ensures).0
    (line-is c.self.inside.inventory.rows c.container-held.result.app (app_row c.app-app.result.now) c.app-app.ensures c.layout.result.now c.layout.ensures c.line-line.result.now c.line-line.ensures.way)

pub discard-gone-requires : goal.discard-gone-requires
discard-gone-requires c = held-in c.self.inside c.args.self.now c.self.view_is c.args.p c.args.number c.requires

pub follow_end-requires-clause-live : goal.follow_end-requires-clause-live
follow_end-requires-clause-live c =
    live-after c.self.inside c.self.invariant c.args.self.now c.self.view_is c.args.p c.args.number c.discard-gone.result c.discard-gone.ensures.value c.discard-gone.new.self.rows (inr c.discard-gone.ensures.rows)

pub follow_end-requires-clause-start : goal.follow_end-requires-clause-start
follow_end-requires-clause-start c =
    lanes-before c.self.inside c.self.invariant c.args.self.now c.self.view_is c.args.p c.args.number c.discard-gone.result c.discard-gone.ensures.value c.discard-gone.new.self.rows (inr c.discard-gone.ensures.rows)

pub follow_end-requires-clause-small : goal.follow_end-requires-clause-small
follow_end-requires-clause-small c =
    small-after c.self.inside c.self.invariant c.args.self.now c.self.view_is c.args.p c.args.number c.discard-gone.result c.discard-gone.ensures.value c.discard-gone.new.self.rows (inr c.discard-gone.ensures.rows)

pub invariant_of-self : goal.invariant_of-self
invariant_of-self c = record {
  settings = c.self.invariant.settings;
  parts =
      parts-after c.self.inside c.self.invariant c.args.self.now c.self.view_is c.args.p c.args.number c.discard-gone.result c.discard-gone.ensures.value c.discard-gone.new.self.rows (inr c.discard-gone.ensures.rows) c.lower.new.self
      (dropped-uses c.self.inside.inventory.rows c.self.inside.uses c.self.invariant.parts.uses_are c.self.invariant.parts.sound c.args.p c.args.number c.container-held.result c.container-held.ensures c.line-line.result.now
      (line-is c.self.inside.inventory.rows c.container-held.result.app (app_row c.app-app.result.now) c.app-app.ensures c.layout.result.now c.layout.ensures c.line-line.result.now c.line-line.ensures.way)
      c.tally_of.result c.tally_of.ensures c.lower.new.self c.lower.ensures c.discard-gone.new.self.rows c.discard-gone.ensures.rows)
      c.follow_end.new.lanes c.follow_end.ensures;
}

pub returns : goal.returns
returns c =
    (λ i. record (view_of c.self.inside) { rows = c.discard-gone.ensures.rows i; rooms = c.discard-gone.new.self.rooms; ready = c.discard-gone.ensures.ready i })
    ∙ ap (λ (w : ClusterView). record w { rows = with_dropped c.args.p c.args.number w.rows; rooms = c.discard-gone.new.self.rooms }) c.self.view_is
