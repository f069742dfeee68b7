-- What is known where a container ends.
use Rattle.std.proofs.Common.{◌≡◌, Some, ap, subst, ◌∙◌, inl}
use Rattle.ynl_inventory.specs.Changes.{with_ended}
use Rattle.ynl_inventory.specs.Parts.{LeavesRoom, app_row, held_at}
use Rattle.ynl_cluster.proofs.ledger.Calls.{has-uses, leaf-number, line-inside, line-is, lowered-uses, stands-there}
use Rattle.ynl_cluster.specs.Cluster.{ClusterView}
use Rattle.ynl_cluster.specs.Whole.{view_of}
use Rattle.ynl_cluster.proofs.Ending.{held-in, lanes-before, live-after, parts-after, small-after, state-after}
use Rattle.ynl_cluster.proofs.cluster.Cluster.end.Goals as goal

pub container-held-requires : goal.container-held-requires
container-held-requires c = held-in c.self.inside c.args.self.now c.self.view_is c.args.p c.args.number c.requires

pub app-app-requires : goal.app-app-requires
app-app-requires c = (stands-there c.self.inside.inventory.rows c.self.invariant.parts.sound c.args.p c.args.number c.container-held.result c.container-held.ensures).1

pub line-line-requires : goal.line-line-requires
line-line-requires c =
    leaf-number c.self.inside.inventory.rows c.self.invariant.parts.sound c.container-held.result.app (app_row c.app-app.result.now) c.app-app.ensures c.layout.result.now c.layout.ensures

pub lower-requires-clause-partition : goal.lower-requires-clause-partition
lower-requires-clause-partition c =
    has-uses c.self.inside.inventory.rows c.self.inside.uses c.self.invariant.parts.uses_are c.args.p
    (stands-there c.self.inside.inventory.rows c.self.invariant.parts.sound c.args.p c.args.number c.container-held.result c.container-held.ensures).0

pub lower-requires-clause-inside : goal.lower-requires-clause-inside
lower-requires-clause-inside c =
    line-inside c.self.inside.inventory.rows c.self.inside.uses c.self.invariant.parts.uses_are c.args.p c.container-held.result.app c.line-line.result.now
    (stands-there c.self.inside.inventory.rows c.self.invariant.parts.sound c.args.p c.args.number c.container-held.result c.container-held.ensures).0
    (line-is c.self.inside.inventory.rows c.container-held.result.app (app_row c.app-app.result.now) c.app-app.ensures c.layout.result.now c.layout.ensures c.line-line.result.now c.line-line.ensures.way)

pub end-ended-requires : goal.end-ended-requires
end-ended-requires c = held-in c.self.inside c.args.self.now c.self.view_is c.args.p c.args.number c.requires

pub follow_end-requires-clause-live : goal.follow_end-requires-clause-live
follow_end-requires-clause-live c =
    live-after c.self.inside c.self.invariant c.args.self.now c.self.view_is c.args.p c.args.number c.end-ended.result c.end-ended.ensures.value c.end-ended.new.self.rows (inl c.end-ended.ensures.rows)

pub follow_end-requires-clause-start : goal.follow_end-requires-clause-start
follow_end-requires-clause-start c =
    lanes-before c.self.inside c.self.invariant c.args.self.now c.self.view_is c.args.p c.args.number c.end-ended.result c.end-ended.ensures.value c.end-ended.new.self.rows (inl c.end-ended.ensures.rows)

pub follow_end-requires-clause-small : goal.follow_end-requires-clause-small
follow_end-requires-clause-small c =
    small-after c.self.inside c.self.invariant c.args.self.now c.self.view_is c.args.p c.args.number c.end-ended.result c.end-ended.ensures.value c.end-ended.new.self.rows (inl c.end-ended.ensures.rows)

pub invariant_of-self : goal.invariant_of-self
invariant_of-self c = record {
  settings = c.self.invariant.settings;
  parts =
      parts-after c.self.inside c.self.invariant c.args.self.now c.self.view_is c.args.p c.args.number c.end-ended.result c.end-ended.ensures.value c.end-ended.new.self.rows (inl c.end-ended.ensures.rows) c.lower.new.self
      (lowered-uses c.self.inside.inventory.rows c.self.inside.uses c.self.invariant.parts.uses_are c.self.invariant.parts.sound c.args.p c.args.number c.container-held.result c.container-held.ensures c.end-ended.result.node c.line-line.result.now
      (line-is c.self.inside.inventory.rows c.container-held.result.app (app_row c.app-app.result.now) c.app-app.ensures c.layout.result.now c.layout.ensures c.line-line.result.now c.line-line.ensures.way)
      c.tally_of.result c.tally_of.ensures c.lower.new.self c.lower.ensures c.end-ended.new.self.rows c.end-ended.ensures.rows)
      c.follow_end.new.lanes c.follow_end.ensures;
}

pub returns-clause-value : goal.returns-clause-value
returns-clause-value c = subst (λ (w : ClusterView). held_at w.rows c.args.p c.args.number ≡ Some c.end-ended.result) c.self.view_is c.end-ended.ensures.value

pub returns-clause-rows : goal.returns-clause-rows
returns-clause-rows c =
    (λ i. record (view_of c.self.inside) { rows = c.end-ended.ensures.rows i; rooms = c.end-ended.new.self.rooms; ready = c.end-ended.ensures.ready i })
    ∙ ap (λ (w : ClusterView). record w { rows = with_ended c.args.p c.args.number c.end-ended.result.node w.rows; rooms = c.end-ended.new.self.rooms }) c.self.view_is

pub returns-clause-rooms : goal.returns-clause-rooms
returns-clause-rooms c = subst (λ (w : ClusterView). LeavesRoom c.args.p 0 w.rooms c.end-ended.new.self.rooms) c.self.view_is c.end-ended.ensures.rooms

pub returns-clause-state : goal.returns-clause-state
returns-clause-state c =
    state-after c.self.inside c.self.invariant c.args.self.now c.self.view_is c.args.p c.args.number c.end-ended.result c.end-ended.ensures.value c.end-ended.new.self.rows (inl c.end-ended.ensures.rows) c.end-ended.ensures.rows
