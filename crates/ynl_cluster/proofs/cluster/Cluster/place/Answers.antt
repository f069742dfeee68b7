-- What is known where a container is placed.
use Rattle.std.proofs.Common.{length, sym, ap, subst, ◌∙◌}
use Rattle.std.specs.Option.{option_map_or}
use Rattle.ynl_slots.specs.Slots.{IsUnused}
use Rattle.ynl_inventory.specs.Rows.{NodeRow}
use Rattle.ynl_inventory.specs.Changes.{partition_of_node, with_placed}
use Rattle.ynl_inventory.specs.Parts.{LeavesRoom, app_row, containers_of, node_row}
use Rattle.ynl_inventory.proofs.Lookups.{found-live}
use Rattle.ynl_cluster.proofs.ledger.Calls.{has-uses, leaf-number, line-inside, line-is, raised-uses, small-uses}
use Rattle.ynl_cluster.specs.seating.Steps.{IsPlaced}
use Rattle.ynl_cluster.specs.Cluster.{ClusterView}
use Rattle.ynl_cluster.specs.Whole.{view_of}
use Rattle.ynl_cluster.proofs.Placing.{app-live, lanes-before, live-after, may, node-live, parts-after, place-after, small-after, state-after}
use Rattle.ynl_cluster.proofs.cluster.Cluster.place.Goals as goal

pub app-app-requires : goal.app-app-requires
app-app-requires c = app-live c.self.inside c.self.invariant c.args.self.now c.self.view_is c.args.placed.now c.requires

pub line-line-requires : goal.line-line-requires
line-line-requires c =
    leaf-number c.self.inside.inventory.rows c.self.invariant.parts.sound c.args.placed.now.app (app_row c.app-app.result.now) c.app-app.ensures c.layout.result.now c.layout.ensures

pub node-node-requires : goal.node-node-requires
node-node-requires c = node-live c.self.inside c.self.invariant c.args.self.now c.self.view_is c.args.placed.now c.requires

pub raise-requires-clause-partition : goal.raise-requires-clause-partition
raise-requires-clause-partition c =
    has-uses c.self.inside.inventory.rows c.self.inside.uses c.self.invariant.parts.uses_are c.node-node.result.now.partition
    (c.self.invariant.parts.sound.nodes c.args.placed.now.node (node_row c.node-node.result.now) c.node-node.ensures)

pub raise-requires-clause-small : goal.raise-requires-clause-small
raise-requires-clause-small c =
    small-uses c.self.inside.inventory.rows c.self.inside.uses c.self.invariant.parts.uses_are c.self.invariant.parts.sound c.self.invariant.parts.bounded c.node-node.result.now.partition

pub raise-requires-clause-inside : goal.raise-requires-clause-inside
raise-requires-clause-inside c =
    line-inside c.self.inside.inventory.rows c.self.inside.uses c.self.invariant.parts.uses_are c.node-node.result.now.partition c.args.placed.now.app c.line-line.result.now
    (c.self.invariant.parts.sound.nodes c.args.placed.now.node (node_row c.node-node.result.now) c.node-node.ensures)
    (line-is c.self.inside.inventory.rows c.args.placed.now.app (app_row c.app-app.result.now) c.app-app.ensures c.layout.result.now c.layout.ensures c.line-line.result.now c.line-line.ensures.way)

pub place-number-requires : goal.place-number-requires
place-number-requires c = may c.self.inside c.self.invariant c.args.self.now c.self.view_is c.args.placed.now c.requires

pub follow_placement-requires-clause-live : goal.follow_placement-requires-clause-live
follow_placement-requires-clause-live c =
    live-after c.self.inside c.self.invariant c.args.self.now c.self.view_is c.args.placed.now c.requires c.place-number.result c.place-number.ensures.unused c.place-number.new.self.rows c.place-number.ensures.rows
    c.amount-size.ensures.range

pub follow_placement-requires-clause-start : goal.follow_placement-requires-clause-start
follow_placement-requires-clause-start c =
    subst
    (λ asks. IsPlaced c.args.placed.now.node c.args.placed.now.app c.args.placed.now.role c.args.placed.now.size (length asks) c.place-number.new.self.rows c.self.inside.lanes) (sym c.as_slice-asked.ensures.value)
    (lanes-before c.self.inside c.self.invariant c.args.self.now c.self.view_is c.args.placed.now c.requires c.place-number.result c.place-number.ensures.unused c.place-number.new.self.rows c.place-number.ensures.rows
    c.amount-size.ensures.range (app_row c.app-app.result.now) c.app-app.ensures)

pub follow_placement-requires-clause-partition : goal.follow_placement-requires-clause-partition
follow_placement-requires-clause-partition c =
    place-after c.self.inside c.self.invariant c.args.self.now c.self.view_is c.args.placed.now c.requires c.place-number.result c.place-number.ensures.unused c.place-number.new.self.rows c.place-number.ensures.rows
    c.amount-size.ensures.range c.node-node.result.now.partition (sym (ap (λ o. option_map_or (λ (r : NodeRow). r.partition) o 0) c.node-node.ensures))

pub follow_placement-requires-clause-small : goal.follow_placement-requires-clause-small
follow_placement-requires-clause-small c =
    small-after c.self.inside c.self.invariant c.args.self.now c.self.view_is c.args.placed.now c.requires c.place-number.result c.place-number.ensures.unused c.place-number.new.self.rows c.place-number.ensures.rows
    c.amount-size.ensures.range c.node-node.result.now.partition (sym (ap (λ o. option_map_or (λ (r : NodeRow). r.partition) o 0) c.node-node.ensures))

pub invariant_of-self : goal.invariant_of-self
invariant_of-self c = record {
  settings = c.self.invariant.settings;
  parts =
      parts-after c.self.inside c.self.invariant c.args.self.now c.self.view_is c.args.placed.now c.requires c.place-number.result c.place-number.ensures.unused c.place-number.new.self.rows c.place-number.ensures.rows
      c.amount-size.ensures.range c.raise.new.self
      (raised-uses c.self.inside.inventory.rows c.self.inside.uses c.self.invariant.parts.uses_are c.place-number.result c.args.placed.now.node c.args.placed.now.app c.args.placed.now.role c.args.placed.now.size c.line-line.result.now
      (found-live c.args.placed.now.app (app_row c.app-app.result.now) c.self.inside.inventory.rows.apps c.app-app.ensures)
      (line-is c.self.inside.inventory.rows c.args.placed.now.app (app_row c.app-app.result.now) c.app-app.ensures c.layout.result.now c.layout.ensures c.line-line.result.now c.line-line.ensures.way)
      c.node-node.result.now.partition (sym (ap (λ o. option_map_or (λ (r : NodeRow). r.partition) o 0) c.node-node.ensures)) c.tally_of.result c.tally_of.ensures c.raise.new.self c.raise.ensures c.place-number.new.self.rows c.place-number.ensures.rows)
      c.follow_placement.new.lanes c.follow_placement.ensures;
}

pub returns-clause-rows : goal.returns-clause-rows
returns-clause-rows c =
    (λ i. record (view_of c.self.inside) { rows = c.place-number.ensures.rows i; rooms = c.place-number.new.self.rooms; ready = c.place-number.ensures.ready i })
    ∙ ap
    (λ (w : ClusterView). record w {
      rows = with_placed c.place-number.result c.args.placed.now.node c.args.placed.now.app c.args.placed.now.role c.args.placed.now.size w.rows;
      rooms = c.place-number.new.self.rooms;
    })
    c.self.view_is

pub returns-clause-unused : goal.returns-clause-unused
returns-clause-unused c =
    subst (λ (w : ClusterView). IsUnused c.place-number.result (containers_of w.rows (partition_of_node w.rows.nodes c.args.placed.now.node))) c.self.view_is c.place-number.ensures.unused

pub returns-clause-rooms : goal.returns-clause-rooms
returns-clause-rooms c =
    subst (λ (w : ClusterView). LeavesRoom (partition_of_node w.rows.nodes c.args.placed.now.node) 1 w.rooms c.place-number.new.self.rooms) c.self.view_is c.place-number.ensures.rooms

pub returns-clause-state : goal.returns-clause-state
returns-clause-state c =
    state-after c.self.inside c.self.invariant c.args.self.now c.self.view_is c.args.placed.now c.requires c.place-number.result c.place-number.ensures.unused c.place-number.new.self.rows c.place-number.ensures.rows
    c.amount-size.ensures.range
