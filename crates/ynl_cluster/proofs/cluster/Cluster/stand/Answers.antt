-- What is known where a container came to stand.
use Rattle.ynl_inventory.specs.Parts.{app_row, node_row, placed_on}
use Rattle.ynl_cluster.proofs.ledger.Calls.{has-uses, line-inside, small-uses, stood-raised-uses}
use Rattle.ynl_cluster.proofs.Standing.{app-live, has-place, its-line, parts-after, place-is, rows-at, small-after, state-after}
use Rattle.ynl_cluster.proofs.cluster.Cluster.stand.Goals as goal

pub raise-requires-clause-partition : goal.raise-requires-clause-partition
raise-requires-clause-partition c =
    has-uses c.self.inside.inventory.rows c.self.inside.uses c.self.invariant.parts.uses_are c.node.result.now.partition
    (has-place c.self.inside c.self.invariant c.args.self.now c.self.view_is c.args.placed.now c.args.clock c.requires c.in_ok-number.number c.stand.new.self.rows c.in_ok-number.ensures.rows (node_row c.node.result.now) c.node.ensures)

pub raise-requires-clause-small : goal.raise-requires-clause-small
raise-requires-clause-small c =
    small-uses c.self.inside.inventory.rows c.self.inside.uses c.self.invariant.parts.uses_are c.self.invariant.parts.sound c.self.invariant.parts.bounded c.node.result.now.partition

pub raise-requires-clause-inside : goal.raise-requires-clause-inside
raise-requires-clause-inside c =
    line-inside c.self.inside.inventory.rows c.self.inside.uses c.self.invariant.parts.uses_are c.node.result.now.partition c.args.placed.now.app c.line-line.result.now
    (has-place c.self.inside c.self.invariant c.args.self.now c.self.view_is c.args.placed.now c.args.clock c.requires c.in_ok-number.number c.stand.new.self.rows c.in_ok-number.ensures.rows (node_row c.node.result.now) c.node.ensures)
    (its-line c.self.inside c.self.invariant c.args.self.now c.self.view_is c.args.placed.now c.args.clock c.requires c.in_ok-number.number c.stand.new.self.rows c.in_ok-number.ensures.rows
    (app_row c.app-app.result.now) c.app-app.ensures c.layout.result.now c.layout.ensures c.line-line.result.now c.line-line.ensures.way)

pub follow_placement-requires-clause-small : goal.follow_placement-requires-clause-small
follow_placement-requires-clause-small c =
    small-after c.self.inside c.self.invariant c.args.self.now c.self.view_is c.args.placed.now c.args.clock c.requires c.in_ok-number.number c.stand.new.self.rows c.in_ok-number.ensures.rows
    c.amount-size.ensures.range c.partition_count.ensures.sound c.node.result.now.partition
    (place-is c.self.inside c.self.invariant c.args.self.now c.self.view_is c.args.placed.now c.args.clock c.requires c.in_ok-number.number c.stand.new.self.rows c.in_ok-number.ensures.rows (node_row c.node.result.now) c.node.ensures)

pub invariant_of-self-2 : goal.invariant_of-self-2
invariant_of-self-2 c = record {
  settings = c.self.invariant.settings;
  parts =
      parts-after c.self.inside c.self.invariant c.args.self.now c.self.view_is c.args.placed.now c.args.clock c.requires c.in_ok-number.number c.stand.new.self.rows c.in_ok-number.ensures.rows
      c.amount-size.ensures.range c.partition_count.ensures.sound c.raise.new.self
      (stood-raised-uses c.self.inside.inventory.rows c.self.inside.uses c.self.invariant.parts.uses_are c.in_ok-number.number (placed_on c.args.placed.now c.args.clock) c.line-line.result.now
      (app-live c.self.inside c.self.invariant c.args.self.now c.self.view_is c.args.placed.now c.args.clock c.requires)
      (its-line c.self.inside c.self.invariant c.args.self.now c.self.view_is c.args.placed.now c.args.clock c.requires c.in_ok-number.number c.stand.new.self.rows c.in_ok-number.ensures.rows
      (app_row c.app-app.result.now) c.app-app.ensures c.layout.result.now c.layout.ensures c.line-line.result.now c.line-line.ensures.way)
      c.node.result.now.partition c.tally_of-tally.result c.tally_of-tally.ensures c.raise.new.self c.raise.ensures c.stand.new.self.rows
      (rows-at c.self.inside c.self.invariant c.args.self.now c.self.view_is c.args.placed.now c.args.clock c.requires c.in_ok-number.number c.stand.new.self.rows c.in_ok-number.ensures.rows (node_row c.node.result.now) c.node.ensures))
      c.follow_placement.new.lanes c.follow_placement.ensures;
}

pub returns-clause-state : goal.returns-clause-state
returns-clause-state c =
    state-after c.self.inside c.self.invariant c.args.self.now c.self.view_is c.args.placed.now c.args.clock c.requires c.in_ok-number.number c.stand.new.self.rows c.in_ok-number.ensures.rows
