-- What is known where an application is submitted.
use Rattle.std.proofs.Common.{ap}
use Rattle.ynl_inventory.specs.Parts.{Held}
use Rattle.ynl_cluster.proofs.Submitting.{default-lane, home-lane, lanes-but, live-after, parts-after, state-after}
use Rattle.ynl_cluster.proofs.cluster.Cluster.submit.Goals as goal

pub reserve-requires-clause-home : goal.reserve-requires-clause-home
reserve-requires-clause-home c = home-lane c.self.inside c.self.invariant c.args.self.now c.self.view_is c.args.name.now c.args.new.now c.requires

pub reserve-requires-clause-default : goal.reserve-requires-clause-default
reserve-requires-clause-default c = default-lane c.self.inside c.self.invariant c.args.self.now c.self.view_is c.args.name.now c.args.new.now c.requires

pub seat-requires-clause-live : goal.seat-requires-clause-live
seat-requires-clause-live c =
    live-after c.self.inside c.self.invariant c.args.self.now c.self.view_is c.args.name.now c.args.new.now c.requires c.in_ok-app.app c.in_ok-app.ensures.unused c.submit.new.self.rows c.in_ok-app.ensures.rows

pub seat-requires-clause-start : goal.seat-requires-clause-start
seat-requires-clause-start c =
    lanes-but c.self.inside c.self.invariant c.args.self.now c.self.view_is c.args.name.now c.args.new.now c.requires c.in_ok-app.app c.in_ok-app.ensures.unused c.submit.new.self.rows c.in_ok-app.ensures.rows
    c.reserve.new.lanes (c.in_ok-reserve.ensures.seated c.self.inside.inventory.rows c.self.invariant.parts.seated) c.in_ok-reserve.ensures.ok

pub invariant_of-self-2 : goal.invariant_of-self-2
invariant_of-self-2 c = record {
  settings = c.self.invariant.settings;
  parts =
      parts-after c.self.inside c.self.invariant c.args.self.now c.self.view_is c.args.name.now c.args.new.now c.requires c.in_ok-app.app c.in_ok-app.ensures.unused c.submit.new.self.rows c.in_ok-app.ensures.rows
      c.seat.ensures.tickets.0 c.seat.new.inventory.rows (ap (λ (h : Held). h.rows) c.seat.ensures.tickets.1) c.amount-amount.ensures.range c.seat.new.lanes c.seat.ensures.seated;
}

pub returns-clause-state : goal.returns-clause-state
returns-clause-state c =
    state-after c.self.inside c.self.invariant c.args.self.now c.self.view_is c.args.name.now c.args.new.now c.requires c.in_ok-app.app c.in_ok-app.ensures.unused c.submit.new.self.rows c.in_ok-app.ensures.rows
    c.seat.ensures.tickets.0 c.seat.new.inventory.rows (ap (λ (h : Held). h.rows) c.seat.ensures.tickets.1)
