-- What is known where an application asks.
use Rattle.ynl_cluster.proofs.Asking.{lanes-but, live-after, parts-after, state-after}
use Rattle.ynl_cluster.proofs.cluster.Cluster.ask.Goals as goal

pub enter-requires-clause-live : goal.enter-requires-clause-live
enter-requires-clause-live c = live-after c.self.inside c.self.invariant c.args.self.now c.self.view_is c.args.app c.args.ask c.requires c.ask.new.self.rows c.in_ok-ask.ensures.ok

pub enter-requires-clause-start : goal.enter-requires-clause-start
enter-requires-clause-start c = lanes-but c.self.inside c.self.invariant c.args.self.now c.self.view_is c.args.app c.args.ask c.requires c.ask.new.self.rows c.in_ok-ask.ensures.ok

pub invariant_of-self-2 : goal.invariant_of-self-2
invariant_of-self-2 c = record {
  settings = c.self.invariant.settings;
  parts =
      parts-after c.self.inside c.self.invariant c.args.self.now c.self.view_is c.args.app c.args.ask c.requires c.ask.new.self.rows c.in_ok-ask.ensures.ok c.amount-amount.ensures.range c.enter.new.lanes c.enter.ensures;
}

pub returns-clause-state : goal.returns-clause-state
returns-clause-state c = state-after c.self.inside c.self.invariant c.args.self.now c.self.view_is c.args.app c.args.ask c.requires c.ask.new.self.rows c.in_ok-ask.ensures.ok
