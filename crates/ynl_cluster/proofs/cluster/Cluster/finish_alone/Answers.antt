-- What is known where an application finishes.
use Rattle.ynl_cluster.proofs.Finishing.{empty-before, live-before, parts-after, rows-after, state-after}
use Rattle.ynl_cluster.proofs.cluster.Cluster.finish_alone.Goals as goal

pub unseat-requires-clause-live : goal.unseat-requires-clause-live
unseat-requires-clause-live c = live-before c.self.inside c.self.invariant c.args.self.now c.self.view_is c.args.app c.requires.live c.requires.empty

pub unseat-requires-clause-empty : goal.unseat-requires-clause-empty
unseat-requires-clause-empty c = empty-before c.self.inside c.self.invariant c.args.self.now c.self.view_is c.args.app c.requires.live c.requires.empty

pub finish-requires-clause-live : goal.finish-requires-clause-live
finish-requires-clause-live c = live-before c.self.inside c.self.invariant c.args.self.now c.self.view_is c.args.app c.requires.live c.requires.empty

pub finish-requires-clause-empty : goal.finish-requires-clause-empty
finish-requires-clause-empty c = empty-before c.self.inside c.self.invariant c.args.self.now c.self.view_is c.args.app c.requires.live c.requires.empty

pub invariant_of-self : goal.invariant_of-self
invariant_of-self c = record {
  settings = c.self.invariant.settings;
  parts =
      parts-after c.self.inside c.self.invariant c.args.self.now c.self.view_is c.args.app c.requires.live c.requires.empty c.finish.new.self.rows c.finish.ensures.rows c.unseat.new.lanes c.unseat.ensures;
}

pub returns-clause-rows : goal.returns-clause-rows
returns-clause-rows c =
    rows-after c.self.inside c.self.invariant c.args.self.now c.self.view_is c.args.app c.requires.live c.requires.empty c.finish.new.self.rows c.finish.ensures.rows c.finish.new.self.rooms c.finish.ensures.rooms c.finish.new.self.ready c.finish.ensures.ready

pub returns-clause-state : goal.returns-clause-state
returns-clause-state c = state-after c.self.inside c.self.invariant c.args.self.now c.self.view_is c.args.app c.requires.live c.requires.empty c.finish.new.self.rows c.finish.ensures.rows
