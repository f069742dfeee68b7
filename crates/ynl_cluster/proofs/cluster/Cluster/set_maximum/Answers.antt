use Rattle.std.proofs.Common.{ap, sym, subst, ◌∙◌}
use Rattle.ynl_cluster.specs.Cluster.{state_in}
use Rattle.ynl_cluster.specs.Whole.{view_of, AreSettings}
use Rattle.ynl_cluster.proofs.Reading.{cell-there}
use Rattle.ynl_cluster.proofs.Setting.{maximum-means, maximum-settings}
use Rattle.ynl_cluster.proofs.cluster.Cluster.set_maximum.Goals as goal

pub set_maximum-requires : goal.set_maximum-requires
set_maximum-requires c = cell-there c.self.inside c.self.invariant c.args.self.now c.self.view_is c.args.p c.args.queue c.requires.there

pub invariant_of-self : goal.invariant_of-self
invariant_of-self c = record {
  settings =
      subst (λ shares. AreSettings c.self.inside.config shares c.self.inside.stops) (sym c.set_maximum.ensures)
      (maximum-settings c.self.inside.config c.self.inside.shares c.self.inside.stops c.args.p c.args.queue c.args.share (cell-there c.self.inside c.self.invariant c.args.self.now c.self.view_is c.args.p c.args.queue c.requires.there) c.self.invariant.settings);
  parts = c.self.invariant.parts;
}

pub returns-clause-state : goal.returns-clause-state
returns-clause-state c =
    ap (λ shares. state_in (record (view_of c.self.inside) { shares = shares })) c.set_maximum.ensures
    ∙ maximum-means c.self.inside c.self.invariant c.args.self.now c.self.view_is c.args.queue c.requires.below_root c.requires.there.queue c.args.p c.args.share c.requires.there
