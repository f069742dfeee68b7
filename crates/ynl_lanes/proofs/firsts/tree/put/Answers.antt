use Rattle.std.proofs.Common.{◌∙◌}
use Rattle.ynl_lanes.proofs.firsts.Ordered.{values-set_leaf}
use Rattle.ynl_lanes.proofs.firsts.tree.put.Goals as goal

pub returns-clause-values : goal.returns-clause-values
returns-clause-values g c = c.climb.ensures.values ∙ values-set_leaf c.args.tree.now c.args.place c.args.value
