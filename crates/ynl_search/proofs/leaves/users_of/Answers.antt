use Rattle.std.proofs.Common.{◌∙◌}
use Rattle.ynl_search.proofs.LaneOf.{users-are}
use Rattle.ynl_search.proofs.leaves.users_of.Goals as goal

pub returns-clause-value : goal.returns-clause-value
returns-clause-value c =
    c.max.ensures ∙ users-are c.args.cluster.now c.args.p c.args.queue c.requires c.lane.ensures.sound c.lane.result.now c.lane.ensures.lane c.users-count.result c.users-count.ensures
