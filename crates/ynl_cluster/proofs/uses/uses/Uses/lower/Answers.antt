use Rattle.std.proofs.Common.{◌∙◌, ap}
use Rattle.ynl_laws.specs.Ways.{along}
use Rattle.ynl_cluster.specs.uses.Tallies.{lowered, with_partition}
use Rattle.ynl_cluster.proofs.uses.Partitions.{set-partition, inside-rows}
use Rattle.ynl_cluster.proofs.uses.uses.Uses.lower.Goals as goal

pub returns : goal.returns
returns c =
    set-partition c.args.partition c.self.inside.rows.items c.index_mut-uses.result.now c.lower_along.new.uses (along (lowered c.args.tally.now) c.args.line.now)
    (inside-rows c.args.partition c.self.inside.rows.items c.args.self.now c.self.view_is c.requires.partition) c.index_mut-uses.ensures.value c.lower_along.ensures
    ∙ ap (with_partition c.args.partition (along (lowered c.args.tally.now) c.args.line.now)) c.self.view_is
