use Rattle.ynl_core.proofs.Stepping.{empty-shut}
use Rattle.ynl_core.proofs.cluster.Core.of.Goals as goal

pub invariant_of-result : goal.invariant_of-result
invariant_of-result c = record { working = c.requires; shut = empty-shut c.args.cluster c.in_ok-shut.shut _ _ c.in_ok-shut.ensures; lists = c.none.ensures c.args.cluster.rows }
