use Rattle.ynl_cluster.proofs.ledger.Bounded.{ending}
use Rattle.ynl_cluster.proofs.ledger.bounds.ending_keeps_bounds.Goals as goal

pub returns : goal.returns
returns c = ending
