use Rattle.ynl_cluster.proofs.ledger.Bounded.{joining}
use Rattle.ynl_cluster.proofs.ledger.bounds.joining_keeps_bounds.Goals as goal

pub returns : goal.returns
returns c = joining
