use Rattle.ynl_cluster.proofs.ledger.Bounded.{dropping}
use Rattle.ynl_cluster.proofs.ledger.bounds.dropping_keeps_bounds.Goals as goal

pub returns : goal.returns
returns c = dropping
