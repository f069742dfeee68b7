use Rattle.ynl_cluster.proofs.ledger.Ledger.{dropping}
use Rattle.ynl_cluster.proofs.ledger.changes.dropping_lowers.Goals as goal

pub returns : goal.returns
returns c = dropping
