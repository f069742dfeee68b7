use Rattle.ynl_cluster.proofs.ledger.Ledger.{ending}
use Rattle.ynl_cluster.proofs.ledger.changes.ending_lowers.Goals as goal

pub returns : goal.returns
returns c = ending
