use Rattle.ynl_cluster.proofs.ledger.Ledger.{joining}
use Rattle.ynl_cluster.proofs.ledger.changes.joining_adds.Goals as goal

pub returns : goal.returns
returns c = joining
