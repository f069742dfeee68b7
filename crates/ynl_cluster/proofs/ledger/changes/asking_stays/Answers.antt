use Rattle.ynl_cluster.proofs.ledger.Ledger.{asking}
use Rattle.ynl_cluster.proofs.ledger.changes.asking_stays.Goals as goal

pub returns : goal.returns
returns c = asking
