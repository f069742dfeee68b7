use Rattle.ynl_cluster.proofs.ledger.Ledger.{finishing}
use Rattle.ynl_cluster.proofs.ledger.changes.finishing_stays.Goals as goal

pub returns : goal.returns
returns c = finishing
