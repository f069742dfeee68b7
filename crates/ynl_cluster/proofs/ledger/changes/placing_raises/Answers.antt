use Rattle.ynl_cluster.proofs.ledger.Ledger.{placing}
use Rattle.ynl_cluster.proofs.ledger.changes.placing_raises.Goals as goal

pub returns : goal.returns
returns c = placing
