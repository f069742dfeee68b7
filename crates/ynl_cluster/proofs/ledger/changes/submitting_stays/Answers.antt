use Rattle.ynl_cluster.proofs.ledger.Ledger.{submitting}
use Rattle.ynl_cluster.proofs.ledger.changes.submitting_stays.Goals as goal

pub returns : goal.returns
returns c = submitting
