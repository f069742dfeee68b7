use Rattle.ynl_cluster.proofs.ledger.Ledger.{leaving}
use Rattle.ynl_cluster.proofs.ledger.changes.leaving_takes.Goals as goal

pub returns : goal.returns
returns c = leaving
