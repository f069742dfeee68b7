use Rattle.ynl_cluster.proofs.ledger.Ledger.{ticketing}
use Rattle.ynl_cluster.proofs.ledger.changes.tickets_stay.Goals as goal

pub returns : goal.returns
returns c = ticketing
