use Rattle.ynl_cluster.proofs.ledger.Ledger.{users}
use Rattle.ynl_cluster.proofs.ledger.changes.users_stay.Goals as goal

pub returns : goal.returns
returns c = users
