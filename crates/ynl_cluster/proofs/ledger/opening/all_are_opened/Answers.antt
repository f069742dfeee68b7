use Rattle.ynl_cluster.proofs.ledger.Opened.{opened}
use Rattle.ynl_cluster.proofs.ledger.opening.all_are_opened.Goals as goal

pub returns : goal.returns
returns c = opened
