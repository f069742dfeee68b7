use Rattle.ynl_cluster.proofs.ledger.Means.{uses-mean}
use Rattle.ynl_cluster.proofs.ledger.meaning.uses_are_told.Goals as goal

pub returns : goal.returns
returns c = uses-mean
