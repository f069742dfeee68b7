use Rattle.ynl_cluster.proofs.ledger.Small.{uses-within}
use Rattle.ynl_cluster.proofs.ledger.meaning.uses_are_within.Goals as goal

pub returns : goal.returns
returns c = uses-within
