use Rattle.ynl_cluster.proofs.ledger.Small.{uses-small}
use Rattle.ynl_cluster.proofs.ledger.meaning.uses_are_small.Goals as goal

pub returns : goal.returns
returns c = uses-small
