use Rattle.ynl_cluster.proofs.ledger.Small.{total-small}
use Rattle.ynl_cluster.proofs.ledger.meaning.totals_are_small.Goals as goal

pub returns : goal.returns
returns c = total-small
