use Rattle.ynl_cluster.proofs.ledger.Means.{listed}
use Rattle.ynl_cluster.proofs.ledger.meaning.all_are_listed.Goals as goal

pub returns : goal.returns
returns c = listed
