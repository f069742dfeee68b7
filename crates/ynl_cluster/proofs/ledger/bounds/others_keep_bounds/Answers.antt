use Rattle.ynl_cluster.proofs.ledger.Bounded.{others}
use Rattle.ynl_cluster.proofs.ledger.bounds.others_keep_bounds.Goals as goal

pub returns : goal.returns
returns c = others
