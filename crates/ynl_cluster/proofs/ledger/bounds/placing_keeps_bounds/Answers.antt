use Rattle.ynl_cluster.proofs.ledger.Bounded.{placing}
use Rattle.ynl_cluster.proofs.ledger.bounds.placing_keeps_bounds.Goals as goal

pub returns : goal.returns
returns c = placing
