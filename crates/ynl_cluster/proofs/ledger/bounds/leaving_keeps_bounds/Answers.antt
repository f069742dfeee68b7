use Rattle.ynl_cluster.proofs.ledger.Bounded.{leaving}
use Rattle.ynl_cluster.proofs.ledger.bounds.leaving_keeps_bounds.Goals as goal

pub returns : goal.returns
returns c = leaving
