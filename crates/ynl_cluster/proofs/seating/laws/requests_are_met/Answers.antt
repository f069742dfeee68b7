use Rattle.ynl_cluster.proofs.seating.Leasts.{are-met}
use Rattle.ynl_cluster.proofs.seating.laws.requests_are_met.Goals as goal

pub returns : goal.returns
returns c = are-met
