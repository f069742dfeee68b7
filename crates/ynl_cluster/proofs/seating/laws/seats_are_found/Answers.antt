use Rattle.ynl_cluster.proofs.seating.Starting.{are-found}
use Rattle.ynl_cluster.proofs.seating.laws.seats_are_found.Goals as goal

pub returns : goal.returns
returns c = are-found
