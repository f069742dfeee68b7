use Rattle.ynl_cluster.proofs.seating.Starting.{is-seated_first}
use Rattle.ynl_cluster.proofs.seating.laws.no_seats_at_first.Goals as goal

pub returns : goal.returns
returns c = is-seated_first
