use Rattle.ynl_cluster.proofs.seating.Leasts.{are-leasts}
use Rattle.ynl_cluster.proofs.seating.laws.leasts_are_below.Goals as goal

pub returns : goal.returns
returns c = are-leasts
