use Rattle.ynl_cluster.proofs.seating.UserUse.{is-use_within}
use Rattle.ynl_cluster.proofs.seating.laws.use_is_within.Goals as goal

pub returns : goal.returns
returns c = is-use_within
