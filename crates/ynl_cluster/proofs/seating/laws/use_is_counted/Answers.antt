use Rattle.ynl_cluster.proofs.seating.UserUse.{is-user_use}
use Rattle.ynl_cluster.proofs.seating.laws.use_is_counted.Goals as goal

pub returns : goal.returns
returns c = is-user_use
