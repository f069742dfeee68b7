use Rattle.ynl_cluster.proofs.seating.Sharing.{are-users}
use Rattle.ynl_cluster.proofs.seating.laws.users_are_counted.Goals as goal

pub returns : goal.returns
returns c = are-users
