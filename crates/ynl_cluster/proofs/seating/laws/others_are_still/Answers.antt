use Rattle.ynl_cluster.proofs.seating.RowChanges.{joined-seated, left-seated, user-seated}
use Rattle.ynl_cluster.proofs.seating.laws.others_are_still.Goals as goal

pub returns : goal.returns
returns c = record { joined = joined-seated; left = left-seated; user = user-seated }
