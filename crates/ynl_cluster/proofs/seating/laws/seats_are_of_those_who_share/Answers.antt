use Rattle.ynl_cluster.proofs.seating.Sharing.{are-sharing}
use Rattle.ynl_cluster.proofs.seating.laws.seats_are_of_those_who_share.Goals as goal

pub returns : goal.returns
returns c = are-sharing
