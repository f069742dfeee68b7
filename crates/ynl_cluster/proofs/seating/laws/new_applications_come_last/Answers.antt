use Rattle.ynl_cluster.proofs.seating.Starting.{is-submitted_last}
use Rattle.ynl_cluster.proofs.seating.laws.new_applications_come_last.Goals as goal

pub returns : goal.returns
returns c = is-submitted_last
