use Rattle.ynl_model.specs.Cluster.{opening}
use Rattle.ynl_saved.proofs.Counts.{within-after, within-opening}
use Rattle.ynl_saved.proofs.Tellable.{tellable-opening}
use Rattle.ynl_saved.proofs.laws.asks_stay_within.Goals as goal

pub returns : goal.returns
returns _ c events accepted counted = within-after c accepted events (opening c) (tellable-opening c accepted) counted (within-opening c)
