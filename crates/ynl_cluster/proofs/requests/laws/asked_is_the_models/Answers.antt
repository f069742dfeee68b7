use Rattle.ynl_cluster.proofs.requests.Wanted.{asked-means}
use Rattle.ynl_cluster.proofs.requests.laws.asked_is_the_models.Goals as goal

pub returns : goal.returns
returns c = asked-means
