use Rattle.ynl_cluster.proofs.requests.First.{first-means}
use Rattle.ynl_cluster.proofs.requests.laws.first_is_the_models.Goals as goal

pub returns : goal.returns
returns c = first-means
