use Rattle.ynl_cluster.proofs.requests.Wanted.{wanted-means}
use Rattle.ynl_cluster.proofs.requests.laws.wanted_is_the_models.Goals as goal

pub returns : goal.returns
returns c = wanted-means
