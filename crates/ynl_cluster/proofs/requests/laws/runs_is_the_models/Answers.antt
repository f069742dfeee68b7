use Rattle.ynl_cluster.proofs.requests.Running.{runs-means}
use Rattle.ynl_cluster.proofs.requests.laws.runs_is_the_models.Goals as goal

pub returns : goal.returns
returns c = runs-means
