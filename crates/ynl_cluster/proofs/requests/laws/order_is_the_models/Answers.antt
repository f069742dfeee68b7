use Rattle.ynl_cluster.proofs.requests.Order.{order-means}
use Rattle.ynl_cluster.proofs.requests.laws.order_is_the_models.Goals as goal

pub returns : goal.returns
returns c = order-means
