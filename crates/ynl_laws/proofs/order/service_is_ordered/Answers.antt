use Rattle.ynl_laws.proofs.Service.OrderTotal.{key_order_total}
use Rattle.ynl_laws.proofs.order.service_is_ordered.Goals as goal

pub returns : goal.returns
returns c = key_order_total
