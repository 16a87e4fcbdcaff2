use Rattle.search_core.proofs.Order.{order-same}
use Rattle.search_core.proofs.laws.order_makes_no_difference.Goals as goal

pub returns : goal.returns
returns c = order-same
