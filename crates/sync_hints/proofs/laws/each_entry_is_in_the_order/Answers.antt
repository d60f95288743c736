use Rattle.sync_hints.proofs.Orders.{order_count}
use Rattle.sync_hints.proofs.laws.each_entry_is_in_the_order.Goals as goal

pub returns : goal.returns
returns c = order_count
