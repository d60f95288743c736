use Rattle.sync_hints.proofs.Orders.{log_order}
use Rattle.sync_hints.proofs.laws.a_log_keeps_its_order.Goals as goal

pub returns : goal.returns
returns c = log_order
