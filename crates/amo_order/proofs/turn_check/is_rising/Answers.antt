use Rattle.std.proofs.Common.{arith}
use Rattle.amo_order.proofs.Finding.{all_rise}
use Rattle.amo_order.proofs.turn_check.is_rising.Goals as goal

pub returns : goal.returns
returns c _ = all_rise c.args.order.now c.loop-index.index (omega arith) c.loop-index.invariant
