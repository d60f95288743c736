use Rattle.std.proofs.Common.{◌-◌, arith, sym}
use Rattle.amo_order.proofs.Finding.{all_find, one_fails}
use Rattle.amo_order.proofs.turn_check.each_finds.Goals as goal

pub returns-then-order-index : goal.returns-then-order-index
returns-then-order-index c = sym (one_fails c.args.order.now (c.loop-index.index - 1) c.loop-index.index _ (omega arith) c.loop-index-test.true c.if-order-index.true)

pub returns : goal.returns
returns c = sym (all_find c.args.order.now c.loop-index.index (omega arith) c.loop-index.invariant)
