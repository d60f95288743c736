use Rattle.std.proofs.Common.{refl, arith}
use Rattle.byte_lanes.proofs.Blocks.{block_more}
use Rattle.byte_lanes.proofs.equality.equal_bytes.Goals as goal

pub parts-preserved : goal.parts-preserved
parts-preserved c = record {
  within = omega (arith, c.parts-test.true);
  rest = λ same. c.parts.invariant.rest (block_more c.parts.at 64 c.args.left.now c.args.right.now (c.if-not-equal_block.ensures.0 refl) same);
}
