use Rattle.byte_lanes.proofs.Blocks.{byte_same}
use Rattle.byte_lanes.proofs.equality.equal_tail.Goals as goal

pub returns-then-left-index : goal.returns-then-left-index
returns-then-left-index c = (
  λ t. absurd cc,
  λ same. absurd (c.if-left-index.true (byte_same c.args.at c.bytes.index c.args.left.now c.args.right.now c.bytes.invariant.behind same)),
)
