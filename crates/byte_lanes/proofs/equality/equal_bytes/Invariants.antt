use Rattle.std.proofs.Common.{length, ◌-◌, ◌≡◌, ◌≤◌, drop}
use Rattle.byte_lanes.proofs.equality.equal_bytes.Given as goal

abbrev pub invariant-parts : goal.invariant-parts
invariant-parts l = record {
  within : l.at ≤ length l.left;
  rest : drop l.at l.left ≡ drop l.at l.right → l.left ≡ l.right;
}

abbrev pub decreases-parts : goal.decreases-parts
decreases-parts l = length l.left - l.at
