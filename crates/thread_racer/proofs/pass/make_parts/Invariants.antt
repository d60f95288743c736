use Rattle.std.proofs.Common.{◌≤◌, ◌^◌, ◌+◌, ◌*◌}
use Rattle.shared_words.specs.Rule.{view_of}
use Rattle.shared_words.specs.Words.{IsSeatAt}
use Rattle.thread_racer.proofs.pass.make_parts.Given as goal

abbrev pub invariant-loop-index : goal.invariant-loop-index
invariant-loop-index g l = IsSeatAt g.J.Naming.table l.seat × ((view_of l.fn.seat).budget ≤ (view_of l.seat).budget + l.index * 2 ^ 32)
