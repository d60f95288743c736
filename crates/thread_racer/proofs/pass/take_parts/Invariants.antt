use Rattle.std.proofs.Common.{◌≤◌}
use Rattle.shared_words.specs.Copied.{AreMarksOf}
use Rattle.shared_words.specs.Rule.{view_of}
use Rattle.shared_words.specs.Words.{IsSeatAt}
use Rattle.thread_racer.proofs.pass.take_parts.Given as goal

abbrev pub invariant-loop-part : goal.invariant-loop-part
invariant-loop-part g l = record {
  seat : IsSeatAt g.J.Naming.table l.seat;
  budget : (view_of l.fn.seat).budget ≤ (view_of l.seat).budget;
  marks : AreMarksOf l.words l.marks;
}
