use Rattle.shared_words.specs.Copied.{AreCopied, OnlyLoads}
use Rattle.shared_words.specs.Rule.{view_of}
use Rattle.shared_words.specs.Words.{IsSeatOf, pages_of}
use Rattle.shared_words.proofs.shared_words.SharedWords.copy_to.Given as goal

abbrev pub invariant-loop-block : goal.invariant-loop-block
invariant-loop-block l = record {
  seat : IsSeatOf l.self l.seat;
  view : OnlyLoads (view_of l.fn.seat) (view_of l.seat);
  pages : AreCopied (pages_of l.self) l.marks.blocks.items l.block l.fn.pages l.pages;
}
