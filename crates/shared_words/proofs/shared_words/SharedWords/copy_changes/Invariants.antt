use Rattle.shared_words.specs.Copied.{IsWordOf, OnlyStores}
use Rattle.shared_words.specs.Rule.{view_of}
use Rattle.shared_words.specs.Words.{IsSeatOf}
use Rattle.shared_words.proofs.Copies.{HasPagesBelow}
use Rattle.shared_words.proofs.shared_words.SharedWords.copy_changes.Given as goal

abbrev pub invariant-loop-index : goal.invariant-loop-index
invariant-loop-index l = record {
  seat : IsSeatOf l.self l.seat;
  view : OnlyStores (IsWordOf l.pages) (HasPagesBelow l.index l.before l.pages) (view_of l.fn.seat) (view_of l.seat);
}
