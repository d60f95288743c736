use Rattle.std.proofs.Common.{◌+◌, ◌*◌}
use Rattle.shared_words.specs.Copied.{IsStoredIn, OnlyStores}
use Rattle.shared_words.specs.Rule.{view_of}
use Rattle.shared_words.specs.Words.{IsSeatOf}
use Rattle.shared_words.specs.declared.layout.TheConstants.{FIRST_WORD, PAGE_WORDS}
use Rattle.shared_words.proofs.Copies.{HasChangesBelow}
use Rattle.shared_words.proofs.shared_words.SharedWords.store_changes.Given as goal

abbrev pub invariant-loop-block : goal.invariant-loop-block
invariant-loop-block l = record {
  seat : IsSeatOf l.self l.seat;
  view : OnlyStores (IsStoredIn (FIRST_WORD + PAGE_WORDS * l.page) PAGE_WORDS l.bytes) (HasChangesBelow l.block l.page l.before l.bytes) (view_of l.fn.seat) (view_of l.seat);
}
