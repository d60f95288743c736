use Rattle.std.proofs.Common.{◌+◌, ◌*◌}
use Rattle.shared_words.specs.Copied.{HasEachWord, IsStoredIn, OnlyStores}
use Rattle.shared_words.specs.Rule.{view_of}
use Rattle.shared_words.specs.Words.{IsSeatOf}
use Rattle.shared_words.specs.declared.layout.TheConstants.{BLOCK_WORDS, FIRST_WORD}
use Rattle.shared_words.proofs.shared_words.SharedWords.store_block.Given as goal

abbrev pub invariant-loop-index : goal.invariant-loop-index
invariant-loop-index l = record {
  seat : IsSeatOf l.self l.seat;
  view : OnlyStores (IsStoredIn (FIRST_WORD + BLOCK_WORDS * l.block) BLOCK_WORDS l.bytes) (HasEachWord (FIRST_WORD + BLOCK_WORDS * l.block) l.index) (view_of l.fn.seat) (view_of l.seat);
}
