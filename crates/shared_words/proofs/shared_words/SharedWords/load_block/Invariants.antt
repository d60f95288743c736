use Rattle.std.proofs.Common.{◌≡◌, length}
use Rattle.shared_words.specs.Copied.{OnlyLoads}
use Rattle.shared_words.specs.Rule.{view_of}
use Rattle.shared_words.specs.Words.{IsSeatOf}
use Rattle.shared_words.proofs.shared_words.SharedWords.load_block.Given as goal

abbrev pub invariant-loop-index : goal.invariant-loop-index
invariant-loop-index l = record {
  seat : IsSeatOf l.self l.seat;
  view : OnlyLoads (view_of l.fn.seat) (view_of l.seat);
  size : length l.bytes ≡ 256;
}
