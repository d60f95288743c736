use Rattle.std.proofs.Common.{refl, arith, ◌+◌, ◌*◌}
use Rattle.shared_words.proofs.Copies.{has_more, stores_one, stores_then}
use Rattle.shared_words.proofs.shared_words.SharedWords.store_block.Goals as goal

pub loop-index-preserved : goal.loop-index-preserved
loop-index-preserved c = record {
  seat = c.store_at.ensures.seat;
  view = stores_then _ _ _ _ _ _ _ (has_more (16 + 64 * c.args.block) c.loop-index.index) c.loop-index.invariant.view
      (stores_one _ _ _ (record { word = 16 + 64 * c.args.block + c.loop-index.index; value = c.word_in.result }) c.store_at.ensures.view
      (record { index = c.loop-index.index; inside = omega arith; word = refl; bytes_are = c.word_in.ensures }));
}
