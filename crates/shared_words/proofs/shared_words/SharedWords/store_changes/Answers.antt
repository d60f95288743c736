use Rattle.shared_words.proofs.Copies.{below_more, stores_then}
use Rattle.shared_words.proofs.shared_words.SharedWords.store_changes.Goals as goal

pub loop-block-preserved : goal.loop-block-preserved
loop-block-preserved c = record {
  seat = c.store_change.ensures.seat;
  view = stores_then _ _ _ _ _ _ _ (below_more c.loop-block.block c.args.page c.args.before.now c.args.bytes.now) c.loop-block.invariant.view c.store_change.ensures.view;
}
