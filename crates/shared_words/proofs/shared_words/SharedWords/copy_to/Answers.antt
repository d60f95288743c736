use Rattle.shared_words.proofs.Copies.{loads_then}
use Rattle.shared_words.proofs.shared_words.SharedWords.copy_to.Goals as goal

pub loop-block-preserved : goal.loop-block-preserved
loop-block-preserved c = record {
  seat = c.copy_block.ensures.seat;
  view = loads_then _ _ _ c.loop-block.invariant.view c.copy_block.ensures.view;
  pages = c.in_ok-copy_block.ensures.pages _ c.loop-block.invariant.pages;
}
