use Rattle.std.proofs.Common.{arith, ◌+◌}
use Rattle.core.specs.Mem.Slots.{slots_items}
use Rattle.shared_words.proofs.Bytes.{bytes_more, index_of}
use Rattle.shared_words.proofs.pages_of_words.fill_bytes.Goals as goal

pub loop-index-preserved : goal.loop-index-preserved
loop-index-preserved c = bytes_more _ _ _ c.loop-index.index c.word.result _ c.loop-index.invariant c.put_word.ensures.before c.put_word.ensures.word (index_of (slots_items c.args.closed.now.words) (c.args.first + c.loop-index.index) c.word.result c.word.ensures)

pub returns : goal.returns
returns c = λ k lt. c.loop-index.invariant k (omega arith)
