use Rattle.std.proofs.Common.{sym, ◌∙◌}
use Rattle.shared_words.proofs.Copies.{copied_more, overwritten_is}
use Rattle.shared_words.proofs.shared_words.SharedWords.copy_block.Goals as goal

pub returns-then-contains-clause-pages : goal.returns-then-contains-clause-pages
returns-then-contains-clause-pages c = λ first here. copied_more _ _ c.args.block first c.args.pages.now c.write_range.new.self c.load_block-bytes.result (sym c.contains.ensures ∙ c.if-contains.true) c.load_block-bytes.ensures.size here
    (overwritten_is _ _ c.load_block-bytes.result c.args.pages.now c.write_range.new.self c.in_ok-write_range.field-0 c.block_address.ensures c.in_ok-write_range.ensures.answer c.in_ok-write_range.ensures.written)
