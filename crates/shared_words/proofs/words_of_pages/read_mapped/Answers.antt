use Rattle.std.proofs.Common.{sym, ◌∙◌}
use Rattle.shared_words.proofs.MappedPages.{mapped_more}
use Rattle.shared_words.proofs.words_of_pages.read_mapped.Goals as goal

pub loop-index-preserved : goal.loop-index-preserved
loop-index-preserved c = c.in_ok-push.ensures.items ∙ mapped_more c.args.pages.now c.loop-index.mapped.items c.loop-index.index _ (sym c.in-Some.ensures.page) c.loop-index.invariant
