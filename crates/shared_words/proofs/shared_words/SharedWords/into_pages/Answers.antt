use Rattle.std.proofs.Common.{arith, subst, ℕ, List}
use Rattle.std.specs.Prelude.{IfOk}
use Rattle.core.specs.Mem.Slots.{slots_items}
use Rattle.shared_words.specs.Layout.{HasPageWords}
use Rattle.shared_words.specs.declared.mapped_page.MappedPage.{MappedPage}
use Rattle.shared_words.proofs.Closed.{closes}
use Rattle.shared_words.proofs.shared_words.SharedWords.into_pages.Goals as goal

pub returns : goal.returns
returns c =
    let words : List ℕ = slots_items c.close_with-closed.result.words in
    closes c.make_pages-pages.result c.args.self.pages.items c.args.self.table.shared.key.items words c.args.self.table.shared.table_id.words _ _ _
    (subst (λ (ms : List MappedPage). IfOk c.make_pages-pages.result (λ pages. HasPageWords ms words pages)) c.deref.ensures.value c.make_pages-pages.ensures)
    c.close_with-closed.ensures.values.2 (omega (arith, c.close_with-closed.ensures.counts, c.close_with-closed.result.words.ok))
