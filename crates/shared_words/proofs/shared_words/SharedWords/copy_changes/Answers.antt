use Rattle.std.proofs.Common.{sym, ap, []}
use Rattle.std.specs.Prelude.{Option, unwrap_or}
use Rattle.std.specs.Option.{option_map}
use Rattle.dp_base.specs.declared.page.Page.{Page}
use Rattle.shared_words.proofs.Copies.{page_in_pages, pages_more, stores_then, stores_weaker}
use Rattle.shared_words.proofs.shared_words.SharedWords.copy_changes.Goals as goal

pub loop-index-preserved : goal.loop-index-preserved
loop-index-preserved c = record {
  seat = c.store_changes.ensures.seat;
  view = stores_then _ _ _ _ _ _ _ (λ xs ys. pages_more c.loop-index.index c.args.before.now c.args.pages.now _ _ xs ys c.page_bytes_at.ensures (ap (λ (o : Option Page). unwrap_or (option_map (λ (p : Page). p.bytes) o) []) c.in-Some.ensures.page)) c.loop-index.invariant.view
      (stores_weaker _ _ _ _ _ _ (λ s here. page_in_pages c.args.pages.now c.loop-index.index _ s (sym c.in-Some.ensures.page) here) (λ ss all. all) c.store_changes.ensures.view);
}
