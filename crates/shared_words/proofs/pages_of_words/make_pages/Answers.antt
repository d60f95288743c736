use Rattle.std.proofs.Common.{refl, sym, arith, ◌+◌, ◌-◌, subst, take, replicate, length, get_or}
use Rattle.core.specs.Mem.Slots.{slots_items}
use Rattle.shared_words.specs.Layout.{HasPageWords}
use Rattle.shared_words.specs.declared.mapped_page.MappedPage.{MappedPage}
use Rattle.shared_words.proofs.PagesMade.{above, has_more}
use Rattle.shared_words.proofs.pages_of_words.make_pages.Goals as goal

pub map_above-requires-clause-above : goal.map_above-requires-clause-above
map_above-requires-clause-above c = above c.args.mapped.now _ _ c.loop-index.index _ (record { number = 0; flags = 0 }) c.requires.mapped (omega arith) refl c.loop-index.invariant

pub loop-index-preserved : goal.loop-index-preserved
loop-index-preserved c =
    let p : MappedPage = get_or c.args.mapped.now c.loop-index.index (record { number = 0; flags = 0 }) in
    subst (HasPageWords (take (c.loop-index.index + 1) c.args.mapped.now) (slots_items c.args.closed.now.words)) (sym (c.in_ok-map_above.ensures.ok))
    (has_more c.args.mapped.now _ c.loop-index.pages c.loop-index.index p (record { number = 0; flags = 0 }) c.fill_bytes.new.bytes (replicate (4096 - length c.fill_bytes.new.bytes) 0) (omega (arith, c.fill_bytes.auto.bytes, c.loop-index-test.array_long)) (omega arith) refl c.loop-index.invariant c.fill_bytes.ensures)
