use Rattle.std.proofs.Common.{List, ℕ, Ok, take, sym, subst, ◌∙◌, ap}
use Rattle.std.specs.List.{flat_map}
use Rattle.std.specs.Option.{option_map}
use Rattle.guest_state.specs.Checkpoint.{page_bytes}
use Rattle.dp_base.specs.View.{page_of}
use Rattle.checkpoint.specs.Sink.{Adds}
use Rattle.checkpoint.proofs.Adding.{adds_then, flat_map-take}
use Rattle.checkpoint.proofs.encoding_parts.write_pages.Goals as goal

pub loop-place-preserved : goal.loop-place-preserved
loop-place-preserved g c =
    let l = c.loop-place in
    let pages = c.args.state.now.pages in
    let page = page_of c.in-Some.page in
    let at = sym c.at.ensures.page ∙ ap (option_map page_of) c.in-Some.is in
    let both = adds_then g.S.Sink.holds _ _ _ (flat_map page_bytes (take l.place pages)) (page_bytes page) l.invariant c.in_ok-write_page.ensures.added in
    subst (λ (t : List ℕ). Adds g.S.Sink.holds c.args.sink.now c.write_page.new.sink (Ok tt) t) (sym (flat_map-take page_bytes pages l.place page at)) both
