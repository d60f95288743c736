use Rattle.std.proofs.Common.{List, ℕ, ◌++◌, Ok, Option, map, take, sym, subst, ◌∙◌, ap}
use Rattle.std.specs.List.{flat_map}
use Rattle.std.specs.Option.{option_map}
use Rattle.dp_base.specs.declared.page.Page.{Page}
use Rattle.dp_base.specs.View.{page_of}
use Rattle.byteorder.specs.Endian.{little_bytes}
use Rattle.guest_state.specs.Checkpoint.{word}
use Rattle.partial_mark.specs.Base.{content_against, page_against}
use Rattle.partial_mark.specs.Partial.{content_bytes, partial_page_bytes}
use Rattle.checkpoint.specs.Sink.{Adds}
use Rattle.checkpoint.proofs.Adding.{adds_then, flat_map-map-take}
use Rattle.checkpoint.proofs.BasePages.{next_for}
use Rattle.checkpoint.proofs.partial_encoding.write_pages.Goals as goal

pub pages-preserved : goal.pages-preserved
pages-preserved g c =
    let l = c.pages in
    let pages = c.args.state.now.pages in
    let base = c.args.base.now.pages in
    let page = page_of c.in-Some.page in
    let at = sym c.at.ensures.page ∙ ap (option_map page_of) c.in-Some.is in
    let wrote = subst (λ (o : Option Page). Adds g.S.Sink.holds l.sink c.write_page.new.sink (Ok tt) (word page.number ++ (little_bytes 1 page.flags ++ content_bytes (content_against o page)))) c.look_up-next_place.ensures.found c.in_ok-write_page.ensures.added in
    let both = adds_then g.S.Sink.holds _ _ _ (flat_map partial_page_bytes (map (page_against base) (take l.place pages))) (partial_page_bytes (page_against base page)) l.invariant.added wrote in
    record {
      added = subst (λ (t : List ℕ). Adds g.S.Sink.holds c.args.sink.now c.write_page.new.sink (Ok tt) t) (sym (flat_map-map-take partial_page_bytes (page_against base) pages l.place page at)) both;
      past = next_for base c.look_up-next_place.result.0 pages l.place page c.pages-count.ensures.kept at c.look_up-next_place.ensures.past;
    }
