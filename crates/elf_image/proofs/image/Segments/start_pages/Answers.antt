use Rattle.std.proofs.Common.{◌≡◌, All, subst, sym, ap, ◌∙◌}
use Rattle.std.proofs.lemmas.Result.{IfOk-weaker}
use Rattle.elf_image.specs.Segment.{ArePageNumbers, spans_of, start_pages}
use Rattle.elf_image.proofs.Entries.{EndsInMemory, spans_in_memory}
use Rattle.elf_image.proofs.StartPages.{few_are_all, page_numbers}
use Rattle.elf_image.proofs.image.Segments.start_pages.Goals as goal

pub first_pages-requires : goal.first_pages-requires
first_pages-requires c =
    let spans : c.deref.result.now ≡ spans_of c.args.self.now = c.deref.ensures.value ∙ c.in_ok-spans.ensures ∙ ap spans_of c.as_slice.ensures.segments in
    subst (All EndsInMemory) (sym spans) (spans_in_memory c.args.self.now c.as_slice.ensures.kept.each)

pub returns-clause-numbers : goal.returns-clause-numbers
returns-clause-numbers c =
    let spans : c.deref.result.now ≡ spans_of c.args.self.now = c.deref.ensures.value ∙ c.in_ok-spans.ensures ∙ ap spans_of c.as_slice.ensures.segments in
    IfOk-weaker c.first_pages.result _ (λ numbers. numbers.items ≡ start_pages (spans_of c.args.self.now))
    (λ numbers are. few_are_all c.args.self.now _ _ c.as_slice.ensures.kept spans are) c.first_pages.ensures

pub returns-clause-kept : goal.returns-clause-kept
returns-clause-kept c =
    let spans : c.deref.result.now ≡ spans_of c.args.self.now = c.deref.ensures.value ∙ c.in_ok-spans.ensures ∙ ap spans_of c.as_slice.ensures.segments in
    IfOk-weaker c.first_pages.result _ (λ numbers. ArePageNumbers numbers.items)
    (λ numbers are. subst ArePageNumbers (sym (few_are_all c.args.self.now _ _ c.as_slice.ensures.kept spans are)) (page_numbers c.args.self.now c.as_slice.ensures.kept))
    c.first_pages.ensures
