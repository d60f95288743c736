use Rattle.std.proofs.Common.{◌≡◌, ◌∙◌, ap, false, true, List, subst, sym, rules, inr}
use Rattle.elf_image.specs.declared.image.Segment.{Segment}
use Rattle.elf_image.specs.Faults.{has_bad_segment, has_too_many_pages, image_fault}
use Rattle.elf_image.specs.Segment.{AreSegments, heap_start, spans_of}
use Rattle.elf_image.proofs.Entries.{are_segments, loaded_are, pages_are, segments_are, spans_are}
use Rattle.elf_image.proofs.loading.load.Goals as goal

pub has_bad_segment-requires-clause-where_they_lie : goal.has_bad_segment-requires-clause-where_they_lie
has_bad_segment-requires-clause-where_they_lie c =
    let file = c.args.file.now in
    let entries = loaded_are file _ _ _ c.in_ok-headers.ensures c.deref-2.ensures.value c.in_ok-loaded.ensures in
    c.deref-5.ensures.value ∙ spans_are file _ _ _ entries c.deref-3.ensures.value c.in_ok-spans.ensures

pub returns-then-branch-clause-refused : goal.returns-then-branch-clause-refused
unfolding image_fault
returns-then-branch-clause-refused c =
    let file = c.args.file.now in
    let entries = loaded_are file _ _ _ c.in_ok-headers.ensures c.deref-2.ensures.value c.in_ok-loaded.ensures in
    let spans = c.deref-6.ensures.value ∙ spans_are file _ _ _ entries c.deref-3.ensures.value c.in_ok-spans.ensures in
    let many : has_too_many_pages file ≡ true = pages_are file _ _ _ spans c.in_ok-has_too_many_pages.ensures c.if-branch.true in
    inr (search rules)

pub from_vec-requires : goal.from_vec-requires
from_vec-requires c =
    let file = c.args.file.now in
    let entries = loaded_are file _ _ _ c.in_ok-headers.ensures c.deref-2.ensures.value c.in_ok-loaded.ensures in
    let spans = c.deref-6.ensures.value ∙ spans_are file _ _ _ entries c.deref-3.ensures.value c.in_ok-spans.ensures in
    let segments = segments_are file _ _ _ entries c.deref-7.ensures.value c.in_ok-segments.ensures in
    let good : has_bad_segment file ≡ false = sym c.has_bad_segment.ensures.answer ∙ c.if-has_bad_segment.false in
    let few : has_too_many_pages file ≡ false = pages_are file _ _ _ spans c.in_ok-has_too_many_pages.ensures c.if-branch.false in
    subst AreSegments (sym segments) (are_segments file good few)

pub invariant_of-result : goal.invariant_of-result
invariant_of-result c =
    let file = c.args.file.now in
    let entries = loaded_are file _ _ _ c.in_ok-headers.ensures c.deref-2.ensures.value c.in_ok-loaded.ensures in
    let spans = c.deref-8.ensures.value ∙ spans_are file _ _ _ entries c.deref-3.ensures.value c.in_ok-spans.ensures in
    let segments = c.from_vec.ensures ∙ segments_are file _ _ _ entries c.deref-7.ensures.value c.in_ok-segments.ensures in
    record { heap_is_theirs = c.heap_start.ensures ∙ ap heap_start spans ∙ sym (ap (λ (s : List Segment). heap_start (spans_of s)) segments) }
