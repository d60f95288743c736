use Rattle.std.proofs.Common.{◌≡◌, ◌+◌, ◌||◌, ℕ, List, get_or, take, refl, sym, ap, ◌∙◌, arith}
use Rattle.std.specs.List.{list_any}
use Rattle.std.proofs.lemmas.List.{take_all}
use Rattle.std.proofs.lemmas.List.Folds.{list_any_more}
use Rattle.std.proofs.lemmas.List.Recursion.{or_push}
use Rattle.elf_image.specs.declared.span.Span.{Span}
use Rattle.elf_image.specs.Segment.{has_page, stack}
use Rattle.elf_image.proofs.NextPages.{next_alike}
use Rattle.elf_image.proofs.span_pages.next_page.Goals as goal

pub loop-span-preserved : goal.loop-span-preserved
loop-span-preserved c =
    let spans = c.args.spans.now in
    let index = c.loop-span.span-index in
    let none : Span = record { addr = 0; size = 0 } in
    let this = get_or spans index none in
    let so_far = λ (k : ℕ). list_any (λ (s : Span). has_page s k) (take index spans) in
    next_alike (λ k. so_far k || has_page this k) (λ k. list_any (λ (s : Span). has_page s k) (take (index + 1) spans)) c.args.least c.lesser-next.result
    (λ k. sym (list_any_more (λ (s : Span). has_page s k) spans index none c.loop-span-test.true))
    (c.lesser-next.ensures so_far (has_page this) c.args.least c.loop-span.invariant c.next_page.ensures)

pub returns : goal.returns
returns c =
    let spans = c.args.spans.now in
    let all : take c.loop-span.span-index spans ≡ spans = take_all _ spans (omega arith) in
    let so_far = λ (k : ℕ). list_any (λ (s : Span). has_page s k) (take c.loop-span.span-index spans) in
    next_alike (λ k. so_far k || has_page stack k) _ c.args.least c.lesser.result
    (λ k. ap (λ (ss : List Span). list_any (λ s. has_page s k) ss || has_page stack k) all
    ∙ sym (or_push (list_any (λ (s : Span). has_page s k)) (λ (s : Span). has_page s k) refl (λ _ _. refl) spans stack))
    (c.lesser.ensures so_far (has_page stack) c.args.least c.loop-span.invariant c.next_page-2.ensures)
