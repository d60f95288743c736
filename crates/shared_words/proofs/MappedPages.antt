-- Pages without their bytes.
use Rattle.std.proofs.Common.{◌≡◌, ◌<◌, ℕ, List, map, get_or, sym, subst, ap, refl, ◌∙◌, ◌+◌, [], ◌∷◌, ◌++◌, take, arith}
use Rattle.std.proofs.lemmas.List.{length-map, map-append, take_more}
use Rattle.std.proofs.lemmas.Option.{slice_get_within, get_or_from_slice_get}
use Rattle.std.specs.Prelude.{slice_get, Some}
use Rattle.std.specs.List.Sorted.{IsStrictlyIncreasing}
use Rattle.std.proofs.lemmas.List.Elements.{All-map}
use Rattle.dp_base.specs.Memory.{ArePages}
use Rattle.dp_base.specs.declared.limits.TheConstants.{PAGE_NUMBERS}
use Rattle.dp_base.specs.declared.page.Page.{Page}
use Rattle.shared_words.specs.Layout.{AreMapped, mapped_page}
use Rattle.shared_words.specs.declared.mapped_page.MappedPage.{MappedPage}

numbers_same : (pages : List Page) → map (λ (s : MappedPage). s.number) (map mapped_page pages) ≡ map (λ (p : Page). p.number) pages
numbers_same [] = refl
numbers_same (p ∷ pages) = ap (λ (ns : List ℕ). p.number ∷ ns) (numbers_same pages)

pub are_mapped : (pages : List Page) → ArePages pages → AreMapped (map mapped_page pages)
are_mapped pages are = record {
  numbers = All-map (λ (s : MappedPage). s.number < PAGE_NUMBERS) mapped_page pages (λ k d lt. (are.each k d lt).number);
  flags = All-map (λ (s : MappedPage). s.flags < 8) mapped_page pages (λ k d lt. (are.each k d lt).flags);
  rising = subst IsStrictlyIncreasing (sym (numbers_same pages)) are.rising;
  few = (let l = length-map pages mapped_page in let f = are.few in omega arith);
}

pub mapped_more : (pages : List Page) (mapped : List MappedPage) (i : ℕ) (p : Page) → slice_get pages i ≡ Some p → mapped ≡ map mapped_page (take i pages)
    → mapped ++ mapped_page p ∷ [] ≡ map mapped_page (take (i + 1) pages)
mapped_more pages mapped i p at are =
    let within = slice_get_within pages i p at in
    let here : get_or pages i p ≡ p = get_or_from_slice_get pages i p p at in
    let more = take_more pages i p within in
    ap (λ (ss : List MappedPage). ss ++ mapped_page p ∷ []) are
    ∙ (sym (map-append mapped_page (take i pages) (p ∷ [])) ∙ ap (map mapped_page) (ap (λ (q : Page). take i pages ++ q ∷ []) (sym here) ∙ sym more))
