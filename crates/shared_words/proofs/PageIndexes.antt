-- The index of a page among those that are mapped.
use Rattle.std.proofs.Common.{◌≡◌, ◌<◌, ◌+◌, ◌-◌, ℕ, suc, true, cond, Option, Some, None, List, length, get_or, arith, ◌∙◌, ap, refl}
use Rattle.std.specs.Prelude.{map, slice_get, nat_lt, ◌==◌}
use Rattle.std.specs.List.Sorted.{IsStrictlyIncreasing}
use Rattle.std.proofs.lemmas.Bool.{lt-ltb, eqb-true, ne_eqb}
use Rattle.std.proofs.lemmas.List.{get_or-map, length-map}
use Rattle.std.proofs.lemmas.List.Sums.{position_or_len_is}
use Rattle.std.proofs.lemmas.Option.{slice_get_within, get_or_from_slice_get}
use Rattle.shared_words.proofs.PagesMade.{rises}
use Rattle.shared_words.specs.Layout.{AreMapped, is_page_numbered, page_index}
use Rattle.shared_words.specs.declared.mapped_page.MappedPage.{MappedPage}

below : (mapped : List MappedPage) (p : MappedPage) (i k : ℕ) → IsStrictlyIncreasing (map (λ (q : MappedPage). q.number) mapped) → k < i → i < length mapped → (get_or mapped k p).number < (get_or mapped i p).number
below mapped p i k rising before within =
    let ns : List ℕ = map (λ (q : MappedPage). q.number) mapped in
    let len = length-map mapped (λ (q : MappedPage). q.number) in
    let d : ℕ = i - k - 1 in
    let there : k + suc d ≡ i = omega arith in
    let less = rises ns rising k d (omega (arith, len, there)) in
    let left = get_or-map (λ (q : MappedPage). q.number) mapped k p 0 (omega arith) in
    let right = get_or-map (λ (q : MappedPage). q.number) mapped i p 0 within in
    omega (arith, left, right, ap (λ n. get_or ns n 0) there, less)

by_slot : (mapped : List MappedPage) (number i : ℕ) (x : Option MappedPage) → AreMapped mapped → slice_get mapped i ≡ x → is_page_numbered number x ≡ true → page_index mapped number ≡ Some i
by_slot mapped number i None are at has = absurd cc
by_slot mapped number i (Some p) are at has =
    let within = slice_get_within mapped i p at in
    let here = get_or_from_slice_get mapped i p p at in
    let n : p.number ≡ number = eqb-true _ _ has in
    let first = position_or_len_is (λ (q : MappedPage). q.number == number) mapped i p (omega arith)
    (λ k lt. ne_eqb _ _ (let less = below mapped p i k are.rising lt within in let same = ap (λ (q : MappedPage). q.number) here in omega (arith, less, same, n)))
    (λ _. ap (λ (q : MappedPage). q.number == number) here ∙ has) in
    ap (λ m. cond (nat_lt m (length mapped)) (Some m) None) first ∙ ap (λ b. cond b (Some i) None) (lt-ltb i (length mapped) within)

pub page_index_is : (mapped : List MappedPage) (number i : ℕ) → AreMapped mapped → is_page_numbered number (slice_get mapped i) ≡ true → page_index mapped number ≡ Some i
page_index_is mapped number i are has = by_slot mapped number i (slice_get mapped i) are refl has
