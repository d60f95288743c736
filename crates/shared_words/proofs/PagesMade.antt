-- Pages made of words, one after another.
use Rattle.std.proofs.Common.{◌≡◌, ⊎_elim, ℕ, zero, suc, ◌+◌, ◌-◌, ◌<◌, ◌≤◌, List, [], ◌∷◌, ◌++◌, get_or, length, map, take, sym, refl, ap, ◌∙◌, arith}
use Rattle.std.specs.Prelude.{All}
use Rattle.std.specs.List.Sorted.{IsStrictlyIncreasing}
use Rattle.std.proofs.lemmas.Bool.{cases_lt}
use Rattle.std.proofs.lemmas.List.{get_or-map, get_or-take, length-map, length-take-le, map-append, take_more, length-append}
use Rattle.std.proofs.Math.Seq.{get_or-append_seam}
use Rattle.std.proofs.Math.ListN.{get_or-append}
use Rattle.dp_base.specs.declared.page.Page.{Page}
use Rattle.shared_words.specs.Layout.{AreMapped, HasPageWords, byte_of_word, mapped_page}
use Rattle.shared_words.specs.declared.mapped_page.MappedPage.{MappedPage}

pub none_yet : (mapped : List MappedPage) (words : List ℕ) → HasPageWords (take 0 mapped) words []
none_yet mapped words = record { mapped_same = refl; bytes = λ index offset d lt _. absurd (omega arith) }

pages_so_far : (mapped : List MappedPage) (words : List ℕ) (pages : List Page) (index : ℕ) → index ≤ length mapped → HasPageWords (take index mapped) words pages → length pages ≡ index
pages_so_far mapped words pages index within has =
    let a = length-map pages mapped_page in let b = length-take-le index mapped within in let c : length (map mapped_page pages) ≡ length (take index mapped) = ap length has.mapped_same in omega arith

pub rises : (ns : List ℕ) → IsStrictlyIncreasing ns → (k d : ℕ) → k + suc d < length ns → get_or ns k 0 < get_or ns (k + suc d) 0
rises ns rising k zero lt = rising k lt
rises ns rising k (suc d) lt =
    let before = rises ns rising k d (omega arith) in
    let last = rising (k + suc d) (omega arith) in
    let next : k + suc d + 1 ≡ k + suc (suc d) = omega arith in
    omega (arith, before, last, ap (λ n. get_or ns n 0) next)

pub above : (mapped : List MappedPage) (words : List ℕ) (pages : List Page) (index : ℕ) (s z : MappedPage) → AreMapped mapped → index < length mapped → get_or mapped index z ≡ s
    → HasPageWords (take index mapped) words pages → All (λ p. p.number < s.number) pages
above mapped words pages index s z are within here has k d lt =
    let n = pages_so_far mapped words pages index (omega arith) has in
    let x : MappedPage = mapped_page d in
    let ns : List ℕ = map (λ (t : MappedPage). t.number) mapped in
    let e1 : (get_or (map mapped_page pages) k x).number ≡ (get_or pages k d).number = ap (λ (t : MappedPage). t.number) (get_or-map mapped_page pages k d x lt) in
    let e2 : (get_or (map mapped_page pages) k x).number ≡ (get_or (take index mapped) k x).number = ap (λ (ts : List MappedPage). (get_or ts k x).number) has.mapped_same in
    let e3 : (get_or (take index mapped) k x).number ≡ (get_or mapped k x).number = ap (λ (t : MappedPage). t.number) (get_or-take index mapped k x (omega arith)) in
    let e4 : get_or ns k 0 ≡ (get_or mapped k x).number = get_or-map (λ (t : MappedPage). t.number) mapped k x 0 (omega arith) in
    let e5 : get_or ns index 0 ≡ (get_or mapped index z).number = get_or-map (λ (t : MappedPage). t.number) mapped index z 0 within in
    let e6 : (get_or mapped index z).number ≡ s.number = ap (λ (t : MappedPage). t.number) here in
    let len = length-map mapped (λ (t : MappedPage). t.number) in
    let far : k + suc (index - k - 1) ≡ index = omega arith in
    let less = rises ns are.rising k (index - k - 1) (omega arith) in
    omega (arith, less, ap (λ i. get_or ns i 0) far)

pub room : (mapped : List MappedPage) (words : List ℕ) (pages : List Page) (index : ℕ) → AreMapped mapped → index < length mapped → HasPageWords (take index mapped) words pages → length pages < 1024
room mapped words pages index are within has = let n = pages_so_far mapped words pages index (omega arith) has in let few = are.few in omega arith

pub has_more : (mapped : List MappedPage) (words : List ℕ) (pages : List Page) (index : ℕ) (s z : MappedPage) (bytes rest : List ℕ) → length bytes ≡ 4096 → index < length mapped → get_or mapped index z ≡ s
    → HasPageWords (take index mapped) words pages
    → ((k : ℕ) → k < 4096 → get_or bytes k 0 ≡ byte_of_word words index k)
    → HasPageWords (take (index + 1) mapped) words (pages ++ record { number = s.number; flags = s.flags; bytes = bytes ++ rest } ∷ [])
has_more mapped words pages index s z bytes rest whole within here has are_bytes =
    let n = pages_so_far mapped words pages index (omega arith) has in
    let p : Page = record { number = s.number; flags = s.flags; bytes = bytes ++ rest } in
    record {
      mapped_same = map-append mapped_page pages (p ∷ [])
          ∙ (ap (λ (ts : List MappedPage). ts ++ s ∷ []) has.mapped_same
          ∙ (ap (λ (t : MappedPage). take index mapped ++ t ∷ []) (sym here) ∙ sym (take_more mapped index z within)));
      bytes = λ k offset d lt off. ⊎_elim
          (λ (low : k < length pages). ap (λ (q : Page). get_or q.bytes offset 0) (get_or-append pages (p ∷ []) d k low) ∙ has.bytes k offset d low off)
          (λ (high : length pages ≤ k).
          let long = length-append pages (p ∷ []) in
          let is : k ≡ length pages = omega arith in
          let q : get_or (pages ++ p ∷ []) k d ≡ p = ap (λ i. get_or (pages ++ p ∷ []) i d) is ∙ get_or-append_seam pages p [] d in
          ap (λ (r : Page). get_or r.bytes offset 0) q
          ∙ (get_or-append bytes rest 0 offset (omega arith)
          ∙ (are_bytes offset off ∙ ap (λ i. byte_of_word words i offset) (sym (is ∙ n)))))
          (cases_lt k (length pages));
    }
