-- The bytes of words.
use Rattle.std.proofs.Common.{◌≡◌, ⊎_elim, ℕ, zero, suc, ◌+◌, ◌-◌, ◌*◌, ◌/◌, ◌%◌, ◌<◌, ◌≤◌, List, [], ◌∷◌, get_or, sym, ap, ◌∙◌, arith}
use Rattle.std.proofs.lemmas.Bool.{cases_lt}
use mathlib.Core.Option.{some, some-injective, some-ne-none}
use lib.ListN.{get_elem?}
use Rattle.shared_words.specs.Layout.{word_byte}

pub index_of : (words : List ℕ) (i word : ℕ) → get_elem? words i ≡ some word → get_or words i 0 ≡ word
index_of [] i word e = absurd (some-ne-none word (sym e))
index_of (x ∷ xs) zero word e = some-injective x word e
index_of (x ∷ xs) (suc i) word e = index_of xs i word e

-- bytes after one word more
pub bytes_more : (old new : List ℕ) (words : List ℕ) (index word first : ℕ)
    → ((k : ℕ) → k < 4 * index → get_or old k 0 ≡ word_byte (get_or words (first + k / 4) 0) (k % 4))
    → ((k : ℕ) → k < 4 * index → get_or new k 0 ≡ get_or old k 0)
    → ((k : ℕ) → k < 4 → get_or new (4 * index + k) 0 ≡ word_byte word k)
    → get_or words (first + index) 0 ≡ word
    → (k : ℕ) → k < 4 * (index + 1) → get_or new k 0 ≡ word_byte (get_or words (first + k / 4) 0) (k % 4)
bytes_more old new words index word first before same here is k lt = ⊎_elim
    (λ (low : k < 4 * index). same k low ∙ before k low)
    (λ (high : 4 * index ≤ k).
    let d : ℕ = k - 4 * index in
    let at : 4 * index + d ≡ k = omega arith in
    let q : k / 4 ≡ index = omega arith in
    let r : k % 4 ≡ d = omega arith in
    ap (λ (i : ℕ). get_or new i 0) (sym at) ∙ (here d (omega arith)
    ∙ (ap (λ (w : ℕ). word_byte w d) (sym is)
    ∙ (ap (λ (i : ℕ). word_byte (get_or words (first + i) 0) d) (sym q) ∙ ap (λ (i : ℕ). word_byte (get_or words (first + k / 4) 0) i) (sym r)))))
    (cases_lt k (4 * index))
