-- The words of a listing, and the headers of a file, written one after another.
use Rattle.std.proofs.Common.{◌≡◌, ℕ, ◌+◌, ◌<◌, List, [], ◌∷◌, ◌++◌, length, take, get_or, sym, ap, ◌∙◌, append_assoc, arith}
use Rattle.std.proofs.lemmas.List.{append-nil, length-take}
use Rattle.std.proofs.Math.Numerals.{add-one}
use Rattle.std.proofs.Math.Seq.{take-suc}
use Rattle.byteorder.specs.Endian.{little_bytes}
use Rattle.guest_gen.specs.declared.instruction.Instruction.{Instruction}
use Rattle.guest_gen.specs.declared.listing.TheConstants.{FILE_ADDRESS}
use Rattle.guest_gen.specs.Guest.{elf_header, halves, ident, program_header, words}
use Rattle.guest_gen.specs.Listing.{code_from, word_at}

-- with one more at the end
pub word_more : (index : ℕ) (code : List Instruction) (i : Instruction) → code_from index (code ++ i ∷ []) ≡ code_from index code ++ little_bytes 4 (word_at (index + length code) i)
unfolding code_from
word_more index [] i = ap (λ (k : ℕ). little_bytes 4 (word_at k i)) (omega arith)
word_more index (j ∷ code) i =
    ap (λ (l : List ℕ). little_bytes 4 (word_at index j) ++ l) (word_more (index + 1) code i)
    ∙ ap (λ (k : ℕ). little_bytes 4 (word_at index j) ++ (code_from (index + 1) code ++ little_bytes 4 (word_at k i))) (omega arith)
    ∙ sym (append_assoc (little_bytes 4 (word_at index j)) (code_from (index + 1) code) (little_bytes 4 (word_at (index + length (j ∷ code)) i)))

five_joined : (o a b c d : List ℕ) → (((o ++ a) ++ b) ++ c) ++ d ≡ o ++ (((a ++ b) ++ c) ++ d)
five_joined o a b c d = ap (λ (l : List ℕ). l ++ d) (ap (λ (l : List ℕ). l ++ c) (append_assoc o a b) ∙ append_assoc o (a ++ b) c) ∙ append_assoc o ((a ++ b) ++ c) d

pub headers_written : (o a b c d e : List ℕ) (size : ℕ) → a ≡ o ++ ident → b ≡ a ++ halves (2 ∷ 243 ∷ []) → c ≡ b ++ words (1 ∷ (FILE_ADDRESS + 84) ∷ 52 ∷ 0 ∷ 0 ∷ [])
    → d ≡ c ++ halves (52 ∷ 32 ∷ 1 ∷ 0 ∷ 0 ∷ 0 ∷ []) → e ≡ d ++ program_header size → e ≡ o ++ elf_header ++ program_header size
headers_written o a b c d e size a_is b_is c_is d_is e_is =
    let h1 : List ℕ = halves (2 ∷ 243 ∷ []) in
    let w1 : List ℕ = words (1 ∷ (FILE_ADDRESS + 84) ∷ 52 ∷ 0 ∷ 0 ∷ []) in
    let h2 : List ℕ = halves (52 ∷ 32 ∷ 1 ∷ 0 ∷ 0 ∷ 0 ∷ []) in
    let to_c = c_is ∙ ap (λ (l : List ℕ). l ++ w1) (b_is ∙ ap (λ (l : List ℕ). l ++ h1) a_is) in
    e_is ∙ ap (λ (l : List ℕ). l ++ program_header size) (d_is ∙ ap (λ (l : List ℕ). l ++ h2) to_c ∙ five_joined o ident h1 w1 h2)

-- none was written yet
pub none_written : (o : List ℕ) → o ≡ o ++ code_from 0 []
unfolding code_from
none_written o = sym (append-nil o)

-- one more was written
pub next_written : (o before after : List ℕ) (index k word : ℕ) (code : List Instruction) (d : Instruction) → k < length code → index ≡ k → before ≡ o ++ code_from 0 (take k code)
    → word ≡ word_at index (get_or code k d) → after ≡ before ++ little_bytes 4 word → after ≡ o ++ code_from 0 (take (k + 1) code)
next_written o before after index k word code d below index_is so_far word_is grown =
    let i : Instruction = get_or code k d in
    let parts : take (k + 1) code ≡ take k code ++ i ∷ [] = ap (λ (n : ℕ). take n code) (add-one k) ∙ take-suc code k d below in
    let place : index ≡ 0 + length (take k code) = omega (arith, index_is, below, length-take k code) in
    grown
    ∙ ap (λ (l : List ℕ). l ++ little_bytes 4 word) so_far
    ∙ append_assoc o (code_from 0 (take k code)) (little_bytes 4 word)
    ∙ ap (λ (w : ℕ). o ++ (code_from 0 (take k code) ++ little_bytes 4 w)) word_is
    ∙ ap (λ (n : ℕ). o ++ (code_from 0 (take k code) ++ little_bytes 4 (word_at n i))) place
    ∙ ap (λ (l : List ℕ). o ++ l) (sym (word_more 0 (take k code) i))
    ∙ ap (λ (l : List Instruction). o ++ code_from 0 l) (sym parts)
