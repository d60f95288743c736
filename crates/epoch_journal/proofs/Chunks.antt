-- A disk that is read chunk by chunk.
use Rattle.std.proofs.Common.{◌≡◌, ℕ, ◌+◌, ◌-◌, ◌<◌, ◌≤◌, Bool, true, false, cond, ltb, List, ◌++◌, length, take, drop, Option, Some, None, refl, sym, ap, ◌∙◌, arith}
use Rattle.std.specs.Prelude.{IsTrue}
use Rattle.std.proofs.Math.Seq.{take-add, take-append-add}
use Rattle.std.proofs.lemmas.Bool.{ltb-false}
use Rattle.std.proofs.lemmas.List.{length-take, length-take-le, length-drop, length-append, take-append-le, take-take, take_all, take_at}
use Rattle.std.proofs.lemmas.Slice.{take-put_mid}
use borrow.Rule.Slice.PartMut.{put_mid}
use Rattle.dp_base.specs.declared.limits.TheConstants.{MAX_JOURNAL_BYTES}
use Rattle.disk_model.specs.Steps.{IsRead}
use Rattle.epoch_journal.specs.ReadWhole.{IsReadOn, IsReadSoFar, IsReadWhole}

-- what a vector begins with, if a read filled it from its at-th byte on and gave n bytes
pub kept_and_read : (bytes room new rest : List ℕ) (at k n size : ℕ) → at ≤ length room → n ≤ length new → at + n ≤ size → take at room ≡ bytes → take (at + n) (take size (put_mid at k room new ++ rest)) ≡ bytes ++ take n new
kept_and_read bytes room new rest at k n size within few fits same =
    let whole = put_mid at k room new in
    let front = take at room in
    let count : length front ≡ at = length-take-le at room within in
    let all : take (at + length new) whole ≡ front ++ new = take-put_mid at k room new (at + length new) refl within in
    let long : at + n ≤ length whole = omega (arith, length-take (at + length new) whole, ap (λ (l : List ℕ). length l) all, length-append front new, count, few) in
    let outer : take (at + n) (take size (whole ++ rest)) ≡ take (at + n) (whole ++ rest) = take-take (at + n) size (whole ++ rest) fits in
    let first : take (at + n) (take (at + length new) whole) ≡ take (at + n) whole = take-take (at + n) (at + length new) whole (omega (arith, few)) in
    let joined : take (length front + n) (front ++ new) ≡ front ++ take n new = take-append-add front new n in
    outer ∙ take-append-le (at + n) whole rest long ∙ sym first ∙ ap (take (at + n)) all ∙ ap (λ (m : ℕ). take (m + n) (front ++ new)) (sym count) ∙ joined ∙ ap (λ (l : List ℕ). l ++ take n new) same

-- one chunk more, at the start of a buffer
pub chunk_read : (known : Option (List ℕ)) (bytes old new : List ℕ) (n : ℕ) (more : Bool) → IsReadSoFar known bytes → IsRead known (length bytes) old new n → 0 < length old → more ≡ ltb 0 n → IsReadOn known (bytes ++ take n new) more
chunk_read None bytes old new n more so_far read some is = tt
chunk_read (Some disk) bytes old new n more so_far read some is =
    let there : n ≤ length disk - length bytes = omega (arith, read.0) in
    let part = take n (drop (length bytes) disk) in
    let size : length part ≡ n = omega (arith, length-take n (drop (length bytes) disk), length-drop (length bytes) disk, there) in
    let got : take n new ≡ part = ap (take n) read.1 ∙ take_at part (drop n old) n size in
    let long : length (bytes ++ take n new) ≡ length bytes + n = omega (arith, length-append bytes (take n new), ap (λ (l : List ℕ). length l) got, size) in (
      ap (λ (l : List ℕ). bytes ++ l) got ∙ ap (λ (l : List ℕ). l ++ part) so_far ∙ sym (take-add (length bytes) n disk) ∙ ap (λ (k : ℕ). take k disk) (sym long),
      λ none. (let zero_ : n ≤ 0 = ltb-false _ _ (sym is ∙ none) in omega (arith, long, zero_, read.0, some)),
    )

-- nothing is left, or enough was read
pub all_read : (known : Option (List ℕ)) (bytes : List ℕ) (more : Bool) → IsReadOn known bytes more → length bytes ≤ MAX_JOURNAL_BYTES → (more ≡ true → length bytes ≡ MAX_JOURNAL_BYTES) → IsReadWhole known bytes
all_read None bytes more so_far few enough = tt
all_read (Some disk) bytes true so_far few enough = so_far.0 ∙ ap (λ (n : ℕ). take n disk) (enough refl)
all_read (Some disk) bytes false so_far few enough =
    let none = so_far.1 refl in
    so_far.0 ∙ take_all (length bytes) disk none ∙ sym (take_all MAX_JOURNAL_BYTES disk (omega (arith, none, few)))

-- less is left, or it was the last time
pub smaller : (most before after : ℕ) (more : Bool) → before ≤ most → after ≤ most → before ≤ after → (IsTrue more → before < after) → most - after + cond more 1 0 < most - before + 1
smaller most before after true below within kept grows = let grown = grows refl in omega (arith, below, within, grown)
smaller most before after false below within kept grows = omega (arith, below, within, kept)
