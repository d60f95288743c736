-- What the images of a disk have in common with what the last sync left.
use Rattle.std.proofs.Common.{◌≡◌, ◌⊎◌, ℕ, ◌+◌, ◌<◌, ◌≤◌, inl, inr, max, List, [], ◌∷◌, ◌++◌, length, take, drop, get_or, refl, sym, ◌∙◌, ap, arith, rules, append_assoc, length-append, length-take, length-drop, take-append-drop}
use Rattle.std.proofs.lemmas.List.{append-nil, drop_all, drop_at, drop_more, ext_get_or, get_or-take, get_or-drop, places, take_all, take_at}
use Rattle.disk_model.specs.History.{IsImage, Pending, nothing_pending, write_pending}
use Rattle.disk_model.specs.Known.{overwritten}

-- ---- one write is pending

-- what is before its range stays
pub image-before : (at count : ℕ) (disk image : List ℕ) → IsImage (write_pending at count (nothing_pending disk)) image → at ≤ length disk → take at image ≡ take at disk
image-before at count disk image is within =
    ext_get_or 0 (take at image) (take at disk)
    (omega (arith, length-take at image, length-take at disk, is.no_shorter))
    (λ i below.
    let early : i < at = omega (arith, below, length-take at image) in
    get_or-take at image i 0 early ∙ is.stays i (omega (arith, early, within)) (inl early, tt) ∙ sym (get_or-take at disk i 0 early))

-- of a write past the end all of the disk stays
pub image-past-end : (count : ℕ) (disk image : List ℕ) → IsImage (write_pending (length disk) count (nothing_pending disk)) image → image ≡ disk ++ drop (length disk) image
image-past-end count disk image is =
    sym (take-append-drop (length disk) image)
    ∙ ap (λ (l : List ℕ). l ++ drop (length disk) image)
    (image-before (length disk) count disk image is (omega arith) ∙ take_all (length disk) disk (omega arith))

-- what follows its range stays, and nothing more does
pub image-behind : (at count : ℕ) (disk image : List ℕ) → IsImage (write_pending at count (nothing_pending disk)) image → at + count ≤ length disk → drop (at + count) image ≡ drop (at + count) disk
image-behind at count disk image is within =
    let same : length image ≡ length disk = omega (arith, is.no_shorter, is.no_longer, within) in
    ext_get_or 0 (drop (at + count) image) (drop (at + count) disk)
    (omega (arith, same, length-drop (at + count) image, length-drop (at + count) disk))
    (λ i below.
    get_or-drop (at + count) image i 0
    ∙ is.stays (at + count + i) (omega (arith, below, same, length-drop (at + count) image)) (inr (omega arith), tt)
    ∙ sym (get_or-drop (at + count) disk i 0))

-- of a write of one byte between others, that byte alone may be another
pub image-one-byte : (a b : List ℕ) (x : ℕ) (image : List ℕ) → IsImage (write_pending (length a) 1 (nothing_pending (a ++ x ∷ b))) image → image ≡ a ++ get_or image (length a) 0 ∷ b
image-one-byte a b x image is =
    let disk = a ++ x ∷ b in
    let size : length disk ≡ length a + (1 + length b) = omega (arith, length-append a (x ∷ b)) in
    let before : take (length a) image ≡ a = image-before (length a) 1 disk image is (omega (arith, size)) ∙ take_at a (x ∷ b) (length a) refl in
    let behind : drop (length a + 1) image ≡ b =
    image-behind (length a) 1 disk image is (omega (arith, size))
    ∙ ap (λ (l : List ℕ). drop (length a + 1) l) (sym (append_assoc a (x ∷ []) b))
    ∙ drop_at (a ++ x ∷ []) b (length a + 1) (omega (arith, length-append a (x ∷ []))) in
    sym (take-append-drop (length a) image)
    ∙ ap (λ (l : List ℕ). l ++ drop (length a) image) before
    ∙ ap (λ (l : List ℕ). a ++ l) (drop_more image (length a) 0 (omega (arith, is.no_shorter, size)) ∙ ap (λ (l : List ℕ). get_or image (length a) 0 ∷ l) behind)

-- an image is also one of those with a write more
pub image-pending : (at count : ℕ) (p : Pending) (image : List ℕ) → IsImage p image → IsImage (write_pending at count p) image
image-pending at count p image is = record {
  no_shorter = is.no_shorter;
  no_longer = omega (arith, is.no_longer);
  stays = λ i below out. is.stays i below out.1;
  bytes = is.bytes;
}

-- ---- nothing is pending

pub image-synced : (disk image : List ℕ) → IsImage (nothing_pending disk) image → image ≡ disk
image-synced disk image is =
    ext_get_or 0 image disk (omega (arith, is.no_shorter, is.no_longer)) (λ i below. is.stays i (omega (arith, below, is.no_longer)) tt)

-- ---- what is written

pub length-overwritten : (at : ℕ) (bytes disk : List ℕ) → at ≤ length disk → length (overwritten at bytes disk) ≡ max (length disk) (at + length bytes)
length-overwritten at bytes disk within =
    omega (arith, length-append (take at disk ++ bytes) (drop (at + length bytes) disk), length-append (take at disk) bytes, length-take at disk, length-drop (at + length bytes) disk)

-- outside of its range a write leaves what was there
pub overwritten-outside : (at : ℕ) (bytes disk : List ℕ) (i : ℕ) → at ≤ length disk → i < length disk → (i < at) ⊎ (at + length bytes ≤ i) → get_or (overwritten at bytes disk) i 0 ≡ get_or disk i 0
overwritten-outside at bytes disk i within below (inl before) = search (rules, places)
overwritten-outside at bytes disk i within below (inr behind) = search (rules, places)

-- what was written whole is one of the images while it was pending
pub image-written : (at : ℕ) (bytes disk image : List ℕ) → at ≤ length disk → IsImage (nothing_pending (overwritten at bytes disk)) image → IsImage (write_pending at (length bytes) (nothing_pending disk)) image
image-written at bytes disk image within is =
    let size = length-overwritten at bytes disk within in
    record {
      no_shorter = omega (arith, size, is.no_shorter);
      no_longer = omega (arith, size, is.no_longer);
      stays = λ i below out. is.stays i (omega (arith, size, below)) tt ∙ overwritten-outside at bytes disk i within below out.0;
      bytes = is.bytes;
    }

-- a write past the end
pub overwritten-end : (at : ℕ) (bytes disk : List ℕ) → at ≡ length disk → overwritten at bytes disk ≡ disk ++ bytes
overwritten-end at bytes disk is =
    ap (λ (l : List ℕ). l ++ bytes ++ drop (at + length bytes) disk) (take_all at disk (omega arith))
    ∙ ap (λ (l : List ℕ). disk ++ bytes ++ l) (drop_all (at + length bytes) disk (omega arith))
    ∙ append-nil (disk ++ bytes)

-- a write of one byte between others
pub overwritten-one-byte : (at : ℕ) (a b : List ℕ) (x y : ℕ) → at ≡ length a → overwritten at (y ∷ []) (a ++ x ∷ b) ≡ a ++ y ∷ b
overwritten-one-byte at a b x y is =
    ap (λ (l : List ℕ). l ++ (y ∷ []) ++ drop (at + 1) (a ++ x ∷ b)) (take_at a (x ∷ b) at (sym is))
    ∙ ap (λ (l : List ℕ). a ++ (y ∷ []) ++ l)
    (ap (λ (l : List ℕ). drop (at + 1) l) (sym (append_assoc a (x ∷ []) b)) ∙ drop_at (a ++ x ∷ []) b (at + 1) (omega (arith, length-append a (x ∷ []))))
    ∙ append_assoc a (y ∷ []) b
