-- The bytes of a page, place by place.
use Rattle.std.proofs.Common.{◌≡◌, ℕ, zero, suc, ◌+◌, ◌-◌, ◌*◌, ◌<◌, List, [], ◌∷◌, length, map, drop, get_or, slice_index_or, Option, Some, refl, sym, ◌∙◌, arith}
use Rattle.std.specs.List.{AllByRecursion, find, range_with_len}
use Rattle.std.specs.Option.{option_map, unwrap_or}
use Rattle.std.proofs.lemmas.Bool.{cond_both}
use Rattle.std.proofs.lemmas.List.{ext_get_or}
use Rattle.std.proofs.lemmas.List.FromFn.{get_or-map-range_with_len, length-map-range_with_len}
use Rattle.dp_base.specs.declared.limits.TheConstants.{PAGE_BYTES}
use Rattle.dp_base.specs.Field.{AreBytes}
use Rattle.dp_base.proofs.Fields.{AreBytes-drop, AreBytes-take}
use Rattle.elf_image.specs.declared.image.Segment.{Segment}
use Rattle.elf_image.specs.declared.program_header.ProgramHeader.{ProgramHeader}
use Rattle.elf_image.specs.Image.{byte_at, has_byte, image_page_bytes, segment_of, segments_of}

-- ---- a list by its places

listed : (f : ℕ → ℕ) (xs : List ℕ) (a n : ℕ) → length xs ≡ n → ((k : ℕ) → k < n → get_or xs k 0 ≡ f (a + k)) → xs ≡ map f (range_with_len a n)
listed f xs a n size each =
    ext_get_or 0 xs (map f (range_with_len a n)) (size ∙ sym (length-map-range_with_len f a n))
    (λ k below. each k (omega arith) ∙ sym (get_or-map-range_with_len f a n k (a + k) 0 (omega arith) refl))

listed_bytes : (f : ℕ → ℕ) (a n : ℕ) → ((k : ℕ) → f k < 256) → AreBytes (map f (range_with_len a n))
listed_bytes f a zero small i = omega arith
listed_bytes f a (suc n) small zero = small a
listed_bytes f a (suc n) small (suc i) = listed_bytes f (a + 1) n small i

pub page_listed : (segments : List Segment) (number : ℕ) (page : List ℕ) → length page ≡ PAGE_BYTES
    → ((offset : ℕ) → offset < PAGE_BYTES → get_or page offset 0 ≡ unwrap_or (byte_at segments (PAGE_BYTES * number + offset)) 0)
    → page ≡ image_page_bytes segments number
unfolding image_page_bytes
page_listed segments number page size each = listed (λ address. unwrap_or (byte_at segments address) 0) page (PAGE_BYTES * number) PAGE_BYTES size each

-- ---- the first segment wins

-- ---- what a file gives is bytes

given_byte : (segments : List Segment) (address : ℕ) → AllByRecursion (λ s. AreBytes s.bytes) segments → unwrap_or (byte_at segments address) 0 < 256
given_byte [] address each = omega arith
given_byte (s ∷ others) address each =
    cond_both (has_byte s address) (Some s) (find (λ (t : Segment). has_byte t address) others)
    (λ (found : Option Segment). unwrap_or (option_map (λ (t : Segment). slice_index_or t.bytes (address - t.addr) 0) found) 0 < 256)
    (λ _. each.0 (address - s.addr))
    (λ _. given_byte others address each.1)

segment_bytes : (file : List ℕ) (ps : List ProgramHeader) → AreBytes file → AllByRecursion (λ s. AreBytes s.bytes) (map (segment_of file) ps)
segment_bytes file [] bytes = tt
segment_bytes file (p ∷ ps) bytes = (AreBytes-take p.p_filesz (drop p.p_offset file) (AreBytes-drop p.p_offset file bytes), segment_bytes file ps bytes)

pub page_is_bytes : (file : List ℕ) (number : ℕ) → AreBytes file → AreBytes (image_page_bytes (segments_of file) number)
unfolding image_page_bytes
page_is_bytes file number bytes =
    listed_bytes (λ address. unwrap_or (byte_at (segments_of file) address) 0) (PAGE_BYTES * number) PAGE_BYTES
    (λ address. given_byte (segments_of file) address (segment_bytes file _ bytes))
