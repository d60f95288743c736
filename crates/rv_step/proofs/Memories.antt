-- What stores leave of a memory, and what is loaded from one.
use Rattle.std.proofs.Common.{◌≡◌, ℕ, zero, suc, ◌+◌, ◌/◌, ◌%◌, ◌^◌, ◌<◌, Bool, List, [], ◌∷◌, map, Option, Some, None, refl, sym, ap, subst, ◌∙◌, arith, inl, inr}
use Rattle.std.specs.Prelude.{◌==◌, slice_set, slice_index, All}
use Rattle.std.specs.List.{find}
use Rattle.std.specs.Option.{option_map}
use Rattle.std.proofs.lemmas.Bool.{cond_both}
use Rattle.std.proofs.lemmas.List.{length-set}
use Rattle.std.proofs.lemmas.List.Elements.{All-cons, All-head, All-tail}
use Rattle.std.proofs.lemmas.Option.{same_Some}
use Rattle.byteorder.specs.Endian.{little_bytes, little_number}
use Rattle.byteorder.specs.Numbers.{little_from-lt}
use Rattle.dp_base.specs.declared.access.Width.{Width}
use Rattle.dp_base.specs.declared.access.Width.TheVariants.{One, Two, Four}
use Rattle.dp_base.specs.declared.limits.TheConstants.{PAGE_BYTES}
use Rattle.dp_base.specs.declared.page.Page.{Page}
use Rattle.dp_base.specs.Field.{AreBytes, ◌>>=◌}
use Rattle.dp_base.specs.Memory.{Memory, byte_in, byte_with, bytes_with, change_page, fetched, has_flag, loaded, may_store, page_at, put_bytes, put_byte, stored, width_bytes, with_byte}
use Rattle.dp_base.proofs.Epochs.{chosen, only_if}
use Rattle.dp_base.proofs.Fields.{bind_some}
use Rattle.dp_base.proofs.Sizes.{AreBytes-cons, AreBytes-little_bytes}
use Rattle.rv_step.specs.Frame.{IsStoredAt}
use Rattle.guest_state.specs.Checkpoint.{IsWord}
use Rattle.rv_step.specs.Words.{HasBytes, HasSameShape, shape_of}

-- ---- bytes

bytes_set : (xs : List ℕ) (i y : ℕ) → AreBytes xs → y < 256 → AreBytes (slice_set xs i y)
bytes_set [] i y fits small j = fits j
bytes_set (x ∷ xs) zero y fits small zero = small
bytes_set (x ∷ xs) zero y fits small (suc j) = fits (suc j)
bytes_set (x ∷ xs) (suc i) y fits small zero = fits 0
bytes_set (x ∷ xs) (suc i) y fits small (suc j) = bytes_set xs i y (λ k. fits (suc k)) small j

abbrev IsOfBytes : Page → Type 0
IsOfBytes p = AreBytes p.bytes

with_byte_is : (offset byte : ℕ) (p : Page) → byte < 256 → IsOfBytes p → IsOfBytes (with_byte offset byte p)
with_byte_is offset byte p small fits = bytes_set p.bytes offset byte fits small

change_page_bytes : (number offset byte : ℕ) (m : Memory) → byte < 256 → HasBytes m → HasBytes (change_page number (with_byte offset byte) m)
unfolding change_page
change_page_bytes number offset byte [] small all = all
change_page_bytes number offset byte (p ∷ m) small all =
    let here = All-head IsOfBytes p m all in
    let others = All-tail IsOfBytes p m all in
    cond_both (p.number == number) _ _ HasBytes (λ _. All-cons IsOfBytes (with_byte offset byte p) m (with_byte_is offset byte p small here) others)
    (λ _. All-cons IsOfBytes p (change_page number (with_byte offset byte) m) here (change_page_bytes number offset byte m small others))

pub put_bytes_bytes : (bytes : List ℕ) (address : ℕ) (m : Memory) → AreBytes bytes → HasBytes m → HasBytes (put_bytes address bytes m)
unfolding put_bytes
put_bytes_bytes [] address m fits all = all
put_bytes_bytes (b ∷ bytes) address m fits all =
    put_bytes_bytes bytes (address + 1) (put_byte address b m) (λ i. fits (suc i)) (change_page_bytes (address / PAGE_BYTES) (address % PAGE_BYTES) b m (fits 0) all)

pub stored_bytes : (width : Width) (address value : ℕ) (m : Memory) → HasBytes m → HasBytes (stored width address value m)
stored_bytes width address value m all =
    cond_both (may_store width address m) _ _ HasBytes (λ _. put_bytes_bytes (little_bytes (width_bytes width) value) address m (AreBytes-little_bytes (width_bytes width) value) all) (λ _. all)

-- ---- shape

with_byte_shape : (offset byte : ℕ) (p : Page) → shape_of (with_byte offset byte p) ≡ shape_of p
with_byte_shape offset byte p = ap (λ (n : ℕ). (p.number, p.flags, n)) (length-set p.bytes offset byte)

change_page_shape : (number offset byte : ℕ) (m : Memory) → HasSameShape m (change_page number (with_byte offset byte) m)
unfolding change_page
change_page_shape number offset byte [] = refl
change_page_shape number offset byte (p ∷ m) =
    cond_both (p.number == number) _ _ (HasSameShape (p ∷ m)) (λ _. ap (λ (s : ℕ × ℕ × ℕ). s ∷ map shape_of m) (with_byte_shape offset byte p))
    (λ _. ap (λ (l : List (ℕ × ℕ × ℕ)). shape_of p ∷ l) (change_page_shape number offset byte m))

pub put_bytes_shape : (bytes : List ℕ) (address : ℕ) (m : Memory) → HasSameShape m (put_bytes address bytes m)
unfolding put_bytes
put_bytes_shape [] address m = refl
put_bytes_shape (b ∷ bytes) address m = put_bytes_shape bytes (address + 1) (put_byte address b m) ∙ change_page_shape (address / PAGE_BYTES) (address % PAGE_BYTES) b m

pub stored_shape : (width : Width) (address value : ℕ) (m : Memory) → HasSameShape m (stored width address value m)
stored_shape width address value m =
    cond_both (may_store width address m) _ _ (HasSameShape m) (λ _. put_bytes_shape (little_bytes (width_bytes width) value) address m) (λ _. refl)

-- what holds of a memory and of it after each store holds after the stores that are allowed there
pub behind_store : (P : Memory → Type 0) (there : Option (Width × ℕ)) (before after : Memory) → P before → ((width : Width) (address value : ℕ) → P (stored width address value before)) → IsStoredAt there before after → P after
behind_store P None before after same each is = subst P (sym is) same
behind_store P (Some there) before after same each (inl is) = subst P (sym is) same
behind_store P (Some there) before after same each (inr is) = subst P (sym is.1) (each there.0 there.1 is.0)

-- ---- loads

find_is : (P : Page → Type 0) (test : Page → Bool) (m : Memory) (p : Page) → All P m → find test m ≡ Some p → P p
find_is P test [] p all found = absurd cc
find_is P test (q ∷ m) p all found =
    elim (chosen (test q) (Some q) (find test m) (Some p) found) [
      | inl w ↦ subst P (same_Some _ _ w.1) (All-head P q m all)
      | inr w ↦ find_is P test m p (All-tail P q m all) w.1
    ]

byte_with_is : (flag : ℕ) (m : Memory) (address b : ℕ) → HasBytes m → byte_with flag m address ≡ Some b → b < 256
byte_with_is flag m address b all is =
    let p = bind_some (page_at m (address / PAGE_BYTES)) (byte_in flag (address % PAGE_BYTES)) b is in
    let g = only_if (has_flag flag p.0) (Some (slice_index p.0.bytes (address % PAGE_BYTES))) b p.2 in
    subst (λ (n : ℕ). n < 256) (same_Some _ _ g.1) (find_is IsOfBytes (λ q. q.number == address / PAGE_BYTES) m p.0 all p.1 (address % PAGE_BYTES))

bytes_with_are : (flag : ℕ) (m : Memory) (address count : ℕ) (bytes : List ℕ) → HasBytes m → bytes_with flag m address count ≡ Some bytes → AreBytes bytes
unfolding bytes_with
bytes_with_are flag m address zero bytes all is = subst AreBytes (same_Some _ _ is) (λ i. omega arith)
bytes_with_are flag m address (suc count) bytes all is =
    let first = bind_some (byte_with flag m address) (λ b. bytes_with flag m (address + 1) count >>= λ others. Some (b ∷ others)) bytes is in
    let others = bind_some (bytes_with flag m (address + 1) count) (λ others. Some (first.0 ∷ others)) bytes first.2 in
    subst AreBytes (same_Some _ _ others.2) (AreBytes-cons first.0 others.0 (byte_with_is flag m address first.0 all first.1) (bytes_with_are flag m (address + 1) count others.0 all others.1))

number_fits : (count value : ℕ) (o : Option (List ℕ)) → ((bytes : List ℕ) → o ≡ Some bytes → AreBytes bytes) → option_map (little_number count) o ≡ Some value → value < 256 ^ count
number_fits count value None known e = absurd cc
number_fits count value (Some bytes) known e = subst (λ (n : ℕ). n < 256 ^ count) (same_Some _ _ e) (little_from-lt 0 count bytes (known bytes refl))

pub fetched_is : (m : Memory) (address word : ℕ) → HasBytes m → fetched address m ≡ Some word → IsWord word
fetched_is m address word all is = number_fits 4 word (bytes_with 1 m address 4) (λ bytes. bytes_with_are 1 m address 4 bytes all) is

width_fits : (width : Width) (n : ℕ) → n < 256 ^ width_bytes width → IsWord n
width_fits One n fits = omega arith
width_fits Two n fits = omega arith
width_fits Four n fits = omega arith

pub loaded_is : (width : Width) (m : Memory) (address value : ℕ) → HasBytes m → loaded width address m ≡ Some value → IsWord value
loaded_is width m address value all is =
    width_fits width value (number_fits (width_bytes width) value (bytes_with 4 m address (width_bytes width)) (λ bytes. bytes_with_are 4 m address (width_bytes width) bytes all) is)
