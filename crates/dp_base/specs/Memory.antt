-- A guest's memory: pages of 4,096 bytes in rising order of number, and what harts load from it and store to it. The
-- sections are those of the RISC-V Unprivileged ISA 20191213; pages and their flags are this machine's own.
use Rattle.std.specs.Prelude.{◌≡◌, ◌+◌, ◌/◌, ◌%◌, ◌^◌, ◌<◌, ◌≤◌, ℕ, zero, suc, Bool, true, false, List, [], ◌∷◌, length, map, All, slice_index, slice_set, Option, Some, None, is_some, nat_lt, int_lt, bit_and, bit_or, bit_xor, ◌==◌, if◌then◌else◌}
use Rattle.std.specs.Int.{w32, cast_signed}
use Rattle.std.specs.List.{find}
use Rattle.std.specs.List.Sorted.{IsStrictlyIncreasing}
use Rattle.std.specs.Option.{option_map}
use Rattle.byteorder.specs.Endian.{little_bytes, little_number}
use Rattle.dp_base.specs.Field.{◌>>=◌}
use Rattle.dp_base.specs.declared.access.Access.{Access}
use Rattle.dp_base.specs.declared.access.Access.TheVariants.{Done, Denied}
use Rattle.dp_base.specs.declared.access.AmoOp.{AmoOp}
use Rattle.dp_base.specs.declared.access.AmoOp.TheVariants.{Swap, Add, Xor, And, Or, Min, Max, MinU, MaxU}
use Rattle.dp_base.specs.declared.access.Width.{Width}
use Rattle.dp_base.specs.declared.access.Width.TheVariants.{One, Two, Four}
use Rattle.dp_base.specs.declared.limits.TheConstants.{MAX_PAGES, PAGE_BYTES, PAGE_NUMBERS}
use Rattle.dp_base.specs.declared.page.Page.{Page}

-- ---- pages

abbrev pub Memory : Type 0
Memory = List Page

pub record IsPage (p : Page) : Type 0 where
  pub number : p.number < PAGE_NUMBERS
  pub flags : p.flags < 8
  pub bytes : length p.bytes ≡ PAGE_BYTES

-- what the pages of a guest always are
pub record ArePages (memory : Memory) : Type 0 where
  pub each : All IsPage memory
  pub rising : IsStrictlyIncreasing (map (λ p. p.number) memory)
  pub few : length memory ≤ MAX_PAGES

-- the page with this number
abbrev pub page_at : Memory → ℕ → Option Page
page_at memory number = find (λ p. p.number == number) memory

-- execute 1, write 2, read 4
abbrev pub has_flag : ℕ → Page → Bool
has_flag flag p = p.flags / flag % 2 == 1

-- ---- bytes

-- the byte at an offset of a page that has the flag
abbrev pub byte_in : ℕ → ℕ → Page → Option ℕ
byte_in flag offset p = if has_flag flag p then Some (slice_index p.bytes offset) else None

-- the byte at an address, if its page has the flag
abbrev pub byte_with : ℕ → Memory → ℕ → Option ℕ
byte_with flag memory address = page_at memory (address / PAGE_BYTES) >>= byte_in flag (address % PAGE_BYTES)

-- `count` bytes from an address on; none if one is on no page, or on a page without the flag
unfoldable pub bytes_with : ℕ → Memory → (address count : ℕ) → Option (List ℕ)
bytes_with flag memory address zero = Some []
bytes_with flag memory address (suc count) = do
  first ← byte_with flag memory address
  others ← bytes_with flag memory (address + 1) count
  Some (first ∷ others)

-- the page with this number changed
unfoldable pub change_page : ℕ → (Page → Page) → Memory → Memory
change_page number change [] = []
change_page number change (p ∷ pages) = if p.number == number then change p ∷ pages else p ∷ change_page number change pages

abbrev pub with_byte : ℕ → ℕ → Page → Page
with_byte offset byte p = record p { bytes = slice_set p.bytes offset byte }

abbrev pub put_byte : ℕ → ℕ → Memory → Memory
put_byte address byte memory = change_page (address / PAGE_BYTES) (with_byte (address % PAGE_BYTES) byte) memory

-- bytes written from an address on
unfoldable pub put_bytes : ℕ → List ℕ → Memory → Memory
put_bytes address [] memory = memory
put_bytes address (byte ∷ bytes) memory = put_bytes (address + 1) bytes (put_byte address byte memory)

-- ---- loads and stores, of 1, 2 or 4 bytes: little-endian, aligned or not (2.6)

abbrev pub width_bytes : Width → ℕ
width_bytes One = 1
width_bytes Two = 2
width_bytes Four = 4

-- a word of code (1.5)
abbrev pub fetched : ℕ → Memory → Option ℕ
fetched address memory = option_map (little_number 4) (bytes_with 1 memory address 4)

-- what a load gives, extended by zeros
abbrev pub loaded : Width → ℕ → Memory → Option ℕ
loaded width address memory = option_map (little_number (width_bytes width)) (bytes_with 4 memory address (width_bytes width))

abbrev pub may_store : Width → ℕ → Memory → Bool
may_store width address memory = is_some (bytes_with 2 memory address (width_bytes width))

-- after a store of a value's low bytes, which changes nothing if it may not store
abbrev pub stored : Width → ℕ → ℕ → Memory → Memory
stored width address value memory = if may_store width address memory then put_bytes address (little_bytes (width_bytes width) value) memory else memory

-- ---- LR and SC load and store a word (8.2); an AMO does both (8.4)

abbrev pub is_below_signed : ℕ → ℕ → Bool
is_below_signed a b = int_lt (cast_signed w32 a) (cast_signed w32 b)

-- the word that an AMO stores, of the old word and its operand
abbrev pub amo_result : AmoOp → ℕ → ℕ → ℕ
amo_result Swap old value = value
amo_result Add old value = (old + value) % 2 ^ 32
amo_result Xor old value = bit_xor old value
amo_result And old value = bit_and old value
amo_result Or old value = bit_or old value
amo_result Min old value = if is_below_signed old value then old else value
amo_result Max old value = if is_below_signed old value then value else old
amo_result MinU old value = if nat_lt old value then old else value
amo_result MaxU old value = if nat_lt old value then value else old

-- the old word, if each byte of it may be read and written
abbrev pub amo_word : ℕ → Memory → Option ℕ
amo_word address memory = do
  old ← loaded Four address memory
  if may_store Four address memory then Some old else None

-- after an AMO whose old word is known; it changes nothing if there is none
abbrev pub after_amo_of : AmoOp → ℕ → ℕ → Memory → Option ℕ → Memory
after_amo_of op address value memory None = memory
after_amo_of op address value memory (Some old) = put_bytes address (little_bytes 4 (amo_result op old value)) memory

abbrev pub after_amo : AmoOp → ℕ → ℕ → Memory → Memory
after_amo op address value memory = after_amo_of op address value memory (amo_word address memory)

-- ---- what a memory answers

abbrev pub answer_of : Option ℕ → Access ℕ
answer_of None = Denied
answer_of (Some value) = Done value

abbrev pub allowed : Bool → Access (Unit {0})
allowed true = Done tt
allowed false = Denied

-- an SC's answer, if its reservation is valid
abbrev pub stored_answer : Bool → Access Bool
stored_answer true = Done true
stored_answer false = Denied
