-- The row that a line of the vectors has. This program's own; the top of `stdin` says the same in words.
use Rattle.std.specs.Prelude.{ℕ, List, codes, length, option_map, replicate, Option, Some, None, ◌==◌, if◌then◌else◌}
use Rattle.std.specs.Int.{w32, from_be_bytes}
use Rattle.std.specs.List.{after_first, before_first, position_or_len}
use Rattle.std.specs.Result.{result_ok}
use Rattle.std.specs.Str.{bytes_eq}
use Rattle.hex.specs.Hex.{decode_sized}
use Rattle.dp_base.specs.Field.{◌>>=◌}
use Rattle.rv_vectors.specs.declared.row.After.{After}
use Rattle.rv_vectors.specs.declared.row.Before.{Before}
use Rattle.rv_vectors.specs.declared.row.Row.{Row}

-- ---- fields

-- a field up to the first space, and what follows that space
unfoldable pub field_at : List ℕ → Option (List ℕ × List ℕ)
field_at text =
    if position_or_len (λ b. b == 0x20) text == length text then None
    else Some (before_first (λ b. b == 0x20) text, after_first (λ b. b == 0x20) text)

-- eight hexadecimal digits
unfoldable pub hex_number : List ℕ → Option ℕ
hex_number field = option_map (from_be_bytes w32) (result_ok (decode_sized field 4))

-- sixteen bytes, or - for zeros
unfoldable pub sixteen : List ℕ → Option (List ℕ)
sixteen field = if bytes_eq field (codes "-") then Some (replicate 16 0) else result_ok (decode_sized field 16)

-- how far pc went: 1 for sixteen bytes, 0 for four
unfoldable pub distance : List ℕ → Option ℕ
distance field = if bytes_eq field (codes "0") then Some 4 else if bytes_eq field (codes "1") then Some 16 else None

unfoldable pub hex_number_at : List ℕ → Option (ℕ × List ℕ)
hex_number_at text = do
  field ← field_at text
  value ← hex_number field.0
  Some (value, field.1)

unfoldable pub sixteen_at : List ℕ → Option (List ℕ × List ℕ)
sixteen_at text = do
  field ← field_at text
  bytes ← sixteen field.0
  Some (bytes, field.1)

-- ---- the row

unfoldable pub before_at : List ℕ → Option (Before × List ℕ)
before_at text = do
  x5 ← hex_number_at text
  x6 ← hex_number_at x5.1
  bytes ← sixteen_at x6.1
  Some (record { x5 = x5.0; x6 = x6.0; bytes = bytes.0 }, bytes.1)

-- up to the line's end
unfoldable pub after_from : List ℕ → Option After
after_from text = do
  x5 ← hex_number_at text
  x6 ← hex_number_at x5.1
  x7 ← hex_number_at x6.1
  field ← field_at x7.1
  far ← distance field.0
  bytes ← sixteen field.1
  Some (record { x5 = x5.0; x6 = x6.0; x7 = x7.0; distance = far; bytes = bytes })

-- a name, and nine fields
unfoldable pub row_of : List ℕ → Option Row
row_of line = do
  name ← field_at line
  word ← hex_number_at name.1
  before ← before_at word.1
  left ← after_from before.1
  Some (record { word = word.0; before = before.0; after = left })
