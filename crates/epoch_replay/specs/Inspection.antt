-- What an inspection says of a journal: a line for the guest, one for each record, and one for the list's end if no
-- record is bad. This project's own.
use Rattle.std.specs.Prelude.{◌+◌, ℕ, List, [], ◌∷◌, ◌++◌, length, codes, decimal}
use Rattle.std.specs.List.{concat}
use Rattle.dp_base.specs.Journal.{steps_of}
use Rattle.journal_text.specs.Reading.{Reading, Tail, bad_record, end}
use Rattle.journal_text.specs.Records.{Record, epoch, mark, partial}

abbrev pub guest_line : (bytes : ℕ) → List ℕ
guest_line bytes = concat (codes "guest " ∷ decimal bytes ∷ codes "\n" ∷ [])

abbrev pub epoch_line : (number slices steps answers : ℕ) → List ℕ
epoch_line number slices steps answers =
    concat (decimal number ∷ codes " epoch slices " ∷ decimal slices ∷ codes " steps " ∷ decimal steps ∷ codes " answers " ∷ decimal answers ∷ codes "\n" ∷ [])

abbrev pub mark_line : (number steps : ℕ) → List ℕ
mark_line number steps = concat (decimal number ∷ codes " mark steps " ∷ decimal steps ∷ codes "\n" ∷ [])

abbrev pub end_line : (place : ℕ) → List ℕ
end_line place = concat (codes "end " ∷ decimal place ∷ codes "\n" ∷ [])

-- of a record with this number
abbrev pub record_line : (number : ℕ) → Record → List ℕ
record_line number (epoch e) = epoch_line number (length e.slices) (steps_of e.slices) (length e.answers)
record_line number (mark c) = mark_line number c.steps
record_line number (partial m) = mark_line number m.fields.steps

-- of these records, of which the first has this number
unfoldable pub record_lines : (number : ℕ) → List Record → List ℕ
record_lines number [] = []
record_lines number (r ∷ others) = record_line number r ++ record_lines (number + 1) others

-- a bad record has no line
abbrev pub tail_line : Tail → List ℕ
tail_line (end place) = end_line place
tail_line (bad_record number) = []

abbrev pub inspection : Reading → List ℕ
inspection r = guest_line (length r.guest) ++ (record_lines 1 r.records ++ tail_line r.tail)
