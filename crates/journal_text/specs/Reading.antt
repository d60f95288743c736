-- What a file says, read as a journal: the guest, the records, and where and why the list of them ends. This project's
-- own.
use Rattle.std.specs.Prelude.{◌≡◌, ◌+◌, ◌-◌, ℕ, List, [], ◌∷◌, ◌++◌, length, take, Option, option_map}
use Rattle.std.specs.List.{flat_map, AllByRecursion}
use Rattle.dp_base.specs.declared.limits.TheConstants.{MAX_JOURNAL_BYTES}
use Rattle.dp_base.specs.Journal.{IsGuest, closed_gate, header, header_at}
use Rattle.journal_text.specs.Records.{IsRecord, NextRecord, Record, bad, ended, found, list_from, next_at, record_bytes}

-- where the list of records ends: at this place of the file, as a journal does, or at a bad record of this number
pub data Tail : Type 0 where
  end : (place : ℕ) → Tail
  bad_record : (number : ℕ) → Tail

pub record Reading : Type 0 where
  pub guest : List ℕ
  pub records : List Record
  pub tail : Tail

-- a reading that ends as a journal does
abbrev pub ending : (guest : List ℕ) → List Record → (place : ℕ) → Reading
ending guest records place = record { guest = guest; records = records; tail = end place }

-- as much of a file as is read
abbrev pub first_bytes : List ℕ → List ℕ
first_bytes bytes = take MAX_JOURNAL_BYTES bytes

-- a list never ends at a record
abbrev pub tail_at : NextRecord → (place number : ℕ) → Tail
tail_at ended place number = end place
tail_at bad place number = bad_record number
tail_at (found r rest) place number = end place

-- of a file of this many bytes, by the guest of its header and the list after it
abbrev pub reading_of : (guest : List ℕ) → (file_bytes : ℕ) → List Record × List ℕ → Reading
reading_of guest file_bytes list = record {
  guest = guest;
  records = list.0;
  tail = tail_at (next_at list.1) (file_bytes - length list.1) (length list.0 + 1);
}

abbrev pub reads_in : List ℕ → Option Reading
reads_in file = option_map (λ h. reading_of h.0 (length file) (list_from h.1)) (header_at file)

-- none if the file is no journal
unfoldable pub reads : List ℕ → Option Reading
reads bytes = reads_in (first_bytes bytes)

-- a journal at rest
abbrev pub journal_of : List ℕ → List Record → List ℕ
journal_of guest records = header guest ++ (flat_map record_bytes records ++ closed_gate ∷ [])

-- ---- a reading in other words: the parts that the file is made of

-- why the list ends there
abbrev pub IsTail : NextRecord → (place number : ℕ) → Tail → Type 0
IsTail ended place number tail = tail ≡ end place
IsTail bad place number tail = tail ≡ bad_record number
IsTail (found r rest) place number tail = ⊥

pub record IsMadeOf (file : List ℕ) (reading : Reading) : Type 0 where
  pub rest : List ℕ
  pub joined : file ≡ header reading.guest ++ (flat_map record_bytes reading.records ++ rest)
  pub guest : IsGuest reading.guest
  pub records : AllByRecursion IsRecord reading.records
  pub tail : IsTail (next_at rest) (length file - length rest) (length reading.records + 1) reading.tail
