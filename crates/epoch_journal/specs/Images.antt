-- What a journal's disk reads as after a crash. This project's own.
use Rattle.std.specs.Prelude.{◌≡◌, ◌⊎◌, ℕ, List, [], ◌∷◌, ◌++◌, Some, None}
use Rattle.disk_model.specs.History.{History}
use Rattle.journal_text.specs.Reading.{ending, reads}
use Rattle.journal_text.specs.Records.{Record}

-- the journal of this guest with these records, wherever it ends
abbrev pub Reads : (guest : List ℕ) → List Record → (image : List ℕ) → Type 0
Reads guest records image = (place : ℕ) × (reads image ≡ Some (ending guest records place))

-- the journal as it was, or with one record more, and nothing was sent
abbrev pub IsBeforeOrAfter : (guest : List ℕ) → List Record → Record → History → (image sent : List ℕ) → Type 0
IsBeforeOrAfter guest records r h image sent = ((Reads guest records image) ⊎ (Reads guest (records ++ r ∷ []) image)) × (sent ≡ h.sent)

-- no journal, or this guest's without a record, and nothing was sent
abbrev pub IsBeginning : (guest : List ℕ) → History → (image sent : List ℕ) → Type 0
IsBeginning guest h image sent = ((reads image ≡ None) ⊎ (Reads guest [] image)) × (sent ≡ h.sent)
