-- The tickets of a hart's log. This project's own.
use Rattle.std.specs.Prelude.{◌<◌, ℕ, List, All}
use Rattle.std.specs.List.Sorted.{IsNonDecreasingBy}
use Rattle.sync_hints.specs.declared.hints.Sc.{Sc}

abbrev pub AreInOrder : List (ℕ × Sc) → Type 0
AreInOrder entries = IsNonDecreasingBy (λ e. e.0) entries

abbrev pub AreBelow : ℕ → List (ℕ × Sc) → Type 0
AreBelow n entries = All (λ e. e.0 < n) entries

-- the tickets of the entries don't fall, and whatever is above all tickets of the seat is above them
pub record IsLog (tickets : List ℕ) (entries : List (ℕ × Sc)) : Type 0 where
  pub in_order : AreInOrder entries
  pub bounded : (n : ℕ) → All (λ t. t < n) tickets → AreBelow n entries

-- a ticket of the seat that is above those of the entries
pub record IsNextTicket (ticket : ℕ) (tickets : List ℕ) (entries : List (ℕ × Sc)) : Type 0 where
  pub above : AreBelow ticket entries
  pub taken : (n : ℕ) → All (λ t. t < n) tickets → ticket < n
