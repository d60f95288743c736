-- The rule of shared words, and what each step says to the seat that takes it. This project's own.
use Rattle.std.specs.Prelude.{◌≡◌, ◌⊎◌, ℕ, ◌+◌, ◌-◌, ◌<◌, ◌^◌, ◌==◌, ◌&&◌, List, [], ◌∷◌, ◌++◌, All, length, slice_index, nat_lt, if◌then◌else◌}
use Rattle.atomic_table.specs.Table.{State, Me, Step}
use Rattle.atomic_table.specs.declared.shared.Seat.{Seat}
use Rattle.shared_words.specs.declared.view.Stored.{Stored}
use Rattle.shared_words.specs.declared.view.View.{View}

-- ---- the rule

-- how often a number is in a list
abbrev pub times : ℕ → List ℕ → ℕ
times x [] = 0
times x (y ∷ ys) = (if y == x then 1 else 0) + times x ys

-- how often a word was stored
abbrev pub stores_of : (word value : ℕ) → List Stored → ℕ
stores_of word value [] = 0
stores_of word value (s ∷ stored) = (if (s.word == word) && (s.value == value) then 1 else 0) + stores_of word value stored

-- the sum of a number of each view
abbrev pub sum_over : (View → ℕ) → List View → ℕ
sum_over f [] = 0
sum_over f (v ∷ views) = f v + sum_over f views

-- each number below n once
abbrev pub once_below : ℕ → ℕ → ℕ
once_below x n = if nat_lt x n then 1 else 0

-- a word is what it was at the start, or what some seat has stored there
abbrev pub HasSource : (start : List ℕ) (views : List View) (word value : ℕ) → Type 0
HasSource start views word value = (value ≡ slice_index start word) ⊎ (0 < sum_over (λ v. stores_of word value v.stored) views)

-- Every guest word is below 2^32. The tickets that seats have are the numbers below the ticket word, each once. The
-- ticket word and the budgets of all seats are 2^62 in all. Each guest word is that of the start, or one that a seat
-- stored.
pub record AreRuled (start words : List ℕ) (views : List View) : Type 0 where
  pub ticket_word : 0 < length words
  pub guest_words : (i : ℕ) → 0 < i → slice_index words i < 2 ^ 32
  pub tickets : (x : ℕ) → sum_over (λ v. times x v.tickets) views ≡ once_below x (slice_index words 0)
  pub budgets : slice_index words 0 + sum_over (λ v. v.budget) views ≡ 2 ^ 62
  pub sources : (i : ℕ) → 0 < i → HasSource start views i (slice_index words i)

abbrev pub KeepsRule : List ℕ → State (Unit {0}) View → Type 0
KeepsRule start s = AreRuled start s.words s.views

-- ---- views

-- a seat that has done nothing
abbrev pub idle : (budget : ℕ) → View
idle budget = record { tickets = []; budget = budget; steps = 0; last = record { word = 0; found = 0 }; stored = [] }

-- the first seat's
abbrev pub all_tickets : View
all_tickets = idle (2 ^ 62)

-- a new seat's
abbrev pub new_seat_view : View
new_seat_view = idle (2 ^ 32)

-- that of a seat which was joined to another
abbrev pub spent : View
spent = idle 0

abbrev pub seat_after_load : View → (word found : ℕ) → View
seat_after_load v word found = record v { steps = v.steps + 1; last = record { word = word; found = found } }

abbrev pub after_store : View → (word value : ℕ) → View
after_store v word value = record v { steps = v.steps + 1; last = record { word = word; found = value }; stored = v.stored ++ record { word = word; value = value } ∷ [] }

-- it stores if it finds the word that it expects
abbrev pub after_exchange : View → (word expected new found : ℕ) → View
after_exchange v word expected new found =
    record v { steps = v.steps + 1; last = record { word = word; found = found }; stored = if found == expected then v.stored ++ record { word = word; value = new } ∷ [] else v.stored }

abbrev pub with_ticket : View → ℕ → View
with_ticket v ticket = record v { tickets = v.tickets ++ ticket ∷ []; budget = v.budget - 1 }

-- after a new seat got its budget
abbrev pub reduced : View → View
reduced v = record v { budget = v.budget - 2 ^ 32 }

abbrev pub joined_seats : View → View → View
joined_seats v w = record v { tickets = v.tickets ++ w.tickets; budget = v.budget + w.budget; steps = v.steps + w.steps; stored = v.stored ++ w.stored }

abbrev pub view_of : Seat (Unit {0}) View → View
view_of seat = seat.me.0

-- ---- what a step says

abbrev Own : Type 0
Own = Me (Unit {0}) View

abbrev pub loads_word : Step (Unit {0}) → Own → ℕ → Own → Type 0
loads_word st m found m' = (found < 2 ^ 32) × (m' ≡ (seat_after_load m.0 st.word found, m.1))

abbrev pub stores_word : Step (Unit {0}) → Own → ℕ → Own → Type 0
stores_word st m value m' = m' ≡ (after_store m.0 st.word value, m.1)

abbrev pub exchanges : Step (Unit {0}) → Own → ℕ → Own → Type 0
exchanges st m found m' = (found < 2 ^ 32) × (m' ≡ (after_exchange m.0 st.word st.first st.second found, m.1))

-- a ticket, which is above all that the seat has
abbrev pub takes_ticket : Step (Unit {0}) → Own → ℕ → Own → Type 0
takes_ticket st m ticket m' = All (λ t. t < ticket) m.0.tickets × (m' ≡ (with_ticket m.0 ticket, m.1))
