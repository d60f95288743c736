-- Places of AMOs: whether those of a word are in turn. This project's own.
use Rattle.std.specs.Prelude.{◌≡◌, ◌<◌, ◌≤◌, ◌==◌, ◌&&◌, ◌⊎◌, ℕ, Bool, true, false, List, [], ◌∷◌, map, filter, All}
use Rattle.std.specs.List.Sorted.{IsNonDecreasingBy, IsPermutation, IsStrictlyIncreasing}
use Rattle.amo_order.specs.declared.amo.Amo.{Amo}
use Rattle.amo_order.specs.declared.amo.Placed.{Placed}

-- each AMO with its ticket as its place
abbrev pub at_tickets : List Amo → List Placed
at_tickets = map (λ amo. record { amo = amo; place = amo.ticket })

-- at its ticket, or between that and the next one of its thread
abbrev pub IsBetween : Placed → Type 0
IsBetween placed = (placed.amo.ticket ≤ placed.place) × ((placed.place ≡ placed.amo.ticket) ⊎ (placed.place < placed.amo.next))

-- What follows from the next ticket of an AMO's thread on has a later place. So AMOs of a thread keep their order.
abbrev pub KeepsOrder : List Placed → Type 0
KeepsOrder placed = All (λ first. All (λ second. first.amo.ticket < first.amo.next → first.amo.next ≤ second.amo.ticket → first.place < second.place) placed) placed

-- the AMOs of a word
abbrev pub is_of_word : ℕ → Placed → Bool
is_of_word word placed = placed.amo.address == word

abbrev pub placed_of : ℕ → List Placed → List Placed
placed_of word = filter (is_of_word word)

-- the AMOs of a word, by place
pub record IsOrder (word : ℕ) (placed order : List Placed) : Type 0 where
  pub once : IsPermutation (placed_of word placed) order
  pub by_place : IsNonDecreasingBy (λ p. p.place) order

-- whether each AMO finds what the one before it stored
abbrev pub each_finds : List Placed → Bool
each_finds [] = true
each_finds (first ∷ []) = true
each_finds (first ∷ second ∷ rest) = (first.amo.stored == second.amo.found) && each_finds (second ∷ rest)

-- by their places one of a word's AMOs doesn't find what the one before it stored
pub record IsDisordered (word : ℕ) (placed : List Placed) : Type 0 where
  pub order : List Placed
  pub is_order : IsOrder word placed order
  pub one_fails : each_finds order ≡ false

-- by their places, which differ, each of a word's AMOs finds what the one before it stored
pub record IsInTurn (word : ℕ) (placed : List Placed) : Type 0 where
  pub order : List Placed
  pub is_order : IsOrder word placed order
  pub rising : IsStrictlyIncreasing (map (λ p. p.place) order)
  pub finds : each_finds order ≡ true
