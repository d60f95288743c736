-- What may be known of an input: the bytes that it has given, the pieces that it has left, whether its end was seen,
-- and the readings of its clock. This project's own.
use Rattle.std.specs.Prelude.{◌≡◌, ◌⊎◌, ℕ, Bool, true, false, ◌||◌, ◌&&◌, nat_lt, ◌-◌, ◌^◌, List, [], ◌∷◌, ◌++◌, length, take, drop, Option}

pub record Input : Type 0 where
  -- all bytes given so far
  pub given : List ℕ
  -- the pieces that are left, the next one first
  pub left : List (List ℕ)
  -- whether the end was seen
  pub ended : Bool
  -- the readings of the clock so far
  pub readings : List ℕ

-- ---- a take

-- No piece is left, or an empty one is in front: this is the end of the input, for good.
abbrev pub is_at_end : List (List ℕ) → Bool
is_at_end [] = true
is_at_end ([] ∷ rest) = true
is_at_end ((b ∷ more) ∷ rest) = false

-- the bytes that a take into a buffer of this size gives: of the piece in front as many as the buffer holds
abbrev pub taken : ℕ → List (List ℕ) → List ℕ
taken room [] = []
taken room (piece ∷ rest) = take room piece

-- what is left of a piece, and those after it: a piece of which nothing is left is dropped
abbrev pub pieces_after : List ℕ → List (List ℕ) → List (List ℕ)
pieces_after [] rest = rest
pieces_after (b ∷ more) rest = (b ∷ more) ∷ rest

-- the pieces that a take leaves
abbrev pub left_after : ℕ → List (List ℕ) → List (List ℕ)
left_after room [] = []
left_after room ([] ∷ rest) = [] ∷ rest
left_after room ((b ∷ more) ∷ rest) = pieces_after (drop room (b ∷ more)) rest

-- after a take; an empty buffer sees no end
abbrev pub took : ℕ → Input → Input
took room i = record i {
  given = i.given ++ taken room i.left;
  left = left_after room i.left;
  ended = i.ended || (is_at_end i.left && nat_lt 0 room);
}

-- A take into a buffer of this size gave these bytes.
abbrev pub Took : (room : ℕ) → (bytes : List ℕ) → Input → Input → Type 0
Took room bytes i there = (bytes ≡ taken room i.left) × (there ≡ took room i)

-- all bytes given so far are those before, and these
abbrev pub Gave : (bytes : List ℕ) → Input → Input → Type 0
Gave bytes i there = there.given ≡ i.given ++ bytes

-- ---- the clock

-- it is the last of these
abbrev pub IsLast : ℕ → List ℕ → Type 0
IsLast reading readings = (front : List ℕ) × (readings ≡ front ++ reading ∷ [])

-- The readings with one more. They are counted in a word: after 2^64 - 1 of them one that equals the last isn't noted.
abbrev pub IsNoted : ℕ → (before after : List ℕ) → Type 0
IsNoted reading before after =
    (after ≡ before ++ reading ∷ []) ⊎ ((after ≡ before) × IsLast reading before × (length before ≡ 2 ^ 64 - 1))

-- The clock was read.
abbrev pub ReadClock : ℕ → Input → Input → Type 0
ReadClock reading i there = (after : List ℕ) × IsNoted reading i.readings after × (there ≡ record i { readings = after })
