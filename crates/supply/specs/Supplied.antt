-- A window of an input and the stamp of a round, what a refill makes of it, and what it answers. This project's own.
use Rattle.std.specs.Prelude.{◌≡◌, ◌<◌, ◌≤◌, ℕ, ◌+◌, ◌-◌, ◌^◌, Bool, true, false, ◌==◌, ◌&&◌, nat_le, nat_lt, if◌then◌else◌, List, [], length, take, drop, Option, Some, None}
use Rattle.supply.specs.declared.TheConstants.{MAX_ROOM}

pub record Supplied : Type 0 where
  -- the bytes of the window, and the place in the input where it begins
  pub window : List ℕ
  pub place : ℕ
  -- whether the end of the input was seen, at the window's end
  pub ended : Bool
  -- the reading of the clock that answers each clock call of the round
  pub stamp : ℕ
  -- how many bytes a window has at most
  pub room : ℕ

-- the offset after the window
abbrev pub end_of : Supplied → ℕ
end_of s = s.place + length s.window

-- what holds of each window: how many bytes of this capacity it has, the offset at which it begins, and whether it is
-- at the end
pub record IsWindow (count room place : ℕ) (ended : Bool) : Type 0 where
  pub within : count ≤ room
  pub some_room : 0 < room
  pub small : room ≤ MAX_ROOM
  pub early : place ≤ 2 ^ 63
  -- a window at which the end was seen is empty
  pub empty_end : ended ≡ true → count ≡ 0

abbrev pub IsSupply : Supplied → Type 0
IsSupply s = IsWindow (length s.window) s.room s.place s.ended

-- before the first refill
abbrev pub empty : ℕ → Supplied
empty room = record { window = []; place = 0; ended = false; stamp = 0; room = room }

-- after a refill that gave these bytes: the new window begins where the old one ended, and no byte is the end of the
-- input
abbrev pub refilled : List ℕ → Supplied → Supplied
refilled bytes s = record s { window = bytes; place = end_of s; ended = length bytes == 0 }

-- after one that failed
abbrev pub unfilled : Supplied → Supplied
unfilled s = record s { window = []; place = end_of s }

-- All that they answer is the same: only their capacities may differ.
abbrev pub IsSame : Supplied → Supplied → Type 0
IsSame s t = record s { room = t.room } ≡ t

-- ---- answers

-- the window has a byte at this place of the input
abbrev pub HasByte : Supplied → ℕ → Type 0
HasByte s place = (s.place ≤ place) × (place < end_of s)

-- the end of the input was seen at this place
abbrev pub IsInputEnd : Supplied → ℕ → Type 0
IsInputEnd s place = (s.ended ≡ true) × (place ≡ end_of s)

-- what a read of at most `max` bytes at this offset gets, if it is known
abbrev pub window_answer : (place max : ℕ) → Supplied → Option (List ℕ)
window_answer place max s =
    if nat_le s.place place && nat_lt place (end_of s) then Some (take max (drop (place - s.place) s.window))
    else if s.ended && place == end_of s then Some []
    else None

-- ---- the window among all bytes that the input gave

-- The window is the last of these bytes, and its place is counted among them.
pub record IsLastOf (s : Supplied) (given : List ℕ) : Type 0 where
  pub end : length given ≡ end_of s
  pub last : drop s.place given ≡ s.window
