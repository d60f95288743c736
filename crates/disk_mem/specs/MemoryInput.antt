-- An input in memory, and what each of its calls leaves. This project's own.
use Rattle.std.specs.Prelude.{ℕ, ◌-◌, ◌^◌, min, nat_lt, if◌then◌else◌, Bool, false, List, [], ◌∷◌, ◌++◌, length, take, drop, slice_index, slice_index_or, zero, suc}
use Rattle.std.specs.List.{concat}
use Rattle.disk_model.specs.Input.{Input, took, taken, left_after}
use Rattle.disk_mem.specs.declared.fails.Fails.{Fails}
use Rattle.disk_mem.specs.Counted.{counted_up}
use Rattle.disk_mem.specs.Fails.{fails_at}

-- ---- pieces, of which some bytes were given

pub record Pieces : Type 0 where
  -- all bytes given so far
  pub given : List ℕ
  -- the pieces that are left, the next one first
  pub left : List (List ℕ)

-- the first piece without its first bytes
abbrev pub cut_first : ℕ → List (List ℕ) → List (List ℕ)
cut_first from [] = []
cut_first from (piece ∷ rest) = drop from piece ∷ rest

-- how many of these pieces were given, and how many bytes of the next one
abbrev pub pieces_at : List (List ℕ) → (at from : ℕ) → Pieces
pieces_at pieces at from = record {
  given = concat (take at pieces) ++ take from (slice_index_or pieces at []);
  left = cut_first from (drop at pieces);
}

-- after a take into a buffer of this size
abbrev pub gave : ℕ → Pieces → Pieces
gave room p = record { given = p.given ++ taken room p.left; left = left_after room p.left }

-- ---- the clock

-- The reading with this number, counted from 0: past the list the last one again, 0 if it is empty.
abbrev pub reading_at : List ℕ → ℕ → ℕ
reading_at clocks number = slice_index clocks (min number (length clocks - 1))

-- the first readings
unfoldable pub first_readings : List ℕ → ℕ → List ℕ
first_readings clocks zero = []
first_readings clocks (suc n) = first_readings clocks n ++ reading_at clocks n ∷ []

-- one reading more, of the first 2^64 - 1: they are counted in a word
abbrev pub noted : ℕ → List ℕ → List ℕ
noted reading readings = if nat_lt (length readings) (2 ^ 64 - 1) then readings ++ reading ∷ [] else readings

-- ---- an input

pub record MemoryInput : Type 0 where
  pub input : Input
  -- the readings of the clock, from the first one on
  pub clocks : List ℕ
  -- which takes fail
  pub fails : Fails
  -- how many takes there were, and how many of them failed
  pub takes : ℕ
  pub faults : ℕ

-- before the first call
abbrev pub of_pieces : List (List ℕ) → List ℕ → Fails → MemoryInput
of_pieces pieces clocks fails = record {
  input = record { given = []; left = pieces; ended = false; readings = [] };
  clocks = clocks;
  fails = fails;
  takes = 0;
  faults = 0;
}

-- whether the next take fails by its number
abbrev pub take_fails_next : MemoryInput → Bool
take_fails_next m = fails_at m.fails (counted_up m.takes)

-- after one that didn't fail, into a buffer of this size
abbrev pub did_take : ℕ → MemoryInput → MemoryInput
did_take room m = record m { input = took room m.input; takes = counted_up m.takes }

-- after one that failed
abbrev pub failed_take : MemoryInput → MemoryInput
failed_take m = record m { takes = counted_up m.takes; faults = counted_up m.faults }

-- after a reading of the clock
abbrev pub did_read_clock : ℕ → MemoryInput → MemoryInput
did_read_clock reading m = record m { input = record m.input { readings = noted reading m.input.readings } }
