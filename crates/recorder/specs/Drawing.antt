-- What the rounds of a recording read from its input and clock (their draws), and which answers are faithful to an
-- input. This project's own.
use Rattle.std.specs.Prelude.{◌≡◌, ℕ, ◌+◌, ◌-◌, ◌^◌, min, Bool, true, false, List, [], ◌∷◌, ◌++◌, length, map, slice_get, drop, Some, ⊤, if◌then◌else◌}
use Rattle.std.specs.List.{flat_map}
use Rattle.dp_base.specs.Encoding.{IsPrefixOf}
use Rattle.dp_base.specs.declared.answer.Answer.{Answer}
use Rattle.dp_base.specs.declared.answer.Answer.TheVariants.{Read}
use Rattle.dp_base.specs.Journal.{Epoch}
use Rattle.disk_model.specs.Input.{Input, ReadClock, Took}
use Rattle.guest_kernel.specs.Answers.{bytes_read, clock_readings}
use Rattle.supply.specs.Supplied.{Supplied, refilled}
use Rattle.supply.specs.declared.TheConstants.{MAX_ROOM}

-- ---- rounds

-- the draw of a round: whether input was due, the bytes that it took then, and the reading of its clock
pub record RoundInput : Type 0 where
  pub due : Bool
  pub taken : List ℕ
  pub reading : ℕ

-- a round: its draw, the epochs of it that were committed, in order, and whether the result after them was squashed
pub record Round : Type 0 where
  pub draw : RoundInput
  pub epochs : List Epoch
  pub squashed : Bool

abbrev pub round_inputs_of : List Round → List RoundInput
round_inputs_of rounds = map (λ r. r.draw) rounds

abbrev pub epochs_of_rounds : List Round → List Epoch
epochs_of_rounds rounds = flat_map (λ r. r.epochs) rounds

-- how many results were squashed
abbrev pub squashes_of : List Round → ℕ
squashes_of [] = 0
squashes_of (r ∷ rounds) = (if r.squashed then 1 else 0) + squashes_of rounds

-- all answers of epochs, in order
abbrev pub answers_in : List Epoch → List Answer
answers_in epochs = flat_map (λ e. e.answers) epochs

-- ---- the supply

-- the supply of a round: it is refilled exactly if input is due, and the round's reading is its stamp
abbrev pub supply_of : Supplied → RoundInput → Supplied
supply_of w d = record (if d.due then refilled d.taken w else w) { stamp = d.reading }

abbrev pub supply_after : Supplied → List RoundInput → Supplied
supply_after w [] = w
supply_after w (d ∷ draws) = supply_after (supply_of w d) draws

-- ---- the input

abbrev pub TookIf : Bool → (bytes : List ℕ) → Input → Input → Type 0
TookIf true bytes i there = Took MAX_ROOM bytes i there
TookIf false bytes i there = there ≡ i

-- a round takes from the input once if some is due, and else not; and then reads the clock once
abbrev pub Drew : RoundInput → Input → Input → Type 0
Drew d i there = (mid : Input) × TookIf d.due d.taken i mid × ReadClock d.reading mid there

abbrev pub DrewAll : List RoundInput → Input → Input → Type 0
DrewAll [] i there = there ≡ i
DrewAll (d ∷ draws) i there = (mid : Input) × Drew d i mid × DrewAll draws mid there

-- ---- honest answers

-- each of these values is a reading, and they are in the order of the readings
abbrev pub AreFound : (values readings : List ℕ) → Type 0
AreFound [] readings = ⊤
AreFound (v ∷ values) readings = (place : ℕ) × (slice_get readings place ≡ Some v) × AreFound values (drop place readings)

-- Answers that are faithful to an input that gave these bytes, whose end was seen or wasn't, and whose clock had these
-- readings.
pub record IsFaithful (answers : List Answer) (given : List ℕ) (ended : Bool) (readings : List ℕ) : Type 0 where
  -- what reads took, joined, are the first bytes of the input
  pub reads : IsPrefixOf (bytes_read answers) given
  -- a read that took none came when all of them had been read, and the end was seen
  pub ends : (before after : List Answer) → answers ≡ before ++ Read [] ∷ after → (bytes_read before ≡ given) × (ended ≡ true)
  pub clocks : AreFound (clock_readings answers) readings

-- The readings of a clock from one moment to another. If no more can be counted this has the last.
abbrev pub readings_since : Input → Input → List ℕ
readings_since i there = drop (min (length i.readings) (2 ^ 64 - 2)) there.readings

-- by what an input gave from one moment to another
abbrev pub IsFaithfulSince : List Answer → Input → Input → Type 0
IsFaithfulSince answers i there = (given : List ℕ) × (there.given ≡ i.given ++ given) × IsFaithful answers given there.ended (readings_since i there)

-- rounds had these draws, and the answers that were taken are faithful to the input
abbrev pub HaveRead : List RoundInput → List Answer → Input → Input → Type 0
HaveRead draws answers i there = DrewAll draws i there × IsFaithfulSince answers i there
