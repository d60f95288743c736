-- What every event of a recording keeps. This project's own.
use Rattle.std.specs.Prelude.{◌≡◌, ◌≢◌, ◌⊎◌, ◌≤◌, ◌+◌, ℕ, Bool, true, false, List, [], ◌∷◌, ◌++◌, length, Option, Some, None, Ok, ⊤}
use Rattle.std.specs.List.{AllByRecursion, flat_map}
use Rattle.checkpoint.specs.State.{checkpoint_of}
use Rattle.commit_core.specs.JudgedRound.{AreLinked, IsRoundJudged, RoundEnd, used_up}
use Rattle.disk_model.specs.History.{History, MayLeave, now}
use Rattle.dp_base.specs.Encoding.{IsPrefixOf}
use Rattle.dp_base.specs.declared.answer.Answer.{Answer}
use Rattle.epoch_journal.specs.Images.{Reads}
use Rattle.epoch_record.specs.Epoch.{epoch_of}
use Rattle.epoch_runner.specs.declared.epoch_run.EpochRun.{EpochRun}
use Rattle.epoch_runner.specs.declared.epoch_run.Ran.{Ran}
use Rattle.guest_kernel.specs.declared.state.State.{State}
use Rattle.guest_kernel.specs.Slices.{chain}
use Rattle.journal_text.specs.Records.{IsRecord, Record, epoch, mark, partial}
use Rattle.partial_mark.specs.Base.{applied}
use Rattle.recorder.specs.Drawing.{RoundInput}
use Rattle.recorder.specs.Machine.{MachineEvent, HeldRecord, Machine, TakenResult, crash, epochs_of_runs, fails, frame_sync, frame_write, gate_sync, gate_write, holds, in_round, judged_runs, makes, marks, nothing, output_of_runs, round, send_fails, sends}

-- ---- the journal

-- These are the records of these epochs, from one state to another, in order. Between them are marks, each of the state
-- there, and a partial one against its base: the state of the mark before, or the base at the beginning. The next mark
-- has this base then.
abbrev pub AreRecordsOf : (base s : State) → List Record → List EpochRun → (then_ t : State) → Type 0
AreRecordsOf base s [] [] then_ t = (then_ ≡ base) × (t ≡ s)
AreRecordsOf base s (epoch e ∷ records) (r ∷ rs) then_ t = (e ≡ epoch_of r.epoch) × AreRecordsOf base r.end records rs then_ t
AreRecordsOf base s (mark c ∷ records) rs then_ t = (c ≡ checkpoint_of s) × AreRecordsOf s s records rs then_ t
AreRecordsOf base s (partial m ∷ records) rs then_ t = (applied (checkpoint_of base) m ≡ Some (checkpoint_of s)) × AreRecordsOf s s records rs then_ t
AreRecordsOf base s (epoch e ∷ records) [] then_ t = ⊥
AreRecordsOf base s [] (r ∷ rs) then_ t = ⊥

abbrev pub record_in_hand : HeldRecord → Option Record
record_in_hand nothing = None
record_in_hand (holds r rs call) = Some r

-- the record in hand once its gate is written
abbrev pub record_opened : HeldRecord → Option Record
record_opened nothing = None
record_opened (holds r rs frame_write) = None
record_opened (holds r rs frame_sync) = None
record_opened (holds r rs gate_write) = None
record_opened (holds r rs gate_sync) = Some r

-- The record that an image may have after those that are acknowledged: the one in hand if its gate was written, or if a
-- device failed.
abbrev pub in_question : HeldRecord → (stopped : Bool) → Option Record
in_question hand true = record_in_hand hand
in_question hand false = record_opened hand

-- these records, and the one in hand after them
abbrev pub with_held : List Record → HeldRecord → List Record
with_held records nothing = records
with_held records (holds r rs call) = records ++ r ∷ []

-- an image reads as the journal of these records, or as the one with this record more
abbrev pub ReadsWith : (guest : List ℕ) → List Record → Option Record → (image : List ℕ) → Type 0
ReadsWith guest records None image = Reads guest records image
ReadsWith guest records (Some r) image = (Reads guest records image) ⊎ (Reads guest (records ++ r ∷ []) image)

-- ---- the round

-- this result was taken for the job of this number
abbrev pub WasTaken : List TakenResult → ℕ → Ran → Type 0
WasTaken [] i ran = ⊥
WasTaken (x ∷ results) i ran = ((x.number ≡ i) × (x.ran ≡ ran)) ⊎ WasTaken results i ran

-- these were taken for the jobs from this number on
abbrev pub AreTaken : List TakenResult → ℕ → List Ran → Type 0
AreTaken results i [] = ⊤
AreTaken results i (ran ∷ rans) = WasTaken results i ran × AreTaken results (i + 1) rans

-- Of the results from job 1 on, the epochs that the round has committed are the longest list of first ones in which
-- each is an epoch that starts where the one before ended. While the round goes on all that were judged are committed;
-- when it is closed one more was judged, and isn't.
pub record IsMachineRound (m : Machine) : Type 0 where
  pub results : List Ran
  pub are_taken : AreTaken m.results 1 results
  pub why : RoundEnd
  pub judged : IsRoundJudged m.began results m.round_runs m.core.committed why
  pub goes_on : m.core.closed ≡ false → why ≡ used_up
  pub closed : m.core.closed ≡ true → why ≢ used_up
  pub counted : length m.round_runs ≡ m.core.judged
  pub once : (i : ℕ) (a b : Ran) → WasTaken m.results i a → WasTaken m.results i b → a ≡ b
  pub all_offered : (i : ℕ) (a : Ran) → WasTaken m.results i a → i ≤ length m.core.jobs

-- ---- what is kept

pub record IsKept (guest : List ℕ) (start : State) (before : History) (m : Machine) : Type 0 where
  -- the committed epochs are one run of the guest, each from where the one before ended, to the committed state
  pub linked : AreLinked start (judged_runs m) m.core.committed
  pub chained : chain start (epochs_of_runs (judged_runs m)) ≡ Ok (m.core.committed, output_of_runs (judged_runs m))
  -- the acknowledged records and the one in hand are those of all of them, with right marks between
  pub held : (base_after : State) × AreRecordsOf start start (with_held m.records m.hand) (judged_runs m) base_after m.core.committed
  -- the acknowledged records alone are those of the epochs that are written, with right marks between
  pub journal : (there : State) × AreRecordsOf start start m.records m.written m.base there
  pub are_records : AllByRecursion IsRecord m.records
  -- what a crash may leave now, and what one has left
  pub images : (image sent : List ℕ) → MayLeave (now m.world) image sent → ReadsWith guest m.records (in_question m.hand m.stopped) image × (sent ≡ before.sent ++ m.released)
  pub left : (image : List ℕ) → m.left ≡ Some image → ReadsWith guest m.records (in_question m.hand m.stopped) image
  -- what was sent is a prefix of the output of the epochs whose records are acknowledged
  pub sent : IsPrefixOf m.released (output_of_runs m.written)
  pub round : IsMachineRound m

-- ---- what was read from the input

-- what the rounds among these events read
abbrev pub round_inputs_in : List MachineEvent → List RoundInput
round_inputs_in [] = []
round_inputs_in (round d jobs ∷ events) = d ∷ round_inputs_in events
round_inputs_in (in_round e ∷ events) = round_inputs_in events
round_inputs_in (marks ∷ events) = round_inputs_in events
round_inputs_in (makes call ∷ events) = round_inputs_in events
round_inputs_in (sends piece count ∷ events) = round_inputs_in events
round_inputs_in (fails call ∷ events) = round_inputs_in events
round_inputs_in (send_fails piece ∷ events) = round_inputs_in events
round_inputs_in (crash image ∷ events) = round_inputs_in events

-- all answers that these epochs took
abbrev pub answers_of_runs : List EpochRun → List Answer
answers_of_runs rs = flat_map (λ r. (epoch_of r.epoch).answers) rs
