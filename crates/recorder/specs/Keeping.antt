-- What a recording is so far, between two rounds and within one. These serve the contracts of the crate's own steps.
-- This project's own.
use Rattle.std.specs.Prelude.{◌≡◌, ◌⊎◌, ◌<◌, ◌≤◌, ◌+◌, ◌-◌, ◌*◌, ◌^◌, ℕ, Bool, true, false, List, [], ◌∷◌, ◌++◌, length, take, Option, Some, None, Result, Ok, Err, slice_get}
use Rattle.std.specs.List.{AllByRecursion, list_any}
use Rattle.commit_core.specs.JudgedRound.{IsWithin}
use Rattle.commit_core.specs.Judging.{Core}
use Rattle.commit_core.specs.declared.stage.Stage.TheVariants.{Taken}
use Rattle.dp_base.specs.declared.answer.Answer.{Answer}
use Rattle.dp_base.specs.declared.answer.Answer.TheVariants.{Read}
use Rattle.dp_base.specs.declared.limits.TheConstants.{EPOCH_END_BYTES, MAX_CALL_BYTES, MAX_EPOCH_STEPS, MAX_JOBS}
use Rattle.dp_base.specs.Encoding.{IsPrefixOf}
use Rattle.dp_base.specs.Journal.{Epoch, IsAnswer, IsGuest, frame}
use Rattle.disk_model.specs.History.{History, IsSynced}
use Rattle.disk_model.specs.Input.{Input, IsLast, is_at_end}
use Rattle.disk_model.specs.Known.{IfKnown}
use Rattle.disk_model.specs.Moments.{Always}
use Rattle.epoch_journal.specs.Images.{Reads}
use Rattle.epoch_journal.specs.Standing.{Journal}
use Rattle.epoch_runner.specs.Answering.{can_step, input_due}
use Rattle.epoch_runner.specs.declared.epoch_run.EpochRun.{EpochRun}
use Rattle.epoch_runner.specs.declared.epoch_run.Ran.{Ran}
use Rattle.epoch_runner.specs.declared.epoch_run.Ran.TheVariants as rans
use Rattle.guest_kernel.specs.Answers.{bytes_read, clock_readings}
use Rattle.guest_kernel.specs.declared.state.State.{State}
use Rattle.guest_kernel.specs.Slices.{chain}
use Rattle.guest_kernel.specs.State.{has_ended}
use Rattle.guest_kernel.specs.Threads.{AreFew, is_running}
use Rattle.journal_text.specs.Reading.{journal_of, reads}
use Rattle.journal_text.specs.Records.{IsRecord, Record, body_of}
use Rattle.racing_runner.specs.Offers.{Tells}
use Rattle.recorder.specs.declared.options.Options.{Options}
use Rattle.recorder.specs.declared.record_fault.RecordFault.{RecordFault}
use Rattle.recorder.specs.declared.tally.AfterJudging.{AfterJudging}
use Rattle.recorder.specs.declared.tally.AfterJudging.TheVariants.{Committed, Squashed, Over}
use Rattle.recorder.specs.declared.tally.Tally.{Tally}
use Rattle.recorder.specs.Drawing.{AreFound, RoundInput, DrewAll, Round, answers_in, round_inputs_of, epochs_of_rounds, readings_since, squashes_of, supply_after, supply_of}
use Rattle.recorder.specs.Machine.{epochs_of_runs}
use Rattle.recorder.specs.Moments.{EachMoment}
use Rattle.recorder.specs.Racing.{IsRaced}
use Rattle.recorder.specs.Recording.{EachIsRound, GoesOn, IsRecorded, Recorded, Run, round_inputs, epochs, first_after, first_next, squashes, supply}
use Rattle.recorder.specs.declared.due_mark.DueMark.{DueMark}
use Rattle.recorder.specs.Marking.{base_after, base_then, is_due, mark_of, marks_at, records_of, records_unmarked, records_with, since_after, since_then}
use Rattle.checkpoint.specs.State.{IsEncodable}
use Rattle.supply.specs.Supplied.{IsLastOf, IsSupply, Supplied, empty, end_of}
use Rattle.supply.specs.Windows.{bytes_left}
use Rattle.supply.specs.declared.TheConstants.{MAX_ROOM}

-- ---- what was drawn

-- A supply's window is the last of what was given since the input was i. The answers read its first bytes.
pub record IsWindowOf (w : Supplied) (place : ℕ) (round_inputs : List RoundInput) (answers : List Answer) (i j : Input) : Type 0 where
  pub drew : DrewAll round_inputs i j
  pub given : List ℕ
  pub given_is : j.given ≡ i.given ++ given
  pub left_is : given ++ bytes_left j.left ≡ bytes_left i.left
  pub last : IsLastOf w given
  pub within : place ≤ length given
  pub read : bytes_read answers ≡ take place given
  pub ended : w.ended ≡ true → (j.ended ≡ true) × (is_at_end j.left ≡ true)
  pub empties : (before after : List Answer) → answers ≡ before ++ Read [] ∷ after → (bytes_read before ≡ given) × (w.ended ≡ true)
  pub kept : length i.readings ≤ length j.readings
  pub clocks : AreFound (clock_readings answers) (readings_since i j)

-- ---- every moment so far

-- The journal has the first of these epochs with their marks, but the last one may be missing, and of their output a
-- prefix was sent.
pub record IsFirstPart (guest : List ℕ) (every : ℕ) (start : State) (epochs : List Epoch) (image said : List ℕ) : Type 0 where
  pub front : List Epoch
  pub rest : List Epoch
  pub all : epochs ≡ front ++ rest
  pub marked : Bool
  pub journal : Reads guest (records_with marked every start front) image
  pub end : State
  pub output : List ℕ
  pub chained : chain start front ≡ Ok (end, output)
  pub sent : IsPrefixOf said output

abbrev pub IsPartly : (guest : List ℕ) → (every : ℕ) → (start : State) → List Epoch → History → (image sent : List ℕ) → Type 0
IsPartly guest every start epochs before image sent =
    (said : List ℕ) × (sent ≡ before.sent ++ said) × (((reads image ≡ None) × (said ≡ [])) ⊎ IsFirstPart guest every start epochs image said)

abbrev pub AlwaysPartly : (guest : List ℕ) → (every : ℕ) → (start : State) → List Epoch → History → History → Type 0
AlwaysPartly guest every start epochs s t = s.disk ≡ [] → IsSynced s → Always (IsPartly guest every start epochs s) s t

-- ---- the epochs so far

-- a guest that hasn't ended has a thread that runs, and few were made
pub record CanGoOn (s : State) : Type 0 where
  pub runs : has_ended s.end ≡ false → list_any is_running s.threads ≡ true
  pub few : AreFew s.threads

abbrev pub AreAnswers : List Epoch → Type 0
AreAnswers epochs = AllByRecursion (λ (e : Epoch). AllByRecursion IsAnswer e.answers) epochs

-- what a recording has begun with
pub record Setting : Type 0 where
  pub guest : List ℕ
  pub tells : Tells
  pub options : Options
  pub start : State
  pub given : Option Input
  pub before : Option History

-- These epochs were committed and sent, in a journal of these records, and these were the draws.
pub record Kept (a : Setting) (there : Option Input) (now : Option History) (records : List Record) (epochs : List Epoch) (round_inputs : List RoundInput) (output : List ℕ) (state : State) (w : Supplied) (j : Journal) (tally : Tally) : Type 0 where
  pub is_guest : IsGuest a.guest
  pub chained : chain a.start epochs ≡ Ok (state, output)
  pub counted : state.steps ≤ a.options.limit
  pub goes_on : CanGoOn state
  pub is_supply : IsSupply w
  pub some_room : w.room ≡ MAX_ROOM
  pub placed : w.place ≤ state.input
  pub inside : state.input ≤ end_of w
  pub little_input : state.input ≤ MAX_CALL_BYTES * state.steps
  pub are_answers : AreAnswers epochs
  pub are_records : AllByRecursion IsRecord records
  pub encodable : IsEncodable state
  pub drawn : IfKnown (IsWindowOf w state.input round_inputs (answers_in epochs)) a.given there
  pub history : IfKnown (IsRecorded a.guest records output []) a.before now
  pub moments : IfKnown (AlwaysPartly a.guest a.options.mark a.start epochs) a.before now
  pub place_is : j.end ≡ length (journal_of a.guest records)
  pub room_is : j.room ≡ a.options.room
  pub fits : j.end ≤ j.room
  pub works : j.failed ≡ false
  pub first_is : tally.first ≡ first_after 1 epochs
  pub count : tally.epochs ≡ length epochs
  pub few : tally.epochs < j.end
  pub sent_is : tally.sent ≡ length output
  pub little : tally.sent ≤ (EPOCH_END_BYTES + MAX_CALL_BYTES) * tally.epochs
  pub since_few : tally.since ≤ tally.epochs
  pub base_encodable : IsEncodable tally.base

-- Whether the mark after the last epoch was judged, the count of epochs since the last mark, and the base of the next
-- one.
abbrev pub IsSince : (judged : Bool) → Setting → List Epoch → State → (since : ℕ) → (base : State) → Type 0
IsSince true a epochs state since base = (since ≡ since_after a.options.mark 0 a.start epochs) × (base ≡ base_after a.options.mark 0 a.start a.start epochs)
IsSince false a epochs state since base =
    (records_of a.options a.start epochs ≡ records_unmarked a.options a.start epochs ++ marks_at a.options.mark since base state)
    × (since_then a.options.mark since state ≡ since_after a.options.mark 0 a.start epochs)
    × (base_then a.options.mark since base state ≡ base_after a.options.mark 0 a.start a.start epochs)

-- ---- between two rounds

pub record SoFar (a : Setting) (there : Option Input) (now : Option History) (racer : Tells) (state : State) (w : Supplied) (j : Journal) (tally : Tally) (squashes : ℕ) : Type 0 where
  pub rounds : List Round
  pub output : List ℕ
  pub each : EachIsRound a.tells a.options 1 a.start (empty MAX_ROOM) rounds state racer
  pub supply_is : w ≡ supply_after (empty MAX_ROOM) (round_inputs_of rounds)
  pub squashes_is : squashes ≡ squashes_of rounds
  pub since_is : IsSince true a (epochs_of_rounds rounds) state tally.since tally.base
  pub kept : Kept a there now (records_of a.options a.start (epochs_of_rounds rounds)) (epochs_of_rounds rounds) (round_inputs_of rounds) output state w j tally

-- ---- within a round

-- what stays while the results of a round are judged: the input after its draw, the racer's known offers after its
-- race, the round's supply and start, how many results were squashed before, all results that will be taken in it, and
-- whether they are those of all its jobs
pub record InRound : Type 0 where
  pub setting : Setting
  pub later : Option Input
  pub racer : Tells
  pub supply : Supplied
  pub from : State
  pub squashes : ℕ
  pub results : List Ran
  pub whole : Bool

-- Some results were taken, and some of these judged. The mark after the last epoch was judged too, or wasn't yet.
pub record Within (marked : Bool) (a : InRound) (now : Option History) (core : Core) (j : Journal) (tally : Tally) : Type 0 where
  pub run : Run a.setting.tells a.setting.options a.setting.start
  pub from_is : run.end ≡ a.from
  pub squashes_is : a.squashes ≡ squashes run
  pub goes_on : GoesOn a.setting.options run.end
  pub draw : RoundInput
  pub due : draw.due ≡ input_due run.end (supply run)
  pub supply_is : a.supply ≡ supply_of (supply run) draw
  pub can : can_step run.end a.supply ≡ true
  pub results : List Ran
  pub coming : List Ran
  pub all : a.results ≡ results ++ coming
  pub raced : IsRaced run.racer a.setting.options (first_next run) run.end a.supply a.results a.racer
  pub full : a.whole ≡ true → length a.results ≡ length raced.offers + 1
  pub runs : List EpochRun
  pub judged : IsWithin run.end results runs core
  pub output : List ℕ
  pub since_is : IsSince marked a.setting (epochs run ++ epochs_of_runs runs) core.committed tally.since tally.base
  pub kept : Kept a.setting a.later now (records_with marked a.setting.options.mark a.setting.start (epochs run ++ epochs_of_runs runs)) (epochs run ++ epochs_of_runs runs) (round_inputs run ++ draw ∷ []) output core.committed a.supply j tally
  pub last : IfKnown (λ s t. IsLast a.supply.stamp (readings_since s t)) a.setting.given a.later
  pub longer : run.end.steps + length runs ≤ core.committed.steps

-- What a committer's code relies on: all results that it took were committed, the counts of the committed state don't
-- overflow with those of the other jobs, and the journal takes more.
pub record CanCommit (core : Core) (j : Journal) : Type 0 where
  pub not_closed : core.closed ≡ false
  pub judged : core.judged ≡ length core.jobs
  pub places : core.max_jobs ≡ MAX_JOBS
  pub encodable : IsEncodable core.committed
  pub early : core.committed.steps + (MAX_JOBS - length core.jobs) * MAX_EPOCH_STEPS < 2 ^ 63
  pub little : core.committed.input + MAX_CALL_BYTES * ((MAX_JOBS - length core.jobs) * MAX_EPOCH_STEPS) < 2 ^ 63
  pub works : j.failed ≡ false

-- the round is over, and some steps were committed
abbrev pub IsOver : InRound → (squashes : ℕ) → (now : Option History) → Core → Journal → Tally → Type 0
IsOver a squashes now core j tally = SoFar a.setting a.later now a.racer core.committed a.supply j tally squashes × (a.from.steps < core.committed.steps)

-- a recording stopped, with this left of its input
abbrev pub HasStopped : Setting → (later : Option Input) → (now : Option History) → RecordFault → Type 0
HasStopped a later now fault = Recorded a.guest a.tells a.start a.options a.given later a.before now (Err fault)
    × EachMoment a.guest a.options.mark a.start a.given later a.before now

abbrev pub IsStopped : InRound → (now : Option History) → RecordFault → Type 0
IsStopped a now fault = HasStopped a.setting a.later now fault

-- what became of the next result
abbrev pub StepSays : InRound → (now : Option History) → Core → Journal → Tally → Result AfterJudging RecordFault → Type 0
StepSays a now core j tally (Ok Committed) = Within true a now core j tally
StepSays a now core j tally (Ok Squashed) = IsOver a (a.squashes + 1) now core j tally
StepSays a now core j tally (Ok Over) = IsOver a a.squashes now core j tally
StepSays a now core j tally (Err fault) = IsStopped a now fault

-- what became of the mark that may be due
abbrev pub MarkSays : InRound → (now : Option History) → Core → Journal → Tally → Result (Unit {0}) RecordFault → Type 0
MarkSays a now core j tally (Ok done) = Within true a now core j tally
MarkSays a now core j tally (Err fault) = IsStopped a now fault

-- the base of the next mark, once this one was appended, if one was
abbrev pub next_base : Option DueMark → (base : State) → State
next_base None base = base
next_base (Some mark) base = mark.state

-- the mark that is due, if one is
abbrev pub IsDueMark : (every since : ℕ) → (base s : State) → Option DueMark → Type 0
IsDueMark every since base s None = is_due every since s ≡ false
IsDueMark every since base s (Some mark) = (is_due every since s ≡ true) × (mark.frame ≡ frame (body_of (mark_of base s))) × (mark.state ≡ s)
