-- A recording as a machine: its state, its events, and what each event may do. A list of events is any course of
-- racers, workers, the committer and the devices. This project's own.
use Rattle.std.specs.Prelude.{◌≡◌, ◌≢◌, slice_get, ◌⊎◌, ◌<◌, ◌≤◌, ◌+◌, ◌-◌, ℕ, Bool, true, false, List, [], ◌∷◌, ◌++◌, length, map, take, Option, Some, None, Ok, Err, ⊤}
use Rattle.std.specs.List.{flat_map}
use Rattle.commit_core.specs.declared.event.Event as rounds
use Rattle.commit_core.specs.declared.event.Event.TheVariants as events
use Rattle.commit_core.specs.declared.stage.Stage.TheVariants.{Offered, Claimed, Done, Taken}
use Rattle.commit_core.specs.Judging.{Core, new_core, stage_at, shut, with_epoch, with_job, with_stage}
use Rattle.disk_model.specs.History.{History, IsImage}
use Rattle.disk_model.specs.Input.{Input}
use Rattle.disk_model.specs.Steps.{Emitted, Synced, Wrote}
use Rattle.disk_model.specs.declared.world.Failed.{Failed}
use Rattle.disk_model.specs.declared.world.Stream.TheVariants.{Out}
use Rattle.dp_base.specs.declared.limits.TheConstants.{MAX_JOBS, MAX_JOURNAL_BYTES}
use Rattle.dp_base.specs.Journal as journals
use Rattle.dp_base.specs.Journal.{frame, open_gate}
use Rattle.epoch_record.specs.Epoch.{epoch_of}
use Rattle.epoch_runner.specs.declared.epoch_run.EpochRun.{EpochRun}
use Rattle.epoch_runner.specs.declared.epoch_run.Ran.{Ran}
use Rattle.epoch_runner.specs.declared.epoch_run.Ran.TheVariants.{Epoch, Idle}
use Rattle.epoch_runner.specs.Running.{IsRunOf}
use Rattle.epoch_runner.specs.Supplying.{IsSuppliedBy}
use Rattle.guest_kernel.specs.declared.state.State.{State}
use Rattle.guest_kernel.specs.State.{has_ended}
use Rattle.journal_text.specs.Reading.{journal_of}
use Rattle.journal_text.specs.Records.{IsRecord, Record, body_of, epoch, mark, partial}
use Rattle.recorder.specs.Drawing.{RoundInput, Drew, supply_of}
use Rattle.recorder.specs.Marking.{mark_of}
use Rattle.supply.specs.Supplied.{Supplied, empty, end_of}
use Rattle.supply.specs.declared.TheConstants.{MAX_ROOM}

-- ---- the state

-- The four calls that write a record, in their order: its frame after the closed gate, a sync, the gate's byte, a sync.
pub data MachineCall : Type 0 where
  frame_write : MachineCall
  frame_sync : MachineCall
  gate_write : MachineCall
  gate_sync : MachineCall

-- What is written: nothing, or a record, which is that of these epochs (one, or none if it is a mark). The call is the
-- next one.
pub data HeldRecord : Type 0 where
  nothing : HeldRecord
  holds : Record → List EpochRun → MachineCall → HeldRecord

-- a result that was taken, and the number of its job
pub record TakenResult : Type 0 where
  pub number : ℕ
  pub ran : Ran

pub record Machine : Type 0 where
  -- the disk, and what was sent; what the input has given
  pub world : History
  pub input : Input
  -- the round: its window and stamp; the committed state and the jobs; the results that were taken, the last one first
  pub supply : Supplied
  pub core : Core
  pub results : List TakenResult
  -- the state in which the round began, and the epochs that it has committed
  pub began : State
  pub round_runs : List EpochRun
  -- the records that are acknowledged, the epochs of which they are, and the record in hand
  pub records : List Record
  pub written : List EpochRun
  pub hand : HeldRecord
  -- the state of the last acknowledged mark, or the start: the base of the next mark
  pub base : State
  -- the output that was sent
  pub released : List ℕ
  -- a device has failed
  pub stopped : Bool
  -- what a crash left on the disk
  pub left : Option (List ℕ)

-- A recording as it begins: the journal is on the disk, without a record, and no round has begun.
abbrev pub first_machine : State → History → Input → Machine
first_machine s h i = record {
  world = h;
  input = i;
  supply = empty MAX_ROOM;
  core = new_core s 0;
  results = [];
  began = s;
  round_runs = [];
  records = [];
  written = [];
  hand = nothing;
  base = s;
  released = [];
  stopped = false;
  left = None;
}

abbrev pub runs_in_hand : HeldRecord → List EpochRun
runs_in_hand nothing = []
runs_in_hand (holds r rs call) = rs

-- all epochs that were judged and committed, in order
abbrev pub judged_runs : Machine → List EpochRun
judged_runs m = m.written ++ runs_in_hand m.hand

abbrev pub output_of_runs : List EpochRun → List ℕ
output_of_runs rs = flat_map (λ r. r.out) rs

abbrev pub epochs_of_runs : List EpochRun → List journals.Epoch
epochs_of_runs rs = map (λ r. epoch_of r.epoch) rs

abbrev pub record_of_run : EpochRun → Record
record_of_run r = epoch (epoch_of r.epoch)

-- the base of the next mark once this record is acknowledged, in this state
abbrev pub base_with : Record → (base s : State) → State
base_with (epoch e) base s = base
base_with (mark c) base s = s
base_with (partial p) base s = s

-- the devices work, no record is in hand, and all output of acknowledged epochs was sent
abbrev pub IsAtRest : Machine → Type 0
IsAtRest m = (m.stopped ≡ false) × (m.hand ≡ nothing) × (m.released ≡ output_of_runs m.written)

-- ---- the events

pub data MachineEvent : Type 0 where
  -- a round begins: what it reads from the input, and the number of its jobs at most
  round : RoundInput → ℕ → MachineEvent
  -- a job is offered, claimed, done, or its result is taken; or the next result is judged
  in_round : rounds.Event → MachineEvent
  -- the mark of the committed state is to be written
  marks : MachineEvent
  -- the record's next call is made
  makes : MachineCall → MachineEvent
  -- a piece of the output is given to Out, which takes the first bytes of it, as many as this
  sends : List ℕ → ℕ → MachineEvent
  -- the record's next call fails, or the call that gives this piece to Out
  fails : MachineCall → MachineEvent
  send_fails : List ℕ → MachineEvent
  -- the machine stops, and leaves this on the disk
  crash : List ℕ → MachineEvent

-- ---- round

-- It begins if the one before is closed or all of its jobs were judged. It takes a window only if the input's end
-- wasn't seen.
abbrev pub BeginsRound : Machine → RoundInput → ℕ → Machine → Type 0
BeginsRound m d jobs n = IsAtRest m × ((m.core.closed ≡ true) ⊎ (m.core.judged ≡ length m.core.jobs)) × (0 < jobs) × (jobs ≤ MAX_JOBS) × (d.due ≡ true → m.supply.ended ≡ false)
    × Drew d m.input n.input × (n ≡ record m {
      input = n.input;
      supply = supply_of m.supply d;
      core = new_core m.core.committed jobs;
      results = [];
      began = m.core.committed;
      round_runs = [];
    })

-- ---- offer, claim, done, take, judge

-- an epoch that is a run of the guest and has a record, or nothing
abbrev pub IsMachineResult : Ran → Type 0
IsMachineResult (Epoch r) = IsRunOf r.start (epoch_of r.epoch) r.out r.end
IsMachineResult (Idle s) = ⊤

-- If the epoch starts within this supply's window, its answers are the supply's.
abbrev pub IsSupplied : Supplied → Ran → Type 0
IsSupplied w (Epoch r) = w.place ≤ r.start.input → r.start.input ≤ end_of w → IsSuppliedBy w r.start.input r.end.input (epoch_of r.epoch).answers
IsSupplied w (Idle s) = ⊤

-- a result that may be taken: with any answers, or only with the supply's
abbrev pub IsTakeable : (supplied : Bool) → Supplied → Ran → Type 0
IsTakeable true w ran = IsMachineResult ran × IsSupplied w ran
IsTakeable false w ran = IsMachineResult ran

-- The window doesn't begin after the input that this state has read. This is asked only if answers must be the
-- supply's.
abbrev pub IsReached : (supplied : Bool) → Supplied → State → Type 0
IsReached true w s = w.place ≤ s.input
IsReached false w s = ⊤

-- An epoch that starts in the committed state is committed, and its record is in hand. Any other result closes the
-- round.
abbrev pub Judges : (supplied : Bool) → Machine → Ran → Machine → Type 0
Judges supplied m (Epoch r) n =
    ((r.start ≡ m.core.committed) × IsReached supplied m.supply m.core.committed × (n ≡ record m { core = with_epoch m.core r; round_runs = m.round_runs ++ r ∷ []; hand = holds (record_of_run r) (r ∷ []) frame_write }))
    ⊎ ((r.start ≢ m.core.committed) × (n ≡ record m { core = shut m.core }))
Judges supplied m (Idle s) n = ((s ≡ m.core.committed) ⊎ (s ≢ m.core.committed)) × (n ≡ record m { core = shut m.core })

-- each happens once for a job, and after the one before it
abbrev pub RoundEvent : (supplied : Bool) → Machine → rounds.Event → Machine → Type 0
RoundEvent supplied m (events.Offer i) n = (i ≡ length m.core.jobs + 1) × (i ≤ m.core.max_jobs) × (n ≡ record m { core = with_job m.core })
RoundEvent supplied m (events.Claim i) n = (stage_at m.core.jobs i ≡ Some Offered) × (n ≡ record m { core = with_stage m.core i Claimed })
RoundEvent supplied m (events.Done i) n = (stage_at m.core.jobs i ≡ Some Claimed) × (n ≡ record m { core = with_stage m.core i Done })
RoundEvent supplied m (events.Take i ran) n = (stage_at m.core.jobs i ≡ Some Done) × IsTakeable supplied m.supply ran
    × (n ≡ record m { core = with_stage m.core i (Taken ran); results = record { number = i; ran = ran } ∷ m.results })
RoundEvent supplied m events.Judge n =
    IsAtRest m × (m.core.closed ≡ false) × (ran : Ran) × (slice_get m.core.jobs m.core.judged ≡ Some (Taken ran)) × Judges supplied m ran n

-- ---- mark

abbrev pub MarkBegins : Machine → Machine → Type 0
MarkBegins m n = IsAtRest m × (has_ended m.core.committed.end ≡ false) × IsRecord (mark_of m.base m.core.committed) × (n ≡ record m { hand = holds (mark_of m.base m.core.committed) [] frame_write })

-- ---- the four calls

abbrev pub journal_end : (guest : List ℕ) → Machine → ℕ
journal_end guest m = length (journal_of guest m.records)

abbrev pub RecordFits : (guest : List ℕ) → Machine → Record → Type 0
RecordFits guest m r = journal_end guest m + length (frame (body_of r)) ≤ MAX_JOURNAL_BYTES

-- what a call leaves, whether it succeeds or fails
abbrev pub CallLeaves : (guest : List ℕ) → Machine → Record → MachineCall → (ok : Bool) → History → Type 0
CallLeaves guest m r frame_write ok h = RecordFits guest m r × Wrote (journal_end guest m) (frame (body_of r)) ok m.world h
CallLeaves guest m r frame_sync ok h = Synced ok m.world h
CallLeaves guest m r gate_write ok h = Wrote (journal_end guest m - 1) (open_gate ∷ []) ok m.world h
CallLeaves guest m r gate_sync ok h = Synced ok m.world h

-- After a call that succeeds the next one follows. After the last one the record is acknowledged.
abbrev pub after_machine_call : Machine → Record → List EpochRun → MachineCall → History → Machine
after_machine_call m r rs frame_write h = record m { world = h; hand = holds r rs frame_sync }
after_machine_call m r rs frame_sync h = record m { world = h; hand = holds r rs gate_write }
after_machine_call m r rs gate_write h = record m { world = h; hand = holds r rs gate_sync }
after_machine_call m r rs gate_sync h = record m { world = h; hand = nothing; records = m.records ++ r ∷ []; written = m.written ++ rs; base = base_with r m.base m.core.committed }

abbrev pub Makes : (guest : List ℕ) → Machine → MachineCall → Machine → Type 0
Makes guest m call n = (m.stopped ≡ false) × (r : Record) × (rs : List EpochRun) × (m.hand ≡ holds r rs call)
    × (h : History) × CallLeaves guest m r call true h × (n ≡ after_machine_call m r rs call h)

-- ---- output

-- the output of acknowledged epochs that wasn't sent yet begins with this piece
abbrev pub IsNextOutput : Machine → List ℕ → Type 0
IsNextOutput m piece = (rest : List ℕ) × (output_of_runs m.written ≡ m.released ++ (piece ++ rest))

abbrev pub Sends : Machine → List ℕ → ℕ → Machine → Type 0
Sends m piece count n = (m.stopped ≡ false) × IsNextOutput m piece × (h : History) × Emitted Out piece (Ok count) m.world h
    × (n ≡ record m { world = h; released = m.released ++ take count piece })

-- ---- faults

abbrev pub DiskCallFails : (guest : List ℕ) → Machine → MachineCall → Machine → Type 0
DiskCallFails guest m call n = (m.stopped ≡ false) × (r : Record) × (rs : List EpochRun) × (m.hand ≡ holds r rs call)
    × (h : History) × CallLeaves guest m r call false h × (n ≡ record m { world = h; stopped = true })

-- a prefix of the piece may have been sent
abbrev pub SendFails : Machine → List ℕ → Machine → Type 0
SendFails m piece n = (m.stopped ≡ false) × IsNextOutput m piece × (h : History) × (why : Failed) × Emitted Out piece (Err why) m.world h
    × (count : ℕ) × (h.sent ≡ m.world.sent ++ take count piece) × (n ≡ record m { world = h; released = m.released ++ take count piece; stopped = true })

-- ---- a step, and steps

-- From a machine to the next by an event. Results are taken with any answers, or only with those of their round's
-- supply.
abbrev pub StepBy : (guest : List ℕ) → (supplied : Bool) → Machine → MachineEvent → Machine → Type 0
StepBy guest supplied m (round d jobs) n = BeginsRound m d jobs n
StepBy guest supplied m (in_round e) n = RoundEvent supplied m e n
StepBy guest supplied m marks n = MarkBegins m n
StepBy guest supplied m (makes call) n = Makes guest m call n
StepBy guest supplied m (sends piece count) n = Sends m piece count n
StepBy guest supplied m (fails call) n = DiskCallFails guest m call n
StepBy guest supplied m (send_fails piece) n = SendFails m piece n
StepBy guest supplied m (crash image) n = IsImage m.world.pending image × (n ≡ record m { left = Some image })

-- nothing follows a crash
abbrev pub Step : (guest : List ℕ) → (supplied : Bool) → Machine → MachineEvent → Machine → Type 0
Step guest supplied m e n = (m.left ≡ None) × StepBy guest supplied m e n

-- one event after another
abbrev pub Reaches : (guest : List ℕ) → (supplied : Bool) → Machine → List MachineEvent → Machine → Type 0
Reaches guest supplied m [] n = n ≡ m
Reaches guest supplied m (e ∷ events) n = (mid : Machine) × Step guest supplied m e mid × Reaches guest supplied mid events n
