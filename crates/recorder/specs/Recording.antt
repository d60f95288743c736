-- What a recording results in: a run of the guest in rounds, each of which reads from the input and runs epochs of
-- which the first ones are committed; what of the run is in the journal; and what was sent. This project's own.
use Rattle.std.specs.Prelude.{◌≡◌, ◌⊎◌, ◌<◌, ◌≤◌, ◌+◌, ℕ, Bool, true, false, List, [], ◌∷◌, ◌++◌, length, map, take, Option, Some, None, Result, Ok, Err, ⊤}
use Rattle.dp_base.specs.Encoding.{IsPrefixOf}
use Rattle.dp_base.specs.declared.answer.Answer.{Answer}
use Rattle.dp_base.specs.declared.slice.Slice.{Slice}
use Rattle.dp_base.specs.Journal.{Epoch, IsBody, IsEpoch, epoch_body, frame}
use Rattle.disk_model.specs.History.{History, IsSynced, now}
use Rattle.disk_model.specs.Input.{Input}
use Rattle.disk_model.specs.Known.{IfKnown}
use Rattle.disk_model.specs.Moments.{Then}
use Rattle.guest_kernel.specs.declared.state.State.{State}
use Rattle.guest_kernel.specs.Slices.{chain}
use Rattle.guest_kernel.specs.State.{has_ended}
use Rattle.recorder.specs.declared.options.Options.{Options}
use Rattle.dp_report.specs.declared.report.Report.{Report}
use Rattle.dp_report.specs.Texts.{report_line}
use Rattle.recorder.specs.declared.record_fault.RecordFault.{RecordFault}
use Rattle.recorder.specs.declared.record_fault.RecordFault.TheVariants as faults
use Rattle.epoch_runner.specs.declared.bounds.Bounds.{Bounds}
use Rattle.epoch_runner.specs.Answering.{input_due}
use Rattle.epoch_runner.specs.Schedule.{IsScheduled}
use Rattle.supply.specs.Supplied.{Supplied, empty}
use Rattle.sync_hints.specs.NoHints.{no_hints}
use Rattle.supply.specs.declared.TheConstants.{MAX_ROOM}
use Rattle.recorder.specs.Drawing.{RoundInput, HaveRead, Round, answers_in, round_inputs_of, epochs_of_rounds, squashes_of, supply_after, supply_of}
use Rattle.recorder.specs.Machine.{epochs_of_runs}
use Rattle.recorder.specs.Marking.{IsMarkDue, records_of, records_unmarked}
use Rattle.recorder.specs.Racing.{IsRaced, epoch_steps}
use Rattle.recorder.specs.Report.{report_at}
use Rattle.racing_runner.specs.declared.offer.Offer.{Offer}
use Rattle.racing_runner.specs.declared.plan.Plan.{Plan}
use Rattle.racing_runner.specs.Offers.{Tells}
use Rattle.commit_core.specs.JudgedRound.{AreLinked, IsRoundJudged, RoundEnd, over, squashed, used_up}
use Rattle.epoch_record.specs.Epoch.{epoch_of}
use Rattle.epoch_runner.specs.declared.epoch_run.EpochRun.{EpochRun}
use Rattle.epoch_runner.specs.declared.epoch_run.Ran.{Ran}
use Rattle.epoch_runner.specs.declared.epoch_run.Ran.TheVariants as rans
use Rattle.epoch_journal.specs.Images.{Reads}
use Rattle.epoch_journal.specs.Standing.{Stands}
use Rattle.journal_text.specs.Reading.{journal_of, reads}
use Rattle.journal_text.specs.Records.{Record, epoch, partial}
use Rattle.partial_mark.specs.Partial.{Partial, partial_bytes}

-- ---- a run in rounds

-- The number of the thread that is tried first after these slices: one more than that of the last slice.
abbrev pub thread_after : ℕ → List Slice → ℕ
thread_after first [] = first
thread_after first (x ∷ xs) = thread_after (x.tid.0 + 1) xs

-- the same after these epochs
abbrev pub first_after : ℕ → List Epoch → ℕ
first_after first [] = first
first_after first (e ∷ epochs) = first_after (thread_after first e.slices) epochs

-- the guest hasn't ended, and may have more steps
abbrev pub GoesOn : (options : Options) → State → Type 0
GoesOn options s = (has_ended s.end ≡ false) × (s.steps < options.limit)

abbrev pub is_squash : RoundEnd → Bool
is_squash used_up = false
is_squash squashed = true
is_squash over = false

-- A round from a state to another, by a racer: its jobs were run, and their results judged in order, all of them unless
-- one ended the round. At least one epoch was committed.
pub record IsRound (tells : Tells) (options : Options) (first : ℕ) (s : State) (w : Supplied) (r : Round) (end : State) (after : Tells) : Type 0 where
  pub results : List Ran
  pub raced : IsRaced tells options first s w results after
  pub runs : List EpochRun
  pub stop : RoundEnd
  pub judged : IsRoundJudged s results runs end stop
  pub all : stop ≡ used_up → length results ≡ length raced.offers + 1
  pub some : 0 < length runs
  pub epochs_are : r.epochs ≡ epochs_of_runs runs
  pub squashed_is : r.squashed ≡ is_squash stop

-- Each round starts in the state in which the one before ends, while the guest goes on. It takes input exactly if some
-- is due.
abbrev pub EachIsRound : Tells → Options → ℕ → State → Supplied → List Round → State → Tells → Type 0
EachIsRound tells options first s w [] t after = (t ≡ s) × (after ≡ tells)
EachIsRound tells options first s w (r ∷ rounds) t after = GoesOn options s × (r.draw.due ≡ input_due s w) × (end : State) × (mid : Tells)
    × IsRound tells options first s (supply_of w r.draw) r end mid × EachIsRound mid options (first_after first r.epochs) end (supply_of w r.draw) rounds t after

-- a run of a guest from a state, in whole rounds, by a racer with these known offers
pub record Run (tells : Tells) (options : Options) (start : State) : Type 0 where
  pub rounds : List Round
  pub end : State
  pub racer : Tells
  pub output : List ℕ
  pub chained : chain start (epochs_of_rounds rounds) ≡ Ok (end, output)
  pub each : EachIsRound tells options 1 start (empty MAX_ROOM) rounds end racer
  pub counted : end.steps ≤ options.limit

-- its epochs, how many results were squashed, what its rounds read from the input, the answers that its epochs took,
-- and the supply after its last round
abbrev pub epochs : {tells : Tells} {options : Options} {start : State} → Run tells options start → List Epoch
epochs r = epochs_of_rounds r.rounds

-- its records, with all marks
abbrev pub records : {tells : Tells} {options : Options} {start : State} → Run tells options start → List Record
records {tells} {options} {start} r = records_of options start (epochs r)

abbrev pub squashes : {tells : Tells} {options : Options} {start : State} → Run tells options start → ℕ
squashes r = squashes_of r.rounds

abbrev pub round_inputs : {tells : Tells} {options : Options} {start : State} → Run tells options start → List RoundInput
round_inputs r = round_inputs_of r.rounds

abbrev pub answers : {tells : Tells} {options : Options} {start : State} → Run tells options start → List Answer
answers r = answers_in (epochs r)

abbrev pub supply : {tells : Tells} {options : Options} {start : State} → Run tells options start → Supplied
supply r = supply_after (empty MAX_ROOM) (round_inputs r)

-- the thread that is tried first after it
abbrev pub first_next : {tells : Tells} {options : Options} {start : State} → Run tells options start → ℕ
first_next r = first_after 1 (epochs r)

-- A run that goes on, and a round after it of whose results the first ones are committed. It isn't known of the rest
-- whether they will be, nor how many follow.
pub record RunOn (tells : Tells) (options : Options) (start : State) : Type 0 where
  pub run : Run tells options start
  pub goes_on : GoesOn options run.end
  pub draw : RoundInput
  pub due : draw.due ≡ input_due run.end (supply run)
  pub results : List Ran
  pub after : Tells
  pub raced : IsRaced run.racer options (first_next run) run.end (supply_of (supply run) draw) results after
  pub runs : List EpochRun
  pub rest : List Ran
  pub all : results ≡ map rans.Epoch runs ++ rest
  pub end : State
  pub linked : AreLinked run.end runs end
  pub output : List ℕ
  pub chained : chain start (epochs_of_rounds run.rounds ++ epochs_of_runs runs) ≡ Ok (end, output)

-- its epochs, and what its rounds read
abbrev pub epochs_on : {tells : Tells} {options : Options} {start : State} → RunOn tells options start → List Epoch
epochs_on on = epochs on.run ++ epochs_of_runs on.runs

abbrev pub round_inputs_on : {tells : Tells} {options : Options} {start : State} → RunOn tells options start → List RoundInput
round_inputs_on on = round_inputs on.run ++ on.draw ∷ []

-- The next result of the round is an epoch that starts where the last one ended.
pub record NextEpoch {tells : Tells} {options : Options} {start : State} (on : RunOn tells options start) : Type 0 where
  pub goes_on : GoesOn options on.end
  pub run : EpochRun
  pub more : List Ran
  pub next : on.rest ≡ rans.Epoch run ∷ more
  pub starts : run.start ≡ on.end

abbrev pub next_epoch : {tells : Tells} {options : Options} {start : State} {on : RunOn tells options start} → NextEpoch on → Epoch
next_epoch n = epoch_of n.run.epoch

-- all that a racer offers is known, whatever the round
abbrev pub TellsAll : Tells → Type 0
TellsAll tells = (s : State) (w : Supplied) (p : Plan) → (list : List Offer) × (tells s w p ≡ Some list)

-- ---- a run in rounds of one job

-- An epoch from one state to another, as the schedule runs it without hints and with a supply, within the options'
-- bounds. This thread is tried first.
pub record IsNextEpoch (options : Options) (first : ℕ) (s : State) (w : Supplied) (e : Epoch) (end : State) (output : List ℕ) : Type 0 where
  pub bounds : Bounds
  pub steps : bounds.steps ≡ epoch_steps options s
  pub slice : bounds.slice ≡ options.slice
  pub first_is : bounds.first ≡ first
  pub scheduled : IsScheduled s no_hints w bounds e output end
  pub is_epoch : IsEpoch e
  pub fits : IsBody (epoch_body e)

-- Each round starts in the state in which the one before ends. It takes input exactly if some is due, and commits one
-- epoch, the one that is next with what it has read. No result is squashed.
abbrev pub EachIsNextEpoch : Options → ℕ → State → Supplied → List Round → Type 0
EachIsNextEpoch options first s w [] = ⊤
EachIsNextEpoch options first s w (r ∷ rounds) = (e : Epoch) × (end : State) × (output : List ℕ) × (r.epochs ≡ e ∷ []) × (r.squashed ≡ false) × (r.draw.due ≡ input_due s w)
    × IsNextEpoch options first s (supply_of w r.draw) e end output × EachIsNextEpoch options (thread_after first e.slices) end (supply_of w r.draw) rounds

-- ---- what was read from the input

-- what the rounds of a run read, and the answers that their epochs took
abbrev pub RunHasRead : {tells : Tells} {options : Options} {start : State} → Run tells options start → (i j : Option Input) → Type 0
RunHasRead r i j = IfKnown (HaveRead (round_inputs r) (answers r)) i j

-- the same, and then one round read this
abbrev pub RunHasReadMore : {tells : Tells} {options : Options} {start : State} → Run tells options start → RoundInput → (i j : Option Input) → Type 0
RunHasReadMore r d i j = IfKnown (HaveRead (round_inputs r ++ d ∷ []) (answers r)) i j

-- A run in whole rounds, and maybe one round that only read: it took from the input exactly if some was due.
abbrev pub RunMayHaveReadMore : {tells : Tells} {options : Options} {start : State} → Run tells options start → (i j : Option Input) → Type 0
RunMayHaveReadMore r i j = RunHasRead r i j ⊎ ((d : RoundInput) × (d.due ≡ input_due r.end (supply r)) × RunHasReadMore r d i j)

-- What the rounds read by then, and the answers that these epochs took, all of a round's that were committed by then
-- among them.
abbrev pub ReadWithin : {tells : Tells} {options : Options} {start : State} → RunOn tells options start → List Epoch → (i j : Option Input) → Type 0
ReadWithin on epochs i j = IfKnown (HaveRead (round_inputs_on on) (answers_in epochs)) i j

-- ---- what is on the disk, and what was sent

-- the journal of these records fits
abbrev pub FitsWithin : (guest : List ℕ) → Options → List Record → Type 0
FitsWithin guest options records = length (journal_of guest records) ≤ options.room

-- The disk was empty, and now holds the guest's journal with these records. This was sent on Out, and that on Note.
pub record IsRecorded (guest : List ℕ) (records : List Record) (output note : List ℕ) (before after : History) : Type 0 where
  pub empty : before.disk ≡ []
  pub stands : Stands guest records after
  pub sent : after.sent ≡ before.sent ++ output
  pub noted : after.noted ≡ before.noted ++ note

-- The disk failed before the first epoch. If the disk was empty with nothing pending, a crash leaves no journal, or one
-- without a record. If it wasn't empty, nothing was done.
pub record IsUnbegun (guest : List ℕ) (before after : History) : Type 0 where
  pub sent : after.sent ≡ before.sent
  pub noted : after.noted ≡ before.noted
  pub untouched : (before.disk ≡ []) ⊎ (after ≡ before)
  pub synced : before.disk ≡ [] → IsSynced before → reads after.pending.synced ≡ None
  pub left : before.disk ≡ [] → IsSynced before → Then (λ image sent. (reads image ≡ None) ⊎ Reads guest [] image) (now after)

-- The disk failed while one more record was appended. The output of the epochs before was sent. A crash leaves the
-- journal of these records, or the one that has this record too.
pub record IsInterrupted (guest : List ℕ) (records : List Record) (output : List ℕ) (last : Record) (before after : History) : Type 0 where
  pub empty : before.disk ≡ []
  pub sent : after.sent ≡ before.sent ++ output
  pub noted : after.noted ≡ before.noted
  pub synced : IsPrefixOf (journal_of guest records) after.pending.synced
  pub left : Then (λ image sent. (Reads guest records image) ⊎ (Reads guest (records ++ last ∷ []) image)) (now after)

-- nothing was written or sent
abbrev pub IsUntouched : History → History → Type 0
IsUntouched before after = (before.disk ≡ []) × (after ≡ before)

abbrev pub IsInUse : ℕ → History → History → Type 0
IsInUse len before after = (len ≡ length before.disk) × (after ≡ before)

-- ---- by the answer

-- the report of epochs of which none was squashed
abbrev pub report_of : List Epoch → State → List ℕ → Report
report_of epochs end output = report_at (length epochs) 0 (length output) end

-- the report of a run
abbrev pub reported : {tells : Tells} {options : Options} {start : State} → Run tells options start → Report
reported r = record (report_of (epochs r) r.end r.output) { squashes = squashes r }

-- The header doesn't fit, or the record of the epoch that is next, or the mark that is due.
abbrev pub DoesNotFit : (guest : List ℕ) → (tells : Tells) → (start : State) → Options → (end need : ℕ) → (i j : Option Input) → (before after : Option History) → Type 0
DoesNotFit guest tells start options end need i j before after =
    ((end ≡ 0) × (need ≡ 10 + length guest) × (options.room < need) × (j ≡ i) × IfKnown IsUntouched before after)
    ⊎ ((on : RunOn tells options start) × (n : NextEpoch on) × FitsWithin guest options (records_of options start (epochs_on on))
    × (end ≡ length (journal_of guest (records_of options start (epochs_on on)))) × (need ≡ length (frame (epoch_body (next_epoch n)))) × (options.room < end + need)
    × ReadWithin on (epochs_on on) i j × IfKnown (IsRecorded guest (records_of options start (epochs_on on)) on.output []) before after)
    ⊎ ((on : RunOn tells options start) × (m : Partial) × IsMarkDue options start (epochs_on on) m × FitsWithin guest options (records_unmarked options start (epochs_on on))
    × (end ≡ length (journal_of guest (records_unmarked options start (epochs_on on)))) × (need ≡ length (frame (partial_bytes m))) × (options.room < end + need)
    × ReadWithin on (epochs_on on) i j × IfKnown (IsRecorded guest (records_unmarked options start (epochs_on on)) on.output []) before after)

-- The disk failed before the first epoch, or while the epoch that is next was appended, or the mark that is due.
abbrev pub HasLostDisk : (guest : List ℕ) → (tells : Tells) → (start : State) → Options → (i j : Option Input) → (before after : Option History) → Type 0
HasLostDisk guest tells start options i j before after =
    ((j ≡ i) × IfKnown (IsUnbegun guest) before after)
    ⊎ ((on : RunOn tells options start) × (n : NextEpoch on) × FitsWithin guest options (records_unmarked options start (epochs_on on ++ next_epoch n ∷ []))
    × ReadWithin on (epochs_on on) i j × IfKnown (IsInterrupted guest (records_of options start (epochs_on on)) on.output (epoch (next_epoch n))) before after)
    ⊎ ((on : RunOn tells options start) × (m : Partial) × IsMarkDue options start (epochs_on on) m × FitsWithin guest options (records_of options start (epochs_on on))
    × ReadWithin on (epochs_on on) i j × IfKnown (IsInterrupted guest (records_unmarked options start (epochs_on on)) on.output (partial m)) before after)

-- The epoch that is next was committed, and a part of its output was sent; or the guest has ended, and a part of the
-- report's line was sent. The mark after that epoch isn't there.
abbrev pub HasLostSink : (guest : List ℕ) → (tells : Tells) → (start : State) → Options → (i j : Option Input) → (before after : Option History) → Type 0
HasLostSink guest tells start options i j before after =
    ((on : RunOn tells options start) × (n : NextEpoch on) × FitsWithin guest options (records_unmarked options start (epochs_on on ++ next_epoch n ∷ []))
    × ReadWithin on (epochs_on on ++ next_epoch n ∷ []) i j
    × IfKnown (λ s t. (count : ℕ) × IsRecorded guest (records_unmarked options start (epochs_on on ++ next_epoch n ∷ [])) (on.output ++ take count n.run.out) [] s t) before after)
    ⊎ ((r : Run tells options start) × (has_ended r.end.end ≡ true) × FitsWithin guest options (records r) × RunHasRead r i j
    × IfKnown (λ s t. (count : ℕ) × IsRecorded guest (records r) r.output (take count (report_line (reported r))) s t) before after)

-- Memory ran out before the first epoch, between two rounds, or within a round: while its jobs were made and run, or
-- before the epoch that is next was appended.
abbrev pub HasLostMemory : (guest : List ℕ) → (tells : Tells) → (start : State) → Options → (i j : Option Input) → (before after : Option History) → Type 0
HasLostMemory guest tells start options i j before after =
    ((j ≡ i) × IfKnown IsUntouched before after)
    ⊎ ((r : Run tells options start) × ((has_ended r.end.end ≡ true) ⊎ GoesOn options r.end)
    × FitsWithin guest options (records r) × RunMayHaveReadMore r i j × IfKnown (IsRecorded guest (records r) r.output []) before after)
    ⊎ ((on : RunOn tells options start) × FitsWithin guest options (records_of options start (epochs_on on))
    × ReadWithin on (epochs_on on) i j × IfKnown (IsRecorded guest (records_of options start (epochs_on on)) on.output []) before after)

-- By the answer: the run that was recorded, by a racer with these known offers at first, what the journal holds and
-- what was sent of it, and what was read from the input.
abbrev pub Recorded : (guest : List ℕ) → (tells : Tells) → (start : State) → Options → (i j : Option Input) → (before after : Option History) → Result Report RecordFault → Type 0
Recorded guest tells start options i j before after (Ok report) =
    (r : Run tells options start) × (has_ended r.end.end ≡ true) × (report ≡ reported r) × FitsWithin guest options (records r)
    × RunHasRead r i j × IfKnown (IsRecorded guest (records r) r.output (report_line report)) before after
Recorded guest tells start options i j before after (Err (faults.StepLimit n)) =
    (r : Run tells options start) × (has_ended r.end.end ≡ false) × (n ≡ r.end.steps) × (n ≡ options.limit) × FitsWithin guest options (records r)
    × RunHasRead r i j × IfKnown (IsRecorded guest (records r) r.output []) before after
Recorded guest tells start options i j before after (Err faults.InputFault) =
    (r : Run tells options start) × GoesOn options r.end × (input_due r.end (supply r) ≡ true) × FitsWithin guest options (records r)
    × RunHasRead r i j × IfKnown (IsRecorded guest (records r) r.output []) before after
Recorded guest tells start options i j before after (Err faults.OutOfMemory) = HasLostMemory guest tells start options i j before after
Recorded guest tells start options i j before after (Err (faults.JournalInUse len)) = (0 < len) × (j ≡ i) × IfKnown (IsInUse len) before after
Recorded guest tells start options i j before after (Err (faults.JournalFull end need)) = DoesNotFit guest tells start options end need i j before after
Recorded guest tells start options i j before after (Err faults.DiskFault) = HasLostDisk guest tells start options i j before after
Recorded guest tells start options i j before after (Err faults.OutputFault) = HasLostSink guest tells start options i j before after
