-- The calls that the program makes, as events of a recording's machine. This project's own.
use Rattle.std.specs.Prelude.{◌≡◌, ◌⊎◌, ◌<◌, ◌≤◌, ◌+◌, ℕ, Bool, true, false, List, [], ◌∷◌, ◌++◌, None, Result, Ok, Err, take, length, ⊤}
use Rattle.commit_core.specs.declared.event.Event as rounds
use Rattle.commit_core.specs.declared.event.Event.TheVariants as events
use Rattle.commit_core.specs.declared.verdict.Verdict.{Verdict}
use Rattle.commit_core.specs.declared.verdict.Verdict.TheVariants.{Commit}
use Rattle.commit_core.specs.Judging.{Core, HasApplied, HasJudged, new_core}
use Rattle.commit_core.specs.Noting.{IsRefusal}
use Rattle.device.specs.Sending.{SendCalls, left_to_send}
use Rattle.disk_model.specs.History.{History}
use Rattle.disk_model.specs.Input.{Input}
use Rattle.disk_model.specs.declared.world.Stream.TheVariants.{Out}
use Rattle.dp_base.specs.declared.limits.TheConstants.{MAX_JOBS, MAX_JOURNAL_BYTES}
use Rattle.dp_base.specs.Journal.{frame}
use Rattle.epoch_journal.specs.declared.append.AppendFault.{AppendFault}
use Rattle.epoch_journal.specs.declared.append.AppendFault.TheVariants as appends
use Rattle.epoch_journal.specs.Appending.{AppendCalls, HasAppended}
use Rattle.epoch_journal.specs.Beginning.{Begun, HasBegun}
use Rattle.epoch_journal.specs.Standing.{Journal, Stands}
use Rattle.guest_kernel.specs.declared.state.State.{State}
use Rattle.journal_text.specs.Reading.{journal_of}
use Rattle.epoch_record.specs.declared.epoch.Epoch.{Epoch}
use Rattle.epoch_runner.specs.Answering.{input_due}
use Rattle.epoch_runner.specs.declared.epoch_run.EpochRun.{EpochRun}
use Rattle.journal_text.specs.Records.{Record, body_of}
use Rattle.recorder.specs.Committing.{CommitCalls, HasCommitted}
use Rattle.recorder.specs.declared.commit.CommitFault.{CommitFault}
use Rattle.recorder.specs.declared.commit.CommitFault.TheVariants as commits
use Rattle.recorder.specs.Drawing.{RoundInput, Drew, supply_of}
use Rattle.recorder.specs.Machine.{MachineCall, MachineEvent, IsAtRest, IsReached, IsTakeable, Machine, Reaches, Step, after_machine_call, fails, first_machine, frame_sync, frame_write, gate_sync, gate_write, holds, in_round, journal_end, makes, output_of_runs, record_of_run, round, send_fails, sends}
use Rattle.supply.specs.Supplied.{IsSupply, Supplied, end_of}

-- the machine's journal, as the program counts its bytes
pub record IsJournalOf (guest : List ℕ) (m : Machine) (j : Journal) : Type 0 where
  pub at_end : j.end ≡ journal_end guest m
  pub small : j.room ≤ MAX_JOURNAL_BYTES

-- ---- the beginning

-- Once `begin` has answered `Ok`, the machine has done nothing yet, and this is the journal that it writes.
abbrev pub BegunIsFirst : (guest : List ℕ) → State → Input → (room : ℕ) → Journal → (before after : History) → Type 0
BegunIsFirst guest start i room j before after =
    room ≤ MAX_JOURNAL_BYTES → HasBegun (length guest) room (Ok j) → Begun guest (Ok j) before after
    → Stands guest [] after × (length (journal_of guest []) ≤ MAX_JOURNAL_BYTES) × IsJournalOf guest (first_machine start after i) j

-- ---- a new core

-- A core that is made over the committed state, after `draw` has read the round's input, is a round. Its window doesn't
-- begin after the input that the committed state has read.
abbrev pub InputIsRound : (guest : List ℕ) → (supplied : Bool) → Machine → RoundInput → (jobs : ℕ) → Input → Supplied → Core → Type 0
InputIsRound guest supplied m d jobs i w core =
    m.left ≡ None → IsAtRest m → (m.core.closed ≡ true) ⊎ (m.core.judged ≡ length m.core.jobs) → 0 < jobs → jobs ≤ MAX_JOBS
    → IsSupply m.supply → m.supply.place ≤ m.core.committed.input → m.core.committed.input ≤ end_of m.supply → d.due ≡ input_due m.core.committed m.supply
    → Drew d m.input i → w ≡ supply_of m.supply d → core ≡ new_core m.core.committed jobs
    → (n : Machine) × Step guest supplied m (round d jobs) n × (n.input ≡ i) × (n.supply ≡ w) × (n.core ≡ core) × IsReached true n.supply n.core.committed

-- ---- the events of a core

-- What the machine asks besides: a result may be taken; the next one is judged at rest, and the window doesn't begin
-- after what the committed state has read.
abbrev pub IsAllowed : (supplied : Bool) → Machine → rounds.Event → Type 0
IsAllowed supplied m (events.Offer i) = ⊤
IsAllowed supplied m (events.Claim i) = ⊤
IsAllowed supplied m (events.Done i) = ⊤
IsAllowed supplied m (events.Take i ran) = IsTakeable supplied m.supply ran
IsAllowed supplied m events.Judge = IsAtRest m × IsReached supplied m.supply m.core.committed

-- An event that `apply` doesn't refuse is the machine's, and leaves the core that `apply` leaves. One that it refuses
-- isn't, and changes nothing.
abbrev pub AppliedIsEvent : (guest : List ℕ) → (supplied : Bool) → Machine → rounds.Event → Verdict → Core → Type 0
AppliedIsEvent guest supplied m e verdict core = m.left ≡ None → IsAllowed supplied m e → HasApplied m.core e verdict core
    → ((n : Machine) × Step guest supplied m (in_round e) n × (n.core ≡ core) × (IsRefusal verdict → ⊥))
    ⊎ (IsRefusal verdict × (core ≡ m.core) × ((n : Machine) → Step guest supplied m (in_round e) n → ⊥))

-- an epoch that the core commits is in hand
abbrev pub CommitIsInHand : (guest : List ℕ) → (supplied : Bool) → Machine → Epoch → (out : List ℕ) → Core → Type 0
CommitIsInHand guest supplied m e out core = m.left ≡ None → IsAtRest m → IsReached supplied m.supply m.core.committed → HasJudged m.core (Commit e out) core
    → (r : EpochRun) × (r.epoch ≡ e) × (r.out ≡ out)
    × Step guest supplied m (in_round events.Judge) (record m { core = core; round_runs = m.round_runs ++ r ∷ []; hand = holds (record_of_run r) (r ∷ []) frame_write })

-- ---- an append

-- the calls of a record before one of them
abbrev pub calls_before : MachineCall → List MachineEvent
calls_before frame_write = []
calls_before frame_sync = makes frame_write ∷ []
calls_before gate_write = makes frame_write ∷ makes frame_sync ∷ []
calls_before gate_sync = makes frame_write ∷ makes frame_sync ∷ makes gate_write ∷ []

-- all four of them
abbrev pub record_calls : List MachineEvent
record_calls = calls_before gate_sync ++ makes gate_sync ∷ []

-- a call of the record in hand fails, after those before it
abbrev pub CallFails : (guest : List ℕ) → (supplied : Bool) → Machine → Record → List EpochRun → History → Type 0
CallFails guest supplied m r rs t = (call : MachineCall) × Reaches guest supplied m (calls_before call ++ fails call ∷ []) (record m { world = t; hand = holds r rs call; stopped = true })

-- An append is the four calls of a record, or those up to one that fails, or no event.
abbrev pub AppendEvents : (guest : List ℕ) → (supplied : Bool) → Machine → Record → List EpochRun → Journal → Result (Unit {0}) AppendFault → History → Type 0
AppendEvents guest supplied m r rs after (Ok done) t =
    Reaches guest supplied m record_calls (after_machine_call m r rs gate_sync t) × IsJournalOf guest (after_machine_call m r rs gate_sync t) after
AppendEvents guest supplied m r rs after (Err appends.DiskFault) t = CallFails guest supplied m r rs t
AppendEvents guest supplied m r rs after (Err (appends.Full end need)) t = t ≡ m.world
AppendEvents guest supplied m r rs after (Err (appends.Failed last)) t = t ≡ m.world

abbrev pub AppendIsEvents : (guest : List ℕ) → (supplied : Bool) → Machine → (before after : Journal) → (added : List ℕ) → Result (Unit {0}) AppendFault → History → Type 0
AppendIsEvents guest supplied m before after added result t =
    (r : Record) (rs : List EpochRun) → m.left ≡ None → m.stopped ≡ false → m.hand ≡ holds r rs frame_write → IsJournalOf guest m before → added ≡ frame (body_of r)
    → HasAppended before (length added) after result → AppendCalls before added result m.world t → AppendEvents guest supplied m r rs after result t

-- ---- output

-- Bytes are sent in pieces, once this number of them was sent. Each piece is all that is left, and of each Out takes
-- this many bytes.
abbrev pub pieces_of : List ℕ → (sent : ℕ) → (counts : List ℕ) → List MachineEvent
pieces_of bytes sent [] = []
pieces_of bytes sent (k ∷ counts) = sends (left_to_send bytes sent) k ∷ pieces_of bytes (sent + k) counts

-- They are sent piece by piece, to the end or to a call that fails.
abbrev pub SendEvents : (guest : List ℕ) → (supplied : Bool) → Machine → (bytes : List ℕ) → Bool → History → Type 0
SendEvents guest supplied m bytes true t =
    (counts : List ℕ) × Reaches guest supplied m (pieces_of bytes 0 counts) (record m { world = t; released = m.released ++ bytes })
SendEvents guest supplied m bytes false t = (counts : List ℕ) × (piece : List ℕ) × (count : ℕ)
    × Reaches guest supplied m (pieces_of bytes 0 counts ++ send_fails piece ∷ []) (record m { world = t; released = m.released ++ take count bytes; stopped = true })

abbrev pub SendIsEvents : (guest : List ℕ) → (supplied : Bool) → Machine → (bytes : List ℕ) → Bool → History → Type 0
SendIsEvents guest supplied m bytes ok t =
    m.left ≡ None → m.stopped ≡ false → output_of_runs m.written ≡ m.released ++ bytes → SendCalls Out bytes ok m.world t → SendEvents guest supplied m bytes ok t

-- ---- a commit

-- the machine once the record of a run is acknowledged and its output was sent
abbrev pub after_commit : Machine → EpochRun → (output : List ℕ) → History → Machine
after_commit m r output t = record (after_machine_call m (record_of_run r) (r ∷ []) gate_sync t) { released = m.released ++ output }

-- A commit is the four calls of the epoch's record and then the pieces of its output, or these up to a call that fails,
-- or no event.
abbrev pub CommitEvents : (guest : List ℕ) → (supplied : Bool) → Machine → EpochRun → Journal → Result (Unit {0}) CommitFault → History → Type 0
CommitEvents guest supplied m r after (Ok done) t = (counts : List ℕ) × Reaches guest supplied m (record_calls ++ pieces_of r.out 0 counts) (after_commit m r r.out t)
    × IsAtRest (after_commit m r r.out t) × IsJournalOf guest (after_commit m r r.out t) after
CommitEvents guest supplied m r after (Err commits.OutputFault) t = (counts : List ℕ) × (piece : List ℕ) × (count : ℕ)
    × Reaches guest supplied m (record_calls ++ (pieces_of r.out 0 counts ++ send_fails piece ∷ [])) (record (after_commit m r (take count r.out) t) { stopped = true })
CommitEvents guest supplied m r after (Err commits.DiskFault) t = CallFails guest supplied m (record_of_run r) (r ∷ []) t
CommitEvents guest supplied m r after (Err (commits.Full end need)) t = t ≡ m.world
CommitEvents guest supplied m r after (Err (commits.Failed last)) t = t ≡ m.world

abbrev pub CommitIsEvents : (guest : List ℕ) → (supplied : Bool) → Machine → (before after : Journal) → (added output : List ℕ) → Result (Unit {0}) CommitFault → History → Type 0
CommitIsEvents guest supplied m before after added output result t =
    (r : EpochRun) → m.left ≡ None → m.stopped ≡ false → m.released ≡ output_of_runs m.written → m.hand ≡ holds (record_of_run r) (r ∷ []) frame_write
    → IsJournalOf guest m before → added ≡ frame (body_of (record_of_run r)) → output ≡ r.out
    → HasCommitted before (length added) after result → CommitCalls before added output result m.world t → CommitEvents guest supplied m r after result t
