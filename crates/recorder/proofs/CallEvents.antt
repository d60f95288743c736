-- The calls that the program makes are events.
use Rattle.std.proofs.Common.{if◌then◌else◌, ◌≡◌, ◌⊎◌, inl, inr, ℕ, ◌+◌, ◌-◌, ◌≤◌, Bool, true, false, List, [], ◌∷◌, ◌++◌, length, take, drop, slice_get, Option, Some, None, Result, Ok, Err, refl, sym, ◌∙◌, ap, subst, arith, append_assoc, length-append, length-drop}
use Rattle.std.proofs.Math.Seq.{take-add}
use Rattle.std.proofs.lemmas.Grind.{flat_map-append}
use Rattle.std.proofs.lemmas.List.{append-nil, take-append-drop, take_all}
use Rattle.commit_core.specs.declared.event.Event as rounds
use Rattle.commit_core.specs.declared.event.Event.TheVariants as events
use Rattle.commit_core.specs.declared.stage.Stage.{Stage}
use Rattle.commit_core.specs.declared.stage.Stage.TheVariants.{Offered, Claimed, Done, Taken, Judged}
use Rattle.commit_core.specs.declared.verdict.Verdict.{Verdict}
use Rattle.commit_core.specs.declared.verdict.Verdict.TheVariants.{Commit, Squash, Over, NotYet, Closed}
use Rattle.commit_core.specs.Judging.{Core, HasApplied, HasJudged, IsJudged, JudgesNext, JudgesWhere, new_core, shut, with_epoch, with_job, with_stage}
use Rattle.commit_core.specs.Noting.{BecomesBy, Goes, IsRefusal, NotesOrRefuses}
use Rattle.device.specs.Sending.{AreEmits, SendCalls, left_to_send}
use Rattle.disk_model.specs.History.{History}
use Rattle.disk_model.specs.Input.{Input}
use Rattle.disk_model.specs.Steps.{Emitted, Synced, Wrote}
use Rattle.disk_model.specs.declared.world.Failed.{Failed}
use Rattle.disk_model.specs.declared.world.Stream.TheVariants.{Out}
use Rattle.dp_base.specs.Journal.{closed_gate, frame, header, open_gate}
use Rattle.dp_base.proofs.Sizes.{length-header}
use Rattle.journal_text.specs.Reading.{journal_of}
use Rattle.epoch_journal.specs.declared.append.AppendFault.{AppendFault}
use Rattle.epoch_journal.specs.declared.append.AppendFault.TheVariants as appends
use Rattle.epoch_journal.specs.Appending.{AppendCalls, HasAppended, RecordCalls}
use Rattle.epoch_journal.specs.Standing.{Journal}
use Rattle.epoch_journal.proofs.OnDisk.{length-journal-push}
use Rattle.epoch_record.specs.declared.epoch.Epoch as epochs
use Rattle.epoch_runner.specs.Answering.{input_due}
use Rattle.dp_base.specs.Journal as journals
use Rattle.epoch_record.specs.Epoch.{epoch_of}
use Rattle.epoch_runner.specs.Running.{HasRun, IsRunOf}
use Rattle.epoch_runner.specs.Schedule.{IsScheduled}
use Rattle.epoch_runner.specs.Supplying.{IsSuppliedBy}
use Rattle.epoch_runner.specs.declared.bounds.Bounds.{Bounds}
use Rattle.sync_hints.specs.declared.hints.Hints.{Hints}
use Rattle.epoch_runner.specs.declared.epoch_run.EpochRun.{EpochRun}
use Rattle.guest_kernel.specs.declared.state.State.{State}
use Rattle.supply.specs.Supplied.{IsSupply, Supplied, end_of, refilled}
use Rattle.recorder.specs.Drawing.{RoundInput, supply_of}
use Rattle.dp_base.specs.declared.limits.TheConstants.{MAX_JOURNAL_BYTES}
use Rattle.epoch_runner.specs.declared.epoch_run.Ran.{Ran}
use Rattle.epoch_runner.specs.declared.epoch_run.Ran.TheVariants.{Epoch, Idle}
use Rattle.journal_text.specs.Records.{Record, body_of}
use Rattle.recorder.specs.declared.commit.CommitFault.{CommitFault}
use Rattle.recorder.specs.declared.commit.CommitFault.TheVariants as commits
use Rattle.recorder.specs.Committing.{CommitCalls, HasCommitted}
use Rattle.recorder.specs.Machine.{MachineCall, CallLeaves, MachineEvent, HeldRecord, RoundEvent, IsAtRest, IsNextOutput, IsReached, IsTakeable, Judges, Machine, Reaches, RecordFits, Step, after_machine_call, fails, frame_sync, frame_write, gate_sync, gate_write, holds, in_round, journal_end, makes, output_of_runs, record_of_run, send_fails, sends}
use Rattle.recorder.specs.CallEvents.{AppendEvents, AppendIsEvents, AppliedIsEvent, BegunIsFirst, CallFails, CommitEvents, CommitIsEvents, CommitIsInHand, InputIsRound, IsAllowed, IsJournalOf, SendEvents, SendIsEvents, after_commit, calls_before, pieces_of, record_calls}

-- ---- events after events

pub reaches-append : (guest : List ℕ) (supplied : Bool) (m n last : Machine) (some more : List MachineEvent) → Reaches guest supplied m some n → Reaches guest supplied n more last → Reaches guest supplied m (some ++ more) last
reaches-append guest supplied m n last [] more is then_ = subst (λ (x : Machine). Reaches guest supplied x more last) is then_
reaches-append guest supplied m n last (e ∷ some) more is then_ = (is.0, is.1, reaches-append guest supplied is.0 n last some more is.2 then_)

-- ---- the beginning

pub begun_is_first : (guest : List ℕ) (start : State) (i : Input) (room : ℕ) (j : Journal) (before after : History) → BegunIsFirst guest start i room j before after
begun_is_first guest start i room j before after = λ few numbers begun.
    let size : length (journal_of guest []) ≡ 10 + length guest = omega (arith, length-header guest, length-append (header guest) (closed_gate ∷ [])) in (
      begun.1,
      omega (arith, size, numbers.1, few),
      record { at_end = omega (arith, size, ap (λ (k : Journal). k.end) numbers.0); small = omega (arith, few, ap (λ (k : Journal). k.room) numbers.0) },
    )

-- ---- the events of a core

module _ (guest : List ℕ) (supplied : Bool) (m : Machine) (none : m.left ≡ None) where
  -- the machine's are the core's
  becomes : (ran : Ran) (n : Machine) → Judges supplied m ran n → BecomesBy m.core ran n.core
  becomes (Epoch r) n (inl j) = inl (j.0, ap (λ (x : Machine). x.core) j.2)
  becomes (Epoch r) n (inr j) = inr (j.0, ap (λ (x : Machine). x.core) j.1)
  becomes (Idle s) n j = ap (λ (x : Machine). x.core) j.1

  goes_too : (e : rounds.Event) (n : Machine) → RoundEvent supplied m e n → Goes m.core e n.core
  goes_too (events.Offer i) n t = (t.0, t.1, ap (λ (x : Machine). x.core) t.2)
  goes_too (events.Claim i) n t = (t.0, ap (λ (x : Machine). x.core) t.1)
  goes_too (events.Done i) n t = (t.0, ap (λ (x : Machine). x.core) t.1)
  goes_too (events.Take i ran) n t = (t.0, ap (λ (x : Machine). x.core) t.2)
  goes_too events.Judge n t = (t.1, t.2, t.3, becomes t.2 n t.4)

  -- the next result, as the core judges it
  is_judged : (verdict : Verdict) (core : Core) (ran : Ran) → HasJudged m.core verdict core → m.core.closed ≡ false → slice_get m.core.jobs m.core.judged ≡ Some (Taken ran) → IsJudged m.core ran verdict core
  is_judged verdict core ran judged open_ next =
      subst (λ (o : Option Stage). JudgesNext m.core o verdict core) next (subst (λ (b : Bool). JudgesWhere b m.core verdict core) open_ judged)

  judges_so : (verdict : Verdict) (core : Core) (ran : Ran) → IsReached supplied m.supply m.core.committed → IsJudged m.core ran verdict core → (n : Machine) × Judges supplied m ran n × (n.core ≡ core)
  judges_so verdict core (Epoch r) reached (inl j) = (record m { core = with_epoch m.core r; round_runs = m.round_runs ++ r ∷ []; hand = holds (record_of_run r) (r ∷ []) frame_write }, inl (j.0, reached, refl), sym j.2)
  judges_so verdict core (Epoch r) reached (inr j) = (record m { core = shut m.core }, inr (j.0, refl), sym j.2)
  judges_so verdict core (Idle s) reached (inl j) = (record m { core = shut m.core }, (inl j.0, refl), sym j.2)
  judges_so verdict core (Idle s) reached (inr j) = (record m { core = shut m.core }, (inr j.0, refl), sym j.2)

  comes : (e : rounds.Event) (verdict : Verdict) (core : Core) → IsAllowed supplied m e → HasApplied m.core e verdict core → Goes m.core e core → (n : Machine) × Step guest supplied m (in_round e) n × (n.core ≡ core)
  comes (events.Offer i) verdict core allowed applied g = (record m { core = with_job m.core }, (none, (g.0, g.1, refl)), sym g.2)
  comes (events.Claim i) verdict core allowed applied g = (record m { core = with_stage m.core i Claimed }, (none, (g.0, refl)), sym g.1)
  comes (events.Done i) verdict core allowed applied g = (record m { core = with_stage m.core i Done }, (none, (g.0, refl)), sym g.1)
  comes (events.Take i ran) verdict core allowed applied g =
      (record m { core = with_stage m.core i (Taken ran); results = record { number = i; ran = ran } ∷ m.results }, (none, (g.0, allowed, refl)), sym g.1)
  comes events.Judge verdict core allowed applied g =
      let there = judges_so verdict core g.1 allowed.1 (is_judged verdict core g.1 applied g.0 g.2) in
      (there.0, (none, (allowed.0, g.0, g.1, g.2, there.1)), there.2)

  pub by_note : (e : rounds.Event) (verdict : Verdict) (core : Core) → IsAllowed supplied m e → HasApplied m.core e verdict core → NotesOrRefuses m.core e verdict core
      → ((n : Machine) × Step guest supplied m (in_round e) n × (n.core ≡ core) × (IsRefusal verdict → ⊥)) ⊎ (IsRefusal verdict × (core ≡ m.core) × ((n : Machine) → Step guest supplied m (in_round e) n → ⊥))
  by_note e verdict core allowed applied (inl noted) =
      let there = comes e verdict core allowed applied noted.1 in
      inl (there.0, there.1, there.2, noted.0)
  by_note e verdict core allowed applied (inr refused) = inr (refused.0, refused.1, λ n s. refused.2 n.core (goes_too e n s.1))

  -- an epoch that is committed is in hand
  module _ (e : epochs.Epoch) (out : List ℕ) (core : Core) (rest : IsAtRest m) (reached : IsReached supplied m.supply m.core.committed) where
    abbrev InHand : Type 0
    InHand = (r : EpochRun) × (r.epoch ≡ e) × (r.out ≡ out)
        × Step guest supplied m (in_round events.Judge) (record m { core = core; round_runs = m.round_runs ++ r ∷ []; hand = holds (record_of_run r) (r ∷ []) frame_write })

    by_ran : (ran : Ran) → m.core.closed ≡ false → slice_get m.core.jobs m.core.judged ≡ Some (Taken ran) → IsJudged m.core ran (Commit e out) core → InHand
    by_ran (Epoch r) going next (inl j) = (
      r,
      (let same : Commit e out ≡ Commit r.epoch r.out = j.1 in cc),
      (let same : Commit e out ≡ Commit r.epoch r.out = j.1 in cc),
      (
        none,
        (rest, going, Epoch r, next, inl (j.0, reached, ap (λ (c : Core). record m { core = c; round_runs = m.round_runs ++ r ∷ []; hand = holds (record_of_run r) (r ∷ []) frame_write }) j.2)),
      ),
    )
    by_ran (Epoch r) going next (inr j) = let never : Commit e out ≡ Squash (m.core.judged + 1) = j.1 in absurd cc
    by_ran (Idle s) going next (inl j) = let never : Commit e out ≡ Over (m.core.judged + 1) = j.1 in absurd cc
    by_ran (Idle s) going next (inr j) = let never : Commit e out ≡ Squash (m.core.judged + 1) = j.1 in absurd cc

    not_yet : Commit e out ≡ NotYet (m.core.judged + 1) → ⊥
    not_yet never = cc

    by_stage : (o : Option Stage) → m.core.closed ≡ false → slice_get m.core.jobs m.core.judged ≡ o → JudgesNext m.core o (Commit e out) core → InHand
    by_stage None going next j = absurd (not_yet j.0)
    by_stage (Some Offered) going next j = absurd (not_yet j.0)
    by_stage (Some Claimed) going next j = absurd (not_yet j.0)
    by_stage (Some Done) going next j = absurd (not_yet j.0)
    by_stage (Some (Taken ran)) going next j = by_ran ran going next j
    by_stage (Some Judged) going next j = absurd (not_yet j.0)

    by_closed : (closed : Bool) → m.core.closed ≡ closed → JudgesWhere closed m.core (Commit e out) core → InHand
    by_closed true is j = let never : Commit e out ≡ Closed = j.0 in absurd cc
    by_closed false is j = by_stage (slice_get m.core.jobs m.core.judged) is refl j

pub commit_is_in_hand : (guest : List ℕ) (supplied : Bool) (m : Machine) (e : epochs.Epoch) (out : List ℕ) (core : Core) → CommitIsInHand guest supplied m e out core
commit_is_in_hand guest supplied m e out core = λ none rest reached judged. by_closed guest supplied m none e out core rest reached m.core.closed refl judged

pub applied_is_event : ((c there : Core) (e : rounds.Event) (verdict : Verdict) → HasApplied c e verdict there → NotesOrRefuses c e verdict there)
    → (guest : List ℕ) (supplied : Bool) (m : Machine) (e : rounds.Event) (verdict : Verdict) (core : Core) → AppliedIsEvent guest supplied m e verdict core
applied_is_event law guest supplied m e verdict core = λ none allowed applied. by_note guest supplied m none e verdict core allowed applied (law m.core core e verdict applied)

-- ---- a new core

-- a round's window begins no later than the one before, or where that ended
reached_by : (w : Supplied) (taken : List ℕ) (s : State) (due : Bool) → w.place ≤ s.input → (due ≡ true → s.input ≡ end_of w) → (if due then refilled taken w else w).place ≤ s.input
reached_by w taken s true place used_up = omega (arith, used_up refl)
reached_by w taken s false place used_up = place

pub draw_is_round : ((s : State) (w : Supplied) → IsSupply w → w.place ≤ s.input → s.input ≤ end_of w → input_due s w ≡ true → (s.input ≡ end_of w) × (w.ended ≡ false))
    → (guest : List ℕ) (supplied : Bool) (m : Machine) (d : RoundInput) (jobs : ℕ) (i : Input) (w : Supplied) (core : Core) → InputIsRound guest supplied m d jobs i w core
draw_is_round used_up guest supplied m d jobs i w core = λ none rest over some few is_supply place within due drew w_is core_is. (
  record m {
    input = i;
    supply = supply_of m.supply d;
    core = new_core m.core.committed jobs;
    results = [];
    began = m.core.committed;
    round_runs = [];
  },
  (none, (rest, over, some, few, (λ is_due. (used_up m.core.committed m.supply is_supply place within (sym due ∙ is_due)).1), drew, refl)),
  refl,
  sym w_is,
  sym core_is,
  reached_by m.supply d.taken m.core.committed d.due place (λ is_due. (used_up m.core.committed m.supply is_supply place within (sym due ∙ is_due)).0),
)

-- ---- a result

pub run_is_takeable : ((start : State) (hints : Hints) (w : Supplied) (bounds : Bounds) (e : journals.Epoch) (output : List ℕ) (end : State) → IsScheduled start hints w bounds e output end → w.place ≤ start.input → start.input ≤ end_of w → IsSuppliedBy w start.input end.input e.answers)
    → (supplied : Bool) (s : State) (hints : Hints) (w : Supplied) (bounds : Bounds) (ran : Ran) → HasRun s hints w bounds ran → IsTakeable supplied w ran
run_is_takeable law supplied s hints w bounds (Epoch r) run = by_flag supplied
  where
    is_run : IsRunOf r.start (epoch_of r.epoch) r.out r.end
    is_run = subst (λ (x : State). IsRunOf x (epoch_of r.epoch) r.out r.end) (sym run.from) run.runs

    is_scheduled : IsScheduled r.start hints w bounds (epoch_of r.epoch) r.out r.end
    is_scheduled = subst (λ (x : State). IsScheduled x hints w bounds (epoch_of r.epoch) r.out r.end) (sym run.from) run.scheduled

    by_flag : (supplied : Bool) → IsTakeable supplied w (Epoch r)
    by_flag true = (is_run, λ place within. law r.start hints w bounds (epoch_of r.epoch) r.out r.end is_scheduled place within)
    by_flag false = is_run
run_is_takeable law true s hints w bounds (Idle t) run = (tt, tt)
run_is_takeable law false s hints w bounds (Idle t) run = tt

-- ---- an append

module _ (guest : List ℕ) (supplied : Bool) (m : Machine) (r : Record) (rs : List EpochRun) (none : m.left ≡ None) (works : m.stopped ≡ false) (in_hand : m.hand ≡ holds r rs frame_write) where
  -- at one of the calls
  abbrev at : MachineCall → History → Machine
  at call t = record m { world = t; hand = holds r rs call }

  start_is : at frame_write m.world ≡ m
  start_is = ap (λ (h : HeldRecord). record m { hand = h }) (sym in_hand)

  abbrev From : List MachineEvent → Machine → Type 0
  From events n = Reaches guest supplied (at frame_write m.world) events n

  from_m : (events : List MachineEvent) (n : Machine) → From events n → Reaches guest supplied m events n
  from_m events n is = subst (λ (x : Machine). Reaches guest supplied x events n) start_is is

  module _ (room : RecordFits guest m r) where
    failed : (call : MachineCall) (s t : History) → CallLeaves guest (at call s) r call false t → Step guest supplied (at call s) (fails call) (record (at call t) { stopped = true })
    failed call s t leaves = (none, (works, r, rs, refl, t, leaves, refl))

    made_frame : (t : History) → Wrote (journal_end guest m) (frame (body_of r)) true m.world t → From (makes frame_write ∷ []) (at frame_sync t)
    made_frame t wrote = (at frame_sync t, (none, (works, r, rs, refl, t, (room, wrote), refl)), refl)

    made_sync : (s t : History) → Wrote (journal_end guest m) (frame (body_of r)) true m.world s → Synced true s t → From (calls_before gate_write) (at gate_write t)
    made_sync s t wrote synced = reaches-append guest supplied (at frame_write m.world) (at frame_sync s) (at gate_write t) (makes frame_write ∷ []) (makes frame_sync ∷ []) (made_frame s wrote)
        (at gate_write t, (none, (works, r, rs, refl, t, synced, refl)), refl)

    made_gate : (s t u : History) → Wrote (journal_end guest m) (frame (body_of r)) true m.world s → Synced true s t → Wrote (journal_end guest m - 1) (open_gate ∷ []) true t u → From (calls_before gate_sync) (at gate_sync u)
    made_gate s t u wrote synced gate = reaches-append guest supplied (at frame_write m.world) (at gate_write t) (at gate_sync u) (calls_before gate_write) (makes gate_write ∷ []) (made_sync s t wrote synced)
        (at gate_sync u, (none, (works, r, rs, refl, u, gate, refl)), refl)

    all_calls : (t : History) → RecordCalls (journal_end guest m) (frame (body_of r)) true m.world t → Reaches guest supplied m record_calls (after_machine_call m r rs gate_sync t)
    all_calls t (mid, (a, wrote, synced), (b, gate, last)) = from_m record_calls (after_machine_call m r rs gate_sync t)
        (reaches-append guest supplied (at frame_write m.world) (at gate_sync b) (after_machine_call m r rs gate_sync t) (calls_before gate_sync) (makes gate_sync ∷ []) (made_gate a mid b wrote synced gate)
        (after_machine_call m r rs gate_sync t, (none, (works, r, rs, refl, t, last, refl)), refl))

    then_fails : (call : MachineCall) (s t : History) → From (calls_before call) (at call s) → CallLeaves guest (at call s) r call false t → CallFails guest supplied m r rs t
    then_fails call s t made leaves = (
      call,
      from_m (calls_before call ++ fails call ∷ []) (record (at call t) { stopped = true })
          (reaches-append guest supplied (at frame_write m.world) (at call s) (record (at call t) { stopped = true }) (calls_before call) (fails call ∷ []) made
          (record (at call t) { stopped = true }, failed call s t leaves, refl)),
    )

    failed_calls : (t : History) → RecordCalls (journal_end guest m) (frame (body_of r)) false m.world t → CallFails guest supplied m r rs t
    failed_calls t (inl (inl wrote)) = then_fails frame_write m.world t refl (room, wrote)
    failed_calls t (inl (inr (a, wrote, synced))) = then_fails frame_sync a t (made_frame a wrote) synced
    failed_calls t (inr (mid, (a, wrote, synced), inl gate)) = then_fails gate_write mid t (made_sync a mid wrote synced) gate
    failed_calls t (inr (mid, (a, wrote, synced), inr (b, gate, last))) = then_fails gate_sync b t (made_gate a mid b wrote synced gate) last

  module _ (before after : Journal) (added : List ℕ) (journal : IsJournalOf guest m before) (framed : added ≡ frame (body_of r)) where
    fits : before.end + length added ≤ before.room → RecordFits guest m r
    fits few = omega (arith, few, journal.small, journal.at_end, ap (λ (l : List ℕ). length l) framed)

    moved : (ok : Bool) (s t : History) → RecordCalls before.end added ok s t → RecordCalls (journal_end guest m) (frame (body_of r)) ok s t
    moved ok s t calls = subst (λ (n : ℕ). RecordCalls n (frame (body_of r)) ok s t) journal.at_end (subst (λ (l : List ℕ). RecordCalls before.end l ok s t) framed calls)

    pub append_events : (result : Result (Unit {0}) AppendFault) (t : History) → HasAppended before (length added) after result → AppendCalls before added result m.world t → AppendEvents guest supplied m r rs after result t
    append_events (Ok done_) t numbers calls = (
      all_calls (fits numbers.1) t (moved true m.world t calls),
      record {
        at_end = ap (λ (j : Journal). j.end) numbers.2 ∙ omega (arith, journal.at_end, ap (λ (l : List ℕ). length l) framed, length-journal-push guest m.records r);
        small = subst (λ (j : Journal). j.room ≤ MAX_JOURNAL_BYTES) (sym numbers.2) journal.small;
      },
    )
    append_events (Err appends.DiskFault) t numbers calls = failed_calls (fits numbers.1) t (moved false m.world t calls)
    append_events (Err (appends.Full at_ need)) t numbers calls = calls
    append_events (Err (appends.Failed last)) t numbers calls = calls

pub append_is_events : (guest : List ℕ) (supplied : Bool) (m : Machine) (before after : Journal) (added : List ℕ) (result : Result (Unit {0}) AppendFault) (t : History) → AppendIsEvents guest supplied m before after added result t
append_is_events guest supplied m before after added result t = λ r rs none works in_hand journal framed numbers calls.
    append_events guest supplied m r rs none works in_hand before after added journal framed result t numbers calls

-- ---- output

left-is : (bytes : List ℕ) (n : ℕ) → left_to_send bytes n ≡ drop n bytes
left-is bytes n = take_all (length bytes - n) (drop n bytes) (omega (arith, length-drop n bytes))

module _ (guest : List ℕ) (supplied : Bool) (m : Machine) (bytes : List ℕ) (none : m.left ≡ None) (works : m.stopped ≡ false) (unsent : output_of_runs m.written ≡ m.released ++ bytes) where
  -- once this number of bytes was sent
  abbrev sent_to : ℕ → History → Machine
  sent_to n t = record m { world = t; released = m.released ++ take n bytes }

  next_output : (n : ℕ) (t : History) → IsNextOutput (sent_to n t) (left_to_send bytes n)
  next_output n t = (
    [],
    unsent ∙ ap (λ (l : List ℕ). m.released ++ l) (sym (take-append-drop n bytes)) ∙ sym (append_assoc m.released (take n bytes) (drop n bytes))
        ∙ ap (λ (l : List ℕ). (m.released ++ take n bytes) ++ l) (sym (append-nil (left_to_send bytes n) ∙ left-is bytes n)),
  )

  more : (n k : ℕ) → (m.released ++ take n bytes) ++ take k (left_to_send bytes n) ≡ m.released ++ take (n + k) bytes
  more n k = append_assoc m.released (take n bytes) (take k (left_to_send bytes n))
      ∙ ap (λ (l : List ℕ). m.released ++ (take n bytes ++ take k l)) (left-is bytes n)
      ∙ ap (λ (l : List ℕ). m.released ++ l) (sym (take-add n k bytes))

  one : (n k : ℕ) (s t : History) → Emitted Out (left_to_send bytes n) (Ok k) s t → Step guest supplied (sent_to n s) (sends (left_to_send bytes n) k) (sent_to (n + k) t)
  one n k s t is = (none, (works, next_output n s, t, is, ap (λ (l : List ℕ). record m { world = t; released = l }) (sym (more n k))))

  emits : (n there : ℕ) (counts : List ℕ) (s t : History) → AreEmits Out bytes n counts there s t → Reaches guest supplied (sent_to n s) (pieces_of bytes n counts) (sent_to there t)
  emits n there [] s t is = ap (λ (k : ℕ). record m { world = t; released = m.released ++ take k bytes }) is.0 ∙ ap (λ (h : History). sent_to n h) is.1
  emits n there (k ∷ counts) s t is = (sent_to (n + k) is.0, one n k s is.0 is.1, emits (n + k) there counts is.0 t is.2)

  from_start : (events : List MachineEvent) (n : Machine) → Reaches guest supplied (sent_to 0 m.world) events n → Reaches guest supplied m events n
  from_start events n is = subst (λ (x : Machine). Reaches guest supplied x events n) (ap (λ (l : List ℕ). record m { released = l }) (append-nil m.released)) is

  failed_sent : (n : ℕ) (why : Failed) (s t : History) → Emitted Out (left_to_send bytes n) (Err why) s t → (count : ℕ) × (t.sent ≡ s.sent ++ take count (left_to_send bytes n))
  failed_sent n why s t (inl e) = (0, ap (λ (h : History). h.sent) e ∙ sym (append-nil s.sent))
  failed_sent n why s t (inr e) = (e.0, ap (λ (h : History). h.sent) e.1)

  pub send_events : (ok : Bool) (t : History) → SendCalls Out bytes ok m.world t → SendEvents guest supplied m bytes ok t
  send_events true t (counts, there, are, enough) = (
    counts,
    subst (λ (l : List ℕ). Reaches guest supplied m (pieces_of bytes 0 counts) (record m { world = t; released = m.released ++ l })) (take_all there bytes enough)
        (from_start (pieces_of bytes 0 counts) (sent_to there t) (emits 0 there counts m.world t are)),
  )
  send_events false t (counts, there, mid, are, why, failed_) =
      let some = failed_sent there why mid t failed_ in
      let last : Machine = record m { world = t; released = (m.released ++ take there bytes) ++ take some.0 (left_to_send bytes there); stopped = true } in (
        counts,
        left_to_send bytes there,
        there + some.0,
        subst (λ (l : List ℕ). Reaches guest supplied m (pieces_of bytes 0 counts ++ send_fails (left_to_send bytes there) ∷ []) (record m { world = t; released = l; stopped = true })) (more there some.0)
            (reaches-append guest supplied m (sent_to there mid) last (pieces_of bytes 0 counts) (send_fails (left_to_send bytes there) ∷ []) (from_start (pieces_of bytes 0 counts) (sent_to there mid) (emits 0 there counts m.world mid are))
            (last, (none, (works, next_output there mid, t, why, failed_, some.0, some.1, refl)), refl)),
      )

pub send_is_events : (guest : List ℕ) (supplied : Bool) (m : Machine) (bytes : List ℕ) (ok : Bool) (t : History) → SendIsEvents guest supplied m bytes ok t
send_is_events guest supplied m bytes ok t = λ none works unsent calls. send_events guest supplied m bytes none works unsent ok t calls

-- ---- a commit

module _ (guest : List ℕ) (supplied : Bool) (m : Machine) (r : EpochRun) (none : m.left ≡ None) (works : m.stopped ≡ false) (sent_all : m.released ≡ output_of_runs m.written)
    (in_hand : m.hand ≡ holds (record_of_run r) (r ∷ []) frame_write) where
  abbrev acknowledged : History → Machine
  acknowledged t = after_machine_call m (record_of_run r) (r ∷ []) gate_sync t

  output_is : output_of_runs (m.written ++ r ∷ []) ≡ m.released ++ r.out
  output_is = flat_map-append (λ (x : EpochRun). x.out) m.written (r ∷ []) ∙ ap (λ (l : List ℕ). l ++ output_of_runs (r ∷ [])) (sym sent_all) ∙ ap (λ (l : List ℕ). m.released ++ l) (append-nil r.out)

  module _ (before after : Journal) (added output : List ℕ) (journal : IsJournalOf guest m before) (framed : added ≡ frame (body_of (record_of_run r))) (out_is : output ≡ r.out) where
    abbrev appended : (result : Result (Unit {0}) AppendFault) (t : History) → HasAppended before (length added) after result → AppendCalls before added result m.world t → AppendEvents guest supplied m (record_of_run r) (r ∷ []) after result t
    appended = append_events guest supplied m (record_of_run r) (r ∷ []) none works in_hand before after added journal framed

    sent_after : (ok : Bool) (s t : History) → SendCalls Out output ok s t → SendEvents guest supplied (acknowledged s) r.out ok t
    sent_after ok s t calls = send_events guest supplied (acknowledged s) r.out none works output_is ok t (subst (λ (l : List ℕ). SendCalls Out l ok s t) out_is calls)

    pub commit_events : (result : Result (Unit {0}) CommitFault) (t : History) → HasCommitted before (length added) after result → CommitCalls before added output result m.world t → CommitEvents guest supplied m r after result t
    commit_events (Ok done_) t numbers (mid, calls, sends_) =
        let a = appended (Ok tt) mid numbers calls in
        let b = sent_after true mid t sends_ in (
          b.0,
          reaches-append guest supplied m (acknowledged mid) (after_commit m r r.out t) record_calls (pieces_of r.out 0 b.0) a.0 b.1,
          (works, refl, sym output_is),
          record { at_end = a.1.at_end; small = a.1.small },
        )
    commit_events (Err commits.OutputFault) t numbers (mid, calls, sends_) =
        let a = appended (Ok tt) mid numbers calls in
        let b = sent_after false mid t sends_ in
        (b.0, b.1, b.2, reaches-append guest supplied m (acknowledged mid) (record (after_commit m r (take b.2 r.out) t) { stopped = true }) record_calls (pieces_of r.out 0 b.0 ++ send_fails b.1 ∷ []) a.0 b.3)
    commit_events (Err commits.DiskFault) t numbers calls = appended (Err appends.DiskFault) t numbers calls
    commit_events (Err (commits.Full at_ need)) t numbers calls = calls
    commit_events (Err (commits.Failed last)) t numbers calls = calls

pub commit_is_events : (guest : List ℕ) (supplied : Bool) (m : Machine) (before after : Journal) (added output : List ℕ) (result : Result (Unit {0}) CommitFault) (t : History) → CommitIsEvents guest supplied m before after added output result t
commit_is_events guest supplied m before after added output result t = λ r none works sent_all in_hand journal framed out_is numbers calls.
    commit_events guest supplied m r none works sent_all in_hand before after added output journal framed out_is result t numbers calls
