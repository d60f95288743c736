-- A round of a recording: it begins, an epoch of it is committed, it is over, or it stops.
use Rattle.std.proofs.Common.{◌≡◌, inl, inr, ℕ, ◌+◌, ◌-◌, ◌<◌, ◌≤◌, Bool, true, false, if◌then◌else◌, List, [], ◌∷◌, ◌++◌, length, map, Option, Ok, Err, refl, sym, ap, subst, ◌∙◌, append_assoc, arith}
use Rattle.std.proofs.lemmas.List.{append-nil, length-append, length-map, map_push}
use Rattle.std.specs.List.{AllByRecursion, list_any}
use Rattle.commit_core.specs.declared.stage.Stage.{Stage}
use Rattle.commit_core.specs.declared.stage.Stage.TheVariants.{Judged, Taken}
use Rattle.commit_core.specs.JudgedRound.{IsRoundJudged, IsWithin, RoundEnd, used_up}
use Rattle.commit_core.specs.Judging.{Core, new_core}
use Rattle.disk_model.specs.History.{History}
use Rattle.disk_model.specs.Input.{Input}
use Rattle.disk_model.specs.Known.{IfKnown}
use Rattle.dp_base.specs.declared.slice.Slice.{Slice}
use Rattle.dp_base.specs.Journal as journals
use Rattle.dp_base.specs.Journal.{epoch_body, frame}
use Rattle.epoch_journal.specs.Standing.{Journal}
use Rattle.epoch_record.specs.Epoch.{epoch_of}
use Rattle.epoch_runner.specs.Answering.{can_step, input_due}
use Rattle.epoch_runner.specs.declared.epoch_run.EpochRun.{EpochRun}
use Rattle.epoch_runner.specs.declared.epoch_run.Ran.{Ran}
use Rattle.epoch_runner.specs.declared.epoch_run.Ran.TheVariants.{Epoch}
use Rattle.epoch_runner.specs.Running.{HasRunEpoch}
use Rattle.guest_kernel.specs.declared.state.State.{State}
use Rattle.guest_kernel.specs.State.{has_ended}
use Rattle.guest_kernel.specs.Threads.{is_running}
use Rattle.dp_base.specs.declared.limits.TheConstants.{EPOCH_END_BYTES, MAX_CALL_BYTES, MAX_JOBS, MAX_JOURNAL_BYTES}
use Rattle.journal_text.specs.Reading.{journal_of}
use Rattle.racing_runner.specs.declared.offer.Offer.{Offer}
use Rattle.racing_runner.specs.Offers.{Tells}
use Rattle.recorder.specs.declared.options.Options.{Options}
use Rattle.recorder.specs.Committing.{Committed, HasCommitted}
use Rattle.recorder.specs.declared.commit.CommitFault.{CommitFault}
use Rattle.recorder.specs.declared.commit.CommitFault.TheVariants as commits
use Rattle.recorder.specs.declared.record_fault.RecordFault.{RecordFault}
use Rattle.recorder.specs.declared.record_fault.RecordFault.TheVariants as faults
use Rattle.recorder.specs.declared.tally.Tally.{Tally}
use Rattle.recorder.specs.Drawing.{RoundInput, Drew, HaveRead, Round, answers_in, round_inputs_of, epochs_of_rounds, supply_after, supply_of}
use Rattle.recorder.specs.EpochLaws.{EpochLaws}
use Rattle.recorder.specs.Faults.{RecordMetNoOther, of_commit}
use Rattle.recorder.specs.Keeping.{InRound, IsOver, IsSince, IsStopped, Kept, Setting, SoFar, Within}
use Rattle.recorder.specs.Machine.{epochs_of_runs}
use Rattle.recorder.specs.Racing.{AreResults, IsRaced, job_bounds}
use Rattle.recorder.specs.Marking.{IsMarkDue, is_due, mark_of, records_of, records_unmarked}
use Rattle.checkpoint.specs.State.{IsEncodable, checkpoint_of}
use Rattle.partial_mark.specs.Base.{partial_of}
use Rattle.partial_mark.specs.Partial.{IsPartial, Partial, partial_bytes}
use Rattle.journal_text.specs.Records.{Record, body_of}
use Rattle.epoch_journal.specs.Appending.{HasAppended, RecordWritten}
use Rattle.epoch_journal.specs.declared.append.AppendFault.TheVariants as appends
use Rattle.recorder.specs.Moments.{EachMoment}
use Rattle.dp_base.specs.declared.limits.TheConstants.{MAX_BODY_BYTES}
use Rattle.recorder.specs.Recording.{FitsWithin, IsRecorded, IsRound, NextEpoch, Recorded, RunOn, round_inputs, epochs, thread_after, first_next, is_squash, supply}
use Rattle.recorder.proofs.Drawings.{TakeLaws}
use Rattle.recorder.proofs.JobRuns.{cancel, commits_one, front_results, judged_links, next_run, same_end, some_results, starts_there}
use Rattle.recorder.proofs.Keeps.{encodable_there, HasDrawnRound, commit_failed_moments, cut_off, drawn_epoch, drawn_still, fits_still, interrupted, kept_committed, kept_drawn, kept_marked, last_drawn, low, mark_due, mark_interrupted, marking_moments, may_go_on, moments_now, not_added, not_due, round_goes, round_of, since_next, size_marked, size_more, steps_more}
use Rattle.recorder.proofs.RunLists.{draws-push, each-push, epochs-push, few_squashes, squashes-push, supply-push}
use Rattle.recorder.proofs.Stops.{run_so_far}
use Rattle.supply.specs.Supplied.{IsSupply, Supplied, empty, end_of, refilled}
use Rattle.supply.specs.declared.TheConstants.{MAX_ROOM}
use Rattle.sync_hints.specs.declared.hints.Hints.{Hints}

-- ---- what the laws of the crates below say of a round's beginning

pub record StepLaws : Type 0 where
  pub ready : (s : State) (w : Supplied) → has_ended s.end ≡ false → list_any is_running s.threads ≡ true → input_due s w ≡ false → can_step s w ≡ true
  pub used_up : (s : State) (w : Supplied) → IsSupply w → w.place ≤ s.input → s.input ≤ end_of w → input_due s w ≡ true → (s.input ≡ end_of w) × (w.ended ≡ false)
  pub refilled_ : (s : State) (w : Supplied) (bytes : List ℕ) (stamp : ℕ) → w.place ≤ s.input → s.input ≤ end_of w → input_due s w ≡ true → can_step s (record (refilled bytes w) { stamp = stamp }) ≡ true
  pub stamped : (s : State) (w : Supplied) (stamp : ℕ) → can_step s (record w { stamp = stamp }) ≡ can_step s w

abbrev pub Starts : Type 0
Starts = (s : State) (results : List Ran) (core : Core) → core.committed ≡ s → core.jobs ≡ map Taken results → core.judged ≡ 0 → core.closed ≡ false → IsWithin s results [] core

-- ---- the results that were taken so far

-- this, and what holds of its offers
abbrev pub RacedWith : Tells → Options → ℕ → State → Supplied → List Ran → Tells → (List Offer → Type 0) → Type 0
RacedWith racer options first s w results after P = (raced : IsRaced racer options first s w results after) × P raced.offers

abbrev pub IsAll : Type 0 → List Ran → List Offer → Type 0
IsAll A results offers = A → length results ≡ length offers + 1

abbrev pub raced_here : (marked : Bool) (a : InRound) (now : Option History) (core : Core) (j : Journal) (tally : Tally) (within : Within marked a now core j tally)
    → IsRaced within.run.racer a.setting.options (first_next within.run) within.run.end a.supply within.results a.racer
raced_here marked a now core j tally within = record {
  offers = within.raced.offers;
  told = within.raced.told;
  same = within.raced.same;
  few = within.raced.few;
  are_results = front_results a.setting.options (first_next within.run) within.run.end within.raced.offers a.supply within.results within.coming
      (subst (λ (l : List Ran). AreResults a.setting.options (first_next within.run) within.run.end within.raced.offers a.supply l) within.all within.raced.are_results);
}

-- the committed epochs are a run, which goes on
abbrev pub run_on : (marked : Bool) (a : InRound) (now : Option History) (core : Core) (j : Journal) (tally : Tally) → Within marked a now core j tally → RunOn a.setting.tells a.setting.options a.setting.start
run_on marked a now core j tally within = record {
  run = within.run;
  goes_on = within.goes_on;
  draw = within.draw;
  due = within.due;
  results = within.results;
  after = a.racer;
  raced = subst (λ (x : Supplied). IsRaced within.run.racer a.setting.options (first_next within.run) within.run.end x within.results a.racer) within.supply_is (raced_here marked a now core j tally within);
  runs = within.runs;
  rest = within.judged.rest;
  all = within.judged.all;
  end = core.committed;
  linked = within.judged.linked;
  output = within.output;
  chained = within.kept.chained;
}

-- ---- a round begins

pub begins : (a : Setting) (there later : Option Input) (now : Option History) (racer after : Tells) (state : State) (w with_ : Supplied) (j : Journal) (tally : Tally) (count : ℕ) (so_far : SoFar a there now racer state w j tally count)
    → TakeLaws → HasDrawnRound w state there later with_ → has_ended state.end ≡ false → state.steps < a.options.limit → can_step state with_ ≡ true → (results : List Ran) (whole : Bool)
    → RacedWith racer a.options tally.first state with_ results after (IsAll (whole ≡ true) results) → (core : Core) → IsWithin state [] [] core → core.committed ≡ state
    → Within true (record { setting = a; later = later; racer = after; supply = with_; from = state; squashes = count; results = results; whole = whole }) now core j tally
begins a there later now racer after state w with_ j tally count so_far laws round going left can results whole raced core judged at_start =
    let here = subst (λ (n : ℕ). RacedWith racer a.options n state with_ results after (IsAll (whole ≡ true) results)) so_far.kept.first_is raced in
    let run_ = run_so_far a there now racer state w j tally count so_far in
    let kept = kept_drawn a there now (records_of a.options a.start (epochs_of_rounds so_far.rounds)) (epochs_of_rounds so_far.rounds) (round_inputs_of so_far.rounds) so_far.output state w j tally so_far.kept laws later with_ round in
    record {
      run = run_;
      from_is = refl;
      squashes_is = so_far.squashes_is;
      goes_on = (going, left);
      draw = round.draw;
      due = round.due ∙ ap (input_due state) so_far.supply_is;
      supply_is = round.is ∙ ap (λ (x : Supplied). supply_of x round.draw) so_far.supply_is;
      can = can;
      results = [];
      coming = results;
      all = refl;
      raced = here.0;
      full = here.1;
      runs = [];
      judged = judged;
      output = so_far.output;
      since_is = subst (λ (l : List journals.Epoch). IsSince true a l core.committed tally.since tally.base) (sym (append-nil (epochs_of_rounds so_far.rounds))) so_far.since_is;
      kept = subst (λ (l : List journals.Epoch). Kept a later now (records_of a.options a.start l) l (round_inputs_of so_far.rounds ++ round.draw ∷ []) so_far.output core.committed with_ j tally) (sym (append-nil (epochs_of_rounds so_far.rounds)))
          (subst (λ (s : State). Kept a later now (records_of a.options a.start (epochs_of_rounds so_far.rounds)) (epochs_of_rounds so_far.rounds) (round_inputs_of so_far.rounds ++ round.draw ∷ []) so_far.output s with_ j tally) (sym at_start) kept);
      last = last_drawn a there now (records_of a.options a.start (epochs_of_rounds so_far.rounds)) (epochs_of_rounds so_far.rounds) (round_inputs_of so_far.rounds) so_far.output state w j tally so_far.kept laws later with_ round;
      longer = omega (arith, ap (λ (s : State). s.steps) at_start);
    }

module _ (laws : StepLaws) (a : Setting) (there later : Option Input) (now : Option History) (racer : Tells) (state : State) (w with_ : Supplied) (j : Journal) (tally : Tally) (count : ℕ) (so_far : SoFar a there now racer state w j tally count)
    (drew : (d : RoundInput) × (d.due ≡ input_due state w) × (with_ ≡ supply_of w d) × IfKnown (Drew d) there later) (is_supply : IsSupply with_) where
  abbrev pub drawn_by : HasDrawnRound w state there later with_
  drawn_by = round_of w state there later with_ drew (laws.used_up state w so_far.kept.is_supply so_far.kept.placed so_far.kept.inside) is_supply

  pub begins_by : TakeLaws → Starts → has_ended state.end ≡ false → state.steps < a.options.limit → (after : Tells) (results : List Ran) (whole : Bool)
      → RacedWith racer a.options tally.first state with_ results after (IsAll (whole ≡ true) results) → (core : Core) → core ≡ new_core state MAX_JOBS
      → Within true (record { setting = a; later = later; racer = after; supply = with_; from = state; squashes = count; results = results; whole = whole }) now core j tally
  begins_by takes starts going left after results whole raced core core_is =
      let kept = so_far.kept in
      let can = round_goes state w there later with_ drawn_by (laws.ready state w going (kept.goes_on.runs going))
      (λ more stamp due. laws.refilled_ state w more stamp kept.placed kept.inside due) (λ stamp. laws.stamped state w stamp) in
      let at_start : core.committed ≡ state = ap (λ (c : Core). c.committed) core_is in
      let judged = starts state [] core at_start (ap (λ (c : Core). c.jobs) core_is) (ap (λ (c : Core). c.judged) core_is) (ap (λ (c : Core). c.closed) core_is) in
      begins a there later now racer after state w with_ j tally count so_far takes drawn_by going left can results whole raced core judged at_start

-- the faults of a round's commits are those of the recording
pub met_same : (A B : Type 0) (e : RecordFault) (disk d disk_after sink s sink_after other input input_after : ℕ) → d ≡ disk → s ≡ sink → input_after ≡ input → RecordMetNoOther {A = A} (Err e) d disk_after s sink_after other other
    → RecordMetNoOther {A = B} (Err e) disk disk_after sink sink_after input input_after
met_same A B faults.DiskFault disk d disk_after sink s sink_after other input input_after same_disk same_sink same_input met = (met.0 ∙ same_sink, same_input)
met_same A B faults.OutputFault disk d disk_after sink s sink_after other input input_after same_disk same_sink same_input met = (met.0 ∙ same_disk, same_input)
met_same A B faults.InputFault disk d disk_after sink s sink_after other input input_after same_disk same_sink same_input met = (met.0 ∙ same_disk, met.1 ∙ same_sink)
met_same A B (faults.JournalInUse len) disk d disk_after sink s sink_after other input input_after same_disk same_sink same_input met = (met.0 ∙ same_disk, met.1 ∙ same_sink, same_input)
met_same A B (faults.StepLimit steps) disk d disk_after sink s sink_after other input input_after same_disk same_sink same_input met = (met.0 ∙ same_disk, met.1 ∙ same_sink, same_input)
met_same A B (faults.JournalFull end need) disk d disk_after sink s sink_after other input input_after same_disk same_sink same_input met = (met.0 ∙ same_disk, met.1 ∙ same_sink, same_input)
met_same A B faults.OutOfMemory disk d disk_after sink s sink_after other input input_after same_disk same_sink same_input met = (met.0 ∙ same_disk, met.1 ∙ same_sink, same_input)

-- with what was squashed so far another may be counted
pub squashes_fit : (a : Setting) (there : Option Input) (now : Option History) (racer : Tells) (state : State) (w : Supplied) (j : Journal) (tally : Tally) (count : ℕ) → SoFar a there now racer state w j tally count → count < MAX_JOURNAL_BYTES
squashes_fit a there now racer state w j tally count so_far =
    let few = few_squashes a.options a.tells racer 1 a.start state (empty MAX_ROOM) so_far.rounds so_far.each in
    omega (arith, few, so_far.squashes_is, so_far.kept.count, so_far.kept.few, so_far.kept.fits, so_far.kept.room_is, a.options.room_range)

module _ (a : InRound) (now : Option History) (core : Core) (j : Journal) (tally : Tally) (within : Within true a now core j tally) where
  abbrev E : List journals.Epoch
  E = epochs within.run ++ epochs_of_runs within.runs

  abbrev D : List RoundInput
  D = round_inputs within.run ++ within.draw ∷ []

  abbrev K : List Record
  K = records_of a.setting.options a.setting.start E

  room_here : FitsWithin a.setting.guest a.setting.options K
  room_here = fits_still a.setting a.later now K E D within.output core.committed a.supply j tally within.kept

  -- memory ran out
  pub no_memory : IsStopped a now faults.OutOfMemory
  no_memory = (
    inr (inr (run_on true a now core j tally within, room_here, drawn_still a.setting a.later now K E D within.output core.committed a.supply j tally within.kept, within.kept.history)),
    moments_now a.setting a.later now K E D within.output core.committed a.supply j tally within.kept a.later refl,
  )

  -- ---- it is over

  module _ (there : Core) (stop : RoundEnd) (judged : IsRoundJudged within.run.end within.results within.runs there.committed stop) (all : IsAll (stop ≡ used_up) within.results within.raced.offers) where
    stays : core.committed ≡ there.committed
    stays = same_end within.run.end core.committed there.committed within.runs within.judged.linked (judged_links within.run.end there.committed within.results within.runs stop judged)

    one : 0 < length within.runs
    one = commits_one a.setting.options within.run.end a.supply within.goes_on within.can (first_next within.run) within.raced.offers within.results within.runs there.committed stop (raced_here true a now core j tally within).are_results
        (some_results within.run.end there.committed within.results within.runs stop judged (λ up. (let count = all up in omega (arith, count)))) judged

    abbrev round_is : Round
    round_is = record { draw = within.draw; epochs = epochs_of_runs within.runs; squashed = is_squash stop }

    both : RacedWith within.run.racer a.setting.options (first_next within.run) within.run.end (supply_of (supply within.run) within.draw) within.results a.racer (IsAll (stop ≡ used_up) within.results)
    both = subst (λ (x : Supplied). RacedWith within.run.racer a.setting.options (first_next within.run) within.run.end x within.results a.racer (IsAll (stop ≡ used_up) within.results)) within.supply_is (raced_here true a now core j tally within, all)

    is_round : IsRound within.run.racer a.setting.options (first_next within.run) within.run.end (supply_of (supply within.run) within.draw) round_is there.committed a.racer
    is_round = record {
      results = within.results;
      raced = both.0;
      runs = within.runs;
      stop = stop;
      judged = judged;
      all = both.1;
      some = one;
      epochs_are = refl;
      squashed_is = refl;
    }

    rounds_are : epochs_of_rounds (within.run.rounds ++ round_is ∷ []) ≡ E
    rounds_are = epochs-push within.run.rounds round_is

    kept_there : Kept a.setting a.later now (records_of a.setting.options a.setting.start (epochs_of_rounds (within.run.rounds ++ round_is ∷ []))) (epochs_of_rounds (within.run.rounds ++ round_is ∷ [])) (round_inputs_of (within.run.rounds ++ round_is ∷ [])) within.output there.committed a.supply j tally
    kept_there =
        subst (λ (s : State). Kept a.setting a.later now (records_of a.setting.options a.setting.start (epochs_of_rounds (within.run.rounds ++ round_is ∷ []))) (epochs_of_rounds (within.run.rounds ++ round_is ∷ [])) (round_inputs_of (within.run.rounds ++ round_is ∷ [])) within.output s a.supply j tally) stays
        (subst (λ (l : List RoundInput). Kept a.setting a.later now (records_of a.setting.options a.setting.start (epochs_of_rounds (within.run.rounds ++ round_is ∷ []))) (epochs_of_rounds (within.run.rounds ++ round_is ∷ [])) l within.output core.committed a.supply j tally) (sym (draws-push within.run.rounds round_is))
        (subst (λ (l : List journals.Epoch). Kept a.setting a.later now (records_of a.setting.options a.setting.start l) l D within.output core.committed a.supply j tally) (sym rounds_are) within.kept))

    pub is_over : IsOver a (a.squashes + (if is_squash stop then 1 else 0)) now there j tally
    is_over = (
      record {
        rounds = within.run.rounds ++ round_is ∷ [];
        output = within.output;
        each = each-push a.setting.options a.setting.tells within.run.racer a.racer 1 a.setting.start within.run.end there.committed (empty MAX_ROOM) within.run.rounds round_is within.run.each within.goes_on within.due is_round;
        supply_is = within.supply_is ∙ sym (supply-push (empty MAX_ROOM) (round_inputs_of within.run.rounds) within.draw) ∙ ap (supply_after (empty MAX_ROOM)) (sym (draws-push within.run.rounds round_is));
        squashes_is = omega (arith, within.squashes_is, squashes-push within.run.rounds round_is);
        since_is = subst (λ (l : List journals.Epoch). IsSince true a.setting l there.committed tally.since tally.base) (sym rounds_are) within.since_is;
        kept = kept_there;
      },
      omega (arith, one, within.longer, ap (λ (s : State). s.steps) within.from_is, ap (λ (s : State). s.steps) stays),
    )

  -- ---- the next result is an epoch from where the last one ended

  module _ (laws : EpochLaws) (r : EpochRun) (there : Core) (next : IsWithin within.run.end within.results (within.runs ++ r ∷ []) there) (ends : there.committed ≡ r.end) where
    rest_is : within.judged.rest ≡ Epoch r ∷ next.rest
    rest_is = cancel within.runs r within.judged.rest next.rest (sym within.judged.all ∙ next.all)

    starts : r.start ≡ core.committed
    starts = starts_there within.run.end there.committed core.committed within.runs r next.linked within.judged.linked

    abbrev job : (f : ℕ) × (hints : Hints) × HasRunEpoch core.committed hints a.supply (job_bounds a.setting.options f core.committed) r
    job = next_run a.setting.options (first_next within.run) within.run.end within.raced.offers a.supply within.runs r next.rest core.committed
        (subst (λ (l : List Ran). AreResults a.setting.options (first_next within.run) within.run.end within.raced.offers a.supply l) (within.judged.all ∙ ap (λ (l : List Ran). map Epoch within.runs ++ l) rest_is) (raced_here true a now core j tally within).are_results) starts

    abbrev e : journals.Epoch
    e = epoch_of r.epoch

    pub few_written : length r.out < EPOCH_END_BYTES + MAX_CALL_BYTES
    few_written = laws.writes core.committed job.1 a.supply (job_bounds a.setting.options job.0 core.committed) e r.out r.end job.2.scheduled

    pub low_here : AllByRecursion (λ (x : Slice). x.tid.0 < 65535) e.slices
    low_here = low a.setting a.later now E D within.output core.committed a.supply j tally within.kept laws within.last job.0 job.1 r job.2

    abbrev on : RunOn a.setting.tells a.setting.options a.setting.start
    on = run_on true a now core j tally within

    abbrev next_one : NextEpoch on
    next_one = record {
      goes_on = may_go_on a.setting a.later now E D within.output core.committed a.supply j tally within.kept laws within.last job.0 job.1 r job.2;
      run = r;
      more = next.rest;
      next = rest_is;
      starts = starts;
    }

    module _ (added : List ℕ) (framed : added ≡ frame (epoch_body e)) (j' : Journal) (behind : Option History) where
      size_is : length (journal_of a.setting.guest (records_unmarked a.setting.options a.setting.start (E ++ e ∷ []))) ≡ length (journal_of a.setting.guest K) + length (frame (epoch_body e))
      size_is = size_more a.setting a.later now E D within.output core.committed a.supply j tally within.kept laws within.last job.0 job.1 r job.2

      -- it wasn't committed, or not sent whole
      failed : (fault : CommitFault) → HasCommitted j (length added) j' (Err fault) → IfKnown (Committed j added r.out (Err fault)) now behind
          → Recorded a.setting.guest a.setting.tells a.setting.start a.setting.options a.setting.given a.later a.setting.before behind (Err (of_commit fault))
      failed commits.DiskFault numbers known = inr (inl (
        on,
        next_one,
        omega (arith, numbers.1, size_is, within.kept.place_is, within.kept.room_is, ap (λ (l : List ℕ). length l) framed),
        drawn_still a.setting a.later now K E D within.output core.committed a.supply j tally within.kept,
        interrupted a.setting a.later now E D within.output core.committed a.supply j tally within.kept laws within.last job.0 job.1 r job.2 added framed j' behind known,
      ))
      failed (commits.Full end_ need) numbers known = inr (inl (
        on,
        next_one,
        room_here,
        numbers.1 ∙ within.kept.place_is,
        numbers.2 ∙ ap (λ (l : List ℕ). length l) framed,
        omega (arith, numbers.1, numbers.2, numbers.3, within.kept.room_is),
        drawn_still a.setting a.later now K E D within.output core.committed a.supply j tally within.kept,
        not_added a.setting a.later now E D within.output core.committed a.supply j tally within.kept laws within.last job.0 job.1 r job.2 added framed j' behind end_ need known,
      ))
      failed (commits.Failed last_) numbers known = absurd (let bad = sym numbers.0 ∙ within.kept.works in cc)
      failed commits.OutputFault numbers known = inl (
        on,
        next_one,
        omega (arith, numbers.1, size_is, within.kept.place_is, within.kept.room_is, ap (λ (l : List ℕ). length l) framed),
        drawn_epoch a.setting a.later now E D within.output core.committed a.supply j tally within.kept laws within.last job.0 job.1 r job.2,
        cut_off a.setting a.later now E D within.output core.committed a.supply j tally within.kept laws within.last job.0 job.1 r job.2 added framed j' behind known,
      )

      pub commit_failed : (fault : CommitFault) → HasCommitted j (length added) j' (Err fault) → IfKnown (Committed j added r.out (Err fault)) now behind → IsStopped a behind (of_commit fault)
      commit_failed fault numbers known = (
        failed fault numbers known,
        commit_failed_moments a.setting a.later now E D within.output core.committed a.supply j tally within.kept laws within.last job.0 job.1 r job.2 added framed j' behind fault numbers known,
      )

      epochs_more : E ++ e ∷ [] ≡ epochs within.run ++ epochs_of_runs (within.runs ++ r ∷ [])
      epochs_more = append_assoc (epochs within.run) (epochs_of_runs within.runs) (e ∷ []) ∙ ap (λ (l : List journals.Epoch). epochs within.run ++ l) (sym (map_push (λ (x : EpochRun). epoch_of x.epoch) within.runs r))

      -- it was
      pub committed : 0 < length added → HasCommitted j (length added) j' (Ok tt) → IfKnown (Committed j added r.out (Ok tt)) now behind → (tally' : Tally)
          → tally'.first ≡ thread_after tally.first e.slices → tally'.epochs ≡ tally.epochs + 1 → tally'.sent ≡ tally.sent + length r.out → tally'.since ≡ tally.since + 1 → tally'.base ≡ tally.base → Within false a behind there j' tally'
      committed some numbers known tally' first_is epochs_are sent_is grown base_is =
          let kept = kept_committed a.setting a.later now E D within.output core.committed a.supply j tally within.kept laws within.last job.0 job.1 r job.2 added framed j' behind some numbers known tally' first_is epochs_are sent_is grown base_is in
          let since = since_next a.setting a.later now E D within.output core.committed a.supply j tally within.kept laws within.last job.0 job.1 r job.2 added framed j' behind within.since_is tally' grown base_is in
          let more = steps_more a.setting a.later now E D within.output core.committed a.supply j tally within.kept laws within.last job.0 job.1 r job.2 in
          record {
            run = within.run;
            from_is = within.from_is;
            squashes_is = within.squashes_is;
            goes_on = within.goes_on;
            draw = within.draw;
            due = within.due;
            supply_is = within.supply_is;
            can = within.can;
            results = within.results;
            coming = within.coming;
            all = within.all;
            raced = within.raced;
            full = within.full;
            runs = within.runs ++ r ∷ [];
            judged = next;
            output = within.output ++ r.out;
            since_is = subst (λ (s : State). IsSince false a.setting (epochs within.run ++ epochs_of_runs (within.runs ++ r ∷ [])) s tally'.since tally'.base) (sym ends)
                (subst (λ (l : List journals.Epoch). IsSince false a.setting l r.end tally'.since tally'.base) epochs_more since);
            kept = subst (λ (s : State). Kept a.setting a.later behind (records_unmarked a.setting.options a.setting.start (epochs within.run ++ epochs_of_runs (within.runs ++ r ∷ []))) (epochs within.run ++ epochs_of_runs (within.runs ++ r ∷ [])) D (within.output ++ r.out) s a.supply j' tally') (sym ends)
                (subst (λ (l : List journals.Epoch). Kept a.setting a.later behind (records_unmarked a.setting.options a.setting.start l) l D (within.output ++ r.out) r.end a.supply j' tally') epochs_more kept);
            last = within.last;
            longer = omega (arith, within.longer, more, ap (λ (s : State). s.steps) ends, length-append within.runs (r ∷ []));
          }

-- ---- the mark after the last epoch

module _ (a : InRound) (now : Option History) (core : Core) (j : Journal) (tally : Tally) (within : Within false a now core j tally) where
  abbrev committed_epochs : List journals.Epoch
  committed_epochs = epochs within.run ++ epochs_of_runs within.runs

  abbrev drawn : List RoundInput
  drawn = round_inputs within.run ++ within.draw ∷ []

  abbrev bare : List Record
  bare = records_unmarked a.setting.options a.setting.start committed_epochs

  -- with another tally, journal and history
  module _ (j' : Journal) (tally' : Tally) (behind : Option History)
      (kept : IsSince true a.setting committed_epochs core.committed tally'.since tally'.base × Kept a.setting a.later behind (records_of a.setting.options a.setting.start committed_epochs) committed_epochs drawn within.output core.committed a.supply j' tally') where
    marked_within : Within true a behind core j' tally'
    marked_within = record {
      run = within.run;
      from_is = within.from_is;
      squashes_is = within.squashes_is;
      goes_on = within.goes_on;
      draw = within.draw;
      due = within.due;
      supply_is = within.supply_is;
      can = within.can;
      results = within.results;
      coming = within.coming;
      all = within.all;
      raced = within.raced;
      full = within.full;
      runs = within.runs;
      judged = within.judged;
      output = within.output;
      since_is = kept.0;
      kept = kept.1;
      last = within.last;
      longer = within.longer;
    }

  pub no_mark : is_due a.setting.options.mark tally.since core.committed ≡ false → Within true a now core j tally
  no_mark none = marked_within j tally now (not_due a.setting a.later now committed_epochs drawn within.output core.committed a.supply j tally within.kept within.since_is none)

  module _ (due : is_due a.setting.options.mark tally.since core.committed ≡ true) (added : List ℕ) (framed : added ≡ frame (body_of (mark_of tally.base core.committed))) (short : (m : Partial) → IsPartial m → length (partial_bytes m) < MAX_BODY_BYTES) (behind : Option History) where
    abbrev at_mark : RunOn a.setting.tells a.setting.options a.setting.start
    at_mark = run_on false a now core j tally within

    abbrev due_here : Partial
    due_here = partial_of (checkpoint_of tally.base) (checkpoint_of core.committed)

    is_mark_due : IsMarkDue a.setting.options a.setting.start committed_epochs due_here
    is_mark_due = mark_due a.setting a.later now committed_epochs drawn within.output core.committed a.supply j tally within.kept within.since_is due added framed short behind

    marked_size : length (journal_of a.setting.guest (records_of a.setting.options a.setting.start committed_epochs)) ≡ length (journal_of a.setting.guest bare) + length (frame (body_of (mark_of tally.base core.committed)))
    marked_size = size_marked a.setting a.later now committed_epochs drawn within.output core.committed a.supply j tally within.kept within.since_is due added framed short behind

    drawn_there : IfKnown (HaveRead drawn (answers_in committed_epochs)) a.setting.given a.later
    drawn_there = drawn_still a.setting a.later now bare committed_epochs drawn within.output core.committed a.supply j tally within.kept

    pub mark_lost : (j' : Journal) → HasAppended j (length added) j' (Err appends.DiskFault) → IfKnown (RecordWritten j.end added false) now behind → IsStopped a behind faults.DiskFault
    mark_lost j' numbers known = (
      inr (inr (
        at_mark,
        due_here,
        is_mark_due,
        omega (arith, numbers.1, marked_size, within.kept.place_is, within.kept.room_is, ap (λ (l : List ℕ). length l) framed),
        drawn_there,
        mark_interrupted a.setting a.later now committed_epochs drawn within.output core.committed a.supply j tally within.kept within.since_is due added framed short behind known,
      )),
      marking_moments a.setting a.later now committed_epochs drawn within.output core.committed a.supply j tally within.kept within.since_is due added framed short behind known,
    )

    pub mark_without_room : (j' : Journal) (end_ need : ℕ) → HasAppended j (length added) j' (Err (appends.Full end_ need)) → behind ≡ now → IsStopped a behind (faults.JournalFull end_ need)
    mark_without_room j' end_ need numbers same = (
      inr (inr (
        at_mark,
        due_here,
        is_mark_due,
        fits_still a.setting a.later now bare committed_epochs drawn within.output core.committed a.supply j tally within.kept,
        numbers.1 ∙ within.kept.place_is,
        numbers.2 ∙ ap (λ (l : List ℕ). length l) framed,
        omega (arith, numbers.1, numbers.2, numbers.3, within.kept.room_is),
        drawn_there,
        subst (λ (h : Option History). IfKnown (IsRecorded a.setting.guest bare within.output []) a.setting.before h) (sym same) within.kept.history,
      )),
      subst (λ (h : Option History). EachMoment a.setting.guest a.setting.options.mark a.setting.start a.setting.given a.later a.setting.before h) (sym same)
          (moments_now a.setting a.later now bare committed_epochs drawn within.output core.committed a.supply j tally within.kept a.later refl),
    )

    pub was_marked : (j' : Journal) → HasAppended j (length added) j' (Ok tt) → IfKnown (RecordWritten j.end added true) now behind → (tally' : Tally) → tally'.first ≡ tally.first → tally'.epochs ≡ tally.epochs
        → tally'.sent ≡ tally.sent → tally'.since ≡ 0 → tally'.base ≡ core.committed → Within true a behind core j' tally'
    was_marked j' numbers known tally' first_is epochs_are sent_is since_is base_is =
        marked_within j' tally' behind (kept_marked a.setting a.later now committed_epochs drawn within.output core.committed a.supply j tally within.kept within.since_is due added framed short behind j' numbers known tally' first_is epochs_are sent_is since_is base_is)
