-- A recording between two rounds stops, or its guest has ended.
use Rattle.std.proofs.Common.{◌≡◌, inl, inr, ℕ, ◌<◌, ◌≤◌, true, false, List, [], ◌∷◌, ◌++◌, take, Option, Result, Ok, Err, refl, sym, ap, subst, ◌∙◌, arith}
use Rattle.std.proofs.lemmas.List.{append-nil, take_all}
use Rattle.device.specs.Sending.{Sent}
use Rattle.device.proofs.Notes.{noted-too}
use Rattle.disk_model.specs.declared.world.Stream.TheVariants.{Note}
use Rattle.disk_model.specs.History.{History}
use Rattle.disk_model.specs.Input.{Input}
use Rattle.disk_model.specs.Known.{IfKnown}
use Rattle.disk_model.specs.Moments.{Always}
use Rattle.disk_model.proofs.Knowing.{known-then}
use Rattle.dp_base.specs.Journal.{Epoch}
use Rattle.dp_report.specs.declared.report.Report.{Report}
use Rattle.dp_report.specs.Texts.{report_line}
use Rattle.epoch_journal.specs.Standing.{Journal}
use Rattle.epoch_runner.specs.Answering.{input_due}
use Rattle.guest_kernel.specs.declared.state.State.{State}
use Rattle.guest_kernel.specs.State.{has_ended}
use Rattle.racing_runner.specs.Offers.{Tells}
use Rattle.recorder.specs.declared.record_fault.RecordFault.{RecordFault}
use Rattle.recorder.specs.declared.record_fault.RecordFault.TheVariants as faults
use Rattle.recorder.specs.declared.tally.Tally.{Tally}
use Rattle.recorder.specs.Drawing.{HaveRead, answers_in, round_inputs_of, epochs_of_rounds}
use Rattle.recorder.specs.Keeping.{Setting, SoFar}
use Rattle.recorder.specs.Moments.{EachMoment, HoldsAt}
use Rattle.recorder.specs.Recording.{RunMayHaveReadMore, FitsWithin, IsRecorded, Recorded, Run, reported}
use Rattle.recorder.specs.Report.{HasSentReport, IsReportSent, report_at}
use Rattle.journal_text.specs.Records.{Record}
use Rattle.recorder.specs.Marking.{records_of}
use Rattle.recorder.proofs.Drawings.{TakeLaws}
use Rattle.recorder.proofs.Keeps.{HasDrawnRound, drawn_still, fits_still, kept_drawn, moments_now}
use Rattle.supply.specs.Supplied.{Supplied}

module _ (a : Setting) (there : Option Input) (now : Option History) (racer : Tells) (state : State) (w : Supplied) (j : Journal) (tally : Tally) (squashes : ℕ) (so_far : SoFar a there now racer state w j tally squashes) where
  abbrev E : List Epoch
  E = epochs_of_rounds so_far.rounds

  abbrev K : List Record
  K = records_of a.options a.start E

  abbrev pub run_so_far : Run a.tells a.options a.start
  run_so_far = record {
    rounds = so_far.rounds;
    end = state;
    racer = racer;
    output = so_far.output;
    chained = so_far.kept.chained;
    each = so_far.each;
    counted = so_far.kept.counted;
  }

  fits : FitsWithin a.guest a.options K
  fits = fits_still a there now K E (round_inputs_of so_far.rounds) so_far.output state w j tally so_far.kept

  drawn : IfKnown (HaveRead (round_inputs_of so_far.rounds) (answers_in E)) a.given there
  drawn = drawn_still a there now K E (round_inputs_of so_far.rounds) so_far.output state w j tally so_far.kept

  no_more : RunMayHaveReadMore run_so_far a.given there
  no_more = inl drawn

  -- every moment so far
  pub still_moments : (later : Option Input) → later ≡ there → EachMoment a.guest a.options.mark a.start a.given later a.before now
  still_moments later same = moments_now a there now K E (round_inputs_of so_far.rounds) so_far.output state w j tally so_far.kept later same

  pub step_limit : has_ended state.end ≡ false → a.options.limit ≤ state.steps → Recorded a.guest a.tells a.start a.options a.given there a.before now (Err (faults.StepLimit state.steps))
  step_limit going reached = (run_so_far, going, refl, omega (arith, reached, so_far.kept.counted), fits, drawn, so_far.kept.history)

  pub input_fault : (later : Option Input) → has_ended state.end ≡ false → state.steps < a.options.limit → input_due state w ≡ true → later ≡ there
      → Recorded a.guest a.tells a.start a.options a.given later a.before now (Err faults.InputFault)
  input_fault later going left due same = (
    run_so_far,
    (going, left),
    ap (input_due state) (sym so_far.supply_is) ∙ due,
    fits,
    subst (λ (o : Option Input). IfKnown (HaveRead (round_inputs_of so_far.rounds) (answers_in E)) a.given o) (sym same) drawn,
    so_far.kept.history,
  )

  -- before its first round
  pub no_supply : has_ended state.end ≡ false → state.steps < a.options.limit → Recorded a.guest a.tells a.start a.options a.given there a.before now (Err faults.OutOfMemory)
  no_supply going left = inr (inl (run_so_far, inr (going, left), fits, no_more, so_far.kept.history))

  -- a round has drawn, and nothing came of it
  module _ (laws : TakeLaws) (later : Option Input) (with_ : Supplied) (round : HasDrawnRound w state there later with_) where
    pub out_of_memory : has_ended state.end ≡ false → state.steps < a.options.limit → Recorded a.guest a.tells a.start a.options a.given later a.before now (Err faults.OutOfMemory)
    out_of_memory going left = inr (inl (
      run_so_far,
      inr (going, left),
      fits,
      inr (
        round.draw,
        round.due ∙ ap (input_due state) so_far.supply_is,
        drawn_still a later now K E (round_inputs_of so_far.rounds ++ round.draw ∷ []) so_far.output state with_ j tally (kept_drawn a there now K E (round_inputs_of so_far.rounds) so_far.output state w j tally so_far.kept laws later with_ round),
      ),
      so_far.kept.history,
    ))

    pub drawn_moments : EachMoment a.guest a.options.mark a.start a.given later a.before now
    drawn_moments = moments_now a later now K E (round_inputs_of so_far.rounds ++ round.draw ∷ []) so_far.output state with_ j tally
        (kept_drawn a there now K E (round_inputs_of so_far.rounds) so_far.output state w j tally so_far.kept laws later with_ round) later refl

  -- ---- the guest has ended

  -- while its line is sent
  told_moments : (bytes : List ℕ) (ok : _) (later : Option History) → IfKnown (Sent Note bytes ok) now later → EachMoment a.guest a.options.mark a.start a.given there a.before later
  told_moments bytes ok later known = known-then _ _ _ _ _ _
      (λ s t u r b empty_ synced. noted-too (HoldsAt a.guest a.options.mark a.start a.given there s) bytes s t u (r empty_ synced) b.1.moments)
      (still_moments there refl) known

  module _ (later : Option History) (ended : has_ended state.end ≡ true) (report : Report) (is : report ≡ report_at tally.epochs squashes tally.sent state) where
    report_is : report ≡ reported run_so_far
    report_is = let count = so_far.kept.count in let sent_is = so_far.kept.sent_is in let squashes_is = so_far.squashes_is in let made = is in cc

    told : IfKnown (Sent Note (report_line report) true) now later → Recorded a.guest a.tells a.start a.options a.given there a.before later (Ok report)
    told known = (
      run_so_far,
      ended,
      report_is,
      fits,
      drawn,
      known-then _ _ _ _ _ _
          (λ s t u r b.
          record {
            empty = r.empty;
            stands = record { disk = b.1.disk ∙ r.stands.disk; synced = (let before = r.stands.synced in let disk = b.1.disk in let pending = b.1.pending in cc) };
            sent = b.1.same ∙ r.sent;
            noted = b.1.grown ∙ ap (λ (l : List ℕ). l ++ take b.0 (report_line report)) (r.noted ∙ append-nil s.noted) ∙ ap (λ (l : List ℕ). s.noted ++ l) (take_all b.0 (report_line report) (b.2 refl));
          })
          so_far.kept.history known,
    )

    not_told : IfKnown (Sent Note (report_line report) false) now later → Recorded a.guest a.tells a.start a.options a.given there a.before later (Err faults.OutputFault)
    not_told known = inr (
      run_so_far,
      ended,
      fits,
      drawn,
      known-then _ _ _ _ _ _
          (λ s t u r b. (
            b.0,
            record {
              empty = r.empty;
              stands = record { disk = b.1.disk ∙ r.stands.disk; synced = (let before = r.stands.synced in let disk = b.1.disk in let pending = b.1.pending in cc) };
              sent = b.1.same ∙ r.sent;
              noted = b.1.grown ∙ ap (λ (l : List ℕ). l ++ take b.0 (report_line report)) (r.noted ∙ append-nil s.noted) ∙ ap (λ (q : Report). s.noted ++ take b.0 (report_line q)) report_is;
            },
          ))
          so_far.kept.history known,
    )

  abbrev Told : Result Report RecordFault → Type 0
  Told result = IsReportSent (report_at tally.epochs squashes tally.sent state) result

  -- by the answer of the report's telling
  pub ended_so : (later : Option History) → has_ended state.end ≡ true → (told_ : Result Report RecordFault) → Told told_ → IfKnown (HasSentReport (report_at tally.epochs squashes tally.sent state) told_) now later
      → Recorded a.guest a.tells a.start a.options a.given there a.before later told_
  ended_so later ended_ (Ok report) is known = told later ended_ report is (subst (λ (r : Report). IfKnown (Sent Note (report_line r) true) now later) (sym is) known)
  ended_so later ended_ (Err faults.OutputFault) is known = not_told later ended_ (report_at tally.epochs squashes tally.sent state) refl known
  ended_so later ended_ (Err faults.OutOfMemory) is known = inr (inl (
    run_so_far,
    inl ended_,
    fits,
    no_more,
    known-then _ _ _ _ _ _ (λ s t u r k. subst (λ (h : History). IsRecorded a.guest K so_far.output [] s h) (sym k) r) so_far.kept.history known,
  ))
  ended_so later ended_ (Err faults.DiskFault) is known = absurd is
  ended_so later ended_ (Err faults.InputFault) is known = absurd is
  ended_so later ended_ (Err (faults.JournalInUse len)) is known = absurd is
  ended_so later ended_ (Err (faults.StepLimit steps)) is known = absurd is
  ended_so later ended_ (Err (faults.JournalFull end need)) is known = absurd is

  pub ended_moments : (later : Option History) (told_ : Result Report RecordFault) → Told told_ → IfKnown (HasSentReport (report_at tally.epochs squashes tally.sent state) told_) now later → EachMoment a.guest a.options.mark a.start a.given there a.before later
  ended_moments later (Ok report) is known = told_moments (report_line (report_at tally.epochs squashes tally.sent state)) true later known
  ended_moments later (Err faults.OutputFault) is known = told_moments (report_line (report_at tally.epochs squashes tally.sent state)) false later known
  ended_moments later (Err faults.OutOfMemory) is known = known-then _ _ _ _ _ _
      (λ s t u r k empty_ synced. subst (λ (h : History). Always (HoldsAt a.guest a.options.mark a.start a.given there s) s h) (sym k) (r empty_ synced))
      (still_moments there refl) known
  ended_moments later (Err faults.DiskFault) is known = absurd is
  ended_moments later (Err faults.InputFault) is known = absurd is
  ended_moments later (Err (faults.JournalInUse len)) is known = absurd is
  ended_moments later (Err (faults.StepLimit steps)) is known = absurd is
  ended_moments later (Err (faults.JournalFull end need)) is known = absurd is
