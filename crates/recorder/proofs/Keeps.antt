-- What was committed and drawn so far, when a round draws, and when an epoch more is committed.
use Rattle.std.proofs.Common.{◌≡◌, ℕ, ◌+◌, ◌<◌, ◌≤◌, Bool, true, false, List, [], ◌∷◌, ◌++◌, length, take, Option, Ok, Err, refl, sym, ap, subst, ◌∙◌, append_assoc, arith}
use Rattle.std.proofs.lemmas.List.{append-nil, length-append, length_push}
use Rattle.std.specs.List.{AllByRecursion, list_any}
use Rattle.std.specs.Prelude.{◌&&◌, not, if◌then◌else◌}
use Rattle.dp_base.specs.declared.limits.TheConstants.{MAX_BODY_BYTES}
use Rattle.dp_base.specs.declared.answer.Answer.{Answer}
use Rattle.dp_base.specs.declared.slice.Slice.{Slice}
use Rattle.dp_base.specs.Encoding.{IsPrefixOf}
use Rattle.dp_base.specs.Journal.{Epoch, epoch_body, frame, steps_of}
use Rattle.dp_base.proofs.Lists.{all_append}
use Rattle.disk_model.specs.History.{History}
use Rattle.disk_model.specs.Input.{Input, IsLast}
use Rattle.disk_model.specs.Known.{IfKnown}
use Rattle.disk_model.specs.Moments.{Always}
use Rattle.disk_model.proofs.Knowing.{known-both, known-map, known-then}
use Rattle.epoch_journal.specs.Appending.{HasAppended, IsAppend, RecordWritten}
use Rattle.epoch_journal.specs.Standing.{Journal, Stands}
use Rattle.epoch_journal.proofs.AtRest.{shut-of}
use Rattle.epoch_journal.proofs.OnDisk.{length-journal-push}
use Rattle.epoch_record.specs.Epoch.{epoch_of}
use Rattle.epoch_runner.specs.Answering.{can_step, input_due, is_ready}
use Rattle.epoch_runner.specs.declared.bounds.Bounds.{Bounds}
use Rattle.epoch_runner.specs.declared.epoch_run.EpochRun.{EpochRun}
use Rattle.epoch_runner.specs.Running.{HasRunEpoch}
use Rattle.epoch_runner.specs.Supplying.{IsSuppliedBy}
use Rattle.guest_kernel.specs.declared.state.State.{State}
use Rattle.guest_kernel.specs.Call.{After}
use Rattle.guest_kernel.specs.Slices.{new_after, chain}
use Rattle.guest_kernel.specs.State.{has_ended}
use Rattle.journal_text.specs.Reading.{journal_of}
use Rattle.journal_text.specs.Records.{IsRecord, Record, body_of, epoch}
use Rattle.recorder.specs.Committing.{Committed, EachCommitted, HasCommitted}
use Rattle.recorder.specs.declared.commit.CommitFault.{CommitFault}
use Rattle.recorder.specs.declared.commit.CommitFault.TheVariants as commits
use Rattle.recorder.specs.declared.tally.Tally.{Tally}
use Rattle.recorder.specs.EpochLaws.{EpochLaws}
use Rattle.recorder.specs.Drawing.{RoundInput, Drew, HaveRead, IsFaithfulSince, answers_in, readings_since, supply_of}
use Rattle.recorder.specs.Keeping.{AlwaysPartly, CanGoOn, IsWindowOf, IsSince, Kept, Setting}
use Rattle.recorder.specs.Moments.{EachMoment, HoldsAt}
use Rattle.recorder.specs.Racing.{job_bounds, epoch_steps}
use Rattle.recorder.specs.Marking.{IsMarkDue, base_after, base_then, is_due, mark_of, marks_at, records_of, records_unmarked, since_after, since_then}
use Rattle.recorder.specs.Recording.{GoesOn, FitsWithin, IsInterrupted, IsRecorded, thread_after}
use Rattle.checkpoint.specs.State.{IsEncodable, checkpoint_of}
use Rattle.partial_mark.specs.Base.{partial_of}
use Rattle.partial_mark.specs.Partial.{IsPartial, Partial, partial_bytes}
use Rattle.recorder.proofs.Marking.{base_more, epoch_more, mark_more, since_more}
use Rattle.recorder.proofs.MarkRecords.{mark_is_record}
use Rattle.recorder.proofs.Drawings.{TakeLaws, drawn_more, has_drawn, taken_more}
use Rattle.recorder.proofs.Moments.{append_left, appends_partly, commits_partly, each_moment, marks_partly}
use Rattle.recorder.proofs.RunLists.{answers_are-push, answers_in-push, first_after-push, low_numbers, positive_steps}
use Rattle.supply.specs.Supplied.{IsSupply, Supplied, end_of, refilled}
use Rattle.sync_hints.specs.declared.hints.Hints.{Hints}

-- ---- what a round draws

-- what a round has drawn, and the supply with which it runs its epochs
pub record HasDrawnRound (w : Supplied) (state : State) (there later : Option Input) (with_ : Supplied) : Type 0 where
  pub draw : RoundInput
  pub due : draw.due ≡ input_due state w
  pub is : with_ ≡ supply_of w draw
  pub drew : IfKnown (Drew draw) there later
  pub used : draw.due ≡ true → (state.input ≡ end_of w) × (w.ended ≡ false)
  pub is_supply : IsSupply with_

pub room_kept : (w : Supplied) (due : Bool) (bytes : List ℕ) (reading : ℕ) → (supply_of w (record { due = due; taken = bytes; reading = reading })).room ≡ w.room
room_kept w true bytes reading = refl
room_kept w false bytes reading = refl

pub still_placed : (w : Supplied) (place : ℕ) (due : Bool) (bytes : List ℕ) (reading : ℕ) → w.place ≤ place → place ≤ end_of w → (due ≡ true → place ≡ end_of w)
    → let with_ = supply_of w (record { due = due; taken = bytes; reading = reading }) in (with_.place ≤ place) × (place ≤ end_of with_)
still_placed w place true bytes reading placed inside used = let at_end = used refl in (omega (arith, at_end), omega (arith, at_end))
still_placed w place false bytes reading placed inside used = (placed, inside)

pub round_of : (w : Supplied) (state : State) (there later : Option Input) (with_ : Supplied)
    → (d : RoundInput) × (d.due ≡ input_due state w) × (with_ ≡ supply_of w d) × IfKnown (Drew d) there later
    → (input_due state w ≡ true → (state.input ≡ end_of w) × (w.ended ≡ false)) → IsSupply with_ → HasDrawnRound w state there later with_
round_of w state there later with_ drew used is_supply =
    record { draw = drew.0; due = drew.1; is = drew.2; drew = drew.3; used = λ e. used (sym drew.1 ∙ e); is_supply = is_supply }

-- with what it has drawn a guest can step
can_go : (s : State) (w : Supplied) (due : Bool) (bytes : List ℕ) (reading : ℕ) → due ≡ input_due s w
    → (input_due s w ≡ false → can_step s w ≡ true)
    → ((more : List ℕ) (stamp : ℕ) → input_due s w ≡ true → can_step s (record (refilled more w) { stamp = stamp }) ≡ true)
    → ((stamp : ℕ) → can_step s (record w { stamp = stamp }) ≡ can_step s w)
    → can_step s (supply_of w (record { due = due; taken = bytes; reading = reading })) ≡ true
can_go s w true bytes reading is ready refills stamps = refills bytes reading (sym is)
can_go s w false bytes reading is ready refills stamps = stamps reading ∙ ready (sym is)

pub round_goes : (s : State) (w : Supplied) (there later : Option Input) (with_ : Supplied) → HasDrawnRound w s there later with_
    → (input_due s w ≡ false → can_step s w ≡ true)
    → ((more : List ℕ) (stamp : ℕ) → input_due s w ≡ true → can_step s (record (refilled more w) { stamp = stamp }) ≡ true)
    → ((stamp : ℕ) → can_step s (record w { stamp = stamp }) ≡ can_step s w) → can_step s with_ ≡ true
round_goes s w there later with_ round ready refills stamps =
    ap (can_step s) round.is ∙ can_go s w round.draw.due round.draw.taken round.draw.reading round.due ready refills stamps

module _ (a : Setting) (there : Option Input) (now : Option History) (K : List Record) (E : List Epoch) (D : List RoundInput) (output : List ℕ) (state : State) (w : Supplied) (j : Journal) (tally : Tally) (kept : Kept a there now K E D output state w j tally) where
  pub fits_still : FitsWithin a.guest a.options K
  fits_still = omega (arith, kept.fits, kept.place_is, kept.room_is)

  pub drawn_still : IfKnown (HaveRead D (answers_in E)) a.given there
  drawn_still = known-map (IsWindowOf w state.input D (answers_in E)) (HaveRead D (answers_in E)) a.given there
      (λ s t is. has_drawn w state.input D (answers_in E) s t is)
      kept.drawn

  honest_of : (later : Option Input) (draws : List RoundInput) → IfKnown (HaveRead draws (answers_in E)) a.given later → IfKnown (IsFaithfulSince (answers_in E)) a.given later
  honest_of later draws drawn = known-map (HaveRead draws (answers_in E)) (IsFaithfulSince (answers_in E)) a.given later (λ s t h. h.1) drawn

  -- every moment so far
  pub moments_now : (later : Option Input) → later ≡ there → EachMoment a.guest a.options.mark a.start a.given later a.before now
  moments_now later same =
      let honest = honest_of there D drawn_still in
      each_moment a.guest a.options.mark a.start E a.given later (subst (λ (o : Option Input). IfKnown (IsFaithfulSince (answers_in E)) a.given o) (sym same) honest) a.before now kept.moments

  -- ---- a round draws

  module _ (laws : TakeLaws) (later : Option Input) (with_ : Supplied) (round : HasDrawnRound w state there later with_) where
    placed_still : (with_.place ≤ state.input) × (state.input ≤ end_of with_)
    placed_still = subst (λ (x : Supplied). (x.place ≤ state.input) × (state.input ≤ end_of x)) (sym round.is)
        (still_placed w state.input round.draw.due round.draw.taken round.draw.reading kept.placed kept.inside (λ e. (round.used e).0))

    abbrev DrawnSo : Input → Input → Type 0
    DrawnSo s t = IsWindowOf (supply_of w round.draw) state.input (D ++ round.draw ∷ []) (answers_in E) s t × IsLast round.draw.reading (readings_since s t)

    with_round : IfKnown DrawnSo a.given later
    with_round = known-then (IsWindowOf w state.input D (answers_in E)) (Drew round.draw) DrawnSo a.given there later
        (λ s t u d b. drawn_more laws w state.input D (answers_in E) round.draw s t u d (λ e. (round.used e).1) b)
        kept.drawn round.drew

    pub kept_drawn : Kept a later now K E (D ++ round.draw ∷ []) output state with_ j tally
    kept_drawn = record {
      is_guest = kept.is_guest;
      chained = kept.chained;
      counted = kept.counted;
      goes_on = kept.goes_on;
      is_supply = round.is_supply;
      some_room = ap (λ (x : Supplied). x.room) round.is ∙ room_kept w round.draw.due round.draw.taken round.draw.reading ∙ kept.some_room;
      placed = placed_still.0;
      inside = placed_still.1;
      little_input = kept.little_input;
      are_answers = kept.are_answers;
      are_records = kept.are_records;
      encodable = kept.encodable;
      drawn = known-map DrawnSo (IsWindowOf with_ state.input (D ++ round.draw ∷ []) (answers_in E)) a.given later
          (λ s t d. subst (λ (x : Supplied). IsWindowOf x state.input (D ++ round.draw ∷ []) (answers_in E) s t) (sym round.is) d.0)
          with_round;
      history = kept.history;
      moments = kept.moments;
      place_is = kept.place_is;
      room_is = kept.room_is;
      fits = kept.fits;
      works = kept.works;
      first_is = kept.first_is;
      count = kept.count;
      few = kept.few;
      sent_is = kept.sent_is;
      little = kept.little;
      since_few = kept.since_few;
      base_encodable = kept.base_encodable;
    }

    pub last_drawn : IfKnown (λ s t. IsLast with_.stamp (readings_since s t)) a.given later
    last_drawn = known-map DrawnSo (λ s t. IsLast with_.stamp (readings_since s t)) a.given later
        (λ s t d. subst (λ (n : ℕ). IsLast n (readings_since s t)) (sym (ap (λ (x : Supplied). x.stamp) round.is)) d.1)
        with_round

-- ---- an epoch is run from here

module _ (a : Setting) (there : Option Input) (now : Option History) (E : List Epoch) (D : List RoundInput) (output : List ℕ) (state : State) (w : Supplied) (j : Journal) (tally : Tally) (kept : Kept a there now (records_of a.options a.start E) E D output state w j tally) where
  abbrev K : List Record
  K = records_of a.options a.start E

  module _ (laws : EpochLaws) (last : IfKnown (λ s t. IsLast w.stamp (readings_since s t)) a.given there) (first : ℕ) (hints : Hints) (r : EpochRun) (is : HasRunEpoch state hints w (job_bounds a.options first state) r) where
    abbrev e : Epoch
    e = epoch_of r.epoch

    abbrev bounds : Bounds
    bounds = job_bounds a.options first state

    abbrev end_at : After
    end_at = new_after r.end r.out []

    supplied : IsSuppliedBy w state.input r.end.input e.answers
    supplied = laws.supplied state hints w bounds e r.out r.end is.scheduled kept.placed kept.inside

    longer : chain a.start (E ++ e ∷ []) ≡ Ok (r.end, output ++ r.out)
    longer = laws.more a.start E e state output end_at kept.chained is.runs.ran

    some_steps : 0 < steps_of e.slices
    some_steps = positive_steps e.slices is.runs.is_epoch.slices is.runs.is_epoch.some_slice

    few_steps : steps_of e.slices ≤ epoch_steps a.options state
    few_steps = laws.few state hints w bounds e r.out r.end is.scheduled

    left : state.steps < a.options.limit
    left = omega (arith, some_steps, few_steps)

    pub steps_more : state.steps < r.end.steps
    steps_more = omega (arith, is.runs.counted, some_steps)

    goes_on_there : CanGoOn r.end
    goes_on_there = laws.goes_on state e.slices e.answers end_at is.runs.ran kept.goes_on

    pub encodable_there : IsEncodable r.end
    encodable_there = laws.encodable state e.slices e.answers end_at kept.encodable is.runs.is_epoch.answers is.runs.ran (omega (arith, is.runs.counted, few_steps, left, a.options.limit_range.1))
        (omega (arith, laws.reads state e.slices e.answers end_at is.runs.ran, is.runs.counted, kept.little_input, few_steps, left, a.options.limit_range.1))

    pub low : AllByRecursion (λ (x : Slice). x.tid.0 < 65535) e.slices
    low = low_numbers e.slices (length r.end.threads) is.runs.is_epoch.slices (laws.made state e.slices e.answers end_at is.runs.ran) goes_on_there.few.made

    -- the guest may go on from here
    not_ended : (ended other : Bool) → (not ended && other) ≡ true → ended ≡ false
    not_ended true other h = absurd cc
    not_ended false other h = refl

    pub may_go_on : GoesOn a.options state
    may_go_on = (not_ended (has_ended state.end) (list_any (is_ready state w) state.threads) is.could_step, left)

    drawn_more_ : IfKnown (IsWindowOf w r.end.input D (answers_in (E ++ e ∷ []))) a.given there
    drawn_more_ = known-map _ _ a.given there
        (λ s t d. subst (λ (l : List Answer). IsWindowOf w r.end.input D l s t) (sym (answers_in-push E e))
        (taken_more w state.input r.end.input D (answers_in E) e.answers s t d.0 kept.placed supplied d.1))
        (known-both (IsWindowOf w state.input D (answers_in E)) (λ s t. IsLast w.stamp (readings_since s t)) a.given there kept.drawn last)

    pub drawn_epoch : IfKnown (HaveRead D (answers_in (E ++ e ∷ []))) a.given there
    drawn_epoch = known-map _ _ a.given there (λ s t d. has_drawn w r.end.input D (answers_in (E ++ e ∷ [])) s t d) drawn_more_

    honest_there : IfKnown (IsFaithfulSince (answers_in (E ++ e ∷ []))) a.given there
    honest_there = known-map (HaveRead D (answers_in (E ++ e ∷ []))) (IsFaithfulSince (answers_in (E ++ e ∷ []))) a.given there (λ s t h. h.1) drawn_epoch

    push : records_unmarked a.options a.start (E ++ e ∷ []) ≡ K ++ epoch e ∷ []
    push = epoch_more a.options.mark 0 a.start a.start E state output e end_at kept.chained is.runs.ran

    records_there : AllByRecursion IsRecord (K ++ epoch e ∷ [])
    records_there = all_append IsRecord K (epoch e ∷ []) kept.are_records ((is.runs.is_epoch, is.runs.fits.1), tt)

    pub size_more : length (journal_of a.guest (records_unmarked a.options a.start (E ++ e ∷ []))) ≡ length (journal_of a.guest K) + length (frame (epoch_body e))
    size_more = ap (λ (l : List Record). length (journal_of a.guest l)) push ∙ length-journal-push a.guest K (epoch e)

    stands_more : (u : History) → Stands a.guest (K ++ epoch e ∷ []) u → Stands a.guest (records_unmarked a.options a.start (E ++ e ∷ [])) u
    stands_more u stands = subst (λ (l : List Record). Stands a.guest l u) (sym push) stands

    -- ---- its commit

    module _ (added : List ℕ) (framed : added ≡ frame (epoch_body e)) (j' : Journal) (behind : Option History) where
      appends_there : (s t : History) → IsRecorded a.guest K output [] s t → IsAppend j.end added t a.guest K (epoch e)
      appends_there s t recorded = record { stands = shut-of a.guest K t recorded.stands; at_end = kept.place_is ∙ ap (λ (l : List ℕ). length l) (sym recorded.stands.disk); framed = framed }

      while_committed : IfKnown (EachCommitted j added r.out) now behind → IfKnown (AlwaysPartly a.guest a.options.mark a.start (E ++ e ∷ [])) a.before behind
      while_committed known = known-then _ _ _ _ _ _
          (λ s t u x k empty_ synced. commits_partly a.guest a.options.mark a.start E e state r.end output r.out kept.chained longer push s t x.0.sent u (x.1 empty_ synced)
          ((k a.guest K (epoch e) (appends_there s t x.0)).moments kept.is_guest records_there))
          (known-both _ _ _ _ kept.history kept.moments) known

      while_appended : IfKnown (RecordWritten j.end added false) now behind → IfKnown (AlwaysPartly a.guest a.options.mark a.start (E ++ e ∷ [])) a.before behind
      while_appended known = known-then _ _ _ _ _ _
          (λ s t u x k empty_ synced. appends_partly a.guest a.options.mark a.start E e state r.end output r.out kept.chained longer push s t x.0.sent u (x.1 empty_ synced)
          ((k.1 a.guest K (epoch e) (appends_there s t x.0)).moments kept.is_guest records_there))
          (known-both _ _ _ _ kept.history kept.moments) known

      pub commit_failed_moments : (fault : CommitFault) → HasCommitted j (length added) j' (Err fault) → IfKnown (Committed j added r.out (Err fault)) now behind
          → EachMoment a.guest a.options.mark a.start a.given there a.before behind
      commit_failed_moments commits.DiskFault numbers known =
          each_moment a.guest a.options.mark a.start (E ++ e ∷ []) a.given there honest_there a.before behind (while_appended known)
      commit_failed_moments (commits.Full end_ need) numbers known = known-then _ _ _ _ _ _
          (λ s t u x k empty_ synced. subst (λ (h : History). Always (HoldsAt a.guest a.options.mark a.start a.given there s) s h) (sym k) (x empty_ synced)) (moments_now a there now K E D output state w j tally kept there refl) known
      commit_failed_moments (commits.Failed last_) numbers known = absurd (let bad = sym numbers.0 ∙ kept.works in cc)
      commit_failed_moments commits.OutputFault numbers known =
          each_moment a.guest a.options.mark a.start (E ++ e ∷ []) a.given there honest_there a.before behind (while_committed (known-map _ _ _ _ (λ s t k. k.2) known))

      pub interrupted : IfKnown (Committed j added r.out (Err commits.DiskFault)) now behind → IfKnown (IsInterrupted a.guest K output (epoch e)) a.before behind
      interrupted known = known-then _ _ _ _ _ _
          (λ s t u x k. record {
            empty = x.empty;
            sent = k.0.sent ∙ x.sent;
            noted = k.0.noted ∙ x.noted ∙ append-nil s.noted;
            synced = subst (λ (l : List ℕ). IsPrefixOf l u.pending.synced) x.stands.disk ((k.1 a.guest K (epoch e) (appends_there s t x)).kept refl);
            left = append_left a.guest K (epoch e) t u ((k.1 a.guest K (epoch e) (appends_there s t x)).moments kept.is_guest records_there);
          })
          kept.history known

      pub cut_off : IfKnown (Committed j added r.out (Err commits.OutputFault)) now behind
          → IfKnown (λ s t. (count : ℕ) × IsRecorded a.guest (records_unmarked a.options a.start (E ++ e ∷ [])) (output ++ take count r.out) [] s t) a.before behind
      cut_off known = known-then _ _ _ _ _ _
          (λ s t u x k.
          let made = k.2 a.guest K (epoch e) (appends_there s t x) in (
            k.0.0,
            record {
              empty = x.empty;
              stands = stands_more u made.stands;
              sent = k.0.1 ∙ ap (λ (l : List ℕ). l ++ take k.0.0 r.out) x.sent ∙ append_assoc s.sent output (take k.0.0 r.out);
              noted = k.1 ∙ x.noted;
            },
          ))
          kept.history known

      pub untouched : behind ≡ now → IfKnown (IsRecorded a.guest K output []) a.before behind
      untouched same = subst (λ (h : Option History). IfKnown (IsRecorded a.guest K output []) a.before h) (sym same) kept.history

      pub not_added : (end_ need : ℕ) → IfKnown (Committed j added r.out (Err (commits.Full end_ need))) now behind → IfKnown (IsRecorded a.guest K output []) a.before behind
      not_added end_ need known = known-then _ _ _ _ _ _ (λ s t u x k. subst (λ (h : History). IsRecorded a.guest K output [] s h) (sym k) x) kept.history known

      -- it was committed
      pub kept_committed : 0 < length added → HasCommitted j (length added) j' (Ok tt) → IfKnown (Committed j added r.out (Ok tt)) now behind → (tally' : Tally)
          → tally'.first ≡ thread_after tally.first e.slices → tally'.epochs ≡ tally.epochs + 1 → tally'.sent ≡ tally.sent + length r.out → tally'.since ≡ tally.since + 1 → tally'.base ≡ tally.base
          → Kept a there behind (records_unmarked a.options a.start (E ++ e ∷ [])) (E ++ e ∷ []) D (output ++ r.out) r.end w j' tally'
      kept_committed some numbers known tally' first_is epochs_are sent_is since_is base_is =
          let end_is : j'.end ≡ j.end + length added = ap (λ (k : Journal). k.end) numbers.2 in
          let little = laws.writes state hints w bounds e r.out r.end is.scheduled in
          record {
            is_guest = kept.is_guest;
            chained = longer;
            counted = omega (arith, is.runs.counted, few_steps, left);
            goes_on = goes_on_there;
            is_supply = kept.is_supply;
            some_room = kept.some_room;
            placed = omega (arith, kept.placed, supplied.moves);
            inside = supplied.within;
            little_input = omega (arith, laws.reads state e.slices e.answers end_at is.runs.ran, is.runs.counted, kept.little_input);
            are_answers = answers_are-push E e kept.are_answers is.runs.is_epoch.answers;
            are_records = subst (λ (l : List Record). AllByRecursion IsRecord l) (sym push) records_there;
            encodable = encodable_there;
            drawn = drawn_more_;
            history = known-then _ _ _ _ _ _
                (λ s t u x k.
                let made = k.2 a.guest K (epoch e) (appends_there s t x) in
                record {
                  empty = x.empty;
                  stands = stands_more u made.stands;
                  sent = k.0 ∙ ap (λ (l : List ℕ). l ++ r.out) x.sent ∙ append_assoc s.sent output r.out;
                  noted = k.1 ∙ x.noted;
                })
                kept.history known;
            moments = while_committed (known-map _ _ _ _ (λ s t k. k.2) known);
            place_is = omega (arith, end_is, size_more, kept.place_is, ap (λ (l : List ℕ). length l) framed);
            room_is = ap (λ (k : Journal). k.room) numbers.2 ∙ kept.room_is;
            fits = omega (arith, end_is, numbers.1, ap (λ (k : Journal). k.room) numbers.2);
            works = ap (λ (k : Journal). k.failed) numbers.2 ∙ kept.works;
            first_is = first_is ∙ ap (λ n. thread_after n e.slices) kept.first_is ∙ sym (first_after-push 1 E e);
            count = omega (arith, kept.count, length_push E e, epochs_are);
            few = omega (arith, end_is, kept.few, some, epochs_are);
            sent_is = omega (arith, kept.sent_is, length-append output r.out, sent_is);
            little = omega (arith, kept.little, little, sent_is, epochs_are);
            since_few = omega (arith, kept.since_few, since_is, epochs_are);
            base_encodable = subst IsEncodable (sym base_is) kept.base_encodable;
          }

      -- whether a mark is due is judged next
      pub since_next : IsSince true a E state tally.since tally.base → (tally' : Tally) → tally'.since ≡ tally.since + 1 → tally'.base ≡ tally.base → IsSince false a (E ++ e ∷ []) r.end tally'.since tally'.base
      since_next since_is tally' grown base_is =
          let same : since_after a.options.mark 0 a.start E + 1 ≡ tally'.since = sym (grown ∙ ap (λ n. n + 1) since_is.0) in
          let based : base_after a.options.mark 0 a.start a.start E ≡ tally'.base = sym (base_is ∙ since_is.1) in (
            mark_more a.options.mark 0 a.start a.start E state output e end_at kept.chained is.runs.ran
                ∙ ap (λ n. records_unmarked a.options a.start (E ++ e ∷ []) ++ marks_at a.options.mark n (base_after a.options.mark 0 a.start a.start E) r.end) same
                ∙ ap (λ (b : State). records_unmarked a.options a.start (E ++ e ∷ []) ++ marks_at a.options.mark tally'.since b r.end) based,
            ap (λ n. since_then a.options.mark n r.end) (sym same) ∙ sym (since_more a.options.mark 0 a.start E state output e end_at kept.chained is.runs.ran),
            ap (λ n. base_then a.options.mark n tally'.base r.end) (sym same) ∙ ap (λ (b : State). base_then a.options.mark (since_after a.options.mark 0 a.start E + 1) b r.end) (sym based)
                ∙ sym (base_more a.options.mark 0 a.start a.start E state output e end_at kept.chained is.runs.ran),
          )

-- ---- the mark after the last epoch

module _ (a : Setting) (there : Option Input) (now : Option History) (E : List Epoch) (D : List RoundInput) (output : List ℕ) (state : State) (w : Supplied) (j : Journal) (tally : Tally) (kept : Kept a there now (records_unmarked a.options a.start E) E D output state w j tally) (since : IsSince false a E state tally.since tally.base) where
  abbrev bare : List Record
  bare = records_unmarked a.options a.start E

  none_at : (due : Bool) → due ≡ false → (if due then mark_of tally.base state ∷ [] else []) ≡ []
  none_at true is = absurd cc
  none_at false is = refl

  one_at : (due : Bool) → due ≡ true → (if due then mark_of tally.base state ∷ [] else []) ≡ mark_of tally.base state ∷ []
  one_at true is = refl
  one_at false is = absurd cc

  counted : (due : Bool) → due ≡ false → (if due then 0 else tally.since) ≡ tally.since
  counted true is = absurd cc
  counted false is = refl

  begins_anew : (due : Bool) → due ≡ true → (if due then 0 else tally.since) ≡ 0
  begins_anew true is = refl
  begins_anew false is = absurd cc

  same_base : (due : Bool) → due ≡ false → (if due then state else tally.base) ≡ tally.base
  same_base true is = absurd cc
  same_base false is = refl

  next_base : (due : Bool) → due ≡ true → (if due then state else tally.base) ≡ state
  next_base true is = refl
  next_base false is = absurd cc

  -- none is due
  module _ (none : is_due a.options.mark tally.since state ≡ false) where
    pub not_due : IsSince true a E state tally.since tally.base × Kept a there now (records_of a.options a.start E) E D output state w j tally
    not_due = (
      (sym (counted (is_due a.options.mark tally.since state) none) ∙ since.1, sym (same_base (is_due a.options.mark tally.since state) none) ∙ since.2),
      subst (λ (l : List Record). Kept a there now l E D output state w j tally) (sym (since.0 ∙ ap (λ (l : List Record). bare ++ l) (none_at (is_due a.options.mark tally.since state) none) ∙ append-nil bare)) kept,
    )

  -- it is due
  module _ (due : is_due a.options.mark tally.since state ≡ true) (added : List ℕ) (framed : added ≡ frame (body_of (mark_of tally.base state))) (short : (m : Partial) → IsPartial m → length (partial_bytes m) < MAX_BODY_BYTES) (behind : Option History) where
    abbrev c : Record
    c = mark_of tally.base state

    abbrev pub due_partial : Partial
    due_partial = partial_of (checkpoint_of tally.base) (checkpoint_of state)

    pub mark_due : IsMarkDue a.options a.start E due_partial
    mark_due = since.0 ∙ ap (λ (l : List Record). bare ++ l) (one_at (is_due a.options.mark tally.since state) due)

    records_all : AllByRecursion IsRecord (bare ++ c ∷ [])
    records_all = all_append IsRecord bare (c ∷ []) kept.are_records (mark_is_record short tally.base state kept.encodable, tt)

    pub size_marked : length (journal_of a.guest (records_of a.options a.start E)) ≡ length (journal_of a.guest bare) + length (frame (body_of c))
    size_marked = ap (λ (l : List Record). length (journal_of a.guest l)) mark_due ∙ length-journal-push a.guest bare c

    appends_mark : (s t : History) → IsRecorded a.guest bare output [] s t → IsAppend j.end added t a.guest bare c
    appends_mark s t recorded = record { stands = shut-of a.guest bare t recorded.stands; at_end = kept.place_is ∙ ap (λ (l : List ℕ). length l) (sym recorded.stands.disk); framed = framed }

    while_marked : (ok : Bool) → IfKnown (RecordWritten j.end added ok) now behind → IfKnown (AlwaysPartly a.guest a.options.mark a.start E) a.before behind
    while_marked ok known = known-then _ _ _ _ _ _
        (λ s t u x k empty_ synced. marks_partly a.guest a.options.mark a.start E state output due_partial kept.chained mark_due s t x.0.sent u (x.1 empty_ synced)
        ((k.1 a.guest bare c (appends_mark s t x.0)).moments kept.is_guest records_all))
        (known-both _ _ _ _ kept.history kept.moments) known

    pub marking_moments : IfKnown (RecordWritten j.end added false) now behind → EachMoment a.guest a.options.mark a.start a.given there a.before behind
    marking_moments known = each_moment a.guest a.options.mark a.start E a.given there (honest_of a there now bare E D output state w j tally kept there D (drawn_still a there now bare E D output state w j tally kept)) a.before behind (while_marked false known)

    pub mark_interrupted : IfKnown (RecordWritten j.end added false) now behind → IfKnown (IsInterrupted a.guest bare output c) a.before behind
    mark_interrupted known = known-then _ _ _ _ _ _
        (λ s t u x k. record {
          empty = x.empty;
          sent = k.0.sent ∙ x.sent;
          noted = k.0.noted ∙ x.noted ∙ append-nil s.noted;
          synced = subst (λ (l : List ℕ). IsPrefixOf l u.pending.synced) x.stands.disk ((k.1 a.guest bare c (appends_mark s t x)).kept refl);
          left = append_left a.guest bare c t u ((k.1 a.guest bare c (appends_mark s t x)).moments kept.is_guest records_all);
        })
        kept.history known

    -- it was appended
    pub kept_marked : (j' : Journal) → HasAppended j (length added) j' (Ok tt) → IfKnown (RecordWritten j.end added true) now behind → (tally' : Tally) → tally'.first ≡ tally.first → tally'.epochs ≡ tally.epochs
        → tally'.sent ≡ tally.sent → tally'.since ≡ 0 → tally'.base ≡ state
        → IsSince true a E state tally'.since tally'.base × Kept a there behind (records_of a.options a.start E) E D output state w j' tally'
    kept_marked j' numbers known tally' first_is epochs_are sent_is since_is base_is =
        let end_is : j'.end ≡ j.end + length added = ap (λ (k : Journal). k.end) numbers.2 in (
          (since_is ∙ sym (begins_anew (is_due a.options.mark tally.since state) due) ∙ since.1, base_is ∙ sym (next_base (is_due a.options.mark tally.since state) due) ∙ since.2),
          record {
            is_guest = kept.is_guest;
            chained = kept.chained;
            counted = kept.counted;
            goes_on = kept.goes_on;
            is_supply = kept.is_supply;
            some_room = kept.some_room;
            placed = kept.placed;
            inside = kept.inside;
            little_input = kept.little_input;
            are_answers = kept.are_answers;
            are_records = subst (λ (l : List Record). AllByRecursion IsRecord l) (sym mark_due) records_all;
            encodable = kept.encodable;
            drawn = kept.drawn;
            history = known-then _ _ _ _ _ _
                (λ s t u x k. record {
                  empty = x.empty;
                  stands = subst (λ (l : List Record). Stands a.guest l u) (sym mark_due) ((k.1 a.guest bare c (appends_mark s t x)).stands refl);
                  sent = k.0.sent ∙ x.sent;
                  noted = k.0.noted ∙ x.noted;
                })
                kept.history known;
            moments = while_marked true known;
            place_is = omega (arith, end_is, size_marked, kept.place_is, ap (λ (l : List ℕ). length l) framed);
            room_is = ap (λ (k : Journal). k.room) numbers.2 ∙ kept.room_is;
            fits = omega (arith, end_is, numbers.1, ap (λ (k : Journal). k.room) numbers.2);
            works = ap (λ (k : Journal). k.failed) numbers.2 ∙ kept.works;
            first_is = first_is ∙ kept.first_is;
            count = epochs_are ∙ kept.count;
            few = omega (arith, end_is, kept.few, epochs_are);
            sent_is = sent_is ∙ kept.sent_is;
            little = omega (arith, kept.little, sent_is, epochs_are);
            since_few = omega (arith, since_is);
            base_encodable = subst IsEncodable (sym base_is) kept.encodable;
          },
        )
