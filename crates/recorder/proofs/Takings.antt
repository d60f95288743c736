-- A committer takes a result: what its code stands on, and what a round of results comes to.
use Rattle.std.proofs.Common.{◌≡◌, ◌⊎◌, inl, inr, ℕ, zero, suc, ◌+◌, ◌-◌, ◌*◌, ◌^◌, ◌<◌, ◌≤◌, Bool, true, false, List, [], ◌∷◌, ◌++◌, length, map, slice_get, slice_set, Option, Some, None, Result, Ok, Err, refl, sym, ap, subst, ◌∙◌, append_assoc, arith}
use Rattle.std.proofs.lemmas.List.{append-nil, length-append, length-map}
use Rattle.std.proofs.Math.Logic.{∥∥₁_elim}
use Rattle.std.proofs.Props.{props}
use Rattle.std.specs.List.{AllByRecursion}
use Rattle.checkpoint.specs.State.{IsEncodable, checkpoint_of}
use Rattle.dp_base.specs.declared.page.Page.{Page}
use Rattle.guest_kernel.specs.declared.state.State.{State}
use Rattle.guest_state.specs.Checkpoint.{IsEnd, IsPageContent, IsThread}
use Rattle.guest_state.specs.declared.end.End.{End}
use Rattle.guest_state.specs.declared.end.End.TheVariants as ends
use Rattle.guest_state.specs.declared.thread.Thread.{Thread}
use Rattle.guest_state.specs.declared.thread.Thread.TheVariants.{Gone, Runs, Waits}
use Rattle.dp_base.specs.declared.answer.Answer.{Answer}
use Rattle.dp_base.specs.declared.answer.Answer.TheVariants.{Clock, Read}
use Rattle.dp_base.specs.declared.slice.Slice.{Slice}
use Rattle.dp_base.specs.Journal as journals
use Rattle.dp_base.specs.Journal.{IsAnswer, IsBody, IsEpoch, IsSlice, epoch_body}
use Rattle.epoch_record.specs.Epoch.{epoch_of}
use Rattle.guest_kernel.specs.Slices.{new_after}
use Rattle.recorder.specs.EpochLaws.{EpochLaws}
use Rattle.commit_core.specs.declared.stage.Stage.{Stage}
use Rattle.commit_core.specs.declared.stage.Stage.TheVariants.{Judged, Taken}
use Rattle.commit_core.specs.declared.verdict.Verdict.{Verdict}
use Rattle.commit_core.specs.declared.verdict.Verdict.TheVariants.{Commit, Over, Squash}
use Rattle.commit_core.specs.JudgedRound.{IsWithin, used_up}
use Rattle.commit_core.specs.Judging.{Core, HasJudged, IsJudged, JudgesNext, JudgesWhere, with_epoch}
use Rattle.dp_base.specs.declared.limits.TheConstants.{EPOCH_END_BYTES, MAX_CALL_BYTES, MAX_EPOCH_STEPS, MAX_JOBS}
use Rattle.epoch_journal.specs.Standing.{Journal}
use Rattle.epoch_record.specs.declared.epoch.Epoch as records
use Rattle.epoch_runner.specs.declared.epoch_run.EpochRun.{EpochRun}
use Rattle.epoch_runner.specs.declared.epoch_run.Ran.{Ran}
use Rattle.epoch_runner.specs.declared.epoch_run.Ran.TheVariants.{Epoch, Idle}
use Rattle.disk_model.specs.History.{History}
use Rattle.recorder.specs.declared.tally.Tally.{Tally}
use Rattle.recorder.specs.declared.due_mark.DueMark.{DueMark}
use Rattle.recorder.specs.Keeping.{InRound, IsDueMark, IsOver, CanCommit, Within, next_base}
use Rattle.recorder.proofs.JobRuns.{judged_all}
use Rattle.recorder.proofs.RoundRuns.{is_over}
use Rattle.recorder.proofs.Takes.{last_at}

length-set : (xs : List Stage) (i : ℕ) (x : Stage) → length (slice_set xs i x) ≡ length xs
length-set [] i x = refl
length-set (y ∷ xs) zero x = refl
length-set (y ∷ xs) (suc i) x = ap suc (length-set xs i x)

no_items : {A : Type 0} (xs : List A) → length xs ≡ 0 → xs ≡ []
no_items [] none = refl
no_items (x ∷ xs) none = absurd (omega (arith, none))

-- what follows the first items of a list
next_item : {A : Type 0} (all xs ys : List A) (x : A) → all ≡ xs ++ ys → slice_get all (length xs) ≡ Some x → (more : List A) × (ys ≡ x ∷ more)
next_item all [] [] x is found = let bad = ap (λ l. slice_get l 0) (sym is) ∙ found in absurd cc
next_item all [] (y ∷ ys) x is found =
    let first : Some y ≡ Some x = ap (λ l. slice_get l 0) (sym is) ∙ found in
    let same : y ≡ x = cc in
    (ys, ap (λ z. z ∷ ys) same)
next_item [] (z ∷ xs) ys x is found = absurd cc
next_item (w ∷ all) (z ∷ xs) ys x is found = let rest : all ≡ xs ++ ys = cc in next_item all xs ys x rest found

-- ---- what an epoch's type keeps has one proof

all_prop : {A : Type 0} (P : A → Type 0) → ((x : A) → IsProp (P x)) → (xs : List A) → IsProp (AllByRecursion P xs)
all_prop P each [] = hlevel props
all_prop P each (x ∷ xs) = hlevel (each x, all_prop P each xs)

slice_prop : (s : Slice) → IsProp (IsSlice s)
slice_prop s = hlevel props

answer_prop : (x : Answer) → IsProp (IsAnswer x)
answer_prop (Read bytes) = hlevel props
answer_prop (Clock reading) = hlevel props

epoch_prop : (e : journals.Epoch) → IsProp (IsEpoch e)
epoch_prop e = hlevel (props, all_prop IsSlice slice_prop e.slices, all_prop IsAnswer answer_prop e.answers)

body_prop : (body : List ℕ) → IsProp (IsBody body)
body_prop body = hlevel props

end_prop : (e : End) → IsProp (IsEnd e)
end_prop ends.None = hlevel props
end_prop (ends.Exit code) = hlevel props
end_prop (ends.Trap tid cause value) = hlevel props
end_prop ends.Deadlock = hlevel props

thread_prop : (t : Thread) → IsProp (IsThread t)
thread_prop (Runs hart clear) = hlevel props
thread_prop (Waits addr hart clear) = hlevel props
thread_prop (Gone code) = hlevel props

page_prop : (p : Page) → IsProp (IsPageContent p)
page_prop p = hlevel props

encodable_prop : (s : State) → IsProp (IsEncodable s)
encodable_prop s = hlevel (props, end_prop s.end, all_prop IsThread thread_prop s.threads, all_prop IsPageContent page_prop (checkpoint_of s).pages)

pub is_epoch_of : (r : EpochRun) → IsEpoch (epoch_of r.epoch)
is_epoch_of r = ∥∥₁_elim r.is_epoch (epoch_prop (epoch_of r.epoch)) (λ x. x)

pub is_body_of : (r : EpochRun) → IsBody (epoch_body (epoch_of r.epoch))
is_body_of r = ∥∥₁_elim r.fits (body_prop (epoch_body (epoch_of r.epoch))) (λ x. x)

-- how far an epoch may go
pub record GoesLittle (r : EpochRun) : Type 0 where
  pub steps : r.end.steps ≤ r.start.steps + MAX_EPOCH_STEPS
  pub input : r.end.input ≤ r.start.input + MAX_CALL_BYTES * MAX_EPOCH_STEPS

pub little_of : EpochLaws → (r : EpochRun) → GoesLittle r
little_of laws r =
    let few = (is_epoch_of r).steps in
    ∥∥₁_elim r.runs (hlevel props) (λ ran.
    (let counts = laws.counts r.start (epoch_of r.epoch).slices (epoch_of r.epoch).answers (new_after r.end r.out []) ran in
    let reads = laws.reads r.start (epoch_of r.epoch).slices (epoch_of r.epoch).answers (new_after r.end r.out []) ran in
    record { steps = omega (arith, counts, few); input = omega (arith, reads, few) }))

pub encodable_of : EpochLaws → (r : EpochRun) → IsEncodable r.start → r.end.steps < 2 ^ 64 → r.end.input < 2 ^ 64 → IsEncodable r.end
encodable_of laws r start steps input =
    ∥∥₁_elim r.runs (encodable_prop r.end) (λ ran. laws.encodable r.start (epoch_of r.epoch).slices (epoch_of r.epoch).answers (new_after r.end r.out []) start (is_epoch_of r).answers ran steps input)

-- ---- the code's own facts

-- the verdict on the result of an epoch that starts in the committed state
pub record IsCommitOf (core told : Core) (ran : Ran) (epoch : records.Epoch) (out : List ℕ) (there : Core) : Type 0 where
  pub run : EpochRun
  pub is : ran ≡ Epoch run
  pub epoch_is : epoch ≡ run.epoch
  pub out_is : out ≡ run.out
  pub start_is : run.start ≡ core.committed
  pub there_is : there ≡ with_epoch told run

module _ (core told : Core) (j : Journal) (ran : Ran) (ready : CanCommit core j) (told_is : told ≡ record core { jobs = core.jobs ++ Taken ran ∷ [] }) where
  next_stage : slice_get told.jobs told.judged ≡ Some (Taken ran)
  next_stage =
      ap (λ (c : Core). slice_get c.jobs c.judged) told_is ∙ ap (slice_get (core.jobs ++ Taken ran ∷ [])) ready.judged ∙ last_at core.jobs (Taken ran)

  pub judged_so : (verdict : Verdict) (there : Core) → HasJudged told verdict there → IsJudged told ran verdict there
  judged_so verdict there judged =
      let going : told.closed ≡ false = ap (λ (c : Core). c.closed) told_is ∙ ready.not_closed in
      subst (λ s. JudgesNext told s verdict there) next_stage (subst (λ b. JudgesWhere b told verdict there) going judged)

  -- the verdict on a result that was taken is one of three
  pub no_other_verdict : (verdict : Verdict) (there : Core) → HasJudged told verdict there → ((epoch : records.Epoch) (out : List ℕ) → verdict ≡ Commit epoch out → ⊥)
      → ((i : ℕ) → verdict ≡ Squash i → ⊥) → ((i : ℕ) → verdict ≡ Over i → ⊥) → ⊥
  no_other_verdict verdict there judged no_commit no_squash no_over = by_result ran (judged_so verdict there judged)
    where
      by_result : (x : Ran) → IsJudged told x verdict there → ⊥
      by_result (Epoch r) (inl j) = no_commit r.epoch r.out j.1
      by_result (Epoch r) (inr j) = no_squash (told.judged + 1) j.1
      by_result (Idle s) (inl j) = no_over (told.judged + 1) j.1
      by_result (Idle s) (inr j) = no_squash (told.judged + 1) j.1

  -- a result that starts in the committed state does so when it is judged
  pub starts_known : (run : EpochRun) → slice_get told.jobs told.judged ≡ Some (Taken (Epoch run)) → ((r : EpochRun) → ran ≡ Epoch r → r.start ≡ core.committed) → run.start ≡ told.committed
  starts_known run found known =
      let both : Some (Taken ran) ≡ Some (Taken (Epoch run)) = sym next_stage ∙ found in
      let same : ran ≡ Epoch run = cc in
      known run same ∙ sym (ap (λ (c : Core). c.committed) told_is)

  pub commit_of : (epoch : records.Epoch) (out : List ℕ) (there : Core) → HasJudged told (Commit epoch out) there → IsCommitOf core told ran epoch out there
  commit_of epoch out there judged = by_result ran refl (judged_so (Commit epoch out) there judged)
    where
      by_result : (x : Ran) → ran ≡ x → IsJudged told x (Commit epoch out) there → IsCommitOf core told ran epoch out there
      by_result (Epoch r) is (inl p) = record {
        run = r;
        is = is;
        epoch_is = (let e = p.1 in cc);
        out_is = (let e = p.1 in cc);
        start_is = p.0 ∙ ap (λ (c : Core). c.committed) told_is;
        there_is = p.2;
      }
      by_result (Epoch r) is (inr p) = let e = p.1 in absurd cc
      by_result (Idle s) is (inl p) = let e = p.1 in absurd cc
      by_result (Idle s) is (inr p) = let e = p.1 in absurd cc

  -- after a commit it may take another
  module _ (epoch : records.Epoch) (out : List ℕ) (there : Core) (commit : IsCommitOf core told ran epoch out there) where
    pub one_more : length there.jobs ≡ length core.jobs + 1
    one_more =
        let set = ap (λ (c : Core). length c.jobs) commit.there_is ∙ length-set told.jobs told.judged Judged in
        let more = ap (λ (c : Core). length c.jobs) told_is ∙ length-append core.jobs (Taken ran ∷ []) in
        omega (arith, set, more)

    module _ (laws : EpochLaws) (room : length core.jobs < MAX_JOBS) where
      goes : GoesLittle commit.run
      goes = little_of laws commit.run

      early_there : commit.run.end.steps + (MAX_JOBS - (length core.jobs + 1)) * MAX_EPOCH_STEPS < 2 ^ 63
      early_there = let early = ready.early in let more = goes.steps in let from = ap (λ (s : State). s.steps) commit.start_is in omega (arith, early, more, from, room)

      little_there : commit.run.end.input + MAX_CALL_BYTES * ((MAX_JOBS - (length core.jobs + 1)) * MAX_EPOCH_STEPS) < 2 ^ 63
      little_there = let little = ready.little in let more = goes.input in let from = ap (λ (s : State). s.input) commit.start_is in omega (arith, little, more, from, room)

      pub encodable_there : IsEncodable commit.run.end
      encodable_there =
          encodable_of laws commit.run (subst IsEncodable (sym commit.start_is) ready.encodable) (let early = early_there in omega (arith, early)) (let little = little_there in omega (arith, little))

      pub ready_there : (j' : Journal) → j'.failed ≡ false → CanCommit there j'
      ready_there j' works =
          let committed : there.committed ≡ commit.run.end = ap (λ (c : Core). c.committed) commit.there_is in
          let more = one_more in
          record {
            not_closed = ap (λ (c : Core). c.closed) (commit.there_is ∙ ap (λ (c : Core). with_epoch c commit.run) told_is) ∙ ready.not_closed;
            judged = (let judged = ap (λ (c : Core). c.judged) commit.there_is in let before = ap (λ (c : Core). c.judged) told_is in let at = ready.judged in omega (arith, judged, before, more, at));
            places = ap (λ (c : Core). c.max_jobs) (commit.there_is ∙ ap (λ (c : Core). with_epoch c commit.run) told_is) ∙ ready.places;
            encodable = subst IsEncodable (sym committed) encodable_there;
            early = (let early = early_there in omega (arith, early, more, ap (λ (s : State). s.steps) committed));
            little = (let little = little_there in omega (arith, little, more, ap (λ (s : State). s.input) committed));
            works = works;
          }

-- what was counted is far below what the counts may have
pub few_counts : (a : InRound) (now : Option History) (core : Core) (j : Journal) (tally : Tally) → Within true a now core j tally
    → (tally.epochs < 2 ^ 30) × (tally.sent ≤ (EPOCH_END_BYTES + MAX_CALL_BYTES) * tally.epochs) × (tally.since ≤ tally.epochs)
few_counts a now core j tally within =
    let kept = within.kept in
    (omega (arith, kept.few, kept.fits, kept.room_is, a.setting.options.room_range), kept.little, kept.since_few)

-- ---- the next result of a round was taken

module _ (a : InRound) (now : Option History) (core : Core) (j : Journal) (tally : Tally) (within : Within true a now core j tally) (all_judged : core.judged ≡ length core.jobs) where
  count : length core.jobs ≡ length within.runs + length within.judged.rest
  count =
      let jobs = ap (λ (l : List Stage). length l) within.judged.jobs ∙ length-append (map (λ (x : EpochRun). Judged) within.runs) (map Taken within.judged.rest) in
      omega (arith, jobs, length-map within.runs (λ (x : EpochRun). Judged), length-map within.judged.rest Taken)

  none_left : within.judged.rest ≡ []
  none_left = no_items within.judged.rest (let n = count in let m = within.judged.judged in omega (arith, n, m, all_judged))

  results_are : within.results ≡ map Epoch within.runs
  results_are = within.judged.all ∙ ap (λ (l : List Ran). map Epoch within.runs ++ l) none_left ∙ append-nil (map Epoch within.runs)

  pub as_many : length core.jobs ≡ length within.results
  as_many = let n = count in omega (arith, n, ap (λ (l : List Ran). length l) none_left, ap (λ (l : List Ran). length l) results_are, length-map within.runs Epoch)

  module _ (ran : Ran) (next : slice_get a.results (length core.jobs) ≡ Some ran) where
    abbrev core_told : Core
    core_told = record core { jobs = core.jobs ++ Taken ran ∷ [] }

    coming : (more : List Ran) × (within.coming ≡ ran ∷ more)
    coming = next_item a.results within.results within.coming ran within.all (ap (slice_get a.results) (sym as_many) ∙ next)

    told_within : IsWithin within.run.end (within.results ++ ran ∷ []) within.runs core_told
    told_within = record {
      rest = ran ∷ [];
      all = ap (λ (l : List Ran). l ++ ran ∷ []) results_are;
      jobs = ap (λ (l : List Stage). l ++ Taken ran ∷ []) (within.judged.jobs ∙ ap (λ (l : List Ran). map (λ (x : EpochRun). Judged) within.runs ++ map Taken l) none_left ∙ append-nil (map (λ (x : EpochRun). Judged) within.runs));
      judged = within.judged.judged;
      goes_on = within.judged.goes_on;
      linked = within.judged.linked;
    }

    taken_here : Within true a now core_told j tally
    taken_here = record {
      run = within.run;
      from_is = within.from_is;
      squashes_is = within.squashes_is;
      goes_on = within.goes_on;
      draw = within.draw;
      due = within.due;
      supply_is = within.supply_is;
      can = within.can;
      results = within.results ++ ran ∷ [];
      coming = coming.0;
      all = within.all ∙ ap (λ (l : List Ran). within.results ++ l) coming.1 ∙ sym (append_assoc within.results (ran ∷ []) coming.0);
      raced = within.raced;
      full = within.full;
      runs = within.runs;
      judged = told_within;
      output = within.output;
      since_is = within.since_is;
      kept = within.kept;
      last = within.last;
      longer = within.longer;
    }

    pub taken_in : (told : Core) → told ≡ core_told → Within true a now told j tally
    taken_in told is = subst (λ (c : Core). Within true a now c j tally) (sym is) taken_here

  -- all results of the round were committed
  pub all_over : a.whole ≡ true → length core.jobs ≡ length a.results → IsOver a a.squashes now core j tally
  all_over whole all =
      let none : within.coming ≡ [] = no_items within.coming (let n = as_many in let m = ap (λ (l : List Ran). length l) within.all ∙ length-append within.results within.coming in omega (arith, n, m, all)) in
      let same : a.results ≡ within.results = within.all ∙ ap (λ (l : List Ran). within.results ++ l) none ∙ append-nil within.results in
      let judged = subst (λ (l : List Ran). Rattle.commit_core.specs.JudgedRound.IsRoundJudged within.run.end l within.runs core.committed used_up) (sym results_are) (judged_all within.run.end core.committed within.runs within.judged.linked) in
      subst (λ (n : ℕ). IsOver a n now core j tally) (omega arith)
      (is_over a now core j tally within core used_up judged (λ up. sym (ap (λ (l : List Ran). length l) same) ∙ within.full whole))

-- the base of the next mark has an encoding, if that of the last one has, and the state of a mark that was due
pub based_there : (every since : ℕ) (base s : State) (mark : Option DueMark) → IsDueMark every since base s mark → (now : State) → IsEncodable now → IsEncodable s → IsEncodable (next_base mark now)
based_there every since base s None due now base_is there = base_is
based_there every since base s (Some mark) due now base_is there = subst IsEncodable (sym due.2) there
