-- What a streamed round comes to: its results were taken in order, by a committer that stood where the round begins.
use Rattle.std.proofs.Common.{◌≡◌, ◌⊎◌, inl, inr, ℕ, suc, ◌+◌, ◌-◌, ◌<◌, ◌≤◌, Bool, true, false, List, [], ◌∷◌, ◌++◌, length, slice_get, take, Option, Some, None, Result, Ok, Err, refl, sym, ap, subst, ◌∙◌, append_assoc, arith}
use Rattle.std.proofs.lemmas.List.{append-nil, length-append}
use Rattle.commit_core.specs.Judging.{Core, new_core}
use Rattle.dp_base.specs.Counts.{Rose}
use Rattle.disk_model.specs.Input.{Input}
use Rattle.disk_model.specs.Known.{IfKnown}
use Rattle.dp_base.specs.declared.limits.TheConstants.{MAX_JOBS}
use Rattle.epoch_runner.specs.Answering.{input_due}
use Rattle.guest_kernel.specs.State.{has_ended}
use Rattle.recorder.specs.Drawing.{RoundInput, Drew, supply_of}
use Rattle.dp_base.specs.declared.out_of_memory.OutOfMemory.{OutOfMemory}
use Rattle.epoch_pool.specs.declared.job.Job.{Job}
use Rattle.epoch_runner.specs.declared.epoch_run.Ran.{Ran}
use Rattle.epoch_stream.specs.Offers.{offers_within}
use Rattle.epoch_stream.specs.Results.{IsResultOf}
use Rattle.epoch_stream.specs.Streams.{HasEnded, IsWhole, Streamed}
use Rattle.epoch_stream.specs.Takes.{HadEnough, WentOn}
use Rattle.guest_kernel.specs.declared.state.State.{State}
use Rattle.racing_runner.specs.declared.offer.More.{More}
use Rattle.racing_runner.specs.declared.offer.More.TheVariants.{Enough, Yes}
use Rattle.racing_runner.specs.declared.offer.Offer.{Offer}
use Rattle.racing_runner.specs.declared.plan.Plan.{Plan}
use Rattle.racing_runner.specs.Offers.{IfTold, Tells}
use Rattle.recorder.specs.declared.options.Options.{Options}
use Rattle.recorder.specs.declared.record_fault.RecordFault.{RecordFault}
use Rattle.recorder.specs.declared.record_fault.RecordFault.TheVariants as faults
use Rattle.recorder.specs.declared.tally.AfterJudging.{AfterJudging}
use Rattle.recorder.specs.declared.tally.AfterJudging.TheVariants.{Committed, Over, Squashed}
use Rattle.recorder.specs.Faults.{RecordMetNoOther}
use Rattle.recorder.specs.Keeping.{HasStopped, InRound, Setting, SoFar, StepSays, Within}
use Rattle.recorder.specs.Racing.{AreResults, IsRaced, plan_of}
use Rattle.recorder.specs.Taking.{HasTaken, Holding, more_after, taking_outcome}
use Rattle.recorder.proofs.JobRuns.{of_jobs}
use Rattle.recorder.proofs.Drawings.{TakeLaws}
use Rattle.recorder.proofs.RoundRuns.{IsAll, RacedWith, Starts, StepLaws, begins_by, met_same, no_memory}
use Rattle.recorder.proofs.Takings.{all_over}
use Rattle.supply.specs.Supplied.{IsSupply, Supplied}

yes_is_committed : (last : Result AfterJudging RecordFault) → Yes ≡ more_after last → last ≡ Ok Committed
yes_is_committed (Ok Committed) is = refl
yes_is_committed (Ok Squashed) is = absurd cc
yes_is_committed (Ok Over) is = absurd cc
yes_is_committed (Err fault) is = absurd cc

item_at : {A : Type 0} (front : List A) (x : A) (later : List A) → slice_get (front ++ x ∷ later) (length front) ≡ Some x
item_at [] x later = refl
item_at (y ∷ front) x later = item_at front x later

-- ---- takes one after another

module _ {T : Type 0} (hold : T → Holding) (last_of : T → Result AfterJudging RecordFault) where
  abbrev pub Takes : T → Ran → More → T → Type 0
  Takes t ran more u = HasTaken (hold t) ran more (hold u) (last_of u)

  -- what a committer leaves of its devices
  pub record Leaves (t u : T) : Type 0 where
    pub others : (input : ℕ) → RecordMetNoOther (last_of u) (hold t).disk (hold u).disk (hold t).sink (hold u).sink input input
    pub no_input : last_of u ≡ Err faults.InputFault → ⊥
    pub disk_cause : last_of u ≡ Err faults.DiskFault → Rose (hold t).disk (hold u).disk
    pub sink_cause : last_of u ≡ Err faults.OutputFault → Rose (hold t).sink (hold u).sink
    pub disk_count : (hold t).disk ≤ (hold u).disk
    pub sink_count : (hold t).sink ≤ (hold u).sink

  -- nothing was met so far, and all results were committed
  pub record IsStill (t u : T) : Type 0 where
    pub disk : (hold u).disk ≡ (hold t).disk
    pub sink : (hold u).sink ≡ (hold t).sink
    pub every : (hold u).every ≡ (hold t).every
    pub last : last_of u ≡ Ok Committed
    pub judged : (hold u).core.judged ≡ length (hold u).core.jobs

  one_still : (t m : T) (ran : Ran) → Takes t ran Yes m → IsStill t m
  one_still t m ran took =
      let last = yes_is_committed (last_of m) took.more_is in
      let met = subst (λ (l : Result AfterJudging RecordFault). RecordMetNoOther l (hold t).disk (hold m).disk (hold t).sink (hold m).sink 0 0) last (took.others 0) in
      record { disk = met.0; sink = met.1; every = took.every; last = last; judged = (took.count last).1 }

  then_still : (t m u : T) → IsStill t m → IsStill m u → IsStill t u
  then_still t m u a b = record { disk = b.disk ∙ a.disk; sink = b.sink ∙ a.sink; every = b.every ∙ a.every; last = b.last; judged = b.judged }

  pub went_still : (t u : T) (results : List Ran) → IsStill t t → WentOn Takes t results u → IsStill t u
  went_still t u [] still went = subst (IsStill t) went still
  went_still t u (r ∷ rs) still went =
      let first = one_still t went.0 r went.1 in
      let here : IsStill went.0 went.0 = record { disk = refl; sink = refl; every = refl; last = first.last; judged = first.judged } in
      then_still t went.0 u first (went_still went.0 u rs here went.2)

  pub went_leaves : (t u : T) → IsStill t u → Leaves t u
  went_leaves t u still = record {
    others = λ input. subst (λ (l : Result AfterJudging RecordFault). RecordMetNoOther l (hold t).disk (hold u).disk (hold t).sink (hold u).sink input input) (sym still.last) (still.disk, still.sink, refl);
    no_input = λ is. (let bad = sym still.last ∙ is in absurd cc);
    disk_cause = λ is. (let bad = sym still.last ∙ is in absurd cc);
    sink_cause = λ is. (let bad = sym still.last ∙ is in absurd cc);
    disk_count = (let same = still.disk in omega (arith, same));
    sink_count = (let same = still.sink in omega (arith, same));
  }

  pub enough_leaves : (t u : T) (results : List Ran) → IsStill t t → HadEnough Takes t results u → Leaves t u
  enough_leaves t u results still had =
      let front = went_still t had.middle had.before still had.went_on in
      let took = had.took in
      record {
        others = λ input. subst (λ (n : ℕ). RecordMetNoOther (last_of u) n (hold u).disk (hold t).sink (hold u).sink input input) front.disk
            (subst (λ (n : ℕ). RecordMetNoOther (last_of u) (hold had.middle).disk (hold u).disk n (hold u).sink input input) front.sink (took.others input));
        no_input = took.no_input;
        disk_cause = λ is. subst (λ (n : ℕ). Rose n (hold u).disk) front.disk (took.disk_cause is);
        sink_cause = λ is. subst (λ (n : ℕ). Rose n (hold u).sink) front.sink (took.sink_cause is);
        disk_count = (let same = front.disk in let more = took.disk_count in omega (arith, same, more));
        sink_count = (let same = front.sink in let more = took.sink_count in omega (arith, same, more));
      }

  -- ---- in a round

  module _ (a : InRound) where
    abbrev pub Stands : T → Type 0
    Stands t = Within true a (hold t).history (hold t).core (hold t).journal (hold t).tally

    abbrev pub Says : T → Type 0
    Says u = StepSays a (hold u).history (hold u).core (hold u).journal (hold u).tally (last_of u)

    -- the next result of the round was taken
    one_says : (t u : T) (ran : Ran) (more : More) (front later : List Ran) → Takes t ran more u → Stands t → a.setting.options.mark ≡ (hold t).every → length (hold t).core.jobs ≡ length front → a.results ≡ front ++ ran ∷ later → Says u
    one_says t u ran more front later took stands every count all =
        took.says a every stands (ap (slice_get a.results) count ∙ ap (λ (l : List Ran). slice_get l (length front)) all ∙ item_at front ran later)

    pub went_on : (t u : T) (front results later : List Ran) → IsStill t t → Stands t → a.setting.options.mark ≡ (hold t).every → length (hold t).core.jobs ≡ length front → a.results ≡ front ++ (results ++ later) → WentOn Takes t results u
        → Stands u × (length (hold u).core.jobs ≡ length front + length results)
    went_on t u front [] later still stands every count all went =
        subst (λ (x : T). Stands x × (length (hold x).core.jobs ≡ length front + 0)) went (stands, omega (arith, count))
    went_on t u front (r ∷ rs) later still stands every count all went =
        let m = went.0 in
        let first = one_still t m r went.1 in
        let says = one_says t m r Yes front (rs ++ later) went.1 stands every count all in
        let there : Stands m = subst (λ (l : Result AfterJudging RecordFault). StepSays a (hold m).history (hold m).core (hold m).journal (hold m).tally l) first.last says in
        let here : IsStill m m = record { disk = refl; sink = refl; every = refl; last = first.last; judged = first.judged } in
        let more : length (hold m).core.jobs ≡ length (front ++ r ∷ []) = (let n = (went.1.count first.last).0 in let l = length-append front (r ∷ []) in omega (arith, n, count, l)) in
        let rest = went_on m u (front ++ r ∷ []) rs later here there (every ∙ sym first.every) more (all ∙ sym (append_assoc front (r ∷ []) (rs ++ later))) went.2 in
        (rest.0, (let n = rest.1 in let l = length-append front (r ∷ []) in omega (arith, n, l)))

    pub had_enough : (t u : T) (results : List Ran) → IsStill t t → Stands t → a.setting.options.mark ≡ (hold t).every → length (hold t).core.jobs ≡ 0 → a.results ≡ results → HadEnough Takes t results u → Says u
    had_enough t u results still stands every none all had =
        let whole : a.results ≡ had.before ++ had.last ∷ [] = all ∙ had.results_are in
        let front = went_on t had.middle [] had.before (had.last ∷ []) still stands every none whole had.went_on in
        let quiet = went_still t had.middle had.before still had.went_on in
        one_says had.middle u had.last Enough had.before [] had.took front.0 (every ∙ sym quiet.every) (let n = front.1 in omega (arith, n)) whole

-- ---- the results are those of a round

told_also : (o : Option (List Offer)) (P R : List Offer → Type 0) → ((list : List Offer) → P list → R list) → IfTold o P → IfTold o R
told_also None P R f h = tt
told_also (Some list) P R f h = f list h

module _ {Q T : Type 0} (tells : Q → Tells) (takes : T → Ran → More → T → Type 0) (options : Options) (first : ℕ) (s : State) (w : Supplied) (plan : Plan) (racer racer_after : Q) (taker taker_after : T) (answer : Result (Unit {0}) OutOfMemory)
    (streamed : Streamed tells takes w plan s racer racer_after taker taker_after answer) (plan_is : plan ≡ plan_of options first s) (left : s.steps < options.limit) where
  abbrev pub by_plan : Streamed tells takes w (plan_of options first s) s racer racer_after taker taker_after answer
  by_plan = subst (λ (p : Plan). Streamed tells takes w p s racer racer_after taker taker_after answer) plan_is streamed

  pub raced_by : (A : Type 0) → (A → IsWhole by_plan.offers by_plan.jobs by_plan.results) → RacedWith (tells racer) options first s w by_plan.results (tells racer_after) (IsAll A by_plan.results)
  raced_by A whole = (
    record {
      offers = by_plan.offers;
      told = told_also (tells racer s w (plan_of options first s)) _ _ (λ list p. p.1) by_plan.told;
      same = told_also (tells racer s w (plan_of options first s)) _ _ (λ list p. ap tells p.0) by_plan.told;
      few = by_plan.few;
      are_results = of_jobs options first s (s.steps + (options.limit - s.steps)) (omega (arith, left)) w 1 first s by_plan.offers by_plan.jobs by_plan.results by_plan.first by_plan.are_jobs
          (λ i ran e. (let job = by_plan.have_jobs i ran e in (job.0, suc i, job.1, job.2)));
    },
    λ holds. (let is = whole holds in let all = is.all in let last = is.last in omega (arith, all, last)),
  )

-- ---- how it ended

module _ {T : Type 0} (hold : T → Holding) (last_of : T → Result AfterJudging RecordFault) (setting : Setting) (later : Option Input) (after : Tells) (w : Supplied) (s : State) (squashes : ℕ) (offers : List Offer) (jobs : List (ℕ × Job)) (results : List Ran) (t u : T) where
  -- the recording goes on, or it stops
  abbrev pub Came : Result ℕ RecordFault → Type 0
  Came (Ok n) = SoFar setting later (hold u).history after (hold u).core.committed w (hold u).journal (hold u).tally (squashes + n) × (s.steps < (hold u).core.committed.steps)
  Came (Err fault) = HasStopped setting later (hold u).history fault

  abbrev in_round : Bool → InRound
  in_round whole = record { setting = setting; later = later; racer = after; supply = w; from = s; squashes = squashes; results = results; whole = whole }

  module _ (begins : (whole : Bool) → (whole ≡ true → IsWhole offers jobs results) → Stands hold last_of (in_round whole) t) (still : IsStill hold last_of t t) (every : setting.options.mark ≡ (hold t).every) (none : length (hold t).core.jobs ≡ 0) where
    -- the committer had enough
    by_last : (whole : Bool) (answer : Result (Unit {0}) OutOfMemory) (last : Result AfterJudging RecordFault) → Enough ≡ more_after last → StepSays (in_round whole) (hold u).history (hold u).core (hold u).journal (hold u).tally last → Came (taking_outcome last answer)
    by_last whole answer (Ok Committed) enough says = absurd cc
    by_last whole answer (Ok Squashed) enough says = says
    by_last whole answer (Ok Over) enough says =
        subst (λ (n : ℕ). SoFar setting later (hold u).history after (hold u).core.committed w (hold u).journal (hold u).tally n × (s.steps < (hold u).core.committed.steps)) (omega arith) says
    by_last whole answer (Err fault) enough says = says

    bad_whole : false ≡ true → IsWhole offers jobs results
    bad_whole bad = absurd cc

    when_enough : (answer : Result (Unit {0}) OutOfMemory) → HadEnough (Takes hold last_of) t results u → Came (taking_outcome (last_of u) answer)
    when_enough answer had =
        by_last false answer (last_of u) had.took.more_is (had_enough hold last_of (in_round false) t u results still (begins false bad_whole) every none refl had)

    -- it took all, or memory ran out
    module _ (whole : Bool) (is_whole : whole ≡ true → IsWhole offers jobs results) (went : WentOn (Takes hold last_of) t results u) where
      taken : Stands hold last_of (in_round whole) u × (length (hold u).core.jobs ≡ 0 + length results)
      taken = went_on hold last_of (in_round whole) t u [] results [] still (begins whole is_whole) every none (sym (append-nil results)) went

      last_is : last_of u ≡ Ok Committed
      last_is = (went_still hold last_of t u results still went).last

      all_judged : (hold u).core.judged ≡ length (hold u).core.jobs
      all_judged = (went_still hold last_of t u results still went).judged

    pub ended_so : (answer : Result (Unit {0}) OutOfMemory) → HasEnded (Takes hold last_of) offers jobs results t u answer → Came (taking_outcome (last_of u) answer)
    ended_so (Ok done) (inl p) =
        let there = taken true (λ yes. p.1) p.0 in
        let over = all_over (in_round true) (hold u).history (hold u).core (hold u).journal (hold u).tally there.0 (all_judged true (λ yes. p.1) p.0) refl (let n = there.1 in omega (arith, n)) in
        subst (λ (l : Result AfterJudging RecordFault). Came (taking_outcome l (Ok tt))) (sym (last_is true (λ yes. p.1) p.0))
        (subst (λ (n : ℕ). SoFar setting later (hold u).history after (hold u).core.committed w (hold u).journal (hold u).tally n × (s.steps < (hold u).core.committed.steps)) (omega arith) over)
    ended_so (Ok done) (inr had) = when_enough (Ok done) had
    ended_so (Err error) (inl went) =
        let there = taken false bad_whole went in
        subst (λ (l : Result AfterJudging RecordFault). Came (taking_outcome l (Err error))) (sym (last_is false bad_whole went))
        (no_memory (in_round false) (hold u).history (hold u).core (hold u).journal (hold u).tally there.0)
    ended_so (Err error) (inr had) = when_enough (Err error) had

module _ {T : Type 0} (hold : T → Holding) (last_of : T → Result AfterJudging RecordFault) (offers : List Offer) (jobs : List (ℕ × Job)) (results : List Ran) (t u : T) (still : IsStill hold last_of t t) where
  pub ended_leaves : (answer : Result (Unit {0}) OutOfMemory) → HasEnded (Takes hold last_of) offers jobs results t u answer → Leaves hold last_of t u
  ended_leaves (Ok done) (inl p) = went_leaves hold last_of t u (went_still hold last_of t u results still p.0)
  ended_leaves (Ok done) (inr had) = enough_leaves hold last_of t u results still had
  ended_leaves (Err error) (inl went) = went_leaves hold last_of t u (went_still hold last_of t u results still went)
  ended_leaves (Err error) (inr had) = enough_leaves hold last_of t u results still had

-- by the round's outcome
pub few_squashed : (last : Result AfterJudging RecordFault) (answer : Result (Unit {0}) OutOfMemory) (n : ℕ) → taking_outcome last answer ≡ Ok n → n ≤ 1
few_squashed (Ok Committed) (Ok done) n is = let e : 0 ≡ n = cc in omega (arith, e)
few_squashed (Ok Committed) (Err error) n is = absurd cc
few_squashed (Ok Squashed) answer n is = let e : 1 ≡ n = cc in omega (arith, e)
few_squashed (Ok Over) answer n is = let e : 0 ≡ n = cc in omega (arith, e)
few_squashed (Err fault) answer n is = absurd cc

module _ (B : Type 0) (disk disk_after sink sink_after input input_after : ℕ) (same : input_after ≡ input) where
  pub met_ok : (last : Result AfterJudging RecordFault) (answer : Result (Unit {0}) OutOfMemory) (n : ℕ) → taking_outcome last answer ≡ Ok n → RecordMetNoOther last disk disk_after sink sink_after 0 0 → (disk_after ≡ disk) × (sink_after ≡ sink) × (input_after ≡ input)
  met_ok (Ok next) answer n is met = (met.0, met.1, same)
  met_ok (Err fault) answer n is met = absurd cc

  pub met_err : (last : Result AfterJudging RecordFault) (answer : Result (Unit {0}) OutOfMemory) (fault : RecordFault) → taking_outcome last answer ≡ Err fault → RecordMetNoOther last disk disk_after sink sink_after 0 0
      → RecordMetNoOther {A = B} (Err fault) disk disk_after sink sink_after input input_after
  met_err (Ok Committed) (Ok done) fault is met = absurd cc
  met_err (Ok Committed) (Err error) fault is met = let e : faults.OutOfMemory ≡ fault = cc in subst (λ (f : RecordFault). RecordMetNoOther {A = B} (Err f) disk disk_after sink sink_after input input_after) e (met.0, met.1, same)
  met_err (Ok Squashed) answer fault is met = absurd cc
  met_err (Ok Over) answer fault is met = absurd cc
  met_err (Err f) answer fault is met =
      let e : f ≡ fault = cc in
      subst (λ (f : RecordFault). RecordMetNoOther {A = B} (Err f) disk disk_after sink sink_after input input_after) e (met_same AfterJudging B f disk disk disk_after sink sink sink_after 0 input input_after refl refl same met)

-- a fault that isn't `OutOfMemory` is that of the last result
pub fault_of_last : (last : Result AfterJudging RecordFault) (answer : Result (Unit {0}) OutOfMemory) (fault : RecordFault) → taking_outcome last answer ≡ Err fault → (fault ≡ faults.OutOfMemory) ⊎ (last ≡ Err fault)
fault_of_last (Ok Committed) (Ok done) fault is = absurd cc
fault_of_last (Ok Committed) (Err error) fault is = inl (let e : faults.OutOfMemory ≡ fault = cc in sym e)
fault_of_last (Ok Squashed) answer fault is = absurd cc
fault_of_last (Ok Over) answer fault is = absurd cc
fault_of_last (Err f) answer fault is = let e : f ≡ fault = cc in inr (ap (λ (x : RecordFault). Err x) e)

-- ---- a whole round

module _ {Q T : Type 0} (tells : Q → Tells) (hold : T → Holding) (last_of : T → Result AfterJudging RecordFault) (steps : StepLaws) (takes : TakeLaws) (starts : Starts) (a : Setting) (there later : Option Input) (racer racer_after : Q) (state : State) (w with_ : Supplied) (count : ℕ) (plan : Plan)
    (answer : Result (Unit {0}) OutOfMemory) (t u : T) (streamed : Streamed tells (Takes hold last_of) with_ plan state racer racer_after t u answer) (last_is : last_of t ≡ Ok Committed) (core_is : (hold t).core ≡ new_core state MAX_JOBS) where
  still_there : IsStill hold last_of t t
  still_there = record {
    disk = refl;
    sink = refl;
    every = refl;
    last = last_is;
    judged = ap (λ (c : Core). c.judged) core_is ∙ sym (ap (λ (c : Core). length c.jobs) core_is);
  }

  pub round_leaves : Leaves hold last_of t u
  round_leaves = ended_leaves hold last_of streamed.offers streamed.jobs streamed.results t u still_there answer streamed.ended

  pub round_came : (so_far : SoFar a there (hold t).history (tells racer) state w (hold t).journal (hold t).tally count) → (d : RoundInput) × (d.due ≡ input_due state w) × (with_ ≡ supply_of w d) × IfKnown (Drew d) there later → IsSupply with_ → has_ended state.end ≡ false
      → state.steps < a.options.limit → plan ≡ plan_of a.options (hold t).tally.first state → a.options.mark ≡ (hold t).every → Came hold last_of a later (tells racer_after) with_ state count [] [] [] t u (taking_outcome (last_of u) answer)
  round_came so_far drew is_supply going left plan_is every =
      let by = by_plan tells (Takes hold last_of) a.options (hold t).tally.first state with_ plan racer racer_after t u answer streamed plan_is left in
      ended_so hold last_of a later (tells racer_after) with_ state count by.offers by.jobs by.results t u
      (λ whole is_whole.
      begins_by steps a there later (hold t).history (tells racer) state w with_ (hold t).journal (hold t).tally count so_far drew is_supply takes starts going left (tells racer_after) by.results whole
      (raced_by tells (Takes hold last_of) a.options (hold t).tally.first state with_ plan racer racer_after t u answer streamed plan_is left (whole ≡ true) is_whole) (hold t).core core_is)
      still_there every (ap (λ (c : Core). length c.jobs) core_is) answer by.ended
