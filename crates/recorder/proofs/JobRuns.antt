-- The jobs of a round, and what became of them.
use Rattle.std.proofs.Common.{◌≡◌, ◌⊎◌, inl, inr, ℕ, zero, suc, ◌+◌, ◌<◌, ◌≤◌, true, false, List, [], ◌∷◌, ◌++◌, length, map, Option, Some, None, refl, sym, ◌∙◌, ap, subst, arith, slice_get}
use Rattle.std.specs.List.{AllByRecursion}
use Rattle.commit_core.specs.JudgedRound.{AreLinked, IsRoundJudged, RoundEnd, used_up}
use Rattle.epoch_pool.specs.declared.job.Job.{Job}
use Rattle.epoch_stream.specs.Offers as streams
use Rattle.epoch_stream.specs.Offers.{AreFirstOf}
use Rattle.epoch_stream.specs.Results.{IsResultOf}
use Rattle.epoch_record.specs.Epoch.{epoch_of}
use Rattle.epoch_runner.specs.Answering.{can_step}
use Rattle.epoch_runner.specs.declared.bounds.Bounds.{Bounds}
use Rattle.epoch_runner.specs.declared.epoch_run.EpochRun.{EpochRun}
use Rattle.epoch_runner.specs.declared.epoch_run.Ran.{Ran}
use Rattle.epoch_runner.specs.declared.epoch_run.Ran.TheVariants.{Epoch, Idle}
use Rattle.epoch_runner.specs.Running.{HasRun, HasRunEpoch}
use Rattle.guest_kernel.specs.declared.state.State.{State}
use Rattle.dp_base.proofs.Lists.{all_append}
use Rattle.dp_base.specs.Journal as journals
use Rattle.journal_text.specs.Records.{IsRecord, Record, epoch}
use Rattle.racing_runner.specs.Offers.{IfTold, Tells}
use Rattle.recorder.specs.Drawing.{Round, epochs_of_rounds, supply_of}
use Rattle.std.proofs.lemmas.List.{map-append}
use Rattle.racing_runner.specs.declared.offer.Offer.{Offer}
use Rattle.recorder.specs.declared.options.Options.{Options}
use Rattle.recorder.specs.Machine.{epochs_of_runs}
use Rattle.recorder.specs.Racing.{AreResults, job_bounds, plan_of}
use Rattle.recorder.specs.Recording.{EachIsRound, GoesOn, first_after}
use Rattle.supply.specs.Supplied.{Supplied}
use Rattle.sync_hints.specs.declared.hints.Hints.{Hints}
use Rattle.sync_hints.specs.NoHints.{no_hints}

-- a record of each epoch
abbrev pub records_in : List journals.Epoch → List Record
records_in epochs = map epoch epochs

module _ (options : Options) where
  job_ran : (first : ℕ) (s : State) (hints : Hints) (j : Job) (w : Supplied) (x : Ran) → j.start ≡ s → j.hints ≡ hints → j.bounds ≡ job_bounds options first s → IsResultOf w j x → HasRun s hints w (job_bounds options first s) x
  job_ran first s hints j w x start hints_are bounds h =
      subst (λ (b : Bounds). HasRun s hints w b x) bounds (subst (λ (k : Hints). HasRun s k w j.bounds x) hints_are (subst (λ (t : State). HasRun t j.hints w j.bounds x) start h))

  -- The first jobs of a round by the recording's plan have such results.
  module _ (n : ℕ) (from : State) (limit : ℕ) (limit_is : limit ≡ options.limit) (w : Supplied) where
    bounds_same : (first : ℕ) (s : State) → streams.bounds_for (plan_of options n from) limit first s ≡ job_bounds options first s
    bounds_same first s = ap (λ (l : ℕ). streams.bounds_for (plan_of options n from) l first s) limit_is

    one_of : (k first : ℕ) (s : State) (hints : Hints) (x : Ran) (y : ℕ × Job) (found : (job : Job) × (number : ℕ) × (Some y ≡ Some (number, job)) × IsResultOf w job x) → y.1.start ≡ s → y.1.hints ≡ hints
        → y.1.bounds ≡ streams.bounds_for (plan_of options n from) limit first y.1.start → HasRun s hints w (job_bounds options first s) x
    one_of k first s hints x y found start hints_are bounds =
        let pair : (found.1, found.0) ≡ y = let e = found.2 in cc in
        let same : found.0 ≡ y.1 = ap (λ (p : ℕ × Job). p.1) pair in
        job_ran first s hints y.1 w x start hints_are
        (bounds ∙ ap (λ (t : State). streams.bounds_for (plan_of options n from) limit first t) start ∙ bounds_same first s)
        (subst (λ (j : Job). IsResultOf w j x) same found.3)

    abbrev Have : List (ℕ × Job) → List Ran → Type 0
    Have jobs results = (i : ℕ) (ran : Ran) → slice_get results i ≡ Some ran → (job : Job) × (number : ℕ) × (slice_get jobs i ≡ Some (number, job)) × IsResultOf w job ran

    pub of_jobs : (k first : ℕ) (s : State) (offers : List Offer) (jobs : List (ℕ × Job)) (results : List Ran) → AreFirstOf s offers jobs → streams.AreJobs (plan_of options n from) limit k first jobs → Have jobs results
        → AreResults options first s offers w results
    of_jobs k first s offers jobs [] are_first are have = tt
    of_jobs k first s offers [] (x ∷ results) are_first are have = let bad = (have 0 x refl).2 in absurd cc
    of_jobs k first s [] (j ∷ []) (x ∷ []) are_first are have = one_of k first s no_hints x j (have 0 x refl) are_first.0 are_first.1 are.2
    of_jobs k first s [] (j ∷ []) (x ∷ y ∷ results) are_first are have = let bad = (have 1 y refl).2 in absurd cc
    of_jobs k first s [] (j ∷ i ∷ jobs) (x ∷ results) are_first are have = absurd are_first
    of_jobs k first s (o ∷ offers) (j ∷ jobs) (x ∷ results) are_first are have =
        (one_of k first s o.hints x j (have 0 x refl) are_first.0 are_first.1 are.2, of_jobs (suc k) 1 o.next offers jobs results are_first.2 are.3 (λ i ran e. have (suc i) ran e))

  -- the first of them are results too
  pub front_results : (first : ℕ) (s : State) (offers : List Offer) (w : Supplied) (xs ys : List Ran) → AreResults options first s offers w (xs ++ ys) → AreResults options first s offers w xs
  front_results first s offers w [] ys are = tt
  front_results first s [] w (x ∷ []) [] are = are
  front_results first s [] w (x ∷ []) (y ∷ ys) are = absurd are
  front_results first s [] w (x ∷ z ∷ xs) ys are = absurd are
  front_results first s (o ∷ offers) w (x ∷ xs) ys are = (are.0, front_results 1 o.next offers w xs ys are.1)

  -- at most one for each offer, and one for the round's start
  pub few_results : (first : ℕ) (s : State) (offers : List Offer) (w : Supplied) (results : List Ran) → AreResults options first s offers w results → length results ≤ length offers + 1
  few_results first s offers w [] are = omega arith
  few_results first s [] w (x ∷ []) are = omega arith
  few_results first s [] w (x ∷ y ∷ results) are = absurd are
  few_results first s (o ∷ offers) w (x ∷ results) are = let more = few_results 1 o.next offers w results are.1 in omega (arith, more)

  of_result : (first : ℕ) (s : State) (offers : List Offer) (w : Supplied) (runs : List EpochRun) (r : EpochRun) (more : List Ran) → AreResults options first s offers w (map Epoch runs ++ Epoch r ∷ more)
      → (f : ℕ) × (from : State) × (hints : Hints) × HasRunEpoch from hints w (job_bounds options f from) r
  of_result first s [] w [] r [] are = (first, s, no_hints, are)
  of_result first s [] w [] r (x ∷ more) are = absurd are
  of_result first s [] w (x ∷ []) r more are = absurd are
  of_result first s [] w (x ∷ y ∷ runs) r more are = absurd are
  of_result first s (o ∷ offers) w [] r more are = (first, s, o.hints, are.0)
  of_result first s (o ∷ offers) w (x ∷ runs) r more are = of_result 1 o.next offers w runs r more are.1

  -- an epoch among them that starts in a state was run from it
  pub next_run : (first : ℕ) (s : State) (offers : List Offer) (w : Supplied) (runs : List EpochRun) (r : EpochRun) (more : List Ran) (t : State) → AreResults options first s offers w (map Epoch runs ++ Epoch r ∷ more) → r.start ≡ t
      → (f : ℕ) × (hints : Hints) × HasRunEpoch t hints w (job_bounds options f t) r
  next_run first s offers w runs r more t are starts =
      let one = of_result first s offers w runs r more are in
      (one.0, one.2, subst (λ (x : State). HasRunEpoch x one.2 w (job_bounds options one.0 x) r) (sym one.3.from ∙ starts) one.3)

  -- ---- where the guest goes on, and can step with what the round has drawn, the first result is an epoch from its start

  module _ (s : State) (w : Supplied) (goes_on : GoesOn options s) (can : can_step s w ≡ true) where
    first_result : (first : ℕ) (hints : Hints) (x : Ran) → HasRun s hints w (job_bounds options first s) x → (r : EpochRun) × (x ≡ Epoch r) × (r.start ≡ s)
    first_result first hints (Epoch r) is = (r, refl, is.from)
    first_result first hints (Idle t) is = absurd (never is.why)
      where
        never : ((job_bounds options first s).steps ≡ 0) ⊎ (can_step s w ≡ false) → ⊥
        never (inl none) = omega (arith, none, goes_on.1, options.epoch_range.0)
        never (inr not) = let bad : true ≡ false = sym can ∙ not in cc

    first_epoch : (first : ℕ) (offers : List Offer) (results : List Ran) → AreResults options first s offers w results → 0 < length results → (r : EpochRun) × (more : List Ran) × (results ≡ Epoch r ∷ more) × (r.start ≡ s)
    first_epoch first offers [] are some = absurd (omega (arith, some))
    first_epoch first [] (x ∷ []) are some = let one = first_result first no_hints x are in (one.0, [], ap (λ (y : Ran). y ∷ []) one.1, one.2)
    first_epoch first [] (x ∷ y ∷ results) are some = absurd are
    first_epoch first (o ∷ offers) (x ∷ more) are some = let one = first_result first o.hints x are.0 in (one.0, more, ap (λ (y : Ran). y ∷ more) one.1, one.2)

    some_judged : (runs : List EpochRun) (t : State) (stop : RoundEnd) (r : EpochRun) (more : List Ran) → r.start ≡ s → IsRoundJudged s (Epoch r ∷ more) runs t stop → 0 < length runs
    some_judged [] t stop r more from j = absurd (j.0 from)
    some_judged (x ∷ runs) t stop r more from j = omega arith

    -- so a round commits one
    pub commits_one : (first : ℕ) (offers : List Offer) (results : List Ran) (runs : List EpochRun) (t : State) (stop : RoundEnd) → AreResults options first s offers w results → 0 < length results → IsRoundJudged s results runs t stop → 0 < length runs
    commits_one first offers results runs t stop are some judged =
        let one = first_epoch first offers results are some in
        some_judged runs t stop one.0 one.1 one.3 (subst (λ (l : List Ran). IsRoundJudged s l runs t stop) one.2 judged)

  -- ---- the epochs that are committed are records

  is_record : (s : State) (hints : Hints) (w : Supplied) (b : Bounds) (r x : EpochRun) → HasRunEpoch s hints w b r → x ≡ r → IsRecord (epoch (epoch_of x.epoch))
  is_record s hints w b r x is same = subst (λ (y : EpochRun). IsRecord (epoch (epoch_of y.epoch))) (sym same) (is.runs.is_epoch, is.runs.fits.1)

  pub records_ran : (first : ℕ) (s t u : State) (offers : List Offer) (w : Supplied) (results : List Ran) (runs : List EpochRun) (stop : RoundEnd) → AreResults options first s offers w results → IsRoundJudged t results runs u stop
      → AllByRecursion IsRecord (records_in (epochs_of_runs runs))
  records_ran first s t u offers w results [] stop are judged = tt
  records_ran first s t u offers w [] (x ∷ runs) stop are judged = absurd judged
  records_ran first s t u offers w (Idle y ∷ results) (x ∷ runs) stop are judged = absurd judged
  records_ran first s t u [] w (Epoch r ∷ []) (x ∷ []) stop are judged = (is_record s no_hints w (job_bounds options first s) r x are judged.1.0, tt)
  records_ran first s t u [] w (Epoch r ∷ []) (x ∷ y ∷ runs) stop are judged = absurd judged.1.1
  records_ran first s t u [] w (Epoch r ∷ z ∷ results) (x ∷ runs) stop are judged = absurd are
  records_ran first s t u (o ∷ offers) w (Epoch r ∷ results) (x ∷ runs) stop are judged =
      (is_record s o.hints w (job_bounds options first s) r x are.0 judged.1.0, records_ran 1 o.next r.end u offers w results runs stop are.1 judged.1.1)

-- those of rounds are
pub are_records : (options : Options) (tells after : Tells) (first : ℕ) (s t : State) (w : Supplied) (rounds : List Round) → EachIsRound tells options first s w rounds t after → AllByRecursion IsRecord (records_in (epochs_of_rounds rounds))
are_records options tells after first s t w [] each = tt
are_records options tells after first s t w (r ∷ rounds) each =
    let is = each.4 in
    let these = subst (λ (l : List journals.Epoch). AllByRecursion IsRecord (records_in l)) (sym is.epochs_are)
    (records_ran options first s s each.2 is.raced.offers (supply_of w r.draw) is.results is.runs is.stop is.raced.are_results is.judged) in
    subst (λ (l : List Record). AllByRecursion IsRecord l) (sym (map-append epoch r.epochs (epochs_of_rounds rounds)))
    (all_append IsRecord (records_in r.epochs) (records_in (epochs_of_rounds rounds)) these (are_records options each.3 after (first_after first r.epochs) each.2 t (supply_of w r.draw) rounds each.5))

-- ---- results judged in order

-- what follows the committed epochs
pub cancel : (runs : List EpochRun) (r : EpochRun) (rest more : List Ran) → map Epoch runs ++ rest ≡ map Epoch (runs ++ r ∷ []) ++ more → rest ≡ Epoch r ∷ more
cancel [] r rest more e = e
cancel (x ∷ runs) r rest more e = let others : map Epoch runs ++ rest ≡ map Epoch (runs ++ r ∷ []) ++ more = cc in cancel runs r rest more others

pub same_end : (s t u : State) (runs : List EpochRun) → AreLinked s runs t → AreLinked s runs u → t ≡ u
same_end s t u [] a b = a ∙ sym b
same_end s t u (r ∷ runs) a b = same_end r.end t u runs a.1 b.1

pub starts_there : (s t u : State) (runs : List EpochRun) (r : EpochRun) → AreLinked s (runs ++ r ∷ []) t → AreLinked s runs u → r.start ≡ u
starts_there s t u [] r a b = a.0 ∙ sym b
starts_there s t u (x ∷ runs) r a b = starts_there x.end t u runs r a.1 b.1

-- the committed state is where they end
pub judged_links : (s t : State) (results : List Ran) (runs : List EpochRun) (stop : RoundEnd) → IsRoundJudged s results runs t stop → AreLinked s runs t
judged_links s t [] [] stop j = j.0
judged_links s t [] (y ∷ runs) stop j = absurd j
judged_links s t (Epoch r ∷ results) [] stop j = j.1.0
judged_links s t (Epoch r ∷ results) (x ∷ runs) stop j =
    let same : r ≡ x = sym j.1.0 in
    (sym (ap (λ (y : EpochRun). y.start) same) ∙ j.0, subst (λ (y : EpochRun). AreLinked y.end runs t) same (judged_links r.end t results runs stop j.1.1))
judged_links s t (Idle x ∷ results) [] stop j = j.0
judged_links s t (Idle x ∷ results) (y ∷ runs) stop j = absurd j

-- a result ended the round, or all were judged
pub some_results : (s t : State) (results : List Ran) (runs : List EpochRun) (stop : RoundEnd) → IsRoundJudged s results runs t stop → (stop ≡ used_up → 0 < length results) → 0 < length results
some_results s t [] [] stop j some = some j.1
some_results s t [] (x ∷ runs) stop j some = absurd j
some_results s t (x ∷ results) runs stop j some = omega arith

-- where all of them are committed
pub judged_all : (s t : State) (runs : List EpochRun) → AreLinked s runs t → IsRoundJudged s (map Epoch runs) runs t used_up
judged_all s t [] linked = (linked, refl)
judged_all s t (r ∷ runs) linked = (linked.0, (refl, judged_all r.end t runs linked.1))

-- ---- what a racer tells

pub told_same : {A : Type 0} (o : Option (List Offer)) (f : A → Tells) (x y : A) → IfTold o (λ list. x ≡ y) → IfTold o (λ list. f x ≡ f y)
told_same None f x y h = tt
told_same (Some l) f x y h = ap f h
