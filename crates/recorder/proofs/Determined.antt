-- A racer that tells its offers leaves no choice, and one that offers nothing runs rounds of one job.
use Rattle.std.proofs.Common.{◌≡◌, ◌≢◌, ◌⊎◌, inl, inr, ℕ, ◌+◌, ◌-◌, ◌<◌, ◌≤◌, Bool, true, false, List, [], ◌∷◌, ◌++◌, length, map, take, Option, Some, refl, sym, ◌∙◌, ap, subst, append_assoc, arith}
use Rattle.std.proofs.Math.Seq.{take-nil}
use Rattle.std.proofs.lemmas.List.{append-nil}
use Rattle.commit_core.specs.JudgedRound.{AreLinked, IsRoundJudged, RoundEnd, over, squashed, used_up}
use Rattle.dp_base.specs.Journal as journals
use Rattle.epoch_record.specs.Epoch.{epoch_of}
use Rattle.epoch_runner.specs.Answering.{can_step}
use Rattle.epoch_runner.specs.declared.bounds.Bounds.{Bounds}
use Rattle.epoch_runner.specs.declared.epoch_run.EpochRun.{EpochRun}
use Rattle.epoch_runner.specs.declared.epoch_run.Ran.{Ran}
use Rattle.epoch_runner.specs.declared.epoch_run.Ran.TheVariants.{Epoch, Idle}
use Rattle.epoch_runner.specs.Running.{HasRun, HasRunEpoch}
use Rattle.guest_kernel.specs.declared.state.State.{State}
use Rattle.racing_runner.specs.declared.offer.Offer.{Offer}
use Rattle.racing_runner.specs.declared.plan.Plan.{Plan}
use Rattle.racing_runner.specs.Offers.{IfTold, Tells}
use Rattle.recorder.specs.declared.options.Options.{Options}
use Rattle.recorder.specs.Drawing.{RoundInput, Round, round_inputs_of, epochs_of_rounds, supply_after, supply_of}
use Rattle.recorder.specs.Machine.{epochs_of_runs}
use Rattle.recorder.specs.Racing.{AreResults, IsRaced, job_bounds, plan_of}
use Rattle.dp_base.specs.Encoding.{IsPrefixOf}
use Rattle.recorder.specs.Recording.{EachIsNextEpoch, EachIsRound, IsNextEpoch, IsRound, Run, RunOn, TellsAll, round_inputs, round_inputs_on, epochs, first_after, thread_after, first_next, is_squash, supply}
use Rattle.recorder.proofs.Alike.{IsDetermined}
use Rattle.recorder.proofs.JobRuns.{few_results}
use Rattle.recorder.proofs.RunLists.{epochs-append, first-append}
use Rattle.supply.specs.Supplied.{Supplied, empty}
use Rattle.supply.specs.declared.TheConstants.{MAX_ROOM}
use Rattle.sync_hints.specs.declared.hints.Hints.{Hints}
use Rattle.sync_hints.specs.NoHints.{no_hints}

abbrev IsSame : Ran → Ran → Type 0
IsSame (Epoch r) (Epoch q) = (r.start ≡ q.start) × (epoch_of r.epoch ≡ epoch_of q.epoch) × (r.end ≡ q.end)
IsSame (Idle s) (Idle t) = s ≡ t
IsSame (Epoch r) (Idle t) = ⊥
IsSame (Idle s) (Epoch q) = ⊥

-- as far as both go
abbrev AgreeOn : List Ran → List Ran → Type 0
AgreeOn [] ys = Unit {0}
AgreeOn (x ∷ xs) [] = Unit {0}
AgreeOn (x ∷ xs) (y ∷ ys) = IsSame x y × AgreeOn xs ys

module _ (law : IsDetermined) (options : Options) (w : Supplied) where
  -- an epoch is run or it isn't
  never : (s : State) (b : Bounds) → 0 < b.steps → can_step s w ≡ true → (b.steps ≡ 0) ⊎ (can_step s w ≡ false) → ⊥
  never s b some can (inl none) = omega (arith, some, none)
  never s b some can (inr not) = let bad : true ≡ false = sym can ∙ not in cc

  one_result : (s : State) (hints : Hints) (b : Bounds) (x y : Ran) → HasRun s hints w b x → HasRun s hints w b y → IsSame x y
  one_result s hints b (Epoch r) (Epoch q) is there =
      let same = law s hints w b (epoch_of r.epoch) (epoch_of q.epoch) r.out q.out r.end q.end is.scheduled there.scheduled in
      (is.from ∙ sym there.from, same.0, same.2)
  one_result s hints b (Idle t) (Idle u) is there = is.same ∙ sym there.same
  one_result s hints b (Epoch r) (Idle u) is there = absurd (never s b is.some_steps is.could_step there.why)
  one_result s hints b (Idle t) (Epoch q) is there = absurd (never s b there.some_steps there.could_step is.why)

  all_results : (first : ℕ) (s : State) (offers : List Offer) (xs ys : List Ran) → AreResults options first s offers w xs → AreResults options first s offers w ys → AgreeOn xs ys
  all_results first s offers [] ys is there = tt
  all_results first s offers (x ∷ xs) [] is there = tt
  all_results first s [] (x ∷ z ∷ xs) (y ∷ ys) is there = absurd is
  all_results first s [] (x ∷ []) (y ∷ z ∷ ys) is there = absurd there
  all_results first s [] (x ∷ []) (y ∷ []) is there = (one_result s no_hints (job_bounds options first s) x y is there, tt)
  all_results first s (o ∷ offers) (x ∷ xs) (y ∷ ys) is there = (one_result s o.hints (job_bounds options first s) x y is.0 there.0, all_results 1 o.next offers xs ys is.1 there.1)

-- ---- judged

abbrev AreEqual : List EpochRun → State → RoundEnd → List EpochRun → State → RoundEnd → Type 0
AreEqual runs t stop others u other = (epochs_of_runs runs ≡ epochs_of_runs others) × (t ≡ u) × (stop ≡ other)

-- so many results at most, and as many if no result ended the round
record IsFull (count : ℕ) (xs : List Ran) (stop : RoundEnd) : Type 0 where
  few : length xs ≤ count
  full : stop ≡ used_up → length xs ≡ count

fewer : (count : ℕ) (x : Ran) (xs : List Ran) (stop : RoundEnd) → IsFull count (x ∷ xs) stop → IsFull (count - 1) xs stop
fewer count x xs stop is = record { few = (let few = is.few in omega (arith, few)); full = λ up. (let all = is.full up in omega (arith, all)) }

-- one list can't go on where the other is used up
too_few : (count : ℕ) (x : Ran) (xs : List Ran) (stop other : RoundEnd) → stop ≡ used_up → IsFull count [] stop → IsFull count (x ∷ xs) other → ⊥
too_few count x xs stop other up is there = let none = is.full up in let few = there.few in omega (arith, none, few)

same_judged : (s : State) (count : ℕ) (xs ys : List Ran) (runs others : List EpochRun) (t u : State) (stop other : RoundEnd) → AgreeOn xs ys → IsFull count xs stop → IsFull count ys other → IsRoundJudged s xs runs t stop → IsRoundJudged s ys others u other
    → AreEqual runs t stop others u other
same_judged s count [] [] [] [] t u stop other same f g is there = (refl, is.0 ∙ sym there.0, is.1 ∙ sym there.1)
same_judged s count (Epoch r ∷ xs) (Epoch q ∷ ys) (x ∷ runs) (y ∷ others) t u stop other same f g is there =
    let rest = same_judged r.end (count - 1) xs ys runs others t u stop other same.1 (fewer count (Epoch r) xs stop f) (fewer count (Epoch q) ys other g) is.1.1
    (subst (λ (z : State). IsRoundJudged z ys others u other) (sym same.0.2) there.1.1) in
    let first : epoch_of x.epoch ≡ epoch_of y.epoch = ap (λ (z : EpochRun). epoch_of z.epoch) is.1.0 ∙ same.0.1 ∙ ap (λ (z : EpochRun). epoch_of z.epoch) (sym there.1.0) in
    (ap (λ (e : journals.Epoch). e ∷ epochs_of_runs runs) first ∙ ap (λ (l : List journals.Epoch). epoch_of y.epoch ∷ l) rest.0, rest.1, rest.2)
same_judged s count (Epoch r ∷ xs) (Epoch q ∷ ys) [] [] t u stop other same f g is there = (refl, is.1.0 ∙ sym there.1.0, is.1.1 ∙ sym there.1.1)
same_judged s count (Epoch r ∷ xs) (Epoch q ∷ ys) (x ∷ runs) [] t u stop other same f g is there = absurd (there.0 (sym same.0.0 ∙ is.0))
same_judged s count (Epoch r ∷ xs) (Epoch q ∷ ys) [] (y ∷ others) t u stop other same f g is there = absurd (is.0 (same.0.0 ∙ there.0))
same_judged s count (Idle x ∷ xs) (Idle y ∷ ys) [] [] t u stop other same f g is there = (refl, is.0 ∙ sym there.0, by_start is.1 there.1)
  where
    by_start : ((x ≡ s) × (stop ≡ over)) ⊎ ((x ≢ s) × (stop ≡ squashed)) → ((y ≡ s) × (other ≡ over)) ⊎ ((y ≢ s) × (other ≡ squashed)) → stop ≡ other
    by_start (inl p) (inl o) = p.1 ∙ sym o.1
    by_start (inr p) (inr o) = p.1 ∙ sym o.1
    by_start (inl p) (inr o) = absurd (o.0 (sym same.0 ∙ p.0))
    by_start (inr p) (inl o) = absurd (p.0 (same.0 ∙ o.0))
same_judged s count (Idle x ∷ xs) (Idle y ∷ ys) (z ∷ runs) others t u stop other same f g is there = absurd is
same_judged s count (Idle x ∷ xs) (Idle y ∷ ys) [] (z ∷ others) t u stop other same f g is there = absurd there
same_judged s count [] [] (z ∷ runs) others t u stop other same f g is there = absurd is
same_judged s count [] [] [] (z ∷ others) t u stop other same f g is there = absurd there
same_judged s count [] (y ∷ ys) [] others t u stop other same f g is there = absurd (too_few count y ys stop other is.1 f g)
same_judged s count [] (y ∷ ys) (z ∷ runs) others t u stop other same f g is there = absurd is
same_judged s count (x ∷ xs) [] runs [] t u stop other same f g is there = absurd (too_few count x xs other stop there.1 g f)
same_judged s count (x ∷ xs) [] runs (z ∷ others) t u stop other same f g is there = absurd there
same_judged s count (Epoch r ∷ xs) (Idle y ∷ ys) runs others t u stop other same f g is there = absurd same.0
same_judged s count (Idle x ∷ xs) (Epoch q ∷ ys) runs others t u stop other same f g is there = absurd same.0

-- ---- rounds

told_by : (o : Option (List Offer)) (list : List Offer) (P : List Offer → Type 0) → o ≡ Some list → IfTold o P → P list
told_by o list P is h = subst (λ (x : Option (List Offer)). IfTold x P) is h

module _ (law : IsDetermined) (options : Options) where
  one_round : (tells : Tells) → TellsAll tells → (first : ℕ) (s : State) (w : Supplied) (r q : Round) (t u : State) (after other : Tells) → IsRound tells options first s w r t after → IsRound tells options first s w q u other
      → (r.epochs ≡ q.epochs) × (t ≡ u) × (r.squashed ≡ q.squashed) × (after ≡ tells) × (other ≡ tells)
  one_round tells all_told first s w r q t u after other a b =
      let list : List Offer = (all_told s w (plan_of options first s)).0 in
      let told = (all_told s w (plan_of options first s)).1 in
      let offers : a.raced.offers ≡ b.raced.offers = told_by (tells s w (plan_of options first s)) list (λ l. a.raced.offers ≡ take (options.ahead - 1) l) told a.raced.told
      ∙ sym (told_by (tells s w (plan_of options first s)) list (λ l. b.raced.offers ≡ take (options.ahead - 1) l) told b.raced.told) in
      let theirs = subst (λ (l : List Offer). AreResults options first s l w b.results) (sym offers) b.raced.are_results in
      let same = all_results law options w first s a.raced.offers a.results b.results a.raced.are_results theirs in
      let count : ℕ = length a.raced.offers + 1 in
      let mine_full : IsFull count a.results a.stop = record { few = few_results options first s a.raced.offers w a.results a.raced.are_results; full = a.all } in
      let their_full : IsFull count b.results b.stop = record { few = few_results options first s a.raced.offers w b.results theirs; full = λ up. b.all up ∙ ap (λ (l : List Offer). length l + 1) (sym offers) } in
      let judged = same_judged s count a.results b.results a.runs b.runs t u a.stop b.stop same mine_full their_full a.judged b.judged in (
        a.epochs_are ∙ judged.0 ∙ sym b.epochs_are,
        judged.1,
        a.squashed_is ∙ ap is_squash judged.2 ∙ sym b.squashed_is,
        told_by (tells s w (plan_of options first s)) list (λ l. after ≡ tells) told a.raced.same,
        told_by (tells s w (plan_of options first s)) list (λ l. other ≡ tells) told b.raced.same,
      )

  same_round : (r q : Round) → r.draw ≡ q.draw → r.epochs ≡ q.epochs → r.squashed ≡ q.squashed → r ≡ q
  same_round r q a b c =
      ap (λ (x : RoundInput). record { draw = x; epochs = r.epochs; squashed = r.squashed }) a ∙ ap (λ (x : List journals.Epoch). record { draw = q.draw; epochs = x; squashed = r.squashed }) b
      ∙ ap (λ (x : Bool). record { draw = q.draw; epochs = q.epochs; squashed = x }) c

  -- a longer run that drew the same at first has the same rounds at first
  pub split_rounds : (tells : Tells) → TellsAll tells → (first : ℕ) (s : State) (w : Supplied) (xs ys : List Round) (t u : State) (after other : Tells) (more : List RoundInput) → round_inputs_of ys ≡ round_inputs_of xs ++ more
      → EachIsRound tells options first s w xs t after → EachIsRound tells options first s w ys u other
      → (zs : List Round) × (ys ≡ xs ++ zs) × (round_inputs_of zs ≡ more) × (after ≡ tells) × EachIsRound tells options (first_after first (epochs_of_rounds xs)) t (supply_after w (round_inputs_of xs)) zs u other
  split_rounds tells all_told first s w [] ys t u after other more round_inputs a b =
      (ys, refl, round_inputs, a.1, subst (λ (z : State). EachIsRound tells options first z w ys u other) (sym a.0) b)
  split_rounds tells all_told first s w (x ∷ xs) [] t u after other more round_inputs a b = absurd cc
  split_rounds tells all_told first s w (x ∷ xs) (y ∷ ys) t u after other more round_inputs a b =
      let draw : x.draw ≡ y.draw = cc in
      let later : round_inputs_of ys ≡ round_inputs_of xs ++ more = cc in
      let is : IsRound tells options first s (supply_of w x.draw) y b.2 b.3 = subst (λ (d : RoundInput). IsRound tells options first s (supply_of w d) y b.2 b.3) (sym draw) b.4 in
      let same = one_round tells all_told first s (supply_of w x.draw) x y a.2 b.2 a.3 b.3 a.4 is in
      let mine = subst (λ (k : Tells). EachIsRound k options (first_after first x.epochs) a.2 (supply_of w x.draw) xs t after) same.3 a.5 in
      let theirs = subst (λ (k : Tells). EachIsRound k options (first_after first y.epochs) b.2 (supply_of w y.draw) ys u other) same.4 b.5 in
      let moved = subst (λ (d : RoundInput). EachIsRound tells options (first_after first y.epochs) b.2 (supply_of w d) ys u other) (sym draw) theirs in
      let from = subst (λ (z : State). EachIsRound tells options (first_after first y.epochs) z (supply_of w x.draw) ys u other) (sym same.1) moved in
      let there = subst (λ (l : List journals.Epoch). EachIsRound tells options (first_after first l) a.2 (supply_of w x.draw) ys u other) (sym same.0) from in
      let rest = split_rounds tells all_told (first_after first x.epochs) a.2 (supply_of w x.draw) xs ys t u after other more later mine there in (
        rest.0,
        ap (λ (r : Round). r ∷ ys) (sym (same_round x y draw same.0 same.2)) ∙ ap (λ (l : List Round). x ∷ l) rest.1,
        rest.2,
        rest.3,
        subst (λ (n : ℕ). EachIsRound tells options n t (supply_after (supply_of w x.draw) (round_inputs_of xs)) rest.0 u other) (sym (first-append first x.epochs (epochs_of_rounds xs))) rest.4,
      )

  -- the same draws leave the same rounds
  pub all_rounds : (tells : Tells) → TellsAll tells → (first : ℕ) (s : State) (w : Supplied) (xs ys : List Round) (t u : State) (after other : Tells) → round_inputs_of xs ≡ round_inputs_of ys
      → EachIsRound tells options first s w xs t after → EachIsRound tells options first s w ys u other → (xs ≡ ys) × (t ≡ u)
  all_rounds tells all_told first s w xs ys t u after other round_inputs a b =
      let split = split_rounds tells all_told first s w xs ys t u after other [] (sym round_inputs ∙ sym (append-nil (round_inputs_of xs))) a b in
      none split.0 (first_after first (epochs_of_rounds xs)) (supply_after w (round_inputs_of xs)) split.1 split.2 split.4
    where
      none : (zs : List Round) (n : ℕ) (v : Supplied) → ys ≡ xs ++ zs → round_inputs_of zs ≡ [] → EachIsRound tells options n t v zs u other → (xs ≡ ys) × (t ≡ u)
      none [] n v is bare each = (sym (is ∙ append-nil xs), sym each.0)
      none (z ∷ zs) n v is bare each = absurd cc

  -- ---- a round that isn't over

  front_of : (s : State) (count : ℕ) (runs : List EpochRun) (rest ys : List Ran) (others : List EpochRun) (t u : State) (stop : RoundEnd) → AgreeOn (map Epoch runs ++ rest) ys → length (map Epoch runs ++ rest) ≤ count → IsFull count ys stop
      → AreLinked s runs t → IsRoundJudged s ys others u stop → IsPrefixOf (epochs_of_runs runs) (epochs_of_runs others)
  front_of s count [] rest ys others t u stop same few full linked judged = (epochs_of_runs others, refl)
  front_of s count (r ∷ runs) rest [] [] t u stop same few full linked judged = absurd (let none = full.full judged.1 in omega (arith, none, few))
  front_of s count (r ∷ runs) rest [] (x ∷ others) t u stop same few full linked judged = absurd judged
  front_of s count (r ∷ runs) rest (Idle y ∷ ys) others t u stop same few full linked judged = absurd same.0
  front_of s count (r ∷ runs) rest (Epoch q ∷ ys) [] t u stop same few full linked judged = absurd (judged.0 (sym same.0.0 ∙ linked.0))
  front_of s count (r ∷ runs) rest (Epoch q ∷ ys) (x ∷ others) t u stop same few full linked judged =
      let more = front_of r.end (count - 1) runs rest ys others t u stop same.1 (omega (arith, few)) (fewer count (Epoch q) ys stop full) linked.1 (subst (λ (z : State). IsRoundJudged z ys others u stop) (sym same.0.2) judged.1.1) in
      let first : epoch_of x.epoch ≡ epoch_of r.epoch = ap (λ (z : EpochRun). epoch_of z.epoch) judged.1.0 ∙ sym same.0.1 in
      (more.0, ap (λ (e : journals.Epoch). e ∷ epochs_of_runs others) first ∙ ap (λ (l : List journals.Epoch). epoch_of r.epoch ∷ l) more.1)

  module _ (start : State) (tells : Tells) (all_told : TellsAll tells) (on : RunOn tells options start) (q : Run tells options start) (later : List RoundInput) (draws_are : round_inputs q ≡ round_inputs_on on ++ later) where
    -- its committed epochs, these or one more, are the first ones of a run that drew the same
    pub committed_first : (runs : List EpochRun) (rest : List Ran) (end : State) → on.results ≡ map Epoch runs ++ rest → AreLinked on.run.end runs end → IsPrefixOf (epochs on.run ++ epochs_of_runs runs) (epochs q)
    committed_first runs rest end all linked = by_rounds split.0 split.1 split.2 split.4
      where
        split : (zs : List Round) × (q.rounds ≡ on.run.rounds ++ zs) × (round_inputs_of zs ≡ on.draw ∷ later) × (on.run.racer ≡ tells) × EachIsRound tells options (first_next on.run) on.run.end (supply on.run) zs q.end q.racer
        split = split_rounds tells all_told 1 start (empty MAX_ROOM) on.run.rounds q.rounds on.run.end q.end on.run.racer q.racer (on.draw ∷ later) (draws_are ∙ append_assoc (round_inputs on.run) (on.draw ∷ []) later) on.run.each q.each

        by_rounds : (zs : List Round) → q.rounds ≡ on.run.rounds ++ zs → round_inputs_of zs ≡ on.draw ∷ later → EachIsRound tells options (first_next on.run) on.run.end (supply on.run) zs q.end q.racer
            → IsPrefixOf (epochs on.run ++ epochs_of_runs runs) (epochs q)
        by_rounds [] is drew each = absurd cc
        by_rounds (z ∷ zs) is drew each =
            let draw : z.draw ≡ on.draw = cc in
            let w : Supplied = supply_of (supply on.run) on.draw in
            let s : State = on.run.end in
            let first : ℕ = first_next on.run in
            let mine : IsRaced tells options first s w on.results on.after = subst (λ (k : Tells). IsRaced k options first s w on.results on.after) split.3 on.raced in
            let theirs : IsRound tells options first s w z each.2 each.3 = subst (λ (d : RoundInput). IsRound tells options first s (supply_of (supply on.run) d) z each.2 each.3) draw each.4 in
            let told = (all_told s w (plan_of options first s)) in
            let offers : mine.offers ≡ theirs.raced.offers = told_by (tells s w (plan_of options first s)) told.0 (λ l. mine.offers ≡ take (options.ahead - 1) l) told.1 mine.told
            ∙ sym (told_by (tells s w (plan_of options first s)) told.0 (λ l. theirs.raced.offers ≡ take (options.ahead - 1) l) told.1 theirs.raced.told) in
            let others = subst (λ (l : List Offer). AreResults options first s l w theirs.results) (sym offers) theirs.raced.are_results in
            let same = all_results law options w first s mine.offers on.results theirs.results mine.are_results others in
            let count : ℕ = length mine.offers + 1 in
            let few = few_results options first s mine.offers w on.results mine.are_results in
            let full : IsFull count theirs.results theirs.stop = record { few = few_results options first s mine.offers w theirs.results others; full = λ up. theirs.all up ∙ ap (λ (l : List Offer). length l + 1) (sym offers) } in
            let front = front_of s count runs rest theirs.results theirs.runs end each.2 theirs.stop (subst (λ (l : List Ran). AgreeOn l theirs.results) all same) (omega (arith, few, ap (λ (l : List Ran). length l) all)) full linked theirs.judged in (
              front.0 ++ epochs_of_rounds zs,
              ap (λ (l : List Round). epochs_of_rounds l) is ∙ epochs-append on.run.rounds (z ∷ zs)
                  ∙ ap (λ (l : List journals.Epoch). epochs on.run ++ (l ++ epochs_of_rounds zs)) (theirs.epochs_are ∙ front.1)
                  ∙ ap (λ (l : List journals.Epoch). epochs on.run ++ l) (append_assoc (epochs_of_runs runs) front.0 (epochs_of_rounds zs))
                  ∙ sym (append_assoc (epochs on.run) (epochs_of_runs runs) (front.0 ++ epochs_of_rounds zs)),
            )

-- ---- a racer that offers nothing

module _ (options : Options) (tells : Tells) (idle : (s : State) (w : Supplied) (p : Plan) → tells s w p ≡ Some []) where
  no_offers : (o : List Offer) → o ≡ take (options.ahead - 1) [] → o ≡ []
  no_offers o is = is ∙ take-nil (options.ahead - 1)

  next_of : (first : ℕ) (s : State) (w : Supplied) (r : EpochRun) → HasRunEpoch s no_hints w (job_bounds options first s) r → IsNextEpoch options first s w (epoch_of r.epoch) r.end r.out
  next_of first s w r is = record { bounds = job_bounds options first s; steps = refl; slice = refl; first_is = refl; scheduled = is.scheduled; is_epoch = is.runs.is_epoch; fits = is.runs.fits }

  -- a round of one job
  one_job : (first : ℕ) (s t : State) (w : Supplied) (r : Round) (results : List Ran) (runs : List EpochRun) (stop : RoundEnd) → AreResults options first s [] w results → IsRoundJudged s results runs t stop → 0 < length runs
      → r.epochs ≡ epochs_of_runs runs → r.squashed ≡ is_squash stop → (e : journals.Epoch) × (output : List ℕ) × (r.epochs ≡ e ∷ []) × (r.squashed ≡ false) × IsNextEpoch options first s w e t output
  one_job first s t w r [] [] stop are judged some epochs_are squash = absurd (omega (arith, some))
  one_job first s t w r [] (x ∷ runs) stop are judged some epochs_are squash = absurd judged
  one_job first s t w r (x ∷ y ∷ results) runs stop are judged some epochs_are squash = absurd are
  one_job first s t w r (x ∷ []) [] stop are judged some epochs_are squash = absurd (omega (arith, some))
  one_job first s t w r (Idle x ∷ []) (y ∷ runs) stop are judged some epochs_are squash = absurd judged
  one_job first s t w r (Epoch q ∷ []) (x ∷ y ∷ runs) stop are judged some epochs_are squash = absurd judged.1.1
  one_job first s t w r (Epoch q ∷ []) (x ∷ []) stop are judged some epochs_are squash = (
    epoch_of q.epoch,
    q.out,
    epochs_are ∙ ap (λ (z : EpochRun). epoch_of z.epoch ∷ []) judged.1.0,
    squash ∙ ap is_squash judged.1.1.1,
    subst (λ (z : State). IsNextEpoch options first s w (epoch_of q.epoch) z q.out) (sym judged.1.1.0) (next_of first s w q are),
  )

  idle_again : (mid : Tells) → mid ≡ tells → (s : State) (w : Supplied) (p : Plan) → mid s w p ≡ Some []
  idle_again mid same s w p = ap (λ (k : Tells). k s w p) same ∙ idle s w p

  pub each_one : (first : ℕ) (s t : State) (w : Supplied) (rounds : List Round) (after : Tells) → EachIsRound tells options first s w rounds t after → EachIsNextEpoch options first s w rounds
  each_one first s t w [] after each = tt
  each_one first s t w (r ∷ rounds) after each =
      let is = each.4 in
      let none : is.raced.offers ≡ [] = no_offers is.raced.offers (told_by (tells s (supply_of w r.draw) (plan_of options first s)) [] (λ l. is.raced.offers ≡ take (options.ahead - 1) l) (idle s (supply_of w r.draw) (plan_of options first s)) is.raced.told) in
      let same : each.3 ≡ tells = told_by (tells s (supply_of w r.draw) (plan_of options first s)) [] (λ l. each.3 ≡ tells) (idle s (supply_of w r.draw) (plan_of options first s)) is.raced.same in
      let one = one_job first s each.2 (supply_of w r.draw) r is.results is.runs is.stop
      (subst (λ (l : List Offer). AreResults options first s l (supply_of w r.draw) is.results) none is.raced.are_results) is.judged is.some is.epochs_are is.squashed_is in
      let rest = subst (λ (k : Tells). EachIsRound k options (first_after first r.epochs) each.2 (supply_of w r.draw) rounds t after) same each.5 in
      let there = subst (λ (l : List journals.Epoch). EachIsRound tells options (first_after first l) each.2 (supply_of w r.draw) rounds t after) one.2 rest in
      (one.0, each.2, one.1, one.2, one.3, each.1, one.4, each_one (thread_after first one.0.slices) each.2 t (supply_of w r.draw) rounds after there)
