-- Runs as lists of rounds and epochs: what one more round or epoch at the end adds to each.
use Rattle.std.proofs.Common.{◌≡◌, ℕ, ◌+◌, ◌<◌, ◌≤◌, Bool, true, false, if◌then◌else◌, List, [], ◌∷◌, ◌++◌, length, Ok, refl, sym, ap, subst, ◌∙◌, append_assoc, arith}
use Rattle.std.proofs.lemmas.List.{append-nil, length-append, length-map, map_push}
use Rattle.std.specs.List.{AllByRecursion}
use Rattle.std.proofs.lemmas.List.Sums.{sum_by-cons}
use Rattle.dp_base.specs.declared.answer.Answer.{Answer}
use Rattle.dp_base.specs.declared.slice.Slice.{Slice}
use Rattle.dp_base.specs.Journal.{Epoch, IsAnswer, IsSlice, steps_of}
use Rattle.epoch_record.specs.Epoch.{epoch_of}
use Rattle.epoch_runner.specs.Answering.{input_due}
use Rattle.epoch_runner.specs.declared.epoch_run.EpochRun.{EpochRun}
use Rattle.supply.specs.Supplied.{Supplied}
use Rattle.racing_runner.specs.Offers.{Tells}
use Rattle.recorder.specs.Drawing.{RoundInput, Round, answers_in, round_inputs_of, epochs_of_rounds, squashes_of, supply_after, supply_of}
use Rattle.recorder.specs.Keeping.{AreAnswers}
use Rattle.guest_kernel.specs.declared.state.State.{State}
use Rattle.guest_kernel.specs.Slices.{chain}
use Rattle.recorder.specs.declared.options.Options.{Options}
use Rattle.recorder.specs.Recording.{EachIsRound, GoesOn, IsRound, first_after, thread_after}
use Rattle.dp_base.proofs.Lists.{all_append}

pub no_epochs : (start : State) → chain start [] ≡ Ok (start, [])
unfolding chain
no_epochs start = refl

-- ---- one more round

pub epochs-push : (rounds : List Round) (r : Round) → epochs_of_rounds (rounds ++ r ∷ []) ≡ epochs_of_rounds rounds ++ r.epochs
epochs-push [] r = append-nil r.epochs
epochs-push (x ∷ rounds) r = ap (λ (l : List Epoch). x.epochs ++ l) (epochs-push rounds r) ∙ sym (append_assoc x.epochs (epochs_of_rounds rounds) r.epochs)

pub epochs-append : (xs ys : List Round) → epochs_of_rounds (xs ++ ys) ≡ epochs_of_rounds xs ++ epochs_of_rounds ys
epochs-append [] ys = refl
epochs-append (x ∷ xs) ys = ap (λ (l : List Epoch). x.epochs ++ l) (epochs-append xs ys) ∙ sym (append_assoc x.epochs (epochs_of_rounds xs) (epochs_of_rounds ys))

pub draws-push : (rounds : List Round) (r : Round) → round_inputs_of (rounds ++ r ∷ []) ≡ round_inputs_of rounds ++ r.draw ∷ []
draws-push rounds r = map_push (λ (x : Round). x.draw) rounds r

pub squashes-push : (rounds : List Round) (r : Round) → squashes_of (rounds ++ r ∷ []) ≡ squashes_of rounds + (if r.squashed then 1 else 0)
squashes-push [] r = omega arith
squashes-push (x ∷ rounds) r = let more = squashes-push rounds r in omega (arith, more)

pub answers_in-append : (xs ys : List Epoch) → answers_in (xs ++ ys) ≡ answers_in xs ++ answers_in ys
answers_in-append [] ys = refl
answers_in-append (x ∷ xs) ys = ap (λ (l : List Answer). x.answers ++ l) (answers_in-append xs ys) ∙ sym (append_assoc x.answers (answers_in xs) (answers_in ys))

pub answers_in-push : (es : List Epoch) (e : Epoch) → answers_in (es ++ e ∷ []) ≡ answers_in es ++ e.answers
answers_in-push es e = answers_in-append es (e ∷ []) ∙ ap (λ (l : List Answer). answers_in es ++ l) (append-nil e.answers)

pub first-append : (first : ℕ) (xs ys : List Epoch) → first_after first (xs ++ ys) ≡ first_after (first_after first xs) ys
first-append first [] ys = refl
first-append first (x ∷ xs) ys = first-append (thread_after first x.slices) xs ys

module _ (options : Options) where
  pub each-push : (tells mid after : Tells) (first : ℕ) (s t u : State) (w : Supplied) (rounds : List Round) (r : Round) → EachIsRound tells options first s w rounds t mid → GoesOn options t
      → r.draw.due ≡ input_due t (supply_after w (round_inputs_of rounds))
      → IsRound mid options (first_after first (epochs_of_rounds rounds)) t (supply_of (supply_after w (round_inputs_of rounds)) r.draw) r u after → EachIsRound tells options first s w (rounds ++ r ∷ []) u after
  each-push tells mid after first s t u w [] r each goes_on due is =
      subst (λ (x : State). EachIsRound tells options first x w (r ∷ []) u after) each.0
      (subst (λ (x : Tells). EachIsRound x options first t w (r ∷ []) u after) each.1 (goes_on, due, u, after, is, (refl, refl)))
  each-push tells mid after first s t u w (x ∷ rounds) r each goes_on due is = (
    each.0,
    each.1,
    each.2,
    each.3,
    each.4,
    each-push each.3 mid after (first_after first x.epochs) each.2 t u (supply_of w x.draw) rounds r each.5 goes_on due
        (subst (λ (n : ℕ). IsRound mid options n t (supply_of (supply_after (supply_of w x.draw) (round_inputs_of rounds)) r.draw) r u after) (first-append first x.epochs (epochs_of_rounds rounds)) is),
  )

  squash_is_one : (b : Bool) → (if b then 1 else 0) ≤ 1
  squash_is_one true = omega arith
  squash_is_one false = omega arith

  -- each round has an epoch, so no more results were squashed than epochs committed
  pub few_squashes : (tells after : Tells) (first : ℕ) (s t : State) (w : Supplied) (rounds : List Round) → EachIsRound tells options first s w rounds t after → squashes_of rounds ≤ length (epochs_of_rounds rounds)
  few_squashes tells after first s t w [] each = omega arith
  few_squashes tells after first s t w (r ∷ rounds) each =
      let rest = few_squashes each.3 after (first_after first r.epochs) each.2 t (supply_of w r.draw) rounds each.5 in
      let some : length r.epochs ≡ length each.4.runs = ap (λ (l : List Epoch). length l) each.4.epochs_are ∙ length-map each.4.runs (λ (x : EpochRun). epoch_of x.epoch) in
      omega (arith, rest, some, each.4.some, squash_is_one r.squashed, length-append r.epochs (epochs_of_rounds rounds))

pub supply-push : (w : Supplied) (draws : List RoundInput) (d : RoundInput) → supply_after w (draws ++ d ∷ []) ≡ supply_of (supply_after w draws) d
supply-push w [] d = refl
supply-push w (x ∷ xs) d = supply-push (supply_of w x) xs d

pub answers_are-push : (epochs : List Epoch) (e : Epoch) → AreAnswers epochs → AllByRecursion IsAnswer e.answers → AreAnswers (epochs ++ e ∷ [])
answers_are-push epochs e are more = all_append (λ (x : Epoch). AllByRecursion IsAnswer x.answers) epochs (e ∷ []) are (more, tt)

pub first_after-push : (first : ℕ) (epochs : List Epoch) (e : Epoch) → first_after first (epochs ++ e ∷ []) ≡ thread_after (first_after first epochs) e.slices
first_after-push first [] e = refl
first_after-push first (x ∷ xs) e = first_after-push (thread_after first x.slices) xs e

-- ---- an epoch that was run

pub positive_steps : (xs : List Slice) → AllByRecursion IsSlice xs → 0 < length xs → 0 < steps_of xs
positive_steps [] are some = absurd (omega arith)
positive_steps (x ∷ xs) are some = let first : 0 < x.steps = are.0.2 in omega (arith, first, sum_by-cons (λ (s : Slice). s.steps) x xs)

-- its threads have numbers below 65,535
pub low_numbers : (xs : List Slice) (made : ℕ) → AllByRecursion IsSlice xs → AllByRecursion (λ (x : Slice). 0 < x.steps → x.tid.0 ≤ made) xs → made ≤ 1024 → AllByRecursion (λ (x : Slice). x.tid.0 < 65535) xs
low_numbers [] made are within few = tt
low_numbers (x ∷ xs) made are within few = (let low = within.0 are.0.2 in omega (arith, low, few), low_numbers xs made are.1 within.1 few)
