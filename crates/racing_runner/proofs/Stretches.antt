-- The turns of a stretch, one after another.
use native.Mathlib.Omega.{arith}
use Rattle.std.proofs.Common.{◌≡◌, ◌+◌, ◌-◌, ◌≤◌, ◌<◌, ◌^◌, ℕ, zero, suc, List, [], ◌∷◌, slice_get, position, Option, Some, None, sym, ap, subst, ◌∙◌, refl}
use Rattle.std.specs.List.{AllByRecursion}
use Rattle.dp_base.specs.declared.tid.Tid.{Tid}
use Rattle.dp_base.proofs.Lists.{all_append, all_set}
use Rattle.epoch_runner.specs.declared.bounds.Bounds.{Bounds}
use Rattle.epoch_runner.specs.declared.walk.NextTurn.{NextTurn}
use Rattle.epoch_runner.specs.Schedule.{Course, followed, next_step, progress, turn_of}
use Rattle.epoch_runner.specs.Syncing.{sync_of}
use Rattle.epoch_runner.specs.Walking.{next_step_of, opened}
use Rattle.racing_runner.specs.Racing.{Raced, with_turn_counted, counted_at, is_count_of, ordered, or_else, race_turn, raced, raced_by, raced_so_far, steps_in, with_note}
use Rattle.supply.specs.Supplied.{Supplied}
use Rattle.sync_hints.specs.declared.hints.Sc.{Sc}
use Rattle.sync_hints.specs.declared.hints.SyncHint.{SyncHint}

-- a run that has taken so many turns, of which the rest is that of the whole
pub record IsSoFar (w : Supplied) (bounds : Bounds) (first : Raced) (step : ℕ) (walk : Course) (counts : List (Tid × ℕ)) (order : List SyncHint) : Type 0 where
  pub race : (n : ℕ) → raced (step + n) w bounds first ≡ raced n w bounds (raced_so_far walk counts order)
  pub turns : (progress walk).turns ≡ step
  pub steps : walk.state.steps ≡ first.course.state.steps + step
  pub few : AllByRecursion (λ count. count.1 ≤ step) counts

-- ---- counts are of the turns so far

pub few_more : (step : ℕ) (counts : List (Tid × ℕ)) → AllByRecursion (λ count. count.1 ≤ step) counts → AllByRecursion (λ count. count.1 ≤ step + 1) counts
few_more step [] few = few
few_more step (count ∷ counts) few = (omega (arith, few.0), few_more step counts few.1)

pub few_in : (step : ℕ) (counts : List (Tid × ℕ)) (place : ℕ) → AllByRecursion (λ count. count.1 ≤ step) counts → steps_in (slice_get counts place) ≤ step
few_in step [] place few = omega arith
few_in step (count ∷ counts) zero few = few.0
few_in step (count ∷ counts) (suc place) few = few_in step counts place few.1

pub few_at : (step : ℕ) (tid : Tid) (counts : List (Tid × ℕ)) (place : Option ℕ) → AllByRecursion (λ count. count.1 ≤ step) counts → AllByRecursion (λ count. count.1 ≤ step + 1) (counted_at tid counts place)
few_at step tid counts None few = all_append (λ count. count.1 ≤ step + 1) counts ((tid, 1) ∷ []) (few_more step counts few) (omega arith, tt)
few_at step tid counts (Some place) few = all_set (λ count. count.1 ≤ step + 1) counts place (tid, steps_in (slice_get counts place) + 1) (few_more step counts few) (omega (arith, few_in step counts place few))

pub few_small : (step : ℕ) (counts : List (Tid × ℕ)) → step + 1 < 2 ^ 32 → AllByRecursion (λ count. count.1 ≤ step) counts → AllByRecursion (λ count. count.1 + 1 < 2 ^ 32) counts
few_small step [] small few = tt
few_small step (count ∷ counts) small few = (omega (arith, few.0, small), few_small step counts small few.1)

-- ---- a turn more

pub turn_more : (w : Supplied) (bounds : Bounds) (walk after : Course) (counts more : List (Tid × ℕ)) (order longer : List SyncHint) (turn : NextTurn) (sync : Option Sc)
    → next_step_of (Some turn) ≡ next_step walk.state w bounds (progress walk)
    → sync ≡ sync_of (opened turn.begins walk).state turn.tid
    → followed w walk (turn_of turn.tid turn.begins None) ≡ Some after
    → more ≡ with_turn_counted turn.tid counts
    → longer ≡ ordered turn.tid sync order
    → race_turn w bounds (raced_so_far walk counts order) ≡ Some (raced_so_far after more longer)
turn_more w bounds walk after counts more order longer turn sync is_next sync_is goes more_is longer_is =
    let r = raced_so_far walk counts order in
    ap (raced_by w r) (sym is_next)
    ∙ ap (λ s. with_note r turn.tid s (followed w walk (turn_of turn.tid turn.begins None))) (sym sync_is)
    ∙ ap (with_note r turn.tid sync) goes
    ∙ ap (λ c. Some (raced_so_far after c (ordered turn.tid sync order))) (sym more_is)
    ∙ ap (λ o. Some (raced_so_far after more o)) (sym longer_is)

-- a run whose epoch is over stays as it is
pub raced_stays : (n : ℕ) (w : Supplied) (bounds : Bounds) (r : Raced) → race_turn w bounds r ≡ None → raced n w bounds r ≡ r
unfolding raced
raced_stays zero w bounds r over = refl
raced_stays (suc n) w bounds r over = ap (or_else r (raced n w bounds)) over

pub so_far_more : (w : Supplied) (bounds : Bounds) (first : Raced) (step : ℕ) (walk after : Course) (counts more : List (Tid × ℕ)) (order longer : List SyncHint) (turn : NextTurn) (sync : Option Sc)
    → IsSoFar w bounds first step walk counts order
    → race_turn w bounds (raced_so_far walk counts order) ≡ Some (raced_so_far after more longer)
    → (progress after).turns ≡ (progress walk).turns + 1
    → after.state.steps ≡ walk.state.steps + 1
    → more ≡ with_turn_counted turn.tid counts
    → IsSoFar w bounds first (step + 1) after more longer
unfolding raced
so_far_more w bounds first step walk after counts more order longer turn sync so goes turns steps more_is = record {
  race = λ n. ap (λ k. raced k w bounds first) (omega arith) ∙ so.race (suc n) ∙ ap (or_else (raced_so_far walk counts order) (raced n w bounds)) goes;
  turns = turns ∙ ap (λ k. k + 1) so.turns;
  steps = steps ∙ ap (λ k. k + 1) so.steps ∙ omega arith;
  few = subst (AllByRecursion (λ count. count.1 ≤ step + 1)) (sym more_is) (few_at step turn.tid counts (position (is_count_of turn.tid) counts) so.few);
}

-- ---- the end

pub ends_early : (w : Supplied) (bounds : Bounds) (first : Raced) (step : ℕ) (walk : Course) (counts : List (Tid × ℕ)) (order : List SyncHint)
    → IsSoFar w bounds first step walk counts order → step ≤ bounds.steps → next_step_of None ≡ next_step walk.state w bounds (progress walk)
    → raced_so_far walk counts order ≡ raced bounds.steps w bounds first
ends_early w bounds first step walk counts order so within over =
    let r = raced_so_far walk counts order in
    sym (raced_stays (bounds.steps - step) w bounds r (ap (raced_by w r) (sym over)))
    ∙ sym (so.race (bounds.steps - step))
    ∙ ap (λ k. raced k w bounds first) (omega (arith, within))
