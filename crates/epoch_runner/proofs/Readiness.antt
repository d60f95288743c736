-- A thread that can step has a turn, with what the supply answers to it.
use Rattle.std.proofs.Common.{◌≡◌, ◌-◌, ◌^◌, ◌<◌, ◌≤◌, ℕ, zero, suc, Bool, true, false, cond, not, ◌&&◌, List, [], ◌∷◌, length, take, drop, Option, Some, None, Ok, Err, refl, sym, ap, subst, ◌∙◌, arith}
use Rattle.std.specs.Prelude.{◌==◌, is_some, nat_le, nat_lt, slice_get}
use Rattle.std.specs.List.{list_any}
use Rattle.std.proofs.lemmas.Bool.{and_from, and_parts, cond-false, cond-true, eqb-true, le-leb, ltb-true, not-true, not_from_false, or_left, or_right}
use Rattle.std.proofs.lemmas.List.{length-take}
use Rattle.dp_base.specs.declared.answer.Answer.{Answer}
use Rattle.dp_base.specs.declared.limits.TheConstants.{MAX_CALL_BYTES}
use Rattle.dp_base.specs.declared.tid.Tid.{Tid}
use Rattle.guest_state.specs.declared.thread.Thread.{Thread}
use Rattle.guest_state.specs.declared.thread.Thread.TheVariants.{Runs, Waits, Gone}
use Rattle.guest_kernel.specs.declared.state.State.{State}
use Rattle.guest_kernel.specs.Call.{After}
use Rattle.guest_kernel.specs.Peek.{peeked, rest_by, rest_of}
use Rattle.guest_kernel.specs.State.{has_ended}
use Rattle.guest_kernel.specs.Threads.{is_running, runs_by, thread_at}
use Rattle.guest_kernel.specs.Turn.{turn}
use Rattle.epoch_runner.specs.Answering.{answer_to, answers_for, is_ready, is_unanswered, read_of, ready_at, ready_by}
use Rattle.epoch_runner.specs.SliceRun.{IsEarlyRead, can_take}
use Rattle.epoch_runner.specs.KernelLaws.{ReadLaw, TurnLaws}
use Rattle.supply.specs.Supplied.{IsSupply, Supplied, window_answer, end_of}
use Rattle.turn_peek.specs.declared.peek.Peek.{Peek}
use Rattle.turn_peek.specs.declared.peek.Peek.TheVariants as peeks
use Rattle.turn_peek.specs.Peek.{hart_peeked, thread_peeked}

-- ---- answers of a supply

-- an answer has no more bytes than were asked for
few_by : (max : ℕ) (rest bytes : List ℕ) (a b : Bool) → cond a (Some (take max rest)) (cond b (Some []) None) ≡ Some bytes → length bytes ≤ max
few_by max rest bytes true b is = let same : take max rest ≡ bytes = cc in subst (λ (xs : List ℕ). length xs ≤ max) same (omega (arith, length-take max rest))
few_by max rest bytes false true is = let same : [] ≡ bytes = cc in subst (λ (xs : List ℕ). length xs ≤ max) same (omega arith)
few_by max rest bytes false false is = absurd cc

pub answer_few : (w : Supplied) (place max : ℕ) (bytes : List ℕ) → window_answer place max w ≡ Some bytes → length bytes ≤ max
answer_few w place max bytes is =
    few_by max (drop (place - w.place) w.window) bytes (nat_le w.place place && nat_lt place (end_of w)) (w.ended && (place == end_of w)) is

-- an answer is at a place of the window, or at its end
answered_within : (w : Supplied) (place : ℕ) (some : List ℕ) (a b : Bool) → (nat_le w.place place && nat_lt place (end_of w)) ≡ a → (w.ended && (place == end_of w)) ≡ b
    → (bytes : List ℕ) → cond a (Some some) (cond b (Some []) None) ≡ Some bytes → place ≤ end_of w
answered_within w place some true b inside last bytes is = omega (arith, ltb-true place (end_of w) (and_parts (nat_le w.place place) (nat_lt place (end_of w)) inside).1)
answered_within w place some false true inside last bytes is = omega (arith, eqb-true place (end_of w) (and_parts w.ended (place == end_of w) last).1)
answered_within w place some false false inside last bytes is = absurd cc

pub answer_within : (w : Supplied) (place max : ℕ) (bytes : List ℕ) → IsSupply w → window_answer place max w ≡ Some bytes → place < 2 ^ 64 - MAX_CALL_BYTES
answer_within w place max bytes window is =
    omega (
      arith,
      window.early,
      window.within,
      window.small,
      answered_within w place (take max (drop (place - w.place) w.window)) (nat_le w.place place && nat_lt place (end_of w)) (w.ended && (place == end_of w)) refl refl bytes is,
    )

-- ---- what a ready thread's turn is

pub ready_runs : (s : State) (w : Supplied) (o : Option Thread) → ready_by s w o ≡ true → runs_by o ≡ true
ready_runs s w None ready = absurd cc
ready_runs s w (Some t) ready = (and_parts (is_running t) (not (is_unanswered w (thread_peeked s.pages s.input (Some t)))) ready).0

pub ready_answered : (s : State) (w : Supplied) (o : Option Thread) → ready_by s w o ≡ true → is_unanswered w (thread_peeked s.pages s.input o) ≡ false
ready_answered s w None ready = absurd cc
ready_answered s w (Some t) ready =
    not-true (is_unanswered w (thread_peeked s.pages s.input (Some t))) (and_parts (is_running t) (not (is_unanswered w (thread_peeked s.pages s.input (Some t)))) ready).1

pub ready_from : (s : State) (w : Supplied) (o : Option Thread) → runs_by o ≡ true → is_unanswered w (thread_peeked s.pages s.input o) ≡ false → ready_by s w o ≡ true
ready_from s w None runs answered = absurd cc
ready_from s w (Some t) runs answered =
    and_from (is_running t) (not (is_unanswered w (thread_peeked s.pages s.input (Some t)))) runs (not_from_false (is_unanswered w (thread_peeked s.pages s.input (Some t))) answered)

pub peeked_alive : (s : State) (tid : Tid) → has_ended s.end ≡ false → peeked s tid ≡ thread_peeked s.pages s.input (thread_at s.threads tid)
peeked_alive s tid alive = cond-false (has_ended s.end) peeks.NotRunnable (thread_peeked s.pages s.input (thread_at s.threads tid)) alive

-- ---- a thread among others

any_at : {X : Type 0} (f : X → Bool) (xs : List X) (i : ℕ) (x : X) → slice_get xs i ≡ Some x → f x ≡ true → list_any f xs ≡ true
any_at f [] i x stands passes = absurd cc
any_at f (y ∷ ys) zero x stands passes = let same : y ≡ x = cc in or_left (f y) (list_any f ys) (ap f same ∙ passes)
any_at f (y ∷ ys) (suc i) x stands passes = or_right (f y) (list_any f ys) (any_at f ys i x stands passes)

pub ready_some : (s : State) (w : Supplied) (tid : Tid) → ready_at s w tid ≡ true → list_any (is_ready s w) s.threads ≡ true
ready_some s w tid ready = by_number (tid.0 == 0) (slice_get s.threads (tid.0 - 1)) refl ready
  where
    by_number : (b : Bool) (o : Option Thread) → slice_get s.threads (tid.0 - 1) ≡ o → ready_by s w (cond b None o) ≡ true → list_any (is_ready s w) s.threads ≡ true
    by_number true o stands is = absurd cc
    by_number false None stands is = absurd cc
    by_number false (Some t) stands is = any_at (is_ready s w) s.threads (tid.0 - 1) t stands is

-- ---- turns

-- what a turn leaves of its answers, where it is answered
rest_answered : (w : Supplied) (p : Peek) → (p ≡ peeks.NotRunnable → ⊥) → is_unanswered w p ≡ false → rest_by p (answer_to w p) ≡ Ok []
rest_answered w peeks.NotRunnable none answered = absurd (none refl)
rest_answered w peeks.Plain none answered = refl
rest_answered w peeks.Sync none answered = refl
rest_answered w peeks.Sc none answered = refl
rest_answered w (peeks.Read place max) none answered = by_answer (window_answer place max w) refl answered
  where
    by_answer : (o : Option (List ℕ)) → window_answer place max w ≡ o → not (is_some o) ≡ false → rest_by (peeks.Read place max) (read_of o) ≡ Ok []
    by_answer None is known = absurd cc
    by_answer (Some bytes) is known = cond-true (nat_le (length bytes) max) (Ok []) (Err _) (le-leb (length bytes) max (answer_few w place max bytes is))
rest_answered w peeks.Clock none answered = refl

rest_alone : (p : Peek) (rest : List Answer) → rest_by p [] ≡ Ok rest → rest ≡ []
rest_alone peeks.NotRunnable rest is = absurd cc
rest_alone peeks.Plain rest is = cc
rest_alone peeks.Sync rest is = cc
rest_alone peeks.Sc rest is = cc
rest_alone (peeks.Read place max) rest is = absurd cc
rest_alone peeks.Clock rest is = absurd cc

-- where a turn takes nothing, its thread is answered with nothing
silent_peek : (w : Supplied) (p : Peek) (rest : List Answer) → rest_by p [] ≡ Ok rest → (answer_to w p ≡ []) × (is_unanswered w p ≡ false) × (rest ≡ [])
silent_peek w peeks.NotRunnable rest is = absurd cc
silent_peek w peeks.Plain rest is = (refl, refl, cc)
silent_peek w peeks.Sync rest is = (refl, refl, cc)
silent_peek w peeks.Sc rest is = (refl, refl, cc)
silent_peek w (peeks.Read place max) rest is = absurd cc
silent_peek w peeks.Clock rest is = absurd cc

module _ (laws : TurnLaws) where
  -- a thread that can step has a turn, which takes what the supply answers
  pub ready_turn : (s : State) (w : Supplied) (tid : Tid) → has_ended s.end ≡ false → ready_at s w tid ≡ true → (after : After) × (turn s tid (answers_for s w tid) ≡ Ok after) × (after.rest ≡ [])
  ready_turn s w tid alive ready =
      let p = peeked s tid in
      let answered : is_unanswered w p ≡ false = ap (is_unanswered w) (peeked_alive s tid alive) ∙ ready_answered s w (thread_at s.threads tid) ready in
      let runs = ready_runs s w (thread_at s.threads tid) ready in
      laws.has_turn s tid (answers_for s w tid) [] (rest_answered w p (laws.has_peek s tid alive runs) answered)

  pub ready_rest : (s : State) (w : Supplied) (tid : Tid) (after : After) → has_ended s.end ≡ false → ready_at s w tid ≡ true → turn s tid (answers_for s w tid) ≡ Ok after → after.rest ≡ []
  ready_rest s w tid after alive ready is =
      let has = ready_turn s w tid alive ready in
      let same : Ok after ≡ Ok has.0 = sym is ∙ has.1 in
      let one : after ≡ has.0 = cc in
      ap (λ (a : After). a.rest) one ∙ has.2

  -- a turn without answers leaves none
  pub silent_rest : (s : State) (tid : Tid) (after : After) → turn s tid [] ≡ Ok after → after.rest ≡ []
  silent_rest s tid after is = rest_alone (peeked s tid) after.rest (sym (laws.rest s tid []) ∙ ap rest_of is)

  -- a turn that takes nothing is of a thread that can step
  pub silent_turn : (s : State) (w : Supplied) (tid : Tid) (after : After) → turn s tid [] ≡ Ok after → (answers_for s w tid ≡ []) × (ready_at s w tid ≡ true) × (after.rest ≡ [])
  silent_turn s w tid after is =
      let left : rest_by (peeked s tid) [] ≡ Ok after.rest = sym (laws.rest s tid []) ∙ ap rest_of is in
      let silent = silent_peek w (peeked s tid) after.rest left in
      let answered : is_unanswered w (thread_peeked s.pages s.input (thread_at s.threads tid)) ≡ false =
      ap (is_unanswered w) (sym (peeked_alive s tid (laws.going s tid [] after is))) ∙ silent.1 in
      (silent.0, ready_from s w (thread_at s.threads tid) (laws.runs s tid [] after is) answered, silent.2)

  -- a turn can be taken where the guest hasn't ended and its thread can step
  pub can_take_is : (s : State) (w : Supplied) (tid : Tid) → can_take w (peeked s tid) ≡ (not (has_ended s.end) && ready_at s w tid)
  can_take_is s w tid = by_end (has_ended s.end) refl
    where
      by_peek : (p : Peek) → (p ≡ peeks.NotRunnable → ⊥) → can_take w p ≡ not (is_unanswered w p)
      by_peek peeks.NotRunnable never = absurd (never refl)
      by_peek other never = refl

      by_thread : (o : Option Thread) → (runs_by o ≡ true → thread_peeked s.pages s.input o ≡ peeks.NotRunnable → ⊥) → can_take w (thread_peeked s.pages s.input o) ≡ ready_by s w o
      by_thread None never = refl
      by_thread (Some (Runs hart clear)) never = by_peek (hart_peeked hart s.pages s.input) (never refl)
      by_thread (Some (Waits addr hart clear)) never = refl
      by_thread (Some (Gone code)) never = refl

      by_end : (b : Bool) → has_ended s.end ≡ b → can_take w (cond b peeks.NotRunnable (thread_peeked s.pages s.input (thread_at s.threads tid))) ≡ (not b && ready_at s w tid)
      by_end true ended = refl
      by_end false alive = by_thread (thread_at s.threads tid) (λ runs none. laws.has_peek s tid alive runs (peeked_alive s tid alive ∙ none))

  pub taken_open : (s : State) (w : Supplied) (tid : Tid) (p : Peek) → p ≡ peeked s tid → can_take w p ≡ true → (has_ended s.end ≡ false) × (ready_at s w tid ≡ true)
  taken_open s w tid p is can =
      let both = and_parts (not (has_ended s.end)) (ready_at s w tid) (sym (can_take_is s w tid) ∙ sym (ap (can_take w) is) ∙ can) in
      (not-true (has_ended s.end) both.0, both.1)

module _ (read_law : ReadLaw) where
  -- a read starts where the input is
  pub peeked_read : (s : State) (tid : Tid) (place max : ℕ) → peeked s tid ≡ peeks.Read place max → (place ≡ s.input) × ((0 < max) × (max ≤ MAX_CALL_BYTES))
  peeked_read s tid place max is = by_end (has_ended s.end) is
    where
      by_thread : (o : Option Thread) → thread_peeked s.pages s.input o ≡ peeks.Read place max → (place ≡ s.input) × ((0 < max) × (max ≤ MAX_CALL_BYTES))
      by_thread None e = absurd cc
      by_thread (Some (Runs hart clear)) e = read_law hart s.pages s.input place max e
      by_thread (Some (Waits addr hart clear)) e = absurd cc
      by_thread (Some (Gone code)) e = absurd cc

      by_end : (b : Bool) → cond b peeks.NotRunnable (thread_peeked s.pages s.input (thread_at s.threads tid)) ≡ peeks.Read place max → (place ≡ s.input) × ((0 < max) × (max ≤ MAX_CALL_BYTES))
      by_end true e = absurd cc
      by_end false e = by_thread (thread_at s.threads tid) e

  pub early_input : (s : State) (tid : Tid) (p : Peek) → p ≡ peeked s tid → IsEarlyRead p → s.input < 2 ^ 64 - MAX_CALL_BYTES
  early_input s tid (peeks.Read place max) is early = omega (arith, early, (peeked_read s tid place max (sym is)).0)
  early_input s tid other is early = absurd early
