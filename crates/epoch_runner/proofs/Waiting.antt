-- Threads that wait for input: what is known of the input where one does.
use Rattle.std.proofs.Common.{◌≡◌, ◌⊎◌, inl, inr, ◌-◌, ◌<◌, ◌≤◌, ℕ, Bool, true, false, cond, not, ◌&&◌, ◌||◌, List, [], ◌∷◌, length, take, drop, Some, None, refl, sym, ap, ◌∙◌, arith}
use Rattle.std.specs.Prelude.{◌==◌, is_some, nat_le, nat_lt}
use Rattle.std.specs.List.{list_any}
use Rattle.std.proofs.lemmas.Bool.{and_cases, and_from, and_parts, both_ways, cases_lt, eq-eqb, le-leb, lt-ltb, ltb-false, not-true, not_from_false, or_cases, or_left, or_parts, or_right}
use Rattle.guest_state.specs.declared.thread.Thread.{Thread}
use Rattle.guest_state.specs.declared.thread.Thread.TheVariants.{Runs, Waits, Gone}
use Rattle.guest_kernel.specs.declared.state.State.{State}
use Rattle.guest_kernel.specs.State.{has_ended}
use Rattle.guest_kernel.specs.Threads.{is_running}
use Rattle.epoch_runner.specs.Answering.{can_step, input_due, is_ready, is_unanswered, waits_for_input}
use Rattle.epoch_runner.specs.KernelLaws.{ReadLaw}
use Rattle.supply.specs.Supplied.{Supplied, window_answer, end_of, refilled}
use Rattle.turn_peek.specs.declared.peek.Peek.{Peek}
use Rattle.turn_peek.specs.declared.peek.Peek.TheVariants as peeks
use Rattle.turn_peek.specs.Peek.{hart_peeked, thread_peeked}

-- ---- lists of threads

any_alike : {X : Type 0} (f g : X → Bool) (xs : List X) → ((x : X) → f x ≡ g x) → list_any f xs ≡ list_any g xs
any_alike f g [] same = refl
any_alike f g (x ∷ xs) same = ap (λ b. b || list_any f xs) (same x) ∙ ap (λ b. g x || b) (any_alike f g xs same)

any_more : {X : Type 0} (f g : X → Bool) (xs : List X) → ((x : X) → f x ≡ true → g x ≡ true) → list_any f xs ≡ true → list_any g xs ≡ true
any_more f g [] more is = absurd cc
any_more f g (x ∷ xs) more is = elim (or_cases (f x) (list_any f xs) is) [
  | inl here ↦ or_left (g x) (list_any g xs) (more x here)
  | inr there ↦ or_right (g x) (list_any g xs) (any_more f g xs more there)
]

-- what passes one test, and not another, passes the third
any_but : {X : Type 0} (f g h : X → Bool) (xs : List X) → ((x : X) → f x ≡ true → g x ≡ false → h x ≡ true) → list_any f xs ≡ true → list_any g xs ≡ false → list_any h xs ≡ true
any_but f g h [] more is none = absurd cc
any_but f g h (x ∷ xs) more is none = elim (or_cases (f x) (list_any f xs) is) [
  | inl here ↦ or_left (h x) (list_any h xs) (more x here (or_parts (g x) (list_any g xs) none).0)
  | inr there ↦ or_right (h x) (list_any h xs) (any_but f g h xs more there (or_parts (g x) (list_any g xs) none).1)
]

any_found : {X : Type 0} (f : X → Bool) (xs : List X) → list_any f xs ≡ true → (x : X) × (f x ≡ true)
any_found f [] is = absurd cc
any_found f (x ∷ xs) is = elim (or_cases (f x) (list_any f xs) is) [
  | inl here ↦ (x, here)
  | inr there ↦ any_found f xs there
]

-- ---- a thread that waits

-- a read whose answer isn't known
unanswered_read : (w : Supplied) (p : Peek) → is_unanswered w p ≡ true → (place : ℕ) × ((max : ℕ) × ((p ≡ peeks.Read place max) × (is_some (window_answer place max w) ≡ false)))
unanswered_read w peeks.NotRunnable is = absurd cc
unanswered_read w peeks.Plain is = absurd cc
unanswered_read w peeks.Sync is = absurd cc
unanswered_read w peeks.Sc is = absurd cc
unanswered_read w (peeks.Read place max) is = (place, (max, (refl, not-true (is_some (window_answer place max w)) is)))
unanswered_read w peeks.Clock is = absurd cc

not_answered : (max : ℕ) (rest : List ℕ) (a b : Bool) → is_some (cond a (Some (take max rest)) (cond b (Some []) None)) ≡ false → (a ≡ false) × (b ≡ false)
not_answered max rest true b is = absurd cc
not_answered max rest false true is = absurd cc
not_answered max rest false false is = (refl, refl)

-- where the place of the input is in the window or at its end, and no answer is known there, the window ends there
pub record IsUsedUp (w : Supplied) (place : ℕ) : Type 0 where
  pub end : place ≡ end_of w
  pub going : w.ended ≡ false

used_up_by : (w : Supplied) (place max : ℕ) → w.place ≤ place → place ≤ end_of w → is_some (window_answer place max w) ≡ false → IsUsedUp w place
used_up_by w place max from within unknown =
    let parts = not_answered max (drop (place - w.place) w.window) (nat_le w.place place && nat_lt place (end_of w)) (w.ended && (place == end_of w)) unknown in
    let end : place ≡ end_of w = behind (and_cases (nat_le w.place place) (nat_lt place (end_of w)) parts.0) in
    record { end = end; going = going end (and_cases w.ended (place == end_of w) parts.1) }
  where
    behind : (nat_le w.place place ≡ false) ⊎ (nat_lt place (end_of w) ≡ false) → place ≡ end_of w
    behind (inl before) = absurd (both_ways (nat_le w.place place) before (le-leb w.place place from))
    behind (inr past) = omega (arith, within, ltb-false place (end_of w) past)

    going : place ≡ end_of w → (w.ended ≡ false) ⊎ ((place == end_of w) ≡ false) → w.ended ≡ false
    going end (inl is) = is
    going end (inr other) = absurd (both_ways (place == end_of w) other (eq-eqb place (end_of w) end))

-- at its end an answer is known once the window is refilled
answered_by : (w : Supplied) (place max : ℕ) (bytes : List ℕ) (stamp : ℕ) → place ≡ end_of w → is_some (window_answer place max (record (refilled bytes w) { stamp = stamp })) ≡ true
answered_by w place max bytes stamp end = by_size (cases_lt 0 (length bytes))
  where
    v : Supplied
    v = record (refilled bytes w) { stamp = stamp }

    known : (a b : Bool) (rest : List ℕ) → (a ≡ true) ⊎ (b ≡ true) → is_some (cond a (Some (take max rest)) (cond b (Some []) None)) ≡ true
    known true b rest is = refl
    known false true rest is = refl
    known false false rest (inl is) = absurd cc
    known false false rest (inr is) = absurd cc

    by_size : (0 < length bytes) ⊎ (length bytes ≤ 0) → is_some (window_answer place max v) ≡ true
    by_size (inl some) =
        known (nat_le v.place place && nat_lt place (end_of v)) (v.ended && (place == end_of v)) (drop (place - v.place) v.window)
        (inl (and_from _ _ (le-leb v.place place (omega (arith, end))) (lt-ltb place (end_of v) (omega (arith, end, some)))))
    by_size (inr none) =
        known (nat_le v.place place && nat_lt place (end_of v)) (v.ended && (place == end_of v)) (drop (place - v.place) v.window)
        (inr (and_from _ _ (eq-eqb (length bytes) 0 (omega (arith, none))) (eq-eqb place (end_of v) (omega (arith, end, none)))))

module _ (read_law : ReadLaw) where
  -- a thread that waits is at a read from the place of the input on
  waiting : (s : State) (w : Supplied) (t : Thread) → waits_for_input s w t ≡ true
      → (max : ℕ) × ((thread_peeked s.pages s.input (Some t) ≡ peeks.Read s.input max) × (is_some (window_answer s.input max w) ≡ false))
  waiting s w (Runs hart clear) is =
      let p = hart_peeked hart s.pages s.input in
      let read = unanswered_read w p (and_parts true (is_unanswered w p) is).1 in
      let place = read.0 in
      let max = read.1.0 in
      let same : place ≡ s.input = (read_law hart s.pages s.input place max read.1.1.0).0 in
      (max, (read.1.1.0 ∙ ap (λ n. peeks.Read n max) same, ap (λ n. is_some (window_answer n max w)) (sym same) ∙ read.1.1.1))
  waiting s w (Waits addr hart clear) is = absurd cc
  waiting s w (Gone code) is = absurd cc

  runs_on : (s : State) (w : Supplied) (t : Thread) → waits_for_input s w t ≡ true → is_running t ≡ true
  runs_on s w t is = (and_parts (is_running t) (is_unanswered w (thread_peeked s.pages s.input (Some t))) is).0

  pub used_up : (s : State) (w : Supplied) → w.place ≤ s.input → s.input ≤ end_of w → input_due s w ≡ true → IsUsedUp w s.input
  used_up s w from within due =
      let found = any_found (waits_for_input s w) s.threads (and_parts (not (has_ended s.end)) (list_any (waits_for_input s w) s.threads) due).1 in
      let read = waiting s w found.0 found.1 in
      used_up_by w s.input read.0 from within read.1.1

  pub refilled_can : (s : State) (w : Supplied) (bytes : List ℕ) (stamp : ℕ) → w.place ≤ s.input → s.input ≤ end_of w → input_due s w ≡ true → can_step s (record (refilled bytes w) { stamp = stamp }) ≡ true
  refilled_can s w bytes stamp from within due =
      let two = and_parts (not (has_ended s.end)) (list_any (waits_for_input s w) s.threads) due in
      let end = (used_up s w from within due).end in
      and_from (not (has_ended s.end)) (list_any (is_ready s (record (refilled bytes w) { stamp = stamp })) s.threads) two.0
      (any_more (waits_for_input s w) (is_ready s (record (refilled bytes w) { stamp = stamp })) s.threads (λ t is.
      let read = waiting s w t is in
      let v : Supplied = record (refilled bytes w) { stamp = stamp } in
      let known : is_unanswered v (thread_peeked s.pages s.input (Some t)) ≡ false = ap (is_unanswered v) read.1.0 ∙ ap not (answered_by w s.input read.0 bytes stamp end) in
      and_from (is_running t) (not (is_unanswered v (thread_peeked s.pages s.input (Some t)))) (runs_on s w t is) (not_from_false (is_unanswered v (thread_peeked s.pages s.input (Some t))) known)) two.1)

-- a thread that runs and doesn't wait can step
pub ready_or_due : (s : State) (w : Supplied) → has_ended s.end ≡ false → list_any is_running s.threads ≡ true → input_due s w ≡ false → can_step s w ≡ true
ready_or_due s w alive some none =
    let alive_so = not_from_false (has_ended s.end) alive in
    and_from (not (has_ended s.end)) (list_any (is_ready s w) s.threads) alive_so
    (any_but is_running (waits_for_input s w) (is_ready s w) s.threads (λ t runs waits.
    let p = thread_peeked s.pages s.input (Some t) in
    and_from (is_running t) (not (is_unanswered w p)) runs (not_from_false (is_unanswered w p) (answered t p runs (and_cases (is_running t) (is_unanswered w p) waits))))
    some (none_waits (and_cases (not (has_ended s.end)) (list_any (waits_for_input s w) s.threads) none)))
  where
    none_waits : (not (has_ended s.end) ≡ false) ⊎ (list_any (waits_for_input s w) s.threads ≡ false) → list_any (waits_for_input s w) s.threads ≡ false
    none_waits (inl never) = absurd (both_ways (not (has_ended s.end)) never (not_from_false (has_ended s.end) alive))
    none_waits (inr is) = is

    answered : (t : Thread) (p : Peek) → is_running t ≡ true → (is_running t ≡ false) ⊎ (is_unanswered w p ≡ false) → is_unanswered w p ≡ false
    answered t p runs (inl never) = absurd (both_ways (is_running t) never runs)
    answered t p runs (inr is) = is

-- the stamp doesn't count
unanswered_alike : (w : Supplied) (stamp : ℕ) (p : Peek) → is_unanswered (record w { stamp = stamp }) p ≡ is_unanswered w p
unanswered_alike w stamp peeks.NotRunnable = refl
unanswered_alike w stamp peeks.Plain = refl
unanswered_alike w stamp peeks.Sync = refl
unanswered_alike w stamp peeks.Sc = refl
unanswered_alike w stamp (peeks.Read place max) = refl
unanswered_alike w stamp peeks.Clock = refl

pub stamped_can : (s : State) (w : Supplied) (stamp : ℕ) → can_step s (record w { stamp = stamp }) ≡ can_step s w
stamped_can s w stamp =
    ap (λ b. not (has_ended s.end) && b)
    (any_alike (is_ready s (record w { stamp = stamp })) (is_ready s w) s.threads (λ t. ap (λ b. is_running t && not b) (unanswered_alike w stamp (thread_peeked s.pages s.input (Some t)))))
