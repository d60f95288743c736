-- What the end of a slice changes: no thread can step or stops by it.
use Rattle.std.proofs.Common.{◌≡◌, ◌+◌, ◌-◌, ℕ, zero, suc, Bool, true, false, cond, not, ◌&&◌, List, [], ◌∷◌, Option, Some, None, refl, sym, ap, ◌∙◌, arith}
use Rattle.std.specs.Prelude.{◌==◌, slice_get, slice_set}
use Rattle.std.proofs.lemmas.List.Sums.{sum_by_push}
use Rattle.dp_base.specs.declared.slice.Slice.{Slice}
use Rattle.dp_base.specs.declared.tid.Tid.{Tid}
use Rattle.dp_base.specs.Journal.{steps_of}
use Rattle.guest_state.specs.declared.hart.Hart.{Hart}
use Rattle.guest_state.specs.declared.thread.Thread.{Thread}
use Rattle.guest_state.specs.declared.thread.Thread.TheVariants.{Runs, Waits, Gone}
use Rattle.guest_kernel.specs.declared.state.State.{State}
use Rattle.guest_kernel.specs.State.{dropping}
use Rattle.guest_kernel.specs.Threads.{is_running, thread_at}
use Rattle.guest_kernel.proofs.Dropping.{without_reservation-end, without_reservation-input, without_reservation-steps}
use Rattle.guest_kernel.proofs.Places.{place_of}
use Rattle.epoch_runner.specs.Answering.{is_ready, is_unanswered, ready_at, ready_by}
use Rattle.epoch_runner.specs.Schedule.{Course, closed_by}
use Rattle.epoch_runner.specs.KernelLaws.{ReservationLaw}
use Rattle.supply.specs.Supplied.{Supplied}
use Rattle.turn_peek.specs.Peek.{thread_peeked}

ready_set : (s : State) (w : Supplied) (xs : List Thread) (i j : ℕ) (x y : Thread) → slice_get xs i ≡ Some x → is_ready s w y ≡ is_ready s w x → ready_by s w (slice_get (slice_set xs i y) j) ≡ ready_by s w (slice_get xs j)
ready_set s w [] i j x y there same = refl
ready_set s w (z ∷ zs) zero zero x y there same = let is : z ≡ x = cc in same ∙ ap (is_ready s w) (sym is)
ready_set s w (z ∷ zs) zero (suc j) x y there same = refl
ready_set s w (z ∷ zs) (suc i) zero x y there same = refl
ready_set s w (z ∷ zs) (suc i) (suc j) x y there same = ready_set s w zs i j x y there same

ready_at_set : (s : State) (w : Supplied) (t tid : Tid) (x y : Thread) → thread_at s.threads t ≡ Some x → is_ready s w y ≡ is_ready s w x → ready_by s w (thread_at (slice_set s.threads (t.0 - 1) y) tid) ≡ ready_at s w tid
ready_at_set s w t tid x y there same =
    let stands = place_of s.threads t x there in
    elim (tid.0 == 0) as (λ (b : Bool). ready_by s w (cond b None (slice_get (slice_set s.threads (t.0 - 1) y) (tid.0 - 1))) ≡ ready_by s w (cond b None (slice_get s.threads (tid.0 - 1))))
    [ true ↦ refl | false ↦ ready_set s w s.threads (t.0 - 1) (tid.0 - 1) x y stands same ]

-- by the state only its threads count, its memory and the place of its input
same_parts : (s t : State) (w : Supplied) (o : Option Thread) → t.pages ≡ s.pages → t.input ≡ s.input → ready_by t w o ≡ ready_by s w o
same_parts s t w None pages input = refl
same_parts s t w (Some x) pages input =
    ap (λ m. is_running x && not (is_unanswered w (thread_peeked m t.input (Some x)))) pages
    ∙ ap (λ i. is_running x && not (is_unanswered w (thread_peeked s.pages i (Some x)))) input

-- what is the same after each slice is the same where none was begun
closed_keeps : {X : Type 0} (of : Course → X) (c : Course) (last : Option Tid) → ((t : Tid) → of (closed_by c (Some t)) ≡ of c) → of (closed_by c last) ≡ of c
closed_keeps of c None same = refl
closed_keeps of c (Some t) same = same t

-- ---- where a slice is closed

module _ (reserved : ReservationLaw) where
  ready_unreserved : (s : State) (w : Supplied) (hart : Hart) (clear : ℕ) → is_ready s w (Runs (record hart { held = None }) clear) ≡ is_ready s w (Runs hart clear)
  ready_unreserved s w hart clear = ap not (reserved (is_unanswered w) hart s.pages s.input refl refl)

  dropping_ready : (s : State) (w : Supplied) (t tid : Tid) (o : Option Thread) → thread_at s.threads t ≡ o → ready_at (dropping s t o) w tid ≡ ready_at s w tid
  dropping_ready s w t tid None there = refl
  dropping_ready s w t tid (Some (Runs hart clear)) there =
      same_parts s (dropping s t (Some (Runs hart clear))) w (thread_at (dropping s t (Some (Runs hart clear))).threads tid) refl refl
      ∙ ready_at_set s w t tid (Runs hart clear) (Runs (record hart { held = None }) clear) there (ready_unreserved s w hart clear)
  dropping_ready s w t tid (Some (Waits addr hart clear)) there =
      same_parts s (dropping s t (Some (Waits addr hart clear))) w (thread_at (dropping s t (Some (Waits addr hart clear))).threads tid) refl refl
      ∙ ready_at_set s w t tid (Waits addr hart clear) (Waits addr (record hart { held = None }) clear) there refl
  dropping_ready s w t tid (Some (Gone code)) there = refl

  pub closed_ready : (c : Course) (w : Supplied) (last : Option Tid) (tid : Tid) → ready_at (closed_by c last).state w tid ≡ ready_at c.state w tid
  closed_ready c w last tid = closed_keeps (λ (x : Course). ready_at x.state w tid) c last (λ t. dropping_ready c.state w t tid (thread_at c.state.threads t) refl)

pub closed_end : (c : Course) (last : Option Tid) → (closed_by c last).state.end ≡ c.state.end
closed_end c last = closed_keeps (λ (x : Course). x.state.end) c last (λ t. without_reservation-end c.state t)

pub closed_counts : (c : Course) (last : Option Tid) → (closed_by c last).state.steps ≡ c.state.steps
closed_counts c last = closed_keeps (λ (x : Course). x.state.steps) c last (λ t. without_reservation-steps c.state t)

pub closed_input : (c : Course) (last : Option Tid) → (closed_by c last).state.input ≡ c.state.input
closed_input c last = closed_keeps (λ (x : Course). x.state.input) c last (λ t. without_reservation-input c.state t)

pub closed_output : (c : Course) (last : Option Tid) → (closed_by c last).output ≡ c.output
closed_output c last = closed_keeps (λ (x : Course). x.output) c last (λ t. refl)

pub closed_answers : (c : Course) (last : Option Tid) → (closed_by c last).answers ≡ c.answers
closed_answers c last = closed_keeps (λ (x : Course). x.answers) c last (λ t. refl)

pub closed_turns : (c : Course) (last : Option Tid) → steps_of (closed_by c last).done + (closed_by c last).in_slice ≡ steps_of c.done + c.in_slice
closed_turns c last =
    closed_keeps (λ (x : Course). steps_of x.done + x.in_slice) c last (λ t. omega (arith, sum_by_push (λ (s : Slice). s.steps) c.done (record { tid = t; steps = c.in_slice })))
