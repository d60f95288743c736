-- The schedule of an epoch goes by the numbers of its bounds alone.
use Rattle.std.proofs.Common.{◌≡◌, ◌+◌, ℕ, zero, suc, false, cond, not, List, Option, Some, None, refl, sym, ap, ◌∙◌}
use Rattle.std.specs.Prelude.{◌&&◌, ◌||◌, nat_le, nat_lt}
use Rattle.dp_base.specs.declared.limits.TheConstants.{EPOCH_END_BYTES}
use Rattle.dp_base.specs.declared.tid.Tid.{Tid}
use Rattle.dp_base.specs.Field.{◌>>=◌}
use Rattle.dp_base.specs.Journal.{Epoch}
use Rattle.guest_kernel.specs.declared.state.State.{State}
use Rattle.epoch_runner.specs.Answering.{can_step, ready_at}
use Rattle.epoch_runner.specs.declared.bounds.Bounds.{Bounds}
use Rattle.epoch_runner.specs.Hinted.{Following, HintedTurn, any_left, hinted}
use Rattle.epoch_runner.specs.Schedule.{Course, IsScheduled, EpochProgress, after_last, begins_from, by_hinted, by_hints, by_last, course, ends, ends_epoch, turn_of, followed, next_step, progress, starting, step}
use Rattle.supply.specs.Supplied.{Supplied}
use Rattle.sync_hints.specs.NoHints.{no_hints}
use Rattle.sync_hints.specs.declared.hints.Hints.{Hints}
use Rattle.recorder.specs.declared.options.Options.{Options}
use Rattle.recorder.specs.Recording.{IsNextEpoch}

record AreAlike (a b : Bounds) : Type 0 where
  steps : a.steps ≡ b.steps
  slice : a.slice ≡ b.slice
  first : a.first ≡ b.first

module _ (w : Supplied) (a b : Bounds) (alike : AreAlike a b) where
  by_last_alike : (s : State) (p : EpochProgress) (last : Option Tid) → by_last s w a p last ≡ by_last s w b p last
  by_last_alike s p None = ap (begins_from s w) alike.first
  by_last_alike s p (Some tid) = ap (λ n. cond (ready_at s w tid && not p.yielded && nat_lt p.in_slice n) (turn_of tid false None) (begins_from s w (tid.0 + 1))) alike.slice

  after_last_alike : (last : Option Tid) → after_last a last ≡ after_last b last
  after_last_alike None = alike.first
  after_last_alike (Some tid) = refl

  by_hinted_alike : (s : State) (p : EpochProgress) (t : Option HintedTurn) → by_hinted s w a p t ≡ by_hinted s w b p t
  by_hinted_alike s p None = ap (begins_from s w) (after_last_alike p.last)
  by_hinted_alike s p (Some t) = refl

  by_hints_alike : (s : State) (p : EpochProgress) (hints : Option Following) → by_hints s w a p hints ≡ by_hints s w b p hints
  by_hints_alike s p None = by_last_alike s p p.last
  by_hints_alike s p (Some f) = ap (λ x. cond (any_left f.left) x ends) (by_hinted_alike s p (hinted s w f))

  next_alike : (s : State) (p : EpochProgress) → next_step s w a p ≡ next_step s w b p
  unfolding next_step
  next_alike s p =
      ap (λ n. cond (not (can_step s w) || nat_le n p.turns || nat_le EPOCH_END_BYTES p.output || nat_le EPOCH_END_BYTES p.read) ends (by_hints s w a p p.hints)) alike.steps
      ∙ ap (λ x. cond (ends_epoch s w b p) ends x) (by_hints_alike s p p.hints)

  then_alike : (o : Option Course) → (o >>= step w a) ≡ (o >>= step w b)
  then_alike None = refl
  then_alike (Some c) = ap (λ x. followed w c x) (next_alike c.state (progress c))

  course_alike : (n : ℕ) (c : Course) → course n w a c ≡ course n w b c
  unfolding course
  course_alike zero c = refl
  course_alike (suc n) c = ap (λ (o : Option Course). o >>= step w a) (course_alike n c) ∙ then_alike (course n w b c)

  scheduled_alike : (s : State) (hints : Hints) (e : Epoch) (output : List ℕ) (end : State) → IsScheduled s hints w a e output end → IsScheduled s hints w b e output end
  scheduled_alike s hints e output end is = record {
    turns = is.turns;
    last = is.last;
    went = sym (course_alike is.turns (starting s hints)) ∙ is.went;
    stops = sym (next_alike is.last.state (progress is.last)) ∙ is.stops;
    slices_are = is.slices_are;
    answers_are = is.answers_are;
    output_is = is.output_is;
    end_is = is.end_is;
  }

abbrev pub IsDetermined : Type 0
IsDetermined = (start : State) (hints : Hints) (w : Supplied) (bounds : Bounds) (e f : Epoch) (output other : List ℕ) (end otherwise : State)
    → IsScheduled start hints w bounds e output end → IsScheduled start hints w bounds f other otherwise → (e ≡ f) × (output ≡ other) × (end ≡ otherwise)

pub one_epoch : IsDetermined → (options : Options) (first : ℕ) (s : State) (w : Supplied) (e f : Epoch) (end other : State) (output written : List ℕ)
    → IsNextEpoch options first s w e end output → IsNextEpoch options first s w f other written → (e ≡ f) × (end ≡ other) × (output ≡ written)
one_epoch determined options first s w e f end other output written a b =
    let alike : AreAlike b.bounds a.bounds = record { steps = b.steps ∙ sym a.steps; slice = b.slice ∙ sym a.slice; first = b.first_is ∙ sym a.first_is } in
    let same = determined s no_hints w a.bounds e f output written end other a.scheduled (scheduled_alike w b.bounds a.bounds alike s no_hints f written other b.scheduled) in
    (same.0, same.2, same.1)
