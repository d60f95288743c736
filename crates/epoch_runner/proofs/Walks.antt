-- A walk: its start, and the turn that is next in it.
use Rattle.std.proofs.Common.{◌≡◌, ◌+◌, ◌<◌, ◌^◌, Bool, true, false, List, [], length, Option, None, sym, ap, subst, ◌∙◌, arith}
use Rattle.std.proofs.lemmas.Bool.{cond-false}
use Rattle.dp_base.specs.declared.limits.TheConstants.{EPOCH_END_BYTES}
use Rattle.dp_base.specs.declared.slice.Slice.{Slice}
use Rattle.dp_base.specs.declared.tid.Tid.{Tid}
use Rattle.dp_base.specs.Journal.{steps_of}
use Rattle.guest_kernel.specs.declared.state.State.{State}
use Rattle.guest_kernel.specs.Answers.{bytes_read}
use Rattle.guest_kernel.specs.State.{has_ended}
use Rattle.epoch_runner.specs.declared.bounds.Bounds.{Bounds}
use Rattle.epoch_runner.specs.Answering.{ready_at}
use Rattle.epoch_runner.specs.Hinted.{lefts}
use Rattle.epoch_runner.specs.KernelLaws.{ReservationLaw}
use Rattle.epoch_runner.specs.Schedule.{Course, NextStep, begins_from, by_last, ends, ends_epoch, next_step, progress, starting, turn_of}
use Rattle.epoch_runner.specs.SliceRun.{Traced}
use Rattle.epoch_runner.specs.Walking.{opened}
use Rattle.epoch_runner.proofs.Epochs.{untraced}
use Rattle.epoch_runner.proofs.Nexts.{next_by_last, turn_next}
use Rattle.epoch_runner.proofs.Reservations.{closed_answers, closed_end, closed_ready, closed_turns}
use Rattle.supply.specs.Supplied.{Supplied}
use Rattle.sync_hints.specs.NoHints.{no_hints}

-- a walk of which no turn is taken
abbrev pub fresh : State → Traced → List Slice → Course
fresh s t done = record { state = s; output = t.output; answers = t.answers; done = done; last = None; in_slice = 0; yielded = false; hints = None }

pub fresh_starts : (s : State) (t : Traced) (done : List Slice) → t ≡ untraced → done ≡ [] → fresh s t done ≡ starting s no_hints
unfolding lefts
fresh_starts s t done nothing none = ap (λ x. fresh s x done) nothing ∙ ap (fresh s untraced) none

-- what is next where an epoch goes on without hints, by the thread that ran last
pub goes_by : (w : Supplied) (bounds : Bounds) (known c : Course) (last : Option Tid) (x : NextStep) → known ≡ c → known.hints ≡ None → known.last ≡ last → ends_epoch c.state w bounds (progress c) ≡ false
    → x ≡ by_last c.state w bounds (progress c) last → x ≡ next_step c.state w bounds (progress c)
goes_by w bounds known c last x same none last_is goes is =
    is ∙ ap (by_last c.state w bounds (progress c)) (sym last_is ∙ ap (λ (y : Course). y.last) same)
    ∙ sym (cond-false (ends_epoch c.state w bounds (progress c)) ends (by_last c.state w bounds (progress c) c.last) goes)
    ∙ sym (next_by_last c.state w bounds (progress c) (ap (λ (y : Course). y.hints) (sym same) ∙ none))

-- before the first turn a slice begins
pub goes_first : (w : Supplied) (bounds : Bounds) (known c : Course) (x : NextStep) → known ≡ c → known.hints ≡ None → known.last ≡ None → ends_epoch c.state w bounds (progress c) ≡ false → x ≡ begins_from known.state w bounds.first
    → x ≡ next_step c.state w bounds (progress c)
goes_first w bounds known c x same none last_is goes is = goes_by w bounds known c None x same none last_is goes (is ∙ ap (λ (y : Course). begins_from y.state w bounds.first) same)

-- a turn of a thread can be taken in its slice
pub record CanTurn (c : Course) (w : Supplied) (tid : Tid) : Type 0 where
  pub alive : has_ended c.state.end ≡ false
  pub ready : ready_at c.state w tid ≡ true
  pub little_read : length (bytes_read c.answers) < EPOCH_END_BYTES
  pub few : steps_of c.done + c.in_slice + 1 < 2 ^ 32

-- what the end of a slice leaves for a turn that is next
pub can_turn : ReservationLaw → (c : Course) (w : Supplied) (bounds : Bounds) (tid : Tid) (begins : Bool) → next_step c.state w bounds (progress c) ≡ turn_of tid begins None → CanTurn (opened begins c) w tid
can_turn reserved c w bounds tid false is =
    let there = turn_next c.state w bounds (progress c) tid false None is in
    record {
      alive = there.0.alive;
      ready = there.1.0;
      little_read = there.0.little_read;
      few = omega (arith, there.0.few, bounds.few_steps);
    }
can_turn reserved c w bounds tid true is =
    let there = turn_next c.state w bounds (progress c) tid true None is in
    record {
      alive = ap has_ended (closed_end c c.last) ∙ there.0.alive;
      ready = closed_ready reserved c w c.last tid ∙ there.1.0;
      little_read = subst (λ a. length (bytes_read a) < EPOCH_END_BYTES) (sym (closed_answers c c.last)) there.0.little_read;
      few = omega (arith, there.0.few, bounds.few_steps, closed_turns c c.last);
    }
