use Rattle.std.proofs.Common.{◌≡◌, ◌+◌, ◌<◌, Bool, true, false, List, [], None, sym, ap, subst, ◌∙◌, cond}
use Rattle.sync_hints.specs.declared.hints.SyncHint.{SyncHint}
use Rattle.epoch_runner.specs.Hinted.{Following, any_left, at_entry, lefts}
use Rattle.epoch_runner.specs.HintRun.{HintedSoFar, AreHintsOver, following_of, with_hand, without_hand}
use Rattle.epoch_runner.specs.Trace.{traced}
use Rattle.epoch_runner.proofs.Epochs.{nothing_done, untraced}
use Rattle.epoch_runner.proofs.HintHands.{at_entry-left, followed_less, followed_so_far, followed_stops, hinted_start, so_far_by}
use Rattle.epoch_runner.proofs.Hinting.{epoch_by}
use Rattle.epoch_runner.proofs.HintStops.{hinted_stop}
use Rattle.epoch_runner.proofs.hint_phase.begin.Goals as goal

pub returns-then-not-any_left : goal.returns-then-not-any_left
returns-then-not-any_left c =
    let start = c.args.start.now in
    let hints = c.args.hints.now in
    let w = c.args.supply.now in
    let bounds = c.args.bounds in
    let left_is : c.in_ok-following.following.left.items ≡ lefts hints.counts = ap (λ (f : Following). f.left) c.in_ok-following.ensures ∙ at_entry-left (lefts hints.counts) hints.order in
    let none : any_left (lefts hints.counts) ≡ false = ap any_left (sym left_is) ∙ sym c.any_left.ensures ∙ c.if-not-any_left.true in
    let fresh = c.new-course.result in
    let next = c.next_thread-next.result in
    epoch_by start hints w bounds [] fresh.slices bounds.steps fresh.left start fresh.state untraced (traced fresh.trace) next (nothing_done start hints w bounds next c.requires.some c.requires.can none c.next_thread-next.ensures)
    c.new-course.ensures.slices c.new-course.ensures.left (c.new-course.ensures.state ∙ c.in_ok-share.ensures) c.new-course.ensures.trace

pub turns-init : goal.turns-init
turns-init c =
    let start = c.args.start.now in
    let hints = c.args.hints.now in
    let w = c.args.supply.now in
    let bounds = c.args.bounds in
    let following = c.in_ok-following.following in
    let left_is : following.left.items ≡ lefts hints.counts = ap (λ (f : Following). f.left) c.in_ok-following.ensures ∙ at_entry-left (lefts hints.counts) hints.order in
    let any : any_left (lefts hints.counts) ≡ true = ap any_left (sym left_is) ∙ sym c.any_left.ensures ∙ c.if-not-any_left.false in
    let fresh = c.new-course.result in (
      so_far_by start hints w bounds start fresh.state [] fresh.slices untraced (traced fresh.trace) bounds.steps fresh.left None fresh.hand (at_entry (lefts hints.counts) hints.order) (following_of following hints.order)
          (hinted_start start hints w bounds c.requires.some c.requires.can any) (c.new-course.ensures.state ∙ c.in_ok-share.ensures) c.new-course.ensures.slices c.new-course.ensures.trace c.new-course.ensures.left
          c.new-course.ensures.hand c.in_ok-following.ensures,
      λ never. absurd cc,
    )

pub turns-smaller : goal.turns-smaller
turns-smaller c =
    let start = c.args.start.now in
    let hints = c.args.hints.now in
    let w = c.args.supply.now in
    let bounds = c.args.bounds in
    let l = c.turns in
    let order = c.as_slice-order.result.now in
    let n = c.follow.new.course in
    let more = c.in_ok-more.more in
    let followed = c.in_ok-more.ensures start hints bounds
    (subst (λ (o : List SyncHint). HintedSoFar start hints w bounds l.course.state l.course.slices (traced l.course.trace) l.course.left l.course.hand (following_of l.following o)) (sym c.as_slice-order.ensures) l.invariant.0) in
    subst (λ (b : Bool). n.left + cond more 1 0 < l.course.left + cond b 1 0) (sym c.turns-test.true)
    (followed_less more start hints w bounds n.state n.slices (traced n.trace) l.course.left n.left n.hand (following_of c.follow.new.following order) followed)

pub turns-preserved : goal.turns-preserved
turns-preserved c =
    let start = c.args.start.now in
    let hints = c.args.hints.now in
    let w = c.args.supply.now in
    let bounds = c.args.bounds in
    let l = c.turns in
    let order = c.as_slice-order.result.now in
    let n = c.follow.new.course in
    let more = c.in_ok-more.more in
    let g = c.follow.new.following in
    let followed = c.in_ok-more.ensures start hints bounds
    (subst (λ (o : List SyncHint). HintedSoFar start hints w bounds l.course.state l.course.slices (traced l.course.trace) l.course.left l.course.hand (following_of l.following o)) (sym c.as_slice-order.ensures) l.invariant.0) in (
      subst (λ (o : List SyncHint). HintedSoFar start hints w bounds n.state n.slices (traced n.trace) n.left n.hand (following_of g o)) c.as_slice-order.ensures
          (followed_so_far more start hints w bounds n.state n.slices (traced n.trace) l.course.left n.left n.hand (following_of g order) followed),
      λ none. subst (λ (o : List SyncHint). AreHintsOver w n.state (traced n.trace) n.left (following_of g o)) c.as_slice-order.ensures
          (followed_stops more start hints w bounds n.state n.slices (traced n.trace) l.course.left n.left n.hand (following_of g order) followed none),
    )

pub returns : goal.returns
returns c =
    let start = c.args.start.now in
    let hints = c.args.hints.now in
    let w = c.args.supply.now in
    let bounds = c.args.bounds in
    let l = c.turns.course in
    let f = following_of c.turns.following hints.order in
    let next = c.next_after-next.result in
    let last = c.end_slice.new.self in
    epoch_by start hints w bounds (with_hand l.slices l.hand) last.slices l.left last.left (without_hand l.state l.hand) last.state (traced l.trace) (traced last.trace) next
    (hinted_stop start hints w bounds l.state l.slices (traced l.trace) l.left l.hand f next c.turns.invariant.0 c.next_after-next.ensures.used_up c.next_after-next.ensures.dropped (c.turns.invariant.1 c.turns-test.false))
    c.in_ok-end_slice.ensures.slices c.end_slice.ensures.left c.in_ok-end_slice.ensures.state c.end_slice.ensures.trace
