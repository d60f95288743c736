use Rattle.std.proofs.Common.{◌≡◌, ◌-◌, ◌≤◌, ℕ, List, length, drop, sym, ap, subst, ◌∙◌, arith}
use Rattle.guest_kernel.specs.Answers.{bytes_read}
use Rattle.guest_kernel.specs.State.{has_ended}
use Rattle.epoch_runner.specs.Hinted.{HintedTurn, left_of, less}
use Rattle.epoch_runner.specs.HintRun.{HasTakenHinted, begins_by, following_of, with_steps}
use Rattle.epoch_runner.specs.SliceRun.{Traced}
use Rattle.epoch_runner.specs.Trace.{traced}
use Rattle.epoch_runner.proofs.HintHands.{not_over, so_far_by}
use Rattle.epoch_runner.proofs.Hinting.{Goes, hinted_more, taken_some, turn_open}
use Rattle.epoch_runner.proofs.Nexts.{hinted_can}
use Rattle.epoch_runner.proofs.hint_turns.follow.Goals as goal

pub take-requires-clause-ready : goal.take-requires-clause-ready
take-requires-clause-ready c =
    let order = c.args.order.now in
    let course = c.args.course.now in
    let f = following_of c.args.following.now order in
    let f1 = following_of c.next_turn.new.self order in
    let goes = not_over (has_ended course.state.end) course.left (length course.trace.out.items) (length (bytes_read course.trace.answers)) (sym c.is_over.ensures ∙ c.if-is_over.false) in
    let turn = c.in-Some.turn in
    (turn_open c.turn_laws.ensures c.a_reservation_asks_for_nothing.ensures c.args.supply.now course.state course.hand course.slices f f1 turn (begins_by course.hand turn) c.begin_slice.new.self.state c.begin_slice.new.self.slices
    c.begin_slice.new.self.hand goes.0 c.in-Some.ensures.some c.in_ok-begin_slice.ensures.hand).1.0

pub take-requires-clause-some : goal.take-requires-clause-some
take-requires-clause-some c =
    let order = c.args.order.now in
    let course = c.args.course.now in
    let f = following_of c.args.following.now order in
    let f1 = following_of c.next_turn.new.self order in
    let goes = not_over (has_ended course.state.end) course.left (length course.trace.out.items) (length (bytes_read course.trace.answers)) (sym c.is_over.ensures ∙ c.if-is_over.false) in
    let turn = c.in-Some.turn in
    let named : HintedTurn = record { tid = turn.tid; fresh = turn.fresh; behind = record f1 { left = less f1.left turn.tid 1 } } in
    let own = (hinted_can course.state c.args.supply.now f named c.in-Some.ensures.some.is).1 in
    let own_is : c.left_of.result ≡ left_of f.left turn.tid = c.left_of.ensures ∙ ap (λ xs. left_of xs turn.tid) c.next_turn.ensures.left in
    omega (arith, c.min-limit.ensures, goes.1.0, own, own_is, c.begin_slice.ensures.left)

pub returns : goal.returns
returns c = λ start hints bounds so_far.
    let order = c.args.order.now in
    let course = c.args.course.now in
    let w = c.args.supply.now in
    let f = following_of c.args.following.now order in
    let f1 = following_of c.next_turn.new.self order in
    let opened = not_over (has_ended course.state.end) course.left (length course.trace.out.items) (length (bytes_read course.trace.answers)) (sym c.is_over.ensures ∙ c.if-is_over.false) in
    let goes : Goes w course.state (traced course.trace) course.left f = record { alive = opened.0; some = opened.1.0; little = opened.1.1.0; little_read = opened.1.1.1; any = sym c.any_left.ensures ∙ c.if-not-any_left.false } in
    let turn = c.in-Some.turn in
    let steps = c.in_ok-steps.steps in
    let begun = c.begin_slice.new.self in
    let within : steps ≤ course.left = omega (arith, c.in_ok-steps.ensures.within, c.min-limit.ensures, c.begin_slice.ensures.left) in
    let own : steps ≤ left_of f1.left turn.tid = omega (arith, c.in_ok-steps.ensures.within, c.min-limit.ensures, c.left_of.ensures) in
    let taken : HasTakenHinted w turn.tid turn.is_plain begun.state (traced course.trace) steps c.take.new.state (traced c.take.new.trace) =
    subst (λ (t : Traced). HasTakenHinted w turn.tid turn.is_plain begun.state t steps c.take.new.state (traced c.take.new.trace)) c.begin_slice.ensures.trace c.in_ok-steps.ensures.taken in
    let more = hinted_more c.turn_laws.ensures c.a_reservation_asks_for_nothing.ensures start hints w bounds course.state course.slices (traced course.trace) course.left course.hand f f1 so_far goes turn c.in-Some.ensures.some
    (omega arith) begun.state begun.slices begun.hand c.in_ok-begin_slice.ensures.hand steps c.take.new.state (traced c.take.new.trace) taken within own in
    let last = c.take-2.new.self in
    let left : List ℕ = less f1.left turn.tid steps in
    let after : following_of last order ≡ record f1 { left = left } =
    ap (λ xs. record { left = xs; stage = last.stage; order = drop last.taken order }) c.take-2.ensures.left
    ∙ ap (λ x. record { left = left; stage = x; order = drop last.taken order }) c.take-2.ensures.stage
    ∙ ap (λ n. record { left = left; stage = f1.stage; order = drop n order }) c.take-2.ensures.taken in
    let left_is : c.count.new.self.left ≡ course.left - steps = c.count.ensures.left ∙ ap (λ n. n - steps) c.begin_slice.ensures.left in
    let some = taken_some w turn.tid turn.is_plain begun.state (traced course.trace) steps c.take.new.state (traced c.take.new.trace) taken in (
      so_far_by start hints w bounds c.take.new.state c.count.new.self.state begun.slices c.count.new.self.slices (traced c.take.new.trace) (traced c.count.new.self.trace) (course.left - steps) c.count.new.self.left
          (with_steps steps begun.hand) c.count.new.self.hand (record f1 { left = left }) (following_of last order) more c.count.ensures.state c.count.ensures.slices c.count.ensures.trace left_is c.count.ensures.hand after,
      omega (arith, left_is, some, within),
    )
