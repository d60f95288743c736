use Rattle.std.proofs.Common.{ap, arith, sym, ◌∙◌}
use Rattle.racing_runner.specs.Racing.{raced, raced_so_far}
use Rattle.racing_runner.proofs.Stretches.{ends_early, few_small, so_far_more, turn_more}
use Rattle.racing_runner.proofs.noted_epoch.run_turns.Goals as goal

pub returns-in-None-clause-raced : goal.returns-in-None-clause-raced
returns-in-None-clause-raced c =
    ends_early c.args.supply.now c.args.bounds _ c.loop-step._step c.loop-step.walk c.loop-step.notes.counts.items c.loop-step.notes.order.items
    c.loop-step.invariant (omega (arith, c.loop-step-test.true)) c.in-None.ensures.next

pub note-requires : goal.note-requires
note-requires c = record { few = few_small c.loop-step._step c.loop-step.notes.counts.items (omega (arith, c.loop-step-test.true, c.args.bounds.few_steps)) c.loop-step.invariant.few }

pub loop-step-preserved : goal.loop-step-preserved
loop-step-preserved c =
    so_far_more c.args.supply.now c.args.bounds _ c.loop-step._step c.loop-step.walk c.take.new.self c.loop-step.notes.counts.items c.note.new.self.counts.items
    c.loop-step.notes.order.items c.note.new.self.order.items c.in-Some.turn c.in_ok-sync.sync c.loop-step.invariant
    (turn_more c.args.supply.now c.args.bounds c.loop-step.walk c.take.new.self c.loop-step.notes.counts.items c.note.new.self.counts.items
    c.loop-step.notes.order.items c.note.new.self.order.items c.in-Some.turn c.in_ok-sync.sync
    c.in-Some.ensures.next c.in_ok-sync.ensures.sync c.in_ok-sync.ensures.took c.in_ok-note.ensures.counts c.in_ok-note.ensures.order)
    c.in_ok-sync.ensures.turns c.in_ok-sync.ensures.steps c.in_ok-note.ensures.counts

pub returns-clause-raced : goal.returns-clause-raced
unfolding raced
returns-clause-raced c =
    let first = raced_so_far c.args.walk.now c.args.notes.now.counts.items c.args.notes.now.order.items in
    sym (c.loop-step.invariant.race 0) ∙ ap (λ k. raced k c.args.supply.now c.args.bounds first) (omega (arith, c.loop-step-test.false, c.loop-step.auto._step-end))
