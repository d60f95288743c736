use Rattle.std.proofs.Common.{◌≡◌, ◌+◌, ◌≤◌, IfSome, arith, subst, sym, ◌∙◌}
use Rattle.racing_runner.proofs.Offering.{underway_ends, underway_enough, underway_failed, underway_more, underway_whole}
use Rattle.racing_runner.proofs.chaos.run.Goals as goal

pub returns-in_err-made-clause-offers : goal.returns-in_err-made-clause-offers
returns-in_err-made-clause-offers g c =
    underway_failed _ _ _ c.args.racer.number c.loop-place.place c.args.supply.now c.args.plan.now c.loop-place.left c.loop-place.state _ _
    c.loop-place.invariant.underway c.loop-place-test.true c.from_residual-in_err-made.ensures.0

pub returns-in-None-clause-offers : goal.returns-in-None-clause-offers
returns-in-None-clause-offers g c =
    underway_ends _ _ _ c.args.racer.number c.loop-place.place c.args.supply.now c.args.plan.now c.loop-place.left c.loop-place.state _
    c.loop-place.invariant.underway c.loop-place-test.true (sym c.in-None.is ∙ c.in_ok-made.ensures.made)

pub returns-in-Enough-clause-offers : goal.returns-in-Enough-clause-offers
returns-in-Enough-clause-offers g c =
    underway_enough _ _ _ _ c.args.racer.number c.loop-place.place c.args.supply.now c.args.plan.now c.loop-place.left c.loop-place.state c.in-Some.made _
    c.loop-place.invariant.underway c.loop-place-test.true (sym c.in-Some.is ∙ c.in_ok-made.ensures.made) c.in-Enough.ensures.taken

pub loop-place-preserved : goal.loop-place-preserved
loop-place-preserved g c = record {
  ready = c.in-Yes.ensures.ready;
  goes = g.met.K.JobSink.goes_on _ _ _ c.loop-place.invariant.goes c.in-Yes.ensures.goes;
  underway =
      underway_more _ _ _ _ c.args.racer.number c.loop-place.place c.args.supply.now c.args.plan.now c.loop-place.left c.loop-place.state c.in-Some.made
      c.loop-place.invariant.underway (sym c.in-Some.is ∙ c.in_ok-made.ensures.made) c.in-Yes.ensures.taken
      (subst (λ m. IfSome m (λ m. m.end.steps ≡ c.loop-place.state.steps + c.args.plan.now.epoch)) c.in-Some.is c.in_ok-made.ensures.moved)
      (subst (λ m. IfSome m (λ m. c.args.plan.now.epoch ≤ c.loop-place.left)) c.in-Some.is c.in_ok-made.ensures.within)
      c.from-left.result c.from-left.ensures;
}

pub returns-clause-offers : goal.returns-clause-offers
returns-clause-offers g c =
    underway_whole _ _ _ c.args.racer.number c.loop-place.place c.args.supply.now c.args.plan.now c.loop-place.left c.loop-place.state _
    c.loop-place.invariant.underway (omega (arith, c.loop-place-test.false, c.loop-place.auto.place-end))
