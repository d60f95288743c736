use Rattle.std.proofs.Common.{refl, sym, subst, ◌∙◌}
use Rattle.guest_kernel.specs.declared.state.State.{State}
use Rattle.epoch_stream.proofs.Singles.{none_done, one_done, starts_there}
use Rattle.epoch_stream.proofs.single_job.run_one.Goals as goal

pub take_known-requires-clause-known : goal.take_known-requires-clause-known
take_known-requires-clause-known g c = λ run is.
    subst (λ (s : State). g.T.Taker.expects c.args.taker s) (sym (starts_there c.args.supply.now c.job_of-job.result c.in-Ok.ran run c.in-Ok.ensures is ∙ c.job_of-job.ensures.start)) c.requires.expected

pub returns-in-Ok : goal.returns-in-Ok
returns-in-Ok g c = one_done g.Q.Racer.tells g.T.Taker.takes c.args.supply.now c.args.plan.now c.args.start c.args.racer c.args.taker c.take_known.new.self c.requires.one c.job_of-job.result c.in-Ok.ran c.take_known.result c.job_of-job.ensures.start (c.job_of-job.ensures.hints ∙ c.none.ensures) c.job_of-job.ensures.index c.job_of-job.ensures.bounds c.in-Ok.ensures c.take_known.ensures.takes

pub returns : goal.returns
returns g c = none_done g.Q.Racer.tells g.T.Taker.takes c.args.supply.now c.args.plan.now c.args.start c.args.racer c.args.taker c.args.taker c.requires.one c.in-Err.error refl
