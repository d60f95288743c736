use Rattle.thread_racer.proofs.thread_racer.ThreadRacer.race_through.Goals as goal

pub loop-job-preserved : goal.loop-job-preserved
loop-job-preserved g c = (c.in-Yes.ensures.ready, g.met.K.JobSink.goes_on _ _ _ c.loop-job.invariant.1 c.in-Yes.ensures.goes)
