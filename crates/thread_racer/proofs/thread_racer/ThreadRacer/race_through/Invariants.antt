use Rattle.thread_racer.proofs.thread_racer.ThreadRacer.race_through.Given as goal

abbrev pub invariant-loop-job : goal.invariant-loop-job
invariant-loop-job g l = g.K.JobSink.ready l.sink × g.K.JobSink.goes l.fn.sink l.sink
