use Rattle.epoch_stream_tests.proofs.nonsense.offer_all.Given as goal

pub record IsOffering (Ready Goes : Type 0) : Type 0 where
  pub ready : Ready
  pub goes : Goes

abbrev pub invariant-each : goal.invariant-each
invariant-each g l = IsOffering (g.K.JobSink.ready l.sink) (g.K.JobSink.goes l.fn.sink l.sink)
