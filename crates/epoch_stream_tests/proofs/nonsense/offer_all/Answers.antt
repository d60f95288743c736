use Rattle.epoch_stream_tests.proofs.nonsense.offer_all.Goals as goal

pub each-preserved : goal.each-preserved
each-preserved g c = record {
  ready = c.offer.ensures.ready;
  goes = g.met.K.JobSink.goes_on _ _ _ c.each.invariant.goes c.offer.ensures.goes;
}
