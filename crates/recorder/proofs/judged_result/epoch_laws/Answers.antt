use Rattle.recorder.proofs.judged_result.epoch_laws.Goals as goal

pub returns : goal.returns
returns c = record {
  more = c.an_epoch_more.ensures;
  supplied = c.an_epoch_is_supplied.ensures;
  few = c.an_epoch_ends_by_a_rule.ensures.few;
  writes = c.an_epoch_ends_by_a_rule.ensures.writes;
  counts = c.a_run_is_as_long_as_its_slices.ensures.counts;
  reads = c.a_run_is_as_long_as_its_slices.ensures.reads;
  goes_on = λ s slices log there ran on. record { runs = c.a_guest_goes_on_while_a_thread_runs.ensures.run s slices log there ran on.runs; few = c.threads_are_few.ensures.run s slices log there ran on.few };
  made = c.threads_are_few.ensures.made;
  encodable = c.a_run_keeps_a_state_encodable.ensures;
}
