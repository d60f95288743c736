use Rattle.epoch_runner.proofs.kernel_laws.run_laws.Goals as goal

pub returns : goal.returns
returns c = record {
  reads = c.a_turn_reads_and_writes_little.ensures.reads;
  writes = c.a_turn_reads_and_writes_little.ensures.writes;
  longer = c.a_longer_log_serves.ensures.turns;
  more = c.turns_count_on.ensures;
  slice_more = c.a_slice_more.ensures;
}
