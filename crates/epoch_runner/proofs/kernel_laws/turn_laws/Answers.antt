use Rattle.epoch_runner.proofs.kernel_laws.turn_laws.Goals as goal

pub returns : goal.returns
returns c = record {
  going = c.a_turn_is_of_a_thread_that_runs.ensures.going;
  runs = c.a_turn_is_of_a_thread_that_runs.ensures.runs;
  rest = c.a_turn_goes_by_its_peek.ensures.rest;
  has_turn = c.a_turn_goes_by_its_peek.ensures.turn;
  has_peek = c.a_turn_goes_by_its_peek.ensures.runs;
  counts = c.a_turn_is_one_step.ensures.counts;
  place = c.the_place_grows_by_what_is_read.ensures.turn;
}
