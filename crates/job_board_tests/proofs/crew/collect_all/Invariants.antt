use Rattle.job_board.specs.Passes.{IsCollectorOf}
use Rattle.stop_word.specs.Seats.{IsStopperOf}
use Rattle.job_board_tests.proofs.crew.collect_all.Given as goal

abbrev pub invariant-results : goal.invariant-results
invariant-results g l = record {
  collector : IsCollectorOf l.board l.collector;
  stopper : IsStopperOf l.stop l.stopper;
}
