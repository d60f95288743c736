use Rattle.std.proofs.Common.{◌≡◌, length}
use Rattle.job_board.specs.Passes.{IsCollectorOf, collected, counts}
use Rattle.epoch_stream.specs.Takes.{AreWaiting, IsCount, Longer}
use Rattle.epoch_stream.proofs.taker_part.wait_for.Given as goal

abbrev pub invariant-turns : goal.invariant-turns
invariant-turns g l = record {
  collector : IsCollectorOf l.board l.tray.collector;
  waiting : AreWaiting l.tray.waiting.items (collected l.tray.collector);
  count : IsCount l.tray.count (counts l.tray.collector);
  longer : Longer (collected l.fn.tray.collector) (collected l.tray.collector);
  places : length l.tray.waiting.items ≡ length l.fn.tray.waiting.items;
}
