use Rattle.std.proofs.Common.{◌≡◌, ◌≤◌, List, length}
use Rattle.dp_base.specs.declared.limits.TheConstants.{MAX_JOBS}
use Rattle.job_board.specs.Passes.{IsCollectorOf, collected, counts}
use Rattle.epoch_runner.specs.declared.epoch_run.Ran.{Ran}
use Rattle.epoch_stream.specs.Deposits.{AreOf}
use Rattle.epoch_stream.specs.Takes.{AreWaiting, IsCount, WentOn}
use Rattle.epoch_stream.proofs.taker_part.take_all.Given as goal

abbrev pub invariant-takes : goal.invariant-takes
invariant-takes g l = record {
  collector : IsCollectorOf l.board l.tray.collector;
  waiting : AreWaiting l.tray.waiting.items (collected l.tray.collector);
  count : IsCount l.tray.count (counts l.tray.collector);
  within : l.next ≤ length l.tray.waiting.items;
  few : length l.tray.waiting.items ≤ MAX_JOBS;
  ready : g.T.Taker.ready l.taker;
  so_many : g.T.Taker.taken l.taker ≡ l.next;
  taken : (results : List Ran) × WentOn g.T.Taker.takes l.fn.taker results l.taker × AreOf l.supply (collected l.tray.collector) results × (length results ≡ l.next);
}
