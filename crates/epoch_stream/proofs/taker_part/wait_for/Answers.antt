use Rattle.std.proofs.Common.{◌∙◌}
use Rattle.job_board.specs.Passes.{collected}
use Rattle.epoch_stream.proofs.Handing.{count_kept, count_more, longer_kept, longer_more, waiting_fewer, waiting_kept, waiting_more}
use Rattle.epoch_stream.proofs.taker_part.wait_for.Goals as goal

pub turns-preserved-in-Result : goal.turns-preserved-in-Result
turns-preserved-in-Result g c = let i = c.turns.invariant in let e = c.in-Result.ensures.collects in record {
  collector = c.collect.ensures.pass;
  waiting = waiting_more _ _ _ _ _ _ _ i.waiting c.pick.ensures.rest c.put.ensures.put e.0;
  count = count_kept _ _ _ i.count e.1;
  longer = longer_more _ _ _ _ i.longer e.0;
  places = c.put.ensures.places ∙ c.pick.ensures.places ∙ i.places;
}

pub turns-preserved-in-Count : goal.turns-preserved-in-Count
turns-preserved-in-Count g c = let i = c.turns.invariant in let e = c.in-Count.ensures.collects in record {
  collector = c.collect.ensures.pass;
  waiting = waiting_kept _ _ _ _ i.waiting c.pick.ensures.rest e.0;
  count = count_more _ _ _ _ i.count e.1;
  longer = longer_kept _ _ _ i.longer e.0;
  places = c.pick.ensures.places ∙ i.places;
}

pub returns-in-Some-pick-clause-waiting : goal.returns-in-Some-pick-clause-waiting
returns-in-Some-pick-clause-waiting g c =
    waiting_fewer c.turns.tray.waiting.items c.pick.new.waiting.items (collected c.turns.tray.collector) c.turns.invariant.waiting c.pick.ensures.rest
