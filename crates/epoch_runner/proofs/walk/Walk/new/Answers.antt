use Rattle.epoch_runner.specs.Trace.{traced}
use Rattle.epoch_runner.proofs.Walks.{fresh_starts}
use Rattle.epoch_runner.proofs.walk.Walk.new.Goals as goal

pub returns : goal.returns
returns c = fresh_starts c.args.start (traced c.new-2.result) c.new.result c.new-2.ensures c.new.ensures
