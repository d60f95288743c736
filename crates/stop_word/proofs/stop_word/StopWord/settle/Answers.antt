use Rattle.std.proofs.Common.{◌∙◌, arith}
use Rattle.stop_word.proofs.Rules.{compares, joins}
use Rattle.stop_word.proofs.stop_word.StopWord.settle.Goals as goal

pub join_seat-requires : goal.join_seat-requires
join_seat-requires c = let one = c.args.self.now.one in (c.requires.stopper.table, c.requires.watcher.table, c.requires.watcher.free, omega (arith, one), joins _ _ _ _)

pub load-requires : goal.load-requires
load-requires c = let one = c.args.self.now.one in (c.join_seat.ensures.0 ∙ c.requires.stopper.table, omega (arith, one), compares _ _ _)
