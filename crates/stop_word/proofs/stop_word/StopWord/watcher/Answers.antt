use Rattle.std.proofs.Common.{arith}
use Rattle.stop_word.proofs.Rules.{splits}
use Rattle.stop_word.proofs.stop_word.StopWord.watcher.Goals as goal

pub split_seat-seat-requires : goal.split_seat-seat-requires
split_seat-seat-requires c = let one = c.args.self.now.one in (c.requires.table, omega (arith, one), splits _ _)
