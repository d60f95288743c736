use Rattle.std.proofs.Common.{arith}
use Rattle.stop_word.proofs.Rules.{loads}
use Rattle.stop_word.proofs.stop_word.StopWord.is_stopped.Goals as goal

pub load-requires : goal.load-requires
load-requires c = let one = c.args.self.now.one in (c.requires.table, omega (arith, one), loads _ _ _)
