use Rattle.std.proofs.Common.{arith}
use Rattle.stop_word.proofs.Rules.{stores}
use Rattle.stop_word.proofs.stop_word.StopWord.stop.Goals as goal

pub store-requires : goal.store-requires
store-requires c = let one = c.args.self.now.one in (c.requires.table, omega (arith, one), stores _ _ _ c.requires.stopper)
