use Rattle.checkpoint.specs.State.{checkpoint_of}
use Rattle.checkpoint.proofs.Sizes.{encoding_short}
use Rattle.checkpoint.proofs.laws.an_encoding_is_short.Goals as goal

pub returns : goal.returns
returns c = λ s is. encoding_short (checkpoint_of s) is
