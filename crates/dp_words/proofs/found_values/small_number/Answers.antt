use Rattle.std.proofs.Common.{arith}
use Rattle.dp_words.proofs.found_values.small_number.Goals as goal

pub number-requires : goal.number-requires
number-requires c = let below = c.requires.2 in (c.requires.0, c.requires.1, omega arith)
