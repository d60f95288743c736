use Rattle.std.proofs.Common.{arith, codes}
use Rattle.clap.specs.Words.{found_of, rows_of}
use Rattle.dp_words.proofs.Values.{number_below, number_inside}
use Rattle.dp_words.proofs.found_values.selftest.Goals as goal

pub small_number-requires : goal.small_number-requires
small_number-requires c = number_below 4294967296 0 4294967295 (codes "n") (rows_of (found_of c.args.matches.now)) (omega arith) c.requires.0

pub returns-clause-ranges : goal.returns-clause-ranges
returns-clause-ranges c = (number_inside 0 4294967295 c.small_number.result (codes "n") (rows_of (found_of c.args.matches.now)) c.small_number.ensures c.requires.0).1
