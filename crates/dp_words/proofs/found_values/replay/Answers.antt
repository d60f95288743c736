use Rattle.std.proofs.Common.{arith, codes}
use Rattle.dp_base.specs.declared.limits.TheConstants.{MAX_WORKERS}
use Rattle.clap.specs.Words.{found_of, rows_of}
use Rattle.dp_words.proofs.Values.{number_below}
use Rattle.dp_words.proofs.found_values.replay.Goals as goal

pub small_number-workers-requires : goal.small_number-workers-requires
small_number-workers-requires c = number_below 4294967296 1 MAX_WORKERS (codes "workers") (rows_of (found_of c.args.matches.now)) (omega arith) c.requires.1.0
