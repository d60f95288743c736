use Rattle.std.proofs.Common.{arith, codes}
use Rattle.dp_base.specs.declared.limits.TheConstants.{MAX_EPOCH_STEPS, MAX_JOBS, MAX_MARK_EPOCHS, MAX_RECORDING_STEPS, MAX_SLICE_STEPS, MAX_WORKERS}
use Rattle.clap.specs.Words.{found_of, rows_of}
use Rattle.dp_words.proofs.Values.{number_below, number_inside}
use Rattle.dp_words.proofs.found_values.record.Goals as goal

pub small_number-requires : goal.small_number-requires
small_number-requires c = number_below 4294967296 1 MAX_WORKERS (codes "workers") (rows_of (found_of c.args.matches.now)) (omega arith) c.requires.1.1.0

pub small_number-requires-2 : goal.small_number-requires-2
small_number-requires-2 c = number_below 4294967296 1 MAX_EPOCH_STEPS (codes "epoch") (rows_of (found_of c.args.matches.now)) (omega arith) c.requires.1.1.1.0

pub small_number-requires-3 : goal.small_number-requires-3
small_number-requires-3 c = number_below 4294967296 1 MAX_SLICE_STEPS (codes "slice") (rows_of (found_of c.args.matches.now)) (omega arith) c.requires.1.1.1.1.0

pub small_number-requires-4 : goal.small_number-requires-4
small_number-requires-4 c = number_below 4294967296 1 MAX_JOBS (codes "ahead") (rows_of (found_of c.args.matches.now)) (omega arith) c.requires.1.1.1.1.1.0

pub small_number-requires-5 : goal.small_number-requires-5
small_number-requires-5 c = number_below 4294967296 0 MAX_MARK_EPOCHS (codes "mark") (rows_of (found_of c.args.matches.now)) (omega arith) c.requires.1.1.1.1.1.1.0

pub number-requires : goal.number-requires
number-requires c = number_below 18446744073709551616 1 MAX_RECORDING_STEPS (codes "limit") (rows_of (found_of c.args.matches.now)) (omega arith) c.requires.1.1.1.1.1.1.1.0

pub returns-clause-ranges : goal.returns-clause-ranges
returns-clause-ranges c =
    let rows = rows_of (found_of c.args.matches.now) in
    let workers = number_inside 1 MAX_WORKERS c.small_number.result (codes "workers") rows c.small_number.ensures c.requires.1.1.0 in
    let epoch = number_inside 1 MAX_EPOCH_STEPS c.small_number-2.result (codes "epoch") rows c.small_number-2.ensures c.requires.1.1.1.0 in
    let slice = number_inside 1 MAX_SLICE_STEPS c.small_number-3.result (codes "slice") rows c.small_number-3.ensures c.requires.1.1.1.1.0 in
    let ahead = number_inside 1 MAX_JOBS c.small_number-4.result (codes "ahead") rows c.small_number-4.ensures c.requires.1.1.1.1.1.0 in
    let mark = number_inside 0 MAX_MARK_EPOCHS c.small_number-5.result (codes "mark") rows c.small_number-5.ensures c.requires.1.1.1.1.1.1.0 in
    let limit = number_inside 1 MAX_RECORDING_STEPS c.number.result (codes "limit") rows c.number.ensures c.requires.1.1.1.1.1.1.1.0 in
    (workers.0, workers.1, epoch.0, epoch.1, slice.0, slice.1, ahead.0, ahead.1, mark.1, limit.0, limit.1)
