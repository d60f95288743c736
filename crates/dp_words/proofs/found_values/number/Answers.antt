use Rattle.clap.specs.Words.{found_of, rows_of}
use Rattle.dp_words.proofs.Values.{number_parses, number_read}
use Rattle.dp_words.proofs.found_values.number.Goals as goal

pub unwrap-requires : goal.unwrap-requires
unwrap-requires c = number_parses 64 c.args.name.now c.found.result.now (rows_of (found_of c.args.matches.now)) c.parse.result c.found.ensures c.requires c.parse.ensures.value.0

pub returns : goal.returns
returns c = number_read 64 c.unwrap.result c.args.name.now c.found.result.now (rows_of (found_of c.args.matches.now)) c.parse.result c.found.ensures c.parse.ensures.value.0 c.unwrap.ensures
