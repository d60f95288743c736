use Rattle.std.proofs.Common.{◌∙◌}
use Rattle.clap.specs.Words.{first_of, found_of, rows_of}
use Rattle.clap.proofs.CallerLemmas.{some_of_text}
use Rattle.clap.proofs.WalkLemmas.{first_value-rows}
use Rattle.dp_words.proofs.Values.{text_read}
use Rattle.dp_words.proofs.found_values.found.Goals as goal

pub unwrap-requires : goal.unwrap-requires
unwrap-requires c = some_of_text (λ s. s.now) c.get_str.result (first_of c.args.name.now (rows_of (found_of c.args.matches.now))) (c.get_str.ensures ∙ first_value-rows (found_of c.args.matches.now) c.args.name.now) c.requires

pub returns : goal.returns
returns c = text_read c.get_str.result c.unwrap.result (first_of c.args.name.now (rows_of (found_of c.args.matches.now))) (c.get_str.ensures ∙ first_value-rows (found_of c.args.matches.now) c.args.name.now) c.unwrap.ensures
