use Rattle.std.proofs.Common.{◌∙◌}
use Rattle.dp_words.proofs.found_values.text.Goals as goal

pub returns : goal.returns
returns c = c.from_string.ensures ∙ c.in_ok-from_str.ensures.ok ∙ c.found.ensures
