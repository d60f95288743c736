use Rattle.std.proofs.Common.{◌∙◌, ℕ, ap, not, sym}
use Rattle.std.specs.Prelude.{◌==◌}
use Rattle.turn_peek.proofs.PlainWords.{decoded_plain}
use Rattle.turn_peek.proofs.plain_word.is_plain.Goals as goal

pub returns-clause-plain : goal.returns-clause-plain
returns-clause-plain c = λ is. decoded_plain c.args.word (ap (λ (n : ℕ). not (n == 0x2f)) (sym c.opcode.ensures) ∙ is)
