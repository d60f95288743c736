use Rattle.std.proofs.Common.{◌∷◌, [], arith}
use Rattle.dp_base.specs.Field.{AreBytes}
use Rattle.journal_text_tests.proofs.worked_bytes.fields.Goals as goal

pub returns-clause-no_byte : goal.returns-clause-no_byte
returns-clause-no_byte c = λ (fits : AreBytes (256 ∷ [])). omega (arith, fits 0)
