use Rattle.std.proofs.Common.{◌≤◌, [], refl, arith}
use Rattle.byteorder.specs.Endian.{little_bytes}
use Rattle.dp_base.specs.Field.{number_at}
use Rattle.dp_base.specs.Encoding.{IsPrefixCode}
use Rattle.journal_text_tests.proofs.worked_bytes.no_code_for_256.Goals as goal

pub returns : goal.returns
returns c = λ (code : IsPrefixCode (number_at 1) (little_bytes 1) (λ x. x ≤ 256)).
    let same = code.prefix_free 0 256 [] [] (omega arith) (omega arith) refl in
    omega (arith, same.0)
