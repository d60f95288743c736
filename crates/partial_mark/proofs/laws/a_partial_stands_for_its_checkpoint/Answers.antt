use Rattle.std.proofs.Common.{Option, ap, ◌∙◌}
use Rattle.dp_base.specs.Field.{◌>>=◌}
use Rattle.dp_base.proofs.Whole.{whole_code}
use Rattle.partial_mark.specs.Base.{applied, partial_of}
use Rattle.partial_mark.specs.Partial.{Partial}
use Rattle.partial_mark.proofs.PartialCode.{partial_code}
use Rattle.partial_mark.proofs.Applying.{back, is_against}
use Rattle.partial_mark.proofs.laws.a_partial_stands_for_its_checkpoint.Goals as goal

pub returns-clause-encodable : goal.returns-clause-encodable
returns-clause-encodable c = is_against

pub returns-clause-applied : goal.returns-clause-applied
returns-clause-applied c = back

pub returns-clause-restored : goal.returns-clause-restored
returns-clause-restored c = λ base checkpoint is.
    ap (λ (o : Option Partial). o >>= applied base) ((whole_code partial_code).decoded (partial_of base checkpoint) (is_against base checkpoint is)) ∙ back base checkpoint
