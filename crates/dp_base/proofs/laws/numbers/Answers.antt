use Rattle.dp_base.proofs.Fields.{number_code, number_left}
use Rattle.dp_base.proofs.laws.numbers.Goals as goal

pub returns-clause-code : goal.returns-clause-code
returns-clause-code c = number_code

pub returns-clause-left : goal.returns-clause-left
returns-clause-left c = number_left
