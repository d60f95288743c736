use Rattle.dp_base.proofs.Fields.{number_code}
use Rattle.dp_base.proofs.Records.{header_code}
use Rattle.dp_base.proofs.Epochs.{slice_code, answer_code, epoch_code}
use Rattle.dp_base.proofs.Whole.{whole_code}
use Rattle.dp_base.proofs.laws.whole_values.Goals as goal

pub returns-clause-numbers : goal.returns-clause-numbers
returns-clause-numbers c = λ n. whole_code (number_code n)

pub returns-clause-headers : goal.returns-clause-headers
returns-clause-headers c = whole_code header_code

pub returns-clause-slices : goal.returns-clause-slices
returns-clause-slices c = whole_code slice_code

pub returns-clause-answers : goal.returns-clause-answers
returns-clause-answers c = whole_code answer_code

pub returns-clause-epochs : goal.returns-clause-epochs
returns-clause-epochs c = whole_code epoch_code
