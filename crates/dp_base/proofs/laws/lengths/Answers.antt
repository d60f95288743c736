use Rattle.dp_base.proofs.Sizes.{length-header, length-record_of, length-frame, length-epoch_body}
use Rattle.dp_base.proofs.laws.lengths.Goals as goal

pub returns-clause-header : goal.returns-clause-header
returns-clause-header c = length-header

pub returns-clause-record : goal.returns-clause-record
returns-clause-record c = length-record_of

pub returns-clause-frame : goal.returns-clause-frame
returns-clause-frame c = length-frame

pub returns-clause-epoch : goal.returns-clause-epoch
returns-clause-epoch c = length-epoch_body
