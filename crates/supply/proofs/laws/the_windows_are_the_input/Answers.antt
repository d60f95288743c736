use Rattle.supply.proofs.Joined.{joined-given, joined-left, joined-whole}
use Rattle.supply.proofs.laws.the_windows_are_the_input.Goals as goal

pub returns-clause-given : goal.returns-clause-given
returns-clause-given c = joined-given

pub returns-clause-left : goal.returns-clause-left
returns-clause-left c = joined-left

pub returns-clause-whole : goal.returns-clause-whole
returns-clause-whole c = joined-whole
