use Rattle.supply.specs.Supplied.{empty}
use Rattle.supply.specs.declared.TheConstants.{MAX_ROOM}
use Rattle.recorder.proofs.RunLists.{few_squashes}
use Rattle.recorder.proofs.laws.a_round_commits_an_epoch.Goals as goal

pub returns : goal.returns
returns c = λ tells options start r. few_squashes options tells r.racer 1 start r.end (empty MAX_ROOM) r.rounds r.each
