use Rattle.commit_core.proofs.Judges.{none_judged, says}
use Rattle.commit_core.proofs.laws.a_round_commits_what_joins_on.Goals as goal

pub returns-clause-starts : goal.returns-clause-starts
returns-clause-starts c = λ s results core committed jobs judged going. none_judged s results core committed jobs judged going

pub returns-clause-judged : goal.returns-clause-judged
returns-clause-judged c = λ s results runs core there verdict within judged. says s results runs core verdict there within judged
