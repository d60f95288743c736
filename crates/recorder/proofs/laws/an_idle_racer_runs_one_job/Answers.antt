use Rattle.supply.specs.Supplied.{empty}
use Rattle.supply.specs.declared.TheConstants.{MAX_ROOM}
use Rattle.recorder.proofs.Determined.{each_one}
use Rattle.recorder.proofs.laws.an_idle_racer_runs_one_job.Goals as goal

pub returns : goal.returns
returns c = λ tells idle options start r. each_one options tells idle 1 start r.end (empty MAX_ROOM) r.rounds r.racer r.each
