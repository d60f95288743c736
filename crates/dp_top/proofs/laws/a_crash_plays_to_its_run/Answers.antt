use Rattle.std.proofs.Common.{ap}
use Rattle.epoch_replay.specs.Play.{plays_to}
use Rattle.dp_top.proofs.Halves.{chain_is_played}
use Rattle.dp_top.proofs.laws.a_crash_plays_to_its_run.Goals as goal

pub returns-clause-recording : goal.returns-clause-recording
returns-clause-recording c = λ guest every i j image said accepted r. chain_is_played guest accepted image r.all every r.epochs r.journal.0 r.journal.1 r.end r.output r.chained

pub returns-clause-none : goal.returns-clause-none
returns-clause-none c = λ image none. ap plays_to none
