use Rattle.dp_top.proofs.Halves.{replay_is_its_run}
use Rattle.dp_top.proofs.laws.a_crash_is_replayed.Goals as goal

pub returns : goal.returns
returns c = λ guest every i j image said before after report accepted r replayed.
    replay_is_its_run guest accepted image r.all every r.epochs r.journal.0 r.journal.1 r.end r.output r.chained before after report replayed
