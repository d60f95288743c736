use Rattle.dp_top.proofs.Replays.{attached, not_attached, quiet_moments}
use Rattle.dp_top.proofs.replaying.replay_journal.Goals as goal

pub returns-then-is_err-clause-replayed : goal.returns-then-is_err-clause-replayed
returns-then-is_err-clause-replayed g c = not_attached _ _ c.attach.ensures.history

pub returns-clause-replayed : goal.returns-clause-replayed
returns-clause-replayed g c = attached _ _ _ c.replay-world.result.1 c.status_of_replayed.result c.attach.ensures.history c.status_of_replayed.ensures c.replay-world.ensures.replayed

pub returns-then-is_err-clause-moments : goal.returns-then-is_err-clause-moments
returns-then-is_err-clause-moments g c = quiet_moments _ _ c.attach.ensures.history
