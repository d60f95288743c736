use Rattle.epoch_replay.proofs.Stretches.{at_first}
use Rattle.epoch_replay.proofs.journal_stretch.begin_at.Goals as goal

pub returns-clause-is : goal.returns-clause-is
returns-clause-is c =
    rw (c.in_ok-base.ensures, c.in_ok-start.ensures, c.in_ok-last.ensures, c.in_ok-state.ensures, c.new.ensures.items) (at_first c.args.file.now c.args.at c.args.state.now c.requires.within c.requires.encodable)
