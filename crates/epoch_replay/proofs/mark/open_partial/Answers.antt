use Rattle.checkpoint.specs.State.{checkpoint_of}
use Rattle.epoch_replay.proofs.Marks.{opened_partial}
use Rattle.epoch_replay.proofs.mark.open_partial.Goals as goal

pub returns-clause-right : goal.returns-clause-right
returns-clause-right c =
    opened_partial c.whole_checkpoints.ensures c.whole_partials.ensures (checkpoint_of c.args.base.now) c.args.body.now c.decode_partial.result c.decode_partial.ensures.found c.decode_partial.ensures.encodable
