use Rattle.epoch_stream.proofs.Handing.{put_at}
use Rattle.epoch_stream.proofs.taker_part.put.Goals as goal

pub returns-then-place-len-clause-put : goal.returns-then-place-len-clause-put
returns-then-place-len-clause-put c i d e = put_at c.args.waiting.now.items c.args.index i c.args.deposit d c.if-place-ge1.true e
