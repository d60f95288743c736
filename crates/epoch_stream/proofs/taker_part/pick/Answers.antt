use Rattle.epoch_stream.proofs.Handing.{picked_at}
use Rattle.epoch_stream.proofs.taker_part.pick.Goals as goal

pub returns-clause-rest : goal.returns-clause-rest
returns-clause-rest c i d e = picked_at c.args.waiting.now.items c.args.place i c.take.new.self d c.take.ensures.after e
