use Rattle.guest_state.specs.Checkpoint.{word, hart_bytes}
use Rattle.checkpoint.proofs.Adding.{adds_last}
use Rattle.checkpoint.proofs.encoding_parts.write_waiting.Goals as goal

pub returns-clause-added : goal.returns-clause-added
returns-clause-added g c =
    adds_last g.S.Sink.holds _ _ _ (word c.args.addr) (hart_bytes c.args.hart.now c.args.clear) _ c.in_ok-write_word.ensures.added c.write_hart.ensures.added
