use Rattle.std.proofs.Common.{◌∷◌, [], ◌++◌, sym, subst}
use Rattle.guest_state.specs.declared.thread.Thread.{Thread}
use Rattle.guest_state.specs.Checkpoint.{word, hart_bytes, thread_bytes}
use Rattle.checkpoint.specs.Sink.{Adds}
use Rattle.checkpoint.proofs.Adding.{adds_last}
use Rattle.checkpoint.proofs.encoding_parts.write_thread.Goals as goal

pub returns-in_ok-put-in-Waits-clause-added : goal.returns-in_ok-put-in-Waits-clause-added
returns-in_ok-put-in-Waits-clause-added g c =
    let w = c.in-Waits in
    subst (λ (t : Thread). Adds g.S.Sink.holds c.args.sink.now c.write_waiting.new.sink c.write_waiting.result (thread_bytes t)) (sym w.is)
    (adds_last g.S.Sink.holds _ _ _ (1 ∷ []) (word w.addr ++ hart_bytes w.hart w.clear) _ c.in_ok-put-in-Waits.ensures.added c.write_waiting.ensures.added)
