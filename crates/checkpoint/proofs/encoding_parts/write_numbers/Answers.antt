use Rattle.std.proofs.Common.{◌++◌}
use Rattle.byteorder.specs.Endian.{little_bytes}
use Rattle.guest_state.specs.Checkpoint.{word}
use Rattle.checkpoint.proofs.Adding.{adds_last}
use Rattle.checkpoint.proofs.encoding_parts.write_numbers.Goals as goal

pub returns-clause-added : goal.returns-clause-added
returns-clause-added g c =
    let s = c.args.state.now in
    let rest = word s.heap ++ word s.brk in
    adds_last g.S.Sink.holds _ _ _ (little_bytes 8 s.steps) (little_bytes 8 s.input ++ rest) _ c.in_ok-write_long.ensures.added
    (adds_last g.S.Sink.holds _ _ _ (little_bytes 8 s.input) rest _ c.in_ok-write_long-2.ensures.added
    (adds_last g.S.Sink.holds _ _ _ (word s.heap) (word s.brk) _ c.in_ok-write_word.ensures.added c.write_word-2.ensures.added))
