use Rattle.std.proofs.Common.{List, ℕ, ◌++◌, subst}
use Rattle.byteorder.specs.Endian.{little_bytes}
use Rattle.guest_state.specs.Checkpoint.{end_bytes, word}
use Rattle.checkpoint.specs.Sink.{Adds}
use Rattle.checkpoint.proofs.Adding.{adds_last, five_rows}
use Rattle.checkpoint.proofs.partial_encoding.write_fields.Goals as goal

pub returns : goal.returns
returns g c =
    let s = c.args.state.now in
    let numbers = little_bytes 8 s.steps ++ (little_bytes 8 s.input ++ (word s.heap ++ word s.brk)) in
    record {
      added = subst (λ (t : List ℕ). Adds g.S.Sink.holds c.args.sink.now c.write_end.new.sink c.write_end.result t) (five_rows (little_bytes 8 s.steps) (little_bytes 8 s.input) (word s.heap) (word s.brk) (end_bytes s.end))
          (adds_last g.S.Sink.holds _ _ _ numbers (end_bytes s.end) _ c.in_ok-write_numbers.ensures.added c.write_end.ensures.added);
    }
