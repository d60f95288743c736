use Rattle.std.proofs.Common.{refl, ap, ℕ, ◌+◌}
use Rattle.guest_gen.proofs.Words.{next_written, none_written}
use Rattle.guest_gen.proofs.elf_file.write_code.Goals as goal

pub loop-instruction-init : goal.loop-instruction-init
loop-instruction-init c = record { index = refl; written = none_written c.args.file.now.items }

pub loop-instruction-preserved : goal.loop-instruction-preserved
loop-instruction-preserved c =
    let l = c.loop-instruction in
    record {
      index = ap (λ (n : ℕ). n + 1) l.invariant.index;
      written = next_written c.args.file.now.items l.file.items _ l.index l.instruction-index _ c.args.code.now _ c.loop-instruction-test.true l.invariant.index l.invariant.written c.encode.ensures c.in_ok-write_u32.ensures.added;
    }
