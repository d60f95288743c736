use Rattle.std.proofs.Common.{◌≡◌, ◌++◌, take}
use Rattle.guest_gen.specs.Listing.{code_from}
use Rattle.guest_gen.proofs.elf_file.write_code.Given as goal

abbrev pub invariant-loop-instruction : goal.invariant-loop-instruction
invariant-loop-instruction l = record {
  index : l.index ≡ l.instruction-index;
  written : l.file.items ≡ l.fn.file.items ++ code_from 0 (take l.instruction-index l.code);
}
