use Rattle.std.proofs.Common.{◌≡◌, ◌++◌, take}
use Rattle.guest_gen.specs.Guest.{halves}
use Rattle.guest_gen.proofs.elf_file.write_halves.Given as goal

abbrev pub invariant-loop-number : goal.invariant-loop-number
invariant-loop-number l = l.file.items ≡ l.fn.file.items ++ halves (take l.number-index l.numbers)
