use Rattle.std.proofs.Common.{◌≡◌, ◌++◌, take}
use Rattle.guest_gen.specs.Guest.{words}
use Rattle.guest_gen.proofs.elf_file.write_words.Given as goal

abbrev pub invariant-loop-number : goal.invariant-loop-number
invariant-loop-number l = l.file.items ≡ l.fn.file.items ++ words (take l.number-index l.numbers)
