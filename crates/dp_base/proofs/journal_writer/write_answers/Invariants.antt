use Rattle.std.proofs.Common.{◌≡◌, ◌++◌, length, take}
use Rattle.std.specs.List.{flat_map}
use Rattle.byteorder.specs.Endian.{little_bytes}
use Rattle.dp_base.specs.Journal.{answer}
use Rattle.dp_base.proofs.journal_writer.write_answers.Given as goal

abbrev pub invariant-loop-given : goal.invariant-loop-given
invariant-loop-given l = l.out.items ≡ l.fn.out.items ++ (little_bytes 4 (length l.answers) ++ flat_map answer (take l.given-index l.answers))
