use Rattle.std.proofs.Common.{◌≡◌, ◌++◌, length, take}
use Rattle.std.specs.List.{flat_map}
use Rattle.byteorder.specs.Endian.{little_bytes}
use Rattle.dp_base.specs.Journal.{slice}
use Rattle.dp_base.proofs.journal_writer.write_slices.Given as goal

abbrev pub invariant-loop-turns : goal.invariant-loop-turns
invariant-loop-turns l = l.out.items ≡ l.fn.out.items ++ (little_bytes 4 (length l.slices) ++ flat_map slice (take l.turns-index l.slices))
