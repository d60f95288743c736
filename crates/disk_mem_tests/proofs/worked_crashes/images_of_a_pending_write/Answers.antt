use Rattle.std.proofs.Common.{arith}
use Rattle.disk_mem_tests.proofs.worked_crashes.images_of_a_pending_write.Goals as goal

pub returns-clause-no_byte : goal.returns-clause-no_byte
returns-clause-no_byte c = λ is. omega (arith, is.bytes 1)
