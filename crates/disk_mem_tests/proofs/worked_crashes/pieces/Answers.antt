use Rattle.std.proofs.Common.{◌∷◌, [], arith, refl, rules}
use Rattle.disk_mem_tests.proofs.worked_crashes.pieces.Goals as goal

pub returns-clause-both : goal.returns-clause-both
returns-clause-both c = record {
  on_disk = record { no_shorter = omega arith; no_longer = omega arith; stays = λ i below out. refl; bytes = search rules };
  taken = 2;
  got = refl;
}
