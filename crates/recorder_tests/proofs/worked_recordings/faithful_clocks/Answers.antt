use Rattle.std.proofs.Common.{◌∷◌, [], refl}
use Rattle.recorder_tests.proofs.Worked.{not_in_clocks}
use Rattle.recorder_tests.proofs.worked_recordings.faithful_clocks.Goals as goal

pub returns-clause-in_order : goal.returns-clause-in_order
returns-clause-in_order c = record { reads = ([], refl); ends = λ before after e. absurd (not_in_clocks 5 7 before after e); clocks = (0, refl, (2, refl, tt)) }

pub returns-clause-twice : goal.returns-clause-twice
returns-clause-twice c = record { reads = ([], refl); ends = λ before after e. absurd (not_in_clocks 5 5 before after e); clocks = (0, refl, (0, refl, tt)) }
