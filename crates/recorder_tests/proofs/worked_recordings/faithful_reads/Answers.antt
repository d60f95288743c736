use Rattle.std.proofs.Common.{◌≡◌, ◌∷◌, [], List, ℕ, false, true, refl, arith, ap, length}
use Rattle.recorder_tests.proofs.Worked.{after_two_bytes, not_in_one}
use Rattle.recorder_tests.proofs.worked_recordings.faithful_reads.Goals as goal

pub returns-clause-all : goal.returns-clause-all
returns-clause-all c = record { reads = ([], refl); ends = λ before after e. (after_two_bytes before after e, refl); clocks = tt }

pub returns-clause-a_part : goal.returns-clause-a_part
returns-clause-a_part c = record { reads = (2 ∷ [], refl); ends = λ before after e. absurd (not_in_one [] before after e); clocks = tt }

pub returns-clause-before_the_end : goal.returns-clause-before_the_end
returns-clause-before_the_end c = λ h. let none : [] ≡ 1 ∷ [] = (h.ends [] [] refl).0 in omega (arith, ap (λ (l : List ℕ). length l) none)

pub returns-clause-no_end_seen : goal.returns-clause-no_end_seen
returns-clause-no_end_seen c = λ h. let seen : false ≡ true = (h.ends [] [] refl).1 in absurd cc
