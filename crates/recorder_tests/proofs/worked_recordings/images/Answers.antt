use Rattle.std.proofs.Common.{◌≡◌, ◌∷◌, [], ◌++◌, List, ℕ, true, Some, refl, sym, ◌∙◌, arith, ap, length}
use Rattle.journal_text.specs.Reading.{ending}
use Rattle.recorder_tests.proofs.Worked.{begun_reads, no_output, none_marked, none_run}
use Rattle.recorder_tests.proofs.worked_recordings.images.Goals as goal

pub returns-clause-begun : goal.returns-clause-begun
returns-clause-begun c = λ every start. record { epochs = []; all = true; journal = (10, begun_reads ∙ sym (ap (λ records. Some (ending (170 ∷ []) records 10)) (none_marked true every start))); end = start; output = []; chained = none_run start; honest = tt; sent = ([], refl) }

pub returns-clause-sent_too_early : goal.returns-clause-sent_too_early
returns-clause-sent_too_early c = λ every start r.
    let none = no_output r.all every start r.end r.epochs r.output r.journal.0 r.journal.1 r.chained in
    let some : [] ≡ 7 ∷ r.sent.0 = sym none ∙ r.sent.1 in
    omega (arith, ap (λ (l : List ℕ). length l) some)
