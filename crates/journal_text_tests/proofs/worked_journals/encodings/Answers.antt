use Rattle.std.proofs.Common.{◌∷◌, []}
use Rattle.std.proofs.lemmas.List.{take_at}
use Rattle.journal_text_tests.proofs.worked_journals.encodings.Goals as goal

pub returns-clause-first : goal.returns-clause-first
returns-clause-first c = λ file size. take_at file (1 ∷ []) 1073741824 size
