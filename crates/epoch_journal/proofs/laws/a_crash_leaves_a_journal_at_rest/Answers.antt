use Rattle.epoch_journal.proofs.AtRest.{stands-reads}
use Rattle.epoch_journal.proofs.laws.a_crash_leaves_a_journal_at_rest.Goals as goal

pub returns : goal.returns
returns c = λ guest records h stands guest_is records_are few. stands-reads guest guest_is records h stands records_are few
