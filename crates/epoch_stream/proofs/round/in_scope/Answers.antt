use Rattle.epoch_stream.proofs.round.in_scope.Goals as goal

-- nothing waits yet
pub take_all-taken-requires-clause-waiting : goal.take_all-taken-requires-clause-waiting
take_all-taken-requires-clause-waiting g c = λ i d at. absurd (c.requires.ready.waiting i d at)
