use Rattle.rv_step.proofs.Kept.{trap_has_cause, trap_has_word}
use Rattle.rv_step.proofs.laws.a_trap_has_a_cause.Goals as goal

pub returns-clause-cause : goal.returns-clause-cause
returns-clause-cause c = trap_has_cause

pub returns-clause-value : goal.returns-clause-value
returns-clause-value c = trap_has_word
