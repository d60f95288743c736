use Rattle.rv_step.proofs.Frames.{changes_no_more}
use Rattle.rv_step.proofs.laws.an_instruction_changes_no_more.Goals as goal

pub returns-clause-registers : goal.returns-clause-registers
returns-clause-registers c = λ i h after m left e. (changes_no_more i h after m left e).registers

pub returns-clause-reservation : goal.returns-clause-reservation
returns-clause-reservation c = λ i h after m left e. (changes_no_more i h after m left e).reservation

pub returns-clause-memory : goal.returns-clause-memory
returns-clause-memory c = λ i h after m left e. (changes_no_more i h after m left e).memory
