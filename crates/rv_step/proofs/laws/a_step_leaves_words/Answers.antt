use Rattle.rv_step.proofs.Kept.{step_leaves_bytes, step_leaves_shape, step_leaves_words}
use Rattle.rv_step.proofs.laws.a_step_leaves_words.Goals as goal

pub returns-clause-hart : goal.returns-clause-hart
returns-clause-hart c = step_leaves_words

pub returns-clause-bytes : goal.returns-clause-bytes
returns-clause-bytes c = λ h after m left words bytes. step_leaves_bytes h after m left bytes

pub returns-clause-shape : goal.returns-clause-shape
returns-clause-shape c = step_leaves_shape
