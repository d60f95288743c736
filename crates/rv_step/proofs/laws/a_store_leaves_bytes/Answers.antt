use Rattle.rv_step.proofs.Memories.{stored_bytes, stored_shape}
use Rattle.rv_step.proofs.laws.a_store_leaves_bytes.Goals as goal

pub returns-clause-bytes : goal.returns-clause-bytes
returns-clause-bytes c = stored_bytes

pub returns-clause-shape : goal.returns-clause-shape
returns-clause-shape c = stored_shape
