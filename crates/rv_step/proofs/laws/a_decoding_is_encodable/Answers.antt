use Rattle.rv_step.proofs.Decodings.{decoding_is_encodable}
use Rattle.rv_step.proofs.laws.a_decoding_is_encodable.Goals as goal

pub returns : goal.returns
returns c = decoding_is_encodable
