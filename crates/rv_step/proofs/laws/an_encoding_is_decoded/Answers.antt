use Rattle.rv_step.proofs.Encodings.{encoding_is_decoded, encodings_apart}
use Rattle.rv_step.proofs.laws.an_encoding_is_decoded.Goals as goal

pub returns-clause-decoded : goal.returns-clause-decoded
returns-clause-decoded c = encoding_is_decoded

pub returns-clause-apart : goal.returns-clause-apart
returns-clause-apart c = encodings_apart
