use Rattle.std.proofs.Common.{sym}
use Rattle.epoch_record.specs.Epoch.{epoch_of}
use Rattle.epoch_record.proofs.laws.round_trip.Goals as goal

pub returns-clause-epochs : goal.returns-clause-epochs
returns-clause-epochs c = λ e is. c.whole_values.ensures.epochs.decoded (epoch_of e) is

pub returns-clause-bodies : goal.returns-clause-bodies
returns-clause-bodies c = λ bytes e fits found. let t = c.whole_values.ensures.epochs.encoded bytes (epoch_of e) fits found in (sym t.0, t.1)
