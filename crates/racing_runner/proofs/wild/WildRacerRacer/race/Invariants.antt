use Rattle.std.proofs.Common.{map}
use Rattle.std.specs.Vec.Iter.{into_iter_items, into_iter_len}
use Rattle.racing_runner.specs.Offers.{offer_of}
use Rattle.racing_runner.proofs.Giving.{IsGiving}
use Rattle.racing_runner.proofs.wild.WildRacerRacer.race.Given as goal

abbrev pub invariant-each : goal.invariant-each
invariant-each g l = IsGiving (g.K.JobSink.ready l.sink) (g.K.JobSink.goes l.fn.sink l.sink) (g.K.JobSink.got l.fn.sink) (g.K.JobSink.got l.sink)
    (map offer_of (into_iter_items l.initial.self-inside.left)) (map offer_of (into_iter_items l.self-inside.left))

abbrev pub decreases-each : goal.decreases-each
decreases-each g l = into_iter_len l.self-inside.left
