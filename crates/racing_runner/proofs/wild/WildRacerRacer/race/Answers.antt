use Rattle.std.proofs.Common.{ap, map}
use Rattle.racing_runner.specs.Offers.{offer_of}
use Rattle.racing_runner.proofs.Giving.{enough_given, none_given}
use Rattle.racing_runner.proofs.wild.WildRacerRacer.race.Goals as goal

pub each-init : goal.each-init
each-init g c = none_given _ _ _ _ c.requires.ready (g.met.K.JobSink.goes_nowhere _)

pub returns-in-Enough-clause-given : goal.returns-in-Enough-clause-given
returns-in-Enough-clause-given g c =
    enough_given _ _ _ _ _ _ _ _ _ _ _ c.self.view_is c.each.invariant (ap (map offer_of) c.in-Some.ensures.cases.0) c.in-Enough.ensures.taken
