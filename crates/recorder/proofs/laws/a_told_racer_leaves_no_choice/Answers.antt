use Rattle.std.proofs.Common.{List, ap}
use Rattle.recorder.specs.Drawing.{Round, squashes_of}
use Rattle.supply.specs.Supplied.{empty}
use Rattle.supply.specs.declared.TheConstants.{MAX_ROOM}
use Rattle.recorder.proofs.Determined.{all_rounds}
use Rattle.recorder.proofs.laws.a_told_racer_leaves_no_choice.Goals as goal

pub returns : goal.returns
returns c = λ tells told options start r q draws.
    let same = all_rounds c.a_schedule_is_determined.ensures options tells told 1 start (empty MAX_ROOM) r.rounds q.rounds r.end q.end r.racer q.racer draws r.each q.each in
    (same.0, same.1, ap (λ (l : List Round). squashes_of l) same.0)
