use Rattle.std.proofs.Common.{Err, length, refl, subst, ap}
use Rattle.disk_model.specs.Known.{IfKnown}
use Rattle.epoch_journal.specs.Appending.{Appended, HasAppended}
use Rattle.epoch_journal.specs.declared.append.AppendFault.{AppendFault}
use Rattle.recorder.specs.Keeping.{IsDueMark}
use Rattle.recorder.proofs.RoundRuns.{mark_lost, mark_without_room, no_mark, was_marked}
use Rattle.recorder.proofs.judged_result.append_mark.Goals as goal

pub returns-in-None-clause-says : goal.returns-in-None-clause-says
returns-in-None-clause-says g c = λ a core w framed.
    no_mark a _ core _ _ w (subst (IsDueMark a.setting.options.mark c.args.tally.now.since c.args.tally.now.base core.committed) c.in-None.is framed)

pub returns-in-Ok-clause-says : goal.returns-in-Ok-clause-says
returns-in-Ok-clause-says g c = λ a core w framed.
    let due = subst (IsDueMark a.setting.options.mark c.args.tally.now.since c.args.tally.now.base core.committed) c.in-Some.is framed in
    was_marked a _ core _ c.args.tally.now w due.0 c.in-Some.mark.frame due.1 c.a_partial_is_short.ensures _ _ c.in-Ok.ensures.numbers c.in-Ok.ensures.history _ refl refl refl refl due.2

pub returns-in-Err-DiskFault-clause-says : goal.returns-in-Err-DiskFault-clause-says
returns-in-Err-DiskFault-clause-says g c = λ a core w framed.
    let due = subst (IsDueMark a.setting.options.mark c.args.tally.now.since c.args.tally.now.base core.committed) c.in-Some.is framed in
    mark_lost a _ core _ _ w due.0 c.in-Some.mark.frame due.1 c.a_partial_is_short.ensures _ _
    (subst (λ (f : AppendFault). HasAppended c.args.journal.now (length c.in-Some.mark.frame) c.append.new.self (Err f)) c.in-Err-DiskFault.field-0-is c.in-Err-DiskFault.ensures.numbers)
    (subst (λ (f : AppendFault). IfKnown (Appended c.args.journal.now c.in-Some.mark.frame (Err f)) (g.W.World.history c.args.world.now) (g.W.World.history c.append.new.world)) c.in-Err-DiskFault.field-0-is c.in-Err-DiskFault.ensures.history)

pub returns-in-Err-Full-clause-says : goal.returns-in-Err-Full-clause-says
returns-in-Err-Full-clause-says g c = λ a core w framed.
    let due = subst (IsDueMark a.setting.options.mark c.args.tally.now.since c.args.tally.now.base core.committed) c.in-Some.is framed in
    let numbers = subst (λ (f : AppendFault). HasAppended c.args.journal.now (length c.in-Some.mark.frame) c.append.new.self (Err f)) c.in-Err-Full.field-0-is c.in-Err-Full.ensures.numbers in
    mark_without_room a _ core _ _ w due.0 c.in-Some.mark.frame due.1 c.a_partial_is_short.ensures _ _ _ _ numbers (ap (g.W.World.history) (c.append.ensures.untouched cc))
