use Rattle.std.proofs.Common.{◌∙◌, sym, subst}
use Rattle.journal_text.specs.View.{IsRecordBody}
use Rattle.recorder.proofs.MarkRecords.{mark_is_record}
use Rattle.recorder.specs.Marking.{mark_of}
use Rattle.recorder.proofs.judged_result.due_mark.Goals as goal

pub of-requires : goal.of-requires
of-requires c =
    subst IsRecordBody (sym (c.deref.ensures.value ∙ c.in_ok-body.ensures)) (c.a_record_is_its_body.ensures.framed (mark_of c.args.base.now c.args.state.now)
    (mark_is_record c.a_partial_is_short.ensures c.args.base.now c.args.state.now c.requires.state))
