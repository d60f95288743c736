use Rattle.std.proofs.Common.{◌≡◌, Some, sym, subst, ◌∙◌, ap}
use Rattle.std.specs.Prelude.{is_some}
use Rattle.dp_base.specs.Journal.{epoch_body}
use Rattle.epoch_record.specs.Epoch.{epoch_of}
use Rattle.journal_text.specs.Records.{epoch, record_in}
use Rattle.journal_text.specs.View.{IsRecordBody}
use Rattle.recorder.proofs.judged_result.frame_of.Goals as goal

pub of-requires : goal.of-requires
of-requires c =
    let body = epoch_body (epoch_of c.args.epoch.now) in
    let e = epoch (epoch_of c.args.epoch.now) in
    let found : record_in body ≡ Some e = c.a_record_is_its_body.ensures.found e (c.requires.epoch, c.requires.fits.1) in
    let is : IsRecordBody body = record { some = c.requires.fits.0; few = c.requires.fits.1; is = ap is_some found } in
    subst IsRecordBody (sym (c.deref.ensures.value ∙ c.in_ok-body.ensures)) is
