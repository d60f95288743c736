use Rattle.std.proofs.Common.{Err, refl}
use Rattle.recorder.specs.declared.record_fault.RecordFault.TheVariants as faults
use Rattle.dp_top.proofs.Moments.{not_begun}
use Rattle.dp_top.proofs.Statuses.{not_attached}
use Rattle.dp_top.proofs.recording.record_guest.Goals as goal

pub returns-then-is_err-clause-recorded : goal.returns-then-is_err-clause-recorded
returns-then-is_err-clause-recorded g c = (
  Err faults.DiskFault,
  refl,
  not_attached c.args.guest.now (g.Q.Racer.tells c.args.racer) c.args.start c.args.options _ _ _ _ refl c.attach.ensures.history,
)

pub returns-then-is_err-clause-moments : goal.returns-then-is_err-clause-moments
returns-then-is_err-clause-moments g c = not_begun c.args.guest.now c.args.options.mark c.args.start _ _ _ c.attach.ensures.history
