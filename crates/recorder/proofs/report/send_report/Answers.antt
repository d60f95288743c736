use Rattle.std.proofs.Common.{List, ℕ, false, ap, subst, ◌∙◌}
use Rattle.device.specs.Sending.{Sent}
use Rattle.disk_model.specs.declared.world.Stream.TheVariants.{Note}
use Rattle.disk_model.specs.Known.{IfKnown}
use Rattle.dp_report.specs.Texts.{report_line}
use Rattle.recorder.specs.Report.{report_at}
use Rattle.recorder.proofs.report.send_report.Goals as goal

pub returns-clause-history : goal.returns-clause-history
returns-clause-history g c =
    let line = c.deref.ensures.value ∙ c.in_ok-text.ensures ∙ ap (λ (d : List ℕ). report_line (record (report_at c.args.epochs c.args.squashes c.args.sent c.args.state.now) { state = d })) c.digest.ensures in
    subst (λ (l : List ℕ). IfKnown (Sent Note l false) (g.W.World.history c.args.world.now) (g.W.World.history c.send_all.new.world)) line c.in-Err.ensures.history
