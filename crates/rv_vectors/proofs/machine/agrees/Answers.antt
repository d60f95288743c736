use Rattle.std.proofs.Common.{sym, ◌∙◌}
use Rattle.rv_vectors.proofs.Alike.{alike_is}
use Rattle.rv_vectors.proofs.Leaving.{agreed}
use Rattle.rv_vectors.specs.Running.{row_outcome}
use Rattle.rv_vectors.proofs.machine.agrees.Goals as goal

pub returns-in-Some : goal.returns-in-Some
returns-in-Some c =
    agreed (row_outcome c.args.row.now.word c.args.row.now.before) c.in-Some.left c.args.row.now.after c.eq.result (sym c.in-Some.is ∙ c.in_ok-left.ensures)
    (alike_is c.in-Some.left c.args.row.now.after c.eq.result c.eq.ensures)
