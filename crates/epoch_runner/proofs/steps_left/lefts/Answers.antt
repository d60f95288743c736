use Rattle.std.proofs.Common.{ℕ, ◌∙◌, ◌-◌, drop, length, ap, sym, arith}
use Rattle.std.specs.Prelude.{slice_index_or}
use Rattle.std.proofs.lemmas.List.{drop_all}
use Rattle.dp_base.specs.declared.tid.Tid.{Tid}
use Rattle.epoch_runner.specs.Hinted.{with_number}
use Rattle.epoch_runner.proofs.LeftSteps.{lefts-before, lefts-none}
use Rattle.epoch_runner.proofs.steps_left.lefts.Goals as goal

pub counts-init : goal.counts-init
counts-init c = (c.new-left.ensures.items ∙ sym (lefts-none (drop (length c.args.counts.now) c.args.counts.now) (drop_all (length c.args.counts.now) c.args.counts.now (omega arith))), omega arith)

pub counts-preserved : goal.counts-preserved
counts-preserved c =
    let d : Tid × ℕ = (record { 0 = 0 }, 0) in (
      c.in_ok-put_number.ensures ∙ ap (with_number (slice_index_or c.args.counts.now (c.counts.index - 1) d).0.0 (slice_index_or c.args.counts.now (c.counts.index - 1) d).1) c.counts.invariant.0
          ∙ sym (lefts-before c.args.counts.now c.counts.index d c.counts-test.true c.counts.invariant.1),
      omega (arith, c.counts.invariant.1),
    )
