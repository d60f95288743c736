use Rattle.std.proofs.Common.{◌≡◌, ◌∙◌, sym, true, false}
use Rattle.dp_top.proofs.SelfTests.{agreed_again, replayed_again}
use Rattle.dp_top.proofs.replay_check.check_replay.Goals as goal

never : true ≡ false → ⊥
never is = cc

pub returns-then-not-is_same_report-clause-memory : goal.returns-then-not-is_same_report-clause-memory
returns-then-not-is_same_report-clause-memory g c = λ ends.
    let recorded = c.args.recorded.now.history in
    let same = replayed_again recorded.disk recorded.sent _ ends c.in_ok-world-2.world c.in_ok-world.world c.bytes.result.now c.replay-world.result.0.history c.replay-world.result.1 c.in-Ok.replayed
    c.bytes.ensures.whole c.in_ok-world-2.ensures c.in-Ok.is c.replay-world.ensures.replayed in
    let alike : c.is_same_report.result ≡ true = c.is_same_report.ensures.1 same.1 in
    absurd (never (sym alike ∙ c.if-not-is_same_report.true))

pub returns-then-not-is_same_output-clause-memory : goal.returns-then-not-is_same_output-clause-memory
returns-then-not-is_same_output-clause-memory g c = λ ends.
    let recorded = c.args.recorded.now.history in
    let same = replayed_again recorded.disk recorded.sent _ ends c.in_ok-world-2.world c.in_ok-world.world c.bytes.result.now c.replay-world.result.0.history c.replay-world.result.1 c.in-Ok.replayed
    c.bytes.ensures.whole c.in_ok-world-2.ensures c.in-Ok.is c.replay-world.ensures.replayed in
    let alike : c.is_same_output.result ≡ true = c.is_same_output.ensures.1 (c.sent.ensures ∙ same.0 ∙ sym c.sent-2.ensures) in
    absurd (never (sym alike ∙ c.if-not-is_same_output.true))

pub returns-clause-agrees : goal.returns-clause-agrees
returns-clause-agrees g c =
    let recorded = c.args.recorded.now.history in
    agreed_again recorded.disk recorded.sent _ c.in_ok-world-2.world c.in_ok-world.world c.bytes.result.now c.replay-world.result.0.history c.replay-world.result.1 c.in-Ok.replayed
    c.bytes.ensures.whole c.in_ok-world-2.ensures c.in-Ok.is c.replay-world.ensures.replayed
    (c.is_same_report.ensures.0 c.if-not-is_same_report.false)
    (sym c.sent.ensures ∙ c.is_same_output.ensures.0 c.if-not-is_same_output.false ∙ c.sent-2.ensures)
