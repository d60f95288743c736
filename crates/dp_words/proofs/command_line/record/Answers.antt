use Rattle.std.proofs.Common.{◌∙◌, codes}
use Rattle.std.proofs.lemmas.Result.{IfOk-weaker}
use Rattle.dp_base.specs.declared.limits.TheConstants.{MAX_EPOCH_STEPS, MAX_JOBS, MAX_SLICE_STEPS, MAX_WORKERS}
use Rattle.clap.specs.Words.{App, new_app, with_rule}
use Rattle.dp_words.specs.CommandLine.{number, text}
use Rattle.dp_words.proofs.LineLemmas.{longer}
use Rattle.dp_words.proofs.command_line.record.Goals as goal

abbrev texts : App
texts = with_rule (with_rule (new_app (codes "record")) (text (codes "guest"))) (text (codes "journal"))

abbrev to_epoch : App
to_epoch = with_rule (with_rule texts (number (codes "workers") 1 MAX_WORKERS (codes "4"))) (number (codes "epoch") 1 MAX_EPOCH_STEPS (codes "20000"))

abbrev to_ahead : App
to_ahead = with_rule (with_rule to_epoch (number (codes "slice") 1 MAX_SLICE_STEPS (codes "1000"))) (number (codes "ahead") 1 MAX_JOBS (codes "16"))

pub returns : goal.returns
returns c =
    let two = longer _ _ _ _ c.in_ok-record-2.ensures.0 (longer _ _ _ _ c.in_ok-record.ensures.0 c.new-record.ensures.app) in
    let four = longer _ _ _ _ c.in_ok-record-4.ensures.0 (longer _ _ _ _ c.in_ok-record-3.ensures.0 two) in
    let six = longer _ _ _ _ c.in_ok-record-6.ensures.0 (longer _ _ _ _ c.in_ok-record-5.ensures.0 four) in
    let seven = longer _ _ _ _ c.in_ok-record-7.ensures.0 six in
    let local = c.in_ok-record-7.ensures.1 ∙ c.in_ok-record-6.ensures.1 ∙ c.in_ok-record-5.ensures.1 ∙ c.in_ok-record-4.ensures.1 ∙ c.in_ok-record-3.ensures.1
    ∙ c.in_ok-record-2.ensures.1 ∙ c.in_ok-record.ensures.1 ∙ c.new-record.ensures.local in
    IfOk-weaker c.with_number-6.result _ _ (λ line h. (longer _ _ _ _ h.0 seven, h.1 ∙ local)) c.with_number-6.ensures
