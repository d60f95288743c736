use Rattle.std.proofs.Common.{arith, refl, ◌∙◌, true, false}
use Rattle.std.proofs.lemmas.Result.{err_from_is_err_and}
use Rattle.disk_model.proofs.Knowing.{known-map, known-then, known-same}
use Rattle.device.specs.Sending.{SendCalls, Sent}
use Rattle.device.proofs.Sends.{emit_failed, emitted_more, none_emitted, none_sent, sent_more, not_all_sent}
use Rattle.device.proofs.sending.send_all.Goals as goal

pub parts-init : goal.parts-init
parts-init g c = record { within = omega arith; history = known-same _ _ _ refl (none_sent c.args.to c.args.bytes.now); calls = known-same _ _ _ refl (none_emitted c.args.to c.args.bytes.now); none = refl; disk = refl }

pub parts-preserved : goal.parts-preserved
parts-preserved g c = record {
  within = omega (arith, c.in_ok-sent.ensures.within);
  history = known-then _ _ _ _ _ _ (sent_more c.args.bytes.now c.args.to c.parts.sent c.in_ok-sent.field-0) c.parts.invariant.history c.in_ok-sent.ensures.history;
  calls = known-then _ _ _ _ _ _ (emitted_more c.args.to c.args.bytes.now c.parts.sent c.in_ok-sent.field-0) c.parts.invariant.calls c.in_ok-sent.ensures.history;
  none = c.in_ok-sent.ensures.none ∙ c.parts.invariant.none;
  disk = c.emit.ensures.disk ∙ c.parts.invariant.disk;
}

pub returns-in_err-sent-clause-history : goal.returns-in_err-sent-clause-history
returns-in_err-sent-clause-history g c =
    let p = err_from_is_err_and c.from_residual.result c.from_residual.ensures.1 in
    rw p.1 (known-then _ _ (Sent c.args.to c.args.bytes.now false) _ _ _ (not_all_sent c.args.bytes.now c.args.to c.parts.sent c.in_err-sent.field-0.0) c.parts.invariant.history c.in_err-sent.ensures.history)

pub returns-in_err-sent-clause-calls : goal.returns-in_err-sent-clause-calls
returns-in_err-sent-clause-calls g c =
    let p = err_from_is_err_and c.from_residual.result c.from_residual.ensures.1 in
    rw p.1 (known-then _ _ (SendCalls c.args.to c.args.bytes.now false) _ _ _ (emit_failed c.args.to c.args.bytes.now c.parts.sent c.in_err-sent.field-0.0) c.parts.invariant.calls c.in_err-sent.ensures.history)

pub returns-clause-calls : goal.returns-clause-calls
returns-clause-calls g c =
    known-map _ (SendCalls c.args.to c.args.bytes.now true) _ _ (λ s t a. (a.counts, c.parts.sent, a.emits, c.parts-test.false)) c.parts.invariant.calls
