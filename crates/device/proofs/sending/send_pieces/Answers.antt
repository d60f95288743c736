use Rattle.std.proofs.Common.{◌∙◌, []}
use Rattle.std.proofs.lemmas.Result.{err_from_is_err_and}
use Rattle.disk_model.proofs.Knowing.{known-then}
use Rattle.device.proofs.Pieces.{piece_sent, piece_not_sent}
use Rattle.device.proofs.sending.send_pieces.Goals as goal

pub returns-in_err-send_all-clause-history : goal.returns-in_err-send_all-clause-history
returns-in_err-send_all-clause-history g c =
    let p = err_from_is_err_and c.from_residual.result c.from_residual.ensures.1 in
    rw p.1 (known-then _ _ _ _ _ _ (piece_not_sent c.args.pieces.now c.args.to c.loop-piece.piece-index (record { ref_ptr = (0, 0); now = [] }) c.loop-piece-test.true) c.loop-piece.invariant.history c.in_err-send_all.ensures.history)

pub loop-piece-preserved : goal.loop-piece-preserved
loop-piece-preserved g c = record {
  history = known-then _ _ _ _ _ _ (piece_sent c.args.pieces.now c.args.to c.loop-piece.piece-index (record { ref_ptr = (0, 0); now = [] }) c.loop-piece-test.true) c.loop-piece.invariant.history c.in_ok-send_all.ensures.history;
  none = c.in_ok-send_all.ensures.none ∙ c.loop-piece.invariant.none;
  disk = c.send_all.ensures.disk ∙ c.loop-piece.invariant.disk;
}
