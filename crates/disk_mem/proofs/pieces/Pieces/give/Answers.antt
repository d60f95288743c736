use Rattle.std.proofs.Common.{◌≡◌, ◌<◌, ◌+◌, ◌∙◌, ◌⊎◌, inl, inr, length, ap, arith, rules}
use Rattle.std.proofs.lemmas.List.{length-map}
use Rattle.disk_mem.specs.MemoryInput.{gave}
use Rattle.disk_mem.proofs.PiecesGiven.{gave-part, gave-whole}
use Rattle.disk_mem.proofs.pieces.Pieces.give.Goals as goal
use Rattle.disk_mem.proofs.pieces.Pieces.give.Goals.{else-count-gt0-via-then-count-gt0+else-self-count, else-count-gt0-via-else-count-gt0}

pub returns-then-self-count-clause-after : goal.returns-then-self-count-clause-after
returns-then-self-count-clause-after c =
    gave-whole _ c.self.inside.at c.self.inside.from (length c.args.buf.now) c.copy_part-count.result c.piece_at-piece.result.now (simp length-map (omega (arith, c.len.ensures))) (search rules) c.copy_part-count.ensures.count c.if-count-gt0.true c.if-self-count.true
    ∙ ap (gave (length c.args.buf.now)) c.self.view_is

pub returns-else-count-gt0-clause-after : goal.returns-else-count-gt0-clause-after
returns-else-count-gt0-clause-after c =
    let part : (c.copy_part-count.result ≡ 0) ⊎ (c.self.inside.from + c.copy_part-count.result < length c.piece_at-piece.result.now)
    = elim c.else-count-gt0.branch [
      | else-count-gt0-via-then-count-gt0+else-self-count w ↦ inr (omega (arith, w.if-self-count, w.if-count-gt0, c.copy_part-count.ensures.count))
      | else-count-gt0-via-else-count-gt0 w ↦ inl (omega (arith, w.if-count-gt0))
    ] in
    gave-part _ c.self.inside.at c.self.inside.from (length c.args.buf.now) c.copy_part-count.result c.piece_at-piece.result.now (simp length-map (omega (arith, c.len.ensures))) (search rules) c.copy_part-count.ensures.count part
    ∙ ap (gave (length c.args.buf.now)) c.self.view_is
