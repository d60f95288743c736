use Rattle.std.proofs.Common.{◌∙◌, ap, arith, rules}
use Rattle.std.proofs.lemmas.List.{length-map}
use Rattle.disk_mem.specs.MemoryInput.{Pieces}
use Rattle.disk_model.specs.Input.{is_at_end}
use Rattle.disk_mem.proofs.PiecesGiven.{end-is}
use Rattle.disk_mem.proofs.pieces.Pieces.is_at_end.Goals as goal

pub returns : goal.returns
returns c = end-is _ c.self.inside.at c.self.inside.from c.piece_at.result.now (simp length-map (omega (arith, c.len.ensures))) (search rules) ∙ ap (λ (p : Pieces). is_at_end p.left) c.self.view_is
