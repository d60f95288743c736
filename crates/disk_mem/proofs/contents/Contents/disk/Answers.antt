use Rattle.std.proofs.Common.{◌∙◌, sym}
use Rattle.disk_mem.proofs.Spans.{read-is-image}
use Rattle.disk_mem.proofs.contents.Contents.disk.Goals as goal

pub returns-clause-image : goal.returns-clause-image
returns-clause-image c =
    read-is-image c.self.inside.first.items c.self.inside.calls.items c.args.self.now c.as_slice-bytes.result.now
    c.self.view_is (c.self.invariant.disk ∙ sym c.as_slice-bytes.ensures.value) c.are_bytes.ensures
