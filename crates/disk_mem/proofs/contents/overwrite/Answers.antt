use Rattle.std.proofs.Common.{◌∙◌, ℕ, List, ap}
use Rattle.disk_model.specs.Known.{overwritten}
use Rattle.disk_mem.proofs.Filled.{overwritten-filled}
use Rattle.disk_mem.proofs.contents.overwrite.Goals as goal

pub returns-in-Ok-clause-written : goal.returns-in-Ok-clause-written
returns-in-Ok-clause-written c =
    let at = c.args.at in
    let bytes = c.args.bytes.now in
    c.write_within.ensures ∙ ap (λ (content : List ℕ). overwritten at bytes content) c.in_ok-fill_up.ensures.ok ∙ overwritten-filled at bytes c.args.disk.now.items
