use Rattle.std.proofs.Common.{ap}
use Rattle.disk_mem.specs.Recording.{Recording}
use Rattle.disk_mem.proofs.Keeps.{led, holds, holds-quiet}
use Rattle.disk_mem.proofs.contents.Contents.keep.Goals as goal

pub returns-clause-ok : goal.returns-clause-ok
returns-clause-ok c = led _ _ _ _ c.args.call c.self.view_is c.in_ok-push_call.ensures.ok

pub invariant_of-self-2 : goal.invariant_of-self-2
invariant_of-self-2 c =
    holds _ _ _ c.args.call _ _ _ c.in_ok-push_call.ensures.ok (holds-quiet c.args.call _ _ _ _ _ (ap (λ (r : Recording). r.history) c.self.view_is) c.requires c.self.invariant)
