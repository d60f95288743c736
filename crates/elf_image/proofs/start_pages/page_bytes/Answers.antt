use Rattle.std.proofs.Common.{◌≡◌, ◌+◌, ◌*◌, List, map, reverse, refl, ap, ◌∙◌}
use Rattle.std.specs.Option.{unwrap_or}
use Rattle.std.proofs.lemmas.Iterator.Adapters.{YieldsList-from_rev_slice}
use Rattle.std.proofs.lemmas.Iterator.Consumers.{YieldsList-end}
use Rattle.std.proofs.lemmas.List.{get_or-replicate, reverse-reverse}
use Rattle.dp_base.specs.declared.limits.TheConstants.{PAGE_BYTES}
use Rattle.elf_image.specs.declared.image.Segment.{Segment}
use Rattle.elf_image.specs.Image.{byte_at}
use Rattle.elf_image.proofs.PageBytes.{page_listed}
use Rattle.elf_image.proofs.start_pages.page_bytes.Goals as goal

pub loop-segment-init : goal.loop-segment-init
loop-segment-init c = record { size = refl; written = λ offset below. get_or-replicate 4096 offset 0 0 below }

pub returns : goal.returns
returns c =
    let segments = c.args.segments.now in
    let all = YieldsList-end (YieldsList-from_rev_slice segments cc) c.loop-segment.yielded _ c.loop-segment.yielded_by _ _ c.in-None.is c.next.ensures.steps in
    let same : reverse (map (λ s. s.now) c.loop-segment.yielded) ≡ segments = ap reverse all.0 ∙ reverse-reverse segments in
    page_listed segments c.args.number c.loop-segment.page c.loop-segment.invariant.size
    (λ offset below. c.loop-segment.invariant.written offset below
    ∙ ap (λ (known : List Segment). unwrap_or (byte_at known (PAGE_BYTES * c.args.number + offset)) 0) same)
