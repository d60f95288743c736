use Rattle.std.proofs.Common.{◌≡◌, ℕ, ◌+◌, ◌*◌, ◌-◌, ◌<◌, ◌≤◌, ◌&&◌, Bool, cond, min, max, nat_le, nat_lt, slice_index_or, ap, ◌∙◌, arith}
use Rattle.std.proofs.lemmas.Bool.Decides.{nat_tests}
use Rattle.elf_image.specs.declared.image.Segment.{Segment}
use Rattle.elf_image.specs.declared.span.Span.{Span}
use Rattle.elf_image.specs.Image.{has_byte}
use Rattle.dp_base.specs.declared.limits.TheConstants.{PAGE_BYTES}
use Rattle.elf_image.proofs.start_pages.write_part.Goals as goal

-- the addresses that were gone over are those of the page that the segment has
same_part : (at size start offset first stop address : ℕ) → offset < PAGE_BYTES → first ≡ max start at → stop ≡ min (start + PAGE_BYTES) (at + size)
    → stop ≤ address → address ≤ max first stop
    → (nat_le first (start + offset) && nat_lt (start + offset) address) ≡ (nat_le at (start + offset) && nat_lt (start + offset) (at + size))
same_part at size start offset first stop address below from to end most = grind (arith, nat_tests)

part_is : (s : Segment) (number start offset first stop address now was : ℕ) → offset < PAGE_BYTES → start ≡ PAGE_BYTES * number
    → first ≡ max start s.addr → stop ≡ min (start + PAGE_BYTES) (s.addr + s.size) → stop ≤ address → address ≤ max first stop
    → now ≡ cond (nat_le first (start + offset) && nat_lt (start + offset) address) (slice_index_or s.bytes (start + offset - s.addr) 0) was
    → now ≡ cond (has_byte s (PAGE_BYTES * number + offset)) (slice_index_or s.bytes (PAGE_BYTES * number + offset - s.addr) 0) was
part_is s number start offset first stop address now was below at from to end most is =
    is
    ∙ ap (λ (has : Bool). cond has (slice_index_or s.bytes (start + offset - s.addr) 0) was) (same_part s.addr s.size start offset first stop address below from to end most)
    ∙ ap (λ (here : ℕ). cond (has_byte s (here + offset)) (slice_index_or s.bytes (here + offset - s.addr) 0) was) at

pub returns : goal.returns
returns c = λ offset below.
    let end : c.span.result.addr + c.span.result.size ≡ c.args.segment.now.addr + c.args.segment.now.size = ap (λ (s : Span). s.addr + s.size) c.span.ensures in
    part_is c.args.segment.now c.args.number c.from-start.result offset c.max-first.result c.min-end.result c.loop-address.address _ _ below
    (omega arith) (omega arith) (omega arith) (omega arith) (omega arith) (c.loop-address.invariant.written offset below)
