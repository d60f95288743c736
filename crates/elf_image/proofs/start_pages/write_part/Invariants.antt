use Rattle.std.proofs.Common.{◌≡◌, ℕ, ◌+◌, ◌-◌, ◌<◌, ◌≤◌, ◌&&◌, if◌then◌else◌, max, nat_le, nat_lt, slice_index, slice_index_or}
use Rattle.dp_base.specs.declared.limits.TheConstants.{PAGE_BYTES}
use Rattle.elf_image.proofs.start_pages.write_part.Given as goal

abbrev pub invariant-loop-address : goal.invariant-loop-address
invariant-loop-address l = record {
  most : l.address ≤ max l.first l.end;
  written : (offset : ℕ) → offset < PAGE_BYTES
      → slice_index l.page offset
      ≡ (if nat_le l.first (l.start + offset) && nat_lt (l.start + offset) l.address
      then slice_index_or l.segment.bytes (l.start + offset - l.segment.addr) 0
      else slice_index l.fn.page offset);
}
