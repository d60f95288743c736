use Rattle.std.proofs.Common.{◌≡◌, ℕ, ◌+◌, ◌*◌, ◌<◌, length, map, reverse, slice_index}
use Rattle.std.specs.Option.{unwrap_or}
use Rattle.dp_base.specs.declared.limits.TheConstants.{PAGE_BYTES}
use Rattle.elf_image.specs.Image.{byte_at}
use Rattle.elf_image.proofs.start_pages.page_bytes.Given as goal

abbrev pub invariant-loop-segment : goal.invariant-loop-segment
invariant-loop-segment l = record {
  size : length l.page ≡ PAGE_BYTES;
  written : (offset : ℕ) → offset < PAGE_BYTES
      → slice_index l.page offset ≡ unwrap_or (byte_at (reverse (map (λ s. s.now) l.yielded)) (PAGE_BYTES * l.number + offset)) 0;
}
