use Rattle.std.proofs.Common.{◌≡◌, ◌+◌, ◌≤◌, fold, max, take}
use Rattle.elf_image.specs.Segment.{MEMORY_END}
use Rattle.elf_image.proofs.span_pages.heap_start.Given as goal

abbrev pub invariant-loop-span : goal.invariant-loop-span
invariant-loop-span l = record {
  top : l.top ≡ fold (λ top s. max top (s.addr + s.size)) 0 (take l.span-index l.spans);
  ends : l.top ≤ MEMORY_END;
}
