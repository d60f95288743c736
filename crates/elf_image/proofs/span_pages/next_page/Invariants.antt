use Rattle.std.proofs.Common.{take}
use Rattle.std.specs.List.{list_any}
use Rattle.elf_image.specs.Next.{IsNextPassing}
use Rattle.elf_image.specs.Segment.{has_page}
use Rattle.elf_image.proofs.span_pages.next_page.Given as goal

abbrev pub invariant-loop-span : goal.invariant-loop-span
invariant-loop-span l = IsNextPassing (λ number. list_any (λ s. has_page s number) (take l.span-index l.spans)) l.least l.next
