use Rattle.std.proofs.Common.{ℕ, ◌<◌, List, subst, sym, ap, ◌∙◌}
use Rattle.elf_image.specs.declared.image.Segment.{Segment}
use Rattle.elf_image.specs.Image.{page_flags}
use Rattle.elf_image.proofs.StartPages.{page_flags_small}
use Rattle.elf_image.proofs.image.Segments.page_flags.Goals as goal

pub returns-clause-known : goal.returns-clause-known
returns-clause-known c =
    let segments = c.args.self.now in
    let is = c.page_flags.ensures ∙ ap (λ (s : List Segment). page_flags s c.args.number) c.as_slice.ensures.segments in
    subst (λ (flags : ℕ). flags < 8) (sym is) (page_flags_small segments c.args.number c.as_slice.ensures.kept)
