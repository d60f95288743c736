use Rattle.std.proofs.Common.{◌≡◌, nat_lt, length, ap, ◌∙◌, arith}
use Rattle.dp_base.specs.declared.limits.TheConstants.{MAX_PAGES}
use Rattle.elf_image.specs.Segment.{start_pages}
use Rattle.elf_image.proofs.NextPages.{too_many}
use Rattle.elf_image.proofs.loading.has_too_many_pages.Goals as goal

pub returns : goal.returns
returns c =
    let size : c.len.result ≡ length c.in_ok-first_pages.field-0.items = omega (arith, c.len.ensures) in
    ap (nat_lt MAX_PAGES) size ∙ too_many MAX_PAGES (start_pages c.args.spans.now) _ c.in_ok-first_pages.ensures
