-- A page that is borrowed from bytes, as its value; and what is counted of pages that are skipped. These serve the
-- contracts of this crate's readers. This project's own.
use Rattle.std.specs.Prelude.{◌≡◌, ◌<◌, List, length, map, option_map, IfSome}
use Rattle.dp_base.specs.declared.limits.TheConstants.{PAGE_BYTES, PAGE_NUMBERS}
use Rattle.dp_base.specs.declared.page.Page.{Page}
use Rattle.partial_mark.specs.declared.page.PartialPageView.{PartialPageView}
use Rattle.partial_mark.specs.Partial.{PartialPage, page_outline}

abbrev pub partial_page_of : PartialPageView → PartialPage
partial_page_of v = record { number = v.number; flags = v.flags; content = option_map (λ b. b.now) v.content }

abbrev pub outlines : List PartialPage → List Page
outlines pages = map page_outline pages

-- what a page always is that was read
pub record IsPageRead (p : PartialPage) : Type 0 where
  pub number : p.number < PAGE_NUMBERS
  pub flags : p.flags < 8
  pub content : IfSome p.content (λ bytes. length bytes ≡ PAGE_BYTES)
