-- The pages that shared words become. This project's own.
use Rattle.std.specs.Prelude.{◌≡◌, ℕ, List, length}
use mathlib.Core.Option.{some}
use lib.ListN.{get_elem?}
use Rattle.dp_base.specs.declared.page.Page.{Page}
use Rattle.shared_words.specs.Layout.{HasPageWords}
use Rattle.shared_words.specs.Rule.{AreRuled}
use Rattle.shared_words.specs.declared.mapped_page.MappedPage.{MappedPage}
use Rattle.shared_words.specs.declared.view.View.{View}

-- pages with these numbers and flags, whose words are those of a moment at which the rule holds and a seat has this
-- view
pub record ClosesTo (mapped : List MappedPage) (start : List ℕ) (count : ℕ) (v : View) (pages : List Page) : Type 0 where
  pub words : List ℕ
  pub views : List View
  pub ruled : AreRuled start words views
  pub seat : ℕ
  pub known : get_elem? views seat ≡ some v
  pub sized : length words ≡ count
  pub pages_are : HasPageWords mapped words pages
