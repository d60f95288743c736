-- What the last state of a table says of the pages made of it.
use Rattle.std.proofs.Common.{◌≡◌, ℕ, List, length, subst, Result, Ok, Err}
use Rattle.std.specs.Prelude.{IfOk}
use Rattle.atomic_table.specs.Table.{Final, Seen}
use Rattle.dp_base.specs.declared.page.Page.{Page}
use Rattle.shared_words.specs.Closing.{ClosesTo}
use Rattle.shared_words.specs.Layout.{HasPageWords}
use Rattle.shared_words.specs.Rule.{AreRuled, KeepsRule}
use Rattle.shared_words.specs.declared.mapped_page.MappedPage.{MappedPage}
use Rattle.shared_words.specs.declared.view.View.{View}

pub closes : {E : Type 0} (r : Result (List Page) E) (mapped : List MappedPage) (start words : List ℕ) (count seat : ℕ) (v : View) (xs : List (Unit {0}))
    → IfOk r (λ pages. HasPageWords mapped words pages) → Final (Seen (KeepsRule start) seat v) words xs → length words ≡ count → IfOk r (λ pages. ClosesTo mapped start count v pages)
closes (Ok pages) mapped start words count seat v xs has final sized = record {
  words = words;
  views = final.0.views;
  ruled = subst (λ (ws : List ℕ). AreRuled start ws final.0.views) final.2 final.1.0;
  seat = seat;
  known = final.1.1;
  sized = sized;
  pages_are = has;
}
closes (Err e) mapped start words count seat v xs has final sized = tt
