-- Pages that are read one after another, and taken from the base where they have no bytes.
use Rattle.std.proofs.Common.{◌≡◌, ℕ, suc, ◌+◌, ◌-◌, ◌<◌, ◌≤◌, true, false, leb, ◌&&◌, List, [], ◌∷◌, ◌++◌, length, Option, Some, None, refl, sym, ap, subst, ◌∙◌, append_assoc, arith}
use Rattle.std.specs.Prelude.{is_some}
use Rattle.std.specs.List.{All}
use Rattle.std.proofs.lemmas.Bool.{and_parts, leb-true}
use Rattle.std.proofs.lemmas.List.{append-nil, length_push}
use Rattle.std.proofs.lemmas.List.Elements.{All-push}
use Rattle.std.proofs.lemmas.Option.{same_Some}
use Rattle.dp_base.specs.declared.limits.TheConstants.{MAX_PAGES}
use Rattle.dp_base.specs.declared.page.Page.{Page}
use Rattle.dp_base.specs.Field.{◌>>=◌}
use Rattle.dp_base.specs.Journal.{many_at}
use Rattle.dp_base.specs.Memory.{page_at}
use Rattle.dp_base.proofs.Fields.{bind_some}
use Rattle.guest_state.specs.Checkpoint.{rising_from}
use Rattle.partial_mark.specs.Base.{bytes_over, page_over, pages_over}
use Rattle.partial_mark.specs.Partial.{PartialPage, partial_page_from}
use Rattle.partial_mark.specs.View.{outlines}
use Rattle.checkpoint.specs.Against.{HoldPages, IsPast, pages_restored, with_last}
use Rattle.checkpoint.proofs.BasePages.{from_start, past_more}

abbrev after : List Page → List Page → Option (List Page)
after xs ys = Some (xs ++ ys)

-- so many were read, and these are restored
pub record Restoring (count counter : ℕ) (bytes : List ℕ) (base pages : List Page) (place : ℕ) (rest : List ℕ) : Type 0 where
  pub left : List PartialPage
  pub least : ℕ
  pub read : many_at partial_page_from (count - counter) rest ≡ Some (left, [])
  pub joined : pages_restored base count bytes ≡ (pages_over base left >>= after pages)
  pub below : All (λ p. p.number < least) pages
  pub rise : rising_from least (outlines left) ≡ true
  pub past : IsPast base place least
  pub few : length pages + length left ≤ MAX_PAGES

bind_self : (r : Option (List Page)) → r ≡ (r >>= after [])
bind_self None = refl
bind_self (Some p) = refl

pub restoring_start : (count : ℕ) (bytes : List ℕ) (base : List Page) → HoldPages count bytes → Restoring count 0 bytes base [] 0 bytes
restoring_start count bytes base h = record {
  left = h.pages;
  least = 0;
  read = let size : count ≡ count - 0 = omega arith in subst (λ (n : ℕ). many_at partial_page_from n bytes ≡ Some (h.pages, [])) size h.read;
  joined = ap (λ (o : Option (List PartialPage × List ℕ)). o >>= λ pages. pages_over base pages.0) h.read ∙ bind_self (pages_over base h.pages);
  below = λ k d lt. absurd (omega (arith, lt));
  rise = h.rise;
  past = from_start base 0;
  few = omega (arith, h.few);
}

module _ (count counter : ℕ) (bytes : List ℕ) (base pages : List Page) (place : ℕ) (rest : List ℕ) (so_far : Restoring count counter bytes base pages place rest) where
  abbrev further : PartialPage × List ℕ → Option (List PartialPage × List ℕ)
  further first = many_at partial_page_from (count - (counter + 1)) first.1 >>= λ others. Some (first.0 ∷ others.0, others.1)

  one_more : counter < count → (partial_page_from rest >>= further) ≡ Some (so_far.left, [])
  unfolding many_at
  one_more more =
      let size : count - counter ≡ suc (count - (counter + 1)) = omega (arith, more) in
      sym (ap (λ (n : ℕ). many_at partial_page_from n rest) size) ∙ so_far.read

  -- as many as are counted are there
  pub page_is_there : counter < count → partial_page_from rest ≡ None → ⊥
  page_is_there more none =
      let found : ◌≡◌ {A = Option (List PartialPage × List ℕ)} None (Some (so_far.left, [])) = sym (ap (λ (o : Option (PartialPage × List ℕ)). o >>= further) none) ∙ one_more more in
      absurd cc

  pub record Next (p : PartialPage) (behind : List ℕ) : Type 0 where
    pub others : List PartialPage
    pub left_is : so_far.left ≡ p ∷ others
    pub read : many_at partial_page_from (count - (counter + 1)) behind ≡ Some (others, [])

  pub next_page : (p : PartialPage) (behind : List ℕ) → counter < count → partial_page_from rest ≡ Some (p, behind) → Next p behind
  next_page p behind more is =
      let found : further (p, behind) ≡ Some (so_far.left, []) = sym (ap (λ (o : Option (PartialPage × List ℕ)). o >>= further) is) ∙ one_more more in
      let a = bind_some (many_at partial_page_from (count - (counter + 1)) behind) (λ others. Some (p ∷ others.0, others.1)) (so_far.left, []) found in
      let same : (p ∷ a.0.0, a.0.1) ≡ (so_far.left, []) = same_Some _ _ a.2 in
      let none : a.0.1 ≡ [] = ap (λ (x : List PartialPage × List ℕ). x.1) same in
      record {
        others = a.0.0;
        left_is = sym (ap (λ (x : List PartialPage × List ℕ). x.0) same);
        read = a.1 ∙ ap (λ (l : List ℕ). Some (a.0.0, l)) none;
      }

  module _ (p : PartialPage) (behind : List ℕ) (next : Next p behind) where
    rises : (leb so_far.least p.number && rising_from (p.number + 1) (outlines next.others)) ≡ true
    rises = ap (λ (l : List PartialPage). rising_from so_far.least (outlines l)) (sym next.left_is) ∙ so_far.rise

    pub low : so_far.least ≤ p.number
    low = leb-true _ _ (and_parts (leb so_far.least p.number) (rising_from (p.number + 1) (outlines next.others)) rises).0

    pub look_from_here : IsPast base place p.number
    look_from_here = past_more base place so_far.least p.number low so_far.past

    pub all_below : All (λ q. q.number < p.number) pages
    all_below k d lt = let one = so_far.below k d lt in omega (arith, one, low)

    pub has_room : length pages < MAX_PAGES
    has_room = let size : length so_far.left ≡ suc (length next.others) = ap length next.left_is in omega (arith, size, so_far.few)

    -- the first of what is left
    from_next : pages_restored base count bytes ≡ ((page_over base p >>= λ first. pages_over base next.others >>= λ others. Some (first ∷ others)) >>= after pages)
    unfolding pages_over
    from_next = so_far.joined ∙ ap (λ (l : List PartialPage). pages_over base l >>= after pages) next.left_is

    abbrev joined_to : Option Page → Option (List Page)
    joined_to found = (found >>= λ first. pages_over base next.others >>= λ others. Some (first ∷ others)) >>= after pages

    pub lacking : page_over base p ≡ None → pages_restored base count bytes ≡ None
    lacking none = from_next ∙ ap joined_to none

    joined_more : (q : Page) (r : Option (List Page)) → ((r >>= λ others. Some (q ∷ others)) >>= after pages) ≡ (r >>= after (pages ++ q ∷ []))
    joined_more q None = refl
    joined_more q (Some others) = ap (λ (l : List Page). Some l) (sym (append_assoc pages (q ∷ []) others))

    number_is : (q : Page) → page_over base p ≡ Some q → q.number ≡ p.number
    number_is q is =
        let a = bind_some (bytes_over (page_at base p.number) p.content) (λ bytes. Some (record { number = p.number; flags = p.flags; bytes = bytes })) q is in
        sym (ap (λ (x : Page). x.number) (same_Some _ _ a.2))

    pub restoring_more : (q : Page) (next_place : ℕ) → page_over base p ≡ Some q → IsPast base next_place p.number
        → Restoring count (counter + 1) bytes base (pages ++ q ∷ []) next_place behind
    restoring_more q next_place is past =
        let length_is : length so_far.left ≡ suc (length next.others) = ap length next.left_is in
        let number : q.number ≡ p.number = number_is q is in
        record {
          left = next.others;
          least = p.number + 1;
          read = next.read;
          joined = from_next ∙ ap joined_to is ∙ joined_more q (pages_over base next.others);
          below = All-push (λ (x : Page). x.number < p.number + 1) pages q (λ k d lt. let one = all_below k d lt in omega (arith, one)) (omega (arith, number));
          rise = (and_parts (leb so_far.least p.number) (rising_from (p.number + 1) (outlines next.others)) rises).1;
          past = past_more base next_place p.number (p.number + 1) (omega arith) past;
          few = omega (arith, length_is, so_far.few, length_push pages q);
        }

    -- a page that was there is the last of those that are restored
    pub mapped_more : (found : Option Page) (now : List Page) (next_place : ℕ) → found ≡ page_over base p → is_some found ≡ true → now ≡ with_last pages found → IsPast base next_place p.number
        → Restoring count (counter + 1) bytes base now next_place behind
    mapped_more None now next_place is there now_is past = absurd cc
    mapped_more (Some q) now next_place is there now_is past =
        subst (λ (xs : List Page). Restoring count (counter + 1) bytes base xs next_place behind) (sym now_is) (restoring_more q next_place (sym is) past)

  pub restored_all : count ≤ counter → pages_restored base count bytes ≡ Some pages
  unfolding many_at pages_over
  restored_all all =
      let size : count - counter ≡ 0 = omega (arith, all) in
      let found : Some ([], rest) ≡ Some (so_far.left, []) = sym (ap (λ (n : ℕ). many_at partial_page_from n rest) size) ∙ so_far.read in
      let none : so_far.left ≡ [] = sym (ap (λ (x : List PartialPage × List ℕ). x.0) (same_Some _ _ found)) in
      so_far.joined ∙ ap (λ (l : List PartialPage). pages_over base l >>= after pages) none ∙ ap (λ (l : List Page). Some l) (append-nil pages)

pub is_none : (x : Option Page) → is_some x ≡ false → x ≡ None
is_none None e = refl
is_none (Some p) e = absurd cc
