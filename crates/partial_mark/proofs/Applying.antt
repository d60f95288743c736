-- Partial marks against their base: what is written of a checkpoint stands for it, and what one stands for is a
-- checkpoint.
use Rattle.std.proofs.Common.{◌≡◌, ℕ, suc, ◌+◌, Bool, true, false, cond, eqb, leb, ◌&&◌, List, [], ◌∷◌, length, map, Option, Some, None, refl, ap, subst, ◌∙◌, inl, inr}
use Rattle.std.specs.List.{AllByRecursion}
use Rattle.std.specs.Option.{option_map}
use Rattle.std.proofs.lemmas.Bool.{cond_both}
use Rattle.std.proofs.lemmas.Option.{same_Some}
use Rattle.std.proofs.lemmas.Slice.Eq.{bytes_eq-Decides}
use Rattle.dp_base.specs.declared.page.Page.{Page}
use Rattle.dp_base.specs.Field.{◌>>=◌}
use Rattle.dp_base.specs.Memory.{page_at}
use Rattle.dp_base.proofs.Epochs.{chosen}
use Rattle.dp_base.proofs.Fields.{bind_some}
use Rattle.guest_state.specs.Checkpoint.{Checkpoint, IsCheckpoint, IsPageContent, is_bounded, rising_from}
use Rattle.partial_mark.specs.Base.{applied, bytes_over, content_against, fields_of, has_base_bytes, page_against, page_over, pages_over, partial_of}
use Rattle.partial_mark.specs.Partial.{IsStoredContent, IsPartial, IsPartialPage, Partial, PartialPage, checkpoint_with, outline}
use Rattle.partial_mark.specs.View.{outlines}

-- ---- what is written, applied

module _ (base : List Page) where
  abbrev against : List Page → List PartialPage
  against pages = map (page_against base) pages

  same_bytes : (o : Option Page) (bytes : List ℕ) → has_base_bytes bytes o ≡ true → option_map (λ (q : Page). q.bytes) o ≡ Some bytes
  same_bytes None bytes e = absurd cc
  same_bytes (Some q) bytes e = ap (λ (b : List ℕ). Some b) ((bytes_eq-Decides q.bytes bytes).0 e)

  bytes_back : (p : Page) → bytes_over (page_at base p.number) (content_against (page_at base p.number) p) ≡ Some p.bytes
  bytes_back p = by_test (has_base_bytes p.bytes (page_at base p.number)) refl
    where
      by_test : (b : Bool) → has_base_bytes p.bytes (page_at base p.number) ≡ b → bytes_over (page_at base p.number) (content_against (page_at base p.number) p) ≡ Some p.bytes
      by_test true e = ap (λ (c : Bool). bytes_over (page_at base p.number) (cond c None (Some p.bytes))) e ∙ same_bytes (page_at base p.number) p.bytes e
      by_test false e = ap (λ (c : Bool). bytes_over (page_at base p.number) (cond c None (Some p.bytes))) e

  page_back : (p : Page) → page_over base (page_against base p) ≡ Some p
  page_back p = ap (λ (o : Option (List ℕ)). o >>= λ bytes. Some (record { number = p.number; flags = p.flags; bytes = bytes })) (bytes_back p)

  pages_back : (pages : List Page) → pages_over base (against pages) ≡ Some pages
  unfolding pages_over
  pages_back [] = refl
  pages_back (p ∷ pages) =
      ap (λ (o : Option Page). o >>= λ first. pages_over base (against pages) >>= λ others. Some (first ∷ others)) (page_back p)
      ∙ ap (λ (o : Option (List Page)). o >>= λ others. Some (p ∷ others)) (pages_back pages)

pub back : (base c : Checkpoint) → applied base (partial_of base c) ≡ Some c
back base c = ap (λ (o : Option (List Page)). o >>= λ pages. Some (checkpoint_with (fields_of c) c.threads pages)) (pages_back base.pages c.pages)

-- ---- bounds, which bytes are no part of

-- the same bounds hold with other pages whose numbers rise alike
bounded_with : (c : Checkpoint) (pages : List Page) → length pages ≡ length c.pages → rising_from 0 pages ≡ rising_from 0 c.pages → is_bounded (record c { pages = pages }) ≡ is_bounded c
bounded_with c pages size rise = rw (size, rise) refl

module _ (base : List Page) where
  size_against : (pages : List Page) → length (outlines (against base pages)) ≡ length pages
  size_against [] = refl
  size_against (p ∷ pages) = ap (λ (n : ℕ). suc n) (size_against pages)

  rise_against : (least : ℕ) (pages : List Page) → rising_from least (outlines (against base pages)) ≡ rising_from least pages
  rise_against least [] = refl
  rise_against least (p ∷ pages) = ap (λ (b : Bool). leb least p.number && b) (rise_against (p.number + 1) pages)

  are_against : (pages : List Page) → AllByRecursion IsPageContent pages → AllByRecursion IsPartialPage (against base pages)
  are_against [] are = tt
  are_against (p ∷ pages) are = (
    record {
      number = are.0.number;
      flags = are.0.flags;
      content = cond_both (has_base_bytes p.bytes (page_at base p.number)) None (Some p.bytes) IsStoredContent (λ _. tt) (λ _. (are.0.count, are.0.bytes));
    },
    are_against pages are.1,
  )

pub is_against : (base c : Checkpoint) → IsCheckpoint c → IsPartial (partial_of base c)
is_against base c is = record {
  fields = record { steps = is.steps; input = is.input; heap = is.heap; brk = is.brk; end = is.end };
  threads = is.threads;
  pages = are_against base.pages c.pages is.pages;
  bounded = bounded_with c (outlines (against base.pages c.pages)) (size_against base.pages c.pages) (rise_against base.pages 0 c.pages) ∙ is.bounded;
}

-- ---- what a partial mark stands for

found_page : (base : List Page) (number : ℕ) (q : Page) → AllByRecursion IsPageContent base → page_at base number ≡ Some q → IsPageContent q
found_page [] number q are e = absurd cc
found_page (p ∷ base) number q are e =
    elim (chosen (eqb p.number number) (Some p) (page_at base number) (Some q) e) [
      | inl w ↦ subst IsPageContent (same_Some _ _ w.1) are.0
      | inr w ↦ found_page base number q are.1 w.1
    ]

module _ (base : List Page) (are : AllByRecursion IsPageContent base) where
  content_is : (number : ℕ) (content : Option (List ℕ)) (bytes : List ℕ) → IsStoredContent content → bytes_over (page_at base number) content ≡ Some bytes → IsStoredContent (Some bytes)
  content_is number (Some own) bytes is e = subst (λ (b : List ℕ). IsStoredContent (Some b)) (same_Some _ _ e) is
  content_is number None bytes is e = from_base (page_at base number) refl e
    where
      from_base : (o : Option Page) → page_at base number ≡ o → option_map (λ (q : Page). q.bytes) o ≡ Some bytes → IsStoredContent (Some bytes)
      from_base None at_ e = absurd cc
      from_base (Some q) at_ e = let is = found_page base number q are at_ in subst (λ (b : List ℕ). IsStoredContent (Some b)) (same_Some _ _ e) (is.count, is.bytes)

  -- pages that are there in full, as those without bytes
  record Stand (marked : List PartialPage) (pages : List Page) : Type 0 where
    each : AllByRecursion IsPageContent pages
    size : length pages ≡ length (outlines marked)
    rise : (least : ℕ) → rising_from least pages ≡ rising_from least (outlines marked)

  record Stands (m : PartialPage) (p : Page) : Type 0 where
    is : IsPageContent p
    number : p.number ≡ m.number

  page_stands : (m : PartialPage) (p : Page) → IsPartialPage m → page_over base m ≡ Some p → Stands m p
  page_stands m p is e =
      let a = bind_some (bytes_over (page_at base m.number) m.content) (λ bytes. Some (record { number = m.number; flags = m.flags; bytes = bytes })) p e in
      let content = content_is m.number m.content a.0 is.content a.1 in
      subst (Stands m) (same_Some _ _ a.2) (record { is = record { number = is.number; flags = is.flags; count = content.0; bytes = content.1 }; number = refl })

  pages_stand : (marked : List PartialPage) (pages : List Page) → AllByRecursion IsPartialPage marked → pages_over base marked ≡ Some pages → Stand marked pages
  unfolding pages_over
  pages_stand [] pages is e = subst (Stand []) (same_Some _ _ e) (record { each = tt; size = refl; rise = λ least. refl })
  pages_stand (m ∷ marked) pages is e =
      let a = bind_some (page_over base m) (λ first. pages_over base marked >>= λ others. Some (first ∷ others)) pages e in
      let b = bind_some (pages_over base marked) (λ others. Some (a.0 ∷ others)) pages a.2 in
      let first = page_stands m a.0 is.0 a.1 in
      let others = pages_stand marked b.0 is.1 b.1 in
      subst (Stand (m ∷ marked)) (same_Some _ _ b.2) (record {
        each = (first.is, others.each);
        size = ap (λ (n : ℕ). suc n) others.size;
        rise = λ least. ap (λ (n : ℕ). leb least n && rising_from (n + 1) b.0) first.number ∙ ap (λ (r : Bool). leb least m.number && r) (others.rise (m.number + 1));
      })

pub stands_for : (base : Checkpoint) (m : Partial) (c : Checkpoint) → IsCheckpoint base → IsPartial m → applied base m ≡ Some c → IsCheckpoint c
stands_for base m c base_is is e =
    let a = bind_some (pages_over base.pages m.pages) (λ pages. Some (checkpoint_with m.fields m.threads pages)) c e in
    let pages = pages_stand base.pages base_is.pages m.pages a.0 is.pages a.1 in
    subst IsCheckpoint (same_Some _ _ a.2) (record {
      steps = is.fields.steps;
      input = is.fields.input;
      heap = is.fields.heap;
      brk = is.fields.brk;
      end = is.fields.end;
      threads = is.threads;
      pages = pages.each;
      bounded = bounded_with (outline m) a.0 pages.size (pages.rise 0) ∙ is.bounded;
    })
