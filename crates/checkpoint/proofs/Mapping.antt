-- Threads and pages that are read one after another.
use Rattle.std.proofs.Common.{◌≡◌, ℕ, zero, suc, ◌+◌, ◌-◌, ◌<◌, ◌≤◌, Bool, true, false, cond, leb, ◌&&◌, List, [], ◌∷◌, ◌++◌, length, replicate, Option, Some, None, refl, sym, ap, subst, ◌∙◌, arith}
use Rattle.std.specs.List.{All}
use Rattle.std.proofs.lemmas.Bool.{and_parts, leb-true, le-leb, lt-leb, and_from}
use Rattle.std.proofs.lemmas.List.{append-nil, length_push}
use Rattle.std.proofs.lemmas.List.Elements.{All-cons}
use Rattle.std.proofs.lemmas.Option.{same_Some}
use Rattle.std.proofs.Math.Bool.{and-false, and_assoc}
use Rattle.std.proofs.Math.Numerals.{add-one}
use Rattle.dp_base.specs.declared.limits.TheConstants.{PAGE_BYTES}
use Rattle.dp_base.specs.declared.page.Page.{Page}
use Rattle.dp_base.specs.Field.{◌>>=◌}
use Rattle.dp_base.specs.Journal.{many_at}
use Rattle.dp_base.proofs.Fields.{bind_some}
use Rattle.dp_base.proofs.Many.{many_none, many_more, none_further}
use Rattle.guest_state.specs.Checkpoint.{page_from, rising, rising_from}
use Rattle.cow_pages.specs.Mapping.{page_with}
use Rattle.checkpoint.specs.Reading.{if_rising, rising_pages_at}

-- ---- so many, of which the first are known

abbrev behind : {X : Type 0} → List X → List X × List ℕ → Option (List X × List ℕ)
behind xs p = Some (xs ++ p.0, p.1)

-- the least number that the next page may have
abbrev pub next_least : ℕ → List Page → ℕ
next_least least [] = least
next_least least (p ∷ pages) = next_least (p.number + 1) pages

rising_join : (least : ℕ) (xs ys : List Page) → rising_from least (xs ++ ys) ≡ rising_from least xs && rising_from (next_least least xs) ys
rising_join least [] ys = refl
rising_join least (x ∷ xs) ys = ap (λ (b : Bool). leb least x.number && b) (rising_join (x.number + 1) xs ys) ∙ sym (and_assoc (leb least x.number) (rising_from (x.number + 1) xs) (rising_from (next_least (x.number + 1) xs) ys))

least_rises : (least : ℕ) (xs : List Page) → rising_from least xs ≡ true → least ≤ next_least least xs
least_rises least [] rise = omega arith
least_rises least (x ∷ xs) rise =
    let parts = and_parts (leb least x.number) (rising_from (x.number + 1) xs) rise in
    let first : least ≤ x.number = leb-true _ _ parts.0 in
    let others : x.number + 1 ≤ next_least (x.number + 1) xs = least_rises (x.number + 1) xs parts.1 in
    omega (arith, first, others)

pub pages_below : (least : ℕ) (xs : List Page) → rising_from least xs ≡ true → All (λ p. p.number < next_least least xs) xs
pages_below least [] rise = λ k d lt. absurd (omega arith)
pages_below least (x ∷ xs) rise =
    let parts = and_parts (leb least x.number) (rising_from (x.number + 1) xs) rise in
    let above = least_rises (x.number + 1) xs parts.1 in
    All-cons (λ (p : Page). p.number < next_least (x.number + 1) xs) x xs (omega (arith, above)) (pages_below (x.number + 1) xs parts.1)

bind_self : {X : Type 0} (r : Option (List X × List ℕ)) → r ≡ (r >>= behind [])
bind_self None = refl
bind_self (Some p) = refl

front : {X : Type 0} (x : X) (xs : List X) (r : Option (List X × List ℕ)) → ((r >>= behind xs) >>= λ p. Some (x ∷ p.0, p.1)) ≡ (r >>= behind (x ∷ xs))
front x xs None = refl
front x xs (Some p) = refl

many_from : {X : Type 0} (item : List ℕ → Option (X × List ℕ)) (i k n : ℕ) (bytes : List ℕ) (taken : List X × List ℕ) → n ≡ i + k → many_at item i bytes ≡ Some taken → many_at item n bytes ≡ (many_at item k taken.1 >>= behind taken.0)
unfolding many_at
many_from {X} item zero k n bytes taken size so_far =
    let same : n ≡ k = omega (arith, size) in
    subst (λ (t : List X × List ℕ). many_at item n bytes ≡ (many_at item k t.1 >>= behind t.0)) (same_Some _ _ so_far) (ap (λ (m : ℕ). many_at item m bytes) same ∙ bind_self (many_at item k bytes))
many_from item (suc i) k zero bytes taken size so_far = absurd (omega (arith, size))
many_from {X} item (suc i) k (suc n) bytes taken size so_far =
    let a = bind_some (item bytes) (λ first. many_at item i first.1 >>= λ others. Some (first.0 ∷ others.0, others.1)) taken so_far in
    let b = bind_some (many_at item i a.0.1) (λ others. Some (a.0.0 ∷ others.0, others.1)) taken a.2 in
    let less : n ≡ i + k = omega (arith, size) in
    let inside = many_from item i k n a.0.1 b.0 less b.1 in
    subst (λ (t : List X × List ℕ). many_at item (suc n) bytes ≡ (many_at item k t.1 >>= behind t.0)) (same_Some _ _ b.2)
    (ap (λ (o : Option (X × List ℕ)). o >>= λ first. many_at item n first.1 >>= λ others. Some (first.0 ∷ others.0, others.1)) a.1
    ∙ ap (λ (o : Option (List X × List ℕ)). o >>= λ others. Some (a.0.0 ∷ others.0, others.1)) inside
    ∙ front a.0.0 b.0.0 (many_at item k b.0.1))

-- ---- pages

pub record PagesSoFar (i : ℕ) (bytes : List ℕ) (pages : List Page) (least : ℕ) (rest : List ℕ) : Type 0 where
  pub read : many_at page_from i bytes ≡ Some (pages, rest)
  pub rise : rising pages ≡ true
  pub least_is : least ≡ next_least 0 pages
  pub count : length pages ≡ i

pub no_page : (bytes : List ℕ) → PagesSoFar 0 bytes [] 0 bytes
no_page bytes = record { read = many_none page_from bytes; rise = refl; least_is = refl; count = refl }

pub page_more : (i : ℕ) (bytes : List ℕ) (pages : List Page) (least : ℕ) (rest : List ℕ) (p : Page) (next : List ℕ) → PagesSoFar i bytes pages least rest → page_from rest ≡ Some (p, next) → least ≤ p.number
    → PagesSoFar (i + 1) bytes (pages ++ p ∷ []) (p.number + 1) next
page_more i bytes pages least rest p next so_far is above = record {
  read = rw (add-one i) (many_more page_from i bytes (pages, rest) (p, next) so_far.read is);
  rise = rising_join 0 pages (p ∷ []) ∙ and_from _ _ so_far.rise (and_from _ _ (le-leb _ _ (omega (arith, above, so_far.least_is))) refl);
  least_is = sym (next_least-push 0 pages p);
  count = length_push pages p ∙ ap (λ (n : ℕ). n + 1) so_far.count;
}
  where
    next_least-push : (least : ℕ) (xs : List Page) (p : Page) → next_least least (xs ++ p ∷ []) ≡ p.number + 1
    next_least-push least [] p = refl
    next_least-push least (x ∷ xs) p = next_least-push (x.number + 1) xs p

pub page_none : (i n : ℕ) (bytes : List ℕ) (pages : List Page) (least : ℕ) (rest : List ℕ) → PagesSoFar i bytes pages least rest → i < n → page_from rest ≡ None → rising_pages_at n bytes ≡ None
page_none i n bytes pages least rest so_far more is = ap (λ (o : Option (List Page × List ℕ)). o >>= if_rising) (none_further page_from i n bytes (pages, rest) more so_far.read is)

-- a page whose number doesn't rise
pub page_low : (i n : ℕ) (bytes : List ℕ) (pages : List Page) (least : ℕ) (rest : List ℕ) (p : Page) (next : List ℕ) → PagesSoFar i bytes pages least rest → i < n → page_from rest ≡ Some (p, next) → p.number < least → rising_pages_at n bytes ≡ None
unfolding many_at
page_low i n bytes pages least rest p next so_far more is low =
    let size : n ≡ i + suc (n - (i + 1)) = omega (arith, more) in
    let split = many_from page_from i (suc (n - (i + 1))) n bytes (pages, rest) size so_far.read in
    let one = ap (λ (o : Option (Page × List ℕ)). (o >>= λ first. many_at page_from (n - (i + 1)) first.1 >>= λ others. Some (first.0 ∷ others.0, others.1)) >>= behind pages) is in
    ap (λ (o : Option (List Page × List ℕ)). o >>= if_rising) (split ∙ one) ∙ none_left (many_at page_from (n - (i + 1)) next)
  where
    no_rise : (more_ : List Page) → rising (pages ++ p ∷ more_) ≡ false
    no_rise more_ =
        let last : leb (next_least 0 pages) p.number ≡ false = lt-leb _ _ (omega (arith, low, so_far.least_is)) in
        rising_join 0 pages (p ∷ more_) ∙ ap (λ (b : Bool). rising pages && (b && rising_from (p.number + 1) more_)) last ∙ and-false (rising pages)

    none_left : (r : Option (List Page × List ℕ)) → (((r >>= λ others. Some (p ∷ others.0, others.1)) >>= behind pages) >>= if_rising) ≡ None
    none_left None = refl
    none_left (Some q) = ap (λ (b : Bool). cond b (Some (pages ++ p ∷ q.0, q.1)) None) (no_rise q.0)

pub pages_all : (i n : ℕ) (bytes : List ℕ) (pages : List Page) (least : ℕ) (rest : List ℕ) → PagesSoFar i bytes pages least rest → i ≡ n → rising_pages_at n bytes ≡ Some (pages, rest)
pages_all i n bytes pages least rest so_far all =
    ap (λ (m : ℕ). rising_pages_at m bytes) (sym all) ∙ ap (λ (o : Option (List Page × List ℕ)). o >>= if_rising) so_far.read ∙ ap (λ (b : Bool). cond b (Some (pages, rest)) None) so_far.rise

-- a whole page has nothing after it
pub whole_page : (p : Page) → length p.bytes ≡ PAGE_BYTES → page_with p.number p.flags p.bytes ≡ p
whole_page p size =
    let none : PAGE_BYTES - length p.bytes ≡ 0 = omega (arith, size) in
    ap (λ (n : ℕ). record { number = p.number; flags = p.flags; bytes = p.bytes ++ replicate n 0 }) none ∙ ap (λ (l : List ℕ). record p { bytes = l }) (append-nil p.bytes)
