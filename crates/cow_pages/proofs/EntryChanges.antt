-- Entries of a level that are changed and put.
use Rattle.std.proofs.Common.{◌≡◌, ◌<◌, ◌≤◌, ◌+◌, ◌-◌, ℕ, zero, suc, Option, Some, None, List, [], ◌∷◌, ◌++◌, length, take, arith, sym, subst, ◌∙◌, ap, refl}
use Rattle.std.specs.Prelude.{Result, Ok, Err, OnOk, replicate, slice_get, slice_set}
use Rattle.std.specs.Option.{option_flatten, option_map}
use Rattle.std.proofs.lemmas.List.{append-nil, append_assoc, length_push, take-append-le}
use Rattle.cow_pages.specs.Tree.{Nodes, Slots, entry_at, entry_put, nodes_put, padded, slots_of}
use Rattle.dp_base.specs.declared.page.Page.{Page}

-- ---- an entry that is set

pub set_here : {A : Type 0} (entries : List (Option A)) (i : ℕ) (x : Option A) → i < length entries → entry_at (slice_set entries i x) i ≡ x
set_here [] i x within = absurd (omega (arith, within))
set_here (y ∷ entries) zero x within = refl
set_here (y ∷ entries) (suc i) x within = set_here entries i x (omega (arith, within))

pub set_mapped : {A : Type 0} (entries : List (Option A)) (i : ℕ) (g : A → A) → entry_at (slice_set entries i (option_map g (entry_at entries i))) i ≡ option_map g (entry_at entries i)
set_mapped [] i g = refl
set_mapped (y ∷ entries) zero g = refl
set_mapped (y ∷ entries) (suc i) g = set_mapped entries i g

pub set_none : {A : Type 0} (entries : List (Option A)) (i : ℕ) → entry_at (slice_set entries i None) i ≡ None
set_none [] i = refl
set_none (y ∷ entries) zero = refl
set_none (y ∷ entries) (suc i) = set_none entries i

pub set_elsewhere : {A : Type 0} (entries : List (Option A)) (i k : ℕ) (x : Option A) → (i ≡ k → ⊥) → entry_at (slice_set entries i x) k ≡ entry_at entries k
set_elsewhere [] i k x differ = refl
set_elsewhere (y ∷ entries) zero zero x differ = absurd (differ refl)
set_elsewhere (y ∷ entries) zero (suc k) x differ = refl
set_elsewhere (y ∷ entries) (suc i) zero x differ = refl
set_elsewhere (y ∷ entries) (suc i) (suc k) x differ = set_elsewhere entries i k x (λ same. differ (ap suc same))

-- ---- an entry that is put

put_past : {A : Type 0} (i : ℕ) (a : A) → slice_set (replicate (suc i) None) i (Some a) ≡ entry_put i a []
put_past zero a = refl
put_past {A} (suc i) a = ap (λ (entries : List (Option A)). None ∷ entries) (put_past i a)

pub put_entry : {A : Type 0} (i : ℕ) (a : A) (entries : List (Option A)) → slice_set (padded (i + 1) entries) i (Some a) ≡ entry_put i a entries
put_entry i a [] =
    let count : i + 1 - 0 ≡ suc i = omega arith in
    ap (λ n. slice_set (replicate n None) i (Some a)) count ∙ put_past i a
put_entry {A} zero a (x ∷ entries) =
    let count : 0 + 1 - suc (length entries) ≡ 0 = omega arith in
    ap (λ n. Some a ∷ (entries ++ replicate n None)) count ∙ ap (λ (es : List (Option A)). Some a ∷ es) (append-nil entries)
put_entry {A} (suc i) a (x ∷ entries) =
    let count : suc i + 1 - suc (length entries) ≡ i + 1 - length entries = omega arith in
    ap (λ n. x ∷ slice_set (entries ++ replicate n None) i (Some a)) count ∙ ap (λ (es : List (Option A)). x ∷ es) (put_entry i a entries)

pub put_inside : {A : Type 0} (i : ℕ) (a : A) (entries : List (Option A)) (x : Option A) → slice_get entries i ≡ Some x → slice_set entries i (Some a) ≡ entry_put i a entries
put_inside i a [] x at = absurd cc
put_inside zero a (y ∷ entries) x at = refl
put_inside {A} (suc i) a (y ∷ entries) x at = ap (λ (es : List (Option A)). y ∷ es) (put_inside i a entries x at)

pub node_put : {X E : Type 0} (r : Result X E) (nodes : Nodes) (i j : ℕ) (p : Page) (x y : Option Slots) → slice_get nodes i ≡ Some x → OnOk r (y ≡ Some (entry_put j p (slots_of x))) → OnOk r (slice_set nodes i y ≡ nodes_put i j p nodes)
node_put (Ok a) nodes i j p x y at is =
    ap (λ (z : Option Slots). slice_set nodes i z) is ∙ put_inside i (entry_put j p (slots_of x)) nodes x at
    ∙ ap (λ (z : Option (Option Slots)). entry_put i (entry_put j p (slots_of (option_flatten z))) nodes) (sym at)
node_put (Err e) nodes i j p x y at is = tt

pub node_new : {X E : Type 0} (r : Result X E) (nodes new : Nodes) (i j : ℕ) (p : Page) → slice_get nodes i ≡ None → OnOk r (new ≡ entry_put i (entry_put j p []) nodes) → OnOk r (new ≡ nodes_put i j p nodes)
node_new (Ok a) nodes new i j p at is = is ∙ ap (λ (z : Option (Option Slots)). entry_put i (entry_put j p (slots_of (option_flatten z))) nodes) (sym at)
node_new (Err e) nodes new i j p at is = tt

pub put_here : {A : Type 0} (i : ℕ) (a : A) (entries : List (Option A)) → entry_at (entry_put i a entries) i ≡ Some a
put_here zero a [] = refl
put_here zero a (x ∷ entries) = refl
put_here (suc i) a [] = put_here i a []
put_here (suc i) a (x ∷ entries) = put_here i a entries

pub put_elsewhere : {A : Type 0} (i k : ℕ) (a : A) (entries : List (Option A)) → (i ≡ k → ⊥) → entry_at (entry_put i a entries) k ≡ entry_at entries k
put_elsewhere zero zero a entries differ = absurd (differ refl)
put_elsewhere zero (suc k) a [] differ = refl
put_elsewhere zero (suc k) a (x ∷ entries) differ = refl
put_elsewhere (suc i) zero a [] differ = refl
put_elsewhere (suc i) zero a (x ∷ entries) differ = refl
put_elsewhere (suc i) (suc k) a [] differ = put_elsewhere i k a [] (λ same. differ (ap suc same))
put_elsewhere (suc i) (suc k) a (x ∷ entries) differ = put_elsewhere i k a entries (λ same. differ (ap suc same))

-- ---- empty entries at the end

pub record IsPadding {A : Type 0} (count : ℕ) (before now : List (Option A)) : Type 0 where
  pub within : length before ≤ length now
  pub kept : take (length before) now ≡ before
  pub so_far : padded count now ≡ padded count before

padded_more : {A : Type 0} (count : ℕ) (now : List (Option A)) → length now < count → padded count (now ++ None ∷ []) ≡ padded count now
padded_more {A} count now less =
    let left : count - length now ≡ suc (count - length (now ++ None ∷ [])) = omega (arith, less, length_push now None) in
    append_assoc now (None ∷ []) (replicate (count - length (now ++ None ∷ [])) None) ∙ ap (λ n. now ++ replicate {A = Option A} n None) (sym left)

pub padding_more : {A : Type 0} (count : ℕ) (before now after : List (Option A)) → IsPadding count before now → length now < count → after ≡ now ++ None ∷ [] → IsPadding count before after
padding_more {A} count before now after is less pushed =
    let one : IsPadding count before (now ++ None ∷ []) = record {
      within = omega (arith, is.within, length_push now None);
      kept = take-append-le (length before) now (None ∷ []) is.within ∙ is.kept;
      so_far = padded_more count now less ∙ is.so_far;
    } in
    subst (λ (l : List (Option A)). IsPadding count before l) (sym pushed) one

-- ---- entries with empty ones before them

pub at_before : {A : Type 0} (n : ℕ) (entries : List (Option A)) (i : ℕ) → i < n → entry_at (replicate n None ++ entries) i ≡ None
at_before zero entries i less = absurd (omega (arith, less))
at_before (suc n) entries zero less = refl
at_before (suc n) entries (suc i) less = at_before n entries i (omega (arith, less))

pub at_after : {A : Type 0} (n : ℕ) (entries : List (Option A)) (i : ℕ) → n ≤ i → entry_at (replicate n None ++ entries) i ≡ entry_at entries (i - n)
at_after zero entries i within =
    let none : i ≡ i - 0 = omega arith in
    ap (λ k. entry_at entries k) none
at_after (suc n) entries zero within = absurd (omega (arith, within))
at_after (suc n) entries (suc i) within =
    let less : i - n ≡ suc i - suc n = omega arith in
    at_after n entries i (omega (arith, within)) ∙ ap (λ k. entry_at entries k) less

pub put_first : {A : Type 0} (i : ℕ) (a : A) → replicate i None ++ Some a ∷ [] ≡ entry_put i a []
put_first zero a = refl
put_first {A} (suc i) a = ap (λ (es : List (Option A)). None ∷ es) (put_first i a)

pub put_before : {A : Type 0} (n : ℕ) (entries : List (Option A)) (i : ℕ) (a : A) → i < n → replicate i None ++ (padded (n - i) (Some a ∷ []) ++ entries) ≡ entry_put i a (replicate n None ++ entries)
put_before zero entries i a less = absurd (omega (arith, less))
put_before {A} (suc n) entries zero a less =
    let left : suc n - 0 - 1 ≡ n = omega arith in
    ap (λ k. Some a ∷ (replicate {A = Option A} k None ++ entries)) left
put_before {A} (suc n) entries (suc i) a less =
    let left : suc n - suc i ≡ n - i = omega arith in
    ap (λ (es : List (Option A)). None ∷ es) (ap (λ k. replicate i None ++ (padded k (Some a ∷ []) ++ entries)) left ∙ put_before n entries i a (omega (arith, less)))

put_after : {A : Type 0} (n : ℕ) (entries : List (Option A)) (i : ℕ) (a : A) → n ≤ i → replicate n None ++ entry_put (i - n) a entries ≡ entry_put i a (replicate n None ++ entries)
put_after zero entries i a within =
    let none : i - 0 ≡ i = omega arith in
    ap (λ k. entry_put k a entries) none
put_after (suc n) entries zero a within = absurd (omega (arith, within))
put_after {A} (suc n) entries (suc i) a within =
    let less : suc i - suc n ≡ i - n = omega arith in
    ap (λ (es : List (Option A)). None ∷ es) (ap (λ k. replicate n None ++ entry_put k a entries) less ∙ put_after n entries i a (omega (arith, within)))

pub slots_put : {X E A : Type 0} (r : Result X E) (n : ℕ) (entries new before : List (Option A)) (i : ℕ) (a : A) → n ≤ i → replicate n None ++ entries ≡ before → OnOk r (new ≡ entry_put (i - n) a entries) → OnOk r (replicate n None ++ new ≡ entry_put i a before)
slots_put (Ok x) n entries new before i a within was is = ap (λ l. replicate n None ++ l) is ∙ put_after n entries i a within ∙ ap (λ l. entry_put i a l) was
slots_put (Err e) n entries new before i a within was is = tt

pub set_before : {A : Type 0} (n : ℕ) (entries : List (Option A)) (i : ℕ) → i < n → replicate n None ++ entries ≡ slice_set (replicate n None ++ entries) i None
set_before zero entries i less = absurd (omega (arith, less))
set_before (suc n) entries zero less = refl
set_before {A} (suc n) entries (suc i) less = ap (λ (es : List (Option A)). None ∷ es) (set_before n entries i (omega (arith, less)))

pub set_after : {A : Type 0} (n : ℕ) (entries : List (Option A)) (i : ℕ) → n ≤ i → replicate n None ++ slice_set entries (i - n) None ≡ slice_set (replicate n None ++ entries) i None
set_after zero entries i within =
    let none : i - 0 ≡ i = omega arith in
    ap (λ k. slice_set entries k None) none
set_after (suc n) entries zero within = absurd (omega (arith, within))
set_after {A} (suc n) entries (suc i) within =
    let less : suc i - suc n ≡ i - n = omega arith in
    ap (λ (es : List (Option A)). None ∷ es) (ap (λ k. replicate n None ++ slice_set entries k None) less ∙ set_after n entries i (omega (arith, within)))
