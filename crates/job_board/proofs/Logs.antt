-- Logs of passes and items, and sums over passes.
use Rattle.std.proofs.Common.{◌≡◌, ◌≢◌, ℕ, zero, suc, ◌+◌, ◌≤◌, ◌<◌, ◌==◌, Bool, true, false, List, [], ◌∷◌, ◌++◌, map, length, set, sym, refl, ap, ◌∙◌, arith, eq-eqb, ne_eqb, append-nil, length-append, ◌⊎◌, inl, inr, ⊎_elim}
use Rattle.std.specs.Prelude.{if◌then◌else◌, slice_index_or}
use mathlib.Core.Option.{some, some-injective, some-ne-none}
use lib.ListN.{get_elem?}
use Rattle.job_board.specs.Queue.{part, items_of, by_first, total_cost, total}
use Rattle.job_board.specs.declared.view.View.{View}

pub map_append : {A B : Type 0} (f : A → B) (xs ys : List A) → map f (xs ++ ys) ≡ map f xs ++ map f ys
map_append f [] ys = refl
map_append f (x ∷ xs) ys = ap (λ l. f x ∷ l) (map_append f xs ys)

-- a place where something stands is below the length
pub at_below : {A : Type 0} (l : List A) (i : ℕ) (a : A) → get_elem? l i ≡ some a → i < length l
at_below [] i a e = absurd (some-ne-none a (sym e))
at_below (x ∷ xs) zero a e = omega arith
at_below (x ∷ xs) (suc i) a e = let h = at_below xs i a e in omega (arith, h)

module _ {X : Type 0} where
  by_append_step : (x : X) (xs ys zs : List X) (b : Bool) → zs ≡ xs ++ ys → (if b then x ∷ zs else zs) ≡ (if b then x ∷ xs else xs) ++ ys
  by_append_step x xs ys zs true e = ap (λ l. x ∷ l) e
  by_append_step x xs ys zs false e = e

  pub by_append : (k : ℕ) (xs ys : List (ℕ × X)) → part k (xs ++ ys) ≡ part k xs ++ part k ys
  by_append k [] ys = refl
  by_append k (x ∷ xs) ys = by_append_step x.1 (part k xs) (part k ys) (part k (xs ++ ys)) (x.0 == k) (by_append k xs ys)

  pub by_mine : (k : ℕ) (xs : List (ℕ × X)) (x : X) → part k (xs ++ (k, x) ∷ []) ≡ part k xs ++ x ∷ []
  by_mine k xs x = by_append k xs ((k, x) ∷ []) ∙ ap (λ (b : Bool). part k xs ++ (if b then x ∷ [] else [])) (eq-eqb k k refl)

  pub by_other : (k j : ℕ) (xs : List (ℕ × X)) (x : X) → j ≢ k → part k (xs ++ (j, x) ∷ []) ≡ part k xs
  by_other k j xs x ne = by_append k xs ((j, x) ∷ []) ∙ ap (λ (b : Bool). part k xs ++ (if b then x ∷ [] else [])) (ne_eqb j k ne) ∙ append-nil (part k xs)

  cost_by_step : (cost : X → ℕ) (x : X) (xs ys : List X) (b : Bool) → total_cost cost xs ≤ total_cost cost ys → total_cost cost (if b then x ∷ xs else xs) ≤ cost x + total_cost cost ys
  cost_by_step cost x xs ys true h = omega (arith, h)
  cost_by_step cost x xs ys false h = omega (arith, h)

  -- a pass has no more than the whole log
  pub cost_by : (cost : X → ℕ) (k : ℕ) (log : List (ℕ × X)) → total_cost cost (part k log) ≤ total_cost cost (items_of log)
  cost_by cost k [] = omega arith
  cost_by cost k (x ∷ xs) = cost_by_step cost x.1 (part k xs) (items_of xs) (x.0 == k) (cost_by cost k xs)

  pub cost_append : (cost : X → ℕ) (xs ys : List X) → total_cost cost (xs ++ ys) ≡ total_cost cost xs + total_cost cost ys
  cost_append cost [] ys = omega arith
  cost_append cost (x ∷ xs) ys = let h = cost_append cost xs ys in omega (arith, h)

  pub total_set : (f : View X → ℕ) (views : List (View X)) (port : ℕ) (v w : View X) → get_elem? views port ≡ some v → total f (set views port w) + f v ≡ total f views + f w
  total_set f [] port v w at = absurd (some-ne-none v (sym at))
  total_set f (u ∷ us) zero v w at = let h : f u ≡ f v = ap f (some-injective u v at) in omega (arith, h)
  total_set f (u ∷ us) (suc port) v w at = let h = total_set f us port v w at in omega (arith, h)

  pub total_snoc : (f : View X → ℕ) (views : List (View X)) (w : View X) → total f (views ++ w ∷ []) ≡ total f views + f w
  total_snoc f [] w = omega arith
  total_snoc f (u ∷ us) w = let h = total_snoc f us w in omega (arith, h)

  pub total_at : (f : View X → ℕ) (views : List (View X)) (port : ℕ) (v : View X) → get_elem? views port ≡ some v → f v ≤ total f views
  total_at f [] port v at = absurd (some-ne-none v (sym at))
  total_at f (u ∷ us) zero v at = let h : f u ≡ f v = ap f (some-injective u v at) in omega (arith, h)
  total_at f (u ∷ us) (suc port) v at = let h = total_at f us port v at in omega (arith, h)

  pub by_first_mine : (xs : List X) → part 0 (by_first xs) ≡ xs
  by_first_mine [] = refl
  by_first_mine (x ∷ xs) = ap (λ l. x ∷ l) (by_first_mine xs)

  pub by_first_other : (k : ℕ) (xs : List X) → part (suc k) (by_first xs) ≡ []
  by_first_other k [] = refl
  by_first_other k (x ∷ xs) = ap (λ (b : Bool). if b then x ∷ part (suc k) (by_first xs) else part (suc k) (by_first xs)) (ne_eqb 0 (suc k) (λ e. omega (arith, e))) ∙ by_first_other k xs

  pub items_first : (xs : List X) → items_of (by_first xs) ≡ xs
  items_first [] = refl
  items_first (x ∷ xs) = ap (λ l. x ∷ l) (items_first xs)

pub at_end : {A : Type 0} (l : List A) (a b : A) (j : ℕ) → get_elem? (l ++ a ∷ []) j ≡ some b → (get_elem? l j ≡ some b) ⊎ ((a ≡ b) × (j ≡ length l))
at_end [] a b zero e = inr (some-injective a b e, refl)
at_end [] a b (suc j) e = absurd (some-ne-none b (sym e))
at_end (x ∷ xs) a b zero e = inl e
at_end (x ∷ xs) a b (suc j) e = ⊎_elim (λ h. inl h) (λ h. inr (h.0, ap suc h.1)) (at_end xs a b j e)

pub index_end : {A : Type 0} (l : List A) (a d : A) (k : ℕ) → k < length (l ++ a ∷ []) → ((k < length l) × (slice_index_or (l ++ a ∷ []) k d ≡ slice_index_or l k d)) ⊎ ((k ≡ length l) × (slice_index_or (l ++ a ∷ []) k d ≡ a))
index_end [] a d zero h = inr (refl, refl)
index_end [] a d (suc k) h = absurd (omega (arith, h))
index_end (x ∷ xs) a d zero h = inl (omega arith, refl)
index_end (x ∷ xs) a d (suc k) h = ⊎_elim (λ (e : (k < length xs) × (slice_index_or (xs ++ a ∷ []) k d ≡ slice_index_or xs k d)). let lt = e.0 in inl (omega (arith, lt), e.1))
    (λ (e : (k ≡ length xs) × (slice_index_or (xs ++ a ∷ []) k d ≡ a)). inr (ap suc e.0, e.1)) (index_end xs a d k (omega (arith, h)))

pub index_out : {A : Type 0} (l : List A) (d : A) (k : ℕ) → length l ≤ k → slice_index_or l k d ≡ d
index_out [] d k h = refl
index_out (x ∷ xs) d zero h = absurd (omega (arith, h))
index_out (x ∷ xs) d (suc k) h = index_out xs d k (omega (arith, h))

pub none_before : {A : Type 0} (xs ys : List A) → xs ≡ ys ++ xs → ys ≡ []
none_before xs [] e = refl
none_before xs (y ∷ ys) e = let h : length xs ≡ length ((y ∷ ys) ++ xs) = ap length e in let a = length-append ys xs in absurd (omega (arith, h, a))

-- a log in which no pass has anything is empty
pub nothing_in : {X : Type 0} (log : List (ℕ × X)) → ((k : ℕ) → part k log ≡ []) → log ≡ []
nothing_in [] none = refl
nothing_in (e ∷ es) none = let h : length (part e.0 (e ∷ es)) ≡ 0 = ap length (none e.0) in let l : length (part e.0 (e ∷ es)) ≡ suc (length (part e.0 es)) = ap (λ (b : Bool). length (if b then e.1 ∷ part e.0 es else part e.0 es)) (eq-eqb e.0 e.0 refl) in absurd (omega (arith, h, l))

pub in_none : {X : Type 0} (log : List (ℕ × X)) → ((k : ℕ) → part (suc k) log ≡ []) → part 0 log ≡ [] → (k : ℕ) → part k log ≡ []
in_none log others first zero = first
in_none log others first (suc k) = others k

pub total_one : {X : Type 0} (f : View X → ℕ) (views : List (View X)) (v : View X) → get_elem? views 0 ≡ some v → length views ≡ 1 → total f views ≡ f v
total_one f [] v at alone = absurd (some-ne-none v (sym at))
total_one f (u ∷ []) v at alone = let h : f u ≡ f v = ap f (some-injective u v at) in omega (arith, h)
total_one f (u ∷ w ∷ us) v at alone = absurd (omega (arith, alone))
