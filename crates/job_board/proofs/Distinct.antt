-- Results of a round are of published jobs, each of another.
use Rattle.std.proofs.Common.{◌≡◌, ◌≢◌, ℕ, zero, suc, ◌+◌, ◌≤◌, ◌<◌, ◌==◌, ⊎_elim, Bool, true, false, List, [], ◌∷◌, ◌++◌, map, length, sym, refl, ap, ◌∙◌, arith, ne_eqb}
use Rattle.std.proofs.lemmas.Bool.{cases_lt}
use Rattle.std.specs.Prelude.{if◌then◌else◌, slice_index_or}
use mathlib.Core.Logic.{dite}
use native.Mathlib.Decide.{ℕ_discrete}
use Rattle.job_board.specs.declared.board.Board.{Board}
use Rattle.job_board.specs.declared.pass.Worker.{Worker}
use Rattle.job_board.specs.Queue.{part, items_of}
use Rattle.job_board.specs.Passes.{AreWorkersOf, claimed, deposited, held_of, indexes, numbers}
use Rattle.job_board.specs.Answers.{AreDistinct, InterleavesTo, IsInterleaving, times}
use Rattle.job_board.proofs.Closings.{part_skip, part_keep, no_head}
use Rattle.job_board.proofs.Logs.{map_append}

times_append : (i : ℕ) (xs ys : List ℕ) → times i (xs ++ ys) ≡ times i xs + times i ys
times_append i [] ys = omega arith
times_append i (x ∷ xs) ys = step (x == i) (times_append i xs ys) where
  step : (b : Bool) → times i (xs ++ ys) ≡ times i xs + times i ys → (if b then suc (times i (xs ++ ys)) else times i (xs ++ ys)) ≡ (if b then suc (times i xs) else times i xs) + times i ys
  step true h = omega (arith, h)
  step false h = h

times_cons : (i x : ℕ) (xs : List ℕ) → times i (x ∷ xs) ≡ times i (x ∷ []) + times i xs
times_cons i x xs = times_append i (x ∷ []) xs

module _ (A : Type 0) (i : ℕ) where
  abbrev in_part : ℕ → List (ℕ × (ℕ × A)) → ℕ
  in_part k log = times i (indexes (part k log))

  -- in the parts of the first n passes
  abbrev in_parts : ℕ → List (ℕ × (ℕ × A)) → ℕ
  in_parts zero log = 0
  in_parts (suc n) log = in_parts n log + in_part n log

  none_there : (n : ℕ) → in_parts n [] ≡ 0
  none_there zero = refl
  none_there (suc n) = let h = none_there n in omega (arith, h)

  later_pass : (n : ℕ) (e : ℕ × (ℕ × A)) (es : List (ℕ × (ℕ × A))) → n ≤ e.0 → in_parts n (e ∷ es) ≡ in_parts n es
  later_pass zero e es h = refl
  later_pass (suc n) e es h = let a = later_pass n e es (omega (arith, h)) in let b : in_part n (e ∷ es) ≡ in_part n es = ap (λ l. times i (indexes l)) (part_skip n e es (λ x. omega (arith, h, x))) in omega (arith, a, b)

  this_pass : (n : ℕ) (e : ℕ × (ℕ × A)) (es : List (ℕ × (ℕ × A))) → e.0 < n → in_parts n (e ∷ es) ≡ times i (e.1.0 ∷ []) + in_parts n es
  this_pass zero e es h = absurd (omega (arith, h))
  this_pass (suc n) e es h = dite (ℕ_discrete e.0 n)
      (λ (is : e.0 ≡ n). let a = later_pass n e es (omega (arith, is)) in let b : in_part n (e ∷ es) ≡ times i (e.1.0 ∷ []) + in_part n es = ap (λ l. times i (indexes l)) (part_keep n e es is) ∙ times_cons i e.1.0 (indexes (part n es)) in omega (arith, a, b))
      (λ (ne : e.0 ≢ n). let a = this_pass n e es (below n e.0 h ne) in let b : in_part n (e ∷ es) ≡ in_part n es = ap (λ l. times i (indexes l)) (part_skip n e es ne) in omega (arith, a, b)) where
        below : (n k : ℕ) → k < suc n → k ≢ n → k < n
        below n k lt ne = ⊎_elim (λ (x : k < n). x) (λ (x : n ≤ k). absurd (ne (omega (arith, lt, x)))) (cases_lt k n)

  -- the parts of all passes have what the log has
  all_parts : (n : ℕ) (log : List (ℕ × (ℕ × A))) → ((k : ℕ) → n ≤ k → part k log ≡ []) → in_parts n log ≡ times i (indexes (items_of log))
  all_parts n [] none = none_there n
  all_parts n (e ∷ es) none = ⊎_elim
      (λ (lt : e.0 < n). let a = this_pass n e es lt in let b = all_parts n es (λ k h. sym (part_skip k e es (λ x. omega (arith, lt, h, x))) ∙ none k h) in let c = times_cons i e.1.0 (indexes (items_of es)) in omega (arith, a, b, c))
      (λ (h : n ≤ e.0). absurd (no_head e.1 (part e.0 es) (sym (part_keep e.0 e es refl) ∙ none e.0 h)))
      (cases_lt e.0 n)

fewer : {A B : Type 0} (i n : ℕ) (xs : List (ℕ × (ℕ × A))) (ys : List (ℕ × (ℕ × B))) → ((k : ℕ) → in_part A i k xs ≤ in_part B i k ys) → in_parts A i n xs ≤ in_parts B i n ys
fewer i zero xs ys le = omega arith
fewer i (suc n) xs ys le = let a = fewer i n xs ys le in let b = le n in omega (arith, a, b)

once : (i n : ℕ) → (times i (numbers n) ≤ 1) × (n < i → times i (numbers n) ≡ 0)
once i zero = (omega arith, λ h. refl)
once i (suc n) = let was = once i n in let e = times_append i (numbers n) (suc n ∷ []) in dite (ℕ_discrete (suc n) i)
    (λ (is : suc n ≡ i). let z = was.1 (omega (arith, is)) in let l = last (suc n == i) in (omega (arith, e, z, l), λ h. absurd (omega (arith, h, is))))
    (λ (ne : suc n ≢ i). let le = was.0 in let l : times i (suc n ∷ []) ≡ 0 = ap (λ (b : Bool). if b then 1 else 0) (ne_eqb (suc n) i ne) in (omega (arith, e, le, l), λ h. let z = was.1 (omega (arith, h)) in omega (arith, e, l, z))) where
      last : (b : Bool) → (if b then 1 else 0) ≤ 1
      last true = omega arith
      last false = omega arith

module _ {J R : Type 0} where
  worker_part : (b : Board J R) (i n : ℕ) (ws : List (Worker J R)) → AreWorkersOf b n ws → (k : ℕ)
      → times i (indexes (slice_index_or (map (λ (w : Worker J R). deposited w) ws) k [])) ≤ times i (indexes (slice_index_or (map (λ (w : Worker J R). claimed w) ws) k []))
  worker_part b i n [] all k = omega arith
  worker_part b i n (w ∷ ws) all zero = let h = ap (times i) all.0.held ∙ times_append i (indexes (deposited w)) (held_of w.held) in omega (arith, h)
  worker_part b i n (w ∷ ws) all (suc k) = worker_part b i (suc n) ws all.1 k

  claims_out : (ws : List (Worker J R)) (k : ℕ) → length ws ≤ k → slice_index_or (map (λ (w : Worker J R). claimed w) ws) k [] ≡ []
  claims_out [] k h = refl
  claims_out (w ∷ ws) zero h = absurd (omega (arith, h))
  claims_out (w ∷ ws) (suc k) h = claims_out ws k (omega (arith, h))

  deposits_out : (ws : List (Worker J R)) (k : ℕ) → length ws ≤ k → slice_index_or (map (λ (w : Worker J R). deposited w) ws) k [] ≡ []
  deposits_out [] k h = refl
  deposits_out (w ∷ ws) zero h = absurd (omega (arith, h))
  deposits_out (w ∷ ws) (suc k) h = deposits_out ws k (omega (arith, h))

  pub of_published : (b : Board J R) (ws : List (Worker J R)) (whole left : List (ℕ × J)) (results : List (ℕ × R)) → AreWorkersOf b 1 ws → InterleavesTo whole (map (λ (w : Worker J R). claimed w) ws) left
      → IsInterleaving (map (λ (w : Worker J R). deposited w) ws) results → (i : ℕ) → times i (indexes results) ≤ times i (indexes whole)
  of_published b ws whole left results all s g i = let jobs = s.0 in let deposits = g.0 in let n = suc (length ws) in
      let a = all_parts R i n deposits none_deposited in let c = all_parts J i n jobs none_claimed in let d = fewer i n deposits jobs each in
      let e = ap (λ l. times i (indexes l)) g.1 in let f = ap (λ l. times i (indexes l)) s.1 ∙ ap (times i) (map_append (λ x. x.0) (items_of jobs) left) ∙ times_append i (indexes (items_of jobs)) (indexes left) in omega (arith, a, c, d, e, f) where
        none_deposited : (k : ℕ) → suc (length ws) ≤ k → part k g.0 ≡ []
        none_deposited zero h = absurd (omega (arith, h))
        none_deposited (suc k) h = g.2 k ∙ deposits_out ws k (omega (arith, h))

        none_claimed : (k : ℕ) → suc (length ws) ≤ k → part k s.0 ≡ []
        none_claimed zero h = absurd (omega (arith, h))
        none_claimed (suc k) h = s.2 k ∙ claims_out ws k (omega (arith, h))

        each : (k : ℕ) → in_part R i k g.0 ≤ in_part J i k s.0
        each zero = let z = ap (λ l. times i (indexes l)) g.3 in omega (arith, z)
        each (suc k) = let x = ap (λ l. times i (indexes l)) (g.2 k) in let y = ap (λ l. times i (indexes l)) (s.2 k) in let h = worker_part b i 1 ws all k in omega (arith, x, y, h)

  pub are_distinct : (whole : List (ℕ × J)) (results : List (ℕ × R)) → indexes whole ≡ numbers (length whole) → ((i : ℕ) → times i (indexes results) ≤ times i (indexes whole)) → AreDistinct (indexes results)
  are_distinct whole results e le i = let a = le i in let b = ap (times i) e in let c = (once i (length whole)).0 in omega (arith, a, b, c)
