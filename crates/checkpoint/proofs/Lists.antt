-- Threads that each have an encoding: one changed among others that are woken, or before one that is added.
use Rattle.std.proofs.Common.{◌≡◌, ℕ, zero, suc, ◌-◌, ◌<◌, Bool, true, false, cond, List, [], ◌∷◌, ◌++◌, length, Some, refl, ap, ◌∙◌, arith}
use Rattle.std.specs.Prelude.{◌&&◌, nat_lt, slice_get, slice_set}
use Rattle.std.specs.List.{AllByRecursion}
use Rattle.std.proofs.lemmas.Bool.{cond_both}
use Rattle.std.proofs.lemmas.Option.{same_Some}
use Rattle.guest_state.specs.declared.thread.Thread.{Thread}
use Rattle.guest_state.specs.Checkpoint.{IsThread}
use Rattle.guest_kernel.specs.Threads.{awake, waits_on, woken}

pub set_append : {X : Type 0} (xs ys : List X) (i : ℕ) (y : X) → i < length xs → slice_set (xs ++ ys) i y ≡ slice_set xs i y ++ ys
set_append [] ys i y inside = absurd (omega (arith, inside))
set_append (x ∷ xs) ys zero y inside = refl
set_append {X} (x ∷ xs) ys (suc i) y inside = ap (λ (l : List X). x ∷ l) (set_append xs ys i y (omega (arith, inside)))

-- a thread that doesn't wait, changed to another that doesn't, among threads that are woken
pub set_woken : (addr count : ℕ) (xs : List Thread) (i : ℕ) (old new : Thread) → slice_get xs i ≡ Some old → waits_on addr old ≡ false → waits_on addr new ≡ false
    → slice_set (woken addr count xs) i new ≡ woken addr count (slice_set xs i new)
unfolding woken
set_woken addr count [] i old new there is_old is_new = refl
set_woken addr count (x ∷ xs) zero old new there is_old is_new =
    let here : waits_on addr x ≡ false = ap (λ t. waits_on addr t) (same_Some _ _ there) ∙ is_old in
    ap (λ b. slice_set (cond (b && nat_lt 0 count) (awake x ∷ woken addr (count - 1) xs) (x ∷ woken addr count xs)) zero new) here
    ∙ ap (λ b. cond (b && nat_lt 0 count) (awake new ∷ woken addr (count - 1) xs) (new ∷ woken addr count xs)) (let back : false ≡ waits_on addr new = cc in back)
set_woken addr count (x ∷ xs) (suc i) old new there is_old is_new =
    elim (waits_on addr x && nat_lt 0 count) as (λ (b : Bool). slice_set (cond b (awake x ∷ woken addr (count - 1) xs) (x ∷ woken addr count xs)) (suc i) new
    ≡ cond b (awake x ∷ woken addr (count - 1) (slice_set xs i new)) (x ∷ woken addr count (slice_set xs i new))) [
      | true ↦ ap (λ l. awake x ∷ l) (set_woken addr (count - 1) xs i old new there is_old is_new)
      | false ↦ ap (λ l. x ∷ l) (set_woken addr count xs i old new there is_old is_new)
    ]

-- ---- each of them

pub each_woken : ((t : Thread) → IsThread t → IsThread (awake t)) → (addr count : ℕ) (xs : List Thread) → AllByRecursion IsThread xs → AllByRecursion IsThread (woken addr count xs)
unfolding woken
each_woken wakes addr count [] all = tt
each_woken wakes addr count (x ∷ xs) all =
    cond_both (waits_on addr x && nat_lt 0 count) _ _ (AllByRecursion IsThread)
    (λ _. (wakes x all.0, each_woken wakes addr (count - 1) xs all.1)) (λ _. (all.0, each_woken wakes addr count xs all.1))
