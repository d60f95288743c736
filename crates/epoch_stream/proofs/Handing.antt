-- Results that are handed over in order.
use Rattle.std.proofs.Common.{◌≡◌, ℕ, zero, suc, ◌⊎◌, inl, inr, ⊎_elim, Option, None, Some, List, [], ◌∷◌, ◌++◌, length, sym, refl, ap, ◌∙◌, subst, arith, append_assoc}
use Rattle.std.specs.Prelude.{slice_get, slice_set, ◌-◌, ◌≤◌, Result, Ok, Err}
use Rattle.dp_base.specs.declared.out_of_memory.OutOfMemory.{OutOfMemory}
use Rattle.epoch_pool.specs.declared.job.Job.{Job}
use Rattle.epoch_runner.specs.declared.epoch_run.Ran.{Ran}
use Rattle.racing_runner.specs.declared.offer.More.{More}
use Rattle.racing_runner.specs.declared.offer.More.TheVariants.{Yes, Enough}
use Rattle.supply.specs.Supplied.{Supplied}
use Rattle.epoch_stream.specs.declared.deposit.Deposit.{Deposit}
use Rattle.epoch_stream.specs.Deposits.{AreFor, AreOf, In, IsFor, IsResultIn}
use Rattle.epoch_stream.specs.Takes.{AreWaiting, IsCount, Longer, Took, WentOn}

module _ {A : Type 0} where
  pub in_more : (x : A) (xs ys : List A) → In x xs → In x (xs ++ ys)
  in_more x [] ys e = absurd e
  in_more x (z ∷ zs) ys e = ⊎_elim (λ (h : x ≡ z). inl h) (λ (h : In x zs). inr (in_more x zs ys h)) e

  pub in_end : (x : A) (xs : List A) → In x (xs ++ x ∷ [])
  in_end x [] = inl refl
  in_end x (z ∷ zs) = inr (in_end x zs)

  -- a place in a longer list is one of the list, or its end
  pub get_end : (xs : List A) (y r : A) (k : ℕ) → slice_get (xs ++ y ∷ []) k ≡ Some r → (slice_get xs k ≡ Some r) ⊎ ((k ≡ length xs) × (y ≡ r))
  get_end [] y r zero e = inr (refl, cc)
  get_end [] y r (suc k) e = absurd (nothing e) where
    nothing : {B : Type 0} {b : B} → None ≡ Some b → ⊥
    nothing h = cc
  get_end (x ∷ xs) y r zero e = inl e
  get_end (x ∷ xs) y r (suc k) e = ⊎_elim (λ (h : slice_get xs k ≡ Some r). inl h) (λ (h : (k ≡ length xs) × (y ≡ r)). inr (ap suc h.0, h.1)) (get_end xs y r k e)

  -- an item of a list in which one was replaced is one of the list, or the new one
  pub set_get : (xs : List A) (n i : ℕ) (y r : A) → slice_get (slice_set xs n y) i ≡ Some r → (slice_get xs i ≡ Some r) ⊎ ((n ≡ i) × (y ≡ r))
  set_get [] n i y r e = inl e
  set_get (x ∷ xs) zero zero y r e = inr (refl, cc)
  set_get (x ∷ xs) zero (suc i) y r e = inl e
  set_get (x ∷ xs) (suc n) zero y r e = inl e
  set_get (x ∷ xs) (suc n) (suc i) y r e = ⊎_elim (λ (h : slice_get xs i ≡ Some r). inl h) (λ (h : (n ≡ i) × (y ≡ r)). inr (ap suc h.0, h.1)) (set_get xs n i y r e)

module _ {A : Type 0} where
  some_is : {x y : A} → Some x ≡ Some y → x ≡ y
  some_is e = cc

  none_some : {x : A} → None ≡ Some x → ⊥
  none_some e = cc

  pub put_at : (ws : List (Option A)) (index i : ℕ) (new d : A) → 1 ≤ index → slice_get (slice_set ws (index - 1) (Some new)) i ≡ Some (Some d) → (slice_get ws i ≡ Some (Some d)) ⊎ ((index ≡ suc i) × (d ≡ new))
  put_at ws index i new d some e = ⊎_elim (λ (h : slice_get ws i ≡ Some (Some d)). inl h)
      (λ (h : (index - 1 ≡ i) × (Some new ≡ Some d)). let n = h.0 in inr (omega (arith, n, some), sym (some_is h.1)))
      (set_get ws (index - 1) i (Some new) (Some d) e)

  pub picked_at : (ws : List (Option A)) (place i : ℕ) (now : Option A) (d : A) → now ≡ None → slice_get (slice_set ws place now) i ≡ Some (Some d) → slice_get ws i ≡ Some (Some d)
  picked_at ws place i now d none e = ⊎_elim (λ (h : slice_get ws i ≡ Some (Some d)). h) (λ (h : (place ≡ i) × (now ≡ Some d)). absurd (none_some (sym none ∙ h.1))) (set_get ws place i now (Some d) e)

module _ {T : Type 0} (takes : T → Ran → More → T → Type 0) where
  pub took_is : (t : T) (rs : List Ran) (u u' : T) (end end' : Result More OutOfMemory) → u' ≡ u → end' ≡ end → Took takes t rs u end → Took takes t rs u' end'
  took_is t rs u u' end end' taker is took = subst (λ (v : T). Took takes t rs v end') (sym taker) (subst (λ (e : Result More OutOfMemory). Took takes t rs u e) (sym is) took)

  pub went_more : (t : T) (rs : List Ran) (m : T) (r : Ran) (u : T) → WentOn takes t rs m → takes m r Yes u → WentOn takes t (rs ++ r ∷ []) u
  went_more t [] m r u w k = (u, subst (λ x. takes x r Yes u) (sym w) k, refl)
  went_more t (x ∷ xs) m r u w k = (w.0, w.1, went_more w.0 xs m r u w.2 k)

pub for_more : (supply : Supplied) (js js' : List (ℕ × Job)) (ds ds' : List (ℕ × Deposit)) (i : ℕ) (job : Job) (d : Deposit) → AreFor supply js ds → js' ≡ js ++ (i, job) ∷ [] → ds' ≡ ds ++ (i, d) ∷ [] → IsFor supply job d → AreFor supply js' ds'
for_more supply js js' ds ds' i job d are jobs deposits is = subst (λ l. AreFor supply l ds') (sym jobs) (subst (λ l. AreFor supply (js ++ (i, job) ∷ []) l) (sym deposits) (more js ds are)) where
  more : (js : List (ℕ × Job)) (ds : List (ℕ × Deposit)) → AreFor supply js ds → AreFor supply (js ++ (i, job) ∷ []) (ds ++ (i, d) ∷ [])
  more [] [] a = (refl, is, tt)
  more [] (x ∷ xs) a = absurd a
  more (y ∷ ys) [] a = absurd a
  more (y ∷ ys) (x ∷ xs) a = (a.0, a.1, more ys xs a.2)

pub of_longer : (supply : Supplied) (xs ys : List (ℕ × Deposit)) (results : List Ran) → AreOf supply xs results → Longer xs ys → AreOf supply ys results
of_longer supply xs ys results of more k ran at = let o = of k ran at in (o.0, subst (λ l. In (suc k, o.0) l) (sym more.1) (in_more (suc k, o.0) xs more.0 o.1), o.2)

pub of_more : (supply : Supplied) (xs : List (ℕ × Deposit)) (results : List Ran) (n : ℕ) (d : Deposit) (ran : Ran) → AreOf supply xs results → length results ≡ n → In (suc n, d) xs → IsResultIn supply d ran → AreOf supply xs (results ++ ran ∷ [])
of_more supply xs results n d ran of count here stands k r at = ⊎_elim (λ (h : slice_get results k ≡ Some r). of k r h)
    (λ (h : (k ≡ length results) × (ran ≡ r)). (d, subst (λ m. In (suc m, d) xs) (sym (h.0 ∙ count)) here, subst (λ (y : Ran). IsResultIn supply d y) h.1 stands)) (get_end results ran r k at)

pub waiting_more : (w0 w1 w2 : List (Option Deposit)) (all all' : List (ℕ × Deposit)) (index : ℕ) (d0 : Deposit) → AreWaiting w0 all
    → ((i : ℕ) (d : Deposit) → slice_get w1 i ≡ Some (Some d) → slice_get w0 i ≡ Some (Some d))
    → ((i : ℕ) (d : Deposit) → slice_get w2 i ≡ Some (Some d) → (slice_get w1 i ≡ Some (Some d)) ⊎ ((index ≡ suc i) × (d ≡ d0)))
    → all' ≡ all ++ (index, d0) ∷ [] → AreWaiting w2 all'
waiting_more w0 w1 w2 all all' index d0 was rest put more i d at = subst (λ l. In (suc i, d) l) (sym more)
    (⊎_elim (λ (h : slice_get w1 i ≡ Some (Some d)). in_more (suc i, d) all ((index, d0) ∷ []) (was i d (rest i d h)))
    (λ (h : (index ≡ suc i) × (d ≡ d0)). subst (λ (y : ℕ × Deposit). In y (all ++ (index, d0) ∷ [])) (λ j. (h.0 j, sym h.1 j)) (in_end (index, d0) all)) (put i d at))

pub waiting_fewer : (w0 w1 : List (Option Deposit)) (all : List (ℕ × Deposit)) → AreWaiting w0 all → ((i : ℕ) (d : Deposit) → slice_get w1 i ≡ Some (Some d) → slice_get w0 i ≡ Some (Some d)) → AreWaiting w1 all
waiting_fewer w0 w1 all was rest i d at = was i d (rest i d at)

pub waiting_kept : (w0 w1 : List (Option Deposit)) (all all' : List (ℕ × Deposit)) → AreWaiting w0 all → ((i : ℕ) (d : Deposit) → slice_get w1 i ≡ Some (Some d) → slice_get w0 i ≡ Some (Some d)) → all' ≡ all → AreWaiting w1 all'
waiting_kept w0 w1 all all' was rest same = subst (λ l. AreWaiting w1 l) (sym same) (waiting_fewer w0 w1 all was rest)

pub longer_kept : (a b c : List (ℕ × Deposit)) → Longer a b → c ≡ b → Longer a c
longer_kept a b c l same = (l.0, same ∙ l.1)

pub count_kept : (count : Option ℕ) (before after : List ℕ) → IsCount count before → after ≡ before → IsCount count after
count_kept count before after was same = subst (λ l. IsCount count l) (sym same) was

pub not_ok : {A B : Type 0} {a : A} {b : B} (r : Result B A) → r ≡ Err a → r ≡ Ok b → ⊥
not_ok r first second = cc

pub not_yes : (r : Result More OutOfMemory) → r ≡ Ok Enough → r ≡ Ok Yes → ⊥
not_yes r first second = cc

pub longer_more : (a b c : List (ℕ × Deposit)) (x : ℕ × Deposit) → Longer a b → c ≡ b ++ x ∷ [] → Longer a c
longer_more a b c x l e = (l.0 ++ x ∷ [], e ∙ ap (λ m. m ++ x ∷ []) l.1 ∙ append_assoc a l.0 (x ∷ []))

pub count_more : (count : Option ℕ) (before after : List ℕ) (n : ℕ) → IsCount count before → after ≡ before ++ n ∷ [] → IsCount (Some n) after
count_more count before after n was more = subst (λ l. In n l) (sym more) (in_end n before)
