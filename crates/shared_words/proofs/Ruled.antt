-- Each step keeps the rule.
use Rattle.std.proofs.Common.{◌≡◌, ◌⊎◌, inl, inr, ⊎_elim, ℕ, ◌+◌, ◌%◌, ◌^◌, ◌<◌, ◌≤◌, Bool, true, false, cond, List, [], ◌∷◌, ◌++◌, get_or, set, sym, refl, ap, subst, ◌∙◌, arith, length-set, get_or-set_same}
use Rattle.std.proofs.lemmas.List.{get_or-set_other}
use prog.Atomic.{either}
use Rattle.std.specs.Prelude.{◌==◌}
use mathlib.Core.Option.{none, some}
use lib.ListN.{get_elem?}
use Rattle.atomic_table.specs.Table.{Me, step, keeps, Allows, Splits, Joins}
use Rattle.shared_words.specs.Rule.{HasSource, KeepsRule, times, stores_of, sum_over, once_below, seat_after_load, after_store, after_exchange, loads_word, stores_word, exchanges, with_ticket, takes_ticket, reduced, new_seat_view, joined_seats, spent}
use Rattle.shared_words.specs.declared.view.Stored.{Stored}
use Rattle.shared_words.specs.declared.view.View.{View}
use Rattle.shared_words.proofs.Views.{total_set, total_append, part_of, times_append, stores_append, stored_last, above_all, once_more, once_below_lt, set_at}

abbrev M : Type 0
M = Me (Unit {0}) View

-- a view with the same number as before
same_total : (f : View → ℕ) (views : List View) (i : ℕ) (v w : View) → get_elem? views i ≡ some v → f w ≡ f v → sum_over f (set views i w) ≡ sum_over f views
same_total f views i v w at is = let s = total_set f views i v w at in omega arith

-- words keep their sources where no view has stored less
kept_source : (start : List ℕ) (views after : List View) (word value : ℕ)
    → sum_over (λ v. stores_of word value v.stored) views ≤ sum_over (λ v. stores_of word value v.stored) after
    → HasSource start views word value → HasSource start after word value
kept_source start views after word value more source = ⊎_elim (λ same. inl same) (λ some_seat. inr (omega arith)) source

-- a step on a guest's word, after which the seat has the same tickets and budget, and has stored no less
stepping : (start : List ℕ) (slots id word : ℕ) (m : M) (f : ℕ → ℕ) (w : ℕ → View) (then : ℕ → M → Type 0) → 0 < word
    → ((n : ℕ) → n < 2 ^ 32 → f n < 2 ^ 32)
    → ((n x : ℕ) → times x (w n).tickets ≡ times x m.0.tickets) → ((n : ℕ) → (w n).budget ≡ m.0.budget)
    → ((n x y : ℕ) → stores_of x y m.0.stored ≤ stores_of x y (w n).stored)
    → ((n : ℕ) → (f n ≡ n) ⊎ (0 < stores_of word (f n) (w n).stored))
    → ((n : ℕ) → n < 2 ^ 32 → then n (w n, m.1))
    → Allows (KeepsRule start) slots id m word f then
stepping start slots id word m f w then pos fits tickets budget more source says s kept _ at _ =
    let n : ℕ = get_or s.words word 0 in
    let small = kept.guest_words word pos in
    let count : ℕ → ℕ → View → ℕ = λ x y v. stores_of x y v.stored in
    let grows : (x y : ℕ) → sum_over (count x y) s.views ≤ sum_over (count x y) (set s.views id (w n)) = λ x y. (let e = total_set (count x y) s.views id m.0 (w n) at in let g = more n x y in omega arith) in
    let zeroth : get_or (set s.words word (f n)) 0 0 ≡ get_or s.words 0 0 = get_or-set_other s.words word 0 (f n) 0 (λ e. omega arith) in
    let stays : (i : ℕ) → 0 < i → HasSource start (set s.views id (w n)) i (get_or s.words i 0) = λ i p. kept_source start s.views (set s.views id (w n)) i (get_or s.words i 0) (grows i (get_or s.words i 0)) (kept.sources i p) in
    let here : HasSource start (set s.views id (w n)) word (f n) =
    ⊎_elim (λ (same : f n ≡ n). subst (HasSource start (set s.views id (w n)) word) (sym same) (stays word pos))
    (λ (new : 0 < stores_of word (f n) (w n).stored). inr (let e = total_set (count word (f n)) s.views id m.0 (w n) at in let q = part_of (count word (f n)) s.views id m.0 at in omega arith))
    (source n) in (
      w n,
      keeps,
      tt,
      record {
        ticket_word = rw (length-set s.words word (f n)) kept.ticket_word;
        guest_words = λ i p. ⊎_elim (λ (e : (i ≡ word) × (get_or (set s.words word (f n)) i 0 ≡ f n)). rw (e.1) (fits n small)) (λ (e : get_or (set s.words word (f n)) i 0 ≡ get_or s.words i 0). rw e (kept.guest_words i p)) (set_at s.words word (f n) i);
        tickets = λ x. same_total (λ v. times x v.tickets) s.views id m.0 (w n) at (tickets n x) ∙ (kept.tickets x ∙ ap (once_below x) (sym zeroth));
        budgets = (let e = same_total (λ v. v.budget) s.views id m.0 (w n) at (budget n) in let b = kept.budgets in omega arith);
        sources = λ i p. ⊎_elim
            (λ (e : (i ≡ word) × (get_or (set s.words word (f n)) i 0 ≡ f n)). subst (λ (v : ℕ). HasSource start (set s.views id (w n)) i v) (sym e.1) (subst (λ (j : ℕ). HasSource start (set s.views id (w n)) j (f n)) (sym e.0) here))
            (λ (e : get_or (set s.words word (f n)) i 0 ≡ get_or s.words i 0). subst (λ (v : ℕ). HasSource start (set s.views id (w n)) i v) (sym e) (stays i p))
            (set_at s.words word (f n) i);
      },
      says n small,
    )

pub loading : (start : List ℕ) (slots id word : ℕ) (m : M) → 0 < word → Allows (KeepsRule start) slots id m word (λ n. n) (loads_word (step slots word 0 0 none) m)
loading start slots id word m pos =
    stepping start slots id word m (λ n. n) (λ n. seat_after_load m.0 word n) (loads_word (step slots word 0 0 none) m) pos (λ n h. h) (λ n x. refl) (λ n. refl) (λ n x y. omega arith) (λ n. inl refl) (λ n h. (h, refl))

pub storing : (start : List ℕ) (slots id word value : ℕ) (m : M) → 0 < word → value < 2 ^ 32
    → Allows (KeepsRule start) slots id m word (λ _. value) (λ _. stores_word (step slots word value 0 none) m value)
storing start slots id word value m pos small =
    stepping start slots id word m (λ _. value) (λ _. after_store m.0 word value) (λ _. stores_word (step slots word value 0 none) m value) pos (λ n h. small) (λ n x. refl) (λ n. refl)
    (λ n x y. (let a = stores_append x y m.0.stored (record { word = word; value = value } ∷ []) in omega arith))
    (λ n. inr (stored_last word value m.0.stored)) (λ n h. refl)

-- what an exchange has stored, by whether it found what it expects
exchange_more : (b : Bool) (x y word new : ℕ) (old : List Stored) → stores_of x y old ≤ stores_of x y (cond b (old ++ record { word = word; value = new } ∷ []) old)
exchange_more true x y word new old = let a = stores_append x y old (record { word = word; value = new } ∷ []) in omega arith
exchange_more false x y word new old = omega arith

exchange_source : (b : Bool) (n word new : ℕ) (old : List Stored) → (either b new n ≡ n) ⊎ (0 < stores_of word (either b new n) (cond b (old ++ record { word = word; value = new } ∷ []) old))
exchange_source true n word new old = inr (stored_last word new old)
exchange_source false n word new old = inl refl

exchange_small : (b : Bool) (new n : ℕ) → new < 2 ^ 32 → n < 2 ^ 32 → either b new n < 2 ^ 32
exchange_small true new n small fits = small
exchange_small false new n small fits = fits

pub exchanging : (start : List ℕ) (slots id word expected new : ℕ) (m : M) → 0 < word → new < 2 ^ 32
    → Allows (KeepsRule start) slots id m word (λ n. either (n == expected) new n) (exchanges (step slots word expected new none) m)
exchanging start slots id word expected new m pos small =
    stepping start slots id word m (λ n. either (n == expected) new n) (λ n. after_exchange m.0 word expected new n) (exchanges (step slots word expected new none) m) pos
    (λ n h. exchange_small (n == expected) new n small h) (λ n x. refl) (λ n. refl)
    (λ n x y. exchange_more (n == expected) x y word new m.0.stored) (λ n. exchange_source (n == expected) n word new m.0.stored) (λ n h. (h, refl))

pub taking : (start : List ℕ) (slots id : ℕ) (m : M) → 0 < m.0.budget → Allows (KeepsRule start) slots id m 0 (λ n. (n + 1) % 2 ^ 64) (takes_ticket (step slots 0 1 0 none) m)
taking start slots id m some_left s kept _ at _ =
    let n : ℕ = get_or s.words 0 0 in
    let w : View = with_ticket m.0 n in
    let b : n + sum_over (λ v. v.budget) s.views ≡ 2 ^ 62 = kept.budgets in
    let next : (n + 1) % 2 ^ 64 ≡ n + 1 = omega arith in
    let other : (i : ℕ) → 0 < i → get_or (set s.words 0 ((n + 1) % 2 ^ 64)) i 0 ≡ get_or s.words i 0 = λ i p. get_or-set_other s.words 0 i ((n + 1) % 2 ^ 64) 0 (λ e. omega arith) in
    let here : get_or (set s.words 0 ((n + 1) % 2 ^ 64)) 0 0 ≡ n + 1 = get_or-set_same s.words 0 ((n + 1) % 2 ^ 64) 0 kept.ticket_word ∙ next in (
      w,
      keeps,
      tt,
      record {
        ticket_word = rw (length-set s.words 0 ((n + 1) % 2 ^ 64)) kept.ticket_word;
        guest_words = λ i p. rw (other i p) (kept.guest_words i p);
        tickets = λ x. (let e = total_set (λ v. times x v.tickets) s.views id m.0 w at in let k = kept.tickets x in let a = times_append x m.0.tickets (n ∷ []) in let o = once_more x n in
            let goal : sum_over (λ v. times x v.tickets) (set s.views id w) ≡ once_below x (n + 1) = omega arith in goal ∙ ap (once_below x) (sym here));
        budgets = (let e = total_set (λ v. v.budget) s.views id m.0 w at in omega arith);
        sources = λ i p. subst (λ (v : ℕ). HasSource start (set s.views id w) i v) (sym (other i p))
            (kept_source start s.views (set s.views id w) i (get_or s.words i 0) (let e = same_total (λ v. stores_of i (get_or s.words i 0) v.stored) s.views id m.0 w at refl in omega arith) (kept.sources i p));
      },
      (above_all n m.0.tickets (λ x p. once_below_lt x n (let k = kept.tickets x in let q = part_of (λ v. times x v.tickets) s.views id m.0 at in omega arith)), refl),
    )

pub splitting : (start : List ℕ) (id : ℕ) (v : View) → 2 ^ 32 ≤ v.budget → Splits (KeepsRule start) id v (reduced v) new_seat_view
splitting start id v enough s kept at =
    record {
      ticket_word = kept.ticket_word;
      guest_words = kept.guest_words;
      tickets = λ x. (let e = same_total (λ u. times x u.tickets) s.views id v (reduced v) at refl in let a = total_append (λ u. times x u.tickets) (set s.views id (reduced v)) new_seat_view in let k = kept.tickets x in omega arith);
      budgets = (let e = total_set (λ u. u.budget) s.views id v (reduced v) at in let a = total_append (λ u. u.budget) (set s.views id (reduced v)) new_seat_view in let b = kept.budgets in omega arith);
      sources = λ i p. kept_source start s.views (set s.views id (reduced v) ++ new_seat_view ∷ []) i (get_or s.words i 0)
          (let f : View → ℕ = λ u. stores_of i (get_or s.words i 0) u.stored in let e = same_total f s.views id v (reduced v) at refl in let a = total_append f (set s.views id (reduced v)) new_seat_view in omega arith) (kept.sources i p);
    }

pub joining : (start : List ℕ) (id other : ℕ) (v w : View) → Joins (KeepsRule start) id v other w (joined_seats v w) spent
joining start id other v w s kept at _ there =
    record {
      ticket_word = kept.ticket_word;
      guest_words = kept.guest_words;
      tickets = λ x. (let e = total_set (λ u. times x u.tickets) s.views id v (joined_seats v w) at in let o = total_set (λ u. times x u.tickets) (set s.views id (joined_seats v w)) other w spent there in
          let a = times_append x v.tickets w.tickets in let k = kept.tickets x in omega arith);
      budgets = (let e = total_set (λ u. u.budget) s.views id v (joined_seats v w) at in let o = total_set (λ u. u.budget) (set s.views id (joined_seats v w)) other w spent there in let b = kept.budgets in omega arith);
      sources = λ i p. kept_source start s.views (set (set s.views id (joined_seats v w)) other spent) i (get_or s.words i 0)
          (let f : View → ℕ = λ u. stores_of i (get_or s.words i 0) u.stored in let e = total_set f s.views id v (joined_seats v w) at in let o = total_set f (set s.views id (joined_seats v w)) other w spent there in
          let a = stores_append i (get_or s.words i 0) v.stored w.stored in omega arith) (kept.sources i p);
    }
