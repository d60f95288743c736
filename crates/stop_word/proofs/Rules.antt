-- Each step on a stop word keeps its rule.
use Rattle.std.proofs.Common.{◌≡◌, ◌≢◌, ◌<◌, ℕ, zero, suc, ◌==◌, ⊎_elim, Bool, true, false, true≢false, List, [], ◌∷◌, set, length, sym, refl, ap, ◌∙◌, arith}
use Rattle.std.proofs.lemmas.List.{length-set}
use Rattle.std.specs.Prelude.{slice_index, if◌then◌else◌}
use mathlib.Core.Option.{some, some-injective, some-ne-none}
use mathlib.Core.Logic.{dite}
use native.Mathlib.Decide.{ℕ_discrete}
use lib.ListN.{get_elem?}
use Rattle.atomic_table.specs.Table.{Allows, Splits, Joins, keeps}
use Rattle.atomic_table.proofs.Lists.{at_longer, at_set, at_snoc, set_else, set_here}
use Rattle.stop_word.specs.Stops.{first_view, watcher_view, after_stop, after_load, view_of_both, word_of, Stops}
use Rattle.stop_word.specs.declared.rule.View.{View}

begins_at : (k : ℕ) (v : View) → get_elem? (first_view ∷ []) k ≡ some v → (k ≡ 0) × (v ≡ first_view)
begins_at zero v e = (refl, sym (some-injective first_view v e))
begins_at (suc j) v e = absurd (some-ne-none v (sym e))

pub begins : Stops (0 ∷ []) (first_view ∷ [])
begins = record {
  seat = 0;
  stopped = false;
  one = refl;
  word = refl;
  there = (first_view, refl, refl);
  stopper = λ k v at t. let b = begins_at k v at in (b.0, ap (λ (v : View). v.stopped) b.1);
  seen = λ k v at t. absurd (true≢false (sym t ∙ ap (λ (v : View). v.seen) (begins_at k v at).1));
}

-- an item of a list is within it
within : {A : Type 0} (l : List A) (k : ℕ) (a : A) → get_elem? l k ≡ some a → k < length l
within [] k a at = absurd (some-ne-none a (sym at))
within (x ∷ xs) zero a at = omega arith
within (x ∷ xs) (suc k) a at = let less = within xs k a at in omega (arith, less)

-- an item that is set, and one that isn't
set_at : {A : Type 0} (l : List A) (k : ℕ) (old new : A) → get_elem? l k ≡ some old → get_elem? (set l k new) k ≡ some new
set_at l k old new at = set_here l k new (within l k old at)

-- some view is the stopper's
abbrev IsThere : List View → ℕ → Type 0
IsThere views seat = (v : View) × (get_elem? views seat ≡ some v) × (v.stopper ≡ true)

-- a view that takes a view's place is the stopper's if that was
there_set : (views : List View) (seat k : ℕ) (v w : View) → get_elem? views k ≡ some v → (v.stopper ≡ true → w.stopper ≡ true) → IsThere views seat → IsThere (set views k w) seat
there_set views seat k v w at stopper there = dite (ℕ_discrete k seat)
    (λ (same : k ≡ seat).
    let one : some v ≡ some there.0 = sym at ∙ ap (get_elem? views) same ∙ there.1 in
    let was : v.stopper ≡ true = ap (λ (v : View). v.stopper) (some-injective v there.0 one) ∙ there.2 in
    (w, ap (get_elem? (set views k w)) (sym same) ∙ set_at views k v w at, stopper was))
    (λ (other : k ≢ seat). (there.0, set_else views k seat w (λ e. other (sym e)) ∙ there.1, there.2))

-- a step that leaves the word, who the stopper is and whether it has stopped
stays : (words words' : List ℕ) (views : List View) (o : Stops words views) (k : ℕ) (v w : View) → get_elem? views k ≡ some v
    → length words' ≡ length words → slice_index words' 0 ≡ slice_index words 0 → w.stopper ≡ v.stopper → w.stopped ≡ v.stopped → (w.seen ≡ true → o.stopped ≡ true) → Stops words' (set views k w)
stays words words' views o k v w at long word stopper stopped seen = record {
  seat = o.seat;
  stopped = o.stopped;
  one = long ∙ o.one;
  word = word ∙ o.word;
  there = there_set views o.seat k v w at (λ t. stopper ∙ t) o.there;
  stopper = λ j u here t. ⊎_elim (λ (x : (j ≡ k) × (w ≡ u)). let was = o.stopper k v at (sym stopper ∙ ap (λ (v : View). v.stopper) x.1 ∙ t) in (x.0 ∙ was.0, ap (λ (v : View). v.stopped) (sym x.1) ∙ stopped ∙ was.1))
      (λ (x : (j ≢ k) × (get_elem? views j ≡ some u)). o.stopper j u x.1 t) (at_set views k j w u here);
  seen = λ j u here t. ⊎_elim (λ (x : (j ≡ k) × (w ≡ u)). seen (ap (λ (v : View). v.seen) x.1 ∙ t)) (λ (x : (j ≢ k) × (get_elem? views j ≡ some u)). o.seen j u x.1 t) (at_set views k j w u here);
}

stored : (words : List ℕ) (n : ℕ) → length words ≡ 1 → slice_index (set words 0 n) 0 ≡ n
stored [] n e = absurd (omega (arith, e))
stored (x ∷ xs) n e = refl

kept : (words : List ℕ) → length words ≡ 1 → slice_index (set words 0 (slice_index words 0)) 0 ≡ slice_index words 0
kept words e = stored words (slice_index words 0) e

pub stores : {S : Type 0} (slots id : ℕ) (me : Rattle.atomic_table.specs.Table.Me S View) → me.0.stopper ≡ true
    → Allows {S = S} {V = View} (λ s. Stops s.words s.views) slots id me 0 (λ _. 1) (λ _ w. (w.0 ≡ after_stop me.0) × (w.1 ≡ me.1))
stores slots id me t s o len at small = let w = after_stop me.0 in let mine = o.stopper id me.0 at t in (
  w,
  keeps,
  tt,
  record {
    seat = o.seat;
    stopped = true;
    one = length-set s.words 0 1 ∙ o.one;
    word = stored s.words 1 o.one;
    there = there_set s.views o.seat id me.0 w at (λ k. t) o.there;
    stopper = λ j u here k. ⊎_elim (λ (x : (j ≡ id) × (w ≡ u)). (x.0 ∙ mine.0, ap (λ (v : View). v.stopped) (sym x.1)))
        (λ (x : (j ≢ id) × (get_elem? s.views j ≡ some u)). absurd (x.0 ((o.stopper j u x.1 k).0 ∙ sym mine.0))) (at_set s.views id j w u here);
    seen = λ j u here k. refl;
  },
  (refl, refl),
)

-- a word that isn't 0 was found only if the stopper has stopped
found : (stopped seen : Bool) (n : ℕ) → n ≡ word_of stopped → (seen ≡ true → stopped ≡ true) → (if n == 0 then seen else true) ≡ true → stopped ≡ true
found true seen n is old k = refl
found false seen n is old k = old (sym (ap (λ (m : ℕ). if m == 0 then seen else true) is) ∙ k)

pub loads : {S : Type 0} (slots id : ℕ) (me : Rattle.atomic_table.specs.Table.Me S View)
    → Allows {S = S} {V = View} (λ s. Stops s.words s.views) slots id me 0 (λ n. n) (λ n w. (w.0 ≡ after_load me.0 n) × (w.1 ≡ me.1))
loads slots id me s o len at small = let n = slice_index s.words 0 in let w = after_load me.0 n in (
  w,
  keeps,
  tt,
  stays s.words (set s.words 0 n) s.views o id me.0 w at (length-set s.words 0 n) (kept s.words o.one) refl refl (λ k. found o.stopped me.0.seen n o.word (λ h. o.seen id me.0 at h) k),
  (refl, refl),
)

pub compares : {S : Type 0} (slots id : ℕ) (me : Rattle.atomic_table.specs.Table.Me S View)
    → Allows {S = S} {V = View} (λ s. Stops s.words s.views) slots id me 0 (λ n. n) (λ n w. (w.0 ≡ me.0) × (w.1 ≡ me.1) × (me.0.stopper ≡ true → me.0.seen ≡ true → me.0.stopped ≡ true))
compares slots id me s o len at small = let n = slice_index s.words 0 in (
  me.0,
  keeps,
  tt,
  stays s.words (set s.words 0 n) s.views o id me.0 me.0 at (length-set s.words 0 n) (kept s.words o.one) refl refl (λ k. o.seen id me.0 at k),
  (refl, refl, λ t k. (o.stopper id me.0 at t).1 ∙ o.seen id me.0 at k),
)

pub splits : {S : Type 0} (id : ℕ) (v : View) → Splits {S = S} {V = View} (λ s. Stops s.words s.views) id v v watcher_view
splits id v s o at = let same = stays s.words s.words s.views o id v v at refl refl refl refl (λ k. o.seen id v at k) in record {
  seat = same.seat;
  stopped = same.stopped;
  one = same.one;
  word = same.word;
  there = (same.there.0, at_longer (set s.views id v) (watcher_view ∷ []) same.seat same.there.0 same.there.1, same.there.2);
  stopper = λ j u here k. ⊎_elim (λ x. same.stopper j u x k) (λ (x : watcher_view ≡ u). absurd (true≢false (sym k ∙ ap (λ (v : View). v.stopper) (sym x)))) (at_snoc (set s.views id v) watcher_view u j here);
  seen = λ j u here k. ⊎_elim (λ x. same.seen j u x k) (λ (x : watcher_view ≡ u). absurd (true≢false (sym k ∙ ap (λ (v : View). v.seen) (sym x)))) (at_snoc (set s.views id v) watcher_view u j here);
}

either_seen : (b c : Bool) (A : Type 0) → (b ≡ true → A) → (c ≡ true → A) → (if b then true else c) ≡ true → A
either_seen true c A x y k = x refl
either_seen false c A x y k = y k

-- Two seats in one: which is the stopper's afterwards, whether it has stopped, and that there is one.
record HasOne (views : List View) (seat : ℕ) (stopped : Bool) (id other : ℕ) (both : View) : Type 0 where
  at : ℕ
  mine : both.stopper ≡ true → (id ≡ at) × (both.stopped ≡ stopped)
  others : (j : ℕ) (u : View) → j ≢ id → j ≢ other → get_elem? views j ≡ some u → u.stopper ≡ true → (j ≡ at) × (u.stopped ≡ stopped)
  there : IsThere (set (set views id both) other watcher_view) at

one_of : (words : List ℕ) (views : List View) (o : Stops words views) (id other : ℕ) (v w : View) (b c : Bool) → v.stopper ≡ b → w.stopper ≡ c → get_elem? views id ≡ some v → get_elem? views other ≡ some w → other ≢ id
    → HasOne views o.seat o.stopped id other (view_of_both v w)
one_of words views o id other v w true c is is' at at' ne =
    let both = view_of_both v w in
    let mine = o.stopper id v at is in
    let stopper : both.stopper ≡ true = rw is refl in
    let stopped : both.stopped ≡ o.stopped = rw is mine.1 in
    record {
      at = o.seat;
      mine = λ t. (mine.0, stopped);
      others = λ j u n n' here t. o.stopper j u here t;
      there = (both, set_else (set views id both) other o.seat watcher_view (λ e. ne (sym (mine.0 ∙ e))) ∙ ap (get_elem? (set views id both)) (sym mine.0) ∙ set_at views id v both at, stopper);
    }
one_of words views o id other v w false true is is' at at' ne =
    let both = view_of_both v w in
    let his = o.stopper other w at' is' in
    let stopper : both.stopper ≡ true = rw is is' in
    let stopped : both.stopped ≡ o.stopped = rw is his.1 in
    record {
      at = id;
      mine = λ t. (refl, stopped);
      others = λ j u n n' here t. absurd (n' ((o.stopper j u here t).0 ∙ sym his.0));
      there = (both, set_else (set views id both) other id watcher_view (λ e. ne (sym e)) ∙ set_at views id v both at, stopper);
    }
one_of words views o id other v w false false is is' at at' ne =
    let both = view_of_both v w in
    let none : both.stopper ≡ false = rw is is' in
    let apart = λ (k : ℕ) (x : View) (here : get_elem? views k ≡ some x) (no : x.stopper ≡ false) (e : o.seat ≡ k).
    true≢false (sym o.there.2 ∙ ap (λ (v : View). v.stopper) (some-injective o.there.0 x (sym o.there.1 ∙ ap (get_elem? views) e ∙ here)) ∙ no) in
    record {
      at = o.seat;
      mine = λ t. absurd (true≢false (sym t ∙ none));
      others = λ j u n n' here t. o.stopper j u here t;
      there = (o.there.0, set_else (set views id both) other o.seat watcher_view (apart other w at' is') ∙ set_else views id o.seat both (apart id v at is) ∙ o.there.1, o.there.2);
    }

pub joins : {S : Type 0} (id : ℕ) (v : View) (other : ℕ) (w : View) → Joins {S = S} {V = View} (λ s. Stops s.words s.views) id v other w (view_of_both v w) watcher_view
joins id v other w s o at ne at' = let both = view_of_both v w in
    let was : get_elem? s.views other ≡ some w = ⊎_elim (λ (x : (other ≡ id) × (both ≡ w)). absurd (ne x.0)) (λ (x : (other ≢ id) × (get_elem? s.views other ≡ some w)). x.1) (at_set s.views id other both w at') in
    let one = one_of s.words s.views o id other v w v.stopper w.stopper refl refl at was ne in
    let saw : both.seen ≡ true → o.stopped ≡ true = λ k. either_seen v.seen w.seen (o.stopped ≡ true) (λ h. o.seen id v at h) (λ h. o.seen other w was h) k in
    -- a view of after: the spent one, that of both, or an old one
    let cases = λ (j : ℕ) (u : View) (A : Type 0) (spent : watcher_view ≡ u → A) (two : j ≡ id → both ≡ u → A) (old : j ≢ id → j ≢ other → get_elem? s.views j ≡ some u → A) (here : get_elem? (set (set s.views id both) other watcher_view) j ≡ some u).
    ⊎_elim (λ (x : (j ≡ other) × (watcher_view ≡ u)). spent x.1)
    (λ (x : (j ≢ other) × (get_elem? (set s.views id both) j ≡ some u)). ⊎_elim (λ (y : (j ≡ id) × (both ≡ u)). two y.0 y.1) (λ (y : (j ≢ id) × (get_elem? s.views j ≡ some u)). old y.0 x.0 y.1) (at_set s.views id j both u x.1))
    (at_set (set s.views id both) other j watcher_view u here) in record {
      seat = one.at;
      stopped = o.stopped;
      one = o.one;
      word = o.word;
      there = one.there;
      stopper = λ j u here k. cases j u ((j ≡ one.at) × (u.stopped ≡ o.stopped))
          (λ spent. absurd (true≢false (sym k ∙ ap (λ (v : View). v.stopper) (sym spent))))
          (λ same two. let mine = one.mine (ap (λ (v : View). v.stopper) two ∙ k) in (same ∙ mine.0, ap (λ (v : View). v.stopped) (sym two) ∙ mine.1))
          (λ n n' old. one.others j u n n' old k) here;
      seen = λ j u here k. cases j u (o.stopped ≡ true)
          (λ spent. absurd (true≢false (sym k ∙ ap (λ (v : View). v.seen) (sym spent))))
          (λ same two. saw (ap (λ (v : View). v.seen) two ∙ k))
          (λ n n' old. o.seen j u old k) here;
    }
