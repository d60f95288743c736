-- Each step keeps the rule of a queue in order.
use Rattle.std.proofs.Common.{◌≡◌, ◌≢◌, ℕ, zero, suc, ◌+◌, ◌-◌, ◌≤◌, ◌<◌, ◌==◌, ◌⊎◌, inl, inr, ⊎_elim, false, true≢false, List, [], ◌∷◌, ◌++◌, length, set, sym, refl, ap, ◌∙◌, subst, arith, append_assoc, append-nil, length-append}
use Rattle.std.proofs.lemmas.List.{length-set, length-map}
use Rattle.std.specs.Prelude.{slice_index_or, if◌then◌else◌}
use Rattle.std.proofs.lemmas.Bool.{cases_lt}
use mathlib.Core.Option.{some, some-injective, some-ne-none}
use lib.ListN.{get_elem?}
use Rattle.crossbeam_queue.specs.Fifo.{Pushes, Pops, Forks, Merges, Learns}
use Rattle.crossbeam_queue.proofs.Lists.{at_set, set_here, set_else, at_longer}
use Rattle.job_board.specs.Queue.{part, items_of, by_first, total_cost, total, new_view, root, after_split, split_off, after_join, spent_view, after_put, after_take, IsSpent, Fits, InOrder, IsPartOf, History}
use Rattle.job_board.specs.declared.view.View.{View}
use Rattle.job_board.proofs.Logs.{map_append, by_append, by_mine, by_other, cost_by, cost_append, total_set, total_snoc, total_at, at_below, by_first_mine, by_first_other, items_first, at_end, index_end, index_out, none_before, nothing_in, in_none, total_one}

module _ {X : Type 0} where
  abbrev none : List X × List X
  none = ([], [])

  abbrev Each : List (ℕ × X) → List (ℕ × X) → ℕ → ℕ → List (View X) → Type 0
  Each puts takes capacity limit views = (port : ℕ) (v : View X) → get_elem? views port ≡ some v → v.spent ≡ false → Fits puts takes capacity limit port v

  -- the other passes have in these logs what they have in those
  abbrev Same : List (ℕ × X) → List (ℕ × X) → List (ℕ × X) → List (ℕ × X) → ℕ → Type 0
  Same puts takes puts' takes' port = (j : ℕ) → j ≢ port → (part j puts' ≡ part j puts) × (part j takes' ≡ part j takes)

  apart : (views : List (View X)) (j port : ℕ) (v : View X) → IsSpent views j → get_elem? views port ≡ some v → v.spent ≡ false → j ≢ port
  apart views j port v s at un e = true≢false (sym s.2 ∙ ap (λ (u : View X). u.spent) (some-injective s.0 v (sym s.1 ∙ ap (get_elem? views) e ∙ at)) ∙ un)

  each_set : (puts takes puts' takes' : List (ℕ × X)) (capacity limit : ℕ) (views : List (View X)) (port : ℕ) (w : View X) → Fits puts' takes' capacity limit port w → Same puts takes puts' takes' port → Each puts takes capacity limit views
      → Each puts' takes' capacity limit (set views port w)
  each_set puts takes puts' takes' capacity limit views port w mine same each j u at un = ⊎_elim (λ (x : (j ≡ port) × (w ≡ u)). subst (λ (y : ℕ × View X). Fits puts' takes' capacity limit y.0 y.1) (λ i. (sym x.0 i, x.1 i)) mine)
      (λ (x : (j ≢ port) × (get_elem? views j ≡ some u)). let f = each j u x.1 un in let s = same j x.0 in record { number = f.number; put = f.put ∙ sym s.0; taken = f.taken ∙ sym s.1; capacity = f.capacity; limit = f.limit })
      (at_set views port j w u at)

  module _ (cost : X → ℕ) where
    abbrev Rule : List X → List (View X) → Type 0
    Rule = InOrder cost

    pub begins : InOrder cost [] (root ∷ [])
    begins = record {
      puts = [];
      takes = [];
      old = [];
      first = root;
      capacity = 0;
      limit = 0;
      chain = refl;
      first_is = refl;
      alive = refl;
      made = omega arith;
      returned = λ k h. absurd (omega (arith, h));
      tail = refl;
      last = inl refl;
      each = only;
      beyond = λ k h. (refl, refl);
      within = omega arith;
      costs = omega arith;
    } where
      only : Each [] [] 0 0 (root ∷ [])
      only zero v at un = let e : root ≡ v = some-injective root v at in record {
        number = ap (λ (u : View X). u.number) (sym e);
        put = ap (λ (u : View X). u.put) (sym e);
        taken = ap (λ (u : View X). u.taken) (sym e);
        capacity = ap (λ (u : View X). u.capacity) (sym e);
        limit = ap (λ (u : View X). u.limit) (sym e);
      }
      only (suc j) v at un = absurd (some-ne-none v (sym at))

    -- what the first pass is after a step of the pass at this place
    record First (items : List X) (views : List (View X)) (o : Rule items views) (takes' : List (ℕ × X)) (views' : List (View X)) : Type 0 where
      old : List (ℕ × X)
      first : View X
      first_is : get_elem? views' 0 ≡ some first
      alive : first.spent ≡ false
      made : first.made ≡ length views
      returned : first.returned ≡ o.first.returned
      tail : takes' ≡ old ++ by_first first.taken
      last : (first.taken ≡ []) ⊎ (first.made ≤ suc (length first.returned))

    moved : (items items' : List X) (views : List (View X)) (o : Rule items views) (port : ℕ) (v w : View X) (puts' takes' : List (ℕ × X))
        → get_elem? views port ≡ some v → v.spent ≡ false → Fits puts' takes' o.capacity o.limit port w → Same o.puts o.takes puts' takes' port
        → First items views o takes' (set views port w) → items_of puts' ≡ items_of takes' ++ items'
        → total (λ v. v.items_left) (set views port w) + length puts' ≤ o.capacity → total (λ v. v.cost_left) (set views port w) + total_cost cost (items_of puts') ≤ o.limit → Rule items' (set views port w)
    moved items items' views o port v w puts' takes' at un fits same f chain fit costs = record {
      puts = puts';
      takes = takes';
      old = f.old;
      first = f.first;
      capacity = o.capacity;
      limit = o.limit;
      chain = chain;
      first_is = f.first_is;
      alive = f.alive;
      made = f.made ∙ sym (length-set views port w);
      returned = λ k h. let was = o.returned k (let e = ap (λ (l : List (List X × List X)). length l) f.returned in omega (arith, e, h)) in let ne = apart views (suc k) port v was.0 at un in let s = same (suc k) ne in
          ((was.0.0, set_else views port (suc k) w ne ∙ was.0.1, was.0.2), ap (λ l. slice_index_or l k none) f.returned ∙ was.1 ∙ (λ i. (sym s.0 i, sym s.1 i)));
      tail = f.tail;
      last = f.last;
      each = each_set o.puts o.takes puts' takes' o.capacity o.limit views port w fits same o.each;
      beyond = λ k h. let le : length views ≤ k = let e = length-set views port w in omega (arith, e, h) in let b = o.beyond k le in let below = at_below views port v at in let s = same k (λ e. omega (arith, below, le, e)) in (s.0 ∙ b.0, s.1 ∙ b.1);
      within = fit;
      costs = costs;
    }

    -- a step that leaves what the first pass has taken
    first_stays : (items : List X) (views : List (View X)) (o : Rule items views) (port : ℕ) (v w : View X) → get_elem? views port ≡ some v
        → w.spent ≡ v.spent → w.made ≡ v.made → w.returned ≡ v.returned → w.taken ≡ v.taken → First items views o o.takes (set views port w)
    first_stays items views o zero v w at spent made returned taken = let e : o.first ≡ v = some-injective o.first v (sym o.first_is ∙ at) in record {
      old = o.old;
      first = w;
      first_is = set_here views 0 w (at_below views 0 v at);
      alive = spent ∙ ap (λ (u : View X). u.spent) (sym e) ∙ o.alive;
      made = made ∙ ap (λ (u : View X). u.made) (sym e) ∙ o.made;
      returned = returned ∙ ap (λ (u : View X). u.returned) (sym e);
      tail = o.tail ∙ ap (λ l. o.old ++ by_first l) (ap (λ (u : View X). u.taken) e ∙ sym taken);
      last = ⊎_elim (λ (h : o.first.taken ≡ []). inl (taken ∙ ap (λ (u : View X). u.taken) (sym e) ∙ h))
          (λ (h : o.first.made ≤ suc (length o.first.returned)). inr (let m = made ∙ ap (λ (u : View X). u.made) (sym e) in let k = ap (λ (l : List (List X × List X)). length l) (returned ∙ ap (λ (u : View X). u.returned) (sym e)) in omega (arith, m, k, h))) o.last;
    }
    first_stays items views o (suc p) v w at spent made returned taken = record {
      old = o.old;
      first = o.first;
      first_is = set_else views (suc p) 0 w (λ e. omega (arith, e)) ∙ o.first_is;
      alive = o.alive;
      made = o.made;
      returned = refl;
      tail = o.tail;
      last = o.last;
    }

    pub pushes : (n port : ℕ) (v : View X) (x : X) → v.spent ≡ false → 0 < v.items_left → cost x ≤ v.cost_left → Pushes (InOrder cost) n port v x (λ w. w ≡ after_put cost v x)
    pushes n port v x un items_left cost_left items views _ o at = let w = after_put cost v x in let puts' : List (ℕ × X) = o.puts ++ (port, x) ∷ [] in let f = o.each port v at un in
        let items_is : items_of puts' ≡ items_of o.puts ++ x ∷ [] = map_append (λ e. e.1) o.puts ((port, x) ∷ []) in (
          w,
          moved items (items ++ x ∷ []) views o port v w puts' o.takes at un
              (record { number = f.number; put = ap (λ l. l ++ x ∷ []) f.put ∙ sym (by_mine port o.puts x); taken = f.taken; capacity = f.capacity; limit = f.limit })
              (λ j ne. (by_other j port o.puts x (λ e. ne (sym e)), refl))
              (first_stays items views o port v w at refl refl refl refl)
              (items_is ∙ ap (λ l. l ++ x ∷ []) o.chain ∙ append_assoc (items_of o.takes) items (x ∷ []))
              (let t = total_set (λ u. u.items_left) views port v w at in let l = length-append o.puts ((port, x) ∷ []) in let r = o.within in omega (arith, t, l, r, items_left))
              (let t = total_set (λ u. u.cost_left) views port v w at in let l = ap (total_cost cost) items_is ∙ cost_append cost (items_of o.puts) (x ∷ []) in let q = o.costs in omega (arith, t, l, q, cost_left)),
          refl,
        )

    -- what the first pass is when another takes: it has taken nothing, since it takes only once all others have come
    -- back
    first_else : (items : List X) (views : List (View X)) (o : Rule items views) (port : ℕ) (v w : View X) (takes' : List (ℕ × X)) → get_elem? views port ≡ some v → v.spent ≡ false → port ≢ 0 → First items views o takes' (set views port w)
    first_else items views o zero v w takes' at un ne = absurd (ne refl)
    first_else items views o (suc p) v w takes' at un ne = let nothing : o.first.taken ≡ [] = ⊎_elim (λ (h : o.first.taken ≡ []). h)
        (λ (h : o.first.made ≤ suc (length o.first.returned)). let below = at_below views (suc p) v at in let m = o.made in absurd (apart views (suc p) (suc p) v (o.returned p (omega (arith, h, below, m))).0 at un refl)) o.last in record {
          old = takes';
          first = o.first;
          first_is = set_else views (suc p) 0 w (λ e. omega (arith, e)) ∙ o.first_is;
          alive = o.alive;
          made = o.made;
          returned = refl;
          tail = sym (append-nil takes') ∙ ap (λ l. takes' ++ by_first l) (sym nothing);
          last = inl nothing;
        }

    took : (x : X) (items : List X) (views : List (View X)) (o : Rule (x ∷ items) views) (port : ℕ) (v : View X) → get_elem? views port ≡ some v → v.spent ≡ false
        → First (x ∷ items) views o (o.takes ++ (port, x) ∷ []) (set views port (after_take v x)) → Rule items (set views port (after_take v x))
    took x items views o port v at un first = let w = after_take v x in let takes' : List (ℕ × X) = o.takes ++ (port, x) ∷ [] in let f = o.each port v at un in
        moved (x ∷ items) items views o port v w o.puts takes' at un
        (record { number = f.number; put = f.put; taken = ap (λ l. l ++ x ∷ []) f.taken ∙ sym (by_mine port o.takes x); capacity = f.capacity; limit = f.limit })
        (λ j ne. (refl, by_other j port o.takes x (λ e. ne (sym e))))
        first
        (o.chain ∙ sym (append_assoc (items_of o.takes) (x ∷ []) items) ∙ ap (λ l. l ++ items) (sym (map_append (λ e. e.1) o.takes ((port, x) ∷ []))))
        (let t = total_set (λ u. u.items_left) views port v w at in let r = o.within in omega (arith, t, r))
        (let t = total_set (λ u. u.cost_left) views port v w at in let q = o.costs in omega (arith, t, q))

    pub takes : (port : ℕ) (v : View X) → v.spent ≡ false → v.number ≢ 0 → Pops (InOrder cost) port v (λ x w. (w ≡ after_take v x) × (total_cost cost w.taken ≤ v.limit))
    takes port v un other x items views o at = let w = after_take v x in let f = o.each port v at un in let ne : port ≢ 0 = λ e. other (f.number ∙ e) in
        let r : Rule items (set views port w) = took x items views o port v at un (first_else (x ∷ items) views o port v w (o.takes ++ (port, x) ∷ []) at un ne) in (
          w,
          r,
          (refl, let g = r.each port w (set_here views port w (at_below views port v at)) un in let a = cost_by cost port r.takes in let b = ap (total_cost cost) r.chain ∙ cost_append cost (items_of r.takes) items in let q = r.costs in let m = ap (total_cost cost) g.taken in let l = g.limit in omega (arith, a, b, q, m, l)),
        )

    pub pops : (port : ℕ) (v : View X) → v.spent ≡ false → v.number ≢ 0 → Pops (InOrder cost) port v (λ x w. w ≡ after_take v x)
    pops port v un other x items views o at = let r = takes port v un other x items views o at in (r.0, r.1, r.2.0)

    -- the first pass takes once all others have come back
    first_takes : (x : X) (items : List X) (views : List (View X)) (o : Rule items views) (v : View X) → get_elem? views 0 ≡ some v → v.made ≤ suc (length v.returned)
        → First items views o (o.takes ++ (0, x) ∷ []) (set views 0 (after_take v x))
    first_takes x items views o v at all = let w = after_take v x in let e : o.first ≡ v = some-injective o.first v (sym o.first_is ∙ at) in record {
      old = o.old;
      first = w;
      first_is = set_here views 0 w (at_below views 0 v at);
      alive = ap (λ (u : View X). u.spent) (sym e) ∙ o.alive;
      made = ap (λ (u : View X). u.made) (sym e) ∙ o.made;
      returned = ap (λ (u : View X). u.returned) (sym e);
      tail = ap (λ l. l ++ (0, x) ∷ []) (o.tail ∙ ap (λ (u : View X). o.old ++ by_first u.taken) e) ∙ append_assoc o.old (by_first v.taken) ((0, x) ∷ []) ∙ ap (λ l. o.old ++ l) (sym (map_append (λ (y : X). (0, y)) v.taken (x ∷ [])));
      last = inr all;
    }

    abbrev one : X → ℕ
    one x = 1

    weigh_one : (xs : List X) → total_cost one xs ≡ length xs
    weigh_one [] = refl
    weigh_one (x ∷ xs) = let h = weigh_one xs in omega (arith, h)

    pub drains : (port : ℕ) (v : View X) → v.spent ≡ false → v.number ≡ 0 → v.made ≤ suc (length v.returned) → Pops (InOrder cost) port v (λ x w. (w ≡ after_take v x) × (length w.taken ≤ v.capacity))
    drains port v un zeroth all x items views o at = let f = o.each port v at un in let here : port ≡ 0 = sym f.number ∙ zeroth in let w = after_take v x in
        let r : Rule items (set views port w) = subst (λ p. Rule items (set views p w)) (sym here) (let at0 : get_elem? views 0 ≡ some v = ap (get_elem? views) (sym here) ∙ at in took x items views o 0 v at0 un (first_takes x (x ∷ items) views o v at0 all)) in (
          w,
          r,
          (
            refl,
            let g = r.each port w (set_here views port w (at_below views port v at)) un in let a = cost_by one port r.takes in let b = ap (λ (l : List X). length l) r.chain ∙ length-append (items_of r.takes) items in let q = r.within in
                let m = ap (λ (l : List X). length l) g.taken in let c = weigh_one (part port r.takes) in let d = weigh_one (items_of r.takes) in let k : length (items_of r.puts) ≡ length r.puts = length-map r.puts (λ (e : ℕ × X). e.1) in let l = g.capacity in omega (arith, a, b, q, m, c, d, k, l),
          ),
        )

    -- a split, of which the pass keeps and gives away what it may put
    splits_first : (capacity limit : ℕ) (v left right : View X) → v.spent ≡ false → v.taken ≡ [] → left.spent ≡ v.spent → left.taken ≡ v.taken → left.made ≡ v.made + 1 → left.returned ≡ v.returned
        → right.number ≡ v.made → right.put ≡ [] → right.taken ≡ [] → right.capacity ≡ capacity → right.limit ≡ limit
        → (items : List X) (views : List (View X)) (o : Rule items views) → get_elem? views 0 ≡ some v → Each o.puts o.takes capacity limit (set views 0 left)
        → total (λ v. v.items_left) (set views 0 left) + right.items_left + length o.puts ≤ capacity → total (λ v. v.cost_left) (set views 0 left) + right.cost_left + total_cost cost (items_of o.puts) ≤ limit
        → Rule items (set views 0 left ++ right ∷ [])
    splits_first capacity limit v left right un nothing spent taken made returned number put took cap lim items views o at stay fit costs = let vs : List (View X) = set views 0 left in
        let e : o.first ≡ v = some-injective o.first v (sym o.first_is ∙ at) in let below = at_below views 0 v at in let count = ap (λ (u : View X). u.made) (sym e) ∙ o.made in
        let long : length (vs ++ right ∷ []) ≡ length views + 1 = length-append vs (right ∷ []) ∙ ap (λ n. n + 1) (length-set views 0 left) in
        let b = o.beyond (length views) (omega arith) in record {
          puts = o.puts;
          takes = o.takes;
          old = o.old;
          first = left;
          capacity = capacity;
          limit = limit;
          chain = o.chain;
          first_is = at_longer vs (right ∷ []) 0 left (set_here views 0 left below);
          alive = spent ∙ un;
          made = omega (arith, count, long, made);
          returned = λ k h. let was = o.returned k (let l = ap (λ (u : View X). length u.returned) e in let m = ap (λ (l : List (List X × List X)). length l) returned in omega (arith, l, m, h)) in
              ((was.0.0, at_longer vs (right ∷ []) (suc k) was.0.0 (set_else views 0 (suc k) left (λ x. omega (arith, x)) ∙ was.0.1), was.0.2), ap (λ l. slice_index_or l k none) returned ∙ ap (λ (u : View X). slice_index_or u.returned k none) (sym e) ∙ was.1);
          tail = o.tail ∙ ap (λ (u : View X). o.old ++ by_first u.taken) e ∙ ap (λ l. o.old ++ by_first l) (sym taken);
          last = inl (taken ∙ nothing);
          each = λ j u there alive. ⊎_elim (λ (x : get_elem? vs j ≡ some u). stay j u x alive)
              (λ (x : (right ≡ u) × (j ≡ length vs)). let place : j ≡ length views = x.1 ∙ length-set views 0 left in
              subst (λ (y : ℕ × View X). Fits o.puts o.takes capacity limit y.0 y.1) (λ i. (sym place i, x.0 i)) (record { number = number ∙ count; put = put ∙ sym b.0; taken = took ∙ sym b.1; capacity = cap; limit = lim }))
              (at_end vs right u j there);
          beyond = λ k h. o.beyond k (omega (arith, h, long));
          within = let s = total_snoc (λ u. u.items_left) vs right in omega (arith, s, fit);
          costs = let s = total_snoc (λ u. u.cost_left) vs right in omega (arith, s, costs);
        }

    -- the first split, which sets the bounds
    opens : (capacity limit share : ℕ) (v : View X) → v ≡ root → share ≤ capacity → (items : List X) (views : List (View X)) → Rule items views → get_elem? views 0 ≡ some v
        → Rule items (set views 0 (after_split capacity limit share root) ++ split_off capacity limit share root ∷ [])
    opens capacity limit share v is small items views o at = let left : View X = after_split capacity limit share root in let right : View X = split_off capacity limit share root in
        let e : o.first ≡ v = some-injective o.first v (sym o.first_is ∙ at) in let alone : length views ≡ 1 = sym o.made ∙ ap (λ (u : View X). u.made) (e ∙ is) in
        let f = o.each 0 v at (ap (λ (u : View X). u.spent) is) in
        let none_put : o.puts ≡ [] = nothing_in o.puts (in_none o.puts (λ k. (o.beyond (suc k) (omega (arith, alone))).0) (sym f.put ∙ ap (λ (u : View X). u.put) is)) in
        let number = sym f.number in
        splits_first capacity limit v left right (ap (λ (u : View X). u.spent) is) (ap (λ (u : View X). u.taken) is) (ap (λ (u : View X). u.spent) (sym is)) (ap (λ (u : View X). u.taken) (sym is)) (let m = ap (λ (u : View X). u.made) is in omega (arith, m)) (ap (λ (u : View X). u.returned) (sym is))
        (ap (λ (u : View X). u.made) (sym is)) refl refl refl refl items views o at
        (λ j u there un. ⊎_elim (λ (x : (j ≡ 0) × (left ≡ u)). subst (λ (y : ℕ × View X). Fits o.puts o.takes capacity limit y.0 y.1) (λ i. (sym x.0 i, x.1 i))
        (record { number = refl; put = ap (λ (u : View X). u.put) (sym is) ∙ f.put; taken = ap (λ (u : View X). u.taken) (sym is) ∙ f.taken; capacity = refl; limit = refl }))
        (λ (x : (j ≢ 0) × (get_elem? views j ≡ some u)). let below = at_below views j u x.1 in absurd (x.0 (omega (arith, below, alone)))) (at_set views 0 j left u there))
        (let t = total_set (λ u. u.items_left) views 0 v left at in let w = total_one (λ u. u.items_left) views v at alone in let l = ap (λ (l : List (ℕ × X)). length l) none_put in omega (arith, t, w, l, small))
        (let t = total_set (λ u. u.cost_left) views 0 v left at in let w = total_one (λ u. u.cost_left) views v at alone in let l = ap (λ (l : List (ℕ × X)). total_cost cost (items_of l)) none_put in omega (arith, t, w, l))

    -- a later split
    shares : (capacity limit share : ℕ) (v : View X) → v.spent ≡ false → v.taken ≡ [] → v.capacity ≡ capacity → v.limit ≡ limit → share ≤ v.items_left → (items : List X) (views : List (View X)) → Rule items views → get_elem? views 0 ≡ some v
        → Rule items (set views 0 (new_view v.number (v.made + 1) v.spent capacity limit (v.items_left - share) v.cost_left v.put v.taken v.returned) ++ split_off capacity limit share v ∷ [])
    shares capacity limit share v un nothing cap lim small items views o at = let left : View X = new_view v.number (v.made + 1) v.spent capacity limit (v.items_left - share) v.cost_left v.put v.taken v.returned in let right : View X = split_off capacity limit share v in
        let f = o.each 0 v at un in let c : o.capacity ≡ capacity = sym f.capacity ∙ cap in let l : o.limit ≡ limit = sym f.limit ∙ lim in
        splits_first capacity limit v left right un nothing refl refl refl refl refl refl refl refl refl items views o at
        (each_set o.puts o.takes o.puts o.takes capacity limit views 0 left (record { number = f.number; put = f.put; taken = f.taken; capacity = refl; limit = refl }) (λ j ne. (refl, refl))
        (subst (λ (y : ℕ × ℕ). Each o.puts o.takes y.0 y.1 views) (λ i. (c i, l i)) o.each))
        (let t = total_set (λ u. u.items_left) views 0 v left at in let r = o.within in omega (arith, t, r, c, small))
        (let t = total_set (λ u. u.cost_left) views 0 v left at in let q = o.costs in omega (arith, t, q, l))

    at_first : (port : ℕ) (v left right : View X) → v.spent ≡ false → v.number ≡ 0 → ((items : List X) (views : List (View X)) → Rule items views → get_elem? views 0 ≡ some v → Rule items (set views 0 left ++ right ∷ []))
        → Forks (InOrder cost) port v left right
    at_first port v left right un zeroth step items views o at = let f = o.each port v at un in let here : port ≡ 0 = sym f.number ∙ zeroth in
        subst (λ p. Rule items (set views p left ++ right ∷ [])) (sym here) (step items views o (ap (get_elem? views) (sym here) ∙ at))

    pub forks_root : (capacity limit share port : ℕ) → share ≤ capacity → Forks (InOrder cost) port root (after_split capacity limit share root) (split_off capacity limit share root)
    forks_root capacity limit share port small = at_first port root (after_split capacity limit share root) (split_off capacity limit share root) refl refl (opens capacity limit share root refl small)

    pub forks : (capacity limit share port : ℕ) (v : View X) → v.spent ≡ false → v.number ≡ 0 → v.taken ≡ [] → v.capacity ≡ capacity → v.limit ≡ limit → share ≤ v.items_left → false ≡ (v.made == 1)
        → Forks (InOrder cost) port v (after_split capacity limit share v) (split_off capacity limit share v)
    forks capacity limit share port v un zeroth nothing cap lim small more = at_first port v (after_split capacity limit share v) (split_off capacity limit share v) un zeroth
        (λ items views o at. subst (λ (w : View X). Rule items (set views 0 w ++ split_off capacity limit share v ∷ []))
        (ap (λ b. new_view v.number (v.made + 1) v.spent capacity limit ((if b then capacity else v.items_left) - share) (if b then limit else v.cost_left) v.put v.taken v.returned) more)
        (shares capacity limit share v un nothing cap lim small items views o at))

    merges_first : (v : View X) (other : ℕ) (u : View X) → v.spent ≡ false → u.spent ≡ false → other ≡ suc (length v.returned) → (items : List X) (views : List (View X)) → Rule items views → get_elem? views 0 ≡ some v
        → get_elem? views other ≡ some u → Rule items (set (set views 0 (after_join v u)) other spent_view)
    merges_first v other u un alive next items views o at was = let both : View X = after_join v u in let vs : List (View X) = set views 0 both in
        let e : o.first ≡ v = some-injective o.first v (sym o.first_is ∙ at) in let below = at_below views 0 v at in let count = ap (λ (u : View X). u.made) (sym e) ∙ o.made in
        let f = o.each 0 v at un in let g = o.each other u was alive in
        let apart0 : other ≢ 0 = λ x. omega (arith, x, next) in
        let there : get_elem? vs other ≡ some u = set_else views 0 other both apart0 ∙ was in
        let stay : Each o.puts o.takes o.capacity o.limit vs = each_set o.puts o.takes o.puts o.takes o.capacity o.limit views 0 both (record { number = f.number; put = f.put; taken = f.taken; capacity = f.capacity; limit = f.limit }) (λ j ne. (refl, refl)) o.each in
        let now : List (View X) = set vs other spent_view in
        let keeps : (j : ℕ) → j ≢ 0 → IsSpent views j → IsSpent now j = λ j ne s. (s.0, set_else vs other j spent_view (apart views j other u s was alive) ∙ set_else views 0 j both ne ∙ s.1, s.2) in record {
          puts = o.puts;
          takes = o.takes;
          old = o.old;
          first = both;
          capacity = o.capacity;
          limit = o.limit;
          chain = o.chain;
          first_is = set_else vs other 0 spent_view (λ x. apart0 (sym x)) ∙ set_here views 0 both below;
          alive = un;
          made = count ∙ sym (length-set views 0 both) ∙ sym (length-set vs other spent_view);
          returned = λ k h. ⊎_elim
              (λ (x : (k < length v.returned) × (slice_index_or (v.returned ++ (u.put, u.taken) ∷ []) k none ≡ slice_index_or v.returned k none)). let lt = x.0 in
              let old = o.returned k (let l = ap (λ (y : View X). length y.returned) e in omega (arith, l, lt)) in
              (keeps (suc k) (λ y. omega (arith, y)) old.0, x.1 ∙ ap (λ (y : View X). slice_index_or y.returned k none) (sym e) ∙ old.1))
              (λ (x : (k ≡ length v.returned) × (slice_index_or (v.returned ++ (u.put, u.taken) ∷ []) k none ≡ (u.put, u.taken))). let place : other ≡ suc k = next ∙ ap suc (sym x.0) in
              ((spent_view, ap (get_elem? now) (sym place) ∙ set_here vs other spent_view (at_below vs other u there), refl), x.1 ∙ (λ i. (g.put i, g.taken i)) ∙ ap (λ n. (part n o.puts, part n o.takes)) place))
              (index_end v.returned (u.put, u.taken) none k h);
          tail = o.tail ∙ ap (λ (u : View X). o.old ++ by_first u.taken) e;
          last = ⊎_elim (λ (h : o.first.taken ≡ []). inl (ap (λ (u : View X). u.taken) (sym e) ∙ h))
              (λ (h : o.first.made ≤ suc (length o.first.returned)). inr (let m = ap (λ (u : View X). u.made) e in let k = ap (λ (u : View X). length u.returned) e in let l = length-append v.returned ((u.put, u.taken) ∷ []) in omega (arith, m, k, h, l))) o.last;
          each = λ j w here lives. ⊎_elim (λ (x : (j ≡ other) × (spent_view ≡ w)). absurd (true≢false (ap (λ (y : View X). y.spent) x.1 ∙ lives))) (λ (x : (j ≢ other) × (get_elem? vs j ≡ some w)). stay j w x.1 lives) (at_set vs other j spent_view w here);
          beyond = λ k h. o.beyond k (let a = length-set views 0 both in let b = length-set vs other spent_view in omega (arith, h, a, b));
          within = let t = total_set (λ u. u.items_left) views 0 v both at in let s = total_set (λ u. u.items_left) vs other u spent_view there in let r = o.within in omega (arith, t, s, r);
          costs = let t = total_set (λ u. u.cost_left) views 0 v both at in let s = total_set (λ u. u.cost_left) vs other u spent_view there in let q = o.costs in omega (arith, t, s, q);
        }

    pub merges : (port : ℕ) (v : View X) (other : ℕ) (u : View X) → v.spent ≡ false → v.number ≡ 0 → u.spent ≡ false → u.number ≡ suc (length v.returned) → Merges (InOrder cost) port v other u (after_join v u) spent_view
    merges port v other u un zeroth alive next items views o at apart at' = let both : View X = after_join v u in
        let was : get_elem? views other ≡ some u = ⊎_elim (λ (x : (other ≡ port) × (both ≡ u)). absurd (apart x.0)) (λ (x : (other ≢ port) × (get_elem? views other ≡ some u)). x.1) (at_set views port other both u at') in
        let f = o.each port v at un in let g = o.each other u was alive in let here : port ≡ 0 = sym f.number ∙ zeroth in
        subst (λ p. Rule items (set (set views p both) other spent_view)) (sym here) (merges_first v other u un alive (sym g.number ∙ next) items views o (ap (get_elem? views) (sym here) ∙ at) was)

    -- what the queue holds fits, with what this pass may still put
    pub fits : (port : ℕ) (v : View X) → v.spent ≡ false → Learns (InOrder cost) port v (λ items. length items + v.items_left ≤ v.capacity)
    fits port v un items views o at = let g = (o.each port v at un).capacity in let t = total_at (λ u. u.items_left) views port v at in let r = o.within in let c = ap (λ (l : List X). length l) o.chain ∙ length-append (items_of o.takes) items in
        let m : length (items_of o.puts) ≡ length o.puts = length-map o.puts (λ (e : ℕ × X). e.1) in omega (arith, t, r, c, m, g)

    pub tells : (port : ℕ) (v : View X) → v.spent ≡ false → Learns (InOrder cost) port v (IsPartOf v)
    tells port v un items views o at = let f = o.each port v at un in (o.puts, o.takes, o.chain, ap (λ n. part n o.puts) f.number ∙ sym f.put, ap (λ n. part n o.takes) f.number ∙ sym f.taken)

    told_by : (items : List X) (views : List (View X)) (o : Rule items views) (v : View X) → get_elem? views 0 ≡ some v → v.spent ≡ false → v.made ≤ suc (length v.returned)
        → (k : ℕ) → slice_index_or ((v.put, []) ∷ v.returned) k none ≡ (part k o.puts, part k o.old)
    told_by items views o v at un all zero = let f = o.each 0 v at un in let e : o.first ≡ v = some-injective o.first v (sym o.first_is ∙ at) in
        let cut : part 0 o.takes ≡ part 0 o.old ++ v.taken = ap (part 0) o.tail ∙ by_append 0 o.old (by_first o.first.taken) ∙ ap (λ l. part 0 o.old ++ l) (by_first_mine o.first.taken ∙ ap (λ (u : View X). u.taken) e) in
        let nothing : part 0 o.old ≡ [] = none_before v.taken (part 0 o.old) (f.taken ∙ cut) in (λ i. (f.put i, sym nothing i))
    told_by items views o v at un all (suc k) = let e : o.first ≡ v = some-injective o.first v (sym o.first_is ∙ at) in
        let old : part (suc k) o.takes ≡ part (suc k) o.old = ap (part (suc k)) o.tail ∙ by_append (suc k) o.old (by_first o.first.taken) ∙ ap (λ l. part (suc k) o.old ++ l) (by_first_other k o.first.taken) ∙ append-nil (part (suc k) o.old) in
        ⊎_elim (λ (h : k < length v.returned). ap (λ (u : View X). slice_index_or u.returned k none) (sym e) ∙ (o.returned k (let l = ap (λ (u : View X). length u.returned) e in omega (arith, l, h))).1 ∙ ap (λ l. (part (suc k) o.puts, l)) old)
        (λ (h : length v.returned ≤ k). let m = ap (λ (u : View X). u.made) (sym e) ∙ o.made in let b = o.beyond (suc k) (omega (arith, m, all, h)) in index_out v.returned none k h ∙ (λ i. (sym b.0 i, (sym b.1 ∙ old) i)))
        (cases_lt k (length v.returned))

    pub stories : (port : ℕ) (v : View X) → v.spent ≡ false → v.number ≡ 0 → v.made ≤ suc (length v.returned) → Learns (InOrder cost) port v (λ items. History ((v.put, []) ∷ v.returned) (v.taken ++ items))
    stories port v un zeroth all items views o at = let f = o.each port v at un in let here : port ≡ 0 = sym f.number ∙ zeroth in let at0 : get_elem? views 0 ≡ some v = ap (get_elem? views) (sym here) ∙ at in
        let e : o.first ≡ v = some-injective o.first v (sym o.first_is ∙ at0) in (
          o.puts,
          o.old,
          o.chain ∙ ap (λ l. items_of l ++ items) (o.tail ∙ ap (λ (u : View X). o.old ++ by_first u.taken) e) ∙ ap (λ l. l ++ items) (map_append (λ e. e.1) o.old (by_first v.taken) ∙ ap (λ l. items_of o.old ++ l) (items_first v.taken)) ∙ append_assoc (items_of o.old) v.taken items,
          told_by items views o v at0 un all,
        )
