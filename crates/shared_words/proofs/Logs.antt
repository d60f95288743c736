-- Logs that grow.
use Rattle.std.proofs.Common.{◌≡◌, ⊎_elim, ℕ, ◌+◌, ◌<◌, ◌≤◌, List, [], ◌∷◌, ◌++◌, get_or, set, length, ap, arith, ◌∙◌, length-append, length-set, get_or-set_same}
use Rattle.std.specs.Prelude.{All}
use Rattle.std.proofs.lemmas.Bool.{cases_lt}
use Rattle.std.proofs.lemmas.List.{get_or-set_other}
use Rattle.std.proofs.lemmas.List.Elements.{All-append, All-cons, All-nil}
use Rattle.std.proofs.Math.Seq.{get_or-append_seam}
use Rattle.std.proofs.Math.ListN.{get_or-append}
use Rattle.sync_hints.specs.declared.hints.Sc.{Sc}
use Rattle.shared_words.specs.Logged.{AreBelow, AreInOrder, IsLog, IsNextTicket}

all_first : (ts : List ℕ) (t n : ℕ) → All (λ k. k < n) (ts ++ t ∷ []) → All (λ k. k < n) ts
all_first ts t n h k d lt = let e = get_or-append ts (t ∷ []) d k lt in let b = h k d (omega (arith, length-append ts (t ∷ []))) in omega (arith, e, b)

last_of : (ts : List ℕ) (t n : ℕ) → All (λ k. k < n) (ts ++ t ∷ []) → t < n
last_of ts t n h = let b = h (length ts) 0 (omega (arith, length-append ts (t ∷ []))) in let e = get_or-append_seam ts t [] 0 in omega (arith, e, b)

pub log_none : (ts : List ℕ) → IsLog ts []
log_none ts = record { in_order = λ i j d le lt. absurd (omega arith); bounded = λ n h. All-nil (λ (e : ℕ × Sc). e.0 < n) }

pub log_ticket : (ts : List ℕ) (t : ℕ) (es : List (ℕ × Sc)) → IsLog ts es → IsLog (ts ++ t ∷ []) es
log_ticket ts t es log = record { in_order = log.in_order; bounded = λ n h. log.bounded n (all_first ts t n h) }

pub next_ticket : (ts : List ℕ) (t : ℕ) (es : List (ℕ × Sc)) → IsLog ts es → All (λ k. k < t) ts → IsNextTicket t (ts ++ t ∷ []) es
next_ticket ts t es log above = record { above = log.bounded t above; taken = λ n h. last_of ts t n h }

in_order_more : (es : List (ℕ × Sc)) (e : ℕ × Sc) → AreInOrder es → AreBelow (e.0 + 1) es → AreInOrder (es ++ e ∷ [])
in_order_more es e up below i j d le lt =
    let long = length-append es (e ∷ []) in
    let first : (k : ℕ) → k < length es → (get_or (es ++ e ∷ []) k d).0 ≡ (get_or es k d).0 = λ k inside. ap (λ (x : ℕ × Sc). x.0) (get_or-append es (e ∷ []) d k inside) in
    let last : (k : ℕ) → k ≡ length es → (get_or (es ++ e ∷ []) k d).0 ≡ e.0 = λ k is. ap (λ (m : ℕ). (get_or (es ++ e ∷ []) m d).0) is ∙ ap (λ (x : ℕ × Sc). x.0) (get_or-append_seam es e [] d) in
    ⊎_elim
    (λ (low : j < length es). omega (arith, first i (omega arith), first j low, up i j d le low))
    (λ (high : length es ≤ j). ⊎_elim
    (λ (before : i < length es). omega (arith, first i before, last j (omega arith), below i d before))
    (λ (at : length es ≤ i). omega (arith, last i (omega arith), last j (omega arith)))
    (cases_lt i (length es)))
    (cases_lt j (length es))

below_more : (es : List (ℕ × Sc)) (e : ℕ × Sc) (n : ℕ) → AreBelow n es → e.0 < n → AreBelow n (es ++ e ∷ [])
below_more es e n below lt = All-append (λ (x : ℕ × Sc). x.0 < n) es (e ∷ []) below (All-cons (λ (x : ℕ × Sc). x.0 < n) e [] lt (All-nil (λ (x : ℕ × Sc). x.0 < n)))

pub log_more : (ts : List ℕ) (es : List (ℕ × Sc)) (t : ℕ) (sc : Sc) → IsLog ts es → IsNextTicket t ts es → IsLog ts (es ++ (t, sc) ∷ [])
log_more ts es t sc log next = record {
  in_order = in_order_more es (t, sc) log.in_order (λ k d lt. (let b = next.above k d lt in omega arith));
  bounded = λ n h. below_more es (t, sc) n (log.bounded n h) (next.taken n h);
}

-- an entry more, after others may have got its ticket
pub log_won : (ts : List ℕ) (es moved : List (ℕ × Sc)) (t : ℕ) (sc : Sc) → IsLog ts es → IsNextTicket t ts es → AreInOrder moved
    → ((n : ℕ) → AreBelow n es → t < n → AreBelow n moved) → IsLog ts (moved ++ (t, sc) ∷ [])
log_won ts es moved t sc log next up below = record {
  in_order = in_order_more moved (t, sc) up (below (t + 1) (λ k d lt. (let b = next.above k d lt in omega arith)) (omega arith));
  bounded = λ n h. below_more moved (t, sc) n (below n (log.bounded n h) (next.taken n h)) (next.taken n h);
}

-- the last entry with a greater ticket
pub moved_in_order : (es : List (ℕ × Sc)) (k : ℕ) (e : ℕ × Sc) → k + 1 ≡ length es → AreInOrder es → AreBelow e.0 es → AreInOrder (set es k e)
moved_in_order es k e last up below i j d le lt =
    let long = length-set es k e in
    let other : (m : ℕ) → m < k → (get_or (set es k e) m d).0 ≡ (get_or es m d).0 = λ m before. ap (λ (x : ℕ × Sc). x.0) (get_or-set_other es k m e d (λ same. omega arith)) in
    let here : (m : ℕ) → m ≡ k → (get_or (set es k e) m d).0 ≡ e.0 = λ m is. ap (λ (n : ℕ). (get_or (set es k e) n d).0) is ∙ ap (λ (x : ℕ × Sc). x.0) (get_or-set_same es k e d (omega arith)) in
    ⊎_elim
    (λ (low : j < k). omega (arith, other i (omega arith), other j low, up i j d le (omega arith)))
    (λ (high : k ≤ j). ⊎_elim
    (λ (before : i < k). omega (arith, other i before, here j (omega arith), below i d (omega arith)))
    (λ (at : k ≤ i). omega (arith, here i (omega arith), here j (omega arith)))
    (cases_lt i k))
    (cases_lt j k)

pub moved_below : (es : List (ℕ × Sc)) (k : ℕ) (e : ℕ × Sc) (n : ℕ) → k + 1 ≡ length es → AreBelow n es → e.0 < n → AreBelow n (set es k e)
moved_below es k e n last below small m d lt =
    let long = length-set es k e in
    ⊎_elim
    (λ (before : m < k). omega (arith, ap (λ (x : ℕ × Sc). x.0) (get_or-set_other es k m e d (λ same. omega arith)), below m d (omega arith)))
    (λ (at : k ≤ m). (let is : m ≡ k = omega arith in omega (arith, ap (λ (i : ℕ). (get_or (set es k e) i d).0) is, ap (λ (x : ℕ × Sc). x.0) (get_or-set_same es k e d (omega arith)))))
    (cases_lt m k)
