-- So many of a kind, taken one after another.
use Rattle.std.proofs.Common.{◌≡◌, ℕ, zero, suc, ◌+◌, ◌*◌, ◌<◌, ◌≤◌, List, [], ◌∷◌, ◌++◌, Option, Some, None, refl, ap, subst, arith}
use Rattle.std.proofs.Math.Numerals.{add-one}
use Rattle.std.proofs.lemmas.List.Sums.{sum_by_push}
use Rattle.std.proofs.lemmas.Option.{same_Some}
use Rattle.dp_base.specs.declared.answer.Answer.{Answer}
use Rattle.dp_base.specs.declared.slice.Slice.{Slice}
use Rattle.dp_base.specs.Field.{◌>>=◌}
use Rattle.dp_base.specs.Journal.{answer_at, many_at, slice_at, steps_of}
use Rattle.dp_base.proofs.Fields.{bind_some, bind_at}

abbrev others_at : {X : Type 0} → (List ℕ → Option (X × List ℕ)) → ℕ → X × List ℕ → Option (List X × List ℕ)
others_at item n first = many_at item n first.1 >>= λ others. Some (first.0 ∷ others.0, others.1)

abbrev behind_first : {X : Type 0} → X → List X × List ℕ → Option (List X × List ℕ)
behind_first first others = Some (first ∷ others.0, others.1)

pub many_none : {X : Type 0} (item : List ℕ → Option (X × List ℕ)) (bytes : List ℕ) → many_at item 0 bytes ≡ Some ([], bytes)
unfolding many_at
many_none item bytes = refl

-- one more, after those that were taken
pub many_more : {X : Type 0} (item : List ℕ → Option (X × List ℕ)) (i : ℕ) (bytes : List ℕ) (taken : List X × List ℕ) (next : X × List ℕ)
    → many_at item i bytes ≡ Some taken → item taken.1 ≡ Some next → many_at item (suc i) bytes ≡ Some (taken.0 ++ next.0 ∷ [], next.1)
unfolding many_at
many_more {X} item zero bytes taken next so_far next-is =
    subst (λ (t : List X × List ℕ). item t.1 ≡ Some next → many_at item 1 bytes ≡ Some (t.0 ++ next.0 ∷ [], next.1)) (same_Some _ _ so_far)
    (λ e. bind_at (item bytes) (others_at item 0) next (Some (next.0 ∷ [], next.1)) e refl) next-is
many_more {X} item (suc i) bytes taken next so_far next-is =
    let a = bind_some (item bytes) (others_at item i) taken so_far in
    let b = bind_some (many_at item i a.0.1) (behind_first a.0.0) taken a.2 in
    let longer : List X × List ℕ = (b.0.0 ++ next.0 ∷ [], next.1) in
    let all : List X × List ℕ = (a.0.0 ∷ (b.0.0 ++ next.0 ∷ []), next.1) in
    subst (λ (t : List X × List ℕ). item t.1 ≡ Some next → many_at item (suc (suc i)) bytes ≡ Some (t.0 ++ next.0 ∷ [], next.1)) (same_Some _ _ b.2)
    (λ e. bind_at (item bytes) (others_at item (suc i)) a.0 (Some all) a.1
    (bind_at (many_at item (suc i) a.0.1) (behind_first a.0.0) longer (Some all) (many_more item i a.0.1 b.0 next b.1 e) refl)) next-is

-- where the next one isn't there, there are not so many
pub none_further : {X : Type 0} (item : List ℕ → Option (X × List ℕ)) (i n : ℕ) (bytes : List ℕ) (taken : List X × List ℕ)
    → i < n → many_at item i bytes ≡ Some taken → item taken.1 ≡ None → many_at item n bytes ≡ None
unfolding many_at
none_further item zero zero bytes taken lt so_far none = absurd (omega arith)
none_further {X} item zero (suc n) bytes taken lt so_far none =
    subst (λ (t : List X × List ℕ). item t.1 ≡ None → many_at item (suc n) bytes ≡ None) (same_Some _ _ so_far)
    (λ e. ap (λ (o : Option (X × List ℕ)). o >>= others_at item n) e) none
none_further item (suc i) zero bytes taken lt so_far none = absurd (omega arith)
none_further {X} item (suc i) (suc n) bytes taken lt so_far none =
    let a = bind_some (item bytes) (others_at item i) taken so_far in
    let b = bind_some (many_at item i a.0.1) (behind_first a.0.0) taken a.2 in
    subst (λ (t : List X × List ℕ). item t.1 ≡ None → many_at item (suc n) bytes ≡ None) (same_Some _ _ b.2)
    (λ e. bind_at (item bytes) (others_at item n) a.0 None a.1
    (ap (λ (o : Option (List X × List ℕ)). o >>= behind_first a.0.0) (none_further item i n a.0.1 b.0 (omega arith) b.1 e))) none

-- ---- as a reader goes on

-- so many answers are at the start, and these bytes are after them
pub record AnswersSoFar (i : ℕ) (bytes rest : List ℕ) : Type 0 where
  pub taken : List Answer
  pub are : many_at answer_at i bytes ≡ Some (taken, rest)

-- so many slices are at the start, with these steps together, and these bytes are after them
pub record SlicesSoFar (i : ℕ) (bytes : List ℕ) (steps : ℕ) (rest : List ℕ) : Type 0 where
  pub taken : List Slice
  pub are : many_at slice_at i bytes ≡ Some (taken, rest)
  pub counted : steps ≡ steps_of taken
  pub few : steps ≤ 4294967295 * i

pub no_answer : (bytes : List ℕ) → AnswersSoFar 0 bytes bytes
no_answer bytes = record { taken = []; are = many_none answer_at bytes }

pub answer_more : (i : ℕ) (bytes rest behind : List ℕ) (a : Answer) → AnswersSoFar i bytes rest → answer_at rest ≡ Some (a, behind) → AnswersSoFar (i + 1) bytes behind
answer_more i bytes rest behind a so_far next = record { taken = so_far.taken ++ a ∷ []; are = rw (add-one i) (many_more answer_at i bytes (so_far.taken, rest) (a, behind) so_far.are next) }

pub no_slice : (bytes : List ℕ) → SlicesSoFar 0 bytes 0 bytes
no_slice bytes = record { taken = []; are = many_none slice_at bytes; counted = refl; few = omega arith }

pub slice_more : (i : ℕ) (bytes : List ℕ) (steps : ℕ) (rest behind : List ℕ) (s : Slice) → SlicesSoFar i bytes steps rest → slice_at rest ≡ Some (s, behind) → s.steps < 4294967296 → SlicesSoFar (i + 1) bytes (steps + s.steps) behind
slice_more i bytes steps rest behind s so_far next below = record {
  taken = so_far.taken ++ s ∷ [];
  are = rw (add-one i) (many_more slice_at i bytes (so_far.taken, rest) (s, behind) so_far.are next);
  counted = omega (arith, so_far.counted, sum_by_push (λ (x : Slice). x.steps) so_far.taken s);
  few = omega (arith, so_far.few, below);
}
