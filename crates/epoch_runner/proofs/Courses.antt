-- Courses, cut in two.
use Rattle.std.proofs.Common.{◌≡◌, inl, inr, ◌+◌, ◌-◌, ◌<◌, ◌≤◌, ℕ, zero, suc, Option, Some, None, List, refl, sym, ap, ◌∙◌, arith}
use Rattle.std.proofs.lemmas.Bool.{cases_lt}
use Rattle.dp_base.specs.Field.{◌>>=◌}
use Rattle.dp_base.specs.Journal.{Epoch}
use Rattle.guest_kernel.specs.declared.state.State.{State}
use Rattle.epoch_runner.specs.declared.bounds.Bounds.{Bounds}
use Rattle.epoch_runner.specs.Schedule.{Course, IsScheduled, closed, course, ends, followed, next_step, progress, starting, step}
use Rattle.supply.specs.Supplied.{Supplied}
use Rattle.sync_hints.specs.declared.hints.Hints.{Hints}

bind-bind : {X Y Z : Type 0} (o : Option X) (f : X → Option Y) (g : Y → Option Z) (h : X → Option Z) → ((x : X) → h x ≡ (f x >>= g)) → ((o >>= f) >>= g) ≡ (o >>= h)
bind-bind None f g h is = refl
bind-bind (Some x) f g h is = sym (is x)

then_none : (w : Supplied) (bounds : Bounds) (o : Option Course) → o ≡ (o >>= course zero w bounds)
unfolding course
then_none w bounds None = refl
then_none w bounds (Some c) = refl

-- a course, and then another
pub course-add : (m n : ℕ) (w : Supplied) (bounds : Bounds) (c : Course) → course (m + n) w bounds c ≡ (course m w bounds c >>= course n w bounds)
unfolding course
course-add m zero w bounds c = let none : m + zero ≡ m = omega arith in ap (λ k. course k w bounds c) none ∙ then_none w bounds (course m w bounds c)
course-add m (suc n) w bounds c =
    let one : m + suc n ≡ suc (m + n) = omega arith in
    ap (λ k. course k w bounds c) one ∙ ap (λ o. o >>= step w bounds) (course-add m n w bounds c)
    ∙ bind-bind (course m w bounds c) (course n w bounds) (step w bounds) (course (suc n) w bounds) (λ x. refl)

-- from one place on
pub course-from : (m n : ℕ) (w : Supplied) (bounds : Bounds) (c d : Course) → course m w bounds c ≡ Some d → course (m + n) w bounds c ≡ course n w bounds d
course-from m n w bounds c d went = course-add m n w bounds c ∙ ap (λ o. o >>= course n w bounds) went

pub one_course : (w : Supplied) (bounds : Bounds) (c : Course) → course 1 w bounds c ≡ step w bounds c
unfolding course
one_course w bounds c = refl

-- a step, and then the others
first_step : (n : ℕ) (w : Supplied) (bounds : Bounds) (c : Course) → course (suc n) w bounds c ≡ (step w bounds c >>= course n w bounds)
first_step n w bounds c =
    let one : suc n ≡ 1 + n = omega arith in
    ap (λ k. course k w bounds c) one ∙ course-add 1 n w bounds c ∙ ap (λ o. o >>= course n w bounds) (one_course w bounds c)

pub course-step : (n : ℕ) (w : Supplied) (bounds : Bounds) (c d : Course) → step w bounds c ≡ Some d → course (suc n) w bounds c ≡ course n w bounds d
course-step n w bounds c d is = first_step n w bounds c ∙ ap (λ o. o >>= course n w bounds) is

-- two places of which one step is the same
pub course-alike : (n : ℕ) (w : Supplied) (bounds : Bounds) (c d : Course) → 0 < n → step w bounds c ≡ step w bounds d → course n w bounds c ≡ course n w bounds d
course-alike zero w bounds c d some is = absurd (omega (arith, some))
course-alike (suc n) w bounds c d some is = first_step n w bounds c ∙ ap (λ o. o >>= course n w bounds) is ∙ sym (first_step n w bounds d)

-- after the end there is nothing
past_end : (n : ℕ) (w : Supplied) (bounds : Bounds) (c : Course) → next_step c.state w bounds (progress c) ≡ ends → course (suc n) w bounds c ≡ None
past_end n w bounds c stops = first_step n w bounds c ∙ ap (λ x. followed w c x >>= course n w bounds) stops

no_further : (m n : ℕ) (w : Supplied) (bounds : Bounds) (c d e : Course) → course m w bounds c ≡ Some d → next_step d.state w bounds (progress d) ≡ ends → course n w bounds c ≡ Some e → n ≤ m
no_further m n w bounds c d e went stops other = elim (cases_lt m n) [
  | inr within ↦ within
  | inl beyond ↦ (
      let more : n ≡ m + suc (n - m - 1) = omega arith in
      let none : course n w bounds c ≡ None = ap (λ k. course k w bounds c) more ∙ course-from m (suc (n - m - 1)) w bounds c d went ∙ past_end (n - m - 1) w bounds d stops in
      absurd cc)
]

-- a course has one end
pub one_end : (m n : ℕ) (w : Supplied) (bounds : Bounds) (c d e : Course) → course m w bounds c ≡ Some d → next_step d.state w bounds (progress d) ≡ ends → course n w bounds c ≡ Some e → next_step e.state w bounds (progress e) ≡ ends → d ≡ e
one_end m n w bounds c d e went stops other ends_too =
    let below = no_further m n w bounds c d e went stops other in
    let above = no_further n m w bounds c e d other ends_too went in
    let same : m ≡ n = omega arith in
    let both : Some d ≡ Some e = sym went ∙ ap (λ k. course k w bounds c) same ∙ other in cc

same_epoch : (a b : Epoch) → a.slices ≡ b.slices → a.answers ≡ b.answers → a ≡ b
same_epoch a b slices answers = ap (λ xs. record { slices = xs; answers = a.answers }) slices ∙ ap (λ xs. record { slices = b.slices; answers = xs }) answers

pub one_schedule : (start : State) (hints : Hints) (w : Supplied) (bounds : Bounds) (e f : Epoch) (output other : List ℕ) (end otherwise : State) → IsScheduled start hints w bounds e output end → IsScheduled start hints w bounds f other otherwise
    → (e ≡ f) × (output ≡ other) × (end ≡ otherwise)
one_schedule start hints w bounds e f output other end otherwise a b =
    let same : a.last ≡ b.last = one_end a.turns b.turns w bounds (starting start hints) a.last b.last a.went a.stops b.went b.stops in (
      same_epoch e f (a.slices_are ∙ ap (λ c. (closed c).done) same ∙ sym b.slices_are) (a.answers_are ∙ ap (λ (c : Course). c.answers) same ∙ sym b.answers_are),
      a.output_is ∙ ap (λ (c : Course). c.output) same ∙ sym b.output_is,
      a.end_is ∙ ap (λ c. (closed c).state) same ∙ sym b.end_is,
    )
