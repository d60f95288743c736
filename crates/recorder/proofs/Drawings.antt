-- What rounds have drawn from an input so far, and that the answers that were taken are faithful to it.
use Rattle.std.proofs.Common.{◌≡◌, ◌⊎◌, inl, inr, ◌+◌, ◌-◌, ◌^◌, ◌<◌, ◌≤◌, min, ℕ, zero, suc, Bool, true, false, List, [], ◌∷◌, ◌++◌, length, take, drop, Option, Some, refl, sym, ap, subst, ◌∙◌, append_assoc, arith}
use Rattle.std.specs.Prelude.{◌&&◌, ◌||◌, ◌↔◌, nat_lt, slice_get}
use Rattle.std.specs.List.{AllByRecursion, concat}
use Rattle.std.proofs.lemmas.Bool.{cases_lt, eqb-true, or_right}
use Rattle.std.proofs.Math.Seq.{take-add}
use Rattle.std.proofs.lemmas.List.{append-nil, drop-append-le, drop-drop, drop_all, length-append, length-take-le, take-append-drop, take-append-le, take-take, take_all}
use Rattle.dp_base.specs.declared.answer.Answer.{Answer}
use Rattle.dp_base.specs.declared.answer.Answer.TheVariants.{Read}
use Rattle.disk_model.specs.Input.{Input, IsLast, IsNoted, ReadClock, Took, is_at_end, left_after, taken, took}
use Rattle.disk_model.specs.Known.{IfKnown}
use Rattle.disk_model.proofs.Knowing.{known-map, known-then}
use Rattle.epoch_runner.specs.Supplying.{IsSuppliedBy}
use Rattle.epoch_runner.proofs.AnswerLists.{clocks_append, read_append}
use Rattle.guest_kernel.specs.Answers.{bytes_read, clock_readings}
use Rattle.supply.specs.Supplied.{IsLastOf, Supplied, empty, refilled}
use Rattle.supply.specs.Windows.{input_after_takes, bytes_left, windows}
use Rattle.supply.specs.declared.TheConstants.{MAX_ROOM}
use Rattle.recorder.specs.Drawing.{AreFound, RoundInput, Drew, DrewAll, HaveRead, TookIf, readings_since, supply_of}
use Rattle.recorder.specs.Keeping.{IsWindowOf}

-- ---- readings

found-more : (values readings more : List ℕ) → AreFound values readings → AreFound values (readings ++ more)
found-more [] readings more found = found
found-more (v ∷ values) readings more found =
    let inside = within readings found.0 v found.1 in (
      found.0,
      get-more readings found.0 v found.1,
      subst (AreFound values) (sym (drop-append-le found.0 readings more (omega (arith, inside)))) (found-more values (drop found.0 readings) more found.2),
    )
  where
    within : (xs : List ℕ) (i x : ℕ) → slice_get xs i ≡ Some x → i < length xs
    within [] i x is = absurd cc
    within (y ∷ ys) zero x is = omega arith
    within (y ∷ ys) (suc i) x is = let below = within ys i x is in omega (arith, below)

    get-more : (xs : List ℕ) (i x : ℕ) → slice_get xs i ≡ Some x → slice_get (xs ++ more) i ≡ Some x
    get-more [] i x is = absurd cc
    get-more (y ∷ ys) zero x is = is
    get-more (y ∷ ys) (suc i) x is = get-more ys i x is

get-last : (front : List ℕ) (x : ℕ) → slice_get (front ++ x ∷ []) (length front) ≡ Some x
get-last [] x = refl
get-last (y ∷ front) x = get-last front x

last-found : (reading : ℕ) (readings : List ℕ) → IsLast reading readings → (place : ℕ) × (slice_get readings place ≡ Some reading) × (drop place readings ≡ reading ∷ [])
last-found reading readings last =
    let front : List ℕ = last.0 in (
      length front,
      ap (λ (l : List ℕ). slice_get l (length front)) last.1 ∙ get-last front reading,
      ap (drop (length front)) last.1 ∙ drop-append-le (length front) front (reading ∷ []) (omega arith) ∙ ap (λ (l : List ℕ). l ++ reading ∷ []) (drop_all (length front) front (omega arith)),
    )

-- what is left of readings after a place still ends with the last
last-behind : (reading : ℕ) (readings : List ℕ) (place v : ℕ) → IsLast reading readings → slice_get readings place ≡ Some v → IsLast reading (drop place readings)
last-behind reading readings place v last is =
    let front : List ℕ = last.0 in
    let inside = at_most front place (ap (λ (l : List ℕ). slice_get l place) (sym last.1) ∙ is) in
    (drop place front, ap (drop place) last.1 ∙ drop-append-le place front (reading ∷ []) inside)
  where
    at_most : (xs : List ℕ) (i : ℕ) → slice_get (xs ++ reading ∷ []) i ≡ Some v → i ≤ length xs
    at_most [] zero e = omega arith
    at_most [] (suc i) e = absurd cc
    at_most (y ∷ ys) zero e = omega arith
    at_most (y ∷ ys) (suc i) e = let below = at_most ys i e in omega (arith, below)

-- readings that are all the last one
all-found : (reading : ℕ) (more readings : List ℕ) → IsLast reading readings → AllByRecursion (λ v. v ≡ reading) more → AreFound more readings
all-found reading [] readings last all = tt
all-found reading (v ∷ more) readings last all =
    let there = last-found reading readings last in (
      there.0,
      there.1 ∙ ap (λ (n : ℕ). Some n) (sym all.0),
      all-found reading more (drop there.0 readings) ([], there.2) all.1,
    )

found-append : (reading : ℕ) (values more readings : List ℕ) → AreFound values readings → IsLast reading readings → AllByRecursion (λ v. v ≡ reading) more → AreFound (values ++ more) readings
found-append reading [] more readings found last all = all-found reading more readings last all
found-append reading (v ∷ values) more readings found last all =
    (found.0, found.1, found-append reading values more (drop found.0 readings) found.2 (last-behind reading readings found.0 v last found.1) all)

-- ---- answers joined

-- an item of joined lists is in the first, or in the second
split-item : (xs ys before after : List Answer) (x : Answer) → xs ++ ys ≡ before ++ x ∷ after
    → ((rest : List Answer) × (xs ≡ before ++ x ∷ rest)) ⊎ ((others : List Answer) × (before ≡ xs ++ others) × (ys ≡ others ++ x ∷ after))
split-item [] ys before after x is = inr (before, refl, is)
split-item (a ∷ xs) ys [] after x is = let same : a ≡ x = cc in inl (xs, ap (λ (b : Answer). b ∷ xs) same)
split-item (a ∷ xs) ys (b ∷ before) after x is =
    let same : a ≡ b = cc in
    let others : xs ++ ys ≡ before ++ x ∷ after = cc in
    elim (split-item xs ys before after x others) [
      | inl there ↦ inl (there.0, ap (λ (l : List Answer). a ∷ l) there.1 ∙ ap (λ (c : Answer). c ∷ before ++ x ∷ there.0) same)
      | inr there ↦ inr (there.0, ap (λ (c : Answer). c ∷ before) (sym same) ∙ ap (λ (l : List Answer). a ∷ l) there.1, there.2)
    ]

-- ---- what was drawn so far

pub none_drawn : (i : Input) → IsWindowOf (empty MAX_ROOM) 0 [] [] i i
none_drawn i = record {
  drew = refl;
  given = [];
  given_is = sym (append-nil i.given);
  left_is = refl;
  last = record { end = refl; last = refl };
  within = omega arith;
  read = refl;
  ended = λ never. absurd cc;
  empties = λ before after is. absurd (no_item before after is);
  kept = omega arith;
  clocks = tt;
}
  where
    no_item : (before after : List Answer) → [] ≡ before ++ Read [] ∷ after → ⊥
    no_item [] after is = cc
    no_item (b ∷ before) after is = cc

-- ---- one round more draws

drew-push : (draws : List RoundInput) (d : RoundInput) (i j k : Input) → DrewAll draws i j → Drew d j k → DrewAll (draws ++ d ∷ []) i k
drew-push [] d i j k all more = (k, subst (λ (x : Input). Drew d x k) all more, refl)
drew-push (x ∷ draws) d i j k all more = (all.0, all.1, drew-push draws d all.0 j k all.2 more)

-- what the windows' law says of one take
pub record TakeLaws : Type 0 where
  pub refill : (s : Supplied) (given bytes : List ℕ) → IsLastOf s given → IsLastOf (refilled bytes s) (given ++ bytes)
  pub one : (room : ℕ) (i : Input) → taken room i.left ++ bytes_left (took room i).left ≡ bytes_left i.left
  pub at_end : (room : ℕ) (left : List (List ℕ)) → 0 < room → length (taken room left) ≡ 0 → is_at_end left ≡ true
  pub stays : (room : ℕ) (i : Input) → is_at_end i.left ≡ true → is_at_end (took room i).left ≡ true

-- after a take, before the clock is read
record IsTaken (w : Supplied) (place : ℕ) (answers : List Answer) (i j mid : Input) (now : Supplied) (given : List ℕ) : Type 0 where
  given_is : mid.given ≡ i.given ++ given
  left_is : given ++ bytes_left mid.left ≡ bytes_left i.left
  last : IsLastOf now given
  within : place ≤ length given
  read : bytes_read answers ≡ take place given
  ended : now.ended ≡ true → (mid.ended ≡ true) × (is_at_end mid.left ≡ true)
  empties : (before after : List Answer) → answers ≡ before ++ Read [] ∷ after → (bytes_read before ≡ given) × (now.ended ≡ true)
  readings_are : mid.readings ≡ j.readings

-- past a place before the last of them readings still end with it
last-past : (reading first : ℕ) (readings : List ℕ) → IsLast reading readings → first < length readings → IsLast reading (drop first readings)
last-past reading first readings last inside =
    let front : List ℕ = last.0 in
    let within : first ≤ length front = omega (arith, inside, ap (λ (l : List ℕ). length l) last.1, length-append front (reading ∷ [])) in
    (drop first front, ap (drop first) last.1 ∙ drop-append-le first front (reading ∷ []) within)

noted-found : (values : List ℕ) (reading first : ℕ) (before after : List ℕ) → first ≤ length before → first ≤ 2 ^ 64 - 2 → IsNoted reading before after → AreFound values (drop first before)
    → AreFound values (drop first after) × IsLast reading (drop first after) × (length before ≤ length after)
noted-found values reading first before after within low (inl more) found =
    let there : drop first after ≡ drop first before ++ reading ∷ [] = ap (drop first) more ∙ drop-append-le first before (reading ∷ []) within in (
      subst (AreFound values) (sym there) (found-more values (drop first before) (reading ∷ []) found),
      (drop first before, there),
      omega (arith, ap (λ (l : List ℕ). length l) more, length-append before (reading ∷ [])),
    )
noted-found values reading first before after within low (inr same) found = (
  subst (λ (l : List ℕ). AreFound values (drop first l)) (sym same.0) found,
  subst (λ (l : List ℕ). IsLast reading (drop first l)) (sym same.0) (last-past reading first before same.1 (omega (arith, low, same.2))),
  omega (arith, ap (λ (l : List ℕ). length l) same.0),
)

module _ (laws : TakeLaws) where
  took_more : (w : Supplied) (place : ℕ) (draws : List RoundInput) (answers : List Answer) (due : Bool) (bytes : List ℕ) (i j mid : Input)
      → (so_far : IsWindowOf w place draws answers i j) → (due ≡ true → w.ended ≡ false) → TookIf due bytes j mid
      → (given : List ℕ) × IsTaken w place answers i j mid (supply_of w (record { due = due; taken = bytes; reading = w.stamp })) given
  took_more w place draws answers false bytes i j mid so_far going step =
      let back : j ≡ mid = sym step in (
        so_far.given,
        subst (λ (x : Input). IsTaken w place answers i j x w so_far.given) back (record {
          given_is = so_far.given_is;
          left_is = so_far.left_is;
          last = record { end = so_far.last.end; last = so_far.last.last };
          within = so_far.within;
          read = so_far.read;
          ended = so_far.ended;
          empties = so_far.empties;
          readings_are = refl;
        }),
      )
  took_more w place draws answers true bytes i j mid so_far going step =
      let given = so_far.given in
      let there : took MAX_ROOM j ≡ mid = sym step.1 in
      let bytes_are : bytes ≡ taken MAX_ROOM j.left = step.0 in (
        given ++ bytes,
        subst (λ (x : Input). IsTaken w place answers i j x (record (refilled bytes w) { stamp = w.stamp }) (given ++ bytes)) there (record {
          given_is = ap (λ (l : List ℕ). l ++ taken MAX_ROOM j.left) so_far.given_is ∙ append_assoc i.given given (taken MAX_ROOM j.left) ∙ ap (λ (l : List ℕ). i.given ++ (given ++ l)) (sym bytes_are);
          left_is = append_assoc given bytes (bytes_left (took MAX_ROOM j).left)
              ∙ ap (λ (l : List ℕ). given ++ (l ++ bytes_left (took MAX_ROOM j).left)) bytes_are
              ∙ ap (λ (l : List ℕ). given ++ l) (laws.one MAX_ROOM j) ∙ so_far.left_is;
          last = (let l = laws.refill w given bytes so_far.last in record { end = l.end; last = l.last });
          within = omega (arith, so_far.within, length-append given bytes);
          read = so_far.read ∙ sym (take-append-le place given bytes so_far.within);
          ended = λ none.
              let empty_ : length bytes ≡ 0 = eqb-true (length bytes) 0 none in
              let end_ : is_at_end j.left ≡ true = laws.at_end MAX_ROOM j.left (omega arith) (ap (λ (l : List ℕ). length l) (sym bytes_are) ∙ empty_) in
              (ap (λ b. j.ended || (b && nat_lt 0 MAX_ROOM)) end_ ∙ or_right j.ended true refl, laws.stays MAX_ROOM j end_);
          empties = λ before after is. absurd (let yes = (so_far.empties before after is).1 in let no = going refl in cc);
          readings_are = refl;
        }),
      )

  pub drawn_more : (w : Supplied) (place : ℕ) (draws : List RoundInput) (answers : List Answer) (d : RoundInput) (i j k : Input)
      → IsWindowOf w place draws answers i j → (d.due ≡ true → w.ended ≡ false) → Drew d j k
      → IsWindowOf (supply_of w d) place (draws ++ d ∷ []) answers i k × IsLast d.reading (readings_since i k)
  drawn_more w place draws answers d i j k so_far going step =
      let mid : Input = step.0 in
      let t = took_more w place draws answers d.due d.taken i j mid so_far going step.1 in
      let given : List ℕ = t.0 in
      let m = t.1 in
      let readings : List ℕ = step.2.0 in
      let there : k ≡ record mid { readings = readings } = step.2.2 in
      let first : ℕ = min (length i.readings) (2 ^ 64 - 2) in
      let found : AreFound (clock_readings answers) (drop first mid.readings) = subst (λ (l : List ℕ). AreFound (clock_readings answers) (drop first l)) (sym m.readings_are) so_far.clocks in
      let long : length i.readings ≤ length mid.readings = omega (arith, so_far.kept, ap (λ (l : List ℕ). length l) m.readings_are) in
      let noted = noted-found (clock_readings answers) d.reading first mid.readings readings (omega (arith, long)) (omega arith) step.2.1 found in
      let back : record mid { readings = readings } ≡ k = sym there in (
        record {
          drew = drew-push draws d i j k so_far.drew step;
          given = given;
          given_is = ap (λ (x : Input). x.given) there ∙ m.given_is;
          left_is = ap (λ (x : Input). given ++ bytes_left x.left) there ∙ m.left_is;
          last = record { end = m.last.end; last = m.last.last };
          within = m.within;
          read = m.read;
          ended = λ e. let both = m.ended e in (ap (λ (x : Input). x.ended) there ∙ both.0, ap (λ (x : Input). is_at_end x.left) there ∙ both.1);
          empties = m.empties;
          kept = omega (arith, long, noted.2, ap (λ (x : Input). length x.readings) there);
          clocks = subst (λ (x : Input). AreFound (clock_readings answers) (readings_since i x)) back noted.0;
        },
        subst (λ (x : Input). IsLast d.reading (readings_since i x)) back noted.1,
      )

-- ---- an epoch takes answers

prefix_whole : (xs ys given : List ℕ) (n : ℕ) → xs ++ ys ≡ take n given → length xs ≡ length given → xs ≡ given
prefix_whole xs ys given n is size =
    sym (take_all (length xs) xs (omega arith)) ∙ sym (take-append-le (length xs) xs ys (omega arith)) ∙ ap (take (length xs)) is ∙ by_count (cases_lt n (length xs))
  where
    by_count : (n < length xs) ⊎ (length xs ≤ n) → take (length xs) (take n given) ≡ given
    by_count (inr many) = take-take (length xs) n given many ∙ take_all (length xs) given (omega (arith, size))
    by_count (inl few) =
        let whole : length (xs ++ ys) ≡ length (take n given) = ap (λ (l : List ℕ). length l) is in
        absurd (omega (arith, whole, length-append xs ys, length-take-le n given (omega (arith, few, size)), few))

pub taken_more : (w : Supplied) (place behind : ℕ) (draws : List RoundInput) (answers more : List Answer) (i k : Input) → IsWindowOf w place draws answers i k → w.place ≤ place
    → IsSuppliedBy w place behind more → IsLast w.stamp (readings_since i k) → IsWindowOf w behind draws (answers ++ more) i k
taken_more w place behind draws answers more i k so_far early supplied last = record {
  drew = so_far.drew;
  given = so_far.given;
  given_is = so_far.given_is;
  left_is = so_far.left_is;
  last = so_far.last;
  within = inside;
  read = all_read;
  ended = so_far.ended;
  empties = λ before after is. by_side before after is (split-item answers more before after (Read []) is);
  kept = so_far.kept;
  clocks = subst (λ (l : List ℕ). AreFound l (readings_since i k)) (sym (clocks_append answers more)) (found-append w.stamp (clock_readings answers) (clock_readings more) (readings_since i k) so_far.clocks last supplied.clocks);
}
  where
    given : List ℕ
    given = so_far.given

    inside : behind ≤ length given
    inside = omega (arith, supplied.within, so_far.last.end)

    all_read : bytes_read (answers ++ more) ≡ take behind given
    all_read =
        let sum : w.place + (place - w.place) ≡ place = omega (arith, early) in
        let all : place + (behind - place) ≡ behind = omega (arith, supplied.moves) in
        let rest : bytes_read more ≡ take (behind - place) (drop place given) =
        supplied.reads ∙ ap (λ (l : List ℕ). take (behind - place) (drop (place - w.place) l)) (sym so_far.last.last)
        ∙ ap (take (behind - place)) (drop-drop (place - w.place) w.place given ∙ ap (λ n. drop n given) sum) in
        read_append answers more ∙ ap (λ (l : List ℕ). l ++ bytes_read more) so_far.read ∙ ap (λ (l : List ℕ). take place given ++ l) rest
        ∙ sym (take-add place (behind - place) given) ∙ ap (λ n. take n given) all

    before_all : (before after : List Answer) → answers ++ more ≡ before ++ Read [] ∷ after → bytes_read before ++ bytes_read after ≡ take behind given
    before_all before after is = sym (read_append before (Read [] ∷ after)) ∙ ap bytes_read (sym is) ∙ all_read

    by_side : (before after : List Answer) → answers ++ more ≡ before ++ Read [] ∷ after
        → ((rest : List Answer) × (answers ≡ before ++ Read [] ∷ rest)) ⊎ ((others : List Answer) × (before ≡ answers ++ others) × (more ≡ others ++ Read [] ∷ after))
        → (bytes_read before ≡ given) × (w.ended ≡ true)
    by_side before after is (inl there) = so_far.empties before there.0 there.1
    by_side before after is (inr there) =
        let e = supplied.ends there.0 after there.2 in
        let parts : bytes_read before ≡ bytes_read answers ++ bytes_read there.0 = ap bytes_read there.1 ∙ read_append answers there.0 in
        let first : length (bytes_read answers) ≡ place = ap (λ (l : List ℕ). length l) so_far.read ∙ length-take-le place given so_far.within in
        let size : length (bytes_read before) ≡ length given =
        ap (λ (l : List ℕ). length l) parts ∙ length-append (bytes_read answers) (bytes_read there.0) ∙ omega (arith, first, e.1, so_far.last.end) in
        (prefix_whole (bytes_read before) (bytes_read after) given behind (before_all before after is) size, e.0)

-- ---- what was drawn is honest

pub has_drawn : (w : Supplied) (place : ℕ) (draws : List RoundInput) (answers : List Answer) (i j : Input) → IsWindowOf w place draws answers i j → HaveRead draws answers i j
has_drawn w place draws answers i j is = (
  is.drew,
  (
    is.given,
    is.given_is,
    record {
      reads = (drop place is.given, sym (take-append-drop place is.given) ∙ ap (λ (l : List ℕ). l ++ drop place is.given) (sym is.read));
      ends = λ before after at. let e = is.empties before after at in (e.0, (is.ended e.1).0);
      clocks = is.clocks;
    },
  ),
)

-- ---- a draw by its steps

-- where input was due
pub drew_due : (bytes : List ℕ) (reading : ℕ) (i mid j : Option Input) → IfKnown (Took MAX_ROOM bytes) i mid → IfKnown (ReadClock reading) mid j
    → IfKnown (Drew (record { due = true; taken = bytes; reading = reading })) i j
drew_due bytes reading i mid j first second =
    known-then (Took MAX_ROOM bytes) (ReadClock reading) (Drew (record { due = true; taken = bytes; reading = reading })) i mid j (λ s t u a b. (t, a, b)) first second

-- and where it wasn't
pub drew_none : (reading : ℕ) (i j : Option Input) → IfKnown (ReadClock reading) i j → IfKnown (Drew (record { due = false; taken = []; reading = reading })) i j
drew_none reading i j read = known-map (ReadClock reading) (Drew (record { due = false; taken = []; reading = reading })) i j (λ s t a. (s, refl, a)) read

-- ---- the laws of one take, from those of many

at_end_stays : (room : ℕ) (left : List (List ℕ)) → is_at_end left ≡ true → is_at_end (left_after room left) ≡ true
at_end_stays room [] is = refl
at_end_stays room ([] ∷ rest) is = refl
at_end_stays room ((b ∷ more) ∷ rest) is = absurd cc

one_take : ((room count : ℕ) (i : Input) → concat (windows room count i) ++ bytes_left (input_after_takes room count i).left ≡ bytes_left i.left)
    → (room : ℕ) (i : Input) → taken room i.left ++ bytes_left (took room i).left ≡ bytes_left i.left
unfolding input_after_takes windows
one_take left room i = ap (λ (l : List ℕ). l ++ bytes_left (took room i).left) (sym (append-nil (taken room i.left))) ∙ left room 1 i

pub take_laws : ((s : Supplied) (given bytes : List ℕ) → IsLastOf s given → IsLastOf (refilled bytes s) (given ++ bytes))
    → ((room count : ℕ) (i : Input) → concat (windows room count i) ++ bytes_left (input_after_takes room count i).left ≡ bytes_left i.left)
    → ((room : ℕ) (left : List (List ℕ)) → 0 < room → (length (taken room left) ≡ 0) ↔ (is_at_end left ≡ true)) → TakeLaws
take_laws refill left end_ = record {
  refill = refill;
  one = one_take left;
  at_end = λ room l some none. (end_ room l some).0 none;
  stays = λ room i is. at_end_stays room i.left is;
}
