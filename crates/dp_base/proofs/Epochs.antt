-- Slices, answers and epoch bodies: decoded as they are encoded, and in no other way.
use Rattle.std.proofs.Common.{◌≡◌, ℕ, zero, suc, ◌^◌, ◌<◌, ◌≤◌, Bool, true, false, cond, eqb, ltb, leb, ◌&&◌, List, [], ◌∷◌, ◌++◌, length, Option, Some, None, refl, sym, ap, subst, ◌∙◌, append_assoc, arith, inl, inr}
use Rattle.std.specs.Prelude.{◌⊎◌}
use Rattle.std.specs.List.{flat_map, AllByRecursion}
use Rattle.std.proofs.lemmas.Bool.{and_parts, eqb-true, ltb-true, leb-true, lt-ltb, le-leb, and_from, cond-true}
use Rattle.std.proofs.lemmas.Option.{cond_some, same_Some}
use Rattle.byteorder.specs.Endian.{little_bytes}
use Rattle.dp_base.specs.declared.limits.TheConstants.{MAX_CALL_BYTES, MAX_EPOCH_STEPS}
use Rattle.dp_base.specs.declared.answer.Answer.{Answer}
use Rattle.dp_base.specs.declared.answer.Answer.TheVariants.{Read, Clock}
use Rattle.dp_base.specs.declared.slice.Slice.{Slice}
use Rattle.dp_base.specs.Field.{AreBytes, ◌>>=◌, bytes_at, number_at}
use Rattle.dp_base.specs.Journal.{Epoch, IsSlice, IsAnswer, IsEpoch, steps_of, slice, answer, epoch_body, slice_at, read_at, clock_at, answer_at, many_at, epoch_body_at}
use Rattle.dp_base.specs.Encoding.{IsPrefixCode}
use Rattle.dp_base.proofs.Fields.{bind_some, bind_at, Splits, Splits-then, Splits-regroup, bytes_found, number_taken, number_found, byte_taken, length_prefixed_taken, length_prefixed_found, code_from}

-- ---- slices

abbrev slice_end : ℕ × List ℕ → ℕ × List ℕ → Option (Slice × List ℕ)
slice_end tid steps = cond (ltb 0 tid.0 && ltb 0 steps.0) (Some (record { tid = record { 0 = tid.0 }; steps = steps.0 }, steps.1)) None

abbrev slice_tid : ℕ × List ℕ → Option (Slice × List ℕ)
slice_tid tid = number_at 4 tid.1 >>= slice_end tid

slice_taken : (bytes : List ℕ) (x : Slice × List ℕ) → AreBytes bytes → slice_at bytes ≡ Some x → Splits bytes (slice x.0) x.1 × IsSlice x.0
unfolding slice_at
slice_taken bytes x fits e =
    let a = bind_some (number_at 2 bytes) slice_tid x e in
    let b = bind_some (number_at 4 a.0.1) (slice_end a.0) x a.2 in
    let made : Slice × List ℕ = (record { tid = record { 0 = a.0.0 }; steps = b.0.0 }, b.0.1) in
    let g = cond_some (ltb 0 a.0.0 && ltb 0 b.0.0) made x b.2 in
    let tests = and_parts (ltb 0 a.0.0) (ltb 0 b.0.0) g.0 in
    let tid = number_taken 2 bytes a.0 fits a.1 in
    let steps = number_taken 4 a.0.1 b.0 tid.0.left b.1 in
    let whole = Splits-then bytes (little_bytes 2 a.0.0) a.0.1 (little_bytes 4 b.0.0) b.0.1 tid.0 steps.0 in
    subst (λ (y : Slice × List ℕ). Splits bytes (slice y.0) y.1 × IsSlice y.0) {x = made} g.1
    (whole, (ltb-true _ _ tests.0, omega (arith, tid.1), ltb-true _ _ tests.1, omega (arith, steps.1)))

slice_found : (s : Slice) (rest : List ℕ) → IsSlice s → slice_at (slice s ++ rest) ≡ Some (s, rest)
unfolding slice_at
slice_found s rest fits =
    let tid : ℕ × List ℕ = (s.tid.0, little_bytes 4 s.steps ++ rest) in
    let steps : ℕ × List ℕ = (s.steps, rest) in
    let found : Slice × List ℕ = (s, rest) in
    let tid-is : number_at 2 (slice s ++ rest) ≡ Some tid = ap (number_at 2) (append_assoc (little_bytes 2 s.tid.0) (little_bytes 4 s.steps) rest) ∙ number_found 2 s.tid.0 tid.1 (omega (arith, fits.1)) in
    let last : slice_end tid steps ≡ Some found = cond-true _ _ _ (and_from _ _ (lt-ltb _ _ fits.0) (lt-ltb _ _ fits.2)) in
    bind_at (number_at 2 (slice s ++ rest)) slice_tid tid (Some found) tid-is
    (bind_at (number_at 4 tid.1) (slice_end tid) steps (Some found) (number_found 4 s.steps rest (omega (arith, fits.3))) last)

pub slice_code : IsPrefixCode slice_at slice IsSlice
slice_code = code_from slice_at slice IsSlice slice_found slice_taken

-- ---- answers

abbrev read_end : ℕ × List ℕ → List ℕ × List ℕ → Option (Answer × List ℕ)
read_end size taken = cond (leb size.0 MAX_CALL_BYTES) (Some (Read taken.0, taken.1)) None

abbrev read_size : ℕ × List ℕ → Option (Answer × List ℕ)
read_size size = bytes_at size.0 size.1 >>= read_end size

abbrev clock_end : ℕ × List ℕ → Option (Answer × List ℕ)
clock_end reading = Some (Clock reading.0, reading.1)

abbrev answer_kind : ℕ × List ℕ → Option (Answer × List ℕ)
answer_kind kind = cond (eqb kind.0 0) (read_at kind.1) (cond (eqb kind.0 1) (clock_at kind.1) None)

-- an answer after its kind
abbrev TakesAnswer : ℕ → List ℕ → Answer × List ℕ → Type 0
TakesAnswer kind bytes x = (rest : List ℕ) × (answer x.0 ≡ little_bytes 1 kind ++ rest) × Splits bytes rest x.1 × IsAnswer x.0

read_taken : (bytes : List ℕ) (x : Answer × List ℕ) → AreBytes bytes → read_at bytes ≡ Some x → TakesAnswer 0 bytes x
unfolding read_at
read_taken bytes x fits e =
    let a = bind_some (number_at 2 bytes) read_size x e in
    let b = bind_some (bytes_at a.0.0 a.0.1) (read_end a.0) x a.2 in
    let made : Answer × List ℕ = (Read b.0.0, b.0.1) in
    let g = cond_some (leb a.0.0 MAX_CALL_BYTES) made x b.2 in
    let t = length_prefixed_taken 2 bytes a.0 b.0 fits a.1 b.1 in
    let few : a.0.0 ≤ MAX_CALL_BYTES = leb-true _ _ g.0 in
    subst (TakesAnswer 0 bytes) g.1 (little_bytes 2 (length b.0.0) ++ b.0.0, refl, t.0, (subst (λ (k : ℕ). k ≤ MAX_CALL_BYTES) (sym t.1) few, t.3))

clock_taken : (bytes : List ℕ) (x : Answer × List ℕ) → AreBytes bytes → clock_at bytes ≡ Some x → TakesAnswer 1 bytes x
unfolding clock_at
clock_taken bytes x fits e =
    let a = bind_some (number_at 8 bytes) clock_end x e in
    let t = number_taken 8 bytes a.0 fits a.1 in
    let below : a.0.0 < 2 ^ 64 = omega (arith, t.1) in
    subst (TakesAnswer 1 bytes) (same_Some _ _ a.2) (little_bytes 8 a.0.0, refl, t.0, below)

-- which way a test went
pub chosen : {A : Type 0} (test : Bool) (x y z : Option A) → cond test x y ≡ z → ((test ≡ true) × (x ≡ z)) ⊎ ((test ≡ false) × (y ≡ z))
chosen true x y z e = inl (refl, e)
chosen false x y z e = inr (refl, e)

pub only_if : {A : Type 0} (test : Bool) (x : Option A) (y : A) → cond test x None ≡ Some y → (test ≡ true) × (x ≡ Some y)
only_if true x y e = (refl, e)
only_if false x y e = absurd cc

answer_from : (kind : ℕ) (bytes : List ℕ) (k : ℕ × List ℕ) (x : Answer × List ℕ) → AreBytes bytes → number_at 1 bytes ≡ Some k → k.0 ≡ kind → TakesAnswer kind k.1 x → Splits bytes (answer x.0) x.1 × IsAnswer x.0
answer_from kind bytes k x fits k-is same t =
    let both = Splits-then bytes (little_bytes 1 kind) k.1 t.0 x.1 (byte_taken kind bytes k fits k-is same) t.2 in
    (subst (λ (y : List ℕ). Splits bytes y x.1) (sym t.1) both, t.3)

answer_taken : (bytes : List ℕ) (x : Answer × List ℕ) → AreBytes bytes → answer_at bytes ≡ Some x → Splits bytes (answer x.0) x.1 × IsAnswer x.0
unfolding answer_at
answer_taken bytes x fits e =
    let a = bind_some (number_at 1 bytes) answer_kind x e in
    let behind = (number_taken 1 bytes a.0 fits a.1).0.left in
    elim (chosen (eqb a.0.0 0) (read_at a.0.1) (cond (eqb a.0.0 1) (clock_at a.0.1) None) (Some x) a.2) [
      | inl w ↦ answer_from 0 bytes a.0 x fits a.1 (eqb-true _ _ w.0) (read_taken a.0.1 x behind w.1)
      | inr w ↦ let g = only_if (eqb a.0.0 1) (clock_at a.0.1) x w.1 in answer_from 1 bytes a.0 x fits a.1 (eqb-true _ _ g.0) (clock_taken a.0.1 x behind g.1)
    ]

read_found : (bytes rest : List ℕ) → IsAnswer (Read bytes) → read_at ((little_bytes 2 (length bytes) ++ bytes) ++ rest) ≡ Some (Read bytes, rest)
unfolding read_at
read_found bytes rest fits =
    let size : ℕ × List ℕ = (length bytes, bytes ++ rest) in
    let taken : List ℕ × List ℕ = (bytes, rest) in
    let found : Answer × List ℕ = (Read bytes, rest) in
    let last : read_end size taken ≡ Some found = cond-true _ _ _ (le-leb _ _ fits.0) in
    bind_at (number_at 2 ((little_bytes 2 (length bytes) ++ bytes) ++ rest)) read_size size (Some found) (length_prefixed_found 2 bytes rest (omega (arith, fits.0)))
    (bind_at (bytes_at size.0 size.1) (read_end size) taken (Some found) (bytes_found bytes rest) last)

clock_found : (reading : ℕ) (rest : List ℕ) → reading < 2 ^ 64 → clock_at (little_bytes 8 reading ++ rest) ≡ Some (Clock reading, rest)
unfolding clock_at
clock_found reading rest fits =
    let found : Answer × List ℕ = (Clock reading, rest) in
    bind_at (number_at 8 (little_bytes 8 reading ++ rest)) clock_end (reading, rest) (Some found) (number_found 8 reading rest (omega arith)) refl

answer_found : (a : Answer) (rest : List ℕ) → IsAnswer a → answer_at (answer a ++ rest) ≡ Some (a, rest)
unfolding answer_at
answer_found (Read bytes) rest fits =
    let kind : ℕ × List ℕ = (0, (little_bytes 2 (length bytes) ++ bytes) ++ rest) in
    bind_at (number_at 1 (0 ∷ kind.1)) answer_kind kind (Some (Read bytes, rest)) (number_found 1 0 kind.1 (omega arith)) (read_found bytes rest fits)
answer_found (Clock reading) rest fits =
    let kind : ℕ × List ℕ = (1, little_bytes 8 reading ++ rest) in
    bind_at (number_at 1 (1 ∷ kind.1)) answer_kind kind (Some (Clock reading, rest)) (number_found 1 1 kind.1 (omega arith)) (clock_found reading rest fits)

pub answer_code : IsPrefixCode answer_at answer IsAnswer
answer_code = code_from answer_at answer IsAnswer answer_found answer_taken

-- ---- so many of a kind

pub many_taken : {X : Type 0} (item : List ℕ → Option (X × List ℕ)) (encode : X → List ℕ) (Is : X → Type 0) → IsPrefixCode item encode Is → (n : ℕ) (bytes : List ℕ) (x : List X × List ℕ) → AreBytes bytes
    → many_at item n bytes ≡ Some x → Splits bytes (flat_map encode x.0) x.1 × (length x.0 ≡ n) × AllByRecursion Is x.0
unfolding many_at
many_taken {X} item encode Is laws zero bytes x fits e =
    subst (λ (y : List X × List ℕ). Splits bytes (flat_map encode y.0) y.1 × (length y.0 ≡ 0) × AllByRecursion Is y.0) (same_Some _ _ e) (record { joined = refl; left = fits }, refl, tt)
many_taken {X} item encode Is laws (suc n) bytes x fits e =
    let a = bind_some (item bytes) (λ first. many_at item n first.1 >>= λ others. Some (first.0 ∷ others.0, others.1)) x e in
    let b = bind_some (many_at item n a.0.1) (λ others. Some (a.0.0 ∷ others.0, others.1)) x a.2 in
    let first = laws.encoded bytes a.0.0 a.0.1 fits a.1 in
    let head : Splits bytes (encode a.0.0) a.0.1 = record { joined = first.0; left = first.2 } in
    let others = many_taken item encode Is laws n a.0.1 b.0 first.2 b.1 in
    let both = Splits-then bytes (encode a.0.0) a.0.1 (flat_map encode b.0.0) b.0.1 head others.0 in
    let made : List X × List ℕ = (a.0.0 ∷ b.0.0, b.0.1) in
    subst (λ (y : List X × List ℕ). Splits bytes (flat_map encode y.0) y.1 × (length y.0 ≡ suc n) × AllByRecursion Is y.0) (same_Some _ _ b.2) (both, ap suc others.1, (first.1, others.2))

pub many_found : {X : Type 0} (item : List ℕ → Option (X × List ℕ)) (encode : X → List ℕ) (Is : X → Type 0) → IsPrefixCode item encode Is → (xs : List X) (rest : List ℕ) → AllByRecursion Is xs
    → many_at item (length xs) (flat_map encode xs ++ rest) ≡ Some (xs, rest)
unfolding many_at
many_found item encode Is laws [] rest fits = refl
many_found {X} item encode Is laws (x ∷ xs) rest fits =
    let behind = flat_map encode xs ++ rest in
    let parts : flat_map encode (x ∷ xs) ++ rest ≡ encode x ++ behind = append_assoc (encode x) (flat_map encode xs) rest in
    let first : X × List ℕ = (x, behind) in
    let others : List X × List ℕ = (xs, rest) in
    let found : List X × List ℕ = (x ∷ xs, rest) in
    ap (many_at item (suc (length xs))) parts
    ∙ bind_at (item (encode x ++ behind)) (λ y. many_at item (length xs) y.1 >>= λ ys. Some (y.0 ∷ ys.0, ys.1)) first (Some found) (laws.decoded x behind fits.0)
    (bind_at (many_at item (length xs) behind) (λ ys. Some (x ∷ ys.0, ys.1)) others (Some found) (many_found item encode Is laws xs rest fits.1) refl)

-- ---- epoch bodies

abbrev pub epoch_end : ℕ × List ℕ → ℕ × List ℕ → List Slice × List ℕ → List Answer × List ℕ → Option (Epoch × List ℕ)
epoch_end kind slice_count slices answers = cond (eqb kind.0 0 && ltb 0 slice_count.0 && leb (steps_of slices.0) MAX_EPOCH_STEPS) (Some (record { slices = slices.0; answers = answers.0 }, answers.1)) None

abbrev epoch_answers : ℕ × List ℕ → ℕ × List ℕ → List Slice × List ℕ → ℕ × List ℕ → Option (Epoch × List ℕ)
epoch_answers kind slice_count slices answer_count = many_at answer_at answer_count.0 answer_count.1 >>= epoch_end kind slice_count slices

abbrev epoch_count : ℕ × List ℕ → ℕ × List ℕ → List Slice × List ℕ → Option (Epoch × List ℕ)
epoch_count kind slice_count slices = number_at 4 slices.1 >>= epoch_answers kind slice_count slices

abbrev epoch_slices : ℕ × List ℕ → ℕ × List ℕ → Option (Epoch × List ℕ)
epoch_slices kind slice_count = many_at slice_at slice_count.0 slice_count.1 >>= epoch_count kind slice_count

abbrev pub epoch_kind : ℕ × List ℕ → Option (Epoch × List ℕ)
epoch_kind kind = number_at 4 kind.1 >>= epoch_slices kind

-- the parts of an epoch body, one after another
abbrev counted_answers : List Answer → List ℕ
counted_answers answers = little_bytes 4 (length answers) ++ flat_map answer answers

abbrev counted_slices : List Slice → List ℕ → List ℕ
counted_slices slices behind = little_bytes 4 (length slices) ++ (flat_map slice slices ++ behind)

-- so many, after their number
pub counted_taken : {X : Type 0} (item : List ℕ → Option (X × List ℕ)) (encode : X → List ℕ) (Is : X → Type 0) → IsPrefixCode item encode Is → (bytes : List ℕ) (count : ℕ × List ℕ) (x : List X × List ℕ) → AreBytes bytes
    → number_at 4 bytes ≡ Some count → many_at item count.0 count.1 ≡ Some x → Splits bytes (little_bytes 4 (length x.0) ++ flat_map encode x.0) x.1 × (length x.0 ≡ count.0) × (length x.0 < 2 ^ 32) × AllByRecursion Is x.0
counted_taken item encode Is laws bytes count x fits count-is x-is =
    let a = number_taken 4 bytes count fits count-is in
    let b = many_taken item encode Is laws count.0 count.1 x a.0.left x-is in
    let both = Splits-then bytes (little_bytes 4 count.0) count.1 (flat_map encode x.0) x.1 a.0 b.0 in
    let below : count.0 < 2 ^ 32 = omega (arith, a.1) in
    (subst (λ (k : ℕ). Splits bytes (little_bytes 4 k ++ flat_map encode x.0) x.1) (sym b.1) both, b.1, subst (λ (k : ℕ). k < 2 ^ 32) (sym b.1) below, b.2)

epoch_taken : (bytes : List ℕ) (x : Epoch × List ℕ) → AreBytes bytes → epoch_body_at bytes ≡ Some x → Splits bytes (epoch_body x.0) x.1 × IsEpoch x.0
unfolding epoch_body_at
epoch_taken bytes x fits e =
    let a = bind_some (number_at 1 bytes) epoch_kind x e in
    let b = bind_some (number_at 4 a.0.1) (epoch_slices a.0) x a.2 in
    let c = bind_some (many_at slice_at b.0.0 b.0.1) (epoch_count a.0 b.0) x b.2 in
    let d = bind_some (number_at 4 c.0.1) (epoch_answers a.0 b.0 c.0) x c.2 in
    let f = bind_some (many_at answer_at d.0.0 d.0.1) (epoch_end a.0 b.0 c.0) x d.2 in
    let made : Epoch × List ℕ = (record { slices = c.0.0; answers = f.0.0 }, f.0.1) in
    let g = cond_some (eqb a.0.0 0 && ltb 0 b.0.0 && leb (steps_of c.0.0) MAX_EPOCH_STEPS) made x f.2 in
    let tests = and_parts (eqb a.0.0 0 && ltb 0 b.0.0) (leb (steps_of c.0.0) MAX_EPOCH_STEPS) g.0 in
    let both_tests = and_parts (eqb a.0.0 0) (ltb 0 b.0.0) tests.0 in
    let some : 0 < b.0.0 = ltb-true _ _ both_tests.1 in
    let kind = byte_taken 0 bytes a.0 fits a.1 (eqb-true _ _ both_tests.0) in
    let slices = counted_taken slice_at slice IsSlice slice_code a.0.1 b.0 c.0 kind.left b.1 c.1 in
    let answers = counted_taken answer_at answer IsAnswer answer_code c.0.1 d.0 f.0 slices.0.left d.1 f.1 in
    let behind = Splits-then a.0.1 (little_bytes 4 (length c.0.0) ++ flat_map slice c.0.0) c.0.1 (counted_answers f.0.0) f.0.1 slices.0 answers.0 in
    let flat = Splits-regroup a.0.1 (little_bytes 4 (length c.0.0)) (flat_map slice c.0.0) (counted_answers f.0.0) f.0.1 behind in
    let whole = Splits-then bytes (0 ∷ []) a.0.1 (counted_slices c.0.0 (counted_answers f.0.0)) f.0.1 kind flat in
    let is-epoch : IsEpoch made.0 = record { some_slice = subst (λ (k : ℕ). 0 < k) (sym slices.1) some; slice_count = slices.2; slices = slices.3; steps = leb-true _ _ tests.1; answer_count = answers.2; answers = answers.3 } in
    subst (λ (y : Epoch × List ℕ). Splits bytes (epoch_body y.0) y.1 × IsEpoch y.0) {x = made} g.1 (whole, is-epoch)

epoch_found : (e : Epoch) (rest : List ℕ) → IsEpoch e → epoch_body_at (epoch_body e ++ rest) ≡ Some (e, rest)
unfolding epoch_body_at
epoch_found e rest fits =
    let kind : ℕ × List ℕ = (0, counted_slices e.slices (counted_answers e.answers) ++ rest) in
    let slice_count : ℕ × List ℕ = (length e.slices, flat_map slice e.slices ++ (counted_answers e.answers ++ rest)) in
    let slices : List Slice × List ℕ = (e.slices, counted_answers e.answers ++ rest) in
    let answer_count : ℕ × List ℕ = (length e.answers, flat_map answer e.answers ++ rest) in
    let answers : List Answer × List ℕ = (e.answers, rest) in
    let found : Epoch × List ℕ = (e, rest) in
    let split : counted_slices e.slices (counted_answers e.answers) ++ rest ≡ little_bytes 4 (length e.slices) ++ slice_count.1
    = append_assoc (little_bytes 4 (length e.slices)) (flat_map slice e.slices ++ counted_answers e.answers) rest
    ∙ ap (λ (t : List ℕ). little_bytes 4 (length e.slices) ++ t) (append_assoc (flat_map slice e.slices) (counted_answers e.answers) rest) in
    let slice_count-is : number_at 4 kind.1 ≡ Some slice_count = ap (number_at 4) split ∙ number_found 4 (length e.slices) slice_count.1 (omega (arith, fits.slice_count)) in
    let slices-are = many_found slice_at slice IsSlice slice_code e.slices slices.1 fits.slices in
    let answer_count-is : number_at 4 slices.1 ≡ Some answer_count = ap (number_at 4) (append_assoc (little_bytes 4 (length e.answers)) (flat_map answer e.answers) rest) ∙ number_found 4 (length e.answers) answer_count.1 (omega (arith, fits.answer_count)) in
    let answers-are = many_found answer_at answer IsAnswer answer_code e.answers rest fits.answers in
    let some : ltb 0 (length e.slices) ≡ true = lt-ltb _ _ fits.some_slice in
    let few : leb (steps_of e.slices) MAX_EPOCH_STEPS ≡ true = le-leb _ _ fits.steps in
    let last : epoch_end kind slice_count slices answers ≡ Some found = cond-true _ _ _ (and_from _ _ some few) in
    bind_at (number_at 1 (epoch_body e ++ rest)) epoch_kind kind (Some found) (number_found 1 0 kind.1 (omega arith))
    (bind_at (number_at 4 kind.1) (epoch_slices kind) slice_count (Some found) slice_count-is
    (bind_at (many_at slice_at slice_count.0 slice_count.1) (epoch_count kind slice_count) slices (Some found) slices-are
    (bind_at (number_at 4 slices.1) (epoch_answers kind slice_count slices) answer_count (Some found) answer_count-is
    (bind_at (many_at answer_at answer_count.0 answer_count.1) (epoch_end kind slice_count slices) answers (Some found) answers-are last))))

pub epoch_code : IsPrefixCode epoch_body_at epoch_body IsEpoch
epoch_code = code_from epoch_body_at epoch_body IsEpoch epoch_found epoch_taken
