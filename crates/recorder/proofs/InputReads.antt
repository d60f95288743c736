-- What reads take is the input, however it is cut into pieces.
use Rattle.std.proofs.Common.{◌≡◌, ℕ, Bool, true, false, List, [], ◌∷◌, ◌++◌, refl, sym, ap, subst, ◌∙◌, append_assoc}
use Rattle.std.specs.Prelude.{◌||◌, ◌&&◌}
use Rattle.std.proofs.lemmas.List.{append-nil}
use Rattle.dp_base.specs.Encoding.{IsPrefixOf}
use Rattle.dp_base.specs.declared.answer.Answer.{Answer}
use Rattle.dp_base.specs.declared.answer.Answer.TheVariants.{Read}
use Rattle.disk_model.specs.Input.{Input, ReadClock, is_at_end, taken}
use Rattle.guest_kernel.specs.Answers.{bytes_read}
use Rattle.supply.specs.Windows.{bytes_left}
use Rattle.supply.specs.declared.TheConstants.{MAX_ROOM}
use Rattle.supply.proofs.Joined.{none-left}
use Rattle.recorder.specs.Drawing.{RoundInput, Drew, DrewAll, HaveRead, TookIf}
use Rattle.recorder.proofs.Drawings.{TakeLaws}

-- what was given from one moment to another, and what is left
record IsLeft (i j : Input) : Type 0 where
  given : List ℕ
  given_is : j.given ≡ i.given ++ given
  left_is : given ++ bytes_left j.left ≡ bytes_left i.left
  seen : (i.ended ≡ true → is_at_end i.left ≡ true) → j.ended ≡ true → is_at_end j.left ≡ true

left_same : (i : Input) → IsLeft i i
left_same i = record { given = []; given_is = sym (append-nil i.given); left_is = refl; seen = λ before now. before now }

left_then : (i j k : Input) → IsLeft i j → IsLeft j k → IsLeft i k
left_then i j k a b = record {
  given = a.given ++ b.given;
  given_is = b.given_is ∙ ap (λ (l : List ℕ). l ++ b.given) a.given_is ∙ append_assoc i.given a.given b.given;
  left_is = append_assoc a.given b.given (bytes_left k.left) ∙ ap (λ (l : List ℕ). a.given ++ l) b.left_is ∙ a.left_is;
  seen = λ before. b.seen (a.seen before);
}

seen_by : (e a : Bool) → (e ≡ true → a ≡ true) → (e || (a && true)) ≡ true → a ≡ true
seen_by true a before now = before refl
seen_by false true before now = refl
seen_by false false before now = now

module _ (laws : TakeLaws) where
  left_took : (due : Bool) (bytes : List ℕ) (i j : Input) → TookIf due bytes i j → IsLeft i j
  left_took false bytes i j same = subst (IsLeft i) (sym same) (left_same i)
  left_took true bytes i j step = subst (IsLeft i) (sym step.1) (record {
    given = taken MAX_ROOM i.left;
    given_is = refl;
    left_is = laws.one MAX_ROOM i;
    seen = λ before now. laws.stays MAX_ROOM i (seen_by i.ended (is_at_end i.left) before now);
  })

  left_clock : (reading : ℕ) (i j : Input) → ReadClock reading i j → IsLeft i j
  left_clock reading i j step = subst (IsLeft i) (sym step.2) (record {
    given = [];
    given_is = sym (append-nil i.given);
    left_is = refl;
    seen = λ before now. before now;
  })

  left_all : (draws : List RoundInput) (i j : Input) → DrewAll draws i j → IsLeft i j
  left_all [] i j same = subst (IsLeft i) (sym same) (left_same i)
  left_all (d ∷ draws) i j all =
      let mid : Input = all.0 in
      let step : Drew d i mid = all.1 in
      let there : Input = step.0 in
      left_then i mid j (left_then i there mid (left_took d.due d.taken i there step.1) (left_clock d.reading there mid step.2)) (left_all draws mid j all.2)

  cancel : (xs ys zs : List ℕ) → xs ++ ys ≡ xs ++ zs → ys ≡ zs
  cancel [] ys zs is = is
  cancel (x ∷ xs) ys zs is = let rest : xs ++ ys ≡ xs ++ zs = cc in cancel xs ys zs rest

  module _ (draws : List RoundInput) (answers : List Answer) (i j : Input) (drawn : HaveRead draws answers i j) where
    given_left : drawn.1.0 ++ bytes_left j.left ≡ bytes_left i.left
    given_left =
        let there = left_all draws i j drawn.0 in
        let same : drawn.1.0 ≡ there.given = cancel i.given drawn.1.0 there.given (sym drawn.1.1 ∙ there.given_is) in
        ap (λ (l : List ℕ). l ++ bytes_left j.left) same ∙ there.left_is

    pub joined : IsPrefixOf (bytes_read answers) (bytes_left i.left)
    joined =
        let reads = drawn.1.2.reads in
        (reads.0 ++ bytes_left j.left, sym given_left ∙ ap (λ (l : List ℕ). l ++ bytes_left j.left) reads.1 ∙ append_assoc (bytes_read answers) reads.0 (bytes_left j.left))

    pub at_end : (i.ended ≡ true → is_at_end i.left ≡ true) → (before after : List Answer) → answers ≡ before ++ Read [] ∷ after → bytes_read before ≡ bytes_left i.left
    at_end first before after is =
        let there = left_all draws i j drawn.0 in
        let ends = drawn.1.2.ends before after is in
        let none : bytes_left j.left ≡ [] = none-left j.left (there.seen first ends.1) in
        ends.0 ∙ sym (append-nil drawn.1.0) ∙ ap (λ (l : List ℕ). drawn.1.0 ++ l) (sym none) ∙ given_left
