-- How what holds at every moment adds up over several calls.
use Rattle.std.proofs.Common.{◌≡◌, ℕ, zero, suc, take, List, [], ◌∷◌, ◌++◌, sym, ◌∙◌, ap, append_assoc}
use Rattle.std.proofs.lemmas.List.{append-nil}
use Rattle.disk_model.specs.History.{History, Moment, now}
use Rattle.std.specs.List.{AllByRecursion}
use Rattle.disk_model.specs.Moments.{Always, Then}

-- what is said of an image and of what was sent
abbrev Claim : Type 1
Claim = List ℕ → List ℕ → Type 0

pub each-append : (P : Claim) (xs ys : List Moment) → AllByRecursion (Then P) xs → AllByRecursion (Then P) ys → AllByRecursion (Then P) (xs ++ ys)
each-append P [] ys a b = b
each-append P (x ∷ xs) ys a b = (a.0, each-append P xs ys a.1 b)

pub each-weaker : (P Q : Claim) → ((image sent : List ℕ) → P image sent → Q image sent) → (xs : List Moment) → AllByRecursion (Then P) xs → AllByRecursion (Then Q) xs
each-weaker P Q f [] a = tt
each-weaker P Q f (x ∷ xs) a = (λ image sent may. f image sent (a.0 image sent may), each-weaker P Q f xs a.1)

-- no call
pub always-start : (P : Claim) (s : History) → Then P (now s) → Always P s s
always-start P s here = record { moments = []; past = sym (append-nil s.past); each = tt; last = here }

-- a call of one moment
pub always-one : (P : Claim) (s t : History) (m : Moment) → t.past ≡ s.past ++ m ∷ [] → Then P m → Then P (now t) → Always P s t
always-one P s t m grown during here = record { moments = m ∷ []; past = grown; each = (during, tt); last = here }

-- one call after another
pub always-then : (P : Claim) (s t u : History) → Always P s t → Always P t u → Always P s u
always-then P s t u a b = record {
  moments = a.moments ++ b.moments;
  past = b.past ∙ ap (λ (l : List Moment). l ++ b.moments) a.past ∙ append_assoc s.past a.moments b.moments;
  each = each-append P a.moments b.moments a.each b.each;
  last = b.last;
}

-- another claim that follows
pub always-weaker : (P Q : Claim) (s t : History) → ((image sent : List ℕ) → P image sent → Q image sent) → Always P s t → Always Q s t
always-weaker P Q s t f a = record {
  moments = a.moments;
  past = a.past;
  each = each-weaker P Q f a.moments a.each;
  last = λ image sent may. f image sent (a.last image sent may);
}

-- of an empty piece nothing is sent
pub got-nothing : (sent : List ℕ) (taken : ℕ) → sent ++ take taken [] ≡ sent
got-nothing sent zero = append-nil sent
got-nothing sent (suc n) = append-nil sent
