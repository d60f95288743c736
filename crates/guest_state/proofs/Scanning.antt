-- Registers, threads and pages that are read in a loop: what is read so far, with what is left to read.
use Rattle.std.proofs.Common.{◌≡◌, ℕ, suc, ◌+◌, ◌-◌, ◌<◌, ◌≤◌, Bool, true, false, cond, ◌&&◌, leb, List, [], ◌∷◌, ◌++◌, length, take, Option, Some, None, refl, sym, ap, ◌∙◌, arith, append_assoc}
use Rattle.std.specs.Prelude.{slice_set}
use Rattle.std.specs.Option.{option_map}
use Rattle.std.proofs.lemmas.List.{take_more_set, append-nil, take_all}
use Rattle.std.proofs.lemmas.List.Sums.{sum_by-cons}
use Rattle.std.proofs.Math.Bool.{and-true, and_assoc}
use Rattle.dp_base.specs.declared.page.Page.{Page}
use Rattle.dp_base.specs.Field.{number_at}
use Rattle.dp_base.specs.Journal.{many_at}
use Rattle.guest_state.specs.declared.thread.Thread.{Thread}
use Rattle.guest_state.specs.Checkpoint.{is_alive, live, thread_from, page_from, rising_from}
use Rattle.guest_state.specs.View.{Skipped, counting, testing}
use Rattle.guest_state.proofs.Many.{led_by, one_read, none_read, all_read}

minus : (m n left : ℕ) → m - n ≡ suc left → m - (n + 1) ≡ left
minus m n left is = omega (arith, is)

-- a result with so many left, as one with one more read
module _ {X Z : Type 0} (item : List ℕ → Option (X × List ℕ)) where
  left_read : (g h : List X × List ℕ → Z) (m n : ℕ) (bytes : List ℕ) (x : X) (rest : List ℕ) → n < m → item bytes ≡ Some (x, rest) → ((p : List X × List ℕ) → g (led_by x p) ≡ h p)
      → option_map g (many_at item (m - n) bytes) ≡ option_map h (many_at item (m - (n + 1)) rest)
  left_read g h m n bytes x rest more is same =
      let size : m - n ≡ suc (m - (n + 1)) = omega (arith, more) in
      ap (λ (k : ℕ). option_map g (many_at item k bytes)) size ∙ one_read item g h (m - (n + 1)) bytes x rest is same

  left_none : (g : List X × List ℕ → Z) (m n : ℕ) (bytes : List ℕ) → n < m → item bytes ≡ None → option_map g (many_at item (m - n) bytes) ≡ None
  left_none g m n bytes more is =
      let size : m - n ≡ suc (m - (n + 1)) = omega (arith, more) in
      ap (λ (k : ℕ). option_map g (many_at item k bytes)) size ∙ none_read item g (m - (n + 1)) bytes is

  left_all : (g : List X × List ℕ → Z) (m n : ℕ) (bytes : List ℕ) → m ≤ n → option_map g (many_at item (m - n) bytes) ≡ Some (g ([], bytes))
  left_all g m n bytes all =
      let size : m - n ≡ 0 = omega (arith, all) in
      ap (λ (k : ℕ). option_map g (many_at item k bytes)) size ∙ all_read item g bytes

-- ---- registers

abbrev pub registers_so_far : (place : ℕ) → List ℕ → List ℕ × List ℕ → List ℕ × List ℕ
registers_so_far place x p = (take place x ++ p.0, p.1)

no_change : (x : List ℕ) (o : Option (List ℕ × List ℕ)) → o ≡ option_map (registers_so_far 0 x) o
no_change x None = refl
no_change x (Some p) = refl

pub no_registers : (x bytes : List ℕ) → many_at (number_at 4) 31 bytes ≡ option_map (registers_so_far 0 x) (many_at (number_at 4) 31 bytes)
no_registers x bytes = no_change x (many_at (number_at 4) 31 bytes)

pub register_more : (x : List ℕ) (place value : ℕ) (bytes rest : List ℕ) → place < 31 → length x ≡ 31 → number_at 4 bytes ≡ Some (value, rest)
    → option_map (registers_so_far place x) (many_at (number_at 4) (31 - place) bytes) ≡ option_map (registers_so_far (place + 1) (slice_set x place value)) (many_at (number_at 4) (31 - (place + 1)) rest)
register_more x place value bytes rest more size is =
    left_read (number_at 4) (registers_so_far place x) (registers_so_far (place + 1) (slice_set x place value)) 31 place bytes value rest more is
    (λ p.
    let one : take place x ++ value ∷ p.0 ≡ take (place + 1) (slice_set x place value) ++ p.0 =
    sym (append_assoc (take place x) (value ∷ []) p.0) ∙ ap (λ (l : List ℕ). l ++ p.0) (sym (take_more_set x place value (omega (arith, size, more)))) in
    ap (with_rest p.1) one)
  where
    with_rest : List ℕ → List ℕ → List ℕ × List ℕ
    with_rest rest l = (l, rest)

pub register_none : (x : List ℕ) (place : ℕ) (bytes : List ℕ) → place < 31 → number_at 4 bytes ≡ None → option_map (registers_so_far place x) (many_at (number_at 4) (31 - place) bytes) ≡ None
register_none x place bytes more is = left_none (number_at 4) (registers_so_far place x) 31 place bytes more is

some_with : List ℕ → List ℕ → Option (List ℕ × List ℕ)
some_with rest l = Some (l, rest)

pub registers_all : (x : List ℕ) (place : ℕ) (bytes : List ℕ) → 31 ≤ place → length x ≡ 31 → option_map (registers_so_far place x) (many_at (number_at 4) (31 - place) bytes) ≡ Some (x, bytes)
unfolding some_with
registers_all x place bytes all size =
    left_all (number_at 4) (registers_so_far place x) 31 place bytes all ∙ ap (some_with bytes) (append-nil (take place x) ∙ take_all place x (omega (arith, size, all)))

-- ---- threads

abbrev pub threads_so_far : (n alive : ℕ) → List Thread × List ℕ → Skipped ℕ
threads_so_far n alive p = counting (n + length p.0) (alive + live p.0) p.1

pub thread_more : (m n alive : ℕ) (bytes : List ℕ) (t : Thread) (rest : List ℕ) (now : ℕ) → n < m → thread_from bytes ≡ Some (t, rest) → now ≡ alive + cond (is_alive t) 1 0
    → option_map (threads_so_far n alive) (many_at thread_from (m - n) bytes) ≡ option_map (threads_so_far (n + 1) now) (many_at thread_from (m - (n + 1)) rest)
thread_more m n alive bytes t rest now more is counted =
    left_read thread_from (threads_so_far n alive) (threads_so_far (n + 1) now) m n bytes t rest more is
    (λ p. let size : n + length (t ∷ p.0) ≡ n + 1 + length p.0 = omega arith in
    let one : live (t ∷ p.0) ≡ cond (is_alive t) 1 0 + live p.0 = sum_by-cons (λ x. cond (is_alive x) 1 0) t p.0 in
    let number : alive + live (t ∷ p.0) ≡ now + live p.0 = omega (arith, counted, one) in
    ap (λ (k : ℕ). counting k (alive + live (t ∷ p.0)) p.1) size ∙ ap (λ (k : ℕ). counting (n + 1 + length p.0) k p.1) number)

pub thread_none : (m n alive : ℕ) (bytes : List ℕ) → n < m → thread_from bytes ≡ None → option_map (threads_so_far n alive) (many_at thread_from (m - n) bytes) ≡ None
thread_none m n alive bytes more is = left_none thread_from (threads_so_far n alive) m n bytes more is

pub threads_all : (m n alive : ℕ) (bytes : List ℕ) → n ≡ m → option_map (threads_so_far n alive) (many_at thread_from (m - n) bytes) ≡ Some (counting m alive bytes)
threads_all m n alive bytes all =
    left_all thread_from (threads_so_far n alive) m n bytes (omega (arith, all)) ∙ ap (λ (k : ℕ). Some (counting k (alive + 0) bytes)) (omega (arith, all)) ∙ ap (λ (k : ℕ). Some (counting m k bytes)) (omega arith)

-- ---- pages

abbrev pub pages_so_far : (n : ℕ) → Bool → (least : ℕ) → List Page × List ℕ → Skipped Bool
pages_so_far n rise least p = testing (n + length p.0) (rise && rising_from least p.0) p.1

pub page_more : (m n : ℕ) (rise : Bool) (least : ℕ) (bytes : List ℕ) (p : Page) (rest : List ℕ) (now : Bool) → n < m → page_from bytes ≡ Some (p, rest) → now ≡ (rise && leb least p.number)
    → option_map (pages_so_far n rise least) (many_at page_from (m - n) bytes) ≡ option_map (pages_so_far (n + 1) now (p.number + 1)) (many_at page_from (m - (n + 1)) rest)
page_more m n rise least bytes p rest now more is counted =
    left_read page_from (pages_so_far n rise least) (pages_so_far (n + 1) now (p.number + 1)) m n bytes p rest more is
    (λ q. let size : n + length (p ∷ q.0) ≡ n + 1 + length q.0 = omega arith in
    let all : (rise && (leb least p.number && rising_from (p.number + 1) q.0)) ≡ (now && rising_from (p.number + 1) q.0) = sym (and_assoc rise (leb least p.number) (rising_from (p.number + 1) q.0)) ∙ ap (λ (b : Bool). b && rising_from (p.number + 1) q.0) (sym counted) in
    ap (λ (k : ℕ). testing k (rise && rising_from least (p ∷ q.0)) q.1) size ∙ ap (λ (b : Bool). testing (n + 1 + length q.0) b q.1) all)

pub page_none : (m n : ℕ) (rise : Bool) (least : ℕ) (bytes : List ℕ) → n < m → page_from bytes ≡ None → option_map (pages_so_far n rise least) (many_at page_from (m - n) bytes) ≡ None
page_none m n rise least bytes more is = left_none page_from (pages_so_far n rise least) m n bytes more is

pub pages_all : (m n : ℕ) (rise : Bool) (least : ℕ) (bytes : List ℕ) → n ≡ m → option_map (pages_so_far n rise least) (many_at page_from (m - n) bytes) ≡ Some (testing m rise bytes)
pages_all m n rise least bytes all =
    left_all page_from (pages_so_far n rise least) m n bytes (omega (arith, all)) ∙ ap (λ (k : ℕ). Some (testing k (rise && true) bytes)) (omega (arith, all)) ∙ ap (λ (b : Bool). Some (testing m b bytes)) (and-true rise)

-- a bool as a number
pub at_most_one : (b : Bool) → cond b 1 0 ≤ 1
at_most_one true = omega arith
at_most_one false = omega arith
