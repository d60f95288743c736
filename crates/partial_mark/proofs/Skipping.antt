-- Threads and pages that are skipped in a loop: what is counted so far, with what is left to read.
use Rattle.std.proofs.Common.{◌≡◌, ℕ, suc, ◌+◌, ◌-◌, ◌<◌, Bool, true, cond, ◌&&◌, leb, List, [], ◌∷◌, length, Option, Some, None, sym, ap, ◌∙◌, arith}
use Rattle.std.specs.Option.{option_map}
use Rattle.std.proofs.lemmas.List.Sums.{sum_by-cons}
use Rattle.std.proofs.Math.Bool.{and-true, and_assoc}
use Rattle.dp_base.specs.Journal.{many_at}
use Rattle.guest_state.specs.declared.thread.Thread.{Thread}
use Rattle.guest_state.specs.Checkpoint.{is_alive, live, rising_from, thread_from}
use Rattle.guest_state.specs.View.{Skipped, counting, testing}
use Rattle.guest_state.proofs.Many.{led_by, one_read, none_read, all_read}
use Rattle.partial_mark.specs.Partial.{PartialPage, partial_page_from}
use Rattle.partial_mark.specs.View.{outlines}

-- a result with so many left to read, as one with one more read
module _ {X Z : Type 0} (item : List ℕ → Option (X × List ℕ)) where
  left_read : (g h : List X × List ℕ → Z) (m n : ℕ) (bytes : List ℕ) (x : X) (rest : List ℕ) → n < m → item bytes ≡ Some (x, rest) → ((p : List X × List ℕ) → g (led_by x p) ≡ h p)
      → option_map g (many_at item (m - n) bytes) ≡ option_map h (many_at item (m - (n + 1)) rest)
  left_read g h m n bytes x rest more is same =
      let size : m - n ≡ suc (m - (n + 1)) = omega (arith, more) in
      ap (λ (k : ℕ). option_map g (many_at item k bytes)) size ∙ one_read item g h (m - (n + 1)) bytes x rest is same

  left_none : (g : List X × List ℕ → Z) (m n : ℕ) (bytes : List ℕ) → n < m → item bytes ≡ None → option_map g (many_at item (m - n) bytes) ≡ None
  left_none g m n bytes more is =
      let size : m - n ≡ suc (m - (n + 1)) = omega (arith, more) in
      ap (λ (k : ℕ). option_map g (many_at item k bytes)) size ∙ none_read item g (m - (n + 1)) bytes is

  left_all : (g : List X × List ℕ → Z) (m n : ℕ) (bytes : List ℕ) → n ≡ m → option_map g (many_at item (m - n) bytes) ≡ Some (g ([], bytes))
  left_all g m n bytes all =
      let size : m - n ≡ 0 = omega (arith, all) in
      ap (λ (k : ℕ). option_map g (many_at item k bytes)) size ∙ all_read item g bytes

-- ---- threads

abbrev pub threads_so_far : (n alive : ℕ) → List Thread × List ℕ → Skipped ℕ
threads_so_far n alive p = counting (n + length p.0) (alive + live p.0) p.1

pub thread_more : (m n alive : ℕ) (bytes : List ℕ) (t : Thread) (rest : List ℕ) (now : ℕ) → n < m → thread_from bytes ≡ Some (t, rest) → now ≡ alive + cond (is_alive t) 1 0
    → option_map (threads_so_far n alive) (many_at thread_from (m - n) bytes) ≡ option_map (threads_so_far (n + 1) now) (many_at thread_from (m - (n + 1)) rest)
thread_more m n alive bytes t rest now more is counted =
    left_read thread_from (threads_so_far n alive) (threads_so_far (n + 1) now) m n bytes t rest more is
    (λ p. let size : n + length (t ∷ p.0) ≡ n + 1 + length p.0 = omega arith in
    let one : live (t ∷ p.0) ≡ cond (is_alive t) 1 0 + live p.0 = sum_by-cons (λ x. cond (is_alive x) 1 0) t p.0 in
    let number : alive + live (t ∷ p.0) ≡ now + live p.0 = omega (arith, counted, one) in
    ap (λ (k : ℕ). counting k (alive + live (t ∷ p.0)) p.1) size ∙ ap (λ (k : ℕ). counting (n + 1 + length p.0) k p.1) number)

pub thread_none : (m n alive : ℕ) (bytes : List ℕ) → n < m → thread_from bytes ≡ None → option_map (threads_so_far n alive) (many_at thread_from (m - n) bytes) ≡ None
thread_none m n alive bytes more is = left_none thread_from (threads_so_far n alive) m n bytes more is

pub threads_all : (m n alive : ℕ) (bytes : List ℕ) → n ≡ m → option_map (threads_so_far n alive) (many_at thread_from (m - n) bytes) ≡ Some (counting m alive bytes)
threads_all m n alive bytes all =
    left_all thread_from (threads_so_far n alive) m n bytes all ∙ ap (λ (k : ℕ). Some (counting k (alive + 0) bytes)) (omega (arith, all)) ∙ ap (λ (k : ℕ). Some (counting m k bytes)) (omega arith)

-- ---- pages

abbrev pub pages_so_far : (n : ℕ) → Bool → (least : ℕ) → List PartialPage × List ℕ → Skipped Bool
pages_so_far n rise least p = testing (n + length p.0) (rise && rising_from least (outlines p.0)) p.1

pub page_more : (m n : ℕ) (rise : Bool) (least : ℕ) (bytes : List ℕ) (p : PartialPage) (rest : List ℕ) (now : Bool) → n < m → partial_page_from bytes ≡ Some (p, rest) → now ≡ (rise && leb least p.number)
    → option_map (pages_so_far n rise least) (many_at partial_page_from (m - n) bytes) ≡ option_map (pages_so_far (n + 1) now (p.number + 1)) (many_at partial_page_from (m - (n + 1)) rest)
page_more m n rise least bytes p rest now more is counted =
    left_read partial_page_from (pages_so_far n rise least) (pages_so_far (n + 1) now (p.number + 1)) m n bytes p rest more is
    (λ q. let size : n + length (p ∷ q.0) ≡ n + 1 + length q.0 = omega arith in
    let others = rising_from (p.number + 1) (outlines q.0) in
    let all : (rise && (leb least p.number && others)) ≡ (now && others) = sym (and_assoc rise (leb least p.number) others) ∙ ap (λ (b : Bool). b && others) (sym counted) in
    ap (λ (k : ℕ). testing k (rise && rising_from least (outlines (p ∷ q.0))) q.1) size ∙ ap (λ (b : Bool). testing (n + 1 + length q.0) b q.1) all)

pub page_none : (m n : ℕ) (rise : Bool) (least : ℕ) (bytes : List ℕ) → n < m → partial_page_from bytes ≡ None → option_map (pages_so_far n rise least) (many_at partial_page_from (m - n) bytes) ≡ None
page_none m n rise least bytes more is = left_none partial_page_from (pages_so_far n rise least) m n bytes more is

pub pages_all : (m n : ℕ) (rise : Bool) (least : ℕ) (bytes : List ℕ) → n ≡ m → option_map (pages_so_far n rise least) (many_at partial_page_from (m - n) bytes) ≡ Some (testing m rise bytes)
pages_all m n rise least bytes all =
    left_all partial_page_from (pages_so_far n rise least) m n bytes all ∙ ap (λ (k : ℕ). Some (testing k (rise && true) bytes)) (omega (arith, all)) ∙ ap (λ (b : Bool). Some (testing m b bytes)) (and-true rise)
