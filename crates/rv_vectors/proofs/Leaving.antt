-- What is left, by what the step answers; and the pages at the start.
use Rattle.std.proofs.Common.{◌≡◌, ◌↔◌, Bool, true, ℕ, List, [], ◌∷◌, ◌++◌, Option, Some, None, refl, ap, ◌∙◌, sym}
use Rattle.std.specs.Int.{w32, to_le_bytes}
use Rattle.std.specs.Option.{option_map}
use Rattle.cow_pages.specs.Mapping.{page_with}
use Rattle.dp_base.specs.Memory.{Memory, page_at}
use Rattle.guest_state.specs.declared.hart.Hart.{Hart}
use Rattle.rv_step.specs.declared.stepped.Stepped.{Stepped}
use Rattle.rv_step.specs.declared.stepped.Stepped.TheVariants.{Went, Ecall, Trap}
use Rattle.rv_step.specs.Effect.{Effect, calls, goes, traps}
use Rattle.rv_step.specs.Step.{answer_for, effect, hart_after, memory_after}
use Rattle.rv_vectors.specs.declared.machine.TheConstants.{CODE_FLAGS, CODE_PAGE, DATA_FLAGS, DATA_PAGE}
use Rattle.rv_vectors.specs.declared.row.After.{After}
use Rattle.rv_vectors.specs.declared.row.Before.{Before}
use Rattle.rv_vectors.specs.Running.{after_of, contents, first_hart, first_memory, left, row_outcome}

-- ---- the step

left_calling : (word : ℕ) (e : Effect) → Ecall ≡ answer_for e → None ≡ left word e
left_calling word (goes h m) is = absurd cc
left_calling word calls is = refl
left_calling word (traps cause value) is = absurd cc

left_trapping : (word : ℕ) (e : Effect) (cause value : ℕ) → Trap cause value ≡ answer_for e → None ≡ left word e
left_trapping word (goes h m) cause value is = absurd cc
left_trapping word calls cause value is = absurd cc
left_trapping word (traps c v) cause value is = refl

left_going : (word : ℕ) (e : Effect) (h : Hart) (m : Memory) → Went ≡ answer_for e
    → option_map (after_of word (hart_after e h)) (option_map (λ p. p.bytes) (page_at (memory_after e m) DATA_PAGE)) ≡ left word e
left_going word (goes after behind) h m is = refl
left_going word calls h m is = absurd cc
left_going word (traps cause value) h m is = absurd cc

-- the effect at the start of a row
same_effect : (word : ℕ) (before : Before) (h : Hart) (m : Memory) → h ≡ first_hart before → m ≡ first_memory word before
    → effect h m ≡ effect (first_hart before) (first_memory word before)
same_effect word before h m hart memory = ap (λ (x : Hart). effect x m) hart ∙ ap (λ (x : Memory). effect (first_hart before) x) memory

pub at_ecall : (word : ℕ) (before : Before) (h : Hart) (m : Memory) (s : Stepped) → h ≡ first_hart before → m ≡ first_memory word before
    → s ≡ answer_for (effect h m) → s ≡ Ecall → None ≡ row_outcome word before
at_ecall word before h m s hart memory answer is =
    left_calling word (effect (first_hart before) (first_memory word before)) (sym is ∙ answer ∙ ap answer_for (same_effect word before h m hart memory))

pub at_trap : (word : ℕ) (before : Before) (h : Hart) (m : Memory) (s : Stepped) (cause value : ℕ) → h ≡ first_hart before → m ≡ first_memory word before
    → s ≡ answer_for (effect h m) → s ≡ Trap cause value → None ≡ row_outcome word before
at_trap word before h m s cause value hart memory answer is =
    left_trapping word (effect (first_hart before) (first_memory word before)) cause value (sym is ∙ answer ∙ ap answer_for (same_effect word before h m hart memory))

pub at_went : (word : ℕ) (before : Before) (h after : Hart) (m behind : Memory) (s : Stepped) (bytes : Option (List ℕ)) → h ≡ first_hart before → m ≡ first_memory word before
    → s ≡ answer_for (effect h m) → s ≡ Went → after ≡ hart_after (effect h m) h → Some behind ≡ Some (memory_after (effect h m) m)
    → bytes ≡ option_map (λ p. p.bytes) (page_at behind DATA_PAGE) → option_map (after_of word after) bytes ≡ row_outcome word before
at_went word before h after m behind s bytes hart memory answer is hart_is memory_is bytes_are =
    let kept : behind ≡ memory_after (effect h m) m = cc in
    ap (λ (o : Option (List ℕ)). option_map (after_of word after) o) bytes_are
    ∙ ap (λ (x : Memory). option_map (after_of word after) (option_map (λ p. p.bytes) (page_at x DATA_PAGE))) kept
    ∙ ap (λ (x : Hart). option_map (after_of word x) (option_map (λ p. p.bytes) (page_at (memory_after (effect h m) m) DATA_PAGE))) hart_is
    ∙ left_going word (effect h m) h m (sym is ∙ answer)
    ∙ ap (λ (e : Effect). left word e) (same_effect word before h m hart memory)

-- what is left is what a row says
pub agreed : (o : Option After) (found wanted : After) (b : Bool) → Some found ≡ o → (b ≡ true) ↔ (found ≡ wanted) → (b ≡ true) ↔ (o ≡ Some wanted)
agreed o found wanted b is alike = (λ t. sym is ∙ ap (λ (a : After). Some a) (alike.0 t), λ e. alike.1 (some_alike found wanted (is ∙ e)))
  where
    some_alike : (a b : After) → Some a ≡ Some b → a ≡ b
    some_alike a b e = cc

-- ---- the pages

pub mapped : (word : ℕ) (before : Before) (none one two : Memory) (code here : List ℕ) → none ≡ [] → one ≡ none ++ page_with CODE_PAGE CODE_FLAGS code ∷ []
    → two ≡ one ++ page_with DATA_PAGE DATA_FLAGS here ∷ [] → code ≡ to_le_bytes w32 word → here ≡ contents before.bytes → two ≡ first_memory word before
mapped word before none one two code here empty first second code_is here_is =
    second
    ∙ ap (λ (x : Memory). x ++ page_with DATA_PAGE DATA_FLAGS here ∷ []) (first ∙ ap (λ (x : Memory). x ++ page_with CODE_PAGE CODE_FLAGS code ∷ []) empty)
    ∙ ap (λ (x : List ℕ). page_with CODE_PAGE CODE_FLAGS x ∷ page_with DATA_PAGE DATA_FLAGS here ∷ []) code_is
    ∙ ap (λ (x : List ℕ). page_with CODE_PAGE CODE_FLAGS (to_le_bytes w32 word) ∷ page_with DATA_PAGE DATA_FLAGS x ∷ []) here_is
