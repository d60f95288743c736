-- A turn that reads: its step is the call read, which takes input.
use Rattle.std.proofs.Common.{◌≡◌, ◌<◌, ◌≤◌, ℕ, Bool, true, false, cond, Option, Some, None, arith, inl, inr, sym, refl}
use Rattle.std.specs.Prelude.{◌==◌, not, is_some}
use Rattle.std.proofs.lemmas.Bool.{eqb-false}
use Rattle.dp_base.specs.declared.limits.TheConstants.{MAX_CALL_BYTES}
use Rattle.dp_base.specs.Field.{◌>>=◌}
use Rattle.dp_base.specs.Memory.{Memory, bytes_with, fetched}
use Rattle.guest_state.specs.declared.hart.Hart.{Hart}
use Rattle.rv_step.specs.Decoding.{decoded}
use Rattle.rv_step.specs.Effect.{Effect, calls, goes, traps}
use Rattle.rv_step.specs.Step.{effect}
use Rattle.turn_peek.proofs.Reservations.{AsksForNothing, word_asks}
use Rattle.turn_peek.specs.Arguments.{a0, a1, a2, a7, minus, moved, EBADF, EFAULT}
use Rattle.turn_peek.specs.Peek.{effect_peeked, hart_peeked, read_peeked}
use Rattle.turn_peek.specs.ReadCall.{answered_at_once, read_at_once}
use Rattle.turn_peek.specs.declared.peek.Peek.{Peek}
use Rattle.turn_peek.specs.declared.peek.Peek.TheVariants as peeks

-- the read of so many bytes at most from a place, where the input is
abbrev IsReadOf : (input place max : ℕ) → Type 0
IsReadOf input place max = (place ≡ input) × ((0 < max) × (max ≤ MAX_CALL_BYTES))

asked_by : (others zero_len may : Bool) → cond others (Some (minus EBADF)) (cond zero_len (Some 0) (cond may None (Some (minus EFAULT)))) ≡ None → zero_len ≡ false
asked_by true zero_len may e = absurd cc
asked_by false true may e = absurd cc
asked_by false false may e = refl

-- a read that takes input asks for some bytes
asks_for_some : (m : Memory) (fd addr len : ℕ) → answered_at_once m fd addr len ≡ None → 0 < len
asks_for_some m fd addr len e =
    let some : len ≡ 0 → ⊥ = eqb-false len 0 (asked_by (not (fd == 0)) (len == 0) (is_some (bytes_with 2 m addr (moved len))) e) in omega arith

read_is : (input len place max : ℕ) (x : Option ℕ) → (x ≡ None → 0 < len) → read_peeked input (moved len) x ≡ peeks.Read place max → IsReadOf input place max
read_is input len place max (Some answer) some e = absurd cc
read_is input len place max None some e =
    let here : input ≡ place = cc in
    let count : moved len ≡ max = cc in
    let least : 0 < len = some refl in
    (sym here, (omega arith, omega arith))

call_by : (input place max : ℕ) (read : Peek) (reads clock : Bool) → (read ≡ peeks.Read place max → IsReadOf input place max)
    → cond reads read (cond clock peeks.Clock peeks.Sync) ≡ peeks.Read place max → IsReadOf input place max
call_by input place max read true clock is e = is e
call_by input place max read false true is e = absurd cc
call_by input place max read false false is e = absurd cc

no_read : (p : Peek) (place max : ℕ) → AsksForNothing p → p ≡ peeks.Read place max → ⊥
no_read p place max (inl is) e = cc
no_read p place max (inr (inl is)) e = cc
no_read p place max (inr (inr is)) e = cc

effect_is : (h : Hart) (m : Memory) (input place max : ℕ) (p : Peek) (x : Effect) → AsksForNothing p → effect_peeked h m input p x ≡ peeks.Read place max → IsReadOf input place max
effect_is h m input place max p (goes after left) asks e = absurd (no_read p place max asks e)
effect_is h m input place max p calls asks e =
    call_by input place max _ (a7 h == 3) (a7 h == 8) (read_is input (a2 h) place max (read_at_once m h) (asks_for_some m (a0 h) (a1 h) (a2 h))) e
effect_is h m input place max p (traps cause value) asks e = absurd cc

pub read_starts : (h : Hart) (m : Memory) (input place max : ℕ) → hart_peeked h m input ≡ peeks.Read place max → IsReadOf input place max
unfolding hart_peeked
read_starts h m input place max e = effect_is h m input place max _ (effect h m) (word_asks (fetched h.pc m >>= decoded)) e
