-- Ends, threads and pages: decoded as they are encoded, and in no other way.
use Rattle.std.proofs.Common.{◌≡◌, ℕ, ◌^◌, ◌<◌, cond, eqb, ltb, ◌&&◌, List, [], ◌++◌, Option, Some, None, refl, sym, ap, subst, arith, inl, inr}
use Rattle.std.specs.List.{flat_map}
use Rattle.std.proofs.lemmas.Bool.{and_parts, eqb-true, ltb-true, lt-ltb, and_from, cond-true}
use Rattle.std.proofs.lemmas.Option.{cond_some, same_Some}
use Rattle.byteorder.specs.Endian.{little_bytes}
use Rattle.dp_base.specs.declared.limits.TheConstants.{PAGE_BYTES, PAGE_NUMBERS}
use Rattle.dp_base.specs.declared.page.Page.{Page}
use Rattle.dp_base.specs.declared.tid.Tid.{Tid}
use Rattle.dp_base.specs.Encoding.{IsPrefixCode}
use Rattle.dp_base.specs.Field.{AreBytes, number_at}
use Rattle.dp_base.proofs.Fields.{Splits, number_code, code_from}
use Rattle.guest_state.specs.declared.end.End.{End}
use Rattle.guest_state.specs.declared.end.End.TheVariants as ends
use Rattle.guest_state.specs.declared.hart.Hart.{Hart}
use Rattle.guest_state.specs.declared.thread.Thread.{Thread}
use Rattle.guest_state.specs.declared.thread.Thread.TheVariants.{Runs, Waits, Gone}
use Rattle.guest_state.specs.Checkpoint.{IsWord, IsEnd, IsFreeHart, IsThread, IsPageContent, word, end_bytes, end_from, exit_from, trap_from, page_bytes, page_from, hart_bytes, hart_from, thread_bytes, thread_from, runs_from, waits_from, gone_from}
use Rattle.guest_state.proofs.Steps.{take_step, find_step, find_first, grouped, made_of, many_code, bytes_code, Behind, of_kind}
use Rattle.dp_base.proofs.Epochs.{chosen, only_if}

-- ---- pages

page_taken : (bytes : List ℕ) (x : Page × List ℕ) → AreBytes bytes → page_from bytes ≡ Some x → Splits bytes (page_bytes x.0) x.1 × IsPageContent x.0
unfolding page_from
page_taken bytes x fits e =
    let number = take_step (number_code 4) _ bytes x fits e in
    let flags = take_step (number_code 1) _ number.rest x number.left number.goes_on in
    let content = take_step (bytes_code PAGE_BYTES) _ flags.rest x flags.left flags.goes_on in
    let made : Page × List ℕ = (record { number = number.value; flags = flags.value; bytes = content.value }, content.rest) in
    let g = cond_some (ltb number.value PAGE_NUMBERS && ltb flags.value 8) made x content.goes_on in
    let tests = and_parts (ltb number.value PAGE_NUMBERS) (ltb flags.value 8) g.0 in
    let whole = grouped number (little_bytes 1 flags.value ++ content.value) content.rest (grouped flags content.value content.rest content.joined) in
    subst (λ (y : Page × List ℕ). Splits bytes (page_bytes y.0) y.1 × IsPageContent y.0) {x = made} g.1
    (record { joined = whole; left = content.left }, record { number = ltb-true _ _ tests.0; flags = ltb-true _ _ tests.1; count = content.is.0; bytes = content.is.1 })

page_found : (p : Page) (rest : List ℕ) → IsPageContent p → page_from (page_bytes p ++ rest) ≡ Some (p, rest)
unfolding page_from
page_found p rest is =
    let found : Option (Page × List ℕ) = Some (p, rest) in
    let last : cond (ltb p.number PAGE_NUMBERS && ltb p.flags 8) found None ≡ found = cond-true _ _ _ (and_from _ _ (lt-ltb _ _ is.number) (lt-ltb _ _ is.flags)) in
    find_first (number_code 4) _ p.number (little_bytes 1 p.flags ++ p.bytes) rest found (omega (arith, is.number))
    (find_first (number_code 1) _ p.flags p.bytes rest found (omega (arith, is.flags))
    (find_step (bytes_code PAGE_BYTES) _ p.bytes rest found (is.count, is.bytes) last))

pub page_code : IsPrefixCode page_from page_bytes IsPageContent
page_code = code_from page_from page_bytes IsPageContent page_found page_taken

-- ---- ends

pub word_code : IsPrefixCode (number_at 4) word IsWord
word_code = code_from (number_at 4) word IsWord
    (λ n rest is. (number_code 4).decoded n rest (omega (arith, is)))
    (λ bytes x fits e. let t = (number_code 4).encoded bytes x.0 x.1 fits e in (record { joined = t.0; left = t.2 }, omega (arith, t.1)))

exit_taken : (bytes : List ℕ) (x : End × List ℕ) → AreBytes bytes → exit_from bytes ≡ Some x → Behind end_bytes IsEnd 1 bytes x
unfolding exit_from
exit_taken bytes x fits e = made_of word_code ends.Exit 1 (λ code. refl) (λ code is. is) bytes x fits e

trap_taken : (bytes : List ℕ) (x : End × List ℕ) → AreBytes bytes → trap_from bytes ≡ Some x → Behind end_bytes IsEnd 2 bytes x
unfolding trap_from
trap_taken bytes x fits e =
    let tid = take_step (number_code 2) _ bytes x fits e in
    let cause = take_step (number_code 1) _ tid.rest x tid.left tid.goes_on in
    let value = take_step (number_code 4) _ cause.rest x cause.left cause.goes_on in
    let made : End × List ℕ = (ends.Trap (record { 0 = tid.value }) cause.value value.value, value.rest) in
    let g = cond_some (ltb cause.value 8) made x value.goes_on in
    let body = little_bytes 2 tid.value ++ (little_bytes 1 cause.value ++ word value.value) in
    let small_tid : tid.value < 2 ^ 16 = omega (arith, tid.is) in
    let small : IsWord value.value = omega (arith, value.is) in
    let whole = grouped tid (little_bytes 1 cause.value ++ word value.value) value.rest (grouped cause (word value.value) value.rest value.joined) in
    subst (Behind end_bytes IsEnd 2 bytes) {x = made} g.1 (record { body = body; encoded = refl; joined = whole; left = value.left; is = (small_tid, ltb-true _ _ g.0, small) })

end_taken : (bytes : List ℕ) (x : End × List ℕ) → AreBytes bytes → end_from bytes ≡ Some x → Splits bytes (end_bytes x.0) x.1 × IsEnd x.0
unfolding end_from
end_taken bytes x fits e =
    let kind = take_step (number_code 1) _ bytes x fits e in
    let none_at : End × List ℕ = (ends.None, kind.rest) in
    let dead_at : End × List ℕ = (ends.Deadlock, kind.rest) in
    let third : Option (End × List ℕ) = cond (eqb kind.value 3) (Some dead_at) None in
    let second : Option (End × List ℕ) = cond (eqb kind.value 2) (trap_from kind.rest) third in
    let first : Option (End × List ℕ) = cond (eqb kind.value 1) (exit_from kind.rest) second in
    elim (chosen (eqb kind.value 0) (Some none_at) first (Some x) kind.goes_on) [
      | inl w ↦ of_kind kind 0 x (eqb-true _ _ w.0) (subst (Behind end_bytes IsEnd 0 kind.rest) (same_Some _ _ w.1) (record { body = []; encoded = refl; joined = refl; left = kind.left; is = tt }))
      | inr w ↦ elim (chosen (eqb kind.value 1) (exit_from kind.rest) second (Some x) w.1) [
        | inl v ↦ of_kind kind 1 x (eqb-true _ _ v.0) (exit_taken kind.rest x kind.left v.1)
        | inr v ↦ elim (chosen (eqb kind.value 2) (trap_from kind.rest) third (Some x) v.1) [
          | inl u ↦ of_kind kind 2 x (eqb-true _ _ u.0) (trap_taken kind.rest x kind.left u.1)
          | inr u ↦ let g = only_if (eqb kind.value 3) (Some dead_at) x u.1 in
              of_kind kind 3 x (eqb-true _ _ g.0) (subst (Behind end_bytes IsEnd 3 kind.rest) (same_Some _ _ g.1) (record { body = []; encoded = refl; joined = refl; left = kind.left; is = tt }))
        ]
      ]
    ]

exit_found : (code : ℕ) (rest : List ℕ) → IsWord code → exit_from (word code ++ rest) ≡ Some (ends.Exit code, rest)
unfolding exit_from
exit_found code rest is = find_step word_code _ code rest (Some (ends.Exit code, rest)) is refl

trap_found : (tid : Tid) (cause value : ℕ) (rest : List ℕ) → IsEnd (ends.Trap tid cause value) → trap_from ((little_bytes 2 tid.0 ++ (little_bytes 1 cause ++ word value)) ++ rest) ≡ Some (ends.Trap tid cause value, rest)
unfolding trap_from
trap_found tid cause value rest is =
    let found : Option (End × List ℕ) = Some (ends.Trap tid cause value, rest) in
    let last : cond (ltb cause 8) found None ≡ found = cond-true _ _ _ (lt-ltb _ _ is.1) in
    find_first (number_code 2) _ tid.0 (little_bytes 1 cause ++ word value) rest found (omega (arith, is.0))
    (find_first (number_code 1) _ cause (word value) rest found (omega (arith, is.1))
    (find_step (number_code 4) _ value rest found (omega (arith, is.2)) last))

end_found : (e : End) (rest : List ℕ) → IsEnd e → end_from (end_bytes e ++ rest) ≡ Some (e, rest)
unfolding end_from
end_found ends.None rest is = find_step (number_code 1) _ 0 rest (Some (ends.None, rest)) (omega arith) refl
end_found (ends.Exit code) rest is = find_step (number_code 1) _ 1 (word code ++ rest) (Some (ends.Exit code, rest)) (omega arith) (exit_found code rest is)
end_found (ends.Trap tid cause value) rest is = find_step (number_code 1) _ 2 ((little_bytes 2 tid.0 ++ (little_bytes 1 cause ++ word value)) ++ rest) (Some (ends.Trap tid cause value, rest)) (omega arith) (trap_found tid cause value rest is)
end_found ends.Deadlock rest is = find_step (number_code 1) _ 3 rest (Some (ends.Deadlock, rest)) (omega arith) refl

pub end_code : IsPrefixCode end_from end_bytes IsEnd
end_code = code_from end_from end_bytes IsEnd end_found end_taken

-- ---- harts and threads

-- a hart with its clear-on-exit address, as one value
abbrev Clearing : Type 0
Clearing = Hart × ℕ

abbrev clearing_bytes : Clearing → List ℕ
clearing_bytes c = hart_bytes c.0 c.1

abbrev IsClearing : Clearing → Type 0
IsClearing c = IsFreeHart c.0 × IsWord c.1

hart_taken : (bytes : List ℕ) (x : Clearing × List ℕ) → AreBytes bytes → hart_from bytes ≡ Some x → Splits bytes (clearing_bytes x.0) x.1 × IsClearing x.0
unfolding hart_from
hart_taken bytes x fits e =
    let pc = take_step word_code _ bytes x fits e in
    let clear = take_step word_code _ pc.rest x pc.left pc.goes_on in
    let regs = take_step (many_code word_code 31) _ clear.rest x clear.left clear.goes_on in
    let hart : Hart = record { pc = pc.value; x = regs.value; held = None } in
    let made : Clearing × List ℕ = ((hart, clear.value), regs.rest) in
    let whole = grouped pc (word clear.value ++ flat_map word regs.value) regs.rest (grouped clear (flat_map word regs.value) regs.rest regs.joined) in
    subst (λ (y : Clearing × List ℕ). Splits bytes (clearing_bytes y.0) y.1 × IsClearing y.0) {x = made} (same_Some _ _ regs.goes_on)
    (record { joined = whole; left = regs.left }, (record { pc = pc.is; count = regs.is.0; registers = regs.is.1; free = refl }, clear.is))

-- a hart without a reservation is its pc and registers
free_hart : (hart : Hart) → IsFreeHart hart → record { pc = hart.pc; x = hart.x; held = None } ≡ hart
free_hart hart is = ap (λ (h : Option ℕ). record hart { held = h }) (sym is.free)

hart_found : (c : Clearing) (rest : List ℕ) → IsClearing c → hart_from (clearing_bytes c ++ rest) ≡ Some (c, rest)
unfolding hart_from
hart_found c rest is =
    let found : Option (Clearing × List ℕ) = Some (c, rest) in
    let last : Some ((record { pc = c.0.pc; x = c.0.x; held = None }, c.1), rest) ≡ found = ap (λ (h : Hart). Some ((h, c.1), rest)) (free_hart c.0 is.0) in
    find_first word_code _ c.0.pc (word c.1 ++ flat_map word c.0.x) rest found is.0.pc
    (find_first word_code _ c.1 (flat_map word c.0.x) rest found is.1
    (find_step (many_code word_code 31) _ c.0.x rest found (is.0.count, is.0.registers) last))

hart_code : IsPrefixCode hart_from clearing_bytes IsClearing
hart_code = code_from hart_from clearing_bytes IsClearing hart_found hart_taken

runs_taken : (bytes : List ℕ) (x : Thread × List ℕ) → AreBytes bytes → runs_from bytes ≡ Some x → Behind thread_bytes IsThread 0 bytes x
unfolding runs_from
runs_taken bytes x fits e = made_of hart_code (λ (c : Clearing). Runs c.0 c.1) 0 (λ c. refl) (λ c is. is) bytes x fits e

waits_taken : (bytes : List ℕ) (x : Thread × List ℕ) → AreBytes bytes → waits_from bytes ≡ Some x → Behind thread_bytes IsThread 1 bytes x
unfolding waits_from
waits_taken bytes x fits e =
    let addr = take_step word_code _ bytes x fits e in
    let hart = take_step hart_code _ addr.rest x addr.left addr.goes_on in
    subst (Behind thread_bytes IsThread 1 bytes) (same_Some _ _ hart.goes_on)
    (record { body = word addr.value ++ clearing_bytes hart.value; encoded = refl; joined = grouped addr (clearing_bytes hart.value) hart.rest hart.joined; left = hart.left; is = (addr.is, hart.is.0, hart.is.1) })

gone_taken : (bytes : List ℕ) (x : Thread × List ℕ) → AreBytes bytes → gone_from bytes ≡ Some x → Behind thread_bytes IsThread 2 bytes x
unfolding gone_from
gone_taken bytes x fits e = made_of word_code Gone 2 (λ code. refl) (λ code is. is) bytes x fits e

thread_taken : (bytes : List ℕ) (x : Thread × List ℕ) → AreBytes bytes → thread_from bytes ≡ Some x → Splits bytes (thread_bytes x.0) x.1 × IsThread x.0
unfolding thread_from
thread_taken bytes x fits e =
    let kind = take_step (number_code 1) _ bytes x fits e in
    let second : Option (Thread × List ℕ) = cond (eqb kind.value 2) (gone_from kind.rest) None in
    let first : Option (Thread × List ℕ) = cond (eqb kind.value 1) (waits_from kind.rest) second in
    elim (chosen (eqb kind.value 0) (runs_from kind.rest) first (Some x) kind.goes_on) [
      | inl w ↦ of_kind kind 0 x (eqb-true _ _ w.0) (runs_taken kind.rest x kind.left w.1)
      | inr w ↦ elim (chosen (eqb kind.value 1) (waits_from kind.rest) second (Some x) w.1) [
        | inl v ↦ of_kind kind 1 x (eqb-true _ _ v.0) (waits_taken kind.rest x kind.left v.1)
        | inr v ↦ let g = only_if (eqb kind.value 2) (gone_from kind.rest) x v.1 in of_kind kind 2 x (eqb-true _ _ g.0) (gone_taken kind.rest x kind.left g.1)
      ]
    ]

runs_found : (hart : Hart) (clear : ℕ) (rest : List ℕ) → IsThread (Runs hart clear) → runs_from (hart_bytes hart clear ++ rest) ≡ Some (Runs hart clear, rest)
unfolding runs_from
runs_found hart clear rest is = find_step hart_code _ (hart, clear) rest (Some (Runs hart clear, rest)) is refl

waits_found : (addr : ℕ) (hart : Hart) (clear : ℕ) (rest : List ℕ) → IsThread (Waits addr hart clear) → waits_from ((word addr ++ hart_bytes hart clear) ++ rest) ≡ Some (Waits addr hart clear, rest)
unfolding waits_from
waits_found addr hart clear rest is =
    find_first word_code _ addr (hart_bytes hart clear) rest (Some (Waits addr hart clear, rest)) is.0
    (find_step hart_code _ (hart, clear) rest (Some (Waits addr hart clear, rest)) (is.1, is.2) refl)

gone_found : (code : ℕ) (rest : List ℕ) → IsWord code → gone_from (word code ++ rest) ≡ Some (Gone code, rest)
unfolding gone_from
gone_found code rest is = find_step word_code _ code rest (Some (Gone code, rest)) is refl

thread_found : (t : Thread) (rest : List ℕ) → IsThread t → thread_from (thread_bytes t ++ rest) ≡ Some (t, rest)
unfolding thread_from
thread_found (Runs hart clear) rest is = find_step (number_code 1) _ 0 (hart_bytes hart clear ++ rest) (Some (Runs hart clear, rest)) (omega arith) (runs_found hart clear rest is)
thread_found (Waits addr hart clear) rest is = find_step (number_code 1) _ 1 ((word addr ++ hart_bytes hart clear) ++ rest) (Some (Waits addr hart clear, rest)) (omega arith) (waits_found addr hart clear rest is)
thread_found (Gone code) rest is = find_step (number_code 1) _ 2 (word code ++ rest) (Some (Gone code, rest)) (omega arith) (gone_found code rest is)

pub thread_code : IsPrefixCode thread_from thread_bytes IsThread
thread_code = code_from thread_from thread_bytes IsThread thread_found thread_taken
