use Rattle.std.proofs.Common.{◌≡◌, ◌+◌, ◌<◌, ℕ, zero, suc, add-one, List, [], ◌∷◌, length, drop, get_or, refl, sym, ap, ◌∙◌, arith}
use Rattle.std.specs.List.{AllByRecursion}
use Rattle.dp_base.specs.declared.slice.Slice.{Slice}
use Rattle.recorder.specs.Recording.{thread_after}
use Rattle.recorder.proofs.tally.next_first.Goals as goal

low_at : (xs : List Slice) (i : ℕ) (d : Slice) → AllByRecursion (λ (x : Slice). x.tid.0 < 65535) xs → i < length xs → (get_or xs i d).tid.0 < 65535
low_at [] i d low within = absurd (omega (arith, within))
low_at (x ∷ xs) zero d low within = low.0
low_at (x ∷ xs) (suc i) d low within = low_at xs i d low.1 (omega (arith, within))

next_behind : (xs : List Slice) (i next : ℕ) (d : Slice) → i < length xs → thread_after next (drop i xs) ≡ thread_after ((get_or xs i d).tid.0 + 1) (drop (suc i) xs)
next_behind [] i next d within = absurd (omega (arith, within))
next_behind (x ∷ xs) zero next d within = refl
next_behind (x ∷ xs) (suc i) next d within = next_behind xs i next d (omega (arith, within))

pub loop-slice-preserved : goal.loop-slice-preserved
loop-slice-preserved c = λ low.
    let d : Slice = record { tid = record { 0 = 0 }; steps = 0 } in
    let i = c.loop-slice.slice-index in
    let xs = c.args.slices.now in
    let small = low_at xs i d low c.loop-slice-test.true in
    let is : (get_or xs i d).tid.0 + 1 ≡ c.saturating_add-next.result = omega (arith, small, c.saturating_add-next.ensures) in
    c.loop-slice.invariant low ∙ next_behind xs i c.loop-slice.next d c.loop-slice-test.true ∙ ap (λ n. thread_after n (drop (suc i) xs)) is ∙ ap (λ n. thread_after c.saturating_add-next.result (drop n xs)) (sym (add-one i))
