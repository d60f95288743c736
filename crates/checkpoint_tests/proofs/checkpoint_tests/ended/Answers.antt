use Rattle.std.proofs.Common.{◌≡◌, ◌<◌, ◌^◌, ℕ, List, [], Result, Ok, Err, refl, sym, subst, arith}
use Rattle.dp_base.specs.declared.slice.Slice.{Slice}
use Rattle.guest_kernel.specs.declared.state.State.{State}
use Rattle.guest_kernel.specs.declared.slices.SliceRun.{SliceRun}
use Rattle.guest_kernel.specs.declared.slices.SliceRun.TheVariants.{Whole}
use Rattle.guest_kernel.specs.Call.{After}
use Rattle.guest_kernel.specs.Slices.{Stop, new_after, run}
use Rattle.guest_kernel.specs.Stops.{IsRunAnswer}
use Rattle.checkpoint.specs.State.{IsEncodable}
use Rattle.checkpoint_tests.proofs.checkpoint_tests.ended.Goals as goal

-- where a whole run ends
run_end : (s : State) (output : List ℕ) (found : Result After (Stop × After)) → IsRunAnswer Whole s output found → (there : After) × (found ≡ Ok there) × (s ≡ there.state)
run_end s output (Ok there) is = (there, refl, is.0)
run_end s output (Err stop) is = elim is [ ]

whole_run_keeps : (s end : State) (slices : List Slice) (before output : List ℕ) (answer : SliceRun) → before ≡ [] → answer ≡ Whole → IsRunAnswer answer end output (run slices (new_after s before []))
    → ((there : After) → run slices (new_after s [] []) ≡ Ok there → there.state.steps < 2 ^ 64 → there.state.input < 2 ^ 64 → IsEncodable there.state)
    → end.steps < 2 ^ 64 → end.input < 2 ^ 64 → IsEncodable end
whole_run_keeps s end slices before output answer none whole is keeps few early =
    let from_none = subst (λ (b : List ℕ). IsRunAnswer answer end output (run slices (new_after s b []))) none is in
    let there = run_end end output (run slices (new_after s [] [])) (subst (λ (a : SliceRun). IsRunAnswer a end output (run slices (new_after s [] []))) whole from_none) in
    subst IsEncodable (sym there.2) (keeps there.0 there.1 (subst (λ (t : State). t.steps < 2 ^ 64) there.2 few) (subst (λ (t : State). t.input < 2 ^ 64) there.2 early))

pub returns-in-Whole : goal.returns-in-Whole
returns-in-Whole c = whole_run_keeps c.in_ok-state.state c.run_slices.new.self _ c.new-out.result.items c.run_slices.new.out.items c.in_ok-run_slices.field-0
    c.new-out.ensures.items c.in-Whole.is c.in_ok-run_slices.ensures.run
    (λ there. c.a_run_keeps_a_state_encodable.ensures c.in_ok-state.state _ [] there c.in_ok-state.ensures.encodable tt) (omega arith) (omega arith)
