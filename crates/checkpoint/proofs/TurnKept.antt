-- A turn keeps a state encodable.
use Rattle.std.proofs.Common.{◌≡◌, ◌^◌, ◌<◌, List, Option, Some, None, Result, Ok, Err, refl, subst}
use Rattle.std.specs.List.{AllByRecursion}
use Rattle.std.proofs.lemmas.Bool.{cond_both}
use Rattle.dp_base.specs.declared.answer.Answer.{Answer}
use Rattle.dp_base.specs.Journal.{IsAnswer}
use Rattle.dp_base.specs.declared.tid.Tid.{Tid}
use Rattle.guest_state.specs.declared.thread.Thread.{Thread}
use Rattle.guest_state.specs.declared.thread.Thread.TheVariants.{Runs, Waits, Gone}
use Rattle.guest_kernel.specs.declared.state.State.{State}
use Rattle.guest_kernel.specs.Call.{After, TurnRefusal}
use Rattle.guest_kernel.specs.State.{has_ended, without_reservation}
use Rattle.guest_kernel.specs.Threads.{AreFew, thread_at}
use Rattle.guest_kernel.specs.Turn.{turn, by_effect, by_thread}
use Rattle.rv_step.specs.Step.{effect}
use Rattle.checkpoint.specs.State.{IsEncodable}
use Rattle.checkpoint.proofs.Keeping.{built}
use Rattle.checkpoint.proofs.TurnLaws.{Fits, Keeps, TurnLaws}
use Rattle.checkpoint.proofs.Turning.{few_before, runs_keeps}

abbrev KeepsAll : State → Tid → Result After TurnRefusal → Type 0
KeepsAll s tid (Ok after) = Fits s after.state tid × AreFew s.threads
KeepsAll s tid (Err refusal) = Unit {0}

with_few : (s : State) (tid : Tid) (r : Result After TurnRefusal) → AreFew s.threads → Keeps s tid r → KeepsAll s tid r
with_few s tid (Ok after) few keeps = (keeps, few)
with_few s tid (Err refusal) few keeps = tt

thread_keeps : (laws : TurnLaws) (s : State) (tid : Tid) (log : List Answer) (o : Option Thread) → AllByRecursion IsAnswer log → IsEncodable (without_reservation s tid) → thread_at s.threads tid ≡ o → KeepsAll s tid (by_thread s tid log o)
thread_keeps laws s tid log None answers_are is there = tt
thread_keeps laws s tid log (Some (Runs hart clear)) answers_are is there =
    with_few s tid (by_effect s tid hart clear log (effect hart s.pages)) (few_before laws s tid hart clear log answers_are is there) (runs_keeps laws s tid hart clear log answers_are is there)
thread_keeps laws s tid log (Some (Waits addr hart clear)) answers_are is there = tt
thread_keeps laws s tid log (Some (Gone code)) answers_are is there = tt

pub turn_keeps : TurnLaws → (s : State) (tid : Tid) (log : List Answer) (after : After) → IsEncodable (without_reservation s tid) → AllByRecursion IsAnswer log → turn s tid log ≡ Ok after → after.state.steps < 2 ^ 64 → after.state.input < 2 ^ 64
    → IsEncodable (without_reservation after.state tid)
unfolding turn
turn_keeps laws s tid log after is answers_are taken steps input =
    let kept = subst (KeepsAll s tid) taken (cond_both (has_ended s.end) _ _ (KeepsAll s tid) (λ _. tt) (λ _. thread_keeps laws s tid log (thread_at s.threads tid) answers_are is refl)) in
    let few = laws.slice_few after.state tid (laws.few s tid log after taken kept.1) in
    built (without_reservation after.state tid) s.heap (record { each = kept.0.each; some = kept.0.some; few = few.made; alive = few.alive }) kept.0.pages (kept.0.rest steps input)
