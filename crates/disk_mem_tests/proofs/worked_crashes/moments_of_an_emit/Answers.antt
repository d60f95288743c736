use Rattle.std.proofs.Common.{◌≡◌, ◌∷◌, [], ◌++◌, List, ℕ, length, arith, refl, sym, ap, subst, ◌∙◌}
use Rattle.std.proofs.lemmas.List.{append_cancel_left, append-nil, length-append}
use Rattle.disk_model.specs.declared.world.Stream.TheVariants.{Out}
use Rattle.disk_model.specs.History.{Moment}
use Rattle.std.specs.List.{AllByRecursion}
use Rattle.disk_model.specs.Moments.{Then}
use Rattle.disk_model.specs.Steps.{emitted}
use Rattle.disk_mem_tests.proofs.worked_crashes.moments_of_an_emit.Goals as goal

pub returns-clause-nothing_sent : goal.returns-clause-nothing_sent
returns-clause-nothing_sent c = λ h image on_disk a.
    let same : h.sent ++ 8 ∷ [] ≡ h.sent = a.last image (h.sent ++ 8 ∷ []) (record { on_disk = on_disk; taken = 0; got = sym (append-nil (h.sent ++ 8 ∷ [])) }) in
    omega (arith, ap (λ (l : List ℕ). length l) same, length-append h.sent (8 ∷ []))

pub returns-clause-one_sent : goal.returns-clause-one_sent
returns-clause-one_sent c = λ h image none on_disk a.
    let during : Moment = record { pending = h.pending; sent = h.sent; piece = 8 ∷ 9 ∷ [] } in
    let one : during ∷ [] ≡ a.moments = append_cancel_left h.past (during ∷ []) a.moments a.past in
    let each = subst (AllByRecursion (Then (λ image sent. sent ≡ 8 ∷ []))) (sym one) a.each in
    let both : [] ≡ 8 ∷ [] = each.0 image [] (record { on_disk = on_disk; taken = 0; got = sym none ∙ sym (append-nil h.sent) }) in
    omega (arith, ap (λ (l : List ℕ). length l) both)
