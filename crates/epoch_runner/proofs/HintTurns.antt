-- The turn that hints name, rule by rule.
use Rattle.std.proofs.Common.{◌≡◌, ◌<◌, ◌≤◌, ℕ, true, false, cond, not, ◌&&◌, length, Option, Some, None, refl, sym, ap, subst, ◌∙◌}
use Rattle.std.proofs.lemmas.Bool.{and_from, and_parts, cond-true, not-true, not_from_false}
use Rattle.dp_base.specs.declared.tid.Tid.{Tid}
use Rattle.guest_kernel.specs.declared.state.State.{State}
use Rattle.epoch_runner.specs.declared.hint_stage.HintTurn.{HintTurn}
use Rattle.epoch_runner.specs.declared.hint_stage.HintStage.{HintStage}
use Rattle.epoch_runner.specs.declared.hint_stage.HintStage.TheVariants.{Others, Own, Last}
use Rattle.epoch_runner.specs.Hinted.{Following, HintedTurn, by_last_rule, by_others, by_own, by_stage, entry_turn, goes_plain, hinted, is_thread, last_rule, plain_turn, rule_1, rule_4}
use Rattle.epoch_runner.specs.HintRun.{IsAt, IsNextTurn}
use Rattle.epoch_runner.proofs.LowestThreads.{lowest_itself, lowest_passes}
use Rattle.supply.specs.Supplied.{Supplied}
use Rattle.sync_hints.specs.declared.hints.SyncHint.{SyncHint}

-- ---- by the stage

pub others_none : (s : State) (w : Supplied) (f : Following) (entry : SyncHint) (from : ℕ) → f.stage ≡ Others entry from → rule_1 s f.left entry from ≡ None → hinted s w f ≡ by_own s w f entry
others_none s w f entry from stage none = ap (by_stage s w f) stage ∙ ap (by_others s w f entry) none

-- a plain turn, and the stage at which it is taken
plain_found : (next : Option HintedTurn) (s : State) (f : Following) (tid : Tid) (stage : HintStage) (turn : HintTurn) → turn ≡ record { tid = tid; fresh = false; is_plain = true } → next ≡ plain_turn f tid stage
    → IsAt stage tid → goes_plain s f.left tid ≡ true → IsNextTurn next s f (record f { stage = stage }) turn
plain_found next s f tid stage turn turn_is is at goes =
    subst (λ t. IsNextTurn next s f (record f { stage = stage }) t) (sym turn_is) (record { is = is; same = refl; plain = λ plain. (at, goes) })

pub others_found : (s : State) (w : Supplied) (f : Following) (entry : SyncHint) (from : ℕ) (tid : Tid) (turn : HintTurn) → f.stage ≡ Others entry from → rule_1 s f.left entry from ≡ Some tid
    → turn ≡ record { tid = tid; fresh = false; is_plain = true } → IsNextTurn (hinted s w f) s f (record f { stage = Others entry tid.0 }) turn
others_found s w f entry from tid turn stage found turn_is =
    let two = and_parts (not (is_thread (Some entry.tid) tid)) (goes_plain s f.left tid) (lowest_passes (λ x. not (is_thread (Some entry.tid) x) && goes_plain s f.left x) from s.threads tid found) in
    plain_found (hinted s w f) s f tid (Others entry tid.0) turn turn_is (ap (by_stage s w f) stage ∙ ap (by_others s w f entry) found) (refl, not-true (is_thread (Some entry.tid) tid) two.0) two.1

pub last_found : (s : State) (w : Supplied) (f : Following) (from : ℕ) (tid : Tid) (turn : HintTurn) → f.stage ≡ Last from → last_rule s f.left from ≡ Some tid
    → turn ≡ record { tid = tid; fresh = false; is_plain = true } → IsNextTurn (hinted s w f) s f (record f { stage = Last tid.0 }) turn
last_found s w f from tid turn stage found turn_is =
    plain_found (hinted s w f) s f tid (Last tid.0) turn turn_is (ap (by_stage s w f) stage ∙ ap (by_last_rule f) found) refl (lowest_passes (goes_plain s f.left) from s.threads tid found)

-- ---- a thread whose plain turns are taken

-- it goes on while it can
pub goes_on_plain : (s : State) (w : Supplied) (f : Following) (tid : Tid) → IsAt f.stage tid → goes_plain s f.left tid ≡ true → 0 < tid.0 → tid.0 ≤ length s.threads → hinted s w f ≡ plain_turn f tid f.stage
goes_on_plain s w f tid at goes numbered within = by f.stage refl at
  where
    by : (stage : HintStage) → f.stage ≡ stage → IsAt stage tid → by_stage s w f stage ≡ plain_turn f tid stage
    by (Others entry from) is at =
        ap (λ n. by_others s w f entry (rule_1 s f.left entry n)) at.0
        ∙ ap (by_others s w f entry) (lowest_itself (λ x. not (is_thread (Some entry.tid) x) && goes_plain s f.left x) s.threads tid numbered within (and_from (not (is_thread (Some entry.tid) tid)) (goes_plain s f.left tid) (not_from_false (is_thread (Some entry.tid) tid) at.1) goes))
        ∙ ap (λ n. plain_turn f tid (Others entry n)) (sym at.0)
    by (Own entry) is at =
        cond-true (goes_plain s f.left entry.tid) (plain_turn f entry.tid (Own entry)) (cond (rule_4 s w f.left entry) (entry_turn f entry) None) (ap (goes_plain s f.left) at ∙ goes)
        ∙ ap (λ t. plain_turn f t (Own entry)) at
    by (Last from) is at =
        ap (λ n. by_last_rule f (last_rule s f.left n)) at ∙ ap (by_last_rule f) (lowest_itself (goes_plain s f.left) s.threads tid numbered within goes) ∙ ap (λ n. plain_turn f tid (Last n)) (sym at)
