use Rattle.std.proofs.Common.{◌≡◌, ◌≤◌, ℕ, List, length, subst, sym, ◌∙◌, arith}
use Rattle.dp_base.specs.declared.limits.TheConstants.{MAX_CALL_BYTES}
use Rattle.dp_base.specs.Field.{AreBytes}
use Rattle.epoch_runner.proofs.ready_threads.taking.Goals as goal

pub returns-clause-is_answer : goal.returns-clause-is_answer
returns-clause-is_answer c =
    let same : c.from_vec.result ≡ c.args.bytes.now = c.from_vec.ensures ∙ c.in_ok-copied.ensures.items_if_clones_equal (λ x y e. e) in
    let are : AreBytes c.args.bytes.now = λ i. omega (arith, c.type_inv.bytes i) in
    subst (λ (xs : List ℕ). (length xs ≤ MAX_CALL_BYTES) × AreBytes xs) (sym same) (c.requires.few, are)
