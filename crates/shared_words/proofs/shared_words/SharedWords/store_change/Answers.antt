use Rattle.std.proofs.Common.{◌+◌, ◌*◌, ◌-◌, ℕ, List, ap, sym, ◌∙◌, get_or, arith}
use Rattle.std.specs.Cmp.Lexicographic.{same_text}
use Rattle.shared_words.proofs.Copies.{block_has, block_in_page, part_is, same_has, stores_none, stores_weaker}
use Rattle.shared_words.proofs.shared_words.SharedWords.store_change.Goals as goal

pub returns-clause-view : goal.returns-clause-view
returns-clause-view c = stores_weaker _ _ _ _ _ _
    (λ s here. block_in_page c.args.page c.args.block c.args.bytes.now _ s c.requires.block (λ k lt. part_is c.args.bytes.now (256 * c.args.block) (256 * c.args.block + 256 - 256 * c.args.block) k (omega arith)) here)
    (λ ss all. block_has c.args.block c.args.page c.args.before.now c.args.bytes.now ss all)
    c.store_block.ensures.view

pub returns-then-eq-clause-view : goal.returns-then-eq-clause-view
returns-then-eq-clause-view c =
    let count : ℕ = 256 * c.args.block + 256 - 256 * c.args.block in
    stores_none _ _ _ (same_has c.args.block c.args.page c.args.before.now c.args.bytes.now (omega (arith, c.if-end-before.true))
    (λ k lt. sym (part_is c.args.before.now (256 * c.args.block) count k (omega arith)) ∙ (ap (λ (bs : List ℕ). get_or bs k 0) (same_text _ _ c.if-eq.ensures) ∙ part_is c.args.bytes.now (256 * c.args.block) count k (omega arith))))
