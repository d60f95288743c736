use Rattle.std.proofs.Common.{◌%◌, ℕ, List, ap, sym, ◌∙◌, arith, w8}
use Rattle.std.specs.Simd.Lanes.{mask_l, zip2}
use Rattle.std.proofs.lemmas.Bool.{eq-eqb, eqb-true}
use Rattle.std.proofs.lemmas.Simd.{length-zip2, mask_l-mod, tops_compared}
use Rattle.byte_lanes.proofs.Lanes.{differ, mask_of_same, same_from_mask}
use Rattle.byte_lanes.proofs.equality.equal_lanes.Goals as goal

pub returns : goal.returns
returns c =
    let l = c.args.left in
    let r = c.args.right in
    let is = ap (λ ms. mask_l ms % 18446744073709551616) (tops_compared w8 differ l r) in
    let whole = mask_l-mod (zip2 differ l r) 64 (omega (arith, length-zip2 differ l r (omega (arith, c.requires.left, c.requires.right)), c.requires.left)) in (
      λ t. same_from_mask l r (omega (arith, c.requires.left, c.requires.right)) (sym (is ∙ whole) ∙ eqb-true _ _ t),
      λ e. eq-eqb _ _ (is ∙ whole ∙ ap (λ (x : List ℕ). mask_l (zip2 differ l x)) (sym e) ∙ mask_of_same l),
    )
