use Rattle.std.proofs.Common.{sym, ◌∙◌}
use Rattle.shared_words.proofs.SameMapped.{lists_decide}
use Rattle.shared_words.proofs.shared_words.SharedWords.fits.Goals as goal

pub returns : goal.returns
returns c =
    let d = lists_decide c.as_slice.result.now c.as_slice-2.result.now in (
      λ same. sym c.in_ok-mapped.ensures ∙ (sym c.as_slice.ensures.value ∙ (d.0 (sym c.eq.ensures ∙ same) ∙ c.as_slice-2.ensures.value)),
      λ same. c.eq.ensures ∙ d.1 (c.as_slice.ensures.value ∙ (c.in_ok-mapped.ensures ∙ (same ∙ sym c.as_slice-2.ensures.value))),
    )
