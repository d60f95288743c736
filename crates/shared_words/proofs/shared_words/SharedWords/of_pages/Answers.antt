use Rattle.std.proofs.Common.{sym, subst}
use Rattle.shared_words.specs.Layout.{AreMapped}
use Rattle.shared_words.proofs.MappedPages.{are_mapped}
use Rattle.shared_words.proofs.shared_words.SharedWords.of_pages.Goals as goal

pub invariant_of-result-clause-mapped : goal.invariant_of-result-clause-mapped
invariant_of-result-clause-mapped c = subst AreMapped (sym c.in_ok-mapped.ensures) (are_mapped _ c.pages-kept.ensures.kept)
