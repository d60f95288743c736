use Rattle.std.proofs.Common.{◌+◌, ◌*◌, ◌++◌, ℕ, List, [], ◌∷◌, sym, ap, ◌∙◌, arith}
use Rattle.std.proofs.lemmas.List.FromFn.{map-range_with_len_more}
use Rattle.elf_image.specs.declared.program_header.ProgramHeader.{ProgramHeader}
use Rattle.elf_image.specs.File.{program_header_at}
use Rattle.elf_image.proofs.program_header.program_headers.Goals as goal

pub loop-index-preserved : goal.loop-index-preserved
loop-index-preserved c =
    let index = c.loop-index.index in
    let entry = λ (i : ℕ). program_header_at c.args.file.now (c.word_at-start.result + 32 * i) in
    c.in_ok-push.ensures.items
    ∙ ap (λ (p : ProgramHeader). c.loop-index.headers.items ++ p ∷ []) c.entry_at.ensures
    ∙ ap (λ (headers : List ProgramHeader). headers ++ entry index ∷ []) c.loop-index.invariant
    ∙ sym (map-range_with_len_more entry 0 index index (omega arith))
