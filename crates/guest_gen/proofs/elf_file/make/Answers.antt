use Rattle.std.proofs.Common.{ap, ◌∙◌, ◌++◌, List, ℕ}
use Rattle.elf_image.specs.Faults.{image_fault}
use Rattle.guest_gen.specs.Guest.{elf_header, program_header}
use Rattle.guest_gen.specs.declared.listing.TheConstants.{FILE_BYTES}
use Rattle.guest_gen.proofs.Accepted.{accepted, joined}
use Rattle.guest_gen.proofs.elf_file.make.Goals as goal

pub returns-clause-file : goal.returns-clause-file
returns-clause-file c =
    let headers = c.in_ok-write_headers.ensures.added ∙ ap (λ (l : List ℕ). l ++ elf_header ++ program_header FILE_BYTES) c.new-file.ensures.items in
    joined c.args.n _ _ _ headers c.in_ok-write_code.ensures.added c.in_ok-write_words.ensures.added

pub returns-clause-accepted : goal.returns-clause-accepted
returns-clause-accepted c =
    let headers = c.in_ok-write_headers.ensures.added ∙ ap (λ (l : List ℕ). l ++ elf_header ++ program_header FILE_BYTES) c.new-file.ensures.items in
    ap image_fault (joined c.args.n _ _ _ headers c.in_ok-write_code.ensures.added c.in_ok-write_words.ensures.added) ∙ accepted c.args.n
