-- The file of a made guest, and that it is accepted.
use Rattle.std.proofs.Common.{◌≡◌, ℕ, List, [], ◌∷◌, ◌++◌, nat_lt, if◌then◌else◌, Option, Some, None, ap, ◌∙◌, arith}
use Rattle.dp_base.specs.declared.limits.TheConstants.{MAX_PAGES}
use Rattle.elf_image.specs.Faults.{image_fault}
use Rattle.elf_image.specs.File.{field}
use Rattle.guest_gen.specs.declared.listing.TheConstants.{CODE, FILE_BYTES}
use Rattle.guest_gen.specs.Guest.{elf_header, guest_file, program_header, rounds, spawned, words}
use Rattle.guest_gen.specs.Listing.{code_from}
use Rattle.guest_gen.proofs.Pages.{seventeen_pages}

pub joined : (n : ℕ) (headers code file : List ℕ) → headers ≡ [] ++ elf_header ++ program_header FILE_BYTES → code ≡ headers ++ code_from 0 CODE
    → file ≡ code ++ words (spawned n ∷ rounds n ∷ []) → file ≡ guest_file n
unfolding code_from guest_file
joined n headers code file headers_are code_is file_is =
    file_is ∙ ap (λ (l : List ℕ). l ++ words (spawned n ∷ rounds n ∷ [])) (code_is ∙ ap (λ (l : List ℕ). l ++ code_from 0 CODE) headers_are)

-- the fault that too many pages are
abbrev last_fault : (pages : ℕ) → Option ℕ
last_fault pages = if nat_lt MAX_PAGES pages then Some 10 else None

pub accepted : (n : ℕ) → image_fault (guest_file n) ≡ None
unfolding code_from field guest_file image_fault
accepted n = ap last_fault (seventeen_pages FILE_BYTES (omega arith) (omega arith))
