use Rattle.elf_image.specs.Image.{segments_of}
use Rattle.checkpoint.proofs.Starting.{start_is}
use Rattle.checkpoint.proofs.laws.a_start_state_is_encodable.Goals as goal

pub returns : goal.returns
returns c = λ file none fits.
    let are = c.a_file_without_fault_has_segments.ensures.segments file none in
    start_is file fits (c.a_guest_starts_with_pages.ensures.pages file none) (c.a_guest_starts_with_pages.ensures.bytes file fits)
    (c.a_heap_starts_in_memory.ensures.place (segments_of file) are) (c.a_heap_starts_in_memory.ensures.aligned (segments_of file))
