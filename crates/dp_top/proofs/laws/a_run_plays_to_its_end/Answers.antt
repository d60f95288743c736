use Rattle.dp_top.proofs.Halves.{run_plays}
use Rattle.dp_top.proofs.laws.a_run_plays_to_its_end.Goals as goal

pub returns : goal.returns
returns c = λ guest tells options r accepted fits room.
    run_plays c.a_journal_at_rest_reads_as_itself.ensures c.a_file_without_fault_has_segments.ensures.size
    (record { short = c.a_partial_is_short.ensures; encodable = c.a_run_keeps_a_state_encodable.ensures; counted = c.a_run_is_as_long_as_its_slices.ensures.counts; reads = c.a_run_is_as_long_as_its_slices.ensures.reads })
    guest tells options r accepted fits (c.a_start_state_is_encodable.ensures guest accepted fits) room
