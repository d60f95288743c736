use Rattle.dp_top.proofs.Halves.{recording_plays}
use Rattle.dp_top.proofs.laws.a_recording_plays_as_it_was.Goals as goal

pub returns : goal.returns
returns c = λ guest tells options i j before after report accepted fits recorded.
    recording_plays c.a_journal_at_rest_reads_as_itself.ensures c.a_file_without_fault_has_segments.ensures.size
    (record { short = c.a_partial_is_short.ensures; encodable = c.a_run_keeps_a_state_encodable.ensures; counted = c.a_run_is_as_long_as_its_slices.ensures.counts; reads = c.a_run_is_as_long_as_its_slices.ensures.reads })
    guest tells options i j before after report accepted fits (c.a_start_state_is_encodable.ensures guest accepted fits) recorded
