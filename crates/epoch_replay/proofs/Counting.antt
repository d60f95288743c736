-- What a reader finds in the body of a record is what the record holds.
use Rattle.std.proofs.Common.{◌≡◌, ℕ, ◌<◌, ◌^◌, List, ◌∷◌, ◌++◌, length, Option, Some, refl, ap, ◌∙◌, append_assoc, arith}
use Rattle.std.specs.Int.{bytes_low_first}
use Rattle.std.specs.List.{flat_map}
use Rattle.dp_base.specs.declared.slice.Slice.{Slice}
use Rattle.dp_base.specs.Field.{◌>>=◌, number_at}
use Rattle.dp_base.specs.Journal.{Epoch, IsEpoch, IsSlice, answer, epoch_body, many_at, slice, slice_at, steps_of}
use Rattle.dp_base.proofs.Epochs.{many_found, slice_code}
use Rattle.dp_base.proofs.Fields.{bind_at, number_found}
use Rattle.guest_state.specs.Checkpoint.{Checkpoint, IsCheckpoint, checkpoint_bytes, end_bytes, thread_bytes, word}
use Rattle.journal_text.specs.Records.{mark_kind}
use Rattle.epoch_replay.specs.declared.counts.EpochCounts.{EpochCounts}
use Rattle.partial_mark.specs.Partial.{IsPartial, Partial, counted_bytes, partial_bytes, partial_kind, partial_page_bytes}
use Rattle.epoch_replay.specs.Counting.{counts_at, epoch_counts, marked_steps_at}

abbrev counts_end : ℕ × List ℕ → List Slice × List ℕ → ℕ × List ℕ → Option EpochCounts
counts_end slice_count slices answer_count = Some (record { slices = slice_count.0; steps = steps_of slices.0; answers = answer_count.0 })

abbrev counts_answers : ℕ × List ℕ → List Slice × List ℕ → Option EpochCounts
counts_answers slice_count slices = number_at 4 slices.1 >>= counts_end slice_count slices

abbrev counts_slices : ℕ × List ℕ → Option EpochCounts
counts_slices slice_count = many_at slice_at slice_count.0 slice_count.1 >>= counts_answers slice_count

abbrev counts_kind : ℕ × List ℕ → Option EpochCounts
counts_kind kind = number_at 4 kind.1 >>= counts_slices

pub counted : (e : Epoch) → IsEpoch e → counts_at (epoch_body e) ≡ Some (epoch_counts e)
unfolding counts_at
counted e fits =
    let answers : List ℕ = word (length e.answers) ++ flat_map answer e.answers in
    let kind : ℕ × List ℕ = (0, word (length e.slices) ++ (flat_map slice e.slices ++ answers)) in
    let slice_count : ℕ × List ℕ = (length e.slices, flat_map slice e.slices ++ answers) in
    let slices : List Slice × List ℕ = (e.slices, answers) in
    let answer_count : ℕ × List ℕ = (length e.answers, flat_map answer e.answers) in
    let found = Some (epoch_counts e) in
    bind_at (number_at 1 (epoch_body e)) counts_kind kind found (number_found 1 0 kind.1 (omega arith))
    (bind_at (number_at 4 kind.1) counts_slices slice_count found (number_found 4 (length e.slices) slice_count.1 (omega (arith, fits.slice_count)))
    (bind_at (many_at slice_at slice_count.0 slice_count.1) (counts_answers slice_count) slices found (many_found slice_at slice IsSlice slice_code e.slices answers fits.slices)
    (bind_at (number_at 4 answers) (counts_end slice_count slices) answer_count found (number_found 4 (length e.answers) answer_count.1 (omega (arith, fits.answer_count))) refl)))

abbrev marked_end : ℕ × List ℕ → Option ℕ
marked_end steps = Some steps.0

abbrev marked_kind : ℕ × List ℕ → Option ℕ
marked_kind kind = number_at 8 kind.1 >>= marked_end

marked_before : (first steps : ℕ) (rest : List ℕ) → number_at 1 (first ∷ (bytes_low_first 0 8 steps ++ rest)) ≡ Some (first, bytes_low_first 0 8 steps ++ rest) → steps < 2 ^ 64
    → marked_steps_at (first ∷ (bytes_low_first 0 8 steps ++ rest)) ≡ Some steps
unfolding marked_steps_at
marked_before first steps rest found small =
    let kind : ℕ × List ℕ = (first, bytes_low_first 0 8 steps ++ rest) in
    bind_at (number_at 1 (first ∷ kind.1)) marked_kind kind (Some steps) found
    (bind_at (number_at 8 kind.1) marked_end (steps, rest) (Some steps) (number_found 8 steps rest (omega (arith, small))) refl)

after_full : (steps : ℕ) (rest : List ℕ) → steps < 2 ^ 64 → marked_steps_at (mark_kind ∷ (bytes_low_first 0 8 steps ++ rest)) ≡ Some steps
after_full steps rest small = marked_before mark_kind steps rest (number_found 1 mark_kind (bytes_low_first 0 8 steps ++ rest) (omega arith)) small

pub marked : (c : Checkpoint) → IsCheckpoint c → marked_steps_at (mark_kind ∷ checkpoint_bytes c) ≡ Some c.steps
marked c is = after_full c.steps _ is.steps

pub partial_marked : (m : Partial) → IsPartial m → marked_steps_at (partial_bytes m) ≡ Some m.fields.steps
partial_marked m is =
    let f = m.fields in
    let numbers : List ℕ = bytes_low_first 0 8 f.input ++ (word f.heap ++ (word f.brk ++ end_bytes f.end)) in
    let others : List ℕ = counted_bytes thread_bytes m.threads ++ counted_bytes partial_page_bytes m.pages in
    let rest : List ℕ = numbers ++ others in
    ap marked_steps_at (ap (λ (l : List ℕ). partial_kind ∷ l) (append_assoc (bytes_low_first 0 8 f.steps) numbers others))
    ∙ marked_before partial_kind f.steps rest (number_found 1 partial_kind (bytes_low_first 0 8 f.steps ++ rest) (omega arith)) is.fields.steps
