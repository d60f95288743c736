-- What records hold, as far as their lines say it, and the same as a reader finds it in their bodies. This project's
-- own.
use Rattle.std.specs.Prelude.{ℕ, List, length, Option, Some}
use Rattle.dp_base.specs.Field.{◌>>=◌, number_at}
use Rattle.dp_base.specs.Journal.{Epoch, many_at, slice_at, steps_of}
use Rattle.epoch_replay.specs.declared.counts.EpochCounts.{EpochCounts}

abbrev pub epoch_counts : Epoch → EpochCounts
epoch_counts e = record { slices = length e.slices; steps = steps_of e.slices; answers = length e.answers }

-- in the body of an epoch
unfoldable pub counts_at : List ℕ → Option EpochCounts
counts_at body = do
  kind ← number_at 1 body
  slice_count ← number_at 4 kind.1
  slices ← many_at slice_at slice_count.0 slice_count.1
  answer_count ← number_at 4 slices.1
  Some (record { slices = slice_count.0; steps = steps_of slices.0; answers = answer_count.0 })

-- in the body of a mark, full or partial
unfoldable pub marked_steps_at : List ℕ → Option ℕ
marked_steps_at body = do
  kind ← number_at 1 body
  steps ← number_at 8 kind.1
  Some steps.0
