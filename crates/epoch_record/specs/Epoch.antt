-- An epoch as the code has it, and as its record has it. This project's own.
use Rattle.dp_base.specs.Journal as journals
use Rattle.epoch_record.specs.declared.epoch.Epoch.{Epoch}

abbrev pub epoch_of : Epoch → journals.Epoch
epoch_of e = record { slices = e.slices; answers = e.answers }
