-- What a racing memory counts. This project's own.
use Rattle.dp_base.specs.Counts.{Contention}
use Rattle.shared_words.specs.declared.interference.Counts.{Counts}

abbrev pub contention_of : Counts → Contention
contention_of counts = record { busy = counts.busy; lost = counts.lost }
