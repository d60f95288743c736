-- What an epoch has written and taken so far, of the type that the code has. This machine's own.
use Rattle.epoch_runner.specs.declared.trace.Trace.{Trace}
use Rattle.epoch_runner.specs.SliceRun.{Traced}

abbrev pub traced : Trace → Traced
traced t = record { output = t.out.items; answers = t.answers }
