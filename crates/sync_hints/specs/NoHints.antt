-- Hints that name no steps. This project's own.
use Rattle.std.specs.Prelude.{[]}
use Rattle.sync_hints.specs.declared.hints.Hints.{Hints}

abbrev pub no_hints : Hints
no_hints = record { counts = []; order = [] }
