-- What is seen at a gate. This project's own.
use Rattle.std.specs.Prelude.{ℕ, length}
use Rattle.journal_text.specs.declared.record.Rec.{Rec}
use Rattle.journal_text.specs.declared.record.Rec.TheVariants as records
use Rattle.test_journals.specs.declared.gate.Kind.{Kind}
use Rattle.test_journals.specs.declared.gate.Kind.TheVariants.{Epoch, Mark, Partial, End, Bad}

-- the kind, the next gate's place or the end's, and how many bytes the body has
abbrev pub seen_as : Rec → Kind × ℕ × ℕ
seen_as (records.Epoch body next) = (Epoch, next, length body.now)
seen_as (records.Mark body next) = (Mark, next, length body.now)
seen_as (records.Partial body next) = (Partial, next, length body.now)
seen_as (records.End at) = (End, at, 0)
seen_as records.Bad = (Bad, 0, 0)
