use Rattle.std.proofs.Common.{◌≡◌, ◌++◌, map, take}
use Rattle.std.specs.List.{flat_map}
use Rattle.dp_base.specs.Journal.{record_of}
use Rattle.test_journals.proofs.journal.write_records.Given as goal

abbrev pub invariant-loop-body : goal.invariant-loop-body
invariant-loop-body l = l.out.items ≡ l.initial.out.items ++ flat_map record_of (map (λ body. body.now) (take l.body-index l.bodies))
