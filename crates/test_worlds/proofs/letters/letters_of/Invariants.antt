use Rattle.std.proofs.Common.{◌≡◌, map, take}
use Rattle.test_worlds.specs.Letters.{letter_of}
use Rattle.test_worlds.proofs.letters.letters_of.Given as goal

abbrev pub invariant-loop-call : goal.invariant-loop-call
invariant-loop-call l = l.letters.items ≡ map letter_of (take l.call-index l.calls)
