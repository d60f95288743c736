use Rattle.std.proofs.Common.{◌≡◌, ◌++◌, take}
use Rattle.std.specs.List.{flat_map}
use Rattle.std.specs.Int.{w32, to_le_bytes}
use Rattle.test_files.specs.Guest.{segment_bytes}
use Rattle.test_files.specs.declared.guest.TheConstants.{HEADERS_START, HEADERS_END}
use Rattle.test_files.proofs.guest.file_of.Given as goal

abbrev pub invariant-loop-word : goal.invariant-loop-word
invariant-loop-word g l =
    l.file.items
    ≡ ((HEADERS_START
    ++ to_le_bytes w32 (segment_bytes l.words)
    ++ to_le_bytes w32 (segment_bytes l.words)
    ++ HEADERS_END)
    ++ flat_map (to_le_bytes w32) (take l.word-index l.words))
