-- A guest's file that is one segment and a chain of words (System V ABI, ELF32: ELF header, program header).
use Rattle.std.specs.Prelude.{ℕ, ◌+◌, ◌*◌, min, List, ◌++◌, length, flat_map}
use Rattle.std.specs.Int.{w32, to_le_bytes}
use Rattle.test_files.specs.declared.guest.TheConstants.{HEADERS_START, HEADERS_END, MOST_WORDS}

-- how many bytes the segment has: 84 of headers, and four a word
abbrev pub segment_bytes : List ℕ → ℕ
segment_bytes words = 84 + 4 * min (length words) MOST_WORDS

abbrev pub file_of_words : List ℕ → List ℕ
file_of_words words =
    HEADERS_START
    ++ to_le_bytes w32 (segment_bytes words)
    ++ to_le_bytes w32 (segment_bytes words)
    ++ HEADERS_END
    ++ flat_map (to_le_bytes w32) words
