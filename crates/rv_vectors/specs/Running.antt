-- What a row's instruction leaves of the hart and the memory that the row gives it. This program's own.
use Rattle.std.specs.Prelude.{◌+◌, ◌-◌, ◌^◌, ℕ, List, [], ◌∷◌, ◌++◌, drop, replicate, take, Option, Some, None, ◌==◌, if◌then◌else◌}
use Rattle.std.specs.Int.{w32, to_le_bytes}
use Rattle.std.specs.Option.{option_map}
use Rattle.cow_pages.specs.Mapping.{page_with}
use Rattle.dp_base.specs.Memory.{Memory, page_at}
use Rattle.guest_state.specs.declared.hart.Hart.{Hart}
use Rattle.guest_state.specs.Register.{register, with_register, wrapped}
use Rattle.rv_step.specs.Effect.{Effect, calls, goes, traps}
use Rattle.rv_step.specs.Field.{opcode, rd}
use Rattle.rv_step.specs.Step.{effect}
use Rattle.rv_vectors.specs.declared.machine.TheConstants.{CODE_FLAGS, CODE_PAGE, DATA_FLAGS, DATA_PAGE, PC, X7}
use Rattle.rv_vectors.specs.declared.row.After.{After}
use Rattle.rv_vectors.specs.declared.row.Before.{Before}

-- ---- the start

abbrev pub blank : Hart
blank = record { pc = PC; x = replicate 31 0; held = None }

abbrev pub first_hart : Before → Hart
first_hart before = with_register (with_register (with_register blank 5 before.x5) 6 before.x6) 7 X7

-- the bytes of the data page, up to the last of the sixteen
abbrev pub contents : List ℕ → List ℕ
contents sixteen = replicate 0xf8 0 ++ sixteen

abbrev pub first_memory : ℕ → Before → Memory
first_memory word before = page_with CODE_PAGE CODE_FLAGS (to_le_bytes w32 word) ∷ page_with DATA_PAGE DATA_FLAGS (contents before.bytes) ∷ []

-- ---- what is left

-- the register to which a word writes a value that holds pc: AUIPC, JAL and JALR
abbrev pub linked : ℕ → Option ℕ
linked word =
    if opcode word == 0x17 then Some (rd word)
    else if opcode word == 0x6f then Some (rd word)
    else if opcode word == 0x67 then Some (rd word)
    else None

-- less the instruction's own address
abbrev pub relative : ℕ → ℕ
relative value = wrapped (value + (2 ^ 32 - PC))

abbrev pub shown : Option ℕ → Hart → ℕ → ℕ
shown None hart number = register hart number
shown (Some to) hart number = if to == number then relative (register hart number) else register hart number

abbrev pub sixteen_of : List ℕ → List ℕ
sixteen_of bytes = take 16 (drop 0xf8 bytes)

abbrev pub after_of : ℕ → Hart → List ℕ → After
after_of word hart bytes =
    record {
      x5 = shown (linked word) hart 5;
      x6 = shown (linked word) hart 6;
      x7 = shown (linked word) hart 7;
      distance = relative hart.pc;
      bytes = sixteen_of bytes;
    }

abbrev pub left : ℕ → Effect → Option After
left word (goes hart memory) = option_map (after_of word hart) (option_map (λ p. p.bytes) (page_at memory DATA_PAGE))
left word calls = None
left word (traps cause value) = None

-- what a word does, once
abbrev pub row_outcome : ℕ → Before → Option After
row_outcome word before = left word (effect (first_hart before) (first_memory word before))
