-- What a hart's next turn is, seen before it is taken. This machine's own.
use Rattle.std.specs.Prelude.{ℕ, Option, Some, None, ◌==◌, if◌then◌else◌}
use Rattle.dp_base.specs.Field.{◌>>=◌}
use Rattle.dp_base.specs.Memory.{Memory, fetched}
use Rattle.guest_state.specs.declared.hart.Hart.{Hart}
use Rattle.guest_state.specs.declared.thread.Thread.{Thread}
use Rattle.guest_state.specs.declared.thread.Thread.TheVariants.{Runs, Waits, Gone}
use Rattle.rv_step.specs.Decoding.{decoded}
use Rattle.rv_step.specs.Effect.{Effect, goes, calls, traps}
use Rattle.rv_step.specs.Step.{effect}
use Rattle.rv_step.specs.declared.instr.Instr.{Instr}
use Rattle.rv_step.specs.declared.instr.Instr.TheVariants as instrs
use Rattle.turn_peek.specs.declared.peek.Peek.{Peek}
use Rattle.turn_peek.specs.declared.peek.Peek.TheVariants as peeks
use Rattle.turn_peek.specs.Arguments.{a2, a7, moved}
use Rattle.turn_peek.specs.ReadCall.{read_at_once}

-- ---- calls

-- a read that answers at once takes no input; else it takes at most `max` bytes, from the offset of the guest's input
-- on
abbrev pub read_peeked : (place max : ℕ) → Option ℕ → Peek
read_peeked place max (Some answer) = peeks.Sync
read_peeked place max None = peeks.Read place max

-- read is 3, clock is 8
abbrev pub call_peeked : Hart → Memory → (input : ℕ) → Peek
call_peeked hart memory input =
    if a7 hart == 3 then read_peeked input (moved (a2 hart)) (read_at_once memory hart)
    else if a7 hart == 8 then peeks.Clock
    else peeks.Sync

-- ---- instructions

-- an instruction that neither calls nor traps
abbrev pub instruction_peeked : Instr → Peek
instruction_peeked (instrs.LrW rd rs1) = peeks.Sync
instruction_peeked (instrs.ScW rd rs1 rs2) = peeks.Sc
instruction_peeked (instrs.AmoswapW rd rs1 rs2) = peeks.Sync
instruction_peeked (instrs.AmoaddW rd rs1 rs2) = peeks.Sync
instruction_peeked (instrs.AmoxorW rd rs1 rs2) = peeks.Sync
instruction_peeked (instrs.AmoandW rd rs1 rs2) = peeks.Sync
instruction_peeked (instrs.AmoorW rd rs1 rs2) = peeks.Sync
instruction_peeked (instrs.AmominW rd rs1 rs2) = peeks.Sync
instruction_peeked (instrs.AmomaxW rd rs1 rs2) = peeks.Sync
instruction_peeked (instrs.AmominuW rd rs1 rs2) = peeks.Sync
instruction_peeked (instrs.AmomaxuW rd rs1 rs2) = peeks.Sync
instruction_peeked instruction = peeks.Plain

-- if there is no instruction, the step traps
abbrev pub word_peeked : Option Instr → Peek
word_peeked None = peeks.Sync
word_peeked (Some instruction) = instruction_peeked instruction

-- by the outcome of the step: if the hart goes on, by its instruction; a trap ends the guest
abbrev pub effect_peeked : Hart → Memory → (input : ℕ) → Peek → Effect → Peek
effect_peeked hart memory input instruction (goes after left) = instruction
effect_peeked hart memory input instruction calls = call_peeked hart memory input
effect_peeked hart memory input instruction (traps cause value) = peeks.Sync

-- the next turn of a hart that runs, by the word at pc and what it does, and by how much of the input was read
unfoldable pub hart_peeked : Hart → Memory → (input : ℕ) → Peek
hart_peeked hart memory input = effect_peeked hart memory input (word_peeked (fetched hart.pc memory >>= decoded)) (effect hart memory)

-- the next turn of a thread; there is none if it was never made or doesn't run
abbrev pub thread_peeked : Memory → (input : ℕ) → Option Thread → Peek
thread_peeked memory input None = peeks.NotRunnable
thread_peeked memory input (Some (Runs hart clear)) = hart_peeked hart memory input
thread_peeked memory input (Some (Waits addr hart clear)) = peeks.NotRunnable
thread_peeked memory input (Some (Gone code)) = peeks.NotRunnable
