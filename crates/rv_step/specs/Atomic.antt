-- How an instruction of the A extension ends, and the outcome of its step (RISC-V Unprivileged ISA 20191213, chapter
-- 8). The causes are this machine's.
use Rattle.std.specs.Prelude.{ℕ, Result, Ok, Err}
use Rattle.dp_base.specs.declared.out_of_memory.OutOfMemory.{OutOfMemory}
use Rattle.rv_step.specs.declared.atomic.AtomicEnd.{AtomicEnd}
use Rattle.rv_step.specs.declared.atomic.AtomicEnd.TheVariants as ends
use Rattle.rv_step.specs.declared.stepped.Stepped.{Stepped}
use Rattle.rv_step.specs.declared.stepped.Stepped.TheVariants.{Went, Trap, Busy}
use Rattle.rv_step.specs.Effect.{load_denied, load_misaligned, store_denied, store_misaligned}

-- at an address
abbrev pub outcome : AtomicEnd → (at : ℕ) → Result Stepped OutOfMemory
outcome ends.Went at = Ok Went
outcome ends.LoadMisaligned at = Ok (Trap load_misaligned at)
outcome ends.LoadDenied at = Ok (Trap load_denied at)
outcome ends.StoreMisaligned at = Ok (Trap store_misaligned at)
outcome ends.StoreDenied at = Ok (Trap store_denied at)
outcome ends.Busy at = Ok Busy
outcome ends.OutOfMemory at = Err (record {})
