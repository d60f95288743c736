-- What hints say of a turn: whether it synchronises with other threads, and whether it is an SC that stores. This
-- machine's own.
use Rattle.std.specs.Prelude.{ℕ, Option, Some, None, if◌then◌else◌}
use Rattle.dp_base.specs.declared.tid.Tid.{Tid}
use Rattle.dp_base.specs.Memory.{Memory, fetched}
use Rattle.guest_state.specs.declared.hart.Hart.{Hart}
use Rattle.guest_state.specs.declared.thread.Thread.{Thread}
use Rattle.guest_state.specs.declared.thread.Thread.TheVariants.{Runs, Waits, Gone}
use Rattle.guest_state.specs.Register.{register}
use Rattle.guest_kernel.specs.declared.state.State.{State}
use Rattle.guest_kernel.specs.Peek.{peeked}
use Rattle.guest_kernel.specs.Threads.{thread_at}
use Rattle.rv_step.specs.Decoding.{decoded}
use Rattle.rv_step.specs.Effect.{is_held}
use Rattle.rv_step.specs.declared.instr.Instr.{Instr}
use Rattle.rv_step.specs.declared.instr.Instr.TheVariants.{ScW}
use Rattle.sync_hints.specs.declared.hints.Sc.{Sc}
use Rattle.sync_hints.specs.declared.hints.Sc.TheVariants.{NotSc, Won, Lost}
use Rattle.turn_peek.specs.declared.peek.Peek.{Peek}
use Rattle.turn_peek.specs.declared.peek.Peek.TheVariants as peeks

-- An SC stores if its address is reserved (RISC-V Unprivileged ISA 20191213, 8.2).
abbrev pub sc_by : Hart → Option Instr → Sc
sc_by hart None = NotSc
sc_by hart (Some (ScW rd rs1 rs2)) = if is_held (register hart rs1) hart.held then Won else Lost
sc_by hart (Some other) = NotSc

abbrev pub sc_at : Hart → Option ℕ → Sc
sc_at hart None = NotSc
sc_at hart (Some word) = sc_by hart (decoded word)

-- of the instruction that a thread is at
abbrev pub sc_of : Memory → Option Thread → Sc
sc_of memory None = NotSc
sc_of memory (Some (Runs hart clear)) = sc_at hart (fetched hart.pc memory)
sc_of memory (Some (Waits addr hart clear)) = NotSc
sc_of memory (Some (Gone code)) = NotSc

abbrev pub sync_by : State → Tid → Peek → Option Sc
sync_by s tid peeks.NotRunnable = None
sync_by s tid peeks.Plain = None
sync_by s tid peeks.Sync = Some NotSc
sync_by s tid peeks.Sc = Some (sc_of s.pages (thread_at s.threads tid))
sync_by s tid (peeks.Read place max) = Some NotSc
sync_by s tid peeks.Clock = Some NotSc

-- of a thread's next turn; none if it is plain
abbrev pub sync_of : State → Tid → Option Sc
sync_of s tid = sync_by s tid (peeked s tid)
