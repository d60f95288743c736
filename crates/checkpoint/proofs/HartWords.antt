-- Registers of words, where threads are made, woken and go on.
use Rattle.std.proofs.Common.{ℕ, zero, suc, replicate, None, refl, arith}
use Rattle.std.specs.List.{AllByRecursion}
use Rattle.guest_state.specs.declared.hart.Hart.{Hart}
use Rattle.guest_state.specs.declared.thread.Thread.{Thread}
use Rattle.guest_state.specs.declared.thread.Thread.TheVariants.{Runs, Waits, Gone}
use Rattle.guest_state.specs.Checkpoint.{IsFreeHart, IsThread, IsWord}
use Rattle.guest_state.specs.Register.{with_register}
use Rattle.guest_kernel.specs.Call.{spawned_hart}
use Rattle.rv_step.specs.Effect.{unreserved}
use Rattle.guest_kernel.specs.Threads.{awake}
use Rattle.rv_step.specs.Words.{HasWords}
use Rattle.rv_step.proofs.Kept.{with_register_is}

pub of_free : (hart : Hart) → IsFreeHart (unreserved hart) → HasWords hart
of_free hart is = record { pc = is.pc; count = is.count; registers = is.registers }

pub to_free : (hart : Hart) → HasWords hart → IsFreeHart (unreserved hart)
to_free hart is = record { pc = is.pc; count = is.count; registers = is.registers; free = refl }

-- a thread that is woken
pub free_awake : (hart : Hart) → IsFreeHart hart → IsFreeHart (with_register hart 10 0)
free_awake hart is =
    let words = with_register_is hart 10 0 (record { pc = is.pc; count = is.count; registers = is.registers }) (omega arith) in
    record { pc = words.pc; count = words.count; registers = words.registers; free = is.free }

pub awake_is : (t : Thread) → IsThread t → IsThread (awake t)
awake_is (Runs hart clear) is = is
awake_is (Waits addr hart clear) is = (free_awake hart is.1, is.2)
awake_is (Gone code) is = is

-- a thread that is made
pub zeros_are_words : (n : ℕ) → AllByRecursion IsWord (replicate n 0)
zeros_are_words zero = tt
zeros_are_words (suc n) = (omega arith, zeros_are_words n)

pub zero_hart_is : (pc : ℕ) → IsWord pc → HasWords (record { pc = pc; x = replicate 31 0; held = None })
zero_hart_is pc fits = record { pc = fits; count = refl; registers = zeros_are_words 31 }

pub spawned_is : (pc sp argument : ℕ) → IsWord pc → IsWord sp → IsWord argument → IsFreeHart (spawned_hart pc sp argument)
spawned_is pc sp argument is_pc is_sp is_argument =
    let words = with_register_is _ 10 argument (with_register_is _ 2 sp (zero_hart_is pc is_pc) is_sp) is_argument in
    record { pc = words.pc; count = words.count; registers = words.registers; free = refl }
