-- Registers of 32 bits and memory of bytes (RISC-V Unprivileged ISA 20191213, 1.4 and 2.1), and the pages as accesses
-- leave them.
use Rattle.std.specs.Prelude.{◌≡◌, ℕ, All, length, map}
use Rattle.std.specs.List.{AllByRecursion}
use Rattle.dp_base.specs.declared.page.Page.{Page}
use Rattle.dp_base.specs.Field.{AreBytes}
use Rattle.dp_base.specs.Memory.{Memory}
use Rattle.guest_state.specs.Checkpoint.{IsWord}
use Rattle.guest_state.specs.declared.hart.Hart.{Hart}

-- pc and x1 to x31 are words
pub record HasWords (h : Hart) : Type 0 where
  pub pc : IsWord h.pc
  pub count : length h.x ≡ 31
  pub registers : AllByRecursion IsWord h.x

-- what the pages contain is bytes
abbrev pub HasBytes : Memory → Type 0
HasBytes memory = All (λ p. AreBytes p.bytes) memory

-- all of a page but its bytes
abbrev pub shape_of : Page → ℕ × ℕ × ℕ
shape_of p = (p.number, p.flags, length p.bytes)

-- the same pages, but for their bytes
abbrev pub HasSameShape : (before after : Memory) → Type 0
HasSameShape before after = map shape_of after ≡ map shape_of before
