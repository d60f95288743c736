use Rattle.std.proofs.Common.{◌≡◌, ℕ, not, ltb, leb, arith, sym, subst}
use Rattle.std.proofs.lemmas.Bool.Decides.{nat_tests}
use Rattle.dp_base.specs.Memory.{Memory}
use Rattle.dp_base.specs.declared.access.AmoOp.TheVariants as amos
use Rattle.guest_state.specs.Register.{register}
use Rattle.guest_state.specs.declared.hart.Hart.{Hart}
use Rattle.rv_step.specs.Effect.{sign_extended_byte, sign_extended_half, zero_extended}
use Rattle.rv_step.specs.Execution.{executed}
use Rattle.rv_step.specs.declared.instr.Instr.{Instr}
use Rattle.turn_peek.specs.Peek.{effect_peeked, instruction_peeked}
use Rattle.turn_peek.specs.declared.peek.Peek.{Peek}
use Rattle.turn_peek.proofs.peek.at_instruction.Goals as goal

at_least : (a b : ℕ) → leb b a ≡ not (ltb a b)
at_least a b = grind (arith, nat_tests)

-- the row of an instruction whose operands are known
told : (r : Peek) (hart : Hart) (memory : Memory) (input : ℕ) (i j : Instr) → j ≡ i → r ≡ effect_peeked hart memory input (instruction_peeked i) (executed i hart memory)
    → r ≡ effect_peeked hart memory input (instruction_peeked j) (executed j hart memory)
told r hart memory input i j is e = subst (λ (x : Instr). r ≡ effect_peeked hart memory input (instruction_peeked x) (executed x hart memory)) (sym is) e

pub returns-in-Jal : goal.returns-in-Jal
returns-in-Jal c = told _ c.args.hart.now c.args.pages.now c.args.input _ _ c.in-Jal.is (c.at_jump.ensures c.in-Jal.rd c.args.input c.args.hart.now c.args.pages.now)

pub returns-in-Jalr : goal.returns-in-Jalr
returns-in-Jalr c = told _ c.args.hart.now c.args.pages.now c.args.input _ _ c.in-Jalr.is (rw c.address.ensures at (c.at_jump-in-Jalr.ensures c.in-Jalr.rd c.args.input c.args.hart.now c.args.pages.now))

pub returns-in-Beq : goal.returns-in-Beq
returns-in-Beq c = told _ c.args.hart.now c.args.pages.now c.args.input _ _ c.in-Beq.is (rw (c.register-a.ensures, c.register-b.ensures) at (c.at_branch.ensures c.args.input c.args.pages.now))

pub returns-in-Bne : goal.returns-in-Bne
returns-in-Bne c = told _ c.args.hart.now c.args.pages.now c.args.input _ _ c.in-Bne.is (rw (c.register-a-in-Bne.ensures, c.register-b-in-Bne.ensures) at (c.at_branch-in-Bne.ensures c.args.input c.args.pages.now))

pub returns-in-Blt : goal.returns-in-Blt
returns-in-Blt c = told _ c.args.hart.now c.args.pages.now c.args.input _ _ c.in-Blt.is (rw (c.is_below_signed.ensures, c.register-a-in-Blt.ensures, c.register-b-in-Blt.ensures) at (c.at_branch-in-Blt.ensures c.args.input c.args.pages.now))

pub returns-in-Bge : goal.returns-in-Bge
returns-in-Bge c = told _ c.args.hart.now c.args.pages.now c.args.input _ _ c.in-Bge.is (rw (c.is_below_signed-in-Bge.ensures, c.register-a-in-Bge.ensures, c.register-b-in-Bge.ensures) at (c.at_branch-in-Bge.ensures c.args.input c.args.pages.now))

pub returns-in-Bltu : goal.returns-in-Bltu
returns-in-Bltu c = told _ c.args.hart.now c.args.pages.now c.args.input _ _ c.in-Bltu.is (rw (c.register-a-in-Bltu.ensures, c.register-b-in-Bltu.ensures) at (c.at_branch-in-Bltu.ensures c.args.input c.args.pages.now))

pub returns-in-Bgeu : goal.returns-in-Bgeu
returns-in-Bgeu c = told _ c.args.hart.now c.args.pages.now c.args.input _ _ c.in-Bgeu.is (rw (c.register-a-in-Bgeu.ensures, c.register-b-in-Bgeu.ensures, at_least (register c.args.hart.now c.in-Bgeu.rs1) (register c.args.hart.now c.in-Bgeu.rs2)) at (c.at_branch-in-Bgeu.ensures c.args.input c.args.pages.now))

pub returns-in-Lb : goal.returns-in-Lb
returns-in-Lb c = told _ c.args.hart.now c.args.pages.now c.args.input _ _ c.in-Lb.is (rw c.address-in-Lb.ensures at (c.at_load.ensures sign_extended_byte c.in-Lb.rd c.args.input c.args.hart.now))

pub returns-in-Lh : goal.returns-in-Lh
returns-in-Lh c = told _ c.args.hart.now c.args.pages.now c.args.input _ _ c.in-Lh.is (rw c.address-in-Lh.ensures at (c.at_load-in-Lh.ensures sign_extended_half c.in-Lh.rd c.args.input c.args.hart.now))

pub returns-in-Lw : goal.returns-in-Lw
returns-in-Lw c = told _ c.args.hart.now c.args.pages.now c.args.input _ _ c.in-Lw.is (rw c.address-in-Lw.ensures at (c.at_load-in-Lw.ensures zero_extended c.in-Lw.rd c.args.input c.args.hart.now))

pub returns-in-Lbu : goal.returns-in-Lbu
returns-in-Lbu c = told _ c.args.hart.now c.args.pages.now c.args.input _ _ c.in-Lbu.is (rw c.address-in-Lbu.ensures at (c.at_load-in-Lbu.ensures zero_extended c.in-Lbu.rd c.args.input c.args.hart.now))

pub returns-in-Lhu : goal.returns-in-Lhu
returns-in-Lhu c = told _ c.args.hart.now c.args.pages.now c.args.input _ _ c.in-Lhu.is (rw c.address-in-Lhu.ensures at (c.at_load-in-Lhu.ensures zero_extended c.in-Lhu.rd c.args.input c.args.hart.now))

pub returns-in-Sb : goal.returns-in-Sb
returns-in-Sb c = told _ c.args.hart.now c.args.pages.now c.args.input _ _ c.in-Sb.is (rw c.address-in-Sb.ensures at (c.at_store.ensures (register c.args.hart.now c.in-Sb.rs2) c.args.input c.args.hart.now))

pub returns-in-Sh : goal.returns-in-Sh
returns-in-Sh c = told _ c.args.hart.now c.args.pages.now c.args.input _ _ c.in-Sh.is (rw c.address-in-Sh.ensures at (c.at_store-in-Sh.ensures (register c.args.hart.now c.in-Sh.rs2) c.args.input c.args.hart.now))

pub returns-in-Sw : goal.returns-in-Sw
returns-in-Sw c = told _ c.args.hart.now c.args.pages.now c.args.input _ _ c.in-Sw.is (rw c.address-in-Sw.ensures at (c.at_store-in-Sw.ensures (register c.args.hart.now c.in-Sw.rs2) c.args.input c.args.hart.now))

pub returns-in-LrW : goal.returns-in-LrW
returns-in-LrW c = told _ c.args.hart.now c.args.pages.now c.args.input _ _ c.in-LrW.is (c.at_load_reserved.ensures c.in-LrW.rd (register c.args.hart.now c.in-LrW.rs1) c.args.input c.args.hart.now c.args.pages.now)

pub returns-in-ScW : goal.returns-in-ScW
returns-in-ScW c = told _ c.args.hart.now c.args.pages.now c.args.input _ _ c.in-ScW.is (rw c.register.ensures at (c.at_store_conditional.ensures c.in-ScW.rd (register c.args.hart.now c.in-ScW.rs2) c.args.input c.args.hart.now))

pub returns-in-AmoswapW : goal.returns-in-AmoswapW
returns-in-AmoswapW c = told _ c.args.hart.now c.args.pages.now c.args.input _ _ c.in-AmoswapW.is (c.at_amo.ensures amos.Swap c.in-AmoswapW.rd (register c.args.hart.now c.in-AmoswapW.rs1) (register c.args.hart.now c.in-AmoswapW.rs2) c.args.input c.args.hart.now c.args.pages.now)

pub returns-in-AmoaddW : goal.returns-in-AmoaddW
returns-in-AmoaddW c = told _ c.args.hart.now c.args.pages.now c.args.input _ _ c.in-AmoaddW.is (c.at_amo-in-AmoaddW.ensures amos.Add c.in-AmoaddW.rd (register c.args.hart.now c.in-AmoaddW.rs1) (register c.args.hart.now c.in-AmoaddW.rs2) c.args.input c.args.hart.now c.args.pages.now)

pub returns-in-AmoxorW : goal.returns-in-AmoxorW
returns-in-AmoxorW c = told _ c.args.hart.now c.args.pages.now c.args.input _ _ c.in-AmoxorW.is (c.at_amo-in-AmoxorW.ensures amos.Xor c.in-AmoxorW.rd (register c.args.hart.now c.in-AmoxorW.rs1) (register c.args.hart.now c.in-AmoxorW.rs2) c.args.input c.args.hart.now c.args.pages.now)

pub returns-in-AmoandW : goal.returns-in-AmoandW
returns-in-AmoandW c = told _ c.args.hart.now c.args.pages.now c.args.input _ _ c.in-AmoandW.is (c.at_amo-in-AmoandW.ensures amos.And c.in-AmoandW.rd (register c.args.hart.now c.in-AmoandW.rs1) (register c.args.hart.now c.in-AmoandW.rs2) c.args.input c.args.hart.now c.args.pages.now)

pub returns-in-AmoorW : goal.returns-in-AmoorW
returns-in-AmoorW c = told _ c.args.hart.now c.args.pages.now c.args.input _ _ c.in-AmoorW.is (c.at_amo-in-AmoorW.ensures amos.Or c.in-AmoorW.rd (register c.args.hart.now c.in-AmoorW.rs1) (register c.args.hart.now c.in-AmoorW.rs2) c.args.input c.args.hart.now c.args.pages.now)

pub returns-in-AmominW : goal.returns-in-AmominW
returns-in-AmominW c = told _ c.args.hart.now c.args.pages.now c.args.input _ _ c.in-AmominW.is (c.at_amo-in-AmominW.ensures amos.Min c.in-AmominW.rd (register c.args.hart.now c.in-AmominW.rs1) (register c.args.hart.now c.in-AmominW.rs2) c.args.input c.args.hart.now c.args.pages.now)

pub returns-in-AmomaxW : goal.returns-in-AmomaxW
returns-in-AmomaxW c = told _ c.args.hart.now c.args.pages.now c.args.input _ _ c.in-AmomaxW.is (c.at_amo-in-AmomaxW.ensures amos.Max c.in-AmomaxW.rd (register c.args.hart.now c.in-AmomaxW.rs1) (register c.args.hart.now c.in-AmomaxW.rs2) c.args.input c.args.hart.now c.args.pages.now)

pub returns-in-AmominuW : goal.returns-in-AmominuW
returns-in-AmominuW c = told _ c.args.hart.now c.args.pages.now c.args.input _ _ c.in-AmominuW.is (c.at_amo-in-AmominuW.ensures amos.MinU c.in-AmominuW.rd (register c.args.hart.now c.in-AmominuW.rs1) (register c.args.hart.now c.in-AmominuW.rs2) c.args.input c.args.hart.now c.args.pages.now)

pub returns-in-AmomaxuW : goal.returns-in-AmomaxuW
returns-in-AmomaxuW c = told _ c.args.hart.now c.args.pages.now c.args.input _ _ c.in-AmomaxuW.is (c.at_amo-in-AmomaxuW.ensures amos.MaxU c.in-AmomaxuW.rd (register c.args.hart.now c.in-AmomaxuW.rs1) (register c.args.hart.now c.in-AmomaxuW.rs2) c.args.input c.args.hart.now c.args.pages.now)
