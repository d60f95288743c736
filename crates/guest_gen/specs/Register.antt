-- The numbers of registers (RISC-V ABI, "Register Convention").
use Rattle.std.specs.Prelude.{ℕ}
use Rattle.guest_gen.specs.declared.register.Register.{Register}
use Rattle.guest_gen.specs.declared.register.Register.TheVariants as registers

abbrev pub register_number : Register → ℕ
register_number registers.Zero = 0
register_number registers.Ra = 1
register_number registers.T0 = 5
register_number registers.T1 = 6
register_number registers.S0 = 8
register_number registers.S1 = 9
register_number registers.A0 = 10
register_number registers.A1 = 11
register_number registers.A2 = 12
register_number registers.A3 = 13
register_number registers.A7 = 17
register_number registers.S2 = 18
register_number registers.S3 = 19
register_number registers.S4 = 20
