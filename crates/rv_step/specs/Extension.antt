-- What a load makes of the bytes that it has got (RISC-V Unprivileged ISA 20191213, 2.6).
use Rattle.std.specs.Prelude.{ℕ}
use Rattle.dp_base.specs.declared.access.Width.{Width}
use Rattle.dp_base.specs.declared.access.Width.TheVariants.{One, Two, Four}
use Rattle.rv_step.specs.declared.load_store.Extension.{Extension}
use Rattle.rv_step.specs.declared.load_store.Extension.TheVariants.{Zero, Sign}
use Rattle.rv_step.specs.Effect.{sign_extended_byte, sign_extended_half}

abbrev pub extended : Extension → Width → ℕ → ℕ
extended Zero width n = n
extended Sign One n = sign_extended_byte n
extended Sign Two n = sign_extended_half n
extended Sign Four n = n
