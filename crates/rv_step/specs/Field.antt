-- The fields of a word and its immediates (RISC-V Unprivileged ISA 20191213, 2.2 and 2.3).
use Rattle.std.specs.Prelude.{◌+◌, ◌-◌, ◌*◌, ◌/◌, ◌%◌, ◌^◌, ℕ, nat_lt, if◌then◌else◌}

-- the bits from one place to another
abbrev pub bits : (high low : ℕ) → ℕ → ℕ
bits high low word = word / 2 ^ low % 2 ^ (high + 1 - low)

abbrev pub opcode : ℕ → ℕ
opcode word = bits 6 0 word

abbrev pub rd : ℕ → ℕ
rd word = bits 11 7 word

abbrev pub funct3 : ℕ → ℕ
funct3 word = bits 14 12 word

abbrev pub rs1 : ℕ → ℕ
rs1 word = bits 19 15 word

abbrev pub rs2 : ℕ → ℕ
rs2 word = bits 24 20 word

abbrev pub funct7 : ℕ → ℕ
funct7 word = bits 31 25 word

-- of the A extension (8.2, 8.4): bits 26 and 25 are aq and rl
abbrev pub funct5 : ℕ → ℕ
funct5 word = bits 31 27 word

-- a number of `bits` bits, with its sign extended to 32
abbrev pub sign_extended : (width : ℕ) → ℕ → ℕ
sign_extended width n = if nat_lt n (2 ^ (width - 1)) then n else n + (2 ^ 32 - 2 ^ width)

abbrev pub immediate_i : ℕ → ℕ
immediate_i word = sign_extended 12 (bits 31 20 word)

abbrev pub immediate_s : ℕ → ℕ
immediate_s word = sign_extended 12 (2 ^ 5 * bits 31 25 word + bits 11 7 word)

abbrev pub immediate_b : ℕ → ℕ
immediate_b word = sign_extended 13 (2 ^ 12 * bits 31 31 word + 2 ^ 11 * bits 7 7 word + 2 ^ 5 * bits 30 25 word + 2 * bits 11 8 word)

abbrev pub immediate_u : ℕ → ℕ
immediate_u word = 2 ^ 12 * bits 31 12 word

abbrev pub immediate_j : ℕ → ℕ
immediate_j word = sign_extended 21 (2 ^ 20 * bits 31 31 word + 2 ^ 12 * bits 19 12 word + 2 ^ 11 * bits 20 20 word + 2 * bits 30 21 word)
