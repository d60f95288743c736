-- What the fields of a packed word are, by its form, and the immediate that its bits give again.
use Rattle.std.proofs.Common.{◌≡◌, ◌+◌, ◌-◌, ◌*◌, ◌^◌, ◌<◌, ◌≤◌, ◌⊎◌, ℕ, Bool, true, false, cond, ltb, refl, arith, inl, inr}
use Rattle.std.proofs.lemmas.Bool.{ltb-false, ltb-true}
use Rattle.rv_step.specs.Encoding.{IsEven, IsSigned, IsUpper, form_b, form_i, form_j, form_r, form_s, form_u}
use Rattle.rv_step.specs.Field.{bits, funct3, funct5, funct7, immediate_b, immediate_i, immediate_j, immediate_s, immediate_u, opcode, rd, rs1, rs2}

-- ---- fields

pub record HasFields (op f3 f7 d s t word : ℕ) : Type 0 where
  pub opcode_is : opcode word ≡ op
  pub funct3_is : funct3 word ≡ f3
  pub funct7_is : funct7 word ≡ f7
  pub rd_is : rd word ≡ d
  pub rs1_is : rs1 word ≡ s
  pub rs2_is : rs2 word ≡ t

-- Of form R. A word of each other form is one of form R too, whose fields are parts of the immediate.
pub fields_r : (op f3 f7 d s t word : ℕ) → word ≡ form_r op f3 f7 d s t → op < 128 → f3 < 8 → f7 < 128 → d < 32 → s < 32 → t < 32 → HasFields op f3 f7 d s t word
fields_r op f3 f7 d s t word is a b c e f g = record {
  opcode_is = omega arith;
  funct3_is = omega arith;
  funct7_is = omega arith;
  rd_is = omega arith;
  rs1_is = omega arith;
  rs2_is = omega arith;
}

pub fields_i : (op f3 d s imm : ℕ) → op < 128 → f3 < 8 → d < 32 → s < 32 → HasFields op f3 (bits 11 5 imm) d s (bits 4 0 imm) (form_i op f3 d s imm)
fields_i op f3 d s imm a b e f = fields_r op f3 (bits 11 5 imm) d s (bits 4 0 imm) (form_i op f3 d s imm) (omega arith) a b (omega arith) e f (omega arith)

pub fields_s : (op f3 s t imm : ℕ) → op < 128 → f3 < 8 → s < 32 → t < 32 → HasFields op f3 (bits 11 5 imm) (bits 4 0 imm) s t (form_s op f3 s t imm)
fields_s op f3 s t imm a b f g = fields_r op f3 (bits 11 5 imm) (bits 4 0 imm) s t (form_s op f3 s t imm) refl a b (omega arith) (omega arith) f g

pub fields_b : (op f3 s t imm : ℕ) → op < 128 → f3 < 8 → s < 32 → t < 32 → HasFields op f3 (bits 10 5 imm + 2 ^ 6 * bits 12 12 imm) (bits 11 11 imm + 2 * bits 4 1 imm) s t (form_b op f3 s t imm)
fields_b op f3 s t imm a b f g = fields_r op f3 (bits 10 5 imm + 2 ^ 6 * bits 12 12 imm) (bits 11 11 imm + 2 * bits 4 1 imm) s t (form_b op f3 s t imm) (omega arith) a b (omega arith) (omega arith) f g

pub fields_u : (op d imm : ℕ) → op < 128 → d < 32 → HasFields op (bits 14 12 imm) (bits 31 25 imm) d (bits 19 15 imm) (bits 24 20 imm) (form_u op d imm)
fields_u op d imm a e = fields_r op (bits 14 12 imm) (bits 31 25 imm) d (bits 19 15 imm) (bits 24 20 imm) (form_u op d imm) (omega arith) a (omega arith) (omega arith) e (omega arith) (omega arith)

pub fields_j : (op d imm : ℕ) → op < 128 → d < 32 → HasFields op (bits 14 12 imm) (bits 10 5 imm + 2 ^ 6 * bits 20 20 imm) d (bits 19 15 imm) (bits 11 11 imm + 2 * bits 4 1 imm) (form_j op d imm)
fields_j op d imm a e = fields_r op (bits 14 12 imm) (bits 10 5 imm + 2 ^ 6 * bits 20 20 imm) d (bits 19 15 imm) (bits 11 11 imm + 2 * bits 4 1 imm) (form_j op d imm) (omega arith) a (omega arith) (omega arith) e (omega arith) (omega arith)

pub funct5_of_funct7 : (word f5 : ℕ) → funct7 word ≡ 4 * f5 → funct5 word ≡ f5
funct5_of_funct7 word f5 e = omega arith

-- ---- immediates

-- a number of which the low bits were kept, and their sign extended
signed : (half n m : ℕ) (below : Bool) → half ≤ 2 ^ 31 → (n < half → m ≡ n) → (2 ^ 32 - half ≤ n → n < 2 ^ 32 → m + (2 ^ 32 - (half + half)) ≡ n)
    → (n < half) ⊎ ((2 ^ 32 - half ≤ n) × (n < 2 ^ 32)) → ltb m half ≡ below → cond below m (m + (2 ^ 32 - (half + half))) ≡ n
signed half n m true fits small large (inl low) e = small low
signed half n m true fits small large (inr high) e = absurd (omega (arith, fits, large high.0 high.1, high.0, ltb-true m half e))
signed half n m false fits small large (inl low) e = absurd (omega (arith, low, small low, ltb-false m half e))
signed half n m false fits small large (inr high) e = large high.0 high.1

pub immediate_i_is : (imm word : ℕ) → rs2 word ≡ bits 4 0 imm → funct7 word ≡ bits 11 5 imm → IsSigned 12 imm → immediate_i word ≡ imm
immediate_i_is imm word low high fits = signed (2 ^ 11) imm (bits 31 20 word) _ (omega arith) (λ small. omega arith) (λ from to. omega arith) fits refl

pub immediate_s_is : (imm word : ℕ) → rd word ≡ bits 4 0 imm → funct7 word ≡ bits 11 5 imm → IsSigned 12 imm → immediate_s word ≡ imm
immediate_s_is imm word low high fits = signed (2 ^ 11) imm (2 ^ 5 * bits 31 25 word + bits 11 7 word) _ (omega arith) (λ small. omega arith) (λ from to. omega arith) fits refl

pub immediate_b_is : (imm word : ℕ) → rd word ≡ bits 11 11 imm + 2 * bits 4 1 imm → funct7 word ≡ bits 10 5 imm + 2 ^ 6 * bits 12 12 imm → IsEven imm → IsSigned 13 imm → immediate_b word ≡ imm
immediate_b_is imm word low high even fits =
    signed (2 ^ 12) imm (2 ^ 12 * bits 31 31 word + 2 ^ 11 * bits 7 7 word + 2 ^ 5 * bits 30 25 word + 2 * bits 11 8 word) _ (omega arith) (λ small. omega arith) (λ from to. omega arith) fits refl

pub immediate_u_is : (imm word : ℕ) → funct3 word ≡ bits 14 12 imm → rs1 word ≡ bits 19 15 imm → rs2 word ≡ bits 24 20 imm → funct7 word ≡ bits 31 25 imm → IsUpper imm → immediate_u word ≡ imm
immediate_u_is imm word a b c e fits = let some = fits.0 in let below = fits.1 in omega arith

pub immediate_j_is : (imm word : ℕ) → funct3 word ≡ bits 14 12 imm → rs1 word ≡ bits 19 15 imm → rs2 word ≡ bits 11 11 imm + 2 * bits 4 1 imm → funct7 word ≡ bits 10 5 imm + 2 ^ 6 * bits 20 20 imm → IsEven imm → IsSigned 21 imm
    → immediate_j word ≡ imm
immediate_j_is imm word a b low high even fits =
    signed (2 ^ 20) imm (2 ^ 20 * bits 31 31 word + 2 ^ 12 * bits 19 12 word + 2 ^ 11 * bits 20 20 word + 2 * bits 30 21 word) _ (omega arith) (λ small. omega arith) (λ from to. omega arith) fits refl
