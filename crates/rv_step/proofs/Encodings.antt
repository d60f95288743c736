-- An instruction's word is decoded to it, and so no two instructions share a word.
use Rattle.std.proofs.Common.{◌≡◌, ◌*◌, ◌<◌, ℕ, true, ltb, Some, refl, arith, ap, sym, ◌∙◌}
use Rattle.std.proofs.lemmas.Bool.{ltb-true}
use Rattle.std.proofs.lemmas.Option.{same_Some}
use Rattle.rv_step.specs.declared.instr.Instr.{Instr}
use Rattle.rv_step.specs.declared.instr.Instr.TheVariants as instrs
use Rattle.rv_step.specs.Decoding.{decoded, with_b, with_i, with_r, with_s}
use Rattle.rv_step.specs.Encoding.{IsEven, IsInstruction, IsSigned, IsUpper, encoded, form_b, form_i, form_j, form_r, form_s, form_u}
use Rattle.rv_step.specs.Field.{funct3, funct7, immediate_b, immediate_i, immediate_j, immediate_s, immediate_u, opcode, rd, rs1, rs2}
use Rattle.rv_step.proofs.Forms.{fields_b, fields_i, fields_j, fields_r, fields_s, fields_u, funct5_of_funct7, immediate_b_is, immediate_i_is, immediate_j_is, immediate_s_is, immediate_u_is}

-- ---- by form: where the words with these fields are decoded to a row, the packed word is decoded to its instruction

same_row : (form : ℕ → ℕ → ℕ → Instr) (a b c x y z : ℕ) → a ≡ x → b ≡ y → c ≡ z → Some (form a b c) ≡ Some (form x y z)
same_row form a b c x y z p q r = cc

decoded_r : (op f3 f7 d s t : ℕ) (form : ℕ → ℕ → ℕ → Instr) → ltb op 128 ≡ true → ltb f3 8 ≡ true → ltb f7 128 ≡ true
    → ((word : ℕ) → opcode word ≡ op → funct3 word ≡ f3 → funct7 word ≡ f7 → rs2 word ≡ t → decoded word ≡ with_r form word)
    → d < 32 → s < 32 → t < 32 → decoded (form_r op f3 f7 d s t) ≡ Some (form d s t)
decoded_r op f3 f7 d s t form op_fits f3_fits f7_fits row a b c =
    let word = form_r op f3 f7 d s t in
    let w = fields_r op f3 f7 d s t word refl (ltb-true op 128 op_fits) (ltb-true f3 8 f3_fits) (ltb-true f7 128 f7_fits) a b c in
    row word w.opcode_is w.funct3_is w.funct7_is w.rs2_is ∙ same_row form (rd word) (rs1 word) (rs2 word) d s t w.rd_is w.rs1_is w.rs2_is

decoded_i : (op f3 d s imm : ℕ) (form : ℕ → ℕ → ℕ → Instr) → ltb op 128 ≡ true → ltb f3 8 ≡ true
    → ((word : ℕ) → opcode word ≡ op → funct3 word ≡ f3 → decoded word ≡ with_i form word)
    → d < 32 → s < 32 → IsSigned 12 imm → decoded (form_i op f3 d s imm) ≡ Some (form d s imm)
decoded_i op f3 d s imm form op_fits f3_fits row a b fits =
    let word = form_i op f3 d s imm in
    let w = fields_i op f3 d s imm (ltb-true op 128 op_fits) (ltb-true f3 8 f3_fits) a b in
    row word w.opcode_is w.funct3_is ∙ same_row form (rd word) (rs1 word) (immediate_i word) d s imm w.rd_is w.rs1_is (immediate_i_is imm word w.rs2_is w.funct7_is fits)

decoded_s : (op f3 s t imm : ℕ) (form : ℕ → ℕ → ℕ → Instr) → ltb op 128 ≡ true → ltb f3 8 ≡ true
    → ((word : ℕ) → opcode word ≡ op → funct3 word ≡ f3 → decoded word ≡ with_s form word)
    → s < 32 → t < 32 → IsSigned 12 imm → decoded (form_s op f3 s t imm) ≡ Some (form s t imm)
decoded_s op f3 s t imm form op_fits f3_fits row a b fits =
    let word = form_s op f3 s t imm in
    let w = fields_s op f3 s t imm (ltb-true op 128 op_fits) (ltb-true f3 8 f3_fits) a b in
    row word w.opcode_is w.funct3_is ∙ same_row form (rs1 word) (rs2 word) (immediate_s word) s t imm w.rs1_is w.rs2_is (immediate_s_is imm word w.rd_is w.funct7_is fits)

decoded_b : (op f3 s t imm : ℕ) (form : ℕ → ℕ → ℕ → Instr) → ltb op 128 ≡ true → ltb f3 8 ≡ true
    → ((word : ℕ) → opcode word ≡ op → funct3 word ≡ f3 → decoded word ≡ with_b form word)
    → s < 32 → t < 32 → IsEven imm → IsSigned 13 imm → decoded (form_b op f3 s t imm) ≡ Some (form s t imm)
decoded_b op f3 s t imm form op_fits f3_fits row a b even fits =
    let word = form_b op f3 s t imm in
    let w = fields_b op f3 s t imm (ltb-true op 128 op_fits) (ltb-true f3 8 f3_fits) a b in
    row word w.opcode_is w.funct3_is ∙ same_row form (rs1 word) (rs2 word) (immediate_b word) s t imm w.rs1_is w.rs2_is (immediate_b_is imm word w.rd_is w.funct7_is even fits)

decoded_u : (op d imm : ℕ) (form : ℕ → ℕ → Instr) → ltb op 128 ≡ true
    → ((word : ℕ) → opcode word ≡ op → decoded word ≡ Some (form (rd word) (immediate_u word)))
    → d < 32 → IsUpper imm → decoded (form_u op d imm) ≡ Some (form d imm)
decoded_u op d imm form op_fits row a fits =
    let word = form_u op d imm in
    let w = fields_u op d imm (ltb-true op 128 op_fits) a in
    row word w.opcode_is ∙ same_row (λ x y z. form x z) (rd word) 0 (immediate_u word) d 0 imm w.rd_is refl (immediate_u_is imm word w.funct3_is w.rs1_is w.rs2_is w.funct7_is fits)

decoded_j : (op d imm : ℕ) (form : ℕ → ℕ → Instr) → ltb op 128 ≡ true
    → ((word : ℕ) → opcode word ≡ op → decoded word ≡ Some (form (rd word) (immediate_j word)))
    → d < 32 → IsEven imm → IsSigned 21 imm → decoded (form_j op d imm) ≡ Some (form d imm)
decoded_j op d imm form op_fits row a even fits =
    let word = form_j op d imm in
    let w = fields_j op d imm (ltb-true op 128 op_fits) a in
    row word w.opcode_is ∙ same_row (λ x y z. form x z) (rd word) 0 (immediate_j word) d 0 imm w.rd_is refl (immediate_j_is imm word w.funct3_is w.rs1_is w.rs2_is w.funct7_is even fits)

-- ---- the table

pub encoding_is_decoded : (i : Instr) → IsInstruction i → decoded (encoded i) ≡ Some i
encoding_is_decoded (instrs.Lui rd imm) is = decoded_u 0x37 rd imm instrs.Lui refl (λ word a. rw a refl) is.0 is.1
encoding_is_decoded (instrs.Auipc rd imm) is = decoded_u 0x17 rd imm instrs.Auipc refl (λ word a. rw a refl) is.0 is.1
encoding_is_decoded (instrs.Jal rd imm) is = decoded_j 0x6f rd imm instrs.Jal refl (λ word a. rw a refl) is.0 is.1 is.2
encoding_is_decoded (instrs.Jalr rd rs1 imm) is = decoded_i 0x67 0 rd rs1 imm instrs.Jalr refl refl (λ word a b. rw (a, b) refl) is.0 is.1 is.2
encoding_is_decoded (instrs.Beq rs1 rs2 imm) is = decoded_b 0x63 0 rs1 rs2 imm instrs.Beq refl refl (λ word a b. rw (a, b) refl) is.0 is.1 is.2 is.3
encoding_is_decoded (instrs.Bne rs1 rs2 imm) is = decoded_b 0x63 1 rs1 rs2 imm instrs.Bne refl refl (λ word a b. rw (a, b) refl) is.0 is.1 is.2 is.3
encoding_is_decoded (instrs.Blt rs1 rs2 imm) is = decoded_b 0x63 4 rs1 rs2 imm instrs.Blt refl refl (λ word a b. rw (a, b) refl) is.0 is.1 is.2 is.3
encoding_is_decoded (instrs.Bge rs1 rs2 imm) is = decoded_b 0x63 5 rs1 rs2 imm instrs.Bge refl refl (λ word a b. rw (a, b) refl) is.0 is.1 is.2 is.3
encoding_is_decoded (instrs.Bltu rs1 rs2 imm) is = decoded_b 0x63 6 rs1 rs2 imm instrs.Bltu refl refl (λ word a b. rw (a, b) refl) is.0 is.1 is.2 is.3
encoding_is_decoded (instrs.Bgeu rs1 rs2 imm) is = decoded_b 0x63 7 rs1 rs2 imm instrs.Bgeu refl refl (λ word a b. rw (a, b) refl) is.0 is.1 is.2 is.3
encoding_is_decoded (instrs.Lb rd rs1 imm) is = decoded_i 0x03 0 rd rs1 imm instrs.Lb refl refl (λ word a b. rw (a, b) refl) is.0 is.1 is.2
encoding_is_decoded (instrs.Lh rd rs1 imm) is = decoded_i 0x03 1 rd rs1 imm instrs.Lh refl refl (λ word a b. rw (a, b) refl) is.0 is.1 is.2
encoding_is_decoded (instrs.Lw rd rs1 imm) is = decoded_i 0x03 2 rd rs1 imm instrs.Lw refl refl (λ word a b. rw (a, b) refl) is.0 is.1 is.2
encoding_is_decoded (instrs.Lbu rd rs1 imm) is = decoded_i 0x03 4 rd rs1 imm instrs.Lbu refl refl (λ word a b. rw (a, b) refl) is.0 is.1 is.2
encoding_is_decoded (instrs.Lhu rd rs1 imm) is = decoded_i 0x03 5 rd rs1 imm instrs.Lhu refl refl (λ word a b. rw (a, b) refl) is.0 is.1 is.2
encoding_is_decoded (instrs.Sb rs1 rs2 imm) is = decoded_s 0x23 0 rs1 rs2 imm instrs.Sb refl refl (λ word a b. rw (a, b) refl) is.0 is.1 is.2
encoding_is_decoded (instrs.Sh rs1 rs2 imm) is = decoded_s 0x23 1 rs1 rs2 imm instrs.Sh refl refl (λ word a b. rw (a, b) refl) is.0 is.1 is.2
encoding_is_decoded (instrs.Sw rs1 rs2 imm) is = decoded_s 0x23 2 rs1 rs2 imm instrs.Sw refl refl (λ word a b. rw (a, b) refl) is.0 is.1 is.2
encoding_is_decoded (instrs.Addi rd rs1 imm) is = decoded_i 0x13 0 rd rs1 imm instrs.Addi refl refl (λ word a b. rw (a, b) refl) is.0 is.1 is.2
encoding_is_decoded (instrs.Slti rd rs1 imm) is = decoded_i 0x13 2 rd rs1 imm instrs.Slti refl refl (λ word a b. rw (a, b) refl) is.0 is.1 is.2
encoding_is_decoded (instrs.Sltiu rd rs1 imm) is = decoded_i 0x13 3 rd rs1 imm instrs.Sltiu refl refl (λ word a b. rw (a, b) refl) is.0 is.1 is.2
encoding_is_decoded (instrs.Xori rd rs1 imm) is = decoded_i 0x13 4 rd rs1 imm instrs.Xori refl refl (λ word a b. rw (a, b) refl) is.0 is.1 is.2
encoding_is_decoded (instrs.Ori rd rs1 imm) is = decoded_i 0x13 6 rd rs1 imm instrs.Ori refl refl (λ word a b. rw (a, b) refl) is.0 is.1 is.2
encoding_is_decoded (instrs.Andi rd rs1 imm) is = decoded_i 0x13 7 rd rs1 imm instrs.Andi refl refl (λ word a b. rw (a, b) refl) is.0 is.1 is.2
encoding_is_decoded (instrs.Slli rd rs1 imm) is = decoded_r 0x13 1 0x00 rd rs1 imm instrs.Slli refl refl refl (λ word a b e f. rw (a, b, e) refl) is.0 is.1 is.2
encoding_is_decoded (instrs.Srli rd rs1 imm) is = decoded_r 0x13 5 0x00 rd rs1 imm instrs.Srli refl refl refl (λ word a b e f. rw (a, b, e) refl) is.0 is.1 is.2
encoding_is_decoded (instrs.Srai rd rs1 imm) is = decoded_r 0x13 5 0x20 rd rs1 imm instrs.Srai refl refl refl (λ word a b e f. rw (a, b, e) refl) is.0 is.1 is.2
encoding_is_decoded (instrs.Add rd rs1 rs2) is = decoded_r 0x33 0 0x00 rd rs1 rs2 instrs.Add refl refl refl (λ word a b e f. rw (a, e, b) refl) is.0 is.1 is.2
encoding_is_decoded (instrs.Sub rd rs1 rs2) is = decoded_r 0x33 0 0x20 rd rs1 rs2 instrs.Sub refl refl refl (λ word a b e f. rw (a, e, b) refl) is.0 is.1 is.2
encoding_is_decoded (instrs.Sll rd rs1 rs2) is = decoded_r 0x33 1 0x00 rd rs1 rs2 instrs.Sll refl refl refl (λ word a b e f. rw (a, e, b) refl) is.0 is.1 is.2
encoding_is_decoded (instrs.Slt rd rs1 rs2) is = decoded_r 0x33 2 0x00 rd rs1 rs2 instrs.Slt refl refl refl (λ word a b e f. rw (a, e, b) refl) is.0 is.1 is.2
encoding_is_decoded (instrs.Sltu rd rs1 rs2) is = decoded_r 0x33 3 0x00 rd rs1 rs2 instrs.Sltu refl refl refl (λ word a b e f. rw (a, e, b) refl) is.0 is.1 is.2
encoding_is_decoded (instrs.Xor rd rs1 rs2) is = decoded_r 0x33 4 0x00 rd rs1 rs2 instrs.Xor refl refl refl (λ word a b e f. rw (a, e, b) refl) is.0 is.1 is.2
encoding_is_decoded (instrs.Srl rd rs1 rs2) is = decoded_r 0x33 5 0x00 rd rs1 rs2 instrs.Srl refl refl refl (λ word a b e f. rw (a, e, b) refl) is.0 is.1 is.2
encoding_is_decoded (instrs.Sra rd rs1 rs2) is = decoded_r 0x33 5 0x20 rd rs1 rs2 instrs.Sra refl refl refl (λ word a b e f. rw (a, e, b) refl) is.0 is.1 is.2
encoding_is_decoded (instrs.Or rd rs1 rs2) is = decoded_r 0x33 6 0x00 rd rs1 rs2 instrs.Or refl refl refl (λ word a b e f. rw (a, e, b) refl) is.0 is.1 is.2
encoding_is_decoded (instrs.And rd rs1 rs2) is = decoded_r 0x33 7 0x00 rd rs1 rs2 instrs.And refl refl refl (λ word a b e f. rw (a, e, b) refl) is.0 is.1 is.2
encoding_is_decoded instrs.Fence is = refl
encoding_is_decoded instrs.Ecall is = refl
encoding_is_decoded instrs.Ebreak is = refl
encoding_is_decoded (instrs.LrW rd rs1) is = decoded_r 0x2f 2 (4 * 0x02) rd rs1 0 (λ x y z. instrs.LrW x y) refl refl refl (λ word a b e f. rw (a, b, funct5_of_funct7 word 0x02 e, f) refl) is.0 is.1 (omega arith)
encoding_is_decoded (instrs.ScW rd rs1 rs2) is = decoded_r 0x2f 2 (4 * 0x03) rd rs1 rs2 instrs.ScW refl refl refl (λ word a b e f. rw (a, b, funct5_of_funct7 word 0x03 e) refl) is.0 is.1 is.2
encoding_is_decoded (instrs.AmoswapW rd rs1 rs2) is = decoded_r 0x2f 2 (4 * 0x01) rd rs1 rs2 instrs.AmoswapW refl refl refl (λ word a b e f. rw (a, b, funct5_of_funct7 word 0x01 e) refl) is.0 is.1 is.2
encoding_is_decoded (instrs.AmoaddW rd rs1 rs2) is = decoded_r 0x2f 2 (4 * 0x00) rd rs1 rs2 instrs.AmoaddW refl refl refl (λ word a b e f. rw (a, b, funct5_of_funct7 word 0x00 e) refl) is.0 is.1 is.2
encoding_is_decoded (instrs.AmoxorW rd rs1 rs2) is = decoded_r 0x2f 2 (4 * 0x04) rd rs1 rs2 instrs.AmoxorW refl refl refl (λ word a b e f. rw (a, b, funct5_of_funct7 word 0x04 e) refl) is.0 is.1 is.2
encoding_is_decoded (instrs.AmoandW rd rs1 rs2) is = decoded_r 0x2f 2 (4 * 0x0c) rd rs1 rs2 instrs.AmoandW refl refl refl (λ word a b e f. rw (a, b, funct5_of_funct7 word 0x0c e) refl) is.0 is.1 is.2
encoding_is_decoded (instrs.AmoorW rd rs1 rs2) is = decoded_r 0x2f 2 (4 * 0x08) rd rs1 rs2 instrs.AmoorW refl refl refl (λ word a b e f. rw (a, b, funct5_of_funct7 word 0x08 e) refl) is.0 is.1 is.2
encoding_is_decoded (instrs.AmominW rd rs1 rs2) is = decoded_r 0x2f 2 (4 * 0x10) rd rs1 rs2 instrs.AmominW refl refl refl (λ word a b e f. rw (a, b, funct5_of_funct7 word 0x10 e) refl) is.0 is.1 is.2
encoding_is_decoded (instrs.AmomaxW rd rs1 rs2) is = decoded_r 0x2f 2 (4 * 0x14) rd rs1 rs2 instrs.AmomaxW refl refl refl (λ word a b e f. rw (a, b, funct5_of_funct7 word 0x14 e) refl) is.0 is.1 is.2
encoding_is_decoded (instrs.AmominuW rd rs1 rs2) is = decoded_r 0x2f 2 (4 * 0x18) rd rs1 rs2 instrs.AmominuW refl refl refl (λ word a b e f. rw (a, b, funct5_of_funct7 word 0x18 e) refl) is.0 is.1 is.2
encoding_is_decoded (instrs.AmomaxuW rd rs1 rs2) is = decoded_r 0x2f 2 (4 * 0x1c) rd rs1 rs2 instrs.AmomaxuW refl refl refl (λ word a b e f. rw (a, b, funct5_of_funct7 word 0x1c e) refl) is.0 is.1 is.2

pub encodings_apart : (i j : Instr) → IsInstruction i → IsInstruction j → encoded i ≡ encoded j → i ≡ j
encodings_apart i j first second e = same_Some i j (sym (encoding_is_decoded i first) ∙ (ap decoded e ∙ encoding_is_decoded j second))
