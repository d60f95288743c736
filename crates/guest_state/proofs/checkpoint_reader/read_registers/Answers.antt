use Rattle.std.proofs.Common.{arith, refl, ◌∙◌, sym, replicate}
use Rattle.std.proofs.lemmas.List.{length-set}
use Rattle.guest_state.proofs.Many.{given, not_given}
use Rattle.guest_state.proofs.Scanning.{no_registers, register_more, register_none, registers_all}
use Rattle.guest_state.proofs.checkpoint_reader.read_registers.Goals as goal

pub loop-place-init : goal.loop-place-init
loop-place-init c = record { size = refl; read = no_registers (replicate 31 0) c.args.bytes.now }

pub returns-in_default : goal.returns-in_default
returns-in_default c =
    let l = c.loop-place in
    sym (l.invariant.read ∙ register_none l.x l.place l.rest.now (omega arith) (not_given _ _ _ c.in_default.is c.read_u32.ensures))

pub loop-place-preserved : goal.loop-place-preserved
loop-place-preserved c =
    let l = c.loop-place in
    record {
      size = length-set l.x l.place c.in-Some.value ∙ l.invariant.size;
      read = l.invariant.read ∙ register_more l.x l.place c.in-Some.value l.rest.now c.in-Some.behind.now (omega arith) l.invariant.size (given _ _ _ _ c.in-Some.is c.read_u32.ensures);
    }

pub returns : goal.returns
returns c =
    let l = c.loop-place in
    sym (l.invariant.read ∙ registers_all l.x l.place l.rest.now (omega arith) l.invariant.size)
