use Rattle.std.proofs.Common.{◌≡◌, IfOk, OnErr, OnOk, Some, arith}
use Rattle.dp_base.specs.Memory.{Memory}
use Rattle.rv_step.specs.Effect.{Effect}
use Rattle.rv_step.specs.Step.{answer_for, hart_after, memory_after}
use Rattle.rv_step.proofs.Fetched.{behind_fetch, same_memory}
use Rattle.rv_step.proofs.step.exec.Goals as goal

pub returns-in-Done-clause-answer : goal.returns-in-Done-clause-answer
returns-in-Done-clause-answer g c =
    behind_fetch (λ (e : Effect) (m : Memory). IfOk c.exec_word.result (λ stepped. stepped ≡ answer_for e)) (g.M.Mem.memory c.args.memory.now) (g.M.Mem.memory c.fetch.new.self)
    c.args.hart.now c.in-Done.word (omega arith) c.in-Done.ensures.word c.in-Done.ensures.same c.exec_word.ensures.answer

pub returns-in-Done-clause-hart : goal.returns-in-Done-clause-hart
returns-in-Done-clause-hart g c =
    behind_fetch (λ (e : Effect) (m : Memory). OnOk c.exec_word.result (c.exec_word.new.hart ≡ hart_after e c.args.hart.now)) (g.M.Mem.memory c.args.memory.now) (g.M.Mem.memory c.fetch.new.self)
    c.args.hart.now c.in-Done.word (omega arith) c.in-Done.ensures.word c.in-Done.ensures.same c.exec_word.ensures.hart

pub returns-in-Done-clause-memory : goal.returns-in-Done-clause-memory
returns-in-Done-clause-memory g c =
    behind_fetch (λ (e : Effect) (m : Memory). OnOk c.exec_word.result (g.M.Mem.memory c.exec_word.new.memory ≡ Some (memory_after e m))) (g.M.Mem.memory c.args.memory.now) (g.M.Mem.memory c.fetch.new.self)
    c.args.hart.now c.in-Done.word (omega arith) c.in-Done.ensures.word c.in-Done.ensures.same c.exec_word.ensures.memory

pub returns-in-Done-clause-err_memory : goal.returns-in-Done-clause-err_memory
returns-in-Done-clause-err_memory g c =
    same_memory (λ (m : Memory). OnErr c.exec_word.result (g.M.Mem.memory c.exec_word.new.memory ≡ Some m)) (g.M.Mem.memory c.args.memory.now) (g.M.Mem.memory c.fetch.new.self)
    c.in-Done.ensures.same c.exec_word.ensures.err_memory
