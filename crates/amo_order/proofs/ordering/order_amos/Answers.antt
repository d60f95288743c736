use Rattle.std.proofs.Common.{◌∙◌, ℕ, List, get_or, subst, sym}
use Rattle.amo_order.specs.Places.{at_tickets}
use Rattle.amo_order.specs.declared.amo.Placed.{Placed}
use Rattle.amo_order.proofs.Answering.{IsAnswer, answers_first, answers_more, amos_of, keeps_order}
use Rattle.amo_order.proofs.ordering.order_amos.Goals as goal

pub loop-word-init : goal.loop-word-init
loop-word-init c = subst (λ (placed : List Placed). IsAnswer (at_tickets c.args.amos.now) placed) (sym c.in_ok-placed.ensures) (answers_first c.args.amos.now)

pub loop-word-preserved : goal.loop-word-preserved
loop-word-preserved c =
    let word : ℕ = get_or c.deref-word-items.result.now c.loop-word.word-index 0 in
    answers_more word (at_tickets c.args.amos.now) c.loop-word.placed.items c.order_word.new.placed.items c.loop-word.invariant c.in_ok-order_word.ensures

pub returns : goal.returns
returns c =
    record {
      each_once = c.loop-word.invariant.amos ∙ amos_of c.args.amos.now;
      between = c.loop-word.invariant.between;
      threads = keeps_order c.loop-word.placed.items c.loop-word.invariant.between;
      words = c.loop-word.invariant.words;
    }
