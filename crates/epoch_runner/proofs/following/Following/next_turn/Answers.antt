use Rattle.std.proofs.Common.{◌∙◌, IfSome, Option, ap, sym, subst}
use Rattle.epoch_runner.specs.Hinted.{HintedTurn, last_rule, rule_1}
use Rattle.epoch_runner.specs.HintRun.{IsNextTurn, following_of}
use Rattle.epoch_runner.proofs.HintTurns.{last_found, others_found, others_none}
use Rattle.epoch_runner.proofs.following.Following.next_turn.Goals as goal

pub returns-in_default-clause-some : goal.returns-in_default-clause-some
returns-in_default-clause-some c =
    let s = c.args.state.now in
    let f = following_of c.args.self.now c.args.order.now in
    subst (λ (o : Option HintedTurn). IfSome c.own_turn.result (IsNextTurn o s f (following_of c.own_turn.new.self c.args.order.now)))
    (sym (others_none s c.args.supply.now f c.in-Others.entry c.in-Others.from c.in-Others.is (ap (λ l. rule_1 s l c.in-Others.entry c.in-Others.from) (sym c.deref.ensures.value) ∙ sym c.lowest_plain.ensures ∙ c.in_default.is))) c.own_turn.ensures.some

pub returns-in-Some-clause-some : goal.returns-in-Some-clause-some
returns-in-Some-clause-some c =
    others_found c.args.state.now c.args.supply.now (following_of c.args.self.now c.args.order.now) c.in-Others.entry c.in-Others.from c.in-Some.tid c.plain_turn.result c.in-Others.is
    (ap (λ l. rule_1 c.args.state.now l c.in-Others.entry c.in-Others.from) (sym c.deref.ensures.value) ∙ sym c.lowest_plain.ensures ∙ c.in-Some.is) c.plain_turn.ensures

pub returns-in_ok-tid-in-Last-clause-some : goal.returns-in_ok-tid-in-Last-clause-some
returns-in_ok-tid-in-Last-clause-some c =
    last_found c.args.state.now c.args.supply.now (following_of c.args.self.now c.args.order.now) c.in-Last.from c.in_ok-tid-in-Last.tid c.plain_turn-in-Last.result c.in-Last.is
    (ap (λ l. last_rule c.args.state.now l c.in-Last.from) (sym c.deref-in-Last.ensures.value) ∙ sym c.lowest_plain-in-Last.ensures ∙ c.in_ok-tid-in-Last.was) c.plain_turn-in-Last.ensures
