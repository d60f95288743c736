use Rattle.std.proofs.Common.{◌≡◌, ◌++◌, ◌≤◌, List, length, sym, ap, ◌∙◌, subst}
use Rattle.std.specs.List.{AllByRecursion}
use Rattle.std.specs.Option.{option_to_list}
use Rattle.dp_base.specs.declared.answer.Answer.{Answer}
use Rattle.dp_base.specs.Journal.{IsAnswer}
use Rattle.guest_kernel.specs.Turn.{HasRead, log_of, output_after, turn}
use Rattle.epoch_runner.specs.Answering.{answer_to, answers_for}
use Rattle.epoch_runner.specs.SliceRun.{Traced}
use Rattle.epoch_runner.specs.Trace.{traced}
use Rattle.epoch_runner.proofs.AnswerLists.{at_most_one}
use Rattle.epoch_runner.proofs.Readiness.{early_input, taken_open}
use Rattle.epoch_runner.proofs.Stretch.{has_turned, turn_taken}
use Rattle.epoch_runner.proofs.slice.one_turn.Goals as goal

pub turn-requires-clause-little_input : goal.turn-requires-clause-little_input
turn-requires-clause-little_input c = λ reads.
    early_input c.a_read_starts_where_the_input_is.ensures c.args.state.now c.args.tid c.args.peek c.requires.peeked (c.in_ok-answer.ensures.place (subst HasRead (ap option_to_list c.as_ref.ensures.value) reads))

pub unreachable-requires : goal.unreachable-requires
unreachable-requires c =
    let w = c.args.supply.now in
    let here = c.args.state.now in
    let opened = taken_open c.turn_laws.ensures here w c.args.tid c.args.peek c.requires.peeked c.requires.can in
    let log = log_of c.as_ref.result in
    let log_is : log ≡ answers_for here w c.args.tid = ap option_to_list c.as_ref.ensures.value ∙ c.in_ok-answer.ensures.is ∙ ap (answer_to w) c.requires.peeked in
    turn_taken c.turn_laws.ensures w c.args.tid here log c.in_ok-yielded.field-0 opened.0 opened.1 log_is c.in_ok-yielded.ensures.answer c.in_default.not-Stepped

pub returns : goal.returns
returns c =
    let w = c.args.supply.now in
    let here = c.args.state.now in
    let opened = taken_open c.turn_laws.ensures here w c.args.tid c.args.peek c.requires.peeked c.requires.can in
    let log = log_of c.as_ref.result in
    let log_is : log ≡ answers_for here w c.args.tid = ap option_to_list c.as_ref.ensures.value ∙ c.in_ok-answer.ensures.is ∙ ap (answer_to w) c.requires.peeked in
    let is_answer : AllByRecursion IsAnswer log = subst (AllByRecursion IsAnswer) (sym (ap option_to_list c.as_ref.ensures.value)) c.in_ok-answer.ensures.is_answer in
    let one_answer : length log ≤ 1 = subst (λ (xs : List Answer). length xs ≤ 1) (sym (ap option_to_list c.as_ref.ensures.value)) (at_most_one c.in_ok-answer.answer) in
    let output : c.put.new.self.out.items ≡ output_after c.args.trace.now.out.items (turn here c.args.tid log) = ap (λ (t : Traced). t.output) c.in_ok-put.ensures ∙ c.in_ok-yielded.ensures.output in
    let taken : c.put.new.self.answers ≡ c.args.trace.now.answers ++ log =
    ap (λ (t : Traced). t.answers) c.in_ok-put.ensures ∙ ap (λ xs. c.args.trace.now.answers ++ xs) (sym (ap option_to_list c.as_ref.ensures.value)) in
    has_turned c.turn_laws.ensures w c.args.tid here c.turn.new.self (traced c.args.trace.now) (traced c.put.new.self) log c.in-Stepped.used c.in-Stepped.yielded opened.0 opened.1 log_is one_answer is_answer
    (sym c.in-Stepped.is ∙ c.in_ok-yielded.ensures.answer) c.in_ok-yielded.ensures.state output taken
