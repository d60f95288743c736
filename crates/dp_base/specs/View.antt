-- What is borrowed from bytes or from a table, as its value. This project's own.
use Rattle.dp_base.specs.declared.answer.Answer.{Answer}
use Rattle.dp_base.specs.declared.answer.Answer.TheVariants as answers
use Rattle.dp_base.specs.declared.answer_view.AnswerView.{AnswerView}
use Rattle.dp_base.specs.declared.answer_view.AnswerView.TheVariants.{Read, Clock}
use Rattle.dp_base.specs.declared.page.Page.{Page}
use Rattle.dp_base.specs.declared.page.PageView.{PageView}

abbrev pub answer_of_view : AnswerView → Answer
answer_of_view (Read bytes) = answers.Read bytes.now
answer_of_view (Clock reading) = answers.Clock reading

abbrev pub page_of : PageView → Page
page_of v = record { number = v.number; flags = v.flags; bytes = v.bytes.now }
