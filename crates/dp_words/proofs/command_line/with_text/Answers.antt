use Rattle.std.proofs.Common.{rules, ◌≡◌, false}
use Rattle.std.proofs.lemmas.Result.{IfOk-weaker}
use Rattle.clap.specs.Words.{rule_of}
use Rattle.dp_words.specs.CommandLine.{text}
use Rattle.dp_words.proofs.LineLemmas.{added}
use Rattle.dp_words.proofs.command_line.with_text.Goals as goal

pub returns : goal.returns
returns c =
    let is : rule_of c.action.result ≡ text c.args.name.now = search rules in
    let local : c.action.result.global ≡ false = search rules in
    IfOk-weaker c.arg.result _ _ (λ more adds. added c.args.line more c.action.result (text c.args.name.now) adds local is) c.arg.ensures
