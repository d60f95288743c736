use Rattle.std.proofs.Common.{rules, ◌≡◌, false}
use Rattle.std.proofs.lemmas.Result.{IfOk-weaker}
use Rattle.clap.specs.Words.{rule_of}
use Rattle.dp_words.specs.CommandLine.{required_number}
use Rattle.dp_words.proofs.LineLemmas.{added}
use Rattle.dp_words.proofs.command_line.with_required_number.Goals as goal

pub returns : goal.returns
returns c =
    let is : rule_of c.value_parser.result ≡ required_number c.args.name.now c.args.least c.args.most = search rules in
    let local : c.value_parser.result.global ≡ false = search rules in
    IfOk-weaker c.arg.result _ _
    (λ more adds. added c.args.line more c.value_parser.result (required_number c.args.name.now c.args.least c.args.most) adds local is)
    c.arg.ensures
