use Rattle.std.proofs.Common.{rules, ◌≡◌, false}
use Rattle.std.proofs.lemmas.Result.{IfOk-weaker}
use Rattle.clap.specs.Words.{rule_of}
use Rattle.dp_words.specs.CommandLine.{number}
use Rattle.dp_words.proofs.LineLemmas.{added}
use Rattle.dp_words.proofs.command_line.with_number.Goals as goal

pub returns : goal.returns
returns c =
    let is : rule_of c.default_value.result ≡ number c.args.name.now c.args.least c.args.most c.args.default.now = search rules in
    let local : c.default_value.result.global ≡ false = search rules in
    IfOk-weaker c.arg.result _ _
    (λ more adds. added c.args.line more c.default_value.result (number c.args.name.now c.args.least c.args.most c.args.default.now) adds local is)
    c.arg.ensures
