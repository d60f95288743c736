use Rattle.std.proofs.Common.{rules, ◌≡◌}
use Rattle.std.proofs.lemmas.Result.{IfOk-weaker}
use Rattle.clap.specs.Words.{app_of, with_subcommand}
use Rattle.dp_words.specs.CommandLine.{inspect_subcommand, no_words, record_subcommand, replay_subcommand, selftest_subcommand}
use Rattle.dp_words.proofs.LineLemmas.{with_line}
use Rattle.dp_words.proofs.command_line.command_line.Goals as goal

pub returns : goal.returns
returns c =
    let none : app_of c.disable_help_subcommand.result ≡ no_words = search rules in
    let one = with_line _ _ _ no_words record_subcommand c.in_ok-subcommand.ensures none c.in_ok-record.ensures in
    let two = with_line _ _ _ (with_subcommand no_words record_subcommand.top) replay_subcommand c.in_ok-subcommand-2.ensures one c.in_ok-replay.ensures in
    let both = with_subcommand (with_subcommand no_words record_subcommand.top) replay_subcommand.top in
    let three = with_line _ _ _ both inspect_subcommand c.in_ok-subcommand-3.ensures two c.in_ok-inspect.ensures in
    let all = with_subcommand both inspect_subcommand.top in
    IfOk-weaker c.subcommand-4.result _ _ (λ line adds. with_line _ _ line all selftest_subcommand adds three c.in_ok-selftest.ensures) c.subcommand-4.ensures
