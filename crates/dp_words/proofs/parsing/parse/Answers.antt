use Rattle.std.proofs.Common.{◌∙◌, ap, map, string_bytes, subst, sym}
use Rattle.clap.specs.Words.{app_of}
use Rattle.dp_words.specs.Commands.{command_found}
use Rattle.dp_words.specs.Found.{IsFound}
use Rattle.dp_words.proofs.Found.{found, line_refused, line_rows, line_taken}
use Rattle.dp_words.proofs.parsing.parse.Goals as goal

pub found-requires : goal.found-requires
found-requires c =
    let words = map string_bytes c.args.words.now in
    let line = app_of c.in_ok-command_line.field-0 in
    let taken = line_taken line words c.in_ok-command_line.ensures c.in-Ok.ensures.kinds in
    subst IsFound (sym (line_rows line words c.in-Ok.matches c.in_ok-command_line.ensures c.in-Ok.ensures.matches)) (found words taken)

pub returns-in_ok-found-in-Ok-clause-taken : goal.returns-in_ok-found-in-Ok-clause-taken
returns-in_ok-found-in-Ok-clause-taken c =
    line_taken (app_of c.in_ok-command_line.field-0) (map string_bytes c.args.words.now) c.in_ok-command_line.ensures c.in-Ok.ensures.kinds

pub returns-in_ok-found-in-Ok-clause-command : goal.returns-in_ok-found-in-Ok-clause-command
returns-in_ok-found-in-Ok-clause-command c =
    let words = map string_bytes c.args.words.now in
    let rows = line_rows (app_of c.in_ok-command_line.field-0) words c.in-Ok.matches c.in_ok-command_line.ensures c.in-Ok.ensures.matches in
    ap command_found (sym rows) ∙ c.in_ok-found-in-Ok.ensures.command

pub returns-in-Err-clause-usage : goal.returns-in-Err-clause-usage
returns-in-Err-clause-usage c =
    line_refused (app_of c.in_ok-command_line.field-0) (map string_bytes c.args.words.now) c.kind.result c.fault_of.result c.in_ok-command_line.ensures
    (λ ok. c.kind.ensures ∙ c.in-Err.ensures.passes ok) c.fault_of.ensures
