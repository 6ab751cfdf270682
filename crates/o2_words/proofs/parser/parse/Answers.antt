use Rattle.std.proofs.Common.{rules, ◌≡◌, ◌∙◌, ap, ap₂}
use Rattle.std.proofs.lemmas.Result.{IfErr-weaker, IfOk-weaker}
use Rattle.clap.specs.Words.{app_of, is_simple, subcommand_of, takes}
use Rattle.o2_words.specs.Grammar.{operand_in, program_app}
use Rattle.o2_words.proofs.Walks.{operand_met, plain_operand, simple, taken}
use Rattle.o2_words.proofs.parser.parse.Goals as goal

pub returns-clause-ok : goal.returns-clause-ok
returns-clause-ok c =
    let parse = c.try_get_matches_from in
    let app_is : app_of c.in_ok-program.field-0 ≡ program_app = search rules in
    IfOk-weaker parse.result _ _ (λ m h verb name command.
    ap operand_in ((h (ap is_simple app_is ∙ simple)).1 ∙ ap₂ subcommand_of app_is command.two) ∙ operand_met verb name (plain_operand verb name command.is_operand))
    parse.ensures.matches

pub returns-clause-err : goal.returns-clause-err
returns-clause-err c =
    let parse = c.try_get_matches_from in
    let app_is : app_of c.in_ok-program.field-0 ≡ program_app = search rules in
    let command = c.requires.2 in
    IfErr-weaker parse.result _ _ (λ e h. h (ap₂ takes app_is command.two ∙ taken c.requires.0 c.requires.1 (plain_operand c.requires.0 c.requires.1 command.is_operand))) parse.ensures.passes
