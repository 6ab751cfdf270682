use Rattle.std.proofs.Common.{◌∙◌, List, ℕ, Option, Some, option_map, sym, ap, subst}
use Rattle.clap.specs.Words.{Text}
use Rattle.o2_words.specs.Words.{IsOperand}
use Rattle.o2_words.proofs.Finds.{is_there, operand_is, shown, word_is}
use Rattle.o2_words.proofs.Verbs.{found_as, has_count, is_found}
use Rattle.o2_words.proofs.parser.read.Goals as goal

pub unwrap-operand-requires : goal.unwrap-operand-requires
unwrap-operand-requires c =
    let found = c.subcommand in
    is_there _ _ _ c.requires.1 _ c.get_str.result (shown c.args.matches.now found.result c.unwrap.result found.ensures.name found.ensures.rows c.unwrap.ensures) c.requires.2 c.get_str.ensures

pub unwrap-verb-requires : goal.unwrap-verb-requires
unwrap-verb-requires c =
    let found = c.subcommand in
    let met = shown c.args.matches.now found.result c.unwrap.result found.ensures.name found.ensures.rows c.unwrap.ensures
    ∙ ap (λ (o : Option Text). Some (c.unwrap.result.0.now, o)) (sym c.get_str.ensures ∙ ap (option_map (λ s. s.now)) c.unwrap-operand.ensures) in
    is_found _ _ c.verb_of.result c.verb_of.ensures c.requires.0 (c.as_bytes.ensures.value ∙ word_is _ _ _ _ _ met c.requires.2)
    (subst (λ (text : List ℕ). IsOperand c.requires.0 text) (sym (operand_is _ _ _ _ _ met c.requires.2)) c.requires.3)

pub returns-clause-found : goal.returns-clause-found
returns-clause-found c =
    let found = c.subcommand in
    let met = shown c.args.matches.now found.result c.unwrap.result found.ensures.name found.ensures.rows c.unwrap.ensures
    ∙ ap (λ (o : Option Text). Some (c.unwrap.result.0.now, o)) (sym c.get_str.ensures ∙ ap (option_map (λ s. s.now)) c.unwrap-operand.ensures) in
    met ∙ ap (λ (word : Text). Some (word, Some c.unwrap-operand.result.now)) (sym c.as_bytes.ensures.value ∙ (found_as _ _ c.verb_of.result c.verb_of.ensures _ c.unwrap-verb.ensures).0)

pub returns-clause-is_operand : goal.returns-clause-is_operand
returns-clause-is_operand c = (found_as _ _ c.verb_of.result c.verb_of.ensures _ c.unwrap-verb.ensures).1

pub returns-clause-count : goal.returns-clause-count
returns-clause-count c = has_count _ _ (found_as _ _ c.verb_of.result c.verb_of.ensures _ c.unwrap-verb.ensures).1
