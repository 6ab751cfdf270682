use Rattle.o2_words.proofs.Verbs.{one_command}
use Rattle.o2_words.proofs.laws.one_command.Goals as goal

pub returns-clause-verb : goal.returns-clause-verb
returns-clause-verb c = λ verb verb_too name name_too f g. one_command c.args.words.now verb verb_too name name_too f g
