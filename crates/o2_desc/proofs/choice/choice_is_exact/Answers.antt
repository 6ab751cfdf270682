use Rattle.o2_desc.specs.Choice.{chosen}
use Rattle.o2_desc.proofs.Choices.{chosen_law, one_choice}
use Rattle.o2_desc.proofs.choice.choice_is_exact.Goals as goal

pub returns-clause-lowest : goal.returns-clause-lowest
returns-clause-lowest c = chosen_law

pub returns-clause-once : goal.returns-clause-once
returns-clause-once c = λ taken low end n r h. one_choice taken low end n r (chosen taken low end n) h (chosen_law taken low end n)
