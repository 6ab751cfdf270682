use Rattle.o2_segbus.proofs.Ages.{named_by_age, names_stay, ages_stay, no_ages, ages_added, ages_removed}
use Rattle.o2_segbus.proofs.laws.ages_are_names.Goals as goal

pub returns-clause-named : goal.returns-clause-named
returns-clause-named c = named_by_age

pub returns-clause-names : goal.returns-clause-names
returns-clause-names c = names_stay

pub returns-clause-ages : goal.returns-clause-ages
returns-clause-ages c = ages_stay

pub returns-clause-empty : goal.returns-clause-empty
returns-clause-empty c = no_ages

pub returns-clause-added : goal.returns-clause-added
returns-clause-added c = ages_added

pub returns-clause-removed : goal.returns-clause-removed
returns-clause-removed c = ages_removed
