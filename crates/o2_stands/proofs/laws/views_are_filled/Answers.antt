use Rattle.o2_stands.proofs.Views.{bus_is, view_is}
use Rattle.o2_stands.proofs.laws.views_are_filled.Goals as goal

pub returns-clause-view : goal.returns-clause-view
returns-clause-view c = λ p ps names next reserved pid q r h f lawful stands at fills. view_is p ps names next reserved lawful stands pid q r h f at fills

pub returns-clause-bus : goal.returns-clause-bus
returns-clause-bus c = λ p ps names next reserved pid q g t x h lawful stands at agrees. bus_is p ps names next reserved lawful stands g t pid q x h at agrees
