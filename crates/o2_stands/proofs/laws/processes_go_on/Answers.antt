use Rattle.o2_stands.proofs.Running.{goes_on_stands}
use Rattle.o2_stands.proofs.laws.processes_go_on.Goals as goal

pub returns : goal.returns
returns c = λ p ps names next reserved pid x q there same lives stands. goes_on_stands ps pid x q there same p names next reserved lives stands
