use Rattle.o2_stands.proofs.RunsSeen.{full_seen, runs_seen}
use Rattle.o2_stands.proofs.laws.runs_are_seen.Goals as goal

pub returns-clause-runs : goal.returns-clause-runs
returns-clause-runs c = λ p ps names next reserved lawful matches tidy. runs_seen p ps names next reserved lawful.maps matches tidy

pub returns-clause-full : goal.returns-clause-full
returns-clause-full c = λ p ps names next reserved lawful matches tidy. full_seen p ps names next reserved lawful.maps matches tidy
