use Rattle.o2_calls.proofs.Answered.{call_seen}
use Rattle.o2_calls.proofs.laws.what_a_call_gives_is_seen.Goals as goal

pub returns : goal.returns
returns c = λ s w d x a next q t m at matches gives store maps inside ready. call_seen s w d x a next at q matches t m gives store maps inside ready
