use Rattle.o2_calls.proofs.Replies.{asked_is}
use Rattle.o2_calls.proofs.laws.calls_come_back_by_their_rulings.Goals as goal

pub returns : goal.returns
returns c = λ a b next. asked_is b next a
