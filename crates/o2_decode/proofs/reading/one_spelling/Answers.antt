use Rattle.o2_decode.proofs.Laws.{one_meaning, no_front}
use Rattle.o2_decode.proofs.CanonicalLaw.{canonical}
use Rattle.o2_decode.proofs.reading.one_spelling.Goals as goal

pub returns-clause-unique : goal.returns-clause-unique
returns-clause-unique c = one_meaning

pub returns-clause-no_front : goal.returns-clause-no_front
returns-clause-no_front c = no_front

pub returns-clause-canonical : goal.returns-clause-canonical
returns-clause-canonical c = canonical
