use Rattle.o2_stands.proofs.Matching.{matched_by, stood_by}
use Rattle.o2_stands.proofs.laws.standing_is_matching.Goals as goal

pub returns-clause-matches : goal.returns-clause-matches
returns-clause-matches c = matched_by

pub returns-clause-stands : goal.returns-clause-stands
returns-clause-stands c = stood_by
