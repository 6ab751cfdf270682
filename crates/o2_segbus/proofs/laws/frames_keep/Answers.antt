use Rattle.o2_segbus.proofs.Keeping.{holds_stay, sizes_stay, presence_stays, marks_stay, ages_kept, guards_stay}
use Rattle.o2_segbus.proofs.laws.frames_keep.Goals as goal

pub returns-clause-holds : goal.returns-clause-holds
returns-clause-holds c = holds_stay

pub returns-clause-sizes : goal.returns-clause-sizes
returns-clause-sizes c = sizes_stay

pub returns-clause-present : goal.returns-clause-present
returns-clause-present c = presence_stays

pub returns-clause-gone : goal.returns-clause-gone
returns-clause-gone c = marks_stay

pub returns-clause-ages : goal.returns-clause-ages
returns-clause-ages c = ages_kept

pub returns-clause-guards : goal.returns-clause-guards
returns-clause-guards c = guards_stay
