-- Computed from the definitions.
use Rattle.std.proofs.Common.{refl}
use Rattle.o2_world.specs.Starts.{all_started}
use Rattle.o2_world.specs.Holders.{holds_name}
use Rattle.o2_world.specs.Changes.{holds_run, with_changes}
use Rattle.o2_world.proofs.laws.an_end_leaves_what_another_holds.Goals as goal

pub returns-clause-names_before : goal.returns-clause-names_before
unfolding all_started holds_name holds_run with_changes
returns-clause-names_before c = refl

pub returns-clause-names_of_one : goal.returns-clause-names_of_one
unfolding all_started holds_name holds_run with_changes
returns-clause-names_of_one c = refl

pub returns-clause-names_of_none : goal.returns-clause-names_of_none
unfolding all_started holds_name holds_run with_changes
returns-clause-names_of_none c = refl

pub returns-clause-texts_before : goal.returns-clause-texts_before
unfolding all_started holds_name holds_run with_changes
returns-clause-texts_before c = refl

pub returns-clause-texts_of_one : goal.returns-clause-texts_of_one
unfolding all_started holds_name holds_run with_changes
returns-clause-texts_of_one c = refl

pub returns-clause-texts_of_none : goal.returns-clause-texts_of_none
unfolding all_started holds_name holds_run with_changes
returns-clause-texts_of_none c = refl

pub returns-clause-runs_before : goal.returns-clause-runs_before
unfolding all_started holds_name holds_run with_changes
returns-clause-runs_before c = refl

pub returns-clause-runs_of_one : goal.returns-clause-runs_of_one
unfolding all_started holds_name holds_run with_changes
returns-clause-runs_of_one c = refl

pub returns-clause-runs_of_none : goal.returns-clause-runs_of_none
unfolding all_started holds_name holds_run with_changes
returns-clause-runs_of_none c = refl
