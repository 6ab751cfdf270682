-- Computed from the definitions.
use Rattle.std.proofs.Common.{refl}
use Rattle.o2_desc.specs.Choice.{is_open, first_open}
use Rattle.o2_world.specs.Holders.{holds_name}
use Rattle.o2_world.specs.Changes.{holds_run, with_changes, moved_lines}
use Rattle.o2_world.specs.Known.{live_below}
use Rattle.o2_world.specs.Heaps.{word}
use Rattle.o2_isa.specs.View.{probe_of}
use Rattle.o2_world.specs.Calls.{row_of, argument, is_good, range_of, put_at_pointer}
use Rattle.o2_world.specs.Run.{changed}
use Rattle.o2_world.specs.Starts.{all_started}
use Rattle.o2_world.specs.SegmentsWorked.{calls}
use Rattle.o2_ramsem_laws.proofs.laws.owners_are_told_by_the_rows.Goals as goal

pub returns-clause-lines : goal.returns-clause-lines
unfolding is_open first_open holds_name holds_run probe_of argument is_good range_of put_at_pointer live_below moved_lines with_changes changed all_started calls row_of word
returns-clause-lines c = refl

pub returns-clause-nobody : goal.returns-clause-nobody
unfolding is_open first_open holds_name holds_run probe_of argument is_good range_of put_at_pointer live_below moved_lines with_changes changed all_started calls row_of word
returns-clause-nobody c = refl

pub returns-clause-first : goal.returns-clause-first
unfolding is_open first_open holds_name holds_run probe_of argument is_good range_of put_at_pointer live_below moved_lines with_changes changed all_started calls row_of word
returns-clause-first c = refl

pub returns-clause-waits : goal.returns-clause-waits
unfolding is_open first_open holds_name holds_run probe_of argument is_good range_of put_at_pointer live_below moved_lines with_changes changed all_started calls row_of word
returns-clause-waits c = refl

pub returns-clause-next : goal.returns-clause-next
unfolding is_open first_open holds_name holds_run probe_of argument is_good range_of put_at_pointer live_below moved_lines with_changes changed all_started calls row_of word
returns-clause-next c = refl

pub returns-clause-set : goal.returns-clause-set
unfolding is_open first_open holds_name holds_run probe_of argument is_good range_of put_at_pointer live_below moved_lines with_changes changed all_started calls row_of word
returns-clause-set c = refl

pub returns-clause-waited_for : goal.returns-clause-waited_for
unfolding is_open first_open holds_name holds_run probe_of argument is_good range_of put_at_pointer live_below moved_lines with_changes changed all_started calls row_of word
returns-clause-waited_for c = refl

pub returns-clause-other : goal.returns-clause-other
unfolding is_open first_open holds_name holds_run probe_of argument is_good range_of put_at_pointer live_below moved_lines with_changes changed all_started calls row_of word
returns-clause-other c = refl
