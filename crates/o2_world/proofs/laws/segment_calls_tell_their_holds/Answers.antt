-- Computed from the definitions.
use Rattle.std.proofs.Common.{refl}
use Rattle.std.specs.Fmt.{digits}
use Rattle.o2_desc.specs.Choice.{is_open, first_open}
use Rattle.o2_world.specs.Text.{hex4, line_text}
use Rattle.o2_world.specs.Holders.{holds_name}
use Rattle.o2_world.specs.Changes.{holds_run, with_changes, moved_lines}
use Rattle.o2_world.specs.Known.{live_below}
use Rattle.o2_isa.specs.View.{probe_of}
use Rattle.o2_world.specs.Calls.{row_of, argument, is_good, range_of, put_at_pointer}
use Rattle.o2_world.specs.Run.{changed}
use Rattle.o2_world.specs.Starts.{all_started}
use Rattle.o2_world.specs.SegmentsWorked.{calls}
use Rattle.o2_world.proofs.laws.segment_calls_tell_their_holds.Goals as goal

pub returns-clause-makes : goal.returns-clause-makes
unfolding is_open first_open hex4 line_text holds_name holds_run probe_of argument is_good range_of put_at_pointer live_below moved_lines with_changes changed all_started calls row_of digits
returns-clause-makes c = refl

pub returns-clause-frees : goal.returns-clause-frees
unfolding is_open first_open hex4 line_text holds_name holds_run probe_of argument is_good range_of put_at_pointer live_below moved_lines with_changes changed all_started calls row_of digits
returns-clause-frees c = refl

pub returns-clause-gives : goal.returns-clause-gives
unfolding is_open first_open hex4 line_text holds_name holds_run probe_of argument is_good range_of put_at_pointer live_below moved_lines with_changes changed all_started calls row_of digits
returns-clause-gives c = refl

pub returns-clause-orders : goal.returns-clause-orders
unfolding is_open first_open hex4 line_text holds_name holds_run probe_of argument is_good range_of put_at_pointer live_below moved_lines with_changes changed all_started calls row_of digits
returns-clause-orders c = refl

pub returns-clause-clears : goal.returns-clause-clears
unfolding is_open first_open hex4 line_text holds_name holds_run probe_of argument is_good range_of put_at_pointer live_below moved_lines with_changes changed all_started calls row_of digits
returns-clause-clears c = refl

pub returns-clause-leaves : goal.returns-clause-leaves
unfolding is_open first_open hex4 line_text holds_name holds_run probe_of argument is_good range_of put_at_pointer live_below moved_lines with_changes changed all_started calls row_of digits
returns-clause-leaves c = refl

pub returns-clause-clears_ds : goal.returns-clause-clears_ds
unfolding is_open first_open hex4 line_text holds_name holds_run probe_of argument is_good range_of put_at_pointer live_below moved_lines with_changes changed all_started calls row_of digits
returns-clause-clears_ds c = refl

pub returns-clause-leaves_ds : goal.returns-clause-leaves_ds
unfolding is_open first_open hex4 line_text holds_name holds_run probe_of argument is_good range_of put_at_pointer live_below moved_lines with_changes changed all_started calls row_of digits
returns-clause-leaves_ds c = refl
