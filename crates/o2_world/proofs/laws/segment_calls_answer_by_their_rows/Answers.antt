-- Computed from the definitions.
use Rattle.std.proofs.Common.{refl}
use Rattle.std.specs.Fmt.{digits}
use Rattle.o2_desc.specs.Choice.{is_open, first_open}
use Rattle.o2_world.specs.Text.{hex4, line_text}
use Rattle.o2_world.specs.Holders.{holds_name}
use Rattle.o2_world.specs.Changes.{holds_run, with_changes, moved_lines}
use Rattle.o2_world.specs.Known.{live_below}
use Rattle.o2_isa.specs.View.{probe_of}
use Rattle.o2_world.specs.Calls.{row_of, argument, is_good, range_of, put_at_pointer}
use Rattle.o2_world.specs.Run.{changed}
use Rattle.o2_world.specs.Starts.{all_started}
use Rattle.o2_world.specs.SegmentsWorked.{calls}
use Rattle.o2_world.proofs.laws.segment_calls_answer_by_their_rows.Goals as goal

pub returns-clause-sizes : goal.returns-clause-sizes
unfolding is_open first_open hex4 line_text holds_name holds_run probe_of argument is_good range_of put_at_pointer live_below moved_lines with_changes changed all_started calls row_of digits
returns-clause-sizes c = refl

pub returns-clause-flags : goal.returns-clause-flags
unfolding is_open first_open hex4 line_text holds_name holds_run probe_of argument is_good range_of put_at_pointer live_below moved_lines with_changes changed all_started calls row_of digits
returns-clause-flags c = refl

pub returns-clause-reallocs : goal.returns-clause-reallocs
unfolding is_open first_open hex4 line_text holds_name holds_run probe_of argument is_good range_of put_at_pointer live_below moved_lines with_changes changed all_started calls row_of digits
returns-clause-reallocs c = refl

pub returns-clause-zeros : goal.returns-clause-zeros
unfolding is_open first_open hex4 line_text holds_name holds_run probe_of argument is_good range_of put_at_pointer live_below moved_lines with_changes changed all_started calls row_of digits
returns-clause-zeros c = refl

pub returns-clause-locks : goal.returns-clause-locks
unfolding is_open first_open hex4 line_text holds_name holds_run probe_of argument is_good range_of put_at_pointer live_below moved_lines with_changes changed all_started calls row_of digits
returns-clause-locks c = refl

pub returns-clause-aliases : goal.returns-clause-aliases
unfolding is_open first_open hex4 line_text holds_name holds_run probe_of argument is_good range_of put_at_pointer live_below moved_lines with_changes changed all_started calls row_of digits
returns-clause-aliases c = refl

pub returns-clause-shared_alias : goal.returns-clause-shared_alias
unfolding is_open first_open hex4 line_text holds_name holds_run probe_of argument is_good range_of put_at_pointer live_below moved_lines with_changes changed all_started calls row_of digits
returns-clause-shared_alias c = refl

pub returns-clause-frees : goal.returns-clause-frees
unfolding is_open first_open hex4 line_text holds_name holds_run probe_of argument is_good range_of put_at_pointer live_below moved_lines with_changes changed all_started calls row_of digits
returns-clause-frees c = refl

pub returns-clause-names : goal.returns-clause-names
unfolding is_open first_open hex4 line_text holds_name holds_run probe_of argument is_good range_of put_at_pointer live_below moved_lines with_changes changed all_started calls row_of digits
returns-clause-names c = refl

pub returns-clause-no_names : goal.returns-clause-no_names
unfolding is_open first_open hex4 line_text holds_name holds_run probe_of argument is_good range_of put_at_pointer live_below moved_lines with_changes changed all_started calls row_of digits
returns-clause-no_names c = refl

pub returns-clause-full : goal.returns-clause-full
unfolding is_open first_open hex4 line_text holds_name holds_run probe_of argument is_good range_of put_at_pointer live_below moved_lines with_changes changed all_started calls row_of digits
returns-clause-full c = refl
