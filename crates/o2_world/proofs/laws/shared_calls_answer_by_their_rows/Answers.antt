-- Computed from the definitions.
use Rattle.std.proofs.Common.{refl}
use Rattle.std.specs.Fmt.{digits}
use Rattle.o2_desc.specs.Choice.{is_open, first_open}
use Rattle.o2_world.specs.Text.{hex4, line_text}
use Rattle.o2_world.specs.Holders.{holds_name}
use Rattle.o2_world.specs.Changes.{holds_run, with_changes, moved_lines}
use Rattle.o2_world.specs.Known.{live_below}
use Rattle.o2_world.specs.SharedNames.{bytes_at}
use Rattle.o2_isa.specs.View.{probe_of}
use Rattle.o2_world.specs.Calls.{row_of, argument, is_good, range_of, put_at_pointer}
use Rattle.o2_world.specs.Run.{changed}
use Rattle.o2_world.specs.Starts.{all_started}
use Rattle.o2_world.specs.SegmentsWorked.{calls}
use Rattle.o2_world.proofs.laws.shared_calls_answer_by_their_rows.Goals as goal

pub returns-clause-named : goal.returns-clause-named
unfolding is_open first_open hex4 line_text holds_name holds_run bytes_at probe_of argument is_good range_of put_at_pointer live_below moved_lines with_changes changed all_started calls row_of digits
returns-clause-named c = refl

pub returns-clause-bad_names : goal.returns-clause-bad_names
unfolding is_open first_open hex4 line_text holds_name holds_run bytes_at probe_of argument is_good range_of put_at_pointer live_below moved_lines with_changes changed all_started calls row_of digits
returns-clause-bad_names c = refl

pub returns-clause-longest : goal.returns-clause-longest
unfolding is_open first_open hex4 line_text holds_name holds_run bytes_at probe_of argument is_good range_of put_at_pointer live_below moved_lines with_changes changed all_started calls row_of digits
returns-clause-longest c = refl

pub returns-clause-too_long : goal.returns-clause-too_long
unfolding is_open first_open hex4 line_text holds_name holds_run bytes_at probe_of argument is_good range_of put_at_pointer live_below moved_lines with_changes changed all_started calls row_of digits
returns-clause-too_long c = refl

pub returns-clause-looks : goal.returns-clause-looks
unfolding is_open first_open hex4 line_text holds_name holds_run bytes_at probe_of argument is_good range_of put_at_pointer live_below moved_lines with_changes changed all_started calls row_of digits
returns-clause-looks c = refl

pub returns-clause-looks_no_more : goal.returns-clause-looks_no_more
unfolding is_open first_open hex4 line_text holds_name holds_run bytes_at probe_of argument is_good range_of put_at_pointer live_below moved_lines with_changes changed all_started calls row_of digits
returns-clause-looks_no_more c = refl

pub returns-clause-looks_past : goal.returns-clause-looks_past
unfolding is_open first_open hex4 line_text holds_name holds_run bytes_at probe_of argument is_good range_of put_at_pointer live_below moved_lines with_changes changed all_started calls row_of digits
returns-clause-looks_past c = refl

pub returns-clause-dies : goal.returns-clause-dies
unfolding is_open first_open hex4 line_text holds_name holds_run bytes_at probe_of argument is_good range_of put_at_pointer live_below moved_lines with_changes changed all_started calls row_of digits
returns-clause-dies c = refl

pub returns-clause-texts : goal.returns-clause-texts
unfolding is_open first_open hex4 line_text holds_name holds_run bytes_at probe_of argument is_good range_of put_at_pointer live_below moved_lines with_changes changed all_started calls row_of digits
returns-clause-texts c = refl

pub returns-clause-no_texts : goal.returns-clause-no_texts
unfolding is_open first_open hex4 line_text holds_name holds_run bytes_at probe_of argument is_good range_of put_at_pointer live_below moved_lines with_changes changed all_started calls row_of digits
returns-clause-no_texts c = refl

pub returns-clause-flagless : goal.returns-clause-flagless
unfolding is_open first_open hex4 line_text holds_name holds_run bytes_at probe_of argument is_good range_of put_at_pointer live_below moved_lines with_changes changed all_started calls row_of digits
returns-clause-flagless c = refl

pub returns-clause-gets : goal.returns-clause-gets
unfolding is_open first_open hex4 line_text holds_name holds_run bytes_at probe_of argument is_good range_of put_at_pointer live_below moved_lines with_changes changed all_started calls row_of digits
returns-clause-gets c = refl

pub returns-clause-gives : goal.returns-clause-gives
unfolding is_open first_open hex4 line_text holds_name holds_run bytes_at probe_of argument is_good range_of put_at_pointer live_below moved_lines with_changes changed all_started calls row_of digits
returns-clause-gives c = refl

pub returns-clause-ended : goal.returns-clause-ended
unfolding is_open first_open hex4 line_text holds_name holds_run bytes_at probe_of argument is_good range_of put_at_pointer live_below moved_lines with_changes changed all_started calls row_of digits
returns-clause-ended c = refl

pub returns-clause-grows : goal.returns-clause-grows
unfolding is_open first_open hex4 line_text holds_name holds_run bytes_at probe_of argument is_good range_of put_at_pointer live_below moved_lines with_changes changed all_started calls row_of digits
returns-clause-grows c = refl

pub returns-clause-zero : goal.returns-clause-zero
unfolding is_open first_open hex4 line_text holds_name holds_run bytes_at probe_of argument is_good range_of put_at_pointer live_below moved_lines with_changes changed all_started calls row_of digits
returns-clause-zero c = refl
