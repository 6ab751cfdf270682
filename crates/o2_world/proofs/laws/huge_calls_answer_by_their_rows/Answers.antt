-- Computed from the definitions.
use Rattle.std.proofs.Common.{refl}
use Rattle.std.specs.Fmt.{digits}
use Rattle.o2_desc.specs.Choice.{is_open, first_open}
use Rattle.o2_world.specs.Text.{hex4, line_text}
use Rattle.o2_world.specs.Holders.{holds_name}
use Rattle.o2_world.specs.Changes.{holds_run, with_changes, moved_lines}
use Rattle.o2_world.specs.Known.{live_below}
use Rattle.o2_world.specs.SharedNames.{bytes_at}
use Rattle.o2_isa.specs.View.{probe_of}
use Rattle.o2_world.specs.Calls.{row_of, argument, is_good, range_of, put_at_pointer}
use Rattle.o2_world.specs.Run.{changed}
use Rattle.o2_world.specs.Starts.{all_started}
use Rattle.o2_world.specs.SegmentsWorked.{calls}
use Rattle.o2_world.proofs.laws.huge_calls_answer_by_their_rows.Goals as goal

pub returns-clause-makes : goal.returns-clause-makes
unfolding is_open first_open hex4 line_text holds_name holds_run bytes_at probe_of argument is_good range_of put_at_pointer live_below moved_lines with_changes changed all_started calls row_of digits
returns-clause-makes c = refl

pub returns-clause-faults : goal.returns-clause-faults
unfolding is_open first_open hex4 line_text holds_name holds_run bytes_at probe_of argument is_good range_of put_at_pointer live_below moved_lines with_changes changed all_started calls row_of digits
returns-clause-faults c = refl

pub returns-clause-frees : goal.returns-clause-frees
unfolding is_open first_open hex4 line_text holds_name holds_run bytes_at probe_of argument is_good range_of put_at_pointer live_below moved_lines with_changes changed all_started calls row_of digits
returns-clause-frees c = refl

pub returns-clause-shrinks : goal.returns-clause-shrinks
unfolding is_open first_open hex4 line_text holds_name holds_run bytes_at probe_of argument is_good range_of put_at_pointer live_below moved_lines with_changes changed all_started calls row_of digits
returns-clause-shrinks c = refl

pub returns-clause-shares : goal.returns-clause-shares
unfolding is_open first_open hex4 line_text holds_name holds_run bytes_at probe_of argument is_good range_of put_at_pointer live_below moved_lines with_changes changed all_started calls row_of digits
returns-clause-shares c = refl

pub returns-clause-whole : goal.returns-clause-whole
unfolding is_open first_open hex4 line_text holds_name holds_run bytes_at probe_of argument is_good range_of put_at_pointer live_below moved_lines with_changes changed all_started calls row_of digits
returns-clause-whole c = refl

pub returns-clause-reserves : goal.returns-clause-reserves
unfolding is_open first_open hex4 line_text holds_name holds_run bytes_at probe_of argument is_good range_of put_at_pointer live_below moved_lines with_changes changed all_started calls row_of digits
returns-clause-reserves c = refl

pub returns-clause-still_reserved : goal.returns-clause-still_reserved
unfolding is_open first_open hex4 line_text holds_name holds_run bytes_at probe_of argument is_good range_of put_at_pointer live_below moved_lines with_changes changed all_started calls row_of digits
returns-clause-still_reserved c = refl

pub returns-clause-unreserved : goal.returns-clause-unreserved
unfolding is_open first_open hex4 line_text holds_name holds_run bytes_at probe_of argument is_good range_of put_at_pointer live_below moved_lines with_changes changed all_started calls row_of digits
returns-clause-unreserved c = refl

pub returns-clause-clears : goal.returns-clause-clears
unfolding is_open first_open hex4 line_text holds_name holds_run bytes_at probe_of argument is_good range_of put_at_pointer live_below moved_lines with_changes changed all_started calls row_of digits
returns-clause-clears c = refl

pub returns-clause-keeps : goal.returns-clause-keeps
unfolding is_open first_open hex4 line_text holds_name holds_run bytes_at probe_of argument is_good range_of put_at_pointer live_below moved_lines with_changes changed all_started calls row_of digits
returns-clause-keeps c = refl

pub returns-clause-shift : goal.returns-clause-shift
unfolding is_open first_open hex4 line_text holds_name holds_run bytes_at probe_of argument is_good range_of put_at_pointer live_below moved_lines with_changes changed all_started calls row_of digits
returns-clause-shift c = refl
