-- Computed from the definitions.
use Rattle.std.proofs.Common.{refl}
use Rattle.std.specs.Fmt.{digits}
use Rattle.o2_desc.specs.Choice.{is_open, first_open}
use Rattle.o2_world.specs.Text.{hex4, line_text}
use Rattle.o2_world.specs.Holders.{holds_name}
use Rattle.o2_world.specs.Changes.{holds_run, with_changes, moved_lines}
use Rattle.o2_world.specs.Known.{live_below}
use Rattle.o2_world.specs.Heaps.{word}
use Rattle.o2_isa.specs.View.{probe_of}
use Rattle.o2_world.specs.Calls.{row_of, argument, is_good, range_of, put_at_pointer}
use Rattle.o2_world.specs.Run.{changed}
use Rattle.o2_world.specs.Starts.{all_started}
use Rattle.o2_world.specs.SegmentsWorked.{calls}
use Rattle.o2_world.proofs.laws.semaphore_calls_answer_by_their_rows.Goals as goal

pub returns-clause-owner : goal.returns-clause-owner
unfolding is_open first_open hex4 line_text holds_name holds_run probe_of argument is_good range_of put_at_pointer live_below moved_lines with_changes changed all_started calls row_of digits word
returns-clause-owner c = refl

pub returns-clause-bytes : goal.returns-clause-bytes
unfolding is_open first_open hex4 line_text holds_name holds_run probe_of argument is_good range_of put_at_pointer live_below moved_lines with_changes changed all_started calls row_of digits word
returns-clause-bytes c = refl

pub returns-clause-again : goal.returns-clause-again
unfolding is_open first_open hex4 line_text holds_name holds_run probe_of argument is_good range_of put_at_pointer live_below moved_lines with_changes changed all_started calls row_of digits word
returns-clause-again c = refl

pub returns-clause-takes_nothing : goal.returns-clause-takes_nothing
unfolding is_open first_open hex4 line_text holds_name holds_run probe_of argument is_good range_of put_at_pointer live_below moved_lines with_changes changed all_started calls row_of digits word
returns-clause-takes_nothing c = refl

pub returns-clause-writes_nothing : goal.returns-clause-writes_nothing
unfolding is_open first_open hex4 line_text holds_name holds_run probe_of argument is_good range_of put_at_pointer live_below moved_lines with_changes changed all_started calls row_of digits word
returns-clause-writes_nothing c = refl

pub returns-clause-waits : goal.returns-clause-waits
unfolding is_open first_open hex4 line_text holds_name holds_run probe_of argument is_good range_of put_at_pointer live_below moved_lines with_changes changed all_started calls row_of digits word
returns-clause-waits c = refl

pub returns-clause-owner_waits : goal.returns-clause-owner_waits
unfolding is_open first_open hex4 line_text holds_name holds_run probe_of argument is_good range_of put_at_pointer live_below moved_lines with_changes changed all_started calls row_of digits word
returns-clause-owner_waits c = refl

pub returns-clause-wait_waits : goal.returns-clause-wait_waits
unfolding is_open first_open hex4 line_text holds_name holds_run probe_of argument is_good range_of put_at_pointer live_below moved_lines with_changes changed all_started calls row_of digits word
returns-clause-wait_waits c = refl

pub returns-clause-waits_at_its_call : goal.returns-clause-waits_at_its_call
unfolding is_open first_open hex4 line_text holds_name holds_run probe_of argument is_good range_of put_at_pointer live_below moved_lines with_changes changed all_started calls row_of digits word
returns-clause-waits_at_its_call c = refl

pub returns-clause-waits_writing_nothing : goal.returns-clause-waits_writing_nothing
unfolding is_open first_open hex4 line_text holds_name holds_run probe_of argument is_good range_of put_at_pointer live_below moved_lines with_changes changed all_started calls row_of digits word
returns-clause-waits_writing_nothing c = refl

pub returns-clause-goes_on_waiting : goal.returns-clause-goes_on_waiting
unfolding is_open first_open hex4 line_text holds_name holds_run probe_of argument is_good range_of put_at_pointer live_below moved_lines with_changes changed all_started calls row_of digits word
returns-clause-goes_on_waiting c = refl

pub returns-clause-timeouts : goal.returns-clause-timeouts
unfolding is_open first_open hex4 line_text holds_name holds_run probe_of argument is_good range_of put_at_pointer live_below moved_lines with_changes changed all_started calls row_of digits word
returns-clause-timeouts c = refl

pub returns-clause-points_badly : goal.returns-clause-points_badly
unfolding is_open first_open hex4 line_text holds_name holds_run probe_of argument is_good range_of put_at_pointer live_below moved_lines with_changes changed all_started calls row_of digits word
returns-clause-points_badly c = refl

pub returns-clause-wants_writing : goal.returns-clause-wants_writing
unfolding is_open first_open hex4 line_text holds_name holds_run probe_of argument is_good range_of put_at_pointer live_below moved_lines with_changes changed all_started calls row_of digits word
returns-clause-wants_writing c = refl

pub returns-clause-last : goal.returns-clause-last
unfolding is_open first_open hex4 line_text holds_name holds_run probe_of argument is_good range_of put_at_pointer live_below moved_lines with_changes changed all_started calls row_of digits word
returns-clause-last c = refl

pub returns-clause-sets : goal.returns-clause-sets
unfolding is_open first_open hex4 line_text holds_name holds_run probe_of argument is_good range_of put_at_pointer live_below moved_lines with_changes changed all_started calls row_of digits word
returns-clause-sets c = refl

pub returns-clause-set_bytes : goal.returns-clause-set_bytes
unfolding is_open first_open hex4 line_text holds_name holds_run probe_of argument is_good range_of put_at_pointer live_below moved_lines with_changes changed all_started calls row_of digits word
returns-clause-set_bytes c = refl

pub returns-clause-low_bits : goal.returns-clause-low_bits
unfolding is_open first_open hex4 line_text holds_name holds_run probe_of argument is_good range_of put_at_pointer live_below moved_lines with_changes changed all_started calls row_of digits word
returns-clause-low_bits c = refl

pub returns-clause-overlaps : goal.returns-clause-overlaps
unfolding is_open first_open hex4 line_text holds_name holds_run probe_of argument is_good range_of put_at_pointer live_below moved_lines with_changes changed all_started calls row_of digits word
returns-clause-overlaps c = refl

pub returns-clause-high_word : goal.returns-clause-high_word
unfolding is_open first_open hex4 line_text holds_name holds_run probe_of argument is_good range_of put_at_pointer live_below moved_lines with_changes changed all_started calls row_of digits word
returns-clause-high_word c = refl

pub returns-clause-ended_owner : goal.returns-clause-ended_owner
unfolding is_open first_open hex4 line_text holds_name holds_run probe_of argument is_good range_of put_at_pointer live_below moved_lines with_changes changed all_started calls row_of digits word
returns-clause-ended_owner c = refl

pub returns-clause-traps : goal.returns-clause-traps
unfolding is_open first_open hex4 line_text holds_name holds_run probe_of argument is_good range_of put_at_pointer live_below moved_lines with_changes changed all_started calls row_of digits word
returns-clause-traps c = refl

pub returns-clause-waits_untrapped : goal.returns-clause-waits_untrapped
unfolding is_open first_open hex4 line_text holds_name holds_run probe_of argument is_good range_of put_at_pointer live_below moved_lines with_changes changed all_started calls row_of digits word
returns-clause-waits_untrapped c = refl
