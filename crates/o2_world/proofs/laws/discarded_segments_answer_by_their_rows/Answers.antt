-- Computed from the definitions.
use Rattle.std.proofs.Common.{refl}
use Rattle.std.specs.Fmt.{digits}
use Rattle.o2_desc.specs.Choice.{is_open, first_open}
use Rattle.o2_world.specs.Text.{hex4, line_text}
use Rattle.o2_world.specs.Holders.{holds_name}
use Rattle.o2_world.specs.Changes.{holds_run, with_changes, moved_lines}
use Rattle.o2_world.specs.Discards.{all_discarded, is_seated}
use Rattle.o2_world.specs.Known.{live_below}
use Rattle.o2_isa.specs.View.{probe_of, rights_at, size_at}
use Rattle.o2_world.specs.Calls.{row_of, argument, is_good, range_of, put_at_pointer}
use Rattle.o2_world.specs.Run.{changed}
use Rattle.o2_world.specs.Starts.{all_started}
use Rattle.o2_world.specs.SegmentsWorked.{calls}
use Rattle.o2_world.proofs.laws.discarded_segments_answer_by_their_rows.Goals as goal

pub returns-clause-gone : goal.returns-clause-gone
unfolding is_open first_open hex4 line_text holds_name holds_run all_discarded is_seated probe_of rights_at size_at argument is_good range_of put_at_pointer live_below moved_lines
    with_changes changed all_started calls row_of digits
returns-clause-gone c = refl

pub returns-clause-anew : goal.returns-clause-anew
unfolding is_open first_open hex4 line_text holds_name holds_run all_discarded is_seated probe_of rights_at size_at argument is_good range_of put_at_pointer live_below moved_lines
    with_changes changed all_started calls row_of digits
returns-clause-anew c = refl

pub returns-clause-sized_anew : goal.returns-clause-sized_anew
unfolding is_open first_open hex4 line_text holds_name holds_run all_discarded is_seated probe_of rights_at size_at argument is_good range_of put_at_pointer live_below moved_lines
    with_changes changed all_started calls row_of digits
returns-clause-sized_anew c = refl

pub returns-clause-calls : goal.returns-clause-calls
unfolding is_open first_open hex4 line_text holds_name holds_run all_discarded is_seated probe_of rights_at size_at argument is_good range_of put_at_pointer live_below moved_lines
    with_changes changed all_started calls row_of digits
returns-clause-calls c = refl

pub returns-clause-es : goal.returns-clause-es
unfolding is_open first_open hex4 line_text holds_name holds_run all_discarded is_seated probe_of rights_at size_at argument is_good range_of put_at_pointer live_below moved_lines
    with_changes changed all_started calls row_of digits
returns-clause-es c = refl

pub returns-clause-ss : goal.returns-clause-ss
unfolding is_open first_open hex4 line_text holds_name holds_run all_discarded is_seated probe_of rights_at size_at argument is_good range_of put_at_pointer live_below moved_lines
    with_changes changed all_started calls row_of digits
returns-clause-ss c = refl

pub returns-clause-size : goal.returns-clause-size
unfolding is_open first_open hex4 line_text holds_name holds_run all_discarded is_seated probe_of rights_at size_at argument is_good range_of put_at_pointer live_below moved_lines
    with_changes changed all_started calls row_of digits
returns-clause-size c = refl

pub returns-clause-rights : goal.returns-clause-rights
unfolding is_open first_open hex4 line_text holds_name holds_run all_discarded is_seated probe_of rights_at size_at argument is_good range_of put_at_pointer live_below moved_lines
    with_changes changed all_started calls row_of digits
returns-clause-rights c = refl

pub returns-clause-bytes : goal.returns-clause-bytes
unfolding is_open first_open hex4 line_text holds_name holds_run all_discarded is_seated probe_of rights_at size_at argument is_good range_of put_at_pointer live_below moved_lines
    with_changes changed all_started calls row_of digits
returns-clause-bytes c = refl

pub returns-clause-no_bytes : goal.returns-clause-no_bytes
unfolding is_open first_open hex4 line_text holds_name holds_run all_discarded is_seated probe_of rights_at size_at argument is_good range_of put_at_pointer live_below moved_lines
    with_changes changed all_started calls row_of digits
returns-clause-no_bytes c = refl

pub returns-clause-ds : goal.returns-clause-ds
unfolding is_open first_open hex4 line_text holds_name holds_run all_discarded is_seated probe_of rights_at size_at argument is_good range_of put_at_pointer live_below moved_lines
    with_changes changed all_started calls row_of digits
returns-clause-ds c = refl

pub returns-clause-alias : goal.returns-clause-alias
unfolding is_open first_open hex4 line_text holds_name holds_run all_discarded is_seated probe_of rights_at size_at argument is_good range_of put_at_pointer live_below moved_lines
    with_changes changed all_started calls row_of digits
returns-clause-alias c = refl

pub returns-clause-other : goal.returns-clause-other
unfolding is_open first_open hex4 line_text holds_name holds_run all_discarded is_seated probe_of rights_at size_at argument is_good range_of put_at_pointer live_below moved_lines
    with_changes changed all_started calls row_of digits
returns-clause-other c = refl

pub returns-clause-neither : goal.returns-clause-neither
unfolding is_open first_open hex4 line_text holds_name holds_run all_discarded is_seated probe_of rights_at size_at argument is_good range_of put_at_pointer live_below moved_lines
    with_changes changed all_started calls row_of digits
returns-clause-neither c = refl

pub returns-clause-sizeable : goal.returns-clause-sizeable
unfolding is_open first_open hex4 line_text holds_name holds_run all_discarded is_seated probe_of rights_at size_at argument is_good range_of put_at_pointer live_below moved_lines
    with_changes changed all_started calls row_of digits
returns-clause-sizeable c = refl

pub returns-clause-shrinks : goal.returns-clause-shrinks
unfolding is_open first_open hex4 line_text holds_name holds_run all_discarded is_seated probe_of rights_at size_at argument is_good range_of put_at_pointer live_below moved_lines
    with_changes changed all_started calls row_of digits
returns-clause-shrinks c = refl

pub returns-clause-stays : goal.returns-clause-stays
unfolding is_open first_open hex4 line_text holds_name holds_run all_discarded is_seated probe_of rights_at size_at argument is_good range_of put_at_pointer live_below moved_lines
    with_changes changed all_started calls row_of digits
returns-clause-stays c = refl
