-- Computed from the definitions.
use Rattle.std.proofs.Common.{refl}
use Rattle.std.specs.Fmt.{digits}
use Rattle.o2_desc.specs.Choice.{is_open, first_open}
use Rattle.o2_world.specs.Text.{hex4, line_text}
use Rattle.o2_world.specs.Holders.{holds_name}
use Rattle.o2_world.specs.Changes.{holds_run, with_changes, moved_lines}
use Rattle.o2_world.specs.Known.{live_below}
use Rattle.o2_world.specs.Heaps.{word, put_word, is_block, is_header, heap_of, with_controls}
use Rattle.o2_world.specs.HeapRulings.{rounded, area_of, growing, setting_up, taken, taking_of, taking, giving_back_to, giving_back}
use Rattle.o2_isa.specs.View.{probe_of}
use Rattle.o2_world.specs.Calls.{row_of, argument, is_good, range_of, put_at_pointer}
use Rattle.o2_world.specs.Run.{changed}
use Rattle.o2_world.specs.Starts.{all_started}
use Rattle.o2_world.specs.SegmentsWorked.{calls}
use Rattle.o2_world.proofs.laws.heap_calls_answer_by_their_rows.Goals as goal

pub returns-clause-takes : goal.returns-clause-takes
unfolding is_open first_open hex4 line_text holds_name holds_run probe_of argument is_good range_of put_at_pointer live_below moved_lines with_changes changed all_started calls row_of digits word put_word is_block is_header heap_of with_controls rounded area_of growing setting_up taken taking_of taking giving_back_to giving_back
returns-clause-takes c = refl

pub returns-clause-joins : goal.returns-clause-joins
unfolding is_open first_open hex4 line_text holds_name holds_run probe_of argument is_good range_of put_at_pointer live_below moved_lines with_changes changed all_started calls row_of digits word put_word is_block is_header heap_of with_controls rounded area_of growing setting_up taken taking_of taking giving_back_to giving_back
returns-clause-joins c = refl

pub returns-clause-frees_parts : goal.returns-clause-frees_parts
unfolding is_open first_open hex4 line_text holds_name holds_run probe_of argument is_good range_of put_at_pointer live_below moved_lines with_changes changed all_started calls row_of digits word put_word is_block is_header heap_of with_controls rounded area_of growing setting_up taken taking_of taking giving_back_to giving_back
returns-clause-frees_parts c = refl

pub returns-clause-wrong_ranges : goal.returns-clause-wrong_ranges
unfolding is_open first_open hex4 line_text holds_name holds_run probe_of argument is_good range_of put_at_pointer live_below moved_lines with_changes changed all_started calls row_of digits word put_word is_block is_header heap_of with_controls rounded area_of growing setting_up taken taking_of taking giving_back_to giving_back
returns-clause-wrong_ranges c = refl

pub returns-clause-sizes : goal.returns-clause-sizes
unfolding is_open first_open hex4 line_text holds_name holds_run probe_of argument is_good range_of put_at_pointer live_below moved_lines with_changes changed all_started calls row_of digits word put_word is_block is_header heap_of with_controls rounded area_of growing setting_up taken taking_of taking giving_back_to giving_back
returns-clause-sizes c = refl

pub returns-clause-reaches_further : goal.returns-clause-reaches_further
unfolding is_open first_open hex4 line_text holds_name holds_run probe_of argument is_good range_of put_at_pointer live_below moved_lines with_changes changed all_started calls row_of digits word put_word is_block is_header heap_of with_controls rounded area_of growing setting_up taken taking_of taking giving_back_to giving_back
returns-clause-reaches_further c = refl

pub returns-clause-selectors : goal.returns-clause-selectors
unfolding is_open first_open hex4 line_text holds_name holds_run probe_of argument is_good range_of put_at_pointer live_below moved_lines with_changes changed all_started calls row_of digits word put_word is_block is_header heap_of with_controls rounded area_of growing setting_up taken taking_of taking giving_back_to giving_back
returns-clause-selectors c = refl

pub returns-clause-spoils : goal.returns-clause-spoils
unfolding is_open first_open hex4 line_text holds_name holds_run probe_of argument is_good range_of put_at_pointer live_below moved_lines with_changes changed all_started calls row_of digits word put_word is_block is_header heap_of with_controls rounded area_of growing setting_up taken taking_of taking giving_back_to giving_back
returns-clause-spoils c = refl

pub returns-clause-points_badly : goal.returns-clause-points_badly
unfolding is_open first_open hex4 line_text holds_name holds_run probe_of argument is_good range_of put_at_pointer live_below moved_lines with_changes changed all_started calls row_of digits word put_word is_block is_header heap_of with_controls rounded area_of growing setting_up taken taking_of taking giving_back_to giving_back
returns-clause-points_badly c = refl

pub returns-clause-bytes : goal.returns-clause-bytes
unfolding is_open first_open hex4 line_text holds_name holds_run probe_of argument is_good range_of put_at_pointer live_below moved_lines with_changes changed all_started calls row_of digits word put_word is_block is_header heap_of with_controls rounded area_of growing setting_up taken taking_of taking giving_back_to giving_back
returns-clause-bytes c = refl
