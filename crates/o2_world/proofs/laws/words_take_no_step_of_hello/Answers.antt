-- The run of `hello` over words of a script, computed from its definition.
use Rattle.std.proofs.Common.{refl}
use Rattle.std.specs.Fmt.{digits}
use Rattle.o2_isa.specs.View.{built_gates, probe_of, bind, read_of, room_of, poke, size_at, fetched}
use Rattle.o2_isa.specs.Registers.{reg16}
use Rattle.o2_isa.specs.Table.{table, table_0f, groups}
use Rattle.o2_isa.specs.Spelling.{mark}
use Rattle.o2_isa.specs.Reading.{head_of, decoded}
use Rattle.o2_isa.specs.Steps.{valued, pair_valued, storing, within}
use Rattle.o2_isa.specs.DataStack.{pushing, push}
use Rattle.o2_isa.specs.FlowCalls.{call_far}
use Rattle.o2_isa.specs.Meaning.{group_of, steps_of}
use Rattle.o2_isa.specs.Step.{stepped}
use Rattle.o2_world.specs.Text.{hex4, line_text}
use Rattle.o2_world.specs.Holders.{holds_name}
use Rattle.o2_world.specs.Calls.{argument, is_good, range_of, put_at_pointer, row_of}
use Rattle.o2_world.specs.Outcomes.{served}
use Rattle.o2_world.specs.Effect.{effect}
use Rattle.o2_world.specs.Changes.{holds_run, moved_lines, with_changes}
use Rattle.o2_world.specs.Discards.{all_discarded, is_seated}
use Rattle.o2_world.specs.Run.{changed, ready, step}
use Rattle.o2_world.specs.Starts.{all_started}
use Rattle.o2_world.proofs.laws.words_take_no_step_of_hello.Goals as goal

pub returns-clause-two : goal.returns-clause-two
unfolding built_gates probe_of bind read_of room_of poke size_at fetched reg16 table table_0f groups mark head_of decoded valued
    pair_valued storing within pushing push call_far group_of steps_of stepped hex4 line_text holds_name argument is_good range_of
    put_at_pointer row_of served effect holds_run moved_lines with_changes all_discarded is_seated changed ready step all_started digits
returns-clause-two c = refl

pub returns-clause-over : goal.returns-clause-over
unfolding built_gates probe_of bind read_of room_of poke size_at fetched reg16 table table_0f groups mark head_of decoded valued
    pair_valued storing within pushing push call_far group_of steps_of stepped hex4 line_text holds_name argument is_good range_of
    put_at_pointer row_of served effect holds_run moved_lines with_changes all_discarded is_seated changed ready step all_started digits
returns-clause-over c = refl

pub returns-clause-report : goal.returns-clause-report
unfolding built_gates probe_of bind read_of room_of poke size_at fetched reg16 table table_0f groups mark head_of decoded valued
    pair_valued storing within pushing push call_far group_of steps_of stepped hex4 line_text holds_name argument is_good range_of
    put_at_pointer row_of served effect holds_run moved_lines with_changes all_discarded is_seated changed ready step all_started digits
returns-clause-report c = refl

pub returns-clause-none_behind : goal.returns-clause-none_behind
unfolding built_gates probe_of bind read_of room_of poke size_at fetched reg16 table table_0f groups mark head_of decoded valued
    pair_valued storing within pushing push call_far group_of steps_of stepped hex4 line_text holds_name argument is_good range_of
    put_at_pointer row_of served effect holds_run moved_lines with_changes all_discarded is_seated changed ready step all_started digits
returns-clause-none_behind c = refl
