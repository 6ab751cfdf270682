-- The sums of room and swap of a program that writes `hello`, computed from their definitions.
use Rattle.std.proofs.Common.{refl}
use Rattle.std.specs.Fmt.{digits}
use Rattle.o2_isa.specs.View.{built_gates, probe_of, bind, read_of, room_of, poke, size_at, fetched}
use Rattle.o2_isa.specs.Registers.{reg16}
use Rattle.o2_isa.specs.Table.{table, table_0f, groups}
use Rattle.o2_isa.specs.Spelling.{mark}
use Rattle.o2_isa.specs.Reading.{head_of, decoded}
use Rattle.o2_isa.specs.Steps.{valued, pair_valued, storing, within}
use Rattle.o2_isa.specs.DataStack.{pushing, push}
use Rattle.o2_isa.specs.FlowCalls.{call_far}
use Rattle.o2_isa.specs.Meaning.{group_of, steps_of}
use Rattle.o2_isa.specs.Step.{stepped, step_names}
use Rattle.o2_world.specs.Text.{hex4, line_text}
use Rattle.o2_world.specs.Holders.{holds_name}
use Rattle.o2_world.specs.Calls.{argument, is_good, range_of, put_at_pointer, row_of}
use Rattle.o2_world.specs.Outcomes.{served}
use Rattle.o2_world.specs.Effect.{effect}
use Rattle.o2_world.specs.Changes.{holds_run, moved_lines, with_changes}
use Rattle.o2_world.specs.Run.{changed, ready, step}
use Rattle.o2_world.specs.Starts.{all_started}
use Rattle.o2_run.specs.Room.{room, live_load}
use Rattle.o2_run.proofs.laws.hello_needs_its_code_and_its_data.Goals as goal

pub returns-clause-first : goal.returns-clause-first
unfolding built_gates probe_of bind read_of room_of poke size_at fetched reg16 table table_0f groups mark head_of decoded valued pair_valued
    storing within pushing push call_far group_of steps_of stepped step_names hex4 line_text holds_name argument is_good range_of
    put_at_pointer row_of served moved_lines effect holds_run with_changes changed ready step all_started digits room live_load
returns-clause-first c = refl

pub returns-clause-call : goal.returns-clause-call
unfolding built_gates probe_of bind read_of room_of poke size_at fetched reg16 table table_0f groups mark head_of decoded valued pair_valued
    storing within pushing push call_far group_of steps_of stepped step_names hex4 line_text holds_name argument is_good range_of
    put_at_pointer row_of served moved_lines effect holds_run with_changes changed ready step all_started digits room live_load
returns-clause-call c = refl

pub returns-clause-live : goal.returns-clause-live
unfolding built_gates probe_of bind read_of room_of poke size_at fetched reg16 table table_0f groups mark head_of decoded valued pair_valued
    storing within pushing push call_far group_of steps_of stepped step_names hex4 line_text holds_name argument is_good range_of
    put_at_pointer row_of served moved_lines effect holds_run with_changes changed ready step all_started digits room live_load
returns-clause-live c = refl

pub returns-clause-swap : goal.returns-clause-swap
unfolding built_gates probe_of bind read_of room_of poke size_at fetched reg16 table table_0f groups mark head_of decoded valued pair_valued
    storing within pushing push call_far group_of steps_of stepped step_names hex4 line_text holds_name argument is_good range_of
    put_at_pointer row_of served moved_lines effect holds_run with_changes changed ready step all_started digits room live_load
returns-clause-swap c = refl
