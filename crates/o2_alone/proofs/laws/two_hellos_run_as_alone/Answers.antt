-- Runs of programs that write `hello`, computed from their definition.
use Rattle.std.proofs.Common.{◌≡◌, refl, ◌∙◌, ap, List}
use Rattle.std.specs.Prelude.{codes}
use Rattle.o2_isa.specs.View.{built_gates, probe_of, bind, read_of, room_of, poke, size_at, fetched}
use Rattle.o2_isa.specs.Registers.{reg16}
use Rattle.o2_isa.specs.Table.{table, table_0f, groups}
use Rattle.o2_isa.specs.Spelling.{mark}
use Rattle.o2_isa.specs.Reading.{head_of, decoded}
use Rattle.o2_isa.specs.Steps.{valued, pair_valued, storing, within}
use Rattle.o2_isa.specs.DataStack.{pushing, push}
use Rattle.o2_isa.specs.FlowCalls.{call_far}
use Rattle.o2_isa.specs.Meaning.{group_of, steps_of}
use Rattle.o2_isa.specs.Step.{stepped}
use Rattle.o2_world.specs.Holders.{holds_name}
use Rattle.o2_world.specs.Calls.{argument, is_good, range_of, put_at_pointer, row_of}
use Rattle.o2_world.specs.Outcomes.{served}
use Rattle.o2_world.specs.Effect.{effect}
use Rattle.o2_world.specs.Changes.{holds_run, with_changes}
use Rattle.o2_world.specs.Run.{changed, ready, step}
use Rattle.o2_world.specs.Starts.{all_started}
use Rattle.o2_alone.specs.Events.{Event, events_of}
use Rattle.o2_alone.specs.Worked.{hello_pointers, in_turns, pieces, pointers, second_alone, two_hellos}
use Rattle.o2_alone.proofs.Traces.{events_are, trace}
use Rattle.o2_alone.proofs.laws.two_hellos_run_as_alone.Goals as goal

among_is : pointers (events_of 2 (trace in_turns two_hellos 20)) ≡ hello_pointers
unfolding built_gates probe_of bind read_of room_of poke size_at fetched reg16 table table_0f groups mark head_of decoded valued
    pair_valued storing within pushing push call_far group_of steps_of stepped holds_name argument is_good range_of
    put_at_pointer row_of served effect holds_run with_changes changed ready step all_started
among_is = refl

pub returns-clause-among : goal.returns-clause-among
returns-clause-among c = ap (λ (es : List Event). pointers (events_of 2 es)) (events_are in_turns two_hellos 20) ∙ among_is

alone_is : pointers (trace in_turns second_alone 10) ≡ hello_pointers
unfolding built_gates probe_of bind read_of room_of poke size_at fetched reg16 table table_0f groups mark head_of decoded valued
    pair_valued storing within pushing push call_far group_of steps_of stepped holds_name argument is_good range_of
    put_at_pointer row_of served effect holds_run with_changes changed ready step all_started
alone_is = refl

pub returns-clause-alone : goal.returns-clause-alone
returns-clause-alone c = ap (λ (es : List Event). pointers es) (events_are in_turns second_alone 10) ∙ alone_is

written_is : pieces (events_of 2 (trace in_turns two_hellos 20)) ≡ codes "hello"
unfolding built_gates probe_of bind read_of room_of poke size_at fetched reg16 table table_0f groups mark head_of decoded valued
    pair_valued storing within pushing push call_far group_of steps_of stepped holds_name argument is_good range_of
    put_at_pointer row_of served effect holds_run with_changes changed ready step all_started
written_is = refl

pub returns-clause-written : goal.returns-clause-written
returns-clause-written c = ap (λ (es : List Event). pieces (events_of 2 es)) (events_are in_turns two_hellos 20) ∙ written_is

written_alone_is : pieces (trace in_turns second_alone 10) ≡ codes "hello"
unfolding built_gates probe_of bind read_of room_of poke size_at fetched reg16 table table_0f groups mark head_of decoded valued
    pair_valued storing within pushing push call_far group_of steps_of stepped holds_name argument is_good range_of
    put_at_pointer row_of served effect holds_run with_changes changed ready step all_started
written_alone_is = refl

pub returns-clause-written_alone : goal.returns-clause-written_alone
returns-clause-written_alone c = ap (λ (es : List Event). pieces es) (events_are in_turns second_alone 10) ∙ written_alone_is
