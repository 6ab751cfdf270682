-- The world as what a call does leaves it, before its changes.
use Rattle.std.specs.Prelude.{ℕ, List, [], ◌++◌, drop, if◌then◌else◌}
use Rattle.o2_isa.specs.declared.cpu.Cpu.{Cpu}
use Rattle.o2_world.specs.declared.types.State.{State}
use Rattle.o2_world.specs.World.{Held, Process, is_live}
use Rattle.o2_world.specs.Map.{Map}
use Rattle.o2_world.specs.Views.{bytes_in, holds_in, with_bytes}
use Rattle.o2_world.specs.Holders.{with_process}
use Rattle.o2_world_parts.specs.declared.effect.Effect.{Effect}
use Rattle.o2_boundless.specs.Shown.{Shown}
use Rattle.o2_world_parts.specs.Effects.{written}

-- a process with these registers, and the state where it goes on
abbrev pub with_state : Process → Cpu → State → Process
with_state p cpu state = record p { cpu = cpu; state = if is_live state then state else p.state }

abbrev pub worked_from : Shown → ℕ → Process → Cpu → State → (ℕ → List ℕ) → (input piece lines : List ℕ) → Shown
worked_from v n p cpu state bytes input piece lines = record v {
  world = record v.world {
    names = with_bytes v.world.names bytes;
    processes = with_process v.world.processes n (with_state p cpu state);
    input = input;
    console = v.world.console ++ piece;
    lines = [];
  };
  report = v.report ++ lines;
}

-- its parts, one after the other

abbrev pub with_parts : Map Held → List (ℕ × ℕ) → List (List ℕ) → Shown → Shown
with_parts held ps parts v = record v { world = record v.world { names = with_bytes v.world.names (written (holds_in held) ps parts (bytes_in v.world.names)) } }

abbrev pub with_worker : ℕ → Process → Shown → Shown
with_worker n p v = record v { world = record v.world { processes = with_process v.world.processes n p } }

abbrev pub with_input : List ℕ → Shown → Shown
with_input input v = record v { world = record v.world { input = input } }

abbrev pub with_console : List ℕ → Shown → Shown
with_console console v = record v { world = record v.world { console = console } }

abbrev pub with_report : List ℕ → Shown → Shown
with_report report v = record v { world = record v.world { lines = [] }; report = report }

abbrev pub worked_by : Shown → ℕ → Process → Effect → Shown
worked_by v n p x =
    worked_from v n p x.cpu x.state (written (holds_in p.held) x.targets.items x.parts.items (bytes_in v.world.names)) (drop x.read v.world.input)
    x.piece.items x.lines.items
