-- What a ruling tells of a call on segments: its lines, and the value that it writes.
use Rattle.std.specs.Prelude.{ℕ, false, [], ◌∷◌}
use Rattle.o2_isa.specs.declared.cpu.Cpu.{Cpu}
use Rattle.o2_world.specs.declared.types.State.TheVariants.{Live}
use Rattle.o2_world.specs.Calls.{Before, Effect, returned}
use Rattle.o2_world.specs.Changes.{moved_lines}
use Rattle.o2_world.specs.Rulings.{Ruling}
use Rattle.o2_gate.specs.declared.arguments.Arguments.{Arguments}
use Rattle.o2_gate.specs.Replies.{bytes_of, call_line, words_of}
use Rattle.o2_gate.specs.Targets.{name_of}
use Rattle.o2_calls.specs.Acts.{cpu_of, ruling_of}

-- what a call comes to by its ruling and its registers: the value behind its pointer, its line, and those of what it changes
abbrev pub replied : Arguments → Before → (next : ℕ) → Ruling → Cpu → Effect
replied a b next r c = record {
  cpu = returned c next (words_of a) r.error;
  state = Live;
  bytes = bytes_of a r.error r.value b.view.held b.view.bytes;
  changes = r.changes;
  input = b.input;
  piece = [];
  lines = call_line a b.number r.error r.value ∷ moved_lines (name_of a) r.changes;
  waits = false;
}

-- the call with these arguments, whose pointer is good
abbrev pub replied_by : Arguments → Before → (next : ℕ) → Effect
replied_by a b next = replied a b next (ruling_of a.request b.known b.number b.cpu) (cpu_of a.request b.known b.number b.cpu)
