-- How processes start over linked modules: what each holds, its registers, and the world before the first step.
use Rattle.std.specs.Prelude.{ℕ, ◌+◌, ◌-◌, ◌%◌, Bool, true, false, not, List, [], ◌∷◌, ◌++◌, length, fold, map, flat_map, replicate, slice_get, nat_lt, Option, Some, None, option_map, unwrap_or, Result, Ok, Err, if◌then◌else◌, ◌==◌, ◌&&◌, ◌||◌}
use Rattle.o2_conf.specs.declared.script.Word.{Word}
use Rattle.o2_base.specs.declared.faults.ModuleFault.{ModuleFault}
use Rattle.o2_base.specs.declared.faults.ModuleFault.TheVariants.{NoStack, NoEntry, NoSegment}
use Rattle.o2_desc.specs.Bits.{writable_data, no_flags}
use Rattle.o2_isa.specs.declared.cpu.Cpu.{Cpu}
use Rattle.o2_isa.specs.declared.flags.Flag.TheVariants.{Interrupt}
use Rattle.o2_isa.specs.Flags.{put}
use Rattle.o2_isa.specs.View.{is_code, is_writable}
use Rattle.o2_world.specs.declared.types.Made.{Made}
use Rattle.o2_world.specs.declared.types.State.TheVariants.{Live}
use Rattle.o2_world.specs.Map.{Map}
use Rattle.o2_world.specs.World.{World, Setting, Process, Segment, Held, Line, Reserve}
use Rattle.o2_base.specs.Selectors.{selector_of}
use Rattle.o2_world.specs.Opening.{held_by_load, start_lines, even}

-- a segment of a module: its index in the local descriptor tables, its access byte, whether its data is one for all
-- processes, and its image, which is as long as the segment
pub record LoadedSegment : Type 0 where
  pub index : ℕ
  pub rights : ℕ
  pub common : Bool
  pub image : List ℕ

-- a module: its place in the machine file from 1, its own name, its segments from 1, and the fields of its header (automatic
-- data and SS 0 where there are none)
pub record Loaded : Type 0 where
  pub place : ℕ
  pub name : List ℕ
  pub library : Bool
  pub segments : List LoadedSegment
  pub auto_seg : ℕ
  pub heap : ℕ
  pub stack : ℕ
  pub cs : ℕ
  pub ip : ℕ
  pub ss : ℕ
  pub sp : ℕ

-- the start of a process: the module that it runs, the libraries that it reaches by rising place, the bytes of its
-- environment, and where in them its command line begins
pub record Start : Type 0 where
  pub program : Loaded
  pub libraries : List Loaded
  pub environment : List ℕ
  pub command : ℕ

-- What a process holds.

-- a segment that a process holds from its start on: its index; the place of its module and its number there, or 0 and the
-- number of the process for an environment; its access byte; whether one name stands for it in all processes; its bytes
pub record Holding : Type 0 where
  pub index : ℕ
  pub place : ℕ
  pub number : ℕ
  pub rights : ℕ
  pub common : Bool
  pub bytes : List ℕ

-- behind the image of automatic data: a program has its stack and its heap there, a library its heap
abbrev pub room : Loaded → ℕ
room m = if m.library then m.heap else m.stack + m.heap

abbrev pub loaded_bytes : Loaded → ℕ → LoadedSegment → List ℕ
loaded_bytes m n s = if n == m.auto_seg then s.image ++ replicate (room m) 0 else s.image

-- code and read-only data never change, so one name serves all
abbrev pub is_common : LoadedSegment → Bool
is_common s = not (is_writable s.rights) || s.common

abbrev pub holding_of : Loaded → ℕ → LoadedSegment → Holding
holding_of m n s = record {
  index = s.index;
  place = m.place;
  number = n;
  rights = s.rights;
  common = is_common s;
  bytes = loaded_bytes m n s;
}

-- the segments of a module from number n on
abbrev pub module_holdings : Loaded → ℕ → List LoadedSegment → List Holding
module_holdings m n [] = []
module_holdings m n (s ∷ ss) = holding_of m n s ∷ module_holdings m (n + 1) ss

-- the environment has the index behind the program's segments, and is writable data
abbrev pub environment_holding : ℕ → Start → Holding
environment_holding pid s = record {
  index = length s.program.segments + 1;
  place = 0;
  number = pid;
  rights = writable_data;
  common = false;
  bytes = s.environment;
}

abbrev pub library_holdings : List Loaded → List Holding
library_holdings ms = flat_map (λ (m : Loaded). module_holdings m 1 m.segments) ms

-- all that process `pid` holds, in the order of its selectors
abbrev pub holdings : ℕ → Start → List Holding
holdings pid s = module_holdings s.program 1 s.program.segments ++ environment_holding pid s ∷ library_holdings s.libraries

-- The first registers.

-- a segment of a module by its number from 1
abbrev pub nth_loaded : ℕ → List LoadedSegment → Option LoadedSegment
nth_loaded n ss = if n == 0 then None else slice_get ss (n - 1)

-- the size of a segment's image
abbrev pub image_size : LoadedSegment → ℕ
image_size s = length s.image

-- the size of the automatic data's image, where there is automatic data
abbrev pub automatic_size : Loaded → Option ℕ
automatic_size m = option_map image_size (nth_loaded m.auto_seg m.segments)

-- SS is the header's segment, or the automatic data
abbrev pub stack_number : Loaded → ℕ
stack_number m = if m.ss == 0 then m.auto_seg else m.ss

-- where SS is the automatic data and the header's SP is 0, SP is the end of the stack
abbrev pub first_sp : Loaded → ℕ → ℕ
first_sp m size = if (stack_number m == m.auto_seg) && (m.sp == 0) then even (size + m.stack) % 65536 else m.sp

-- static data, stack and heap together
abbrev pub all_data : Loaded → Option ℕ → ℕ
all_data m None = 0
all_data m (Some size) = (size + m.stack + m.heap) % 65536

abbrev pub data_selector : Loaded → Option ℕ → ℕ
data_selector m None = 0
data_selector m (Some size) = selector_of m.auto_seg

-- of the flags only IF is set
abbrev pub first_flags : ℕ
first_flags = put no_flags Interrupt true

-- by the number of segments and the size of the automatic data's image
abbrev pub cpu_by : Loaded → ℕ → Option ℕ → ℕ → Cpu
cpu_by m count size command = record {
  ax = selector_of (count + 1);
  cx = all_data m size;
  dx = m.stack;
  bx = command;
  sp = first_sp m (unwrap_or size 0);
  bp = 0;
  si = m.heap;
  di = m.place;
  ip = m.ip;
  flags = first_flags;
  cs = selector_of m.cs;
  ds = data_selector m size;
  es = 0;
  ss = selector_of (stack_number m);
}

abbrev pub first_cpu : Start → Cpu
first_cpu s = cpu_by s.program (length s.program.segments) (automatic_size s.program) s.command

-- the process as it starts: its environment has the index behind its program's segments, and no process started it
abbrev pub first_process : Start → Map Held → Process
first_process s held = record {
  cpu = first_cpu s;
  state = Live;
  held = held;
  place = s.program.place;
  parent = 0;
  environment = selector_of (length s.program.segments + 1);
}

-- Refusals.

-- SS is writable data
abbrev pub is_stack : Option LoadedSegment → Bool
is_stack None = false
is_stack (Some s) = is_writable s.rights

-- CS is code, and IP lies inside it
abbrev pub is_entry : ℕ → Option LoadedSegment → Bool
is_entry ip None = false
is_entry ip (Some s) = is_code s.rights && nat_lt ip (image_size s)

-- a program has a stack and an entry point; a library has no entry point
abbrev pub start_check : Loaded → Result (Unit {0}) ModuleFault
start_check m =
    if not (is_stack (nth_loaded (stack_number m) m.segments)) then Err NoStack
    else (if not m.library && is_entry m.ip (nth_loaded m.cs m.segments) then Ok tt else Err NoEntry)

-- Names, as the processes start one after the other.

-- the names so far, those that are common, what the process that starts holds so far, with its selectors in their order, and
-- the processes that have started, with their lines
pub record Built : Type 0 where
  pub names : Map Segment
  pub next_name : ℕ
  pub made : List Made
  pub held : Map Held
  pub selectors : List ℕ
  pub processes : List Process
  pub lines : List Line

abbrev pub nothing_built : Built
nothing_built = record { names = []; next_name = 0; made = []; held = []; selectors = []; processes = []; lines = [] }

abbrev pub segment_of : Holding → Segment
segment_of h = record {
  bytes = h.bytes;
  clean = not (is_writable h.rights);
  code = is_code h.rights;
  flags = 0;
  lock = 0;
  shared = h.common && not (is_code h.rights);
  discarded = false;
}

-- the name of a common segment, where one is made
abbrev pub name_in : List Made → ℕ → ℕ → Option ℕ
name_in [] place number = None
name_in (m ∷ ms) place number = if (m.place == place) && (m.number == number) then Some m.name else name_in ms place number

abbrev pub made_with : List Made → Holding → ℕ → List Made
made_with made h name = if h.common then made ++ record { place = h.place; number = h.number; name = name } ∷ [] else made

-- one name more, for a segment
abbrev pub named : Built → Holding → Built
named b h = record b { names = (b.next_name, segment_of h) ∷ b.names; next_name = b.next_name + 1; made = made_with b.made h b.next_name }

-- the process holds this name under the segment's index
abbrev pub holds : Built → Holding → ℕ → Built
holds b h name = record b { held = (h.index, held_by_load name h.rights) ∷ b.held; selectors = b.selectors ++ selector_of h.index ∷ [] }

-- a name that is made, or a new one
abbrev pub holds_as : Built → Holding → Option ℕ → Built
holds_as b h (Some name) = holds b h name
holds_as b h None = holds (named b h) h b.next_name

abbrev pub with_holding : Built → Holding → Built
with_holding b h = holds_as b h (if h.common then name_in b.made h.place h.number else None)

abbrev pub with_holdings : Built → List Holding → Built
with_holdings b hs = fold with_holding b hs

-- the process has started
abbrev pub with_started : ℕ → Start → Built → Built
with_started pid s b = record b {
  held = [];
  selectors = [];
  processes = b.processes ++ first_process s b.held ∷ [];
  lines = b.lines ++ start_lines pid s.program.name b.selectors;
}

-- there are no more names than the setting allows
abbrev pub within_names : ℕ → ℕ → Start → Built → Result Built (ℕ × ModuleFault)
within_names most pid s b = if nat_lt most b.next_name then Err (pid, NoSegment) else Ok (with_started pid s b)

abbrev pub where_checked : {X : Type 0} → ℕ → Result (Unit {0}) ModuleFault → Result X (ℕ × ModuleFault) → Result X (ℕ × ModuleFault)
where_checked pid (Ok checked) r = r
where_checked pid (Err fault) r = Err (pid, fault)

-- one start more, of process `pid`
abbrev pub started_as : ℕ → ℕ → Start → Built → Result Built (ℕ × ModuleFault)
started_as most pid s b = where_checked pid (start_check s.program) (within_names most pid s (with_holdings b (holdings pid s)))

-- the processes start one after the other, and the first that is refused decides
abbrev pub next_started : ℕ → Result Built (ℕ × ModuleFault) → Start → Result Built (ℕ × ModuleFault)
next_started most (Ok b) s = started_as most (length b.processes + 1) s b
next_started most (Err fault) s = Err fault

unfoldable pub all_started : ℕ → List Start → Result Built (ℕ × ModuleFault)
all_started most starts = fold (next_started most) (Ok nothing_built) starts

-- shared indexes that are reserved for the whole run: the first, and how many
abbrev pub for_the_run : ℕ × ℕ → Reserve
for_the_run r = record { region = 0; first = r.0; count = r.1; stays = true }

-- the world of processes that have started
abbrev pub world_of : List (ℕ × ℕ) → List Word → ℕ → List ℕ → Built → World
world_of reserved script budget input b = record {
  names = b.names;
  next_name = b.next_name;
  processes = b.processes;
  reserved = map for_the_run reserved;
  texts = [];
  input = input;
  dispatch = record { script = script; current = 0; left = 0; turn = 0; budget = budget };
  console = [];
  lines = b.lines;
}

abbrev pub where_started : List (ℕ × ℕ) → List Word → ℕ → List ℕ → Result Built (ℕ × ModuleFault) → Result World (ℕ × ModuleFault)
where_started reserved script budget input (Ok b) = Ok (world_of reserved script budget input b)
where_started reserved script budget input (Err fault) = Err fault

-- the world before the first step, or the process that is refused, and why: a setting with its script, the indexes of all
-- libraries of the machine file, reached or not, the input, and the starts in the order of the machine file
abbrev pub opening_of : Setting → List (ℕ × ℕ) → List Word → List ℕ → List Start → Result World (ℕ × ModuleFault)
opening_of s reserved script input starts = where_started reserved script s.budget input (all_started s.segments starts)
