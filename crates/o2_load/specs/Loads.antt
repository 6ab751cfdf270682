-- What starts take from linked modules and a setting.
use Rattle.std.specs.Prelude.{ℕ, ◌+◌, ◌%◌, ◌==◌, ◌&&◌, ◌||◌, Bool, false, not, List, [], ◌∷◌, ◌++◌, length, map, Option, Some, None, unwrap_or, option_map, nat_lt, Result, Ok, Err, if◌then◌else◌}
use Rattle.std.specs.Int.RustNames.{bit_and}
use Rattle.o2_base.specs.declared.faults.ModuleFault.{ModuleFault}
use Rattle.o2_base.specs.declared.faults.ModuleFault.TheVariants.{NoStack, NoEntry}
use Rattle.o2_desc.specs.Bits.{readable_code, run_only_code, writable_data, read_only_data}
use Rattle.o2_isa.specs.declared.cpu.Cpu.{Cpu}
use Rattle.o2_isa.specs.View.{is_code, is_writable}
use Rattle.o2_conf.specs.declared.process.Process.{Process}
use Rattle.o2_conf.specs.Environments.{environment_bytes, command_place}
use Rattle.o2_ne_segs.specs.declared.segment.Kind.{Kind}
use Rattle.o2_ne_segs.specs.declared.segment.Kind.TheVariants.{Code, CodeOnly, Writable, ReadOnly}
use Rattle.o2_ne_segs.specs.declared.segment.Segment.{Segment}
use Rattle.o2_ne_segs.specs.SegmentTable.{nth_segment}
use Rattle.o2_image.specs.Getters.{is_library, nth, nth_list}
use Rattle.o2_image.specs.ImageList.{ImageList, Resolution, image_front}
use Rattle.o2_image.specs.Parts.{Parts}
use Rattle.o2_dynlink.specs.Outcome.{LinkedParts, modules_of}
use Rattle.o2_dynlink.specs.Selectors.{index_of}
use Rattle.o2_world.specs.Starts.{Loaded, LoadedSegment, Holding, Start, holding_of, module_holdings, cpu_by}

-- the access byte of a segment: present, with privilege level 3
abbrev pub rights_of : Kind → ℕ
rights_of Code = readable_code
rights_of CodeOnly = run_only_code
rights_of Writable = writable_data
rights_of ReadOnly = read_only_data

-- whether data is one for all processes: by the segment's flag 0020, or in a library by the header's data mode single
abbrev pub is_shared : Parts → Segment → Bool
is_shared m s = not (bit_and s.flags 0x20 == 0) || (is_library m && (m.head.flags % 4 == 1))

-- the index of a segment, 0 where there is none
abbrev pub index_at : ImageList → ℕ → ℕ → ℕ
index_at images place n = unwrap_or (index_of (modules_of images) place n) 0

abbrev pub loaded_segment : ImageList → ℕ → Parts → ℕ → Segment → LoadedSegment
loaded_segment images place m n s = record {
  index = index_at images place n;
  rights = rights_of s.kind;
  common = is_shared m s;
  image = image_front images place n s.size;
}

-- the segments from number n on
abbrev pub loaded_segments : ImageList → ℕ → Parts → ℕ → List Segment → List LoadedSegment
loaded_segments images place m n [] = []
loaded_segments images place m n (s ∷ ss) = loaded_segment images place m n s ∷ loaded_segments images place m (n + 1) ss

abbrev pub loaded_module : ImageList → ℕ → Parts → Loaded
loaded_module images place m = record {
  place = place;
  name = m.names.own;
  library = is_library m;
  segments = loaded_segments images place m 1 m.segments;
  auto_seg = m.head.auto_seg;
  heap = m.head.heap;
  stack = m.head.stack;
  cs = m.head.cs;
  ip = m.head.ip;
  ss = m.head.ss;
  sp = m.head.sp;
}

abbrev pub no_module : Loaded
no_module = record { place = 0; name = []; library = false; segments = []; auto_seg = 0; heap = 0; stack = 0; cs = 0; ip = 0; ss = 0; sp = 0 }

abbrev pub loaded_at : ImageList → ℕ → Option Resolution → Loaded
loaded_at images place None = no_module
loaded_at images place (Some m) = loaded_module images place m.0

-- the module at a place from 1
abbrev pub loaded : ImageList → ℕ → Loaded
loaded images place = loaded_at images place (nth images.modules place)

-- the place of a process's program
abbrev pub program_place : LinkedParts → ℕ → ℕ
program_place l pid = unwrap_or (nth l.programs pid) 0

-- the start of process `pid`, which the setting has so
abbrev pub start_of : LinkedParts → ℕ → Process → Start
start_of l pid p = record {
  program = loaded l.images (program_place l pid);
  libraries = map (loaded l.images) (nth_list l.libraries pid);
  environment = environment_bytes p;
  command = command_place p;
}

-- the starts of the processes from number `pid` on
abbrev pub starts_of : LinkedParts → ℕ → List Process → List Start
starts_of l pid [] = []
starts_of l pid (p ∷ ps) = start_of l pid p ∷ starts_of l (pid + 1) ps

-- The indexes of the segments of all libraries, reached or not, are reserved for the whole run.

abbrev pub library_range : ImageList → ℕ → Parts → List (ℕ × ℕ)
library_range images place m = if is_library m then (index_at images place 1, length m.segments) ∷ [] else []

abbrev pub ranges_from : ImageList → ℕ → List Resolution → List (ℕ × ℕ)
ranges_from images place [] = []
ranges_from images place (r ∷ rs) = library_range images place r.0 ++ ranges_from images (place + 1) rs

abbrev pub library_ranges : LinkedParts → List (ℕ × ℕ)
library_ranges l = ranges_from l.images 1 l.images.modules

-- the room behind the image of segment n
abbrev pub room_at : Parts → ℕ → ℕ
room_at m n = if n == m.head.auto_seg then (if is_library m then m.head.heap else m.head.stack + m.head.heap) else 0

-- segment n of a module as a process holds it
abbrev pub segment_holding : ImageList → ℕ → Parts → ℕ → Segment → Holding
segment_holding images place m n s = holding_of (loaded_module images place m) n (loaded_segment images place m n s)

abbrev pub segment_holdings : ImageList → ℕ → Parts → List Holding
segment_holdings images place m = module_holdings (loaded_module images place m) 1 (loaded_segments images place m 1 m.segments)

-- what the header of a module starts with, by the segments of its table

abbrev pub is_stack_segment : Option Segment → Bool
is_stack_segment None = false
is_stack_segment (Some s) = is_writable (rights_of s.kind)

abbrev pub is_entry_segment : ℕ → Option Segment → Bool
is_entry_segment ip None = false
is_entry_segment ip (Some s) = is_code (rights_of s.kind) && nat_lt ip s.size

abbrev pub stack_of : Parts → ℕ
stack_of m = if m.head.ss == 0 then m.head.auto_seg else m.head.ss

abbrev pub parts_check : Parts → Result (Unit {0}) ModuleFault
parts_check m =
    if not (is_stack_segment (nth_segment (stack_of m) m.segments)) then Err NoStack
    else (if not (is_library m) && is_entry_segment m.head.ip (nth_segment m.head.cs m.segments) then Ok tt else Err NoEntry)

abbrev pub size_in : Segment → ℕ
size_in s = s.size

abbrev pub parts_cpu : ImageList → ℕ → Parts → ℕ → Cpu
parts_cpu images place m command = cpu_by (loaded_module images place m) (length m.segments) (option_map size_in (nth_segment m.head.auto_seg m.segments)) command

-- all segments of a module as a process holds them
abbrev pub all_holdings : Loaded → List Holding
all_holdings m = module_holdings m 1 m.segments

-- the environment of a process whose program has so many segments
abbrev pub environment_of : ℕ → ℕ → List ℕ → Holding
environment_of pid count bytes = record { index = count + 1; place = 0; number = pid; rights = writable_data; common = false; bytes = bytes }
