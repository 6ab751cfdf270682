-- What the processor sees of a process: its map, the bytes of the names in it, and what its four segment registers hold.
-- Loads and accesses by the Intel 80286 Programmer's Reference Manual, chapters 6, 7 and 9.
use Rattle.std.specs.Prelude.{◌≡◌, ℕ, ◌+◌, ◌-◌, ◌*◌, ◌/◌, ◌%◌, Bool, true, false, ◌&&◌, ◌||◌, ◌==◌, nat_lt, nat_le, if◌then◌else◌, List, [], length, slice_index, slice_set, take, drop, Option, Some, None, option_map, Result, Ok, Err}
use Rattle.std.specs.Borrow.{GName}
use Rattle.o2_base.specs.Services.{is_built}
use Rattle.o2_desc.specs.Bits.{marked, with_present, call_gate}
pub use Rattle.o2_desc.specs.Bits.{is_code, is_readable, is_writable}
use Rattle.o2_base.specs.declared.selector.Selector.{Selector}
use Rattle.o2_isa.specs.declared.instr.Width.{Width}
use Rattle.o2_isa.specs.declared.instr.Width.TheVariants.{Byte, Word}
use Rattle.o2_isa.specs.declared.instr.Sreg.{Sreg}
use Rattle.o2_isa.specs.declared.instr.Sreg.TheVariants.{Es, Cs, Ss, Ds}
use Rattle.o2_isa.specs.declared.cpu.Cpu.{Cpu}
use Rattle.o2_isa.specs.declared.cpu.Purpose.{Purpose}
use Rattle.o2_isa.specs.declared.cpu.Purpose.TheVariants.{DataReg, StackReg, Jump, Call, Return}
use Rattle.o2_isa.specs.declared.cpu.Loaded.{Loaded}
use Rattle.o2_isa.specs.declared.cpu.Loaded.TheVariants as loaded

-- what an index of the process's map, or a segment register, holds: a name, and the access byte without its accessed bit
pub record Hold : Type 0 where
  pub name : ℕ
  pub rights : ℕ

-- what the four segment registers hold: nothing where the selector is null
pub record Registers : Type 0 where
  pub es : Option Hold
  pub cs : Option Hold
  pub ss : Option Hold
  pub ds : Option Hold

-- what a step leaves as it is: each name's lock count, flags and marks, what each process holds, and the bounds
pub record Rest : Type 0 where
  pub lock : ℕ → ℕ
  pub flags : ℕ → ℕ
  pub clean : ℕ → Bool
  pub code : ℕ → Bool
  pub shared : ℕ → Bool
  pub maps : ℕ → ℕ → Option Hold
  -- of each process and index: how often it is held, how it came to be, and the run that it belongs to
  pub holds : ℕ → ℕ → ℕ
  pub cause : ℕ → ℕ → ℕ
  pub first : ℕ → ℕ → ℕ
  pub reserved_run : ℕ → ℕ → ℕ
  -- the indexes that are reserved, by region
  pub reserved : ℕ → ℕ → Bool
  pub memory : ℕ
  pub most : ℕ

-- what belongs to the machine alone: how often each name came into memory, where the bytes of the others lie by the
-- blocks of the device, and the references that a bus holds
pub record Hidden : Type 0 where
  pub came_in : ℕ → ℕ
  pub away : ℕ → (ℕ → List ℕ) → List ℕ
  pub store : Option GName
  pub tables : Option GName

pub record View : Type 0 where
  -- the process's map, by index in the local descriptor table
  pub held : ℕ → Option Hold
  -- the services that have a call gate, by index in the global descriptor table
  pub gate : ℕ → Option ℕ
  -- each held name's size, whether it is present, and whether it is marked discarded
  pub size : ℕ → ℕ
  pub present : ℕ → Bool
  pub discarded : ℕ → Bool
  -- the bytes of each present name
  pub bytes : ℕ → List ℕ
  pub registers : Registers
  pub rest : Rest
  pub hidden : Hidden

abbrev pub no_rest : Rest
no_rest = record {
  lock = λ n. 0;
  flags = λ n. 0;
  clean = λ n. false;
  code = λ n. false;
  shared = λ n. false;
  maps = λ p i. None;
  holds = λ p i. 0;
  cause = λ p i. 0;
  first = λ p i. 0;
  reserved_run = λ p i. 0;
  reserved = λ p i. false;
  memory = 0;
  most = 0;
}

abbrev pub no_hidden : Hidden
no_hidden = record { came_in = λ n. 0; away = λ n b. []; store = None; tables = None }

-- the gates of the services that are built stand behind the sixteen first entries of the global descriptor table
unfoldable pub built_gates : ℕ → Option ℕ
built_gates i = if nat_le 16 i && is_built (i - 16) then Some (i - 16) else None

-- the blocks of the device, and anything in place of what is hidden
pub record Filling : Type 0 where
  pub blocks : ℕ → List ℕ
  pub hidden : Hidden

-- the same with all present: what the boundless machine sees
abbrev pub whole : Filling → View → View
whole f v = record v {
  present = λ n. true;
  bytes = λ n. if v.present n then v.bytes n else v.hidden.away n f.blocks;
  hidden = f.hidden;
}

abbrev pub in_register : Registers → Sreg → Option Hold
in_register r Es = r.es
in_register r Cs = r.cs
in_register r Ss = r.ss
in_register r Ds = r.ds

abbrev pub with_register : Registers → Sreg → Option Hold → Registers
with_register r Es h = record r { es = h }
with_register r Cs h = record r { cs = h }
with_register r Ss h = record r { ss = h }
with_register r Ds h = record r { ds = h }

abbrev pub present_or_none : (ℕ → Bool) → Option Hold → Bool
present_or_none present None = true
present_or_none present (Some h) = present h.name

-- what the segment registers hold is present
abbrev pub IsBound : View → Type 0
IsBound v = (r : Sreg) → present_or_none v.present (in_register v.registers r) ≡ true

-- Selectors.

abbrev pub is_null : ℕ → Bool
is_null s = nat_lt s 4

abbrev pub is_local : ℕ → Bool
is_local s = s / 4 % 2 == 1

-- the selector with requested privilege level 3
abbrev pub ring3 : ℕ → ℕ
ring3 s = s / 4 * 4 + 3

-- what a selector names in a map
abbrev pub found_in : (ℕ → Option Hold) → ℕ → Option Hold
found_in held s = if is_local s then held (s / 8) else None

abbrev pub found : View → ℕ → Option Hold
found v s = found_in v.held s

-- what a segment register holds after the load of a selector
abbrev pub bound_in : (ℕ → Option Hold) → ℕ → Option Hold
bound_in held s = if is_null s then None else found_in held s

-- what the registers hold by their selectors
abbrev pub bound_registers : (ℕ → Option Hold) → Cpu → Registers
bound_registers held c = record { es = bound_in held c.es; cs = bound_in held c.cs; ss = bound_in held c.ss; ds = bound_in held c.ds }

-- the bus's four registers are those of the processor
abbrev pub Agrees : Cpu → View → Type 0
Agrees c v = v.registers ≡ bound_registers v.held c

-- the view of a process whose names all have their bytes at hand
abbrev pub simple_view : (ℕ → Option Hold) → (ℕ → Bool) → (ℕ → List ℕ) → Registers → View
simple_view held present bytes registers = record {
  held = held;
  gate = built_gates;
  size = λ n. length (bytes n);
  present = present;
  discarded = λ n. false;
  bytes = bytes;
  registers = registers;
  rest = no_rest;
  hidden = no_hidden;
}

-- Loads. What an access byte allows is said by its bits: is_code, is_readable and is_writable.

-- an exception with the selector's index and table as its code
abbrev pub trap_of : ℕ → ℕ → Loaded
trap_of vector s = loaded.Trap vector (s - s % 4)

abbrev pub refused : ℕ → Loaded
refused s = trap_of 13 s

-- the present test, which comes last; a discarded segment traps in its place
abbrev pub here : View → ℕ → ℕ → Hold → Loaded
here v absent s h = if v.discarded h.name then trap_of absent s else if v.present h.name then loaded.Done else loaded.Miss (record { 0 = s })

abbrev pub when : View → ℕ → ℕ → (ℕ → Bool) → Option Hold → Loaded
when v absent s ok None = refused s
when v absent s ok (Some h) = if ok h.rights then here v absent s h else refused s

-- the service whose gate a selector names
abbrev pub gate_at : View → ℕ → Option ℕ
gate_at v s = if is_local s then None else v.gate (s / 8)

-- a far CALL's selector that names no segment may name a gate
abbrev pub through_gate : ℕ → Option ℕ → Loaded
through_gate s None = refused s
through_gate s (Some k) = loaded.Gate k

abbrev pub called : View → ℕ → Option Hold → Loaded
called v s (Some h) = if is_code h.rights then here v 11 s h else refused s
called v s None = through_gate s (gate_at v s)

-- the load rules, and then the present test, for a selector and what it names in the map
abbrev pub load_rules : View → Purpose → ℕ → Option Hold → Loaded
load_rules v DataReg s h = if is_null s then loaded.Done else when v 11 s is_readable h
load_rules v StackReg s h = if is_null s then loaded.Trap 13 0 else if s % 4 == 3 then when v 12 s is_writable h else refused s
load_rules v Jump s h = if is_null s then loaded.Trap 13 0 else when v 11 s is_code h
load_rules v Call s h = if is_null s then loaded.Trap 13 0 else called v s h
load_rules v Return s h = if is_null s then loaded.Trap 13 0 else if s % 4 == 3 then when v 11 s is_code h else refused s

unfoldable pub probe_of : View → Purpose → Selector → Loaded
probe_of v p s = load_rules v p s.0 (found v s.0)

abbrev pub present_hold : View → Option Hold → Bool
present_hold v None = false
present_hold v (Some h) = v.present h.name

-- the selector may be put into a segment register
unfoldable pub is_loadable : View → Selector → Bool
is_loadable v s = is_null s.0 || present_hold v (found v s.0)

unfoldable pub bind : View → Sreg → Selector → View
bind v r s = record v { registers = with_register v.registers r (bound_in v.held s.0) }

-- Accesses.

abbrev pub width_len : Width → ℕ
width_len Byte = 1
width_len Word = 2

abbrev pub value_at : List ℕ → ℕ → Width → ℕ
value_at bs k Byte = slice_index bs k
value_at bs k Word = slice_index bs k + 256 * slice_index bs (k + 1)

abbrev pub put_at : List ℕ → ℕ → Width → ℕ → List ℕ
put_at bs k Byte x = slice_set bs k x
put_at bs k Word x = slice_set (slice_set bs k (x % 256)) (k + 1) (x / 256)

-- the exception of an access outside the segment
abbrev pub outside : Sreg → ℕ × ℕ
outside Es = (13, 0)
outside Cs = (13, 0)
outside Ss = (12, 0)
outside Ds = (13, 0)

-- the name, where the register holds one with such rights and the access lies in it
abbrev pub reached : Option Hold → (ℕ → Bool) → View → Sreg → ℕ → Width → Result ℕ (ℕ × ℕ)
reached None ok v r k w = Err (13, 0)
reached (Some h) ok v r k w = if ok h.rights then (if nat_le (k + width_len w) (length (v.bytes h.name)) then Ok h.name else Err (outside r)) else Err (13, 0)

abbrev pub read_name : View → ℕ → Width → Result ℕ (ℕ × ℕ) → Result ℕ (ℕ × ℕ)
read_name v k w (Ok n) = Ok (value_at (v.bytes n) k w)
read_name v k w (Err e) = Err e

-- the byte or word at a place of the segment in a register
unfoldable pub read_of : View → Sreg → ℕ → Width → Result ℕ (ℕ × ℕ)
read_of v r k w = read_name v k w (reached (in_register v.registers r) is_readable v r k w)

-- whether a byte or word may be put there
unfoldable pub room_of : View → Sreg → ℕ → Width → Result ℕ (ℕ × ℕ)
room_of v r k w = reached (in_register v.registers r) is_writable v r k w

abbrev pub with_bytes : View → ℕ → List ℕ → View
with_bytes v n bs = record v { bytes = λ m. if m == n then bs else v.bytes m }

abbrev pub poke_hold : View → Option Hold → ℕ → Width → ℕ → View
poke_hold v None k w x = v
poke_hold v (Some h) k w x = if is_writable h.rights then with_bytes v h.name (put_at (v.bytes h.name) k w x) else v

-- the value put at a place of the segment in a register, which has to be data that can be written
unfoldable pub poke : View → Sreg → ℕ → Width → ℕ → View
poke v r k w x = poke_hold v (in_register v.registers r) k w x

-- the size of the segment that a selector names
unfoldable pub size_at : View → ℕ → Option ℕ
size_at v s = option_map (λ h. v.size h.name) (found v s)

-- an access byte with present and accessed read as 1
abbrev pub shown_rights : ℕ → ℕ
shown_rights r = marked (with_present r true)

abbrev pub rights_or_gate : Option Hold → Option ℕ → Option ℕ
rights_or_gate (Some h) g = Some (shown_rights h.rights)
rights_or_gate None (Some k) = Some call_gate
rights_or_gate None None = None

-- the access byte of the segment or the gate that a selector names
unfoldable pub rights_at : View → ℕ → Option ℕ
rights_at v s = rights_or_gate (found v s) (gate_at v s)

abbrev pub hold_bytes : View → Option Hold → List ℕ
hold_bytes v None = []
hold_bytes v (Some h) = v.bytes h.name

-- the bytes at a place of CS, ten at most
unfoldable pub fetched : View → ℕ → List ℕ
fetched v ip = take 10 (drop ip (hold_bytes v v.registers.cs))

-- what a test of room answers is whether there is room, without the name
abbrev pub SameRoom : {U : Type 0} → Result U (ℕ × ℕ) → Result ℕ (ℕ × ℕ) → Type 0
SameRoom (Ok _) (Ok n) = Unit {0}
SameRoom (Err d) (Err e) = d ≡ e
SameRoom (Ok _) (Err e) = ⊥
SameRoom (Err d) (Ok n) = ⊥

-- what a step never changes
pub record KeepsFrame (old new : View) : Type 0 where
  pub held : new.held ≡ old.held
  pub gate : new.gate ≡ old.gate
  pub size : new.size ≡ old.size
  pub present : new.present ≡ old.present
  pub discarded : new.discarded ≡ old.discarded
  pub rest : new.rest ≡ old.rest
  pub hidden : new.hidden ≡ old.hidden
