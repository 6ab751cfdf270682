-- A step as data of JSON.
use Rattle.std.specs.Prelude.{ℕ, List, [], ◌∷◌, ◌++◌, codes, min, take, Option, Some, None}
use Rattle.serde_json.specs.Data.{Data, number, unsigned, string, null, array, object, no_items, item, Members, no_members, put as with_member}
use Rattle.serde_json.specs.View.{items_of}
use Rattle.o2_isa.specs.declared.cpu.Cpu.{Cpu}
use Rattle.o2_isa.specs.declared.instr.Sreg.{Sreg}
use Rattle.o2_tool.specs.Text.{hex_text}
use Rattle.o2_trace.specs.Exceptions.{name_of}
use Rattle.o2_trace.specs.Lines.{at_ip, code_text, shown_count}
use Rattle.o2_trace.specs.declared.changes.Change.{Change}
use Rattle.o2_trace.specs.declared.exception.Exception.{Exception}
use Rattle.o2_trace.specs.declared.exception.Place.{Place}
use Rattle.o2_trace.specs.declared.exception.Place.TheVariants.{Instruction, Service, Behind}
use Rattle.o2_trace.specs.declared.step.Before.{Before}
use Rattle.o2_trace.specs.declared.told.Told.{Told}

abbrev pub natural : ℕ → Data
natural n = number (unsigned n)

-- an object's members, with the registers
abbrev pub general_in : Cpu → Members → Members
general_in c ms = with_member (codes "dx") (natural c.dx) (with_member (codes "cx") (natural c.cx)
    (with_member (codes "bx") (natural c.bx) (with_member (codes "ax") (natural c.ax) ms)))

abbrev pub pointers_in : Cpu → Members → Members
pointers_in c ms = with_member (codes "sp") (natural c.sp) (with_member (codes "bp") (natural c.bp)
    (with_member (codes "di") (natural c.di) (with_member (codes "si") (natural c.si) ms)))

abbrev pub segments_in : Cpu → Members → Members
segments_in c ms = with_member (codes "ss") (natural c.ss) (with_member (codes "es") (natural c.es)
    (with_member (codes "ds") (natural c.ds) (with_member (codes "cs") (natural c.cs) ms)))

abbrev pub registers_in : Cpu → Members → Members
registers_in c ms = with_member (codes "flags") (natural c.flags) (with_member (codes "ip") (natural c.ip)
    (segments_in c (pointers_in c (general_in c ms))))

abbrev pub registers_data : Cpu → Data
registers_data c = object (registers_in c no_members)

abbrev pub maybe_registers : Option Cpu → Data
maybe_registers None = null
maybe_registers (Some c) = registers_data c

-- a changed byte: selector, offset, what it was and is
abbrev pub change_data : Change → Data
change_data c = array (item (natural c.selector) (item (natural c.offset) (item (natural c.old) (item (natural c.new) no_items))))

abbrev pub changes_data : List Change → List Data
changes_data [] = []
changes_data (c ∷ cs) = change_data c ∷ changes_data cs

abbrev pub names_data : Option Sreg → List Data
names_data None = []
names_data (Some r) = string (name_of r) ∷ []

-- the segment registers by which an exception may have come
abbrev pub segments_data : Exception → Data
segments_data e = array (items_of (names_data e.first ++ names_data e.second))

abbrev pub place_word : Place → List ℕ
place_word Instruction = codes "instruction"
place_word Service = codes "service"
place_word Behind = codes "behind"

abbrev pub exception_in : Exception → Members → Members
exception_in e ms = with_member (codes "segments") (segments_data e) (with_member (codes "place") (string (place_word e.place))
    (with_member (codes "code") (natural e.code) (with_member (codes "vector") (natural e.vector) ms)))

abbrev pub exception_data : Exception → Data
exception_data e = object (exception_in e no_members)

abbrev pub maybe_exception : Option Exception → Data
maybe_exception None = null
maybe_exception (Some e) = exception_data e

-- the bytes of the instruction, or all that were looked at where there is none
abbrev pub code_digits : Before → List ℕ
code_digits b = hex_text (take (shown_count (min b.count 10) (at_ip b)) b.bytes)

-- an object's members, with those of a step: its number, its process and its place
abbrev pub place_in : Told → Members → Members
place_in t ms = with_member (codes "ip") (natural t.before.cpu.ip) (with_member (codes "cs") (natural t.before.cpu.cs)
    (with_member (codes "process") (natural t.before.process) (with_member (codes "step") (natural t.number) ms)))

-- with its instruction
abbrev pub code_in : Before → Members → Members
code_in b ms = with_member (codes "text") (string (code_text b.cpu.ip (at_ip b)))
    (with_member (codes "code") (string (code_digits b)) ms)

-- with what it changed
abbrev pub effects_in : Told → Members → Members
effects_in t ms = with_member (codes "trap") (maybe_exception t.exception)
    (with_member (codes "writes") (array (items_of (changes_data t.changes.now)))
    (with_member (codes "after") (maybe_registers t.after) (with_member (codes "before") (registers_data t.before.cpu) ms)))

-- with all of them
abbrev pub step_in : Told → Members → Members
step_in t ms = effects_in t (code_in t.before (place_in t ms))
