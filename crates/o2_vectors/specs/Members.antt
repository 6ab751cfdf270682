-- The members of a vector's objects, put one after the other: the last name first, so that each stands in front of those that are there.
use Rattle.std.specs.Prelude.{List, codes}
use Rattle.serde_json.specs.Data.{Data, array, Members, put}
use Rattle.serde_json.specs.View.{items_of}
use Rattle.o2_isa.specs.declared.cpu.Cpu.{Cpu}
use Rattle.o2_isa.specs.declared.cpu.Outcome.{Outcome}
use Rattle.o2_vectors.specs.declared.state.Snapshot.{Snapshot}
use Rattle.o2_vectors.specs.Json.{natural, registers_data, segments_data, ram, changed_ram, initial_data, final_data, answer_data}

-- the registers from DX on
abbrev pub last_registers : Cpu → Members → Members
last_registers c ms = put (codes "dx") (natural c.dx) (put (codes "es") (natural c.es) (put (codes "flags") (natural c.flags)
    (put (codes "ip") (natural c.ip) (put (codes "si") (natural c.si) (put (codes "sp") (natural c.sp) (put (codes "ss") (natural c.ss) ms))))))

-- those before it
abbrev pub first_registers : Cpu → Members → Members
first_registers c ms = put (codes "ax") (natural c.ax) (put (codes "bp") (natural c.bp) (put (codes "bx") (natural c.bx)
    (put (codes "cs") (natural c.cs) (put (codes "cx") (natural c.cx) (put (codes "di") (natural c.di) (put (codes "ds") (natural c.ds) ms))))))

abbrev pub initial_members : Snapshot → Members → Members
initial_members s ms = put (codes "ram") (array (items_of (ram s))) (put (codes "regs") (registers_data s.cpu) (put (codes "segments") segments_data ms))

abbrev pub final_members : Snapshot → Snapshot → Members → Members
final_members old new ms = put (codes "ram") (array (items_of (changed_ram old new))) (put (codes "regs") (registers_data new.cpu) ms)

-- what the bytes are and what a step makes of the state
abbrev pub step_members : List Data → Snapshot → Snapshot → Outcome → Members → Members
step_members bytes before after outcome ms = put (codes "answer") (answer_data outcome) (put (codes "bytes") (array (items_of bytes))
    (put (codes "final") (final_data before after) (put (codes "initial") (initial_data before) ms)))
