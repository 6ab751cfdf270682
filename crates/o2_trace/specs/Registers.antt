-- The registers that a step changed, as a line of the trace tells them.
use Rattle.std.specs.Prelude.{ℕ, ◌==◌, if◌then◌else◌, List, [], ◌++◌, codes}
use Rattle.o2_isa.specs.declared.cpu.Cpu.{Cpu}
use Rattle.o2_tool.specs.Text.{hex4}

-- a register that has changed: its name, and what it holds now
abbrev pub change_text : List ℕ → ℕ → ℕ → List ℕ
change_text name old new = if old == new then [] else codes " " ++ (name ++ (codes "=" ++ hex4 new))

abbrev pub general_text : Cpu → Cpu → List ℕ
general_text old new =
    change_text (codes "AX") old.ax new.ax ++ (change_text (codes "BX") old.bx new.bx
    ++ (change_text (codes "CX") old.cx new.cx ++ change_text (codes "DX") old.dx new.dx))

abbrev pub pointers_text : Cpu → Cpu → List ℕ
pointers_text old new =
    change_text (codes "SI") old.si new.si ++ (change_text (codes "DI") old.di new.di
    ++ (change_text (codes "BP") old.bp new.bp ++ change_text (codes "SP") old.sp new.sp))

abbrev pub segments_text : Cpu → Cpu → List ℕ
segments_text old new =
    change_text (codes "CS") old.cs new.cs ++ (change_text (codes "DS") old.ds new.ds
    ++ (change_text (codes "ES") old.es new.es ++ change_text (codes "SS") old.ss new.ss))

-- each register that has changed; IP where it isn't that of the next instruction
abbrev pub changes_text : Cpu → Cpu → ℕ → List ℕ
changes_text old new next =
    general_text old new ++ (pointers_text old new ++ (segments_text old new
    ++ (change_text (codes "IP") next new.ip ++ change_text (codes "F") old.flags new.flags)))
