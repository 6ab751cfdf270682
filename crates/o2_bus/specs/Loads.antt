-- The load rules over what a selector names, wherever it is held (Intel 80286 Programmer's Reference Manual, chapters 6, 7 and 9).
use Rattle.std.specs.Prelude.{ℕ, ◌%◌, ◌/◌, ◌==◌, Bool, Option, Some, None, if◌then◌else◌}
use Rattle.o2_isa.specs.declared.cpu.Purpose.{Purpose}
use Rattle.o2_isa.specs.declared.cpu.Purpose.TheVariants.{DataReg, StackReg, Jump, Call, Return}
use Rattle.o2_isa.specs.declared.cpu.Loaded.{Loaded}
use Rattle.o2_isa.specs.declared.cpu.Loaded.TheVariants as loaded
use Rattle.o2_isa.specs.View.{is_code, is_readable, is_writable, is_local, is_null, refused, trap_of, through_gate, built_gates}
use Rattle.o2_bus.specs.declared.loading.LoadTarget.{LoadTarget}

-- the service whose gate a selector names
abbrev pub service_at : ℕ → Option ℕ
service_at s = if is_local s then None else built_gates (s / 8)

-- which access bytes a load takes
abbrev pub passes_of : Purpose → ℕ → Bool
passes_of DataReg a = is_readable a
passes_of StackReg a = is_writable a
passes_of Jump a = is_code a
passes_of Call a = is_code a
passes_of Return a = is_code a

-- the exception of a load of a segment that isn't there: 12 for SS, and 11 for all others
abbrev pub absent_vector : Purpose → ℕ
absent_vector DataReg = 11
absent_vector StackReg = 12
absent_vector Jump = 11
absent_vector Call = 11
absent_vector Return = 11

-- the test of presence, with the exception of a discarded segment in its place
abbrev pub tested_there : Purpose → ℕ → LoadTarget → Loaded
tested_there p s t = if t.discarded then trap_of (absent_vector p) s else if t.present then loaded.Done else loaded.Miss (record { 0 = s })

-- the test of the access byte, and then of presence
abbrev pub tested : Purpose → ℕ → Option LoadTarget → Loaded
tested p s None = refused s
tested p s (Some t) = if passes_of p t.access then tested_there p s t else refused s

-- a far CALL's selector that names no segment may name a gate
abbrev pub called_by : ℕ → Option LoadTarget → Loaded
called_by s None = through_gate s (service_at s)
called_by s (Some t) = tested Call s (Some t)

-- the load rules and then the present test, for a selector and what it names
abbrev pub rules_of : Purpose → ℕ → Option LoadTarget → Loaded
rules_of DataReg s t = if is_null s then loaded.Done else tested DataReg s t
rules_of StackReg s t = if is_null s then loaded.Trap 13 0 else if s % 4 == 3 then tested StackReg s t else refused s
rules_of Jump s t = if is_null s then loaded.Trap 13 0 else tested Jump s t
rules_of Call s t = if is_null s then loaded.Trap 13 0 else called_by s t
rules_of Return s t = if is_null s then loaded.Trap 13 0 else if s % 4 == 3 then tested Return s t else refused s
