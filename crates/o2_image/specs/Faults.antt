-- Faults of the parts, as faults of a module.
use Rattle.std.specs.Prelude.{◌≡◌, Result, Ok, Err}
use Rattle.o2_base.specs.declared.faults.NeFault.{NeFault}
use Rattle.o2_base.specs.declared.faults.NeFault.TheVariants as ne
use Rattle.o2_base.specs.declared.faults.SegFault.{SegFault}
use Rattle.o2_base.specs.declared.faults.SegFault.TheVariants as seg
use Rattle.o2_base.specs.declared.faults.Part.{Part}
use Rattle.o2_base.specs.declared.faults.Part.TheVariants as part
use Rattle.o2_base.specs.declared.faults.Which.{Which}
use Rattle.o2_base.specs.declared.faults.Which.TheVariants as which
use Rattle.o2_base.specs.declared.faults.ModuleFault.{ModuleFault}
use Rattle.o2_base.specs.declared.faults.ModuleFault.TheVariants as module_fault
use Rattle.o2_base.specs.declared.memory.Fail.{Fail}
use Rattle.o2_base.specs.declared.memory.Fail.TheVariants.{Bad, NoMemory}
use Rattle.o2_image.specs.declared.faults.RecordFault.{RecordFault}
use Rattle.o2_image.specs.declared.faults.RecordFault.TheVariants as record_fault

abbrev pub of_ne : NeFault → ModuleFault
of_ne ne.NotMz = module_fault.NotMz
of_ne ne.NotNe = module_fault.NotNe
of_ne (ne.Truncated p) = module_fault.Truncated p
of_ne ne.NotOs2 = module_fault.NotOs2
of_ne ne.LinkErrors = module_fault.LinkErrors
of_ne (ne.BadTable w) = module_fault.BadTable w
of_ne (ne.OutOfProfile w) = module_fault.OutOfProfile w

abbrev pub of_part : Part → Which
of_part part.Iterated = which.Iterated
of_part part.Conforming = which.Conforming
of_part part.Ring = which.Ring
of_part part.Wide = which.Wide

-- a table's reading never fails for want of memory; that case stands for nothing
abbrev pub of_seg : SegFault → ModuleFault
of_seg seg.NoMemory = module_fault.Truncated 0
of_seg (seg.Truncated p) = module_fault.Truncated p
of_seg (seg.OutOfProfile p) = module_fault.OutOfProfile (of_part p)

abbrev pub of_record : RecordFault → ModuleFault
of_record (record_fault.Chain seg p) = module_fault.BadChain seg p
of_record (record_fault.Target seg n) = module_fault.BadTarget seg n

-- the readings of the parts, with faults of a module
abbrev pub under_ne : {X : Type 0} → Result X NeFault → Result X ModuleFault
under_ne (Ok x) = Ok x
under_ne (Err f) = Err (of_ne f)

abbrev pub under_seg : {X : Type 0} → Result X SegFault → Result X ModuleFault
under_seg (Ok x) = Ok x
under_seg (Err f) = Err (of_seg f)

-- What a function that checks found, where the reading ends in this state.
abbrev pub StepsTo : {X F : Type 0} → X → Result (Unit {0}) F → Result X F → Type 0
StepsTo after (Ok x) read = read ≡ Ok after
StepsTo after (Err e) read = read ≡ Err e

-- The same of a function that checks records.
abbrev pub RecordStepsTo : {X : Type 0} → X → Result (Unit {0}) RecordFault → Result X ModuleFault → Type 0
RecordStepsTo after (Ok x) read = read ≡ Ok after
RecordStepsTo after (Err e) read = read ≡ Err (of_record e)

-- The failure of a module that a segment's fault stands for.
abbrev pub SegFailsAs : SegFault → Fail ModuleFault → Type 0
SegFailsAs seg.NoMemory e = e ≡ NoMemory
SegFailsAs (seg.Truncated p) e = e ≡ Bad (module_fault.Truncated p)
SegFailsAs (seg.OutOfProfile p) e = e ≡ Bad (module_fault.OutOfProfile (of_part p))
