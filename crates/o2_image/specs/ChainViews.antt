-- How the code's walk along a chain is seen.
use Rattle.std.specs.Prelude.{◌≡◌, Result, Ok, Err}
use Rattle.o2_base.specs.declared.faults.ModuleFault.{ModuleFault}
use Rattle.o2_image.specs.declared.chain.Walking.{Walking}
use Rattle.o2_image.specs.declared.faults.RecordFault.{RecordFault}
use Rattle.o2_image.specs.Chains.{Marks, Walk}
use Rattle.o2_image.specs.Faults.{of_record}

abbrev pub walk : Walking → Marks → Walk
walk w marks = record { marks = marks; next = w.next; ended = w.ended }

abbrev pub Walks : Marks → Result Walking RecordFault → Result Walk ModuleFault → Type 0
Walks marks (Ok w) read = read ≡ Ok (walk w marks)
Walks marks (Err e) read = read ≡ Err (of_record e)
