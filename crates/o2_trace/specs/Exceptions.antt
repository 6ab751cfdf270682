-- The exception by which a step ended its process.
use Rattle.std.specs.Prelude.{ℕ, List, [], ◌++◌, codes, Option, Some, None}
use Rattle.std.specs.Fmt.{decimal}
use Rattle.o2_isa.specs.declared.cpu.Cpu.{Cpu}
use Rattle.o2_isa.specs.declared.cpu.Outcome.{Outcome}
use Rattle.o2_isa.specs.declared.cpu.Outcome.TheVariants as outcome
use Rattle.o2_isa.specs.declared.instr.Sreg.{Sreg}
use Rattle.o2_isa.specs.declared.instr.Sreg.TheVariants.{Es, Cs, Ss, Ds}
use Rattle.o2_tool.specs.Text.{hex4}
use Rattle.o2_trace.specs.declared.exception.Exception.{Exception}
use Rattle.o2_trace.specs.declared.exception.Place.{Place}
use Rattle.o2_trace.specs.declared.exception.Place.TheVariants.{Instruction, Service, Behind}

-- an instruction's own number and error code; of anything else the number with which its process ended, and 0
abbrev pub vector_of : ℕ → Outcome → ℕ
vector_of number outcome.Done = number
vector_of number (outcome.Miss s) = number
vector_of number (outcome.Trap vector code) = vector
vector_of number (outcome.Gate service next) = number

abbrev pub code_of : Outcome → ℕ
code_of outcome.Done = 0
code_of (outcome.Miss s) = 0
code_of (outcome.Trap vector code) = code
code_of (outcome.Gate service next) = 0

abbrev pub name_of : Sreg → List ℕ
name_of Es = codes "ES"
name_of Cs = codes "CS"
name_of Ss = codes "SS"
name_of Ds = codes "DS"

abbrev pub selector_of : Cpu → Sreg → ℕ
selector_of c Es = c.es
selector_of c Cs = c.cs
selector_of c Ss = c.ss
selector_of c Ds = c.ds

abbrev pub place_text : Place → List ℕ
place_text Instruction = []
place_text Service = codes ", in the service"
place_text Behind = codes ", behind the step"

-- a segment register and what it holds, behind a mark
abbrev pub segment_text : List ℕ → Cpu → Option Sreg → List ℕ
segment_text mark c None = []
segment_text mark c (Some r) = mark ++ (name_of r ++ (codes "=" ++ hex4 (selector_of c r)))

unfoldable pub numbers_text : ℕ → ℕ → List ℕ
numbers_text vector code = codes "exception " ++ (decimal vector ++ (codes ", error code " ++ hex4 code))

abbrev pub exception_text : Exception → Cpu → List ℕ
exception_text e c = numbers_text e.vector e.code ++ (place_text e.place
    ++ (segment_text (codes ", segment ") c e.first ++ segment_text (codes " or ") c e.second))
