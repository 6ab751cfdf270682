-- The text of an instruction, as the manual and assemblers write it: prefixes, mnemonic, operands.
use Rattle.std.specs.Prelude.{ℕ, ◌+◌, ◌-◌, ◌/◌, ◌%◌, Bool, true, false, ◌==◌, nat_lt, if◌then◌else◌, List, [], ◌∷◌, ◌++◌, codes}
use Rattle.o2_isa.specs.declared.instr.Op.{Op}
use Rattle.o2_isa.specs.declared.instr.Op.TheVariants.{OpBound, OpLea, OpLes, OpLds, OpSgdt, OpSidt, OpLgdt, OpLidt, OpCallFarAt, OpJmpFarAt, OpRet, OpRetf, OpJo, OpJno}
use Rattle.o2_isa.specs.declared.instr.Op.TheVariants.{OpJb, OpJae, OpJe, OpJne, OpJbe, OpJa, OpJs, OpJns, OpJp, OpJnp, OpJl, OpJge, OpJle, OpJg, OpLoop, OpLoope}
use Rattle.o2_isa.specs.declared.instr.Op.TheVariants.{OpLoopne, OpJcxz, OpCall, OpJmp}
use Rattle.o2_isa.specs.declared.instr.Width.{Width}
use Rattle.o2_isa.specs.declared.instr.Width.TheVariants.{Byte, Word}
use Rattle.o2_isa.specs.declared.instr.Rep.{Rep}
use Rattle.o2_isa.specs.declared.instr.Rep.TheVariants as rep
use Rattle.o2_isa.specs.declared.instr.Sreg.{Sreg}
use Rattle.o2_isa.specs.declared.instr.Sreg.TheVariants.{Es, Cs, Ss, Ds}
use Rattle.o2_isa.specs.declared.instr.Ea.{Ea}
use Rattle.o2_isa.specs.declared.instr.Arg.{Arg}
use Rattle.o2_isa.specs.declared.instr.Arg.TheVariants as arg
use Rattle.o2_isa.specs.declared.instr.Instr.{Instr}
use Rattle.o2_isa.specs.Canonical.{is_string, compares}
use Rattle.o2_text.specs.Names.{name}

-- an upper-case hexadecimal digit
abbrev pub digit : ℕ → ℕ
digit d = if nat_lt d 10 then 48 + d else 55 + d

abbrev pub hex2 : ℕ → List ℕ
hex2 n = digit (n / 16) ∷ digit (n % 16) ∷ []

abbrev pub hex4 : ℕ → List ℕ
hex4 n = digit (n / 4096) ∷ digit (n / 256 % 16) ∷ digit (n / 16 % 16) ∷ digit (n % 16) ∷ []

-- a number: two digits where they do, else four
unfoldable pub number : ℕ → List ℕ
number n = if nat_lt n 256 then 48 ∷ 120 ∷ hex2 n else 48 ∷ 120 ∷ hex4 n

-- an offset in code, or a selector: four digits
unfoldable pub address : ℕ → List ℕ
address n = 48 ∷ 120 ∷ hex4 n

abbrev pub byte_register : ℕ → List ℕ
byte_register n =
    if n == 0 then codes "al"
    else if n == 1 then codes "cl"
    else if n == 2 then codes "dl"
    else if n == 3 then codes "bl"
    else if n == 4 then codes "ah"
    else if n == 5 then codes "ch"
    else if n == 6 then codes "dh"
    else codes "bh"

abbrev pub word_register : ℕ → List ℕ
word_register n =
    if n == 0 then codes "ax"
    else if n == 1 then codes "cx"
    else if n == 2 then codes "dx"
    else if n == 3 then codes "bx"
    else if n == 4 then codes "sp"
    else if n == 5 then codes "bp"
    else if n == 6 then codes "si"
    else codes "di"

abbrev pub segment_register : Sreg → List ℕ
segment_register Es = codes "es"
segment_register Cs = codes "cs"
segment_register Ss = codes "ss"
segment_register Ds = codes "ds"

-- the bases with BP use SS, all others DS
abbrev pub uses_stack : ℕ → Bool
uses_stack base = if base == 2 then true else if base == 3 then true else base == 6

-- the segment, where it isn't the one that the base uses
abbrev pub override_text : Bool → Sreg → List ℕ
override_text stack Es = codes "es:"
override_text stack Cs = codes "cs:"
override_text stack Ss = if stack then [] else codes "ss:"
override_text stack Ds = if stack then codes "ds:" else []

abbrev pub base_text : ℕ → List ℕ
base_text base =
    if base == 0 then codes "bx+si"
    else if base == 1 then codes "bx+di"
    else if base == 2 then codes "bp+si"
    else if base == 3 then codes "bp+di"
    else if base == 4 then codes "si"
    else if base == 5 then codes "di"
    else if base == 6 then codes "bp"
    else if base == 7 then codes "bx"
    else []

-- what is added to a base: nothing, or a number of either sign
abbrev pub displacement_text : ℕ → List ℕ
displacement_text d = if d == 0 then [] else if nat_lt d 32768 then 43 ∷ number d else 45 ∷ number (65536 - d)

-- a direct offset, or a base with its displacement
abbrev pub place_text : ℕ → ℕ → List ℕ
place_text base d = if nat_lt base 8 then base_text base ++ displacement_text d else address d

abbrev pub memory_text : Ea → List ℕ
memory_text ea = 91 ∷ override_text (uses_stack ea.base) ea.seg ++ place_text ea.base ea.disp ++ 93 ∷ []

-- the operands of these are no bytes or words, or say their size otherwise
abbrev pub has_no_size : Op → Bool
has_no_size OpLea = true
has_no_size OpLes = true
has_no_size OpLds = true
has_no_size OpBound = true
has_no_size OpSgdt = true
has_no_size OpSidt = true
has_no_size OpLgdt = true
has_no_size OpLidt = true
has_no_size _ = false

-- whether the operand in memory is a far address
abbrev pub is_far : Op → Bool
is_far OpCallFarAt = true
is_far OpJmpFarAt = true
is_far _ = false

abbrev pub width_text : Width → List ℕ
width_text Byte = codes "byte "
width_text Word = codes "word "

-- what stands before an operand in memory
abbrev pub size_text : Op → Width → List ℕ
size_text op width = if is_far op then codes "far " else if has_no_size op then [] else width_text width

-- the mnemonics whose number is the distance of a jump
abbrev pub is_relative : Op → Bool
is_relative OpJo = true
is_relative OpJno = true
is_relative OpJb = true
is_relative OpJae = true
is_relative OpJe = true
is_relative OpJne = true
is_relative OpJbe = true
is_relative OpJa = true
is_relative OpJs = true
is_relative OpJns = true
is_relative OpJp = true
is_relative OpJnp = true
is_relative OpJl = true
is_relative OpJge = true
is_relative OpJle = true
is_relative OpJg = true
is_relative OpLoop = true
is_relative OpLoope = true
is_relative OpLoopne = true
is_relative OpJcxz = true
is_relative OpCall = true
is_relative OpJmp = true
is_relative _ = false

-- a number, or where a jump of this distance from this IP goes
abbrev pub number_text : Bool → ℕ → ℕ → List ℕ
number_text relative next n = if relative then address ((next + n) % 65536) else number n

-- an operand; `size` stands before one in memory, and `next` is the IP behind the instruction
abbrev pub operand_text : Bool → List ℕ → ℕ → Arg → List ℕ
operand_text relative size next arg.No = []
operand_text relative size next (arg.R8 n) = byte_register n
operand_text relative size next (arg.R16 n) = word_register n
operand_text relative size next (arg.S s) = segment_register s
operand_text relative size next (arg.M ea) = size ++ memory_text ea
operand_text relative size next (arg.Imm n) = number_text relative next n
operand_text relative size next (arg.Far offset selector) = address selector ++ 58 ∷ address offset

abbrev pub is_return : Op → Bool
is_return OpRet = true
is_return OpRetf = true
is_return _ = false

-- the first operand: a return that takes no arguments away says no number
abbrev pub first_of : Bool → Arg → Arg
first_of returns (arg.Imm n) = if returns then (if n == 0 then arg.No else arg.Imm n) else arg.Imm n
first_of returns a = a

-- an operand behind another byte, where there is one
abbrev pub behind : ℕ → Bool → List ℕ → ℕ → Arg → List ℕ
behind byte relative size next arg.No = []
behind byte relative size next a = byte ∷ operand_text relative size next a

-- all operands, each behind a blank or a comma
abbrev pub operands_text : Instr → ℕ → List ℕ
operands_text i next =
    behind 32 (is_relative i.op) (size_text i.op i.width) next (first_of (is_return i.op) i.left)
    ++ behind 44 (is_relative i.op) (size_text i.op i.width) next i.right
    ++ behind 44 (is_relative i.op) (size_text i.op i.width) next i.third

abbrev pub lock_text : Bool → List ℕ
lock_text true = codes "lock "
lock_text false = []

-- REPE and REPNE stand where elements are compared
abbrev pub repeat_text : Bool → Rep → List ℕ
repeat_text compares rep.No = []
repeat_text compares rep.Equal = if compares then codes "repe " else codes "rep "
repeat_text compares rep.NotEqual = codes "repne "

-- the segment of a source that isn't written as an operand, where it isn't DS
abbrev pub source_text : Sreg → List ℕ
source_text Es = codes "es "
source_text Cs = codes "cs "
source_text Ss = codes "ss "
source_text Ds = []

-- the letter by which a string instruction says its width
abbrev pub suffix : Bool → Width → List ℕ
suffix true Byte = codes "b"
suffix true Word = codes "w"
suffix false w = []

-- the prefixes and the mnemonic
abbrev pub head_text : Instr → List ℕ
head_text i = lock_text i.lock ++ repeat_text (compares i.op) i.rep ++ source_text i.seg ++ name i.op ++ suffix (is_string i.op) i.width

-- the text of an instruction, behind which the IP is `next`
unfoldable pub text_of : Instr → ℕ → List ℕ
text_of i next = head_text i ++ operands_text i next
