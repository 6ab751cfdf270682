-- The opcodes of the 80286, as the Intel 80286 Programmer's Reference Manual has them.
use Rattle.std.specs.Prelude.{List, [], ◌∷◌, Option, Some, None}
use Rattle.o2_isa.specs.declared.rows.Entry.{Entry}
use Rattle.o2_isa.specs.declared.rows.Entry.TheVariants.{Unused, Bare, Modrm, Group}
use Rattle.o2_isa.specs.declared.rows.Row.{Row}
use Rattle.o2_isa.specs.declared.instr.Op.{Op}
use Rattle.o2_isa.specs.declared.instr.Op.TheVariants.{OpAdd, OpOr, OpAdc, OpSbb, OpAnd, OpSub, OpXor, OpCmp, OpPush, OpPop, OpDaa, OpDas, OpAaa, OpAas, OpInc, OpDec}
use Rattle.o2_isa.specs.declared.instr.Op.TheVariants.{OpPusha, OpPopa, OpBound, OpArpl, OpImulThree, OpIns, OpOuts, OpJo, OpJno, OpJb, OpJae, OpJe, OpJne, OpJbe, OpJa}
use Rattle.o2_isa.specs.declared.instr.Op.TheVariants.{OpJs, OpJns, OpJp, OpJnp, OpJl, OpJge, OpJle, OpJg, OpTest, OpXchg, OpMov, OpLea, OpCbw, OpCwd, OpCallFar, OpWait}
use Rattle.o2_isa.specs.declared.instr.Op.TheVariants.{OpPushf, OpPopf, OpSahf, OpLahf, OpMovs, OpCmps, OpStos, OpLods, OpScas, OpRol, OpRor, OpRcl, OpRcr, OpShl, OpShr}
use Rattle.o2_isa.specs.declared.instr.Op.TheVariants.{OpSar, OpRet, OpRetf, OpIret, OpLes, OpLds, OpEnter, OpLeave, OpIntThree, OpInt, OpInto, OpAam, OpAad, OpXlat}
use Rattle.o2_isa.specs.declared.instr.Op.TheVariants.{OpEsc, OpLoopne, OpLoope, OpLoop, OpJcxz, OpIn, OpOut, OpCall, OpJmp, OpJmpFar, OpHlt, OpCmc, OpClc, OpStc, OpCli}
use Rattle.o2_isa.specs.declared.instr.Op.TheVariants.{OpSti, OpCld, OpStd, OpNot, OpNeg, OpMul, OpImul, OpDiv, OpIdiv, OpCallAt, OpCallFarAt, OpJmpAt, OpJmpFarAt}
use Rattle.o2_isa.specs.declared.instr.Op.TheVariants.{OpSldt, OpStr, OpLldt, OpLtr, OpVerr, OpVerw, OpSgdt, OpSidt, OpLgdt, OpLidt, OpSmsw, OpLmsw, OpLar, OpLsl, OpClts}
use Rattle.o2_isa.specs.declared.instr.Width.{Width}
use Rattle.o2_isa.specs.declared.instr.Width.TheVariants.{Byte, Word}
use Rattle.o2_isa.specs.declared.rows.Slot.{Slot}
use Rattle.o2_isa.specs.declared.rows.Slot.TheVariants.{Absent, ModRm, Memory, Register, Segment, SegmentNotCs, Fixed, FixedByte, FixedWord, FixedSegment, ImmByte, ImmWord, ImmSigned, FarImm, Offset, Constant, Source}
use Rattle.o2_isa.specs.declared.rows.Repeat.{Repeat}
use Rattle.o2_isa.specs.declared.rows.Repeat.TheVariants.{Never, Always, WhileZero}
use Rattle.o2_isa.specs.declared.instr.Sreg.TheVariants.{Es, Cs, Ss, Ds}

-- an instruction: its mnemonic, its width, its operands, and what a repeat prefix does
abbrev pub row : Op → Width → Slot → Slot → Slot → Repeat → Row
row o w l r t p = record { op = o; width = w; left = l; right = r; third = t; repeat = p }

-- The opcodes of one byte, from 00. A prefix is no instruction, and behind 0F comes an opcode's second byte.
-- 82, D6 and F1, to which the manual gives no meaning, are no instructions either.
unfoldable pub table : List Entry
table =
    Modrm (row OpAdd Byte ModRm Register Absent Never) ∷  -- 00
    Modrm (row OpAdd Word ModRm Register Absent Never) ∷  -- 01
    Modrm (row OpAdd Byte Register ModRm Absent Never) ∷  -- 02
    Modrm (row OpAdd Word Register ModRm Absent Never) ∷  -- 03
    Bare (row OpAdd Byte (Fixed 0) ImmByte Absent Never) ∷  -- 04
    Bare (row OpAdd Word (Fixed 0) ImmWord Absent Never) ∷  -- 05
    Bare (row OpPush Word (FixedSegment Es) Absent Absent Never) ∷  -- 06
    Bare (row OpPop Word (FixedSegment Es) Absent Absent Never) ∷  -- 07
    Modrm (row OpOr Byte ModRm Register Absent Never) ∷  -- 08
    Modrm (row OpOr Word ModRm Register Absent Never) ∷  -- 09
    Modrm (row OpOr Byte Register ModRm Absent Never) ∷  -- 0A
    Modrm (row OpOr Word Register ModRm Absent Never) ∷  -- 0B
    Bare (row OpOr Byte (Fixed 0) ImmByte Absent Never) ∷  -- 0C
    Bare (row OpOr Word (Fixed 0) ImmWord Absent Never) ∷  -- 0D
    Bare (row OpPush Word (FixedSegment Cs) Absent Absent Never) ∷  -- 0E
    Unused ∷  -- 0F
    Modrm (row OpAdc Byte ModRm Register Absent Never) ∷  -- 10
    Modrm (row OpAdc Word ModRm Register Absent Never) ∷  -- 11
    Modrm (row OpAdc Byte Register ModRm Absent Never) ∷  -- 12
    Modrm (row OpAdc Word Register ModRm Absent Never) ∷  -- 13
    Bare (row OpAdc Byte (Fixed 0) ImmByte Absent Never) ∷  -- 14
    Bare (row OpAdc Word (Fixed 0) ImmWord Absent Never) ∷  -- 15
    Bare (row OpPush Word (FixedSegment Ss) Absent Absent Never) ∷  -- 16
    Bare (row OpPop Word (FixedSegment Ss) Absent Absent Never) ∷  -- 17
    Modrm (row OpSbb Byte ModRm Register Absent Never) ∷  -- 18
    Modrm (row OpSbb Word ModRm Register Absent Never) ∷  -- 19
    Modrm (row OpSbb Byte Register ModRm Absent Never) ∷  -- 1A
    Modrm (row OpSbb Word Register ModRm Absent Never) ∷  -- 1B
    Bare (row OpSbb Byte (Fixed 0) ImmByte Absent Never) ∷  -- 1C
    Bare (row OpSbb Word (Fixed 0) ImmWord Absent Never) ∷  -- 1D
    Bare (row OpPush Word (FixedSegment Ds) Absent Absent Never) ∷  -- 1E
    Bare (row OpPop Word (FixedSegment Ds) Absent Absent Never) ∷  -- 1F
    Modrm (row OpAnd Byte ModRm Register Absent Never) ∷  -- 20
    Modrm (row OpAnd Word ModRm Register Absent Never) ∷  -- 21
    Modrm (row OpAnd Byte Register ModRm Absent Never) ∷  -- 22
    Modrm (row OpAnd Word Register ModRm Absent Never) ∷  -- 23
    Bare (row OpAnd Byte (Fixed 0) ImmByte Absent Never) ∷  -- 24
    Bare (row OpAnd Word (Fixed 0) ImmWord Absent Never) ∷  -- 25
    Unused ∷  -- 26
    Bare (row OpDaa Word Absent Absent Absent Never) ∷  -- 27
    Modrm (row OpSub Byte ModRm Register Absent Never) ∷  -- 28
    Modrm (row OpSub Word ModRm Register Absent Never) ∷  -- 29
    Modrm (row OpSub Byte Register ModRm Absent Never) ∷  -- 2A
    Modrm (row OpSub Word Register ModRm Absent Never) ∷  -- 2B
    Bare (row OpSub Byte (Fixed 0) ImmByte Absent Never) ∷  -- 2C
    Bare (row OpSub Word (Fixed 0) ImmWord Absent Never) ∷  -- 2D
    Unused ∷  -- 2E
    Bare (row OpDas Word Absent Absent Absent Never) ∷  -- 2F
    Modrm (row OpXor Byte ModRm Register Absent Never) ∷  -- 30
    Modrm (row OpXor Word ModRm Register Absent Never) ∷  -- 31
    Modrm (row OpXor Byte Register ModRm Absent Never) ∷  -- 32
    Modrm (row OpXor Word Register ModRm Absent Never) ∷  -- 33
    Bare (row OpXor Byte (Fixed 0) ImmByte Absent Never) ∷  -- 34
    Bare (row OpXor Word (Fixed 0) ImmWord Absent Never) ∷  -- 35
    Unused ∷  -- 36
    Bare (row OpAaa Word Absent Absent Absent Never) ∷  -- 37
    Modrm (row OpCmp Byte ModRm Register Absent Never) ∷  -- 38
    Modrm (row OpCmp Word ModRm Register Absent Never) ∷  -- 39
    Modrm (row OpCmp Byte Register ModRm Absent Never) ∷  -- 3A
    Modrm (row OpCmp Word Register ModRm Absent Never) ∷  -- 3B
    Bare (row OpCmp Byte (Fixed 0) ImmByte Absent Never) ∷  -- 3C
    Bare (row OpCmp Word (Fixed 0) ImmWord Absent Never) ∷  -- 3D
    Unused ∷  -- 3E
    Bare (row OpAas Word Absent Absent Absent Never) ∷  -- 3F
    Bare (row OpInc Word (Fixed 0) Absent Absent Never) ∷  -- 40
    Bare (row OpInc Word (Fixed 1) Absent Absent Never) ∷  -- 41
    Bare (row OpInc Word (Fixed 2) Absent Absent Never) ∷  -- 42
    Bare (row OpInc Word (Fixed 3) Absent Absent Never) ∷  -- 43
    Bare (row OpInc Word (Fixed 4) Absent Absent Never) ∷  -- 44
    Bare (row OpInc Word (Fixed 5) Absent Absent Never) ∷  -- 45
    Bare (row OpInc Word (Fixed 6) Absent Absent Never) ∷  -- 46
    Bare (row OpInc Word (Fixed 7) Absent Absent Never) ∷  -- 47
    Bare (row OpDec Word (Fixed 0) Absent Absent Never) ∷  -- 48
    Bare (row OpDec Word (Fixed 1) Absent Absent Never) ∷  -- 49
    Bare (row OpDec Word (Fixed 2) Absent Absent Never) ∷  -- 4A
    Bare (row OpDec Word (Fixed 3) Absent Absent Never) ∷  -- 4B
    Bare (row OpDec Word (Fixed 4) Absent Absent Never) ∷  -- 4C
    Bare (row OpDec Word (Fixed 5) Absent Absent Never) ∷  -- 4D
    Bare (row OpDec Word (Fixed 6) Absent Absent Never) ∷  -- 4E
    Bare (row OpDec Word (Fixed 7) Absent Absent Never) ∷  -- 4F
    Bare (row OpPush Word (Fixed 0) Absent Absent Never) ∷  -- 50
    Bare (row OpPush Word (Fixed 1) Absent Absent Never) ∷  -- 51
    Bare (row OpPush Word (Fixed 2) Absent Absent Never) ∷  -- 52
    Bare (row OpPush Word (Fixed 3) Absent Absent Never) ∷  -- 53
    Bare (row OpPush Word (Fixed 4) Absent Absent Never) ∷  -- 54
    Bare (row OpPush Word (Fixed 5) Absent Absent Never) ∷  -- 55
    Bare (row OpPush Word (Fixed 6) Absent Absent Never) ∷  -- 56
    Bare (row OpPush Word (Fixed 7) Absent Absent Never) ∷  -- 57
    Bare (row OpPop Word (Fixed 0) Absent Absent Never) ∷  -- 58
    Bare (row OpPop Word (Fixed 1) Absent Absent Never) ∷  -- 59
    Bare (row OpPop Word (Fixed 2) Absent Absent Never) ∷  -- 5A
    Bare (row OpPop Word (Fixed 3) Absent Absent Never) ∷  -- 5B
    Bare (row OpPop Word (Fixed 4) Absent Absent Never) ∷  -- 5C
    Bare (row OpPop Word (Fixed 5) Absent Absent Never) ∷  -- 5D
    Bare (row OpPop Word (Fixed 6) Absent Absent Never) ∷  -- 5E
    Bare (row OpPop Word (Fixed 7) Absent Absent Never) ∷  -- 5F
    Bare (row OpPusha Word Absent Absent Absent Never) ∷  -- 60
    Bare (row OpPopa Word Absent Absent Absent Never) ∷  -- 61
    Modrm (row OpBound Word Register Memory Absent Never) ∷  -- 62
    Modrm (row OpArpl Word ModRm Register Absent Never) ∷  -- 63
    Unused ∷  -- 64
    Unused ∷  -- 65
    Unused ∷  -- 66
    Unused ∷  -- 67
    Bare (row OpPush Word ImmWord Absent Absent Never) ∷  -- 68
    Modrm (row OpImulThree Word Register ModRm ImmWord Never) ∷  -- 69
    Bare (row OpPush Word ImmSigned Absent Absent Never) ∷  -- 6A
    Modrm (row OpImulThree Word Register ModRm ImmSigned Never) ∷  -- 6B
    Bare (row OpIns Byte Absent Absent Absent Always) ∷  -- 6C
    Bare (row OpIns Word Absent Absent Absent Always) ∷  -- 6D
    Bare (row OpOuts Byte Absent Source Absent Always) ∷  -- 6E
    Bare (row OpOuts Word Absent Source Absent Always) ∷  -- 6F
    Bare (row OpJo Word ImmSigned Absent Absent Never) ∷  -- 70
    Bare (row OpJno Word ImmSigned Absent Absent Never) ∷  -- 71
    Bare (row OpJb Word ImmSigned Absent Absent Never) ∷  -- 72
    Bare (row OpJae Word ImmSigned Absent Absent Never) ∷  -- 73
    Bare (row OpJe Word ImmSigned Absent Absent Never) ∷  -- 74
    Bare (row OpJne Word ImmSigned Absent Absent Never) ∷  -- 75
    Bare (row OpJbe Word ImmSigned Absent Absent Never) ∷  -- 76
    Bare (row OpJa Word ImmSigned Absent Absent Never) ∷  -- 77
    Bare (row OpJs Word ImmSigned Absent Absent Never) ∷  -- 78
    Bare (row OpJns Word ImmSigned Absent Absent Never) ∷  -- 79
    Bare (row OpJp Word ImmSigned Absent Absent Never) ∷  -- 7A
    Bare (row OpJnp Word ImmSigned Absent Absent Never) ∷  -- 7B
    Bare (row OpJl Word ImmSigned Absent Absent Never) ∷  -- 7C
    Bare (row OpJge Word ImmSigned Absent Absent Never) ∷  -- 7D
    Bare (row OpJle Word ImmSigned Absent Absent Never) ∷  -- 7E
    Bare (row OpJg Word ImmSigned Absent Absent Never) ∷  -- 7F
    Group 0 ∷  -- 80
    Group 1 ∷  -- 81
    Unused ∷  -- 82
    Group 2 ∷  -- 83
    Modrm (row OpTest Byte ModRm Register Absent Never) ∷  -- 84
    Modrm (row OpTest Word ModRm Register Absent Never) ∷  -- 85
    Modrm (row OpXchg Byte ModRm Register Absent Never) ∷  -- 86
    Modrm (row OpXchg Word ModRm Register Absent Never) ∷  -- 87
    Modrm (row OpMov Byte ModRm Register Absent Never) ∷  -- 88
    Modrm (row OpMov Word ModRm Register Absent Never) ∷  -- 89
    Modrm (row OpMov Byte Register ModRm Absent Never) ∷  -- 8A
    Modrm (row OpMov Word Register ModRm Absent Never) ∷  -- 8B
    Modrm (row OpMov Word ModRm Segment Absent Never) ∷  -- 8C
    Modrm (row OpLea Word Register Memory Absent Never) ∷  -- 8D
    Modrm (row OpMov Word SegmentNotCs ModRm Absent Never) ∷  -- 8E
    Group 3 ∷  -- 8F
    Bare (row OpXchg Word (Fixed 0) (Fixed 0) Absent Never) ∷  -- 90
    Bare (row OpXchg Word (Fixed 0) (Fixed 1) Absent Never) ∷  -- 91
    Bare (row OpXchg Word (Fixed 0) (Fixed 2) Absent Never) ∷  -- 92
    Bare (row OpXchg Word (Fixed 0) (Fixed 3) Absent Never) ∷  -- 93
    Bare (row OpXchg Word (Fixed 0) (Fixed 4) Absent Never) ∷  -- 94
    Bare (row OpXchg Word (Fixed 0) (Fixed 5) Absent Never) ∷  -- 95
    Bare (row OpXchg Word (Fixed 0) (Fixed 6) Absent Never) ∷  -- 96
    Bare (row OpXchg Word (Fixed 0) (Fixed 7) Absent Never) ∷  -- 97
    Bare (row OpCbw Word Absent Absent Absent Never) ∷  -- 98
    Bare (row OpCwd Word Absent Absent Absent Never) ∷  -- 99
    Bare (row OpCallFar Word FarImm Absent Absent Never) ∷  -- 9A
    Bare (row OpWait Word Absent Absent Absent Never) ∷  -- 9B
    Bare (row OpPushf Word Absent Absent Absent Never) ∷  -- 9C
    Bare (row OpPopf Word Absent Absent Absent Never) ∷  -- 9D
    Bare (row OpSahf Word Absent Absent Absent Never) ∷  -- 9E
    Bare (row OpLahf Word Absent Absent Absent Never) ∷  -- 9F
    Bare (row OpMov Byte (Fixed 0) Offset Absent Never) ∷  -- A0
    Bare (row OpMov Word (Fixed 0) Offset Absent Never) ∷  -- A1
    Bare (row OpMov Byte Offset (Fixed 0) Absent Never) ∷  -- A2
    Bare (row OpMov Word Offset (Fixed 0) Absent Never) ∷  -- A3
    Bare (row OpMovs Byte Absent Source Absent Always) ∷  -- A4
    Bare (row OpMovs Word Absent Source Absent Always) ∷  -- A5
    Bare (row OpCmps Byte Source Absent Absent WhileZero) ∷  -- A6
    Bare (row OpCmps Word Source Absent Absent WhileZero) ∷  -- A7
    Bare (row OpTest Byte (Fixed 0) ImmByte Absent Never) ∷  -- A8
    Bare (row OpTest Word (Fixed 0) ImmWord Absent Never) ∷  -- A9
    Bare (row OpStos Byte Absent Absent Absent Always) ∷  -- AA
    Bare (row OpStos Word Absent Absent Absent Always) ∷  -- AB
    Bare (row OpLods Byte Absent Source Absent Always) ∷  -- AC
    Bare (row OpLods Word Absent Source Absent Always) ∷  -- AD
    Bare (row OpScas Byte Absent Absent Absent WhileZero) ∷  -- AE
    Bare (row OpScas Word Absent Absent Absent WhileZero) ∷  -- AF
    Bare (row OpMov Byte (Fixed 0) ImmByte Absent Never) ∷  -- B0
    Bare (row OpMov Byte (Fixed 1) ImmByte Absent Never) ∷  -- B1
    Bare (row OpMov Byte (Fixed 2) ImmByte Absent Never) ∷  -- B2
    Bare (row OpMov Byte (Fixed 3) ImmByte Absent Never) ∷  -- B3
    Bare (row OpMov Byte (Fixed 4) ImmByte Absent Never) ∷  -- B4
    Bare (row OpMov Byte (Fixed 5) ImmByte Absent Never) ∷  -- B5
    Bare (row OpMov Byte (Fixed 6) ImmByte Absent Never) ∷  -- B6
    Bare (row OpMov Byte (Fixed 7) ImmByte Absent Never) ∷  -- B7
    Bare (row OpMov Word (Fixed 0) ImmWord Absent Never) ∷  -- B8
    Bare (row OpMov Word (Fixed 1) ImmWord Absent Never) ∷  -- B9
    Bare (row OpMov Word (Fixed 2) ImmWord Absent Never) ∷  -- BA
    Bare (row OpMov Word (Fixed 3) ImmWord Absent Never) ∷  -- BB
    Bare (row OpMov Word (Fixed 4) ImmWord Absent Never) ∷  -- BC
    Bare (row OpMov Word (Fixed 5) ImmWord Absent Never) ∷  -- BD
    Bare (row OpMov Word (Fixed 6) ImmWord Absent Never) ∷  -- BE
    Bare (row OpMov Word (Fixed 7) ImmWord Absent Never) ∷  -- BF
    Group 4 ∷  -- C0
    Group 5 ∷  -- C1
    Bare (row OpRet Word ImmWord Absent Absent Never) ∷  -- C2
    Bare (row OpRet Word (Constant 0) Absent Absent Never) ∷  -- C3
    Modrm (row OpLes Word Register Memory Absent Never) ∷  -- C4
    Modrm (row OpLds Word Register Memory Absent Never) ∷  -- C5
    Group 10 ∷  -- C6
    Group 11 ∷  -- C7
    Bare (row OpEnter Word ImmWord ImmByte Absent Never) ∷  -- C8
    Bare (row OpLeave Word Absent Absent Absent Never) ∷  -- C9
    Bare (row OpRetf Word ImmWord Absent Absent Never) ∷  -- CA
    Bare (row OpRetf Word (Constant 0) Absent Absent Never) ∷  -- CB
    Bare (row OpIntThree Word Absent Absent Absent Never) ∷  -- CC
    Bare (row OpInt Word ImmByte Absent Absent Never) ∷  -- CD
    Bare (row OpInto Word Absent Absent Absent Never) ∷  -- CE
    Bare (row OpIret Word Absent Absent Absent Never) ∷  -- CF
    Group 6 ∷  -- D0
    Group 7 ∷  -- D1
    Group 8 ∷  -- D2
    Group 9 ∷  -- D3
    Bare (row OpAam Word ImmByte Absent Absent Never) ∷  -- D4
    Bare (row OpAad Word ImmByte Absent Absent Never) ∷  -- D5
    Unused ∷  -- D6
    Bare (row OpXlat Byte Absent Source Absent Never) ∷  -- D7
    Modrm (row OpEsc Word ModRm Absent Absent Never) ∷  -- D8
    Modrm (row OpEsc Word ModRm Absent Absent Never) ∷  -- D9
    Modrm (row OpEsc Word ModRm Absent Absent Never) ∷  -- DA
    Modrm (row OpEsc Word ModRm Absent Absent Never) ∷  -- DB
    Modrm (row OpEsc Word ModRm Absent Absent Never) ∷  -- DC
    Modrm (row OpEsc Word ModRm Absent Absent Never) ∷  -- DD
    Modrm (row OpEsc Word ModRm Absent Absent Never) ∷  -- DE
    Modrm (row OpEsc Word ModRm Absent Absent Never) ∷  -- DF
    Bare (row OpLoopne Word ImmSigned Absent Absent Never) ∷  -- E0
    Bare (row OpLoope Word ImmSigned Absent Absent Never) ∷  -- E1
    Bare (row OpLoop Word ImmSigned Absent Absent Never) ∷  -- E2
    Bare (row OpJcxz Word ImmSigned Absent Absent Never) ∷  -- E3
    Bare (row OpIn Byte (Fixed 0) ImmByte Absent Never) ∷  -- E4
    Bare (row OpIn Word (Fixed 0) ImmByte Absent Never) ∷  -- E5
    Bare (row OpOut Byte ImmByte (Fixed 0) Absent Never) ∷  -- E6
    Bare (row OpOut Word ImmByte (Fixed 0) Absent Never) ∷  -- E7
    Bare (row OpCall Word ImmWord Absent Absent Never) ∷  -- E8
    Bare (row OpJmp Word ImmWord Absent Absent Never) ∷  -- E9
    Bare (row OpJmpFar Word FarImm Absent Absent Never) ∷  -- EA
    Bare (row OpJmp Word ImmSigned Absent Absent Never) ∷  -- EB
    Bare (row OpIn Byte (Fixed 0) (FixedWord 2) Absent Never) ∷  -- EC
    Bare (row OpIn Word (Fixed 0) (FixedWord 2) Absent Never) ∷  -- ED
    Bare (row OpOut Byte (FixedWord 2) (Fixed 0) Absent Never) ∷  -- EE
    Bare (row OpOut Word (FixedWord 2) (Fixed 0) Absent Never) ∷  -- EF
    Unused ∷  -- F0
    Unused ∷  -- F1
    Unused ∷  -- F2
    Unused ∷  -- F3
    Bare (row OpHlt Word Absent Absent Absent Never) ∷  -- F4
    Bare (row OpCmc Word Absent Absent Absent Never) ∷  -- F5
    Group 12 ∷  -- F6
    Group 13 ∷  -- F7
    Bare (row OpClc Word Absent Absent Absent Never) ∷  -- F8
    Bare (row OpStc Word Absent Absent Absent Never) ∷  -- F9
    Bare (row OpCli Word Absent Absent Absent Never) ∷  -- FA
    Bare (row OpSti Word Absent Absent Absent Never) ∷  -- FB
    Bare (row OpCld Word Absent Absent Absent Never) ∷  -- FC
    Bare (row OpStd Word Absent Absent Absent Never) ∷  -- FD
    Group 14 ∷  -- FE
    Group 15 ∷  -- FF
    []

-- the second bytes of the opcodes that begin with 0F; those behind the last are no instructions
unfoldable pub table_0f : List Entry
table_0f =
    Group 16 ∷  -- 0F 00
    Group 17 ∷  -- 0F 01
    Modrm (row OpLar Word Register ModRm Absent Never) ∷  -- 0F 02
    Modrm (row OpLsl Word Register ModRm Absent Never) ∷  -- 0F 03
    Unused ∷  -- 0F 04
    Unused ∷  -- 0F 05
    Bare (row OpClts Word Absent Absent Absent Never) ∷  -- 0F 06
    []

-- eight mnemonics that take the same operands
abbrev sums : (Op → Row) → List (Option Row)
sums f = Some (f OpAdd) ∷ Some (f OpOr) ∷ Some (f OpAdc) ∷ Some (f OpSbb) ∷ Some (f OpAnd) ∷ Some (f OpSub) ∷ Some (f OpXor) ∷ Some (f OpCmp) ∷ []

-- seven, of which the sixth has no number
abbrev shifts : (Op → Row) → List (Option Row)
shifts f = Some (f OpRol) ∷ Some (f OpRor) ∷ Some (f OpRcl) ∷ Some (f OpRcr) ∷ Some (f OpShl) ∷ Some (f OpShr) ∷ None ∷ Some (f OpSar) ∷ []

-- TEST with its immediate operand, and the mnemonics of one operand
abbrev units : Row → (Op → Row) → List (Option Row)
units test f = Some test ∷ None ∷ Some (f OpNot) ∷ Some (f OpNeg) ∷ Some (f OpMul) ∷ Some (f OpImul) ∷ Some (f OpDiv) ∷ Some (f OpIdiv) ∷ []

abbrev only : Row → List (Option Row)
only r = Some r ∷ None ∷ None ∷ None ∷ None ∷ None ∷ None ∷ None ∷ []

-- FE
abbrev incs : List (Option Row)
incs =
    Some (row OpInc Byte ModRm Absent Absent Never) ∷  -- /0
    Some (row OpDec Byte ModRm Absent Absent Never) ∷  -- /1
    None ∷ None ∷ None ∷ None ∷ None ∷ None ∷ []

-- FF
abbrev transfers : List (Option Row)
transfers =
    Some (row OpInc Word ModRm Absent Absent Never) ∷  -- /0
    Some (row OpDec Word ModRm Absent Absent Never) ∷  -- /1
    Some (row OpCallAt Word ModRm Absent Absent Never) ∷  -- /2
    Some (row OpCallFarAt Word Memory Absent Absent Never) ∷  -- /3
    Some (row OpJmpAt Word ModRm Absent Absent Never) ∷  -- /4
    Some (row OpJmpFarAt Word Memory Absent Absent Never) ∷  -- /5
    Some (row OpPush Word ModRm Absent Absent Never) ∷  -- /6
    None ∷  -- /7
    []

-- 0F 00
abbrev tables : List (Option Row)
tables =
    Some (row OpSldt Word ModRm Absent Absent Never) ∷  -- /0
    Some (row OpStr Word ModRm Absent Absent Never) ∷  -- /1
    Some (row OpLldt Word ModRm Absent Absent Never) ∷  -- /2
    Some (row OpLtr Word ModRm Absent Absent Never) ∷  -- /3
    Some (row OpVerr Word ModRm Absent Absent Never) ∷  -- /4
    Some (row OpVerw Word ModRm Absent Absent Never) ∷  -- /5
    None ∷ None ∷ []

-- 0F 01
abbrev registers : List (Option Row)
registers =
    Some (row OpSgdt Word Memory Absent Absent Never) ∷  -- /0
    Some (row OpSidt Word Memory Absent Absent Never) ∷  -- /1
    Some (row OpLgdt Word Memory Absent Absent Never) ∷  -- /2
    Some (row OpLidt Word Memory Absent Absent Never) ∷  -- /3
    Some (row OpSmsw Word ModRm Absent Absent Never) ∷  -- /4
    None ∷  -- /5
    Some (row OpLmsw Word ModRm Absent Absent Never) ∷  -- /6
    None ∷  -- /7
    []

-- The groups by number, each with its rows by reg of the ModRM byte, from /0 to /7.
unfoldable pub groups : List (List (Option Row))
groups =
    sums (λ op. row op Byte ModRm ImmByte Absent Never) ∷  -- 0: 80
    sums (λ op. row op Word ModRm ImmWord Absent Never) ∷  -- 1: 81
    sums (λ op. row op Word ModRm ImmSigned Absent Never) ∷  -- 2: 83
    only (row OpPop Word ModRm Absent Absent Never) ∷  -- 3: 8F
    shifts (λ op. row op Byte ModRm ImmByte Absent Never) ∷  -- 4: C0
    shifts (λ op. row op Word ModRm ImmByte Absent Never) ∷  -- 5: C1
    shifts (λ op. row op Byte ModRm (Constant 1) Absent Never) ∷  -- 6: D0
    shifts (λ op. row op Word ModRm (Constant 1) Absent Never) ∷  -- 7: D1
    shifts (λ op. row op Byte ModRm (FixedByte 1) Absent Never) ∷  -- 8: D2
    shifts (λ op. row op Word ModRm (FixedByte 1) Absent Never) ∷  -- 9: D3
    only (row OpMov Byte ModRm ImmByte Absent Never) ∷  -- 10: C6
    only (row OpMov Word ModRm ImmWord Absent Never) ∷  -- 11: C7
    units (row OpTest Byte ModRm ImmByte Absent Never) (λ op. row op Byte ModRm Absent Absent Never) ∷  -- 12: F6
    units (row OpTest Word ModRm ImmWord Absent Never) (λ op. row op Word ModRm Absent Absent Never) ∷  -- 13: F7
    incs ∷  -- 14: FE
    transfers ∷  -- 15: FF
    tables ∷  -- 16: 0F 00
    registers ∷  -- 17: 0F 01
    []
