-- What holds of each mnemonic: its text has no blank, is no prefix, and tells the mnemonic, where several of one text count as one.
use Rattle.std.proofs.Common.{◌≡◌, refl, ℕ, Bool, true, false, cond, eqb, ◌&&◌, List, [], ◌∷◌, ◌++◌}
use Rattle.o2_isa.specs.declared.instr.Op.{Op}
use Rattle.o2_isa.specs.declared.instr.Op.TheVariants.{OpAdd, OpOr, OpAdc, OpSbb, OpAnd, OpSub, OpXor, OpCmp, OpPush, OpPop, OpDaa, OpDas, OpAaa, OpAas, OpInc, OpDec}
use Rattle.o2_isa.specs.declared.instr.Op.TheVariants.{OpPusha, OpPopa, OpBound, OpArpl, OpImulThree, OpIns, OpOuts, OpJo, OpJno, OpJb, OpJae, OpJe, OpJne, OpJbe, OpJa}
use Rattle.o2_isa.specs.declared.instr.Op.TheVariants.{OpJs, OpJns, OpJp, OpJnp, OpJl, OpJge, OpJle, OpJg, OpTest, OpXchg, OpMov, OpLea, OpCbw, OpCwd, OpCallFar, OpWait}
use Rattle.o2_isa.specs.declared.instr.Op.TheVariants.{OpPushf, OpPopf, OpSahf, OpLahf, OpMovs, OpCmps, OpStos, OpLods, OpScas, OpRol, OpRor, OpRcl, OpRcr, OpShl, OpShr}
use Rattle.o2_isa.specs.declared.instr.Op.TheVariants.{OpSar, OpRet, OpRetf, OpIret, OpLes, OpLds, OpEnter, OpLeave, OpIntThree, OpInt, OpInto, OpAam, OpAad, OpXlat}
use Rattle.o2_isa.specs.declared.instr.Op.TheVariants.{OpEsc, OpLoopne, OpLoope, OpLoop, OpJcxz, OpIn, OpOut, OpCall, OpJmp, OpJmpFar, OpHlt, OpCmc, OpClc, OpStc, OpCli}
use Rattle.o2_isa.specs.declared.instr.Op.TheVariants.{OpSti, OpCld, OpStd, OpNot, OpNeg, OpMul, OpImul, OpDiv, OpIdiv, OpCallAt, OpCallFarAt, OpJmpAt, OpJmpFarAt}
use Rattle.o2_isa.specs.declared.instr.Op.TheVariants.{OpSldt, OpStr, OpLldt, OpLtr, OpVerr, OpVerw, OpSgdt, OpSidt, OpLgdt, OpLidt, OpSmsw, OpLmsw, OpLar, OpLsl, OpClts}
use Rattle.o2_isa.specs.declared.instr.Width.{Width}
use Rattle.o2_isa.specs.declared.instr.Width.TheVariants.{Byte, Word}
use Rattle.o2_isa.specs.Canonical.{is_string}
use Rattle.o2_text.specs.Names.{name}
use Rattle.o2_text.specs.Text.{suffix}
use Rattle.o2_text.proofs.Splits.{lacks}

abbrev pub same_list : List ℕ → List ℕ → Bool
same_list [] [] = true
same_list [] (y ∷ ys) = false
same_list (x ∷ xs) [] = false
same_list (x ∷ xs) (y ∷ ys) = eqb x y && same_list xs ys

-- the mnemonic with its letter
abbrev pub full : Op → Width → List ℕ
full op w = name op ++ suffix (is_string op) w

-- CALL, JMP and IMUL stand for all their forms
abbrev pub family : Op → Op
family OpCallFar = OpCall
family OpCallAt = OpCall
family OpCallFarAt = OpCall
family OpJmpFar = OpJmp
family OpJmpAt = OpJmp
family OpJmpFarAt = OpJmp
family OpImulThree = OpImul
family OpAdd = OpAdd
family OpOr = OpOr
family OpAdc = OpAdc
family OpSbb = OpSbb
family OpAnd = OpAnd
family OpSub = OpSub
family OpXor = OpXor
family OpCmp = OpCmp
family OpPush = OpPush
family OpPop = OpPop
family OpDaa = OpDaa
family OpDas = OpDas
family OpAaa = OpAaa
family OpAas = OpAas
family OpInc = OpInc
family OpDec = OpDec
family OpPusha = OpPusha
family OpPopa = OpPopa
family OpBound = OpBound
family OpArpl = OpArpl
family OpIns = OpIns
family OpOuts = OpOuts
family OpJo = OpJo
family OpJno = OpJno
family OpJb = OpJb
family OpJae = OpJae
family OpJe = OpJe
family OpJne = OpJne
family OpJbe = OpJbe
family OpJa = OpJa
family OpJs = OpJs
family OpJns = OpJns
family OpJp = OpJp
family OpJnp = OpJnp
family OpJl = OpJl
family OpJge = OpJge
family OpJle = OpJle
family OpJg = OpJg
family OpTest = OpTest
family OpXchg = OpXchg
family OpMov = OpMov
family OpLea = OpLea
family OpCbw = OpCbw
family OpCwd = OpCwd
family OpWait = OpWait
family OpPushf = OpPushf
family OpPopf = OpPopf
family OpSahf = OpSahf
family OpLahf = OpLahf
family OpMovs = OpMovs
family OpCmps = OpCmps
family OpStos = OpStos
family OpLods = OpLods
family OpScas = OpScas
family OpRol = OpRol
family OpRor = OpRor
family OpRcl = OpRcl
family OpRcr = OpRcr
family OpShl = OpShl
family OpShr = OpShr
family OpSar = OpSar
family OpRet = OpRet
family OpRetf = OpRetf
family OpIret = OpIret
family OpLes = OpLes
family OpLds = OpLds
family OpEnter = OpEnter
family OpLeave = OpLeave
family OpIntThree = OpIntThree
family OpInt = OpInt
family OpInto = OpInto
family OpAam = OpAam
family OpAad = OpAad
family OpXlat = OpXlat
family OpEsc = OpEsc
family OpLoopne = OpLoopne
family OpLoope = OpLoope
family OpLoop = OpLoop
family OpJcxz = OpJcxz
family OpIn = OpIn
family OpOut = OpOut
family OpCall = OpCall
family OpJmp = OpJmp
family OpHlt = OpHlt
family OpCmc = OpCmc
family OpClc = OpClc
family OpStc = OpStc
family OpCli = OpCli
family OpSti = OpSti
family OpCld = OpCld
family OpStd = OpStd
family OpNot = OpNot
family OpNeg = OpNeg
family OpMul = OpMul
family OpImul = OpImul
family OpDiv = OpDiv
family OpIdiv = OpIdiv
family OpSldt = OpSldt
family OpStr = OpStr
family OpLldt = OpLldt
family OpLtr = OpLtr
family OpVerr = OpVerr
family OpVerw = OpVerw
family OpSgdt = OpSgdt
family OpSidt = OpSidt
family OpLgdt = OpLgdt
family OpLidt = OpLidt
family OpSmsw = OpSmsw
family OpLmsw = OpLmsw
family OpLar = OpLar
family OpLsl = OpLsl
family OpClts = OpClts

abbrev every : List Op
every =
    OpAdd ∷ OpOr ∷ OpAdc ∷ OpSbb ∷ OpAnd ∷ OpSub ∷ OpXor ∷ OpCmp ∷ OpPush ∷ OpPop ∷ OpDaa ∷ OpDas ∷ OpAaa ∷
    OpAas ∷ OpInc ∷ OpDec ∷ OpPusha ∷ OpPopa ∷ OpBound ∷ OpArpl ∷ OpIns ∷ OpOuts ∷ OpJo ∷ OpJno ∷ OpJb ∷
    OpJae ∷ OpJe ∷ OpJne ∷ OpJbe ∷ OpJa ∷ OpJs ∷ OpJns ∷ OpJp ∷ OpJnp ∷ OpJl ∷ OpJge ∷ OpJle ∷ OpJg ∷ OpTest ∷
    OpXchg ∷ OpMov ∷ OpLea ∷ OpCbw ∷ OpCwd ∷ OpWait ∷ OpPushf ∷ OpPopf ∷ OpSahf ∷ OpLahf ∷ OpMovs ∷ OpCmps ∷
    OpStos ∷ OpLods ∷ OpScas ∷ OpRol ∷ OpRor ∷ OpRcl ∷ OpRcr ∷ OpShl ∷ OpShr ∷ OpSar ∷ OpRet ∷ OpRetf ∷
    OpIret ∷ OpLes ∷ OpLds ∷ OpEnter ∷ OpLeave ∷ OpIntThree ∷ OpInt ∷ OpInto ∷ OpAam ∷ OpAad ∷ OpXlat ∷
    OpEsc ∷ OpLoopne ∷ OpLoope ∷ OpLoop ∷ OpJcxz ∷ OpIn ∷ OpOut ∷ OpCall ∷ OpJmp ∷ OpHlt ∷ OpCmc ∷ OpClc ∷
    OpStc ∷ OpCli ∷ OpSti ∷ OpCld ∷ OpStd ∷ OpNot ∷ OpNeg ∷ OpMul ∷ OpImul ∷ OpDiv ∷ OpIdiv ∷ OpSldt ∷ OpStr ∷
    OpLldt ∷ OpLtr ∷ OpVerr ∷ OpVerw ∷ OpSgdt ∷ OpSidt ∷ OpLgdt ∷ OpLidt ∷ OpSmsw ∷ OpLmsw ∷ OpLar ∷ OpLsl ∷
    OpClts ∷ []

abbrev strings : List Op
strings = OpIns ∷ OpOuts ∷ OpMovs ∷ OpCmps ∷ OpStos ∷ OpLods ∷ OpScas ∷ []

abbrev find_op : List Op → List ℕ → Width → Op → Op
find_op [] t w other = other
find_op (op ∷ ops) t w other = cond (same_list (full op w) t) op (find_op ops t w other)

-- the mnemonic of a text
abbrev pub op_read : List ℕ → Op
op_read t = find_op every t Word (find_op strings t Byte OpAdd)

-- which prefix a word is, from 1; 0 for any other word
abbrev pub prefix_number : List ℕ → ℕ
prefix_number t =
    cond (same_list t (108 ∷ 111 ∷ 99 ∷ 107 ∷ [])) 1
    (cond (same_list t (114 ∷ 101 ∷ 112 ∷ [])) 2
    (cond (same_list t (114 ∷ 101 ∷ 112 ∷ 101 ∷ [])) 3
    (cond (same_list t (114 ∷ 101 ∷ 112 ∷ 110 ∷ 101 ∷ [])) 4
    (cond (same_list t (101 ∷ 115 ∷ [])) 5
    (cond (same_list t (99 ∷ 115 ∷ [])) 6
    (cond (same_list t (115 ∷ 115 ∷ [])) 7 0))))))

pub record IsPlain (op : Op) (w : Width) : Type 0 where
  pub blank : lacks 32 (full op w) ≡ true
  pub prefix : prefix_number (full op w) ≡ 0
  pub known : op_read (full op w) ≡ family op

pub plain : (op : Op) (w : Width) → IsPlain op w
plain OpAdd w = record { blank = refl; prefix = refl; known = refl }
plain OpOr w = record { blank = refl; prefix = refl; known = refl }
plain OpAdc w = record { blank = refl; prefix = refl; known = refl }
plain OpSbb w = record { blank = refl; prefix = refl; known = refl }
plain OpAnd w = record { blank = refl; prefix = refl; known = refl }
plain OpSub w = record { blank = refl; prefix = refl; known = refl }
plain OpXor w = record { blank = refl; prefix = refl; known = refl }
plain OpCmp w = record { blank = refl; prefix = refl; known = refl }
plain OpPush w = record { blank = refl; prefix = refl; known = refl }
plain OpPop w = record { blank = refl; prefix = refl; known = refl }
plain OpDaa w = record { blank = refl; prefix = refl; known = refl }
plain OpDas w = record { blank = refl; prefix = refl; known = refl }
plain OpAaa w = record { blank = refl; prefix = refl; known = refl }
plain OpAas w = record { blank = refl; prefix = refl; known = refl }
plain OpInc w = record { blank = refl; prefix = refl; known = refl }
plain OpDec w = record { blank = refl; prefix = refl; known = refl }
plain OpPusha w = record { blank = refl; prefix = refl; known = refl }
plain OpPopa w = record { blank = refl; prefix = refl; known = refl }
plain OpBound w = record { blank = refl; prefix = refl; known = refl }
plain OpArpl w = record { blank = refl; prefix = refl; known = refl }
plain OpImulThree w = record { blank = refl; prefix = refl; known = refl }
plain OpIns Byte = record { blank = refl; prefix = refl; known = refl }
plain OpIns Word = record { blank = refl; prefix = refl; known = refl }
plain OpOuts Byte = record { blank = refl; prefix = refl; known = refl }
plain OpOuts Word = record { blank = refl; prefix = refl; known = refl }
plain OpJo w = record { blank = refl; prefix = refl; known = refl }
plain OpJno w = record { blank = refl; prefix = refl; known = refl }
plain OpJb w = record { blank = refl; prefix = refl; known = refl }
plain OpJae w = record { blank = refl; prefix = refl; known = refl }
plain OpJe w = record { blank = refl; prefix = refl; known = refl }
plain OpJne w = record { blank = refl; prefix = refl; known = refl }
plain OpJbe w = record { blank = refl; prefix = refl; known = refl }
plain OpJa w = record { blank = refl; prefix = refl; known = refl }
plain OpJs w = record { blank = refl; prefix = refl; known = refl }
plain OpJns w = record { blank = refl; prefix = refl; known = refl }
plain OpJp w = record { blank = refl; prefix = refl; known = refl }
plain OpJnp w = record { blank = refl; prefix = refl; known = refl }
plain OpJl w = record { blank = refl; prefix = refl; known = refl }
plain OpJge w = record { blank = refl; prefix = refl; known = refl }
plain OpJle w = record { blank = refl; prefix = refl; known = refl }
plain OpJg w = record { blank = refl; prefix = refl; known = refl }
plain OpTest w = record { blank = refl; prefix = refl; known = refl }
plain OpXchg w = record { blank = refl; prefix = refl; known = refl }
plain OpMov w = record { blank = refl; prefix = refl; known = refl }
plain OpLea w = record { blank = refl; prefix = refl; known = refl }
plain OpCbw w = record { blank = refl; prefix = refl; known = refl }
plain OpCwd w = record { blank = refl; prefix = refl; known = refl }
plain OpCallFar w = record { blank = refl; prefix = refl; known = refl }
plain OpWait w = record { blank = refl; prefix = refl; known = refl }
plain OpPushf w = record { blank = refl; prefix = refl; known = refl }
plain OpPopf w = record { blank = refl; prefix = refl; known = refl }
plain OpSahf w = record { blank = refl; prefix = refl; known = refl }
plain OpLahf w = record { blank = refl; prefix = refl; known = refl }
plain OpMovs Byte = record { blank = refl; prefix = refl; known = refl }
plain OpMovs Word = record { blank = refl; prefix = refl; known = refl }
plain OpCmps Byte = record { blank = refl; prefix = refl; known = refl }
plain OpCmps Word = record { blank = refl; prefix = refl; known = refl }
plain OpStos Byte = record { blank = refl; prefix = refl; known = refl }
plain OpStos Word = record { blank = refl; prefix = refl; known = refl }
plain OpLods Byte = record { blank = refl; prefix = refl; known = refl }
plain OpLods Word = record { blank = refl; prefix = refl; known = refl }
plain OpScas Byte = record { blank = refl; prefix = refl; known = refl }
plain OpScas Word = record { blank = refl; prefix = refl; known = refl }
plain OpRol w = record { blank = refl; prefix = refl; known = refl }
plain OpRor w = record { blank = refl; prefix = refl; known = refl }
plain OpRcl w = record { blank = refl; prefix = refl; known = refl }
plain OpRcr w = record { blank = refl; prefix = refl; known = refl }
plain OpShl w = record { blank = refl; prefix = refl; known = refl }
plain OpShr w = record { blank = refl; prefix = refl; known = refl }
plain OpSar w = record { blank = refl; prefix = refl; known = refl }
plain OpRet w = record { blank = refl; prefix = refl; known = refl }
plain OpRetf w = record { blank = refl; prefix = refl; known = refl }
plain OpIret w = record { blank = refl; prefix = refl; known = refl }
plain OpLes w = record { blank = refl; prefix = refl; known = refl }
plain OpLds w = record { blank = refl; prefix = refl; known = refl }
plain OpEnter w = record { blank = refl; prefix = refl; known = refl }
plain OpLeave w = record { blank = refl; prefix = refl; known = refl }
plain OpIntThree w = record { blank = refl; prefix = refl; known = refl }
plain OpInt w = record { blank = refl; prefix = refl; known = refl }
plain OpInto w = record { blank = refl; prefix = refl; known = refl }
plain OpAam w = record { blank = refl; prefix = refl; known = refl }
plain OpAad w = record { blank = refl; prefix = refl; known = refl }
plain OpXlat w = record { blank = refl; prefix = refl; known = refl }
plain OpEsc w = record { blank = refl; prefix = refl; known = refl }
plain OpLoopne w = record { blank = refl; prefix = refl; known = refl }
plain OpLoope w = record { blank = refl; prefix = refl; known = refl }
plain OpLoop w = record { blank = refl; prefix = refl; known = refl }
plain OpJcxz w = record { blank = refl; prefix = refl; known = refl }
plain OpIn w = record { blank = refl; prefix = refl; known = refl }
plain OpOut w = record { blank = refl; prefix = refl; known = refl }
plain OpCall w = record { blank = refl; prefix = refl; known = refl }
plain OpJmp w = record { blank = refl; prefix = refl; known = refl }
plain OpJmpFar w = record { blank = refl; prefix = refl; known = refl }
plain OpHlt w = record { blank = refl; prefix = refl; known = refl }
plain OpCmc w = record { blank = refl; prefix = refl; known = refl }
plain OpClc w = record { blank = refl; prefix = refl; known = refl }
plain OpStc w = record { blank = refl; prefix = refl; known = refl }
plain OpCli w = record { blank = refl; prefix = refl; known = refl }
plain OpSti w = record { blank = refl; prefix = refl; known = refl }
plain OpCld w = record { blank = refl; prefix = refl; known = refl }
plain OpStd w = record { blank = refl; prefix = refl; known = refl }
plain OpNot w = record { blank = refl; prefix = refl; known = refl }
plain OpNeg w = record { blank = refl; prefix = refl; known = refl }
plain OpMul w = record { blank = refl; prefix = refl; known = refl }
plain OpImul w = record { blank = refl; prefix = refl; known = refl }
plain OpDiv w = record { blank = refl; prefix = refl; known = refl }
plain OpIdiv w = record { blank = refl; prefix = refl; known = refl }
plain OpCallAt w = record { blank = refl; prefix = refl; known = refl }
plain OpCallFarAt w = record { blank = refl; prefix = refl; known = refl }
plain OpJmpAt w = record { blank = refl; prefix = refl; known = refl }
plain OpJmpFarAt w = record { blank = refl; prefix = refl; known = refl }
plain OpSldt w = record { blank = refl; prefix = refl; known = refl }
plain OpStr w = record { blank = refl; prefix = refl; known = refl }
plain OpLldt w = record { blank = refl; prefix = refl; known = refl }
plain OpLtr w = record { blank = refl; prefix = refl; known = refl }
plain OpVerr w = record { blank = refl; prefix = refl; known = refl }
plain OpVerw w = record { blank = refl; prefix = refl; known = refl }
plain OpSgdt w = record { blank = refl; prefix = refl; known = refl }
plain OpSidt w = record { blank = refl; prefix = refl; known = refl }
plain OpLgdt w = record { blank = refl; prefix = refl; known = refl }
plain OpLidt w = record { blank = refl; prefix = refl; known = refl }
plain OpSmsw w = record { blank = refl; prefix = refl; known = refl }
plain OpLmsw w = record { blank = refl; prefix = refl; known = refl }
plain OpLar w = record { blank = refl; prefix = refl; known = refl }
plain OpLsl w = record { blank = refl; prefix = refl; known = refl }
plain OpClts w = record { blank = refl; prefix = refl; known = refl }
