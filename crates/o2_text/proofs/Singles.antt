-- A mnemonic whose text is its own is the only one of its family.
use Rattle.std.proofs.Common.{◌≡◌, refl, ℕ, Bool, true, false}
use Rattle.o2_isa.specs.declared.instr.Op.{Op}
use Rattle.o2_isa.specs.declared.instr.Op.TheVariants.{OpAdd, OpOr, OpAdc, OpSbb, OpAnd, OpSub, OpXor, OpCmp, OpPush, OpPop, OpDaa, OpDas, OpAaa, OpAas, OpInc, OpDec}
use Rattle.o2_isa.specs.declared.instr.Op.TheVariants.{OpPusha, OpPopa, OpBound, OpArpl, OpImulThree, OpIns, OpOuts, OpJo, OpJno, OpJb, OpJae, OpJe, OpJne, OpJbe, OpJa}
use Rattle.o2_isa.specs.declared.instr.Op.TheVariants.{OpJs, OpJns, OpJp, OpJnp, OpJl, OpJge, OpJle, OpJg, OpTest, OpXchg, OpMov, OpLea, OpCbw, OpCwd, OpCallFar, OpWait}
use Rattle.o2_isa.specs.declared.instr.Op.TheVariants.{OpPushf, OpPopf, OpSahf, OpLahf, OpMovs, OpCmps, OpStos, OpLods, OpScas, OpRol, OpRor, OpRcl, OpRcr, OpShl, OpShr}
use Rattle.o2_isa.specs.declared.instr.Op.TheVariants.{OpSar, OpRet, OpRetf, OpIret, OpLes, OpLds, OpEnter, OpLeave, OpIntThree, OpInt, OpInto, OpAam, OpAad, OpXlat}
use Rattle.o2_isa.specs.declared.instr.Op.TheVariants.{OpEsc, OpLoopne, OpLoope, OpLoop, OpJcxz, OpIn, OpOut, OpCall, OpJmp, OpJmpFar, OpHlt, OpCmc, OpClc, OpStc, OpCli}
use Rattle.o2_isa.specs.declared.instr.Op.TheVariants.{OpSti, OpCld, OpStd, OpNot, OpNeg, OpMul, OpImul, OpDiv, OpIdiv, OpCallAt, OpCallFarAt, OpJmpAt, OpJmpFarAt}
use Rattle.o2_isa.specs.declared.instr.Op.TheVariants.{OpSldt, OpStr, OpLldt, OpLtr, OpVerr, OpVerw, OpSgdt, OpSidt, OpLgdt, OpLidt, OpSmsw, OpLmsw, OpLar, OpLsl, OpClts}
use Rattle.o2_text.proofs.Facts.{family}
use Rattle.o2_text.proofs.Law.{member}

abbrev pub is_single : Op → Bool
is_single OpCall = false
is_single OpCallFar = false
is_single OpCallAt = false
is_single OpCallFarAt = false
is_single OpJmp = false
is_single OpJmpFar = false
is_single OpJmpAt = false
is_single OpJmpFarAt = false
is_single OpImul = false
is_single OpImulThree = false
is_single _ = true

pub single : (op : Op) → is_single op ≡ true → (k : ℕ) (f : Bool) (t : ℕ) → member (family op) k f t ≡ op
single OpAdd h k f t = refl
single OpOr h k f t = refl
single OpAdc h k f t = refl
single OpSbb h k f t = refl
single OpAnd h k f t = refl
single OpSub h k f t = refl
single OpXor h k f t = refl
single OpCmp h k f t = refl
single OpPush h k f t = refl
single OpPop h k f t = refl
single OpDaa h k f t = refl
single OpDas h k f t = refl
single OpAaa h k f t = refl
single OpAas h k f t = refl
single OpInc h k f t = refl
single OpDec h k f t = refl
single OpPusha h k f t = refl
single OpPopa h k f t = refl
single OpBound h k f t = refl
single OpArpl h k f t = refl
single OpImulThree h k f t = cc
single OpIns h k f t = refl
single OpOuts h k f t = refl
single OpJo h k f t = refl
single OpJno h k f t = refl
single OpJb h k f t = refl
single OpJae h k f t = refl
single OpJe h k f t = refl
single OpJne h k f t = refl
single OpJbe h k f t = refl
single OpJa h k f t = refl
single OpJs h k f t = refl
single OpJns h k f t = refl
single OpJp h k f t = refl
single OpJnp h k f t = refl
single OpJl h k f t = refl
single OpJge h k f t = refl
single OpJle h k f t = refl
single OpJg h k f t = refl
single OpTest h k f t = refl
single OpXchg h k f t = refl
single OpMov h k f t = refl
single OpLea h k f t = refl
single OpCbw h k f t = refl
single OpCwd h k f t = refl
single OpCallFar h k f t = cc
single OpWait h k f t = refl
single OpPushf h k f t = refl
single OpPopf h k f t = refl
single OpSahf h k f t = refl
single OpLahf h k f t = refl
single OpMovs h k f t = refl
single OpCmps h k f t = refl
single OpStos h k f t = refl
single OpLods h k f t = refl
single OpScas h k f t = refl
single OpRol h k f t = refl
single OpRor h k f t = refl
single OpRcl h k f t = refl
single OpRcr h k f t = refl
single OpShl h k f t = refl
single OpShr h k f t = refl
single OpSar h k f t = refl
single OpRet h k f t = refl
single OpRetf h k f t = refl
single OpIret h k f t = refl
single OpLes h k f t = refl
single OpLds h k f t = refl
single OpEnter h k f t = refl
single OpLeave h k f t = refl
single OpIntThree h k f t = refl
single OpInt h k f t = refl
single OpInto h k f t = refl
single OpAam h k f t = refl
single OpAad h k f t = refl
single OpXlat h k f t = refl
single OpEsc h k f t = refl
single OpLoopne h k f t = refl
single OpLoope h k f t = refl
single OpLoop h k f t = refl
single OpJcxz h k f t = refl
single OpIn h k f t = refl
single OpOut h k f t = refl
single OpCall h k f t = cc
single OpJmp h k f t = cc
single OpJmpFar h k f t = cc
single OpHlt h k f t = refl
single OpCmc h k f t = refl
single OpClc h k f t = refl
single OpStc h k f t = refl
single OpCli h k f t = refl
single OpSti h k f t = refl
single OpCld h k f t = refl
single OpStd h k f t = refl
single OpNot h k f t = refl
single OpNeg h k f t = refl
single OpMul h k f t = refl
single OpImul h k f t = cc
single OpDiv h k f t = refl
single OpIdiv h k f t = refl
single OpCallAt h k f t = cc
single OpCallFarAt h k f t = cc
single OpJmpAt h k f t = cc
single OpJmpFarAt h k f t = cc
single OpSldt h k f t = refl
single OpStr h k f t = refl
single OpLldt h k f t = refl
single OpLtr h k f t = refl
single OpVerr h k f t = refl
single OpVerw h k f t = refl
single OpSgdt h k f t = refl
single OpSidt h k f t = refl
single OpLgdt h k f t = refl
single OpLidt h k f t = refl
single OpSmsw h k f t = refl
single OpLmsw h k f t = refl
single OpLar h k f t = refl
single OpLsl h k f t = refl
single OpClts h k f t = refl
