-- What instructions mean, and which crate executes which.
use Rattle.std.specs.Prelude.{ℕ, if◌then◌else◌, Result, Ok, Err}
use Rattle.o2_isa.specs.declared.instr.Op.{Op}
use Rattle.o2_isa.specs.declared.instr.Op.TheVariants.{OpJo, OpJno, OpJb, OpJae, OpJe, OpJne, OpJbe, OpJa, OpJs, OpJns, OpJp, OpJnp, OpJl, OpJge, OpJle, OpJg, OpLoop}
use Rattle.o2_isa.specs.declared.instr.Op.TheVariants.{OpLoope, OpLoopne, OpJcxz, OpJmp, OpJmpFar, OpJmpAt, OpJmpFarAt, OpCall, OpCallFar, OpCallAt, OpCallFarAt, OpRet}
use Rattle.o2_isa.specs.declared.instr.Op.TheVariants.{OpRetf, OpIret, OpInt, OpIntThree, OpInto, OpBound, OpEnter, OpLeave, OpLar, OpLsl, OpVerr, OpVerw, OpArpl, OpEsc}
use Rattle.o2_isa.specs.declared.instr.Op.TheVariants.{OpIn, OpOut, OpIns, OpOuts, OpCli, OpSti, OpHlt, OpSldt, OpStr, OpLldt, OpLtr, OpSgdt, OpSidt, OpLgdt, OpLidt}
use Rattle.o2_isa.specs.declared.instr.Op.TheVariants.{OpSmsw, OpLmsw, OpClts, OpMovs, OpCmps, OpStos, OpLods, OpScas, OpAdd, OpOr, OpAdc, OpSbb, OpAnd, OpSub, OpXor}
use Rattle.o2_isa.specs.declared.instr.Op.TheVariants.{OpCmp, OpPush, OpPop, OpDaa, OpDas, OpAaa, OpAas, OpInc, OpDec, OpPusha, OpPopa, OpImulThree, OpTest, OpXchg}
use Rattle.o2_isa.specs.declared.instr.Op.TheVariants.{OpMov, OpLea, OpCbw, OpCwd, OpWait, OpPushf, OpPopf, OpSahf, OpLahf, OpRol, OpRor, OpRcl, OpRcr, OpShl, OpShr}
use Rattle.o2_isa.specs.declared.instr.Op.TheVariants.{OpSar, OpLes, OpLds, OpAam, OpAad, OpXlat, OpCmc, OpClc, OpStc, OpCld, OpStd, OpNot, OpNeg, OpMul, OpImul, OpDiv}
use Rattle.o2_isa.specs.declared.instr.Op.TheVariants.{OpIdiv}
use Rattle.o2_isa.specs.declared.instr.Instr.{Instr}
use Rattle.o2_isa.specs.declared.groups.Group.{Group}
use Rattle.o2_isa.specs.declared.groups.Group.TheVariants.{Data, Flow, Strings}
use Rattle.o2_isa.specs.declared.cpu.Cpu.{Cpu}
use Rattle.o2_isa.specs.declared.cpu.Stop.{Stop}
use Rattle.o2_isa.specs.declared.cpu.Stop.TheVariants as stop
use Rattle.o2_isa.specs.Steps.{State, Steps, Stops, run}
use Rattle.o2_isa.specs.OpRows.{op_steps}

unfoldable pub group_of : Op → Group
group_of OpJo = Flow
group_of OpJno = Flow
group_of OpJb = Flow
group_of OpJae = Flow
group_of OpJe = Flow
group_of OpJne = Flow
group_of OpJbe = Flow
group_of OpJa = Flow
group_of OpJs = Flow
group_of OpJns = Flow
group_of OpJp = Flow
group_of OpJnp = Flow
group_of OpJl = Flow
group_of OpJge = Flow
group_of OpJle = Flow
group_of OpJg = Flow
group_of OpLoop = Flow
group_of OpLoope = Flow
group_of OpLoopne = Flow
group_of OpJcxz = Flow
group_of OpJmp = Flow
group_of OpJmpFar = Flow
group_of OpJmpAt = Flow
group_of OpJmpFarAt = Flow
group_of OpCall = Flow
group_of OpCallFar = Flow
group_of OpCallAt = Flow
group_of OpCallFarAt = Flow
group_of OpRet = Flow
group_of OpRetf = Flow
group_of OpIret = Flow
group_of OpInt = Flow
group_of OpIntThree = Flow
group_of OpInto = Flow
group_of OpBound = Flow
group_of OpEnter = Flow
group_of OpLeave = Flow
group_of OpLar = Flow
group_of OpLsl = Flow
group_of OpVerr = Flow
group_of OpVerw = Flow
group_of OpArpl = Flow
group_of OpEsc = Flow
group_of OpIn = Flow
group_of OpOut = Flow
group_of OpIns = Flow
group_of OpOuts = Flow
group_of OpCli = Flow
group_of OpSti = Flow
group_of OpHlt = Flow
group_of OpSldt = Flow
group_of OpStr = Flow
group_of OpLldt = Flow
group_of OpLtr = Flow
group_of OpSgdt = Flow
group_of OpSidt = Flow
group_of OpLgdt = Flow
group_of OpLidt = Flow
group_of OpSmsw = Flow
group_of OpLmsw = Flow
group_of OpClts = Flow
group_of OpMovs = Strings
group_of OpCmps = Strings
group_of OpStos = Strings
group_of OpLods = Strings
group_of OpScas = Strings
group_of OpAdd = Data
group_of OpOr = Data
group_of OpAdc = Data
group_of OpSbb = Data
group_of OpAnd = Data
group_of OpSub = Data
group_of OpXor = Data
group_of OpCmp = Data
group_of OpPush = Data
group_of OpPop = Data
group_of OpDaa = Data
group_of OpDas = Data
group_of OpAaa = Data
group_of OpAas = Data
group_of OpInc = Data
group_of OpDec = Data
group_of OpPusha = Data
group_of OpPopa = Data
group_of OpImulThree = Data
group_of OpTest = Data
group_of OpXchg = Data
group_of OpMov = Data
group_of OpLea = Data
group_of OpCbw = Data
group_of OpCwd = Data
group_of OpWait = Data
group_of OpPushf = Data
group_of OpPopf = Data
group_of OpSahf = Data
group_of OpLahf = Data
group_of OpRol = Data
group_of OpRor = Data
group_of OpRcl = Data
group_of OpRcr = Data
group_of OpShl = Data
group_of OpShr = Data
group_of OpSar = Data
group_of OpLes = Data
group_of OpLds = Data
group_of OpAam = Data
group_of OpAad = Data
group_of OpXlat = Data
group_of OpCmc = Data
group_of OpClc = Data
group_of OpStc = Data
group_of OpCld = Data
group_of OpStd = Data
group_of OpNot = Data
group_of OpNeg = Data
group_of OpMul = Data
group_of OpImul = Data
group_of OpDiv = Data
group_of OpIdiv = Data

-- a LOCK prefix traps before all else
abbrev pub unlocked : Instr → Result ℕ Stop
unlocked i = if i.lock then Err (stop.Trap 13 0) else Ok 0

-- what comes behind a test that may stop
abbrev pub behind : Result ℕ Stop → Steps → Steps
behind (Ok x) p = p
behind (Err e) p = Stops e

unfoldable pub steps_of : Cpu → Instr → ℕ → Steps
steps_of c i next = behind (unlocked i) (op_steps i.op c i next)

-- one instruction, with the IP behind it
unfoldable pub meaning : State → Instr → ℕ → Result State Stop
meaning s i next = run (steps_of s.cpu i next) s.view
