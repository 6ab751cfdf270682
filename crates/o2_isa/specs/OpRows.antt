-- The meanings of the instructions: each mnemonic has one row, and no row stands for two.
use Rattle.std.specs.Prelude.{ℕ, ◌==◌, ◌||◌, true, false, not}
use Rattle.o2_isa.specs.declared.instr.Width.TheVariants.{Word}
use Rattle.o2_isa.specs.declared.instr.Sreg.TheVariants.{Es, Ds}
use Rattle.o2_isa.specs.declared.instr.Op.{Op}
use Rattle.o2_isa.specs.declared.instr.Op.TheVariants.{OpAdd, OpOr, OpAdc, OpSbb, OpAnd, OpSub, OpXor, OpCmp, OpTest, OpInc, OpDec, OpNeg, OpNot, OpRol, OpRor, OpRcl}
use Rattle.o2_isa.specs.declared.instr.Op.TheVariants.{OpRcr, OpShl, OpShr, OpSar, OpMul, OpImul, OpImulThree, OpDiv, OpIdiv, OpDaa, OpDas, OpAaa, OpAas, OpAam, OpAad}
use Rattle.o2_isa.specs.declared.instr.Op.TheVariants.{OpMov, OpXchg, OpLea, OpLes, OpLds, OpXlat, OpCbw, OpCwd, OpPush, OpPop, OpPusha, OpPopa, OpPushf, OpPopf, OpClc}
use Rattle.o2_isa.specs.declared.instr.Op.TheVariants.{OpStc, OpCmc, OpCld, OpStd, OpSahf, OpLahf, OpWait, OpMovs, OpCmps, OpStos, OpLods, OpScas, OpJo, OpJno, OpJb}
use Rattle.o2_isa.specs.declared.instr.Op.TheVariants.{OpJae, OpJe, OpJne, OpJbe, OpJa, OpJs, OpJns, OpJp, OpJnp, OpJl, OpJge, OpJle, OpJg, OpLoop, OpLoope, OpLoopne}
use Rattle.o2_isa.specs.declared.instr.Op.TheVariants.{OpJcxz, OpJmp, OpJmpAt, OpJmpFar, OpJmpFarAt, OpCall, OpCallAt, OpCallFar, OpCallFarAt, OpRet, OpRetf, OpIret}
use Rattle.o2_isa.specs.declared.instr.Op.TheVariants.{OpInt, OpIntThree, OpInto, OpBound, OpEnter, OpLeave, OpLar, OpLsl, OpVerr, OpVerw, OpArpl, OpEsc, OpIn, OpOut}
use Rattle.o2_isa.specs.declared.instr.Op.TheVariants.{OpIns, OpOuts, OpCli, OpSti, OpHlt, OpLldt, OpLtr, OpLgdt, OpLidt, OpLmsw, OpClts, OpSldt, OpStr, OpSgdt, OpSidt}
use Rattle.o2_isa.specs.declared.instr.Op.TheVariants.{OpSmsw}
use Rattle.o2_isa.specs.declared.families.BinaryOp.TheVariants as two
use Rattle.o2_isa.specs.declared.families.UnaryOp.TheVariants as one
use Rattle.o2_isa.specs.declared.families.ShiftOp.TheVariants as turn
use Rattle.o2_isa.specs.declared.families.AdjustOp.TheVariants as decimal
use Rattle.o2_isa.specs.declared.instr.Instr.{Instr}
use Rattle.o2_isa.specs.declared.flags.Flag.TheVariants.{Carry, Parity, Zero, Sign, Direction, Overflow}
use Rattle.o2_isa.specs.declared.cpu.Cpu.{Cpu}
use Rattle.o2_isa.specs.declared.cpu.Stop.TheVariants as stop
use Rattle.o2_isa.specs.Flags.{is_set}
use Rattle.o2_isa.specs.View.{is_readable, is_writable}
use Rattle.o2_isa.specs.Steps.{Steps, Stops, valued, pair_valued}
use Rattle.o2_isa.specs.DataArith.{binary, unary, shift, mul, imul_three, div, adjust}
use Rattle.o2_isa.specs.DataMoves.{mov, xchg, lea, load_pointer, xlat, cbw, cwd}
use Rattle.o2_isa.specs.DataStack.{push, pop, pusha, popa, pushf, popf}
use Rattle.o2_isa.specs.DataFlags.{flagging, sahf, lahf, wait}
use Rattle.o2_isa.specs.StringRows.{movs, cmps, stos, lods, scas, repeating}
use Rattle.o2_isa.specs.FlowJumps.{immediate, relative, is_less, jmp, jmp_if, jcc, loop_if, jmp_far}
use Rattle.o2_isa.specs.FlowCalls.{call, call_far, ret, retf, iret}
use Rattle.o2_isa.specs.FlowFrames.{enter, leave}
use Rattle.o2_isa.specs.FlowInterrupts.{interrupt, into, bound}
use Rattle.o2_isa.specs.FlowProtection.{lar, lsl, verify, arpl}

abbrev pub op_steps : Op → Cpu → Instr → ℕ → Steps
-- moves, arithmetic, flags and the stack
op_steps OpAdd c i next = binary two.Add c i next
op_steps OpOr c i next = binary two.Or c i next
op_steps OpAdc c i next = binary two.Adc c i next
op_steps OpSbb c i next = binary two.Sbb c i next
op_steps OpAnd c i next = binary two.And c i next
op_steps OpSub c i next = binary two.Sub c i next
op_steps OpXor c i next = binary two.Xor c i next
op_steps OpCmp c i next = binary two.Cmp c i next
op_steps OpTest c i next = binary two.Test c i next
op_steps OpInc c i next = unary one.Inc c i next
op_steps OpDec c i next = unary one.Dec c i next
op_steps OpNeg c i next = unary one.Neg c i next
op_steps OpNot c i next = unary one.Not c i next
op_steps OpRol c i next = shift turn.Rol c i next
op_steps OpRor c i next = shift turn.Ror c i next
op_steps OpRcl c i next = shift turn.Rcl c i next
op_steps OpRcr c i next = shift turn.Rcr c i next
op_steps OpShl c i next = shift turn.Shl c i next
op_steps OpShr c i next = shift turn.Shr c i next
op_steps OpSar c i next = shift turn.Sar c i next
op_steps OpMul c i next = mul false c i next
op_steps OpImul c i next = mul true c i next
op_steps OpImulThree c i next = imul_three c i next
op_steps OpDiv c i next = div false c i next
op_steps OpIdiv c i next = div true c i next
op_steps OpDaa c i next = adjust decimal.Daa c i next
op_steps OpDas c i next = adjust decimal.Das c i next
op_steps OpAaa c i next = adjust decimal.Aaa c i next
op_steps OpAas c i next = adjust decimal.Aas c i next
op_steps OpAam c i next = adjust decimal.Aam c i next
op_steps OpAad c i next = adjust decimal.Aad c i next
op_steps OpMov c i next = mov c i i.left next
op_steps OpXchg c i next = xchg c i next
op_steps OpLea c i next = lea c i next
op_steps OpLes c i next = load_pointer c Es i.left i.right next
op_steps OpLds c i next = load_pointer c Ds i.left i.right next
op_steps OpXlat c i next = xlat c i next
op_steps OpCbw c i next = cbw c next
op_steps OpCwd c i next = cwd c next
op_steps OpPush c i next = push c i.left next
op_steps OpPop c i next = pop c i.left next
op_steps OpPusha c i next = pusha c next
op_steps OpPopa c i next = popa c next
op_steps OpPushf c i next = pushf c next
op_steps OpPopf c i next = popf c next
op_steps OpClc c i next = flagging Carry false c next
op_steps OpStc c i next = flagging Carry true c next
op_steps OpCmc c i next = flagging Carry (not (is_set c.flags Carry)) c next
op_steps OpCld c i next = flagging Direction false c next
op_steps OpStd c i next = flagging Direction true c next
op_steps OpSahf c i next = sahf c next
op_steps OpLahf c i next = lahf c next
op_steps OpWait c i next = wait c next
-- strings
op_steps OpMovs c i next = repeating c i next (movs c i next)
op_steps OpCmps c i next = repeating c i next (cmps c i next)
op_steps OpStos c i next = repeating c i next (stos c i next)
op_steps OpLods c i next = repeating c i next (lods c i next)
op_steps OpScas c i next = repeating c i next (scas c i next)
-- transfers, and what speaks of selectors
op_steps OpJo c i next = jcc (is_set c.flags Overflow) c i next
op_steps OpJno c i next = jcc (not (is_set c.flags Overflow)) c i next
op_steps OpJb c i next = jcc (is_set c.flags Carry) c i next
op_steps OpJae c i next = jcc (not (is_set c.flags Carry)) c i next
op_steps OpJe c i next = jcc (is_set c.flags Zero) c i next
op_steps OpJne c i next = jcc (not (is_set c.flags Zero)) c i next
op_steps OpJbe c i next = jcc (is_set c.flags Carry || is_set c.flags Zero) c i next
op_steps OpJa c i next = jcc (not (is_set c.flags Carry || is_set c.flags Zero)) c i next
op_steps OpJs c i next = jcc (is_set c.flags Sign) c i next
op_steps OpJns c i next = jcc (not (is_set c.flags Sign)) c i next
op_steps OpJp c i next = jcc (is_set c.flags Parity) c i next
op_steps OpJnp c i next = jcc (not (is_set c.flags Parity)) c i next
op_steps OpJl c i next = jcc (is_less c.flags) c i next
op_steps OpJge c i next = jcc (not (is_less c.flags)) c i next
op_steps OpJle c i next = jcc (is_set c.flags Zero || is_less c.flags) c i next
op_steps OpJg c i next = jcc (not (is_set c.flags Zero || is_less c.flags)) c i next
op_steps OpLoop c i next = loop_if true c (relative i.left next) next
op_steps OpLoope c i next = loop_if (is_set c.flags Zero) c (relative i.left next) next
op_steps OpLoopne c i next = loop_if (not (is_set c.flags Zero)) c (relative i.left next) next
op_steps OpJcxz c i next = jmp_if (c.cx == 0) c (relative i.left next) next
op_steps OpJmp c i next = jmp c (relative i.left next)
op_steps OpJmpAt c i next = valued c Word i.left (jmp c)
op_steps OpJmpFar c i next = pair_valued c i.left (λ ip cs. jmp_far c ip cs next)
op_steps OpJmpFarAt c i next = pair_valued c i.left (λ ip cs. jmp_far c ip cs next)
op_steps OpCall c i next = call c (relative i.left next) next
op_steps OpCallAt c i next = valued c Word i.left (λ ip. call c ip next)
op_steps OpCallFar c i next = pair_valued c i.left (λ ip cs. call_far c ip cs next)
op_steps OpCallFarAt c i next = pair_valued c i.left (λ ip cs. call_far c ip cs next)
op_steps OpRet c i next = ret c (immediate i.left)
op_steps OpRetf c i next = retf c (immediate i.left) next
op_steps OpIret c i next = iret c next
op_steps OpInt c i next = Stops (interrupt (immediate i.left))
op_steps OpIntThree c i next = Stops (stop.Trap 3 0)
op_steps OpInto c i next = into c next
op_steps OpBound c i next = bound c i next
op_steps OpEnter c i next = enter c (immediate i.left) (immediate i.right) next
op_steps OpLeave c i next = leave c next
op_steps OpLar c i next = lar c i next
op_steps OpLsl c i next = lsl c i next
op_steps OpVerr c i next = verify is_readable c i next
op_steps OpVerw c i next = verify is_writable c i next
op_steps OpArpl c i next = arpl c i next
-- What always traps: the numeric processor isn't there, ports and the processor's own state are privileged at this level,
-- and the instructions that show that state aren't there either.
op_steps OpEsc c i next = Stops (stop.Trap 7 0)
op_steps OpIn c i next = Stops (stop.Trap 13 0)
op_steps OpOut c i next = Stops (stop.Trap 13 0)
op_steps OpIns c i next = Stops (stop.Trap 13 0)
op_steps OpOuts c i next = Stops (stop.Trap 13 0)
op_steps OpCli c i next = Stops (stop.Trap 13 0)
op_steps OpSti c i next = Stops (stop.Trap 13 0)
op_steps OpHlt c i next = Stops (stop.Trap 13 0)
op_steps OpLldt c i next = Stops (stop.Trap 13 0)
op_steps OpLtr c i next = Stops (stop.Trap 13 0)
op_steps OpLgdt c i next = Stops (stop.Trap 13 0)
op_steps OpLidt c i next = Stops (stop.Trap 13 0)
op_steps OpLmsw c i next = Stops (stop.Trap 13 0)
op_steps OpClts c i next = Stops (stop.Trap 13 0)
op_steps OpSldt c i next = Stops (stop.Trap 6 0)
op_steps OpStr c i next = Stops (stop.Trap 6 0)
op_steps OpSgdt c i next = Stops (stop.Trap 6 0)
op_steps OpSidt c i next = Stops (stop.Trap 6 0)
op_steps OpSmsw c i next = Stops (stop.Trap 6 0)
