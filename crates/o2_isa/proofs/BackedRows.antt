-- Each row of meanings binds selectors that passed the load rules of their registers, but for MOV and POP to CS, which no bytes
-- spell.
use Rattle.std.proofs.Common.{◌≡◌, refl, ℕ, true, false, ◌==◌}
use Rattle.std.specs.Prelude.{not, ◌||◌, ◌&&◌}
use Rattle.o2_isa.specs.declared.instr.Width.TheVariants.{Word}
use Rattle.o2_isa.specs.declared.instr.Sreg.TheVariants.{Es, Ds}
use Rattle.o2_isa.specs.declared.instr.Op.{Op}
use Rattle.o2_isa.specs.declared.instr.Op.TheVariants.{OpAdd, OpOr, OpAdc, OpSbb, OpAnd, OpSub, OpXor, OpCmp, OpTest, OpInc, OpDec, OpNeg, OpNot, OpRol, OpRor, OpRcl}
use Rattle.o2_isa.specs.declared.instr.Op.TheVariants.{OpRcr, OpShl, OpShr, OpSar, OpMul, OpImul, OpImulThree, OpDiv, OpIdiv, OpDaa, OpDas, OpAaa, OpAas, OpAam, OpAad}
use Rattle.o2_isa.specs.declared.instr.Op.TheVariants.{OpMov, OpXchg, OpLea, OpLes, OpLds, OpXlat, OpCbw, OpCwd, OpPush, OpPop, OpPusha, OpPopa, OpPushf, OpPopf, OpClc}
use Rattle.o2_isa.specs.declared.instr.Op.TheVariants.{OpStc, OpCmc, OpCld, OpStd, OpSahf, OpLahf, OpWait, OpMovs, OpCmps, OpStos, OpLods, OpScas, OpJo, OpJno, OpJb}
use Rattle.o2_isa.specs.declared.instr.Op.TheVariants.{OpJae, OpJe, OpJne, OpJbe, OpJa, OpJs, OpJns, OpJp, OpJnp, OpJl, OpJge, OpJle, OpJg, OpLoop, OpLoope, OpLoopne}
use Rattle.o2_isa.specs.declared.instr.Op.TheVariants.{OpJcxz, OpJmp, OpJmpAt, OpJmpFar, OpJmpFarAt, OpCall, OpCallAt, OpCallFar, OpCallFarAt, OpRet, OpRetf, OpIret}
use Rattle.o2_isa.specs.declared.instr.Op.TheVariants.{OpInt, OpIntThree, OpInto, OpBound, OpEnter, OpLeave, OpLar, OpLsl, OpVerr, OpVerw, OpArpl, OpEsc, OpIn, OpOut}
use Rattle.o2_isa.specs.declared.instr.Op.TheVariants.{OpIns, OpOuts, OpCli, OpSti, OpHlt, OpLldt, OpLtr, OpLgdt, OpLidt, OpLmsw, OpClts, OpSldt, OpStr, OpSgdt, OpSidt}
use Rattle.o2_isa.specs.declared.instr.Op.TheVariants.{OpSmsw}
use Rattle.o2_isa.specs.declared.families.BinaryOp.TheVariants as two
use Rattle.o2_isa.specs.declared.families.UnaryOp.TheVariants as one
use Rattle.o2_isa.specs.declared.families.ShiftOp.TheVariants as turn
use Rattle.o2_isa.specs.declared.families.AdjustOp.TheVariants as decimal
use Rattle.o2_isa.specs.declared.instr.Instr.{Instr}
use Rattle.o2_isa.specs.declared.flags.Flag.TheVariants.{Carry, Parity, Zero, Sign, Direction, Overflow}
use Rattle.o2_isa.specs.declared.cpu.Cpu.{Cpu}
use Rattle.o2_isa.specs.Flags.{is_set}
use Rattle.o2_isa.specs.View.{is_readable, is_writable}
use Rattle.o2_isa.specs.FlowJumps.{is_less}
use Rattle.o2_isa.specs.OpRows.{op_steps}
use Rattle.o2_isa.proofs.Backing.{Ground, IsBacked, valued_backed, pair_backed}
use Rattle.o2_isa.proofs.BackedData.{names_cs, puts_selector, binary_backed, unary_backed, shift_backed, mul_backed, imul_three_backed, div_backed, adjust_backed}
use Rattle.o2_isa.proofs.BackedData.{mov_backed, xchg_backed, lea_backed, load_pointer_backed, xlat_backed, push_backed, pop_backed, cbw_backed, cwd_backed}
use Rattle.o2_isa.proofs.BackedData.{flagging_backed, sahf_backed, lahf_backed, wait_backed, pusha_backed, popf_backed, popa_backed, pushf_backed}
use Rattle.o2_isa.proofs.BackedFlow.{jmp_backed, jmp_if_backed, jcc_backed, loop_backed, jmp_far_backed, call_backed, call_far_backed, ret_backed, retf_backed}
use Rattle.o2_isa.proofs.BackedFlow.{iret_backed, trap_if_backed, bound_backed, enter_backed, leave_backed, lar_backed, lsl_backed, verify_backed, arpl_backed}
use Rattle.o2_isa.proofs.BackedFlow.{movs_backed, cmps_backed, stos_backed, lods_backed, scas_backed}

pub op_backed : (v : Ground) (op : Op) (c : Cpu) (i : Instr) (next : ℕ) → (puts_selector op && names_cs i.left) ≡ false → IsBacked v (op_steps op c i next)
op_backed v OpAdd c i next e = binary_backed v two.Add c i next
op_backed v OpOr c i next e = binary_backed v two.Or c i next
op_backed v OpAdc c i next e = binary_backed v two.Adc c i next
op_backed v OpSbb c i next e = binary_backed v two.Sbb c i next
op_backed v OpAnd c i next e = binary_backed v two.And c i next
op_backed v OpSub c i next e = binary_backed v two.Sub c i next
op_backed v OpXor c i next e = binary_backed v two.Xor c i next
op_backed v OpCmp c i next e = binary_backed v two.Cmp c i next
op_backed v OpTest c i next e = binary_backed v two.Test c i next
op_backed v OpInc c i next e = unary_backed v one.Inc c i next
op_backed v OpDec c i next e = unary_backed v one.Dec c i next
op_backed v OpNeg c i next e = unary_backed v one.Neg c i next
op_backed v OpNot c i next e = unary_backed v one.Not c i next
op_backed v OpRol c i next e = shift_backed v turn.Rol c i next
op_backed v OpRor c i next e = shift_backed v turn.Ror c i next
op_backed v OpRcl c i next e = shift_backed v turn.Rcl c i next
op_backed v OpRcr c i next e = shift_backed v turn.Rcr c i next
op_backed v OpShl c i next e = shift_backed v turn.Shl c i next
op_backed v OpShr c i next e = shift_backed v turn.Shr c i next
op_backed v OpSar c i next e = shift_backed v turn.Sar c i next
op_backed v OpMul c i next e = mul_backed v false c i next
op_backed v OpImul c i next e = mul_backed v true c i next
op_backed v OpImulThree c i next e = imul_three_backed v c i next
op_backed v OpDiv c i next e = div_backed v false c i next
op_backed v OpIdiv c i next e = div_backed v true c i next
op_backed v OpDaa c i next e = adjust_backed v decimal.Daa c i next
op_backed v OpDas c i next e = adjust_backed v decimal.Das c i next
op_backed v OpAaa c i next e = adjust_backed v decimal.Aaa c i next
op_backed v OpAas c i next e = adjust_backed v decimal.Aas c i next
op_backed v OpAam c i next e = adjust_backed v decimal.Aam c i next
op_backed v OpAad c i next e = adjust_backed v decimal.Aad c i next
op_backed v OpMov c i next e = mov_backed v c i i.left next e
op_backed v OpXchg c i next e = xchg_backed v c i next
op_backed v OpLea c i next e = lea_backed v c i next
op_backed v OpLes c i next e = load_pointer_backed v c Es i.left i.right next refl
op_backed v OpLds c i next e = load_pointer_backed v c Ds i.left i.right next refl
op_backed v OpXlat c i next e = xlat_backed v c i next
op_backed v OpCbw c i next e = cbw_backed v c next
op_backed v OpCwd c i next e = cwd_backed v c next
op_backed v OpPush c i next e = push_backed v c i.left next
op_backed v OpPop c i next e = pop_backed v c i.left next e
op_backed v OpPusha c i next e = pusha_backed v c next
op_backed v OpPopa c i next e = popa_backed v c next
op_backed v OpPushf c i next e = pushf_backed v c next
op_backed v OpPopf c i next e = popf_backed v c next
op_backed v OpClc c i next e = flagging_backed v Carry false c next
op_backed v OpStc c i next e = flagging_backed v Carry true c next
op_backed v OpCmc c i next e = flagging_backed v Carry (not (is_set c.flags Carry)) c next
op_backed v OpCld c i next e = flagging_backed v Direction false c next
op_backed v OpStd c i next e = flagging_backed v Direction true c next
op_backed v OpSahf c i next e = sahf_backed v c next
op_backed v OpLahf c i next e = lahf_backed v c next
op_backed v OpWait c i next e = wait_backed v c next
op_backed v OpMovs c i next e = movs_backed v c i next
op_backed v OpCmps c i next e = cmps_backed v c i next
op_backed v OpStos c i next e = stos_backed v c i next
op_backed v OpLods c i next e = lods_backed v c i next
op_backed v OpScas c i next e = scas_backed v c i next
op_backed v OpJo c i next e = jcc_backed v (is_set c.flags Overflow) c i next
op_backed v OpJno c i next e = jcc_backed v (not (is_set c.flags Overflow)) c i next
op_backed v OpJb c i next e = jcc_backed v (is_set c.flags Carry) c i next
op_backed v OpJae c i next e = jcc_backed v (not (is_set c.flags Carry)) c i next
op_backed v OpJe c i next e = jcc_backed v (is_set c.flags Zero) c i next
op_backed v OpJne c i next e = jcc_backed v (not (is_set c.flags Zero)) c i next
op_backed v OpJbe c i next e = jcc_backed v (is_set c.flags Carry || is_set c.flags Zero) c i next
op_backed v OpJa c i next e = jcc_backed v (not (is_set c.flags Carry || is_set c.flags Zero)) c i next
op_backed v OpJs c i next e = jcc_backed v (is_set c.flags Sign) c i next
op_backed v OpJns c i next e = jcc_backed v (not (is_set c.flags Sign)) c i next
op_backed v OpJp c i next e = jcc_backed v (is_set c.flags Parity) c i next
op_backed v OpJnp c i next e = jcc_backed v (not (is_set c.flags Parity)) c i next
op_backed v OpJl c i next e = jcc_backed v (is_less c.flags) c i next
op_backed v OpJge c i next e = jcc_backed v (not (is_less c.flags)) c i next
op_backed v OpJle c i next e = jcc_backed v (is_set c.flags Zero || is_less c.flags) c i next
op_backed v OpJg c i next e = jcc_backed v (not (is_set c.flags Zero || is_less c.flags)) c i next
op_backed v OpLoop c i next e = loop_backed v true c _ next
op_backed v OpLoope c i next e = loop_backed v (is_set c.flags Zero) c _ next
op_backed v OpLoopne c i next e = loop_backed v (not (is_set c.flags Zero)) c _ next
op_backed v OpJcxz c i next e = jmp_if_backed v (c.cx == 0) c _ next
op_backed v OpJmp c i next e = jmp_backed v c _
op_backed v OpJmpAt c i next e = valued_backed v c Word i.left _ (λ ip. jmp_backed v c ip)
op_backed v OpJmpFar c i next e = pair_backed v c i.left _ (λ ip cs. jmp_far_backed v c ip cs next)
op_backed v OpJmpFarAt c i next e = pair_backed v c i.left _ (λ ip cs. jmp_far_backed v c ip cs next)
op_backed v OpCall c i next e = call_backed v c _ next
op_backed v OpCallAt c i next e = valued_backed v c Word i.left _ (λ ip. call_backed v c ip next)
op_backed v OpCallFar c i next e = pair_backed v c i.left _ (λ ip cs. call_far_backed v c ip cs next)
op_backed v OpCallFarAt c i next e = pair_backed v c i.left _ (λ ip cs. call_far_backed v c ip cs next)
op_backed v OpRet c i next e = ret_backed v c _
op_backed v OpRetf c i next e = retf_backed v c _ next
op_backed v OpIret c i next e = iret_backed v c next
op_backed v OpInt c i next e = tt
op_backed v OpIntThree c i next e = tt
op_backed v OpInto c i next e = trap_if_backed v (is_set c.flags Overflow) 4 c next
op_backed v OpBound c i next e = bound_backed v c i next
op_backed v OpEnter c i next e = enter_backed v c _ _ next
op_backed v OpLeave c i next e = leave_backed v c next
op_backed v OpLar c i next e = lar_backed v c i next
op_backed v OpLsl c i next e = lsl_backed v c i next
op_backed v OpVerr c i next e = verify_backed v is_readable c i next
op_backed v OpVerw c i next e = verify_backed v is_writable c i next
op_backed v OpArpl c i next e = arpl_backed v c i next
op_backed v OpEsc c i next e = tt
op_backed v OpIn c i next e = tt
op_backed v OpOut c i next e = tt
op_backed v OpIns c i next e = tt
op_backed v OpOuts c i next e = tt
op_backed v OpCli c i next e = tt
op_backed v OpSti c i next e = tt
op_backed v OpHlt c i next e = tt
op_backed v OpLldt c i next e = tt
op_backed v OpLtr c i next e = tt
op_backed v OpLgdt c i next e = tt
op_backed v OpLidt c i next e = tt
op_backed v OpLmsw c i next e = tt
op_backed v OpClts c i next e = tt
op_backed v OpSldt c i next e = tt
op_backed v OpStr c i next e = tt
op_backed v OpSgdt c i next e = tt
op_backed v OpSidt c i next e = tt
op_backed v OpSmsw c i next e = tt
