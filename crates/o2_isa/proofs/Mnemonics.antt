-- Each row of meanings misses only by its loads, of which it has one at most, writes before it binds, and binds the selectors
-- that it leaves.
use Rattle.std.proofs.Common.{ℕ, Bool, true, false, cond, ◌==◌}
use Rattle.std.specs.Prelude.{not, ◌||◌, Ok, Err}
use Rattle.o2_isa.specs.declared.instr.Width.TheVariants.{Word}
use Rattle.o2_isa.specs.declared.instr.Sreg.TheVariants.{Es, Ds}
use Rattle.o2_isa.specs.declared.instr.Op.{Op}
use Rattle.o2_isa.specs.declared.instr.Op.TheVariants.{OpAdd, OpOr, OpAdc, OpSbb, OpAnd, OpSub, OpXor, OpCmp, OpTest, OpInc, OpDec, OpNeg, OpNot, OpRol, OpRor, OpRcl}
use Rattle.o2_isa.specs.declared.instr.Op.TheVariants.{OpRcr, OpShl, OpShr, OpSar, OpMul, OpImul, OpImulThree, OpDiv, OpIdiv, OpDaa, OpDas, OpAaa, OpAas, OpAam, OpAad}
use Rattle.o2_isa.specs.declared.instr.Op.TheVariants.{OpMov, OpXchg, OpLea, OpLes, OpLds, OpXlat, OpCbw, OpCwd, OpPush, OpPop, OpPusha, OpPopa, OpPushf, OpPopf, OpClc}
use Rattle.o2_isa.specs.declared.instr.Op.TheVariants.{OpStc, OpCmc, OpCld, OpStd, OpSahf, OpLahf, OpWait, OpMovs, OpCmps, OpStos, OpLods, OpScas, OpJo, OpJno, OpJb}
use Rattle.o2_isa.specs.declared.instr.Op.TheVariants.{OpJae, OpJe, OpJne, OpJbe, OpJa, OpJs, OpJns, OpJp, OpJnp, OpJl, OpJge, OpJle, OpJg, OpLoop, OpLoope, OpLoopne}
use Rattle.o2_isa.specs.declared.instr.Op.TheVariants.{OpJcxz, OpJmp, OpJmpAt, OpJmpFar, OpJmpFarAt, OpCall, OpCallAt, OpCallFar, OpCallFarAt, OpRet, OpRetf, OpIret}
use Rattle.o2_isa.specs.declared.instr.Op.TheVariants.{OpInt, OpIntThree, OpInto, OpBound, OpEnter, OpLeave, OpLar, OpLsl, OpVerr, OpVerw, OpArpl, OpEsc, OpIn, OpOut}
use Rattle.o2_isa.specs.declared.instr.Op.TheVariants.{OpIns, OpOuts, OpCli, OpSti, OpHlt, OpLldt, OpLtr, OpLgdt, OpLidt, OpLmsw, OpClts, OpSldt, OpStr, OpSgdt, OpSidt}
use Rattle.o2_isa.specs.declared.instr.Op.TheVariants.{OpSmsw}
use Rattle.o2_isa.specs.declared.families.BinaryOp.TheVariants as two
use Rattle.o2_isa.specs.declared.families.UnaryOp.TheVariants as one
use Rattle.o2_isa.specs.declared.families.ShiftOp.TheVariants as turn
use Rattle.o2_isa.specs.declared.families.AdjustOp.TheVariants as decimal
use Rattle.o2_isa.specs.declared.instr.Instr.{Instr}
use Rattle.o2_isa.specs.declared.flags.Flag.TheVariants.{Carry, Parity, Zero, Sign, Direction, Overflow}
use Rattle.o2_isa.specs.declared.cpu.Cpu.{Cpu}
use Rattle.o2_isa.specs.declared.cpu.Stop.TheVariants as stop
use Rattle.o2_isa.specs.Flags.{is_set}
use Rattle.o2_isa.specs.View.{is_readable, is_writable}
use Rattle.o2_isa.specs.FlowJumps.{immediate, is_less}
use Rattle.o2_isa.specs.OpRows.{op_steps}
use Rattle.o2_isa.specs.Meaning.{behind, steps_of}
use Rattle.o2_isa.specs.Presence.{IsRow}
use Rattle.o2_isa.proofs.RowParts.{kept, valued_row, pair_row}
use Rattle.o2_isa.proofs.DataMnemonics.{binary_row, unary_row, shift_row, mul_row, imul_three_row, div_row, adjust_row, mov_row, xchg_row, lea_row, load_pointer_row}
use Rattle.o2_isa.proofs.DataMnemonics.{xlat_row, cbw_row, cwd_row, push_row, pushf_row, pop_row, popf_row, pusha_row, popa_row, flagging_row, sahf_row, lahf_row}
use Rattle.o2_isa.proofs.DataMnemonics.{wait_row}
use Rattle.o2_isa.proofs.FlowMnemonics.{jmp_row, jmp_if_row, jcc_row, loop_row, jmp_far_row, call_row, call_far_row, ret_row, retf_row, iret_row, interrupt_row, trap_if_row, bound_row, enter_row, leave_row, lar_row, lsl_row, verify_row, arpl_row}
use Rattle.o2_isa.proofs.StringMnemonics.{movs_row, cmps_row, stos_row, lods_row, scas_row}

op_row : (op : Op) (c : Cpu) (i : Instr) (next : ℕ) → IsRow c 1 (op_steps op c i next)
op_row OpAdd c i next = binary_row two.Add c i next
op_row OpOr c i next = binary_row two.Or c i next
op_row OpAdc c i next = binary_row two.Adc c i next
op_row OpSbb c i next = binary_row two.Sbb c i next
op_row OpAnd c i next = binary_row two.And c i next
op_row OpSub c i next = binary_row two.Sub c i next
op_row OpXor c i next = binary_row two.Xor c i next
op_row OpCmp c i next = binary_row two.Cmp c i next
op_row OpTest c i next = binary_row two.Test c i next
op_row OpInc c i next = unary_row one.Inc c i next
op_row OpDec c i next = unary_row one.Dec c i next
op_row OpNeg c i next = unary_row one.Neg c i next
op_row OpNot c i next = unary_row one.Not c i next
op_row OpRol c i next = shift_row turn.Rol c i next
op_row OpRor c i next = shift_row turn.Ror c i next
op_row OpRcl c i next = shift_row turn.Rcl c i next
op_row OpRcr c i next = shift_row turn.Rcr c i next
op_row OpShl c i next = shift_row turn.Shl c i next
op_row OpShr c i next = shift_row turn.Shr c i next
op_row OpSar c i next = shift_row turn.Sar c i next
op_row OpMul c i next = mul_row false c i next
op_row OpImul c i next = mul_row true c i next
op_row OpImulThree c i next = imul_three_row c i next
op_row OpDiv c i next = div_row false c i next
op_row OpIdiv c i next = div_row true c i next
op_row OpDaa c i next = adjust_row decimal.Daa c i next
op_row OpDas c i next = adjust_row decimal.Das c i next
op_row OpAaa c i next = adjust_row decimal.Aaa c i next
op_row OpAas c i next = adjust_row decimal.Aas c i next
op_row OpAam c i next = adjust_row decimal.Aam c i next
op_row OpAad c i next = adjust_row decimal.Aad c i next
op_row OpMov c i next = mov_row c i i.left next
op_row OpXchg c i next = xchg_row c i next
op_row OpLea c i next = lea_row c i next
op_row OpLes c i next = load_pointer_row c Es i.left i.right next
op_row OpLds c i next = load_pointer_row c Ds i.left i.right next
op_row OpXlat c i next = xlat_row c i next
op_row OpCbw c i next = cbw_row c next
op_row OpCwd c i next = cwd_row c next
op_row OpPush c i next = push_row c i.left next
op_row OpPop c i next = pop_row c i.left next
op_row OpPusha c i next = pusha_row c next
op_row OpPopa c i next = popa_row c next
op_row OpPushf c i next = pushf_row c next
op_row OpPopf c i next = popf_row c next
op_row OpClc c i next = flagging_row Carry false c next
op_row OpStc c i next = flagging_row Carry true c next
op_row OpCmc c i next = flagging_row Carry (not (is_set c.flags Carry)) c next
op_row OpCld c i next = flagging_row Direction false c next
op_row OpStd c i next = flagging_row Direction true c next
op_row OpSahf c i next = sahf_row c next
op_row OpLahf c i next = lahf_row c next
op_row OpWait c i next = wait_row c next
op_row OpMovs c i next = movs_row c i next
op_row OpCmps c i next = cmps_row c i next
op_row OpStos c i next = stos_row c i next
op_row OpLods c i next = lods_row c i next
op_row OpScas c i next = scas_row c i next
op_row OpJo c i next = jcc_row (is_set c.flags Overflow) c i next
op_row OpJno c i next = jcc_row (not (is_set c.flags Overflow)) c i next
op_row OpJb c i next = jcc_row (is_set c.flags Carry) c i next
op_row OpJae c i next = jcc_row (not (is_set c.flags Carry)) c i next
op_row OpJe c i next = jcc_row (is_set c.flags Zero) c i next
op_row OpJne c i next = jcc_row (not (is_set c.flags Zero)) c i next
op_row OpJbe c i next = jcc_row (is_set c.flags Carry || is_set c.flags Zero) c i next
op_row OpJa c i next = jcc_row (not (is_set c.flags Carry || is_set c.flags Zero)) c i next
op_row OpJs c i next = jcc_row (is_set c.flags Sign) c i next
op_row OpJns c i next = jcc_row (not (is_set c.flags Sign)) c i next
op_row OpJp c i next = jcc_row (is_set c.flags Parity) c i next
op_row OpJnp c i next = jcc_row (not (is_set c.flags Parity)) c i next
op_row OpJl c i next = jcc_row (is_less c.flags) c i next
op_row OpJge c i next = jcc_row (not (is_less c.flags)) c i next
op_row OpJle c i next = jcc_row (is_set c.flags Zero || is_less c.flags) c i next
op_row OpJg c i next = jcc_row (not (is_set c.flags Zero || is_less c.flags)) c i next
op_row OpLoop c i next = loop_row true c _ next
op_row OpLoope c i next = loop_row (is_set c.flags Zero) c _ next
op_row OpLoopne c i next = loop_row (not (is_set c.flags Zero)) c _ next
op_row OpJcxz c i next = jmp_if_row c 1 (c.cx == 0) c _ next (kept c)
op_row OpJmp c i next = jmp_row c 1 c _ (kept c)
op_row OpJmpAt c i next = valued_row c 1 c Word i.left _ (λ ip. jmp_row c 1 c ip (kept c))
op_row OpJmpFar c i next = pair_row c 1 c i.left _ (λ ip cs. jmp_far_row c ip cs next)
op_row OpJmpFarAt c i next = pair_row c 1 c i.left _ (λ ip cs. jmp_far_row c ip cs next)
op_row OpCall c i next = call_row c _ next
op_row OpCallAt c i next = valued_row c 1 c Word i.left _ (λ ip. call_row c ip next)
op_row OpCallFar c i next = pair_row c 1 c i.left _ (λ ip cs. call_far_row c ip cs next)
op_row OpCallFarAt c i next = pair_row c 1 c i.left _ (λ ip cs. call_far_row c ip cs next)
op_row OpRet c i next = ret_row c _
op_row OpRetf c i next = retf_row c _ next
op_row OpIret c i next = iret_row c next
op_row OpInt c i next = interrupt_row c (immediate i.left)
op_row OpIntThree c i next = tt
op_row OpInto c i next = trap_if_row (is_set c.flags Overflow) 4 c next
op_row OpBound c i next = bound_row c i next
op_row OpEnter c i next = enter_row c _ _ next
op_row OpLeave c i next = leave_row c next
op_row OpLar c i next = lar_row c i next
op_row OpLsl c i next = lsl_row c i next
op_row OpVerr c i next = verify_row is_readable c i next
op_row OpVerw c i next = verify_row is_writable c i next
op_row OpArpl c i next = arpl_row c i next
op_row OpEsc c i next = tt
op_row OpIn c i next = tt
op_row OpOut c i next = tt
op_row OpIns c i next = tt
op_row OpOuts c i next = tt
op_row OpCli c i next = tt
op_row OpSti c i next = tt
op_row OpHlt c i next = tt
op_row OpLldt c i next = tt
op_row OpLtr c i next = tt
op_row OpLgdt c i next = tt
op_row OpLidt c i next = tt
op_row OpLmsw c i next = tt
op_row OpClts c i next = tt
op_row OpSldt c i next = tt
op_row OpStr c i next = tt
op_row OpSgdt c i next = tt
op_row OpSidt c i next = tt
op_row OpSmsw c i next = tt

pub steps_are_rows : (c : Cpu) (i : Instr) (next : ℕ) → IsRow c 1 (steps_of c i next)
unfolding steps_of
steps_are_rows c i next = by_lock i.lock
  where
    by_lock : (b : Bool) → IsRow c 1 (behind (cond b (Err (stop.Trap 13 0)) (Ok 0)) (op_steps i.op c i next))
    by_lock true = tt
    by_lock false = op_row i.op c i next
