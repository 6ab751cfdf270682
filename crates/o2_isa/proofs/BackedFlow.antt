-- Each row of the flow and of the string instructions binds selectors that passed the load rules of their registers.
use Rattle.std.proofs.Common.{ℕ, zero, suc, ◌+◌, ◌-◌, ◌%◌, Bool, true, []}
use Rattle.std.specs.Prelude.{Option, Some, None, nat_lt}
use Rattle.o2_isa.specs.declared.instr.Width.TheVariants.{Word}
use Rattle.o2_isa.specs.declared.instr.Instr.{Instr}
use Rattle.o2_isa.specs.declared.flags.Flag.TheVariants.{Nested}
use Rattle.o2_isa.specs.declared.cpu.Cpu.{Cpu}
use Rattle.o2_isa.specs.declared.cpu.Stop.TheVariants as stop
use Rattle.o2_isa.specs.Flags.{is_set}
use Rattle.o2_isa.specs.Steps.{Steps, Stops, Ends, next_at, one_less, below}
use Rattle.o2_isa.specs.FlowJumps.{jmp, jmp_if, jcc, loop_if, jmp_far}
use Rattle.o2_isa.specs.FlowCalls.{call, call_far, ret, retf, iret, iret_unnested}
use Rattle.o2_isa.specs.FlowFrames.{reading_down, room_down, frames, pushed_frames, entering, enter, leave}
use Rattle.o2_isa.specs.FlowInterrupts.{bound, trap_if}
use Rattle.o2_isa.specs.FlowProtection.{with_zero, told, lar, lsl, verify, arpl, high_half, limit_of}
use Rattle.o2_isa.specs.StringRows.{movs, stos, lods, cmps, scas, is_over, repeating}
use Rattle.o2_isa.proofs.Backing.{Ground, AreBacked, IsBacked, either_backed, valued_backed, pair_backed, storing_backed, within_backed, jump_returns, call_returns}

-- Jumps.

pub jmp_backed : (v : Ground) (c : Cpu) (ip : ℕ) → IsBacked v (jmp c ip)
unfolding jmp
jmp_backed v c ip = within_backed v _ ip _ tt

pub jmp_if_backed : (v : Ground) (taken : Bool) (c : Cpu) (ip next : ℕ) → IsBacked v (jmp_if taken c ip next)
unfolding jmp_if
jmp_if_backed v taken c ip next = either_backed v taken _ _ (jmp_backed v c ip) tt

pub jcc_backed : (v : Ground) (taken : Bool) (c : Cpu) (i : Instr) (next : ℕ) → IsBacked v (jcc taken c i next)
jcc_backed v taken c i next = jmp_if_backed v taken c _ next

pub loop_backed : (v : Ground) (more : Bool) (c : Cpu) (ip next : ℕ) → IsBacked v (loop_if more c ip next)
unfolding loop_if
loop_backed v more c ip next = jmp_if_backed v _ (record c { cx = one_less c.cx }) ip next

pub jmp_far_backed : (v : Ground) (c : Cpu) (ip cs next : ℕ) → IsBacked v (jmp_far c ip cs next)
unfolding jmp_far
jmp_far_backed v c ip cs next = λ p. within_backed v cs ip _ (jump_returns v cs p, tt)

-- Calls and returns.

pub call_backed : (v : Ground) (c : Cpu) (ip next : ℕ) → IsBacked v (call c ip next)
unfolding call
call_backed v c ip next = within_backed v _ ip _ tt

pub call_far_backed : (v : Ground) (c : Cpu) (ip cs next : ℕ) → IsBacked v (call_far c ip cs next)
unfolding call_far
call_far_backed v c ip cs next = λ p. within_backed v cs ip _ (call_returns v cs p, tt)

pub ret_backed : (v : Ground) (c : Cpu) (n : ℕ) → IsBacked v (ret c n)
unfolding ret
ret_backed v c n = λ ip. within_backed v _ ip _ tt

pub retf_backed : (v : Ground) (c : Cpu) (n next : ℕ) → IsBacked v (retf c n next)
unfolding retf
retf_backed v c n next = λ ip cs p. within_backed v cs ip _ (p, tt)

pub unnested_backed : (v : Ground) (c : Cpu) (next : ℕ) → IsBacked v (iret_unnested c next)
unfolding iret_unnested
unnested_backed v c next = λ ip cs word p. within_backed v cs ip _ (p, tt)

pub iret_backed : (v : Ground) (c : Cpu) (next : ℕ) → IsBacked v (iret c next)
iret_backed v c next = either_backed v (is_set c.flags Nested) (Stops (stop.Trap 13 0)) _ tt (unnested_backed v c next)

-- Traps.

pub trap_if_backed : (v : Ground) (b : Bool) (vector : ℕ) (c : Cpu) (next : ℕ) → IsBacked v (trap_if b vector c next)
trap_if_backed v b vector c next = either_backed v b (Stops (stop.Trap vector 0)) (Ends (next_at c next) []) tt tt

pub bound_backed : (v : Ground) (c : Cpu) (i : Instr) (next : ℕ) → IsBacked v (bound c i next)
unfolding bound
bound_backed v c i next = valued_backed v c _ i.left _ (λ x. pair_backed v c i.right _ (λ low high. trap_if_backed v _ 5 c next))

-- Frames.

pub reading_backed : (v : Ground) (k at : ℕ) (p : Steps) → IsBacked v p → IsBacked v (reading_down k at p)
reading_backed v zero at p h = h
reading_backed v (suc k) at p h = λ x. reading_backed v k (below at) p h

pub room_backed : (v : Ground) (k at : ℕ) (p : Steps) → IsBacked v p → IsBacked v (room_down k at p)
room_backed v zero at p h = h
room_backed v (suc k) at p h = room_backed v k (below at) p h

pub frames_backed : (v : Ground) (k from to frame : ℕ) → AreBacked v (frames k from to frame)
frames_backed v zero from to frame = tt
frames_backed v (suc k) from to frame = frames_backed v k (below from) (below to) frame

pub pushed_backed : (v : Ground) (level : ℕ) (c : Cpu) → AreBacked v (pushed_frames level c)
pushed_backed v zero c = tt
pushed_backed v (suc k) c = frames_backed v k _ _ _

pub entering_backed : (v : Ground) (level : ℕ) (c : Cpu) (size next : ℕ) → IsBacked v (entering level c size next)
entering_backed v level c size next = reading_backed v (level - 1) (below c.bp) _ (room_backed v (level + 1) (below c.sp) _ (pushed_backed v level c))

pub enter_backed : (v : Ground) (c : Cpu) (size level next : ℕ) → IsBacked v (enter c size level next)
unfolding enter
enter_backed v c size level next = entering_backed v (level % 32) c size next

pub leave_backed : (v : Ground) (c : Cpu) (next : ℕ) → IsBacked v (leave c next)
unfolding leave
leave_backed v c next = λ x. tt

-- Selectors.

pub told_backed : (v : Ground) (c : Cpu) (i : Instr) (next : ℕ) (o : Option ℕ) → IsBacked v (told c i next o)
told_backed v c i next (Some x) = storing_backed v (with_zero c true) Word i.left x next
told_backed v c i next None = tt

pub lar_backed : (v : Ground) (c : Cpu) (i : Instr) (next : ℕ) → IsBacked v (lar c i next)
unfolding lar
lar_backed v c i next = valued_backed v c _ i.right _ (λ s r. told_backed v c i next (high_half r))

pub lsl_backed : (v : Ground) (c : Cpu) (i : Instr) (next : ℕ) → IsBacked v (lsl c i next)
unfolding lsl
lsl_backed v c i next = valued_backed v c _ i.right _ (λ s n. told_backed v c i next (limit_of n))

pub verify_backed : (v : Ground) (ok : ℕ → Bool) (c : Cpu) (i : Instr) (next : ℕ) → IsBacked v (verify ok c i next)
unfolding verify
verify_backed v ok c i next = valued_backed v c _ i.left _ (λ s r. tt)

pub arpl_backed : (v : Ground) (c : Cpu) (i : Instr) (next : ℕ) → IsBacked v (arpl c i next)
unfolding arpl
arpl_backed v c i next = valued_backed v c _ i.left _ (λ a. valued_backed v c _ i.right _ (λ b. either_backed v (nat_lt (a % 4) (b % 4)) _ _ (storing_backed v (with_zero c true) Word i.left _ next) tt))

-- Strings.

repeating_backed : (v : Ground) (c : Cpu) (i : Instr) (next : ℕ) (p : Steps) → IsBacked v p → IsBacked v (repeating c i next p)
repeating_backed v c i next p h = either_backed v (is_over i.rep c.cx) (Ends (next_at c next) []) p tt h

pub movs_backed : (v : Ground) (c : Cpu) (i : Instr) (next : ℕ) → IsBacked v (repeating c i next (movs c i next))
unfolding movs
movs_backed v c i next = repeating_backed v c i next _ (λ x. tt)

pub cmps_backed : (v : Ground) (c : Cpu) (i : Instr) (next : ℕ) → IsBacked v (repeating c i next (cmps c i next))
unfolding cmps
cmps_backed v c i next = repeating_backed v c i next _ (λ a b. tt)

pub stos_backed : (v : Ground) (c : Cpu) (i : Instr) (next : ℕ) → IsBacked v (repeating c i next (stos c i next))
unfolding stos
stos_backed v c i next = repeating_backed v c i next _ tt

pub lods_backed : (v : Ground) (c : Cpu) (i : Instr) (next : ℕ) → IsBacked v (repeating c i next (lods c i next))
unfolding lods
lods_backed v c i next = repeating_backed v c i next _ (λ x. tt)

pub scas_backed : (v : Ground) (c : Cpu) (i : Instr) (next : ℕ) → IsBacked v (repeating c i next (scas c i next))
unfolding scas
scas_backed v c i next = repeating_backed v c i next _ (λ b. tt)
