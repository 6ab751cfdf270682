-- Each row of the flow instructions misses only by its load, of which it has one at most, writes before it binds, and binds the
-- selectors that it leaves.
use Rattle.std.proofs.Common.{refl, ℕ, zero, suc, ◌+◌, ◌-◌, ◌*◌, ◌%◌, Bool, true, false, cond, ◌==◌, sym, subst, ◌≡◌}
use Rattle.std.specs.Prelude.{Option, Some, None, nat_lt}
use Rattle.o2_isa.specs.declared.instr.Width.TheVariants.{Word}
use Rattle.o2_isa.specs.declared.instr.Instr.{Instr}
use Rattle.o2_isa.specs.declared.flags.Flag.TheVariants.{Nested}
use Rattle.o2_isa.specs.declared.cpu.Cpu.{Cpu}
use Rattle.o2_isa.specs.declared.cpu.Stop.TheVariants as stop
use Rattle.o2_isa.specs.Flags.{is_set}
use Rattle.o2_isa.specs.Steps.{Steps, Stops, one_less, below}
use Rattle.o2_isa.specs.FlowJumps.{jmp, jmp_if, jcc, loop_if, jmp_far}
use Rattle.o2_isa.specs.FlowCalls.{call, call_far, ret, retf, iret, iret_unnested}
use Rattle.o2_isa.specs.FlowFrames.{down, reading_down, room_down, frames, pushed_frames, entering, enter, leave}
use Rattle.o2_isa.specs.FlowInterrupts.{interrupt, bound, trap_if}
use Rattle.o2_isa.specs.FlowProtection.{with_zero, told, lar, lsl, verify, arpl, high_half, limit_of}
use Rattle.o2_isa.specs.Presence.{IsRow, WritesFirst, SameSelectors, with_binds}
use Rattle.o2_isa.proofs.RowParts.{kept, at_next, valued_row, pair_row, storing_row, within_row}

either : (d : Cpu) (n : ℕ) (b : Bool) (p q : Steps) → IsRow d n p → IsRow d n q → IsRow d n (cond b p q)
either d n true p q h k = h
either d n false p q h k = k

-- Jumps.

pub jmp_row : (d : Cpu) (n : ℕ) (c : Cpu) (ip : ℕ) → SameSelectors c d → IsRow d n (jmp c ip)
unfolding jmp
jmp_row d n c ip s = within_row d n _ _ _ (tt, at_next c d _ s)

pub jmp_if_row : (d : Cpu) (n : ℕ) (taken : Bool) (c : Cpu) (ip next : ℕ) → SameSelectors c d → IsRow d n (jmp_if taken c ip next)
unfolding jmp_if
jmp_if_row d n taken c ip next s = either d n taken _ _ (jmp_row d n c ip s) (tt, at_next c d next s)

pub jcc_row : (taken : Bool) (c : Cpu) (i : Instr) (next : ℕ) → IsRow c 1 (jcc taken c i next)
jcc_row taken c i next = jmp_if_row c 1 taken c _ next (kept c)

pub loop_row : (more : Bool) (c : Cpu) (ip next : ℕ) → IsRow c 1 (loop_if more c ip next)
unfolding loop_if
loop_row more c ip next = jmp_if_row c 1 _ (record c { cx = one_less c.cx }) ip next (record { es = refl; cs = refl; ss = refl; ds = refl })

pub jmp_far_row : (c : Cpu) (ip cs next : ℕ) → IsRow c 1 (jmp_far c ip cs next)
unfolding jmp_far
jmp_far_row c ip cs next = within_row c 0 cs ip _ (tt, record { es = refl; cs = refl; ss = refl; ds = refl })

-- Calls and returns.

pub call_row : (c : Cpu) (ip next : ℕ) → IsRow c 1 (call c ip next)
unfolding call
call_row c ip next = within_row c 1 _ ip _ (tt, record { es = refl; cs = refl; ss = refl; ds = refl })

pub call_far_row : (c : Cpu) (ip cs next : ℕ) → IsRow c 1 (call_far c ip cs next)
unfolding call_far
call_far_row c ip cs next = within_row c 0 cs ip _ (tt, record { es = refl; cs = refl; ss = refl; ds = refl })

pub ret_row : (c : Cpu) (n : ℕ) → IsRow c 1 (ret c n)
unfolding ret
ret_row c n = λ ip. within_row c 1 _ ip _ (tt, record { es = refl; cs = refl; ss = refl; ds = refl })

pub retf_row : (c : Cpu) (n next : ℕ) → IsRow c 1 (retf c n next)
unfolding retf
retf_row c n next = λ ip cs. within_row c 0 cs ip _ (tt, record { es = refl; cs = refl; ss = refl; ds = refl })

pub unnested_row : (c : Cpu) (next : ℕ) → IsRow c 1 (iret_unnested c next)
unfolding iret_unnested
unnested_row c next = λ ip cs word. within_row c 0 cs ip _ (tt, record { es = refl; cs = refl; ss = refl; ds = refl })

pub iret_row : (c : Cpu) (next : ℕ) → IsRow c 1 (iret c next)
iret_row c next = either c 1 (is_set c.flags Nested) _ _ tt (unnested_row c next)

-- Traps.

pub interrupt_row : (c : Cpu) (n : ℕ) → IsRow c 1 (Stops (interrupt n))
interrupt_row c n = go (n == 3) (n == 4)
  where
    go : (a b : Bool) → IsRow c 1 (Stops (cond a (stop.Trap 3 0) (cond b (stop.Trap 4 0) (stop.Trap 13 ((8 * n + 2) % 65536)))))
    go true b = tt
    go false true = tt
    go false false = tt

pub trap_if_row : (b : Bool) (vector : ℕ) (c : Cpu) (next : ℕ) → IsRow c 1 (trap_if b vector c next)
trap_if_row b vector c next = either c 1 b _ _ tt (tt, at_next c c next (kept c))

pub bound_row : (c : Cpu) (i : Instr) (next : ℕ) → IsRow c 1 (bound c i next)
unfolding bound
bound_row c i next = valued_row c 1 c _ i.left _ (λ x. pair_row c 1 c i.right _ (λ low high. trap_if_row _ 5 c next))

-- Frames.

pub reading_row : (d : Cpu) (k at : ℕ) (p : Steps) → IsRow d 1 p → IsRow d 1 (reading_down k at p)
reading_row d zero at p h = h
reading_row d (suc k) at p h = λ x. reading_row d k (below at) p h

pub room_row : (d : Cpu) (k at : ℕ) (p : Steps) → IsRow d 1 p → IsRow d 1 (room_down k at p)
room_row d zero at p h = h
room_row d (suc k) at p h = room_row d k (below at) p h

frames_first : (k from to frame : ℕ) → WritesFirst (frames k from to frame)
frames_first zero from to frame = tt
frames_first (suc k) from to frame = frames_first k (below from) (below to) frame

frames_bind : (k from to frame : ℕ) (c : Cpu) → with_binds (frames k from to frame) c ≡ c
frames_bind zero from to frame c = refl
frames_bind (suc k) from to frame c = frames_bind k (below from) (below to) frame c

pushed_first : (level : ℕ) (c : Cpu) → WritesFirst (pushed_frames level c)
pushed_first zero c = tt
pushed_first (suc k) c = frames_first k _ _ _

pushed_bind : (level : ℕ) (c d : Cpu) → with_binds (pushed_frames level c) d ≡ d
pushed_bind zero c d = refl
pushed_bind (suc k) c d = frames_bind k _ _ _ d

pub entering_row : (level : ℕ) (c : Cpu) (size next : ℕ) → IsRow c 1 (entering level c size next)
entering_row level c size next =
    reading_row c (level - 1) (below c.bp) _
    (room_row c (level + 1) (below c.sp) _
    (pushed_first level c, subst (SameSelectors (record c { sp = down (down (below c.sp) (2 * level)) size; bp = below c.sp; ip = next })) (sym (pushed_bind level c c)) (record { es = refl; cs = refl; ss = refl; ds = refl })))

pub enter_row : (c : Cpu) (size level next : ℕ) → IsRow c 1 (enter c size level next)
unfolding enter
enter_row c size level next = entering_row (level % 32) c size next

pub leave_row : (c : Cpu) (next : ℕ) → IsRow c 1 (leave c next)
unfolding leave
leave_row c next = λ x. (tt, record { es = refl; cs = refl; ss = refl; ds = refl })

-- Selectors.

zero_kept : (c : Cpu) (b : Bool) → SameSelectors (with_zero c b) c
zero_kept c b = record { es = refl; cs = refl; ss = refl; ds = refl }

pub told_row : (c : Cpu) (i : Instr) (next : ℕ) (o : Option ℕ) → IsRow c 1 (told c i next o)
told_row c i next (Some x) = storing_row c 1 (with_zero c true) Word i.left x next (zero_kept c true)
told_row c i next None = (tt, at_next (with_zero c false) c next (zero_kept c false))

pub lar_row : (c : Cpu) (i : Instr) (next : ℕ) → IsRow c 1 (lar c i next)
unfolding lar
lar_row c i next = valued_row c 1 c _ i.right _ (λ s r. told_row c i next (high_half r))

pub lsl_row : (c : Cpu) (i : Instr) (next : ℕ) → IsRow c 1 (lsl c i next)
unfolding lsl
lsl_row c i next = valued_row c 1 c _ i.right _ (λ s n. told_row c i next (limit_of n))

pub verify_row : (ok : ℕ → Bool) (c : Cpu) (i : Instr) (next : ℕ) → IsRow c 1 (verify ok c i next)
unfolding verify
verify_row ok c i next = valued_row c 1 c _ i.left _ (λ s r. (tt, at_next _ c next (zero_kept c _)))

pub arpl_row : (c : Cpu) (i : Instr) (next : ℕ) → IsRow c 1 (arpl c i next)
unfolding arpl
arpl_row c i next = valued_row c 1 c _ i.left _ (λ a. valued_row c 1 c _ i.right _ (λ b. either c 1 (nat_lt (a % 4) (b % 4)) _ _ (storing_row c 1 (with_zero c true) Word i.left _ next (zero_kept c true)) (tt, at_next (with_zero c false) c next (zero_kept c false))))
