-- Each row of the data instructions misses only by its loads, of which it has one at most, writes before it binds, and binds
-- the selectors that it leaves.
use Rattle.std.proofs.Common.{refl, ℕ, ◌%◌, Bool}
use Rattle.std.specs.Prelude.{Option, Some, None}
use Rattle.o2_isa.specs.declared.instr.Width.{Width}
use Rattle.o2_isa.specs.declared.instr.Width.TheVariants.{Byte, Word}
use Rattle.o2_isa.specs.declared.instr.Arg.{Arg}
use Rattle.o2_isa.specs.declared.instr.Arg.TheVariants as arg
use Rattle.o2_isa.specs.declared.families.BinaryOp.{BinaryOp}
use Rattle.o2_isa.specs.declared.families.UnaryOp.{UnaryOp}
use Rattle.o2_isa.specs.declared.families.ShiftOp.{ShiftOp}
use Rattle.o2_isa.specs.declared.families.AdjustOp.{AdjustOp}
use Rattle.o2_isa.specs.declared.flags.Flag.{Flag}
use Rattle.o2_isa.specs.declared.instr.Instr.{Instr}
use Rattle.o2_isa.specs.declared.instr.Sreg.{Sreg}
use Rattle.o2_isa.specs.declared.cpu.Cpu.{Cpu}
use Rattle.o2_isa.specs.Steps.{Steps, next_at}
use Rattle.o2_isa.specs.Finishing.{taking, placed, finishing, ended}
use Rattle.o2_isa.specs.DataMoves.{loading, mov_sreg, mov_into, mov, exchanging, xchg, lea, load_pointer, xlat, cbw, cwd}
use Rattle.o2_isa.specs.DataStack.{pushing, push, pushf, raised, pop_sreg, pop_into, pop, popf, pusha, popa}
use Rattle.o2_isa.specs.DataArith.{binary, unary, shift, with_wide, with_quotient, mul, imul_three, divided, div, adjusted, adjust}
use Rattle.o2_isa.specs.DataFlags.{flagging, sahf, lahf, wait}
use Rattle.o2_isa.specs.Presence.{IsRow, SameSelectors}
use Rattle.o2_isa.proofs.RowParts.{kept, byte_kept, word_kept, valued_row, storing_row, at_next, sreg_kept}

-- The parts of rows.

pub taking_row : (d : Cpu) (n : ℕ) (c : Cpu) (w : Width) (a : Arg) (f : ℕ → Steps) → ((x : ℕ) → IsRow d n (f x)) → IsRow d n (taking c w a f)
unfolding taking
taking_row d n c w a f h = valued_row d n c w a _ (λ x. h _)

placed_kept : (c d : Cpu) (a : Arg) (x : ℕ) → SameSelectors c d → SameSelectors (placed c a x) d
unfolding placed
placed_kept c d (arg.R8 k) x s = byte_kept c d k (x % 256) s
placed_kept c d (arg.R16 k) x s = word_kept c d k x s
placed_kept c d (arg.S r) x s = s
placed_kept c d (arg.M ea) x s = s
placed_kept c d (arg.Imm k) x s = s
placed_kept c d arg.No x s = s
placed_kept c d (arg.Far o t) x s = s

at_end : (c d : Cpu) (f next : ℕ) → SameSelectors c d → SameSelectors (ended c f next) d
at_end c d f next s = record { es = s.es; cs = s.cs; ss = s.ss; ds = s.ds }

pub finishing_row : (d : Cpu) (n : ℕ) (c : Cpu) (w : Width) (a : Arg) (x f next : ℕ) → SameSelectors c d → IsRow d n (finishing c w a x f next)
unfolding finishing
finishing_row d n c w (arg.R8 k) x f next s = (tt, at_end _ d f next (byte_kept c d k (x % 256) s))
finishing_row d n c w (arg.R16 k) x f next s = (tt, at_end _ d f next (word_kept c d k x s))
finishing_row d n c w (arg.S r) x f next s = (tt, at_end c d f next s)
finishing_row d n c w (arg.M ea) x f next s = (tt, at_end c d f next s)
finishing_row d n c w (arg.Imm k) x f next s = (tt, at_end c d f next s)
finishing_row d n c w arg.No x f next s = (tt, at_end c d f next s)
finishing_row d n c w (arg.Far o t) x f next s = (tt, at_end c d f next s)

pub loading_row : (d : Cpu) (c : Cpu) (r : Sreg) (x next : ℕ) → SameSelectors c d → IsRow d 1 (loading c r x next)
unfolding loading
loading_row d c r x next s = (tt, sreg_kept c d r x next s)

-- Arithmetic.

pub binary_row : (op : BinaryOp) (c : Cpu) (i : Instr) (next : ℕ) → IsRow c 1 (binary op c i next)
unfolding binary
binary_row op c i next = taking_row c 1 c i.width i.left _ (λ a. taking_row c 1 c i.width i.right _ (λ b. finishing_row c 1 c i.width _ _ _ next (kept c)))

pub unary_row : (op : UnaryOp) (c : Cpu) (i : Instr) (next : ℕ) → IsRow c 1 (unary op c i next)
unfolding unary
unary_row op c i next = taking_row c 1 c i.width i.left _ (λ a. finishing_row c 1 c i.width i.left _ _ next (kept c))

pub shift_row : (op : ShiftOp) (c : Cpu) (i : Instr) (next : ℕ) → IsRow c 1 (shift op c i next)
unfolding shift
shift_row op c i next = taking_row c 1 c i.width i.left _ (λ a. taking_row c 1 c Byte i.right _ (λ n. finishing_row c 1 c i.width _ _ _ next (kept c)))

wide_kept : (c : Cpu) (w : Width) (x : ℕ) → SameSelectors (with_wide c w x) c
wide_kept c Byte x = record { es = refl; cs = refl; ss = refl; ds = refl }
wide_kept c Word x = record { es = refl; cs = refl; ss = refl; ds = refl }

pub mul_row : (signed : Bool) (c : Cpu) (i : Instr) (next : ℕ) → IsRow c 1 (mul signed c i next)
unfolding mul
mul_row signed c i next = taking_row c 1 c i.width i.left _ (λ b. (tt, at_end _ c _ next (wide_kept c i.width _)))

pub imul_three_row : (c : Cpu) (i : Instr) (next : ℕ) → IsRow c 1 (imul_three c i next)
unfolding imul_three
imul_three_row c i next = taking_row c 1 c _ i.right _ (λ a. taking_row c 1 c _ i.third _ (λ b. finishing_row c 1 c _ i.left _ _ next (kept c)))

quotient_kept : (c : Cpu) (w : Width) (q r : ℕ) → SameSelectors (with_quotient c w q r) c
quotient_kept c Byte q r = record { es = refl; cs = refl; ss = refl; ds = refl }
quotient_kept c Word q r = record { es = refl; cs = refl; ss = refl; ds = refl }

pub divided_row : (c : Cpu) (w : Width) (o : Option (ℕ × ℕ)) (next : ℕ) → IsRow c 1 (divided c w o next)
divided_row c w None next = tt
divided_row c w (Some r) next = (tt, at_end _ c _ next (quotient_kept c w r.0 r.1))

pub div_row : (signed : Bool) (c : Cpu) (i : Instr) (next : ℕ) → IsRow c 1 (div signed c i next)
unfolding div
div_row signed c i next = taking_row c 1 c i.width i.left _ (λ b. divided_row c i.width _ next)

pub adjusted_row : (c : Cpu) (o : Option (ℕ × ℕ)) (next : ℕ) → IsRow c 1 (adjusted c o next)
adjusted_row c None next = tt
adjusted_row c (Some r) next = (tt, record { es = refl; cs = refl; ss = refl; ds = refl })

pub adjust_row : (op : AdjustOp) (c : Cpu) (i : Instr) (next : ℕ) → IsRow c 1 (adjust op c i next)
unfolding adjust
adjust_row op c i next = taking_row c 1 c _ i.left _ (λ base. adjusted_row c _ next)

-- Moves.

pub mov_sreg_row : (c : Cpu) (r : Sreg) (a : Arg) (next : ℕ) → IsRow c 1 (mov_sreg c r a next)
unfolding mov_sreg
mov_sreg_row c r a next = valued_row c 1 c _ a _ (λ x. loading_row c c r x next (kept c))

pub mov_into_row : (c : Cpu) (i : Instr) (next : ℕ) → IsRow c 1 (mov_into c i next)
unfolding mov_into
mov_into_row c i next = valued_row c 1 c i.width i.right _ (λ x. storing_row c 1 c i.width i.left x next (kept c))

pub mov_row : (c : Cpu) (i : Instr) (a : Arg) (next : ℕ) → IsRow c 1 (mov c i a next)
mov_row c i (arg.S r) next = mov_sreg_row c r i.right next
mov_row c i (arg.R8 n) next = mov_into_row c i next
mov_row c i (arg.R16 n) next = mov_into_row c i next
mov_row c i (arg.M ea) next = mov_into_row c i next
mov_row c i (arg.Imm n) next = mov_into_row c i next
mov_row c i arg.No next = mov_into_row c i next
mov_row c i (arg.Far o t) next = mov_into_row c i next

both_kept : (c : Cpu) (left right : Arg) (a b next : ℕ) → SameSelectors (next_at (placed (placed c left b) right a) next) c
both_kept c left right a b next = at_next _ c next (placed_kept (placed c left b) c right a (placed_kept c c left b (kept c)))

pub exchanging_row : (c : Cpu) (w : Width) (left : Arg) (b : ℕ) (right : Arg) (a next : ℕ) → IsRow c 1 (exchanging c w left b right a next)
unfolding exchanging
exchanging_row c w (arg.M ea) b right a next = (tt, at_next _ c next (placed_kept c c right a (kept c)))
exchanging_row c w (arg.R8 k) b right a next = (tt, both_kept c (arg.R8 k) right a b next)
exchanging_row c w (arg.R16 k) b right a next = (tt, both_kept c (arg.R16 k) right a b next)
exchanging_row c w (arg.S r) b right a next = (tt, both_kept c (arg.S r) right a b next)
exchanging_row c w (arg.Imm k) b right a next = (tt, both_kept c (arg.Imm k) right a b next)
exchanging_row c w arg.No b right a next = (tt, both_kept c arg.No right a b next)
exchanging_row c w (arg.Far o t) b right a next = (tt, both_kept c (arg.Far o t) right a b next)

pub xchg_row : (c : Cpu) (i : Instr) (next : ℕ) → IsRow c 1 (xchg c i next)
unfolding xchg
xchg_row c i next = valued_row c 1 c i.width i.left _ (λ a. valued_row c 1 c i.width i.right _ (λ b. exchanging_row c i.width i.left b i.right a next))

pub lea_row : (c : Cpu) (i : Instr) (next : ℕ) → IsRow c 1 (lea c i next)
unfolding lea
lea_row c i next = storing_row c 1 c _ i.left _ next (kept c)

pub load_pointer_row : (c : Cpu) (r : Sreg) (left a : Arg) (next : ℕ) → IsRow c 1 (load_pointer c r left a next)
unfolding load_pointer
load_pointer_row c r left (arg.M ea) next = λ o s. loading_row c (placed c left o) r s next (placed_kept c c left o (kept c))
load_pointer_row c r left (arg.R8 k) next = tt
load_pointer_row c r left (arg.R16 k) next = tt
load_pointer_row c r left (arg.S s) next = tt
load_pointer_row c r left (arg.Imm k) next = tt
load_pointer_row c r left arg.No next = tt
load_pointer_row c r left (arg.Far o t) next = tt

pub xlat_row : (c : Cpu) (i : Instr) (next : ℕ) → IsRow c 1 (xlat c i next)
unfolding xlat
xlat_row c i next = λ x. storing_row c 1 c _ (arg.R8 0) x next (kept c)

pub cbw_row : (c : Cpu) (next : ℕ) → IsRow c 1 (cbw c next)
unfolding cbw
cbw_row c next = (tt, record { es = refl; cs = refl; ss = refl; ds = refl })

pub cwd_row : (c : Cpu) (next : ℕ) → IsRow c 1 (cwd c next)
unfolding cwd
cwd_row c next = (tt, record { es = refl; cs = refl; ss = refl; ds = refl })

-- The stack.

pub pushing_row : (c : Cpu) (x next : ℕ) → IsRow c 1 (pushing c x next)
unfolding pushing
pushing_row c x next = (tt, record { es = refl; cs = refl; ss = refl; ds = refl })

pub push_row : (c : Cpu) (a : Arg) (next : ℕ) → IsRow c 1 (push c a next)
unfolding push
push_row c a next = valued_row c 1 c _ a _ (λ x. pushing_row c x next)

pub pushf_row : (c : Cpu) (next : ℕ) → IsRow c 1 (pushf c next)
unfolding pushf
pushf_row c next = pushing_row c _ next

raised_kept : (c : Cpu) → SameSelectors (raised c) c
raised_kept c = record { es = refl; cs = refl; ss = refl; ds = refl }

pub pop_sreg_row : (c : Cpu) (r : Sreg) (next : ℕ) → IsRow c 1 (pop_sreg c r next)
unfolding pop_sreg
pop_sreg_row c r next = λ x. loading_row c (raised c) r x next (raised_kept c)

pub pop_into_row : (c : Cpu) (a : Arg) (next : ℕ) → IsRow c 1 (pop_into c a next)
unfolding pop_into
pop_into_row c a next = λ x. storing_row c 1 (raised c) _ a x next (raised_kept c)

pub pop_row : (c : Cpu) (a : Arg) (next : ℕ) → IsRow c 1 (pop c a next)
pop_row c (arg.S r) next = pop_sreg_row c r next
pop_row c (arg.R8 n) next = pop_into_row c (arg.R8 n) next
pop_row c (arg.R16 n) next = pop_into_row c (arg.R16 n) next
pop_row c (arg.M ea) next = pop_into_row c (arg.M ea) next
pop_row c (arg.Imm n) next = pop_into_row c (arg.Imm n) next
pop_row c arg.No next = pop_into_row c arg.No next
pop_row c (arg.Far o t) next = pop_into_row c (arg.Far o t) next

pub popf_row : (c : Cpu) (next : ℕ) → IsRow c 1 (popf c next)
unfolding popf
popf_row c next = λ x. (tt, record { es = refl; cs = refl; ss = refl; ds = refl })

pub pusha_row : (c : Cpu) (next : ℕ) → IsRow c 1 (pusha c next)
unfolding pusha
pusha_row c next = (tt, record { es = refl; cs = refl; ss = refl; ds = refl })

pub popa_row : (c : Cpu) (next : ℕ) → IsRow c 1 (popa c next)
unfolding popa
popa_row c next = λ di si bp dropped bx dx cx ax. (tt, record { es = refl; cs = refl; ss = refl; ds = refl })

-- Flags.

pub flagging_row : (k : Flag) (on : Bool) (c : Cpu) (next : ℕ) → IsRow c 1 (flagging k on c next)
unfolding flagging
flagging_row k on c next = (tt, record { es = refl; cs = refl; ss = refl; ds = refl })

pub sahf_row : (c : Cpu) (next : ℕ) → IsRow c 1 (sahf c next)
unfolding sahf
sahf_row c next = (tt, record { es = refl; cs = refl; ss = refl; ds = refl })

pub lahf_row : (c : Cpu) (next : ℕ) → IsRow c 1 (lahf c next)
unfolding lahf
lahf_row c next = (tt, at_next _ c next (byte_kept c c 4 _ (kept c)))

pub wait_row : (c : Cpu) (next : ℕ) → IsRow c 1 (wait c next)
unfolding wait
wait_row c next = (tt, at_next c c next (kept c))
