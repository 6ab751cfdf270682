-- Each row of the data instructions binds selectors that passed the load rules of their registers, but for MOV and POP to CS,
-- which no bytes spell.
use Rattle.std.proofs.Common.{◌≡◌, ℕ, Bool, true, false}
use Rattle.std.specs.Prelude.{Option, Some, None}
use Rattle.o2_isa.specs.declared.instr.Width.{Width}
use Rattle.o2_isa.specs.declared.instr.Width.TheVariants.{Byte}
use Rattle.o2_isa.specs.declared.instr.Arg.{Arg}
use Rattle.o2_isa.specs.declared.instr.Arg.TheVariants as arg
use Rattle.o2_isa.specs.declared.instr.Op.{Op}
use Rattle.o2_isa.specs.declared.instr.Op.TheVariants.{OpMov, OpPop}
use Rattle.o2_isa.specs.declared.families.BinaryOp.{BinaryOp}
use Rattle.o2_isa.specs.declared.families.UnaryOp.{UnaryOp}
use Rattle.o2_isa.specs.declared.families.ShiftOp.{ShiftOp}
use Rattle.o2_isa.specs.declared.families.AdjustOp.{AdjustOp}
use Rattle.o2_isa.specs.declared.flags.Flag.{Flag}
use Rattle.o2_isa.specs.declared.instr.Instr.{Instr}
use Rattle.o2_isa.specs.declared.instr.Sreg.{Sreg}
use Rattle.o2_isa.specs.declared.instr.Sreg.TheVariants.{Es, Cs, Ss, Ds}
use Rattle.o2_isa.specs.declared.cpu.Cpu.{Cpu}
use Rattle.o2_isa.specs.Steps.{Steps}
use Rattle.o2_isa.specs.Finishing.{taking, placed, finishing}
use Rattle.o2_isa.specs.DataMoves.{loading, mov_sreg, mov_into, mov, exchanging, xchg, lea, load_pointer, xlat, cbw, cwd}
use Rattle.o2_isa.specs.DataStack.{pushing, push, pushf, raised, pop_sreg, pop_into, pop, popf, pusha, popa}
use Rattle.o2_isa.specs.DataArith.{binary, unary, shift, mul, imul_three, divided, div, adjusted, adjust}
use Rattle.o2_isa.specs.DataFlags.{flagging, sahf, lahf, wait}
use Rattle.o2_isa.proofs.Backing.{Ground, IsBacked, valued_backed, storing_backed}

-- the operand is CS
abbrev pub names_cs : Arg → Bool
names_cs (arg.S Cs) = true
names_cs _ = false

-- the mnemonics that put a selector into a segment register that is their left operand
abbrev pub puts_selector : Op → Bool
puts_selector OpMov = true
puts_selector OpPop = true
puts_selector _ = false

-- The parts of rows.

pub taking_backed : (v : Ground) (c : Cpu) (w : Width) (a : Arg) (f : ℕ → Steps) → ((x : ℕ) → IsBacked v (f x)) → IsBacked v (taking c w a f)
unfolding taking
taking_backed v c w a f h = valued_backed v c w a _ (λ x. h _)

pub finishing_backed : (v : Ground) (c : Cpu) (w : Width) (a : Arg) (x f next : ℕ) → IsBacked v (finishing c w a x f next)
unfolding finishing
finishing_backed v c w (arg.R8 k) x f next = tt
finishing_backed v c w (arg.R16 k) x f next = tt
finishing_backed v c w (arg.S r) x f next = tt
finishing_backed v c w (arg.M ea) x f next = tt
finishing_backed v c w (arg.Imm k) x f next = tt
finishing_backed v c w arg.No x f next = tt
finishing_backed v c w (arg.Far o t) x f next = tt

pub loading_backed : (v : Ground) (c : Cpu) (r : Sreg) (x next : ℕ) → names_cs (arg.S r) ≡ false → IsBacked v (loading c r x next)
unfolding loading
loading_backed v c Es x next e = λ p. (p, tt)
loading_backed v c Cs x next e = cc
loading_backed v c Ss x next e = λ p. (p, tt)
loading_backed v c Ds x next e = λ p. (p, tt)

-- Arithmetic.

pub binary_backed : (v : Ground) (op : BinaryOp) (c : Cpu) (i : Instr) (next : ℕ) → IsBacked v (binary op c i next)
unfolding binary
binary_backed v op c i next = taking_backed v c i.width i.left _ (λ a. taking_backed v c i.width i.right _ (λ b. finishing_backed v c i.width _ _ _ next))

pub unary_backed : (v : Ground) (op : UnaryOp) (c : Cpu) (i : Instr) (next : ℕ) → IsBacked v (unary op c i next)
unfolding unary
unary_backed v op c i next = taking_backed v c i.width i.left _ (λ a. finishing_backed v c i.width i.left _ _ next)

pub shift_backed : (v : Ground) (op : ShiftOp) (c : Cpu) (i : Instr) (next : ℕ) → IsBacked v (shift op c i next)
unfolding shift
shift_backed v op c i next = taking_backed v c i.width i.left _ (λ a. taking_backed v c Byte i.right _ (λ n. finishing_backed v c i.width _ _ _ next))

pub mul_backed : (v : Ground) (signed : Bool) (c : Cpu) (i : Instr) (next : ℕ) → IsBacked v (mul signed c i next)
unfolding mul
mul_backed v signed c i next = taking_backed v c i.width i.left _ (λ b. tt)

pub imul_three_backed : (v : Ground) (c : Cpu) (i : Instr) (next : ℕ) → IsBacked v (imul_three c i next)
unfolding imul_three
imul_three_backed v c i next = taking_backed v c _ i.right _ (λ a. taking_backed v c _ i.third _ (λ b. finishing_backed v c _ i.left _ _ next))

pub divided_backed : (v : Ground) (c : Cpu) (w : Width) (o : Option (ℕ × ℕ)) (next : ℕ) → IsBacked v (divided c w o next)
divided_backed v c w None next = tt
divided_backed v c w (Some r) next = tt

pub div_backed : (v : Ground) (signed : Bool) (c : Cpu) (i : Instr) (next : ℕ) → IsBacked v (div signed c i next)
unfolding div
div_backed v signed c i next = taking_backed v c i.width i.left _ (λ b. divided_backed v c i.width _ next)

pub adjusted_backed : (v : Ground) (c : Cpu) (o : Option (ℕ × ℕ)) (next : ℕ) → IsBacked v (adjusted c o next)
adjusted_backed v c None next = tt
adjusted_backed v c (Some r) next = tt

pub adjust_backed : (v : Ground) (op : AdjustOp) (c : Cpu) (i : Instr) (next : ℕ) → IsBacked v (adjust op c i next)
unfolding adjust
adjust_backed v op c i next = taking_backed v c _ i.left _ (λ base. adjusted_backed v c _ next)

-- Moves.

pub mov_sreg_backed : (v : Ground) (c : Cpu) (r : Sreg) (a : Arg) (next : ℕ) → names_cs (arg.S r) ≡ false → IsBacked v (mov_sreg c r a next)
unfolding mov_sreg
mov_sreg_backed v c r a next e = valued_backed v c _ a _ (λ x. loading_backed v c r x next e)

pub mov_into_backed : (v : Ground) (c : Cpu) (i : Instr) (next : ℕ) → IsBacked v (mov_into c i next)
unfolding mov_into
mov_into_backed v c i next = valued_backed v c i.width i.right _ (λ x. storing_backed v c i.width i.left x next)

pub mov_backed : (v : Ground) (c : Cpu) (i : Instr) (a : Arg) (next : ℕ) → names_cs a ≡ false → IsBacked v (mov c i a next)
mov_backed v c i (arg.S r) next e = mov_sreg_backed v c r i.right next e
mov_backed v c i (arg.R8 n) next e = mov_into_backed v c i next
mov_backed v c i (arg.R16 n) next e = mov_into_backed v c i next
mov_backed v c i (arg.M ea) next e = mov_into_backed v c i next
mov_backed v c i (arg.Imm n) next e = mov_into_backed v c i next
mov_backed v c i arg.No next e = mov_into_backed v c i next
mov_backed v c i (arg.Far o t) next e = mov_into_backed v c i next

pub exchanging_backed : (v : Ground) (c : Cpu) (w : Width) (left : Arg) (b : ℕ) (right : Arg) (a next : ℕ) → IsBacked v (exchanging c w left b right a next)
unfolding exchanging
exchanging_backed v c w (arg.M ea) b right a next = tt
exchanging_backed v c w (arg.R8 k) b right a next = tt
exchanging_backed v c w (arg.R16 k) b right a next = tt
exchanging_backed v c w (arg.S r) b right a next = tt
exchanging_backed v c w (arg.Imm k) b right a next = tt
exchanging_backed v c w arg.No b right a next = tt
exchanging_backed v c w (arg.Far o t) b right a next = tt

pub xchg_backed : (v : Ground) (c : Cpu) (i : Instr) (next : ℕ) → IsBacked v (xchg c i next)
unfolding xchg
xchg_backed v c i next = valued_backed v c i.width i.left _ (λ a. valued_backed v c i.width i.right _ (λ b. exchanging_backed v c i.width i.left b i.right a next))

pub lea_backed : (v : Ground) (c : Cpu) (i : Instr) (next : ℕ) → IsBacked v (lea c i next)
unfolding lea
lea_backed v c i next = storing_backed v c _ i.left _ next

pub load_pointer_backed : (v : Ground) (c : Cpu) (r : Sreg) (left a : Arg) (next : ℕ) → names_cs (arg.S r) ≡ false → IsBacked v (load_pointer c r left a next)
unfolding load_pointer
load_pointer_backed v c r left (arg.M ea) next e = λ o s. loading_backed v (placed c left o) r s next e
load_pointer_backed v c r left (arg.R8 k) next e = tt
load_pointer_backed v c r left (arg.R16 k) next e = tt
load_pointer_backed v c r left (arg.S s) next e = tt
load_pointer_backed v c r left (arg.Imm k) next e = tt
load_pointer_backed v c r left arg.No next e = tt
load_pointer_backed v c r left (arg.Far o t) next e = tt

pub xlat_backed : (v : Ground) (c : Cpu) (i : Instr) (next : ℕ) → IsBacked v (xlat c i next)
unfolding xlat
xlat_backed v c i next = λ x. storing_backed v c _ (arg.R8 0) x next

-- The stack.

pub pushing_backed : (v : Ground) (c : Cpu) (x next : ℕ) → IsBacked v (pushing c x next)
unfolding pushing
pushing_backed v c x next = tt

pub push_backed : (v : Ground) (c : Cpu) (a : Arg) (next : ℕ) → IsBacked v (push c a next)
unfolding push
push_backed v c a next = valued_backed v c _ a _ (λ x. pushing_backed v c x next)

pub pop_sreg_backed : (v : Ground) (c : Cpu) (r : Sreg) (next : ℕ) → names_cs (arg.S r) ≡ false → IsBacked v (pop_sreg c r next)
unfolding pop_sreg
pop_sreg_backed v c r next e = λ x. loading_backed v (raised c) r x next e

pub pop_into_backed : (v : Ground) (c : Cpu) (a : Arg) (next : ℕ) → IsBacked v (pop_into c a next)
unfolding pop_into
pop_into_backed v c a next = λ x. storing_backed v (raised c) _ a x next

pub pop_backed : (v : Ground) (c : Cpu) (a : Arg) (next : ℕ) → names_cs a ≡ false → IsBacked v (pop c a next)
pop_backed v c (arg.S r) next e = pop_sreg_backed v c r next e
pop_backed v c (arg.R8 n) next e = pop_into_backed v c (arg.R8 n) next
pop_backed v c (arg.R16 n) next e = pop_into_backed v c (arg.R16 n) next
pop_backed v c (arg.M ea) next e = pop_into_backed v c (arg.M ea) next
pop_backed v c (arg.Imm n) next e = pop_into_backed v c (arg.Imm n) next
pop_backed v c arg.No next e = pop_into_backed v c arg.No next
pop_backed v c (arg.Far o t) next e = pop_into_backed v c (arg.Far o t) next

-- What neither stores nor loads, or stores on the stack alone.
pub cbw_backed : (v : Ground) (c : Cpu) (next : ℕ) → IsBacked v (cbw c next)
unfolding cbw
cbw_backed v c next = tt

pub cwd_backed : (v : Ground) (c : Cpu) (next : ℕ) → IsBacked v (cwd c next)
unfolding cwd
cwd_backed v c next = tt

pub flagging_backed : (v : Ground) (k : Flag) (on : Bool) (c : Cpu) (next : ℕ) → IsBacked v (flagging k on c next)
unfolding flagging
flagging_backed v k on c next = tt

pub sahf_backed : (v : Ground) (c : Cpu) (next : ℕ) → IsBacked v (sahf c next)
unfolding sahf
sahf_backed v c next = tt

pub lahf_backed : (v : Ground) (c : Cpu) (next : ℕ) → IsBacked v (lahf c next)
unfolding lahf
lahf_backed v c next = tt

pub wait_backed : (v : Ground) (c : Cpu) (next : ℕ) → IsBacked v (wait c next)
unfolding wait
wait_backed v c next = tt

pub pusha_backed : (v : Ground) (c : Cpu) (next : ℕ) → IsBacked v (pusha c next)
unfolding pusha
pusha_backed v c next = tt

pub popf_backed : (v : Ground) (c : Cpu) (next : ℕ) → IsBacked v (popf c next)
unfolding popf
popf_backed v c next = λ x. tt

pub popa_backed : (v : Ground) (c : Cpu) (next : ℕ) → IsBacked v (popa c next)
unfolding popa
popa_backed v c next = λ di si bp dropped bx dx cx ax. tt

pub pushf_backed : (v : Ground) (c : Cpu) (next : ℕ) → IsBacked v (pushf c next)
unfolding pushf
pushf_backed v c next = pushing_backed v c _ next
