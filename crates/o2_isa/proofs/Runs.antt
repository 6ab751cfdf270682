-- How the common steps run.
use Rattle.std.proofs.Common.{◌≡◌, refl, ℕ, Bool, true, false, cond}
use Rattle.std.specs.Prelude.{Option, Some, None, Result, Ok, Err, nat_lt}
use Rattle.o2_isa.specs.declared.instr.Width.{Width}
use Rattle.o2_isa.specs.declared.instr.Width.TheVariants.{Word}
use Rattle.o2_isa.specs.declared.instr.Arg.{Arg}
use Rattle.o2_isa.specs.declared.instr.Arg.TheVariants as arg
use Rattle.o2_isa.specs.declared.cpu.Cpu.{Cpu}
use Rattle.o2_isa.specs.declared.cpu.Stop.{Stop}
use Rattle.o2_isa.specs.declared.cpu.Stop.TheVariants as stop
use Rattle.o2_isa.specs.View.{View, read_of, room_of, poke, size_at}
use Rattle.o2_isa.specs.Registers.{offset_of}
use Rattle.o2_isa.specs.Steps.{State, Steps, Stops, above, in_size, run, state, at_ip, valued, pair_valued, storing, within, value_of, pair_of, stored, target, or_trap, narrow, ◌>>=◌}

pub run_valued : (c : Cpu) (w : Width) (a : Arg) (f : ℕ → Steps) (v : View) → run (valued c w a f) v ≡ (value_of (state c v) w a >>= (λ x. run (f x) v))
unfolding valued
run_valued c w (arg.R8 n) f v = refl
run_valued c w (arg.R16 n) f v = refl
run_valued c w (arg.S r) f v = refl
run_valued c w (arg.M ea) f v = refl
run_valued c w (arg.Imm n) f v = refl
run_valued c w arg.No f v = refl
run_valued c w (arg.Far o t) f v = refl

two_reads : (p q : Result ℕ Stop) (f : ℕ → ℕ → Result State Stop) → (p >>= (λ x. q >>= (λ y. f x y))) ≡ ((p >>= (λ x. q >>= (λ y. Ok (x, y)))) >>= (λ (z : ℕ × ℕ). f z.0 z.1))
two_reads (Ok x) (Ok y) f = refl
two_reads (Ok x) (Err e) f = refl
two_reads (Err e) q f = refl

pub run_pair : (c : Cpu) (a : Arg) (f : ℕ → ℕ → Steps) (v : View) → run (pair_valued c a f) v ≡ (pair_of (state c v) a >>= (λ p. run (f p.0 p.1) v))
unfolding pair_valued
run_pair c (arg.R8 n) f v = refl
run_pair c (arg.R16 n) f v = refl
run_pair c (arg.S r) f v = refl
run_pair c (arg.M ea) f v = two_reads (or_trap (read_of v ea.seg (offset_of c ea) Word)) (or_trap (read_of v ea.seg (above (offset_of c ea)) Word)) (λ x y. run (f x y) v)
run_pair c (arg.Imm n) f v = refl
run_pair c arg.No f v = refl
run_pair c (arg.Far o t) f v = refl

bound : (r : Result ℕ Stop) (t : State) (h : State → Result State Stop) → (r >>= (λ _. h t)) ≡ ((r >>= (λ (_ : ℕ). Ok t)) >>= h)
bound (Ok x) t h = refl
bound (Err e) t h = refl

pub run_storing : (c : Cpu) (w : Width) (a : Arg) (x next : ℕ) (v : View) → run (storing c w a x next) v ≡ (stored (state c v) w a x >>= (λ t. Ok (at_ip t next)))
unfolding storing
run_storing c w (arg.R8 n) x next v = refl
run_storing c w (arg.R16 n) x next v = refl
run_storing c w (arg.S r) x next v = refl
run_storing c w (arg.M ea) x next v = bound (or_trap (room_of v ea.seg (offset_of c ea) w)) (state c (poke v ea.seg (offset_of c ea) w (narrow w x))) (λ t. Ok (at_ip t next))
run_storing c w (arg.Imm n) x next v = refl
run_storing c w arg.No x next v = refl
run_storing c w (arg.Far o t) x next v = refl

in_bool : (b : Bool) (ip : ℕ) (p : Steps) (v : View) → run (cond b p (Stops (stop.Trap 13 0))) v ≡ (cond b (Ok ip) (Err (stop.Trap 13 0)) >>= (λ (_ : ℕ). run p v))
in_bool true ip p v = refl
in_bool false ip p v = refl

in_size_runs : (o : Option ℕ) (ip : ℕ) (p : Steps) (v : View) → run (in_size o ip p) v ≡ (target o ip >>= (λ _. run p v))
in_size_runs None ip p v = refl
in_size_runs (Some n) ip p v = in_bool (nat_lt ip n) ip p v

pub run_within : (cs ip : ℕ) (p : Steps) (v : View) → run (within cs ip p) v ≡ (target (size_at v cs) ip >>= (λ _. run p v))
unfolding within
run_within cs ip p v = in_size_runs (size_at v cs) ip p v
