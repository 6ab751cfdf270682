-- How taking an operand, finishing and exchanging run.
use Rattle.std.proofs.Common.{◌≡◌, refl, ◌∙◌, ℕ}
use Rattle.std.specs.Prelude.{Result, Ok, Err}
use Rattle.o2_isa.specs.declared.instr.Width.{Width}
use Rattle.o2_isa.specs.declared.instr.Arg.{Arg}
use Rattle.o2_isa.specs.declared.instr.Arg.TheVariants as arg
use Rattle.o2_isa.specs.declared.cpu.Cpu.{Cpu}
use Rattle.o2_isa.specs.declared.cpu.Stop.{Stop}
use Rattle.o2_isa.specs.View.{View, room_of, poke}
use Rattle.o2_isa.specs.Registers.{offset_of}
use Rattle.o2_isa.specs.Steps.{State, Steps, run, state, next_at, value_of, stored, or_trap, narrow, ◌>>=◌}
use Rattle.o2_isa.specs.Finishing.{taken_of, taking, placed, ended, finishing}
use Rattle.o2_isa.specs.DataMoves.{exchanging}
use Rattle.o2_isa.proofs.Runs.{run_valued}

narrow_first : (w : Width) (r : Result ℕ Stop) (h : ℕ → Result State Stop) → (r >>= (λ x. h (narrow w x))) ≡ ((r >>= (λ x. Ok (narrow w x))) >>= h)
narrow_first w (Ok x) h = refl
narrow_first w (Err e) h = refl

pub run_taking : (c : Cpu) (w : Width) (a : Arg) (f : ℕ → Steps) (v : View) → run (taking c w a f) v ≡ (taken_of (state c v) w a >>= (λ x. run (f x) v))
unfolding taking
run_taking c w a f v = run_valued c w a (λ x. f (narrow w x)) v ∙ narrow_first w (value_of (state c v) w a) (λ x. run (f x) v)

after_room : (r : Result ℕ Stop) (t : State) (h : State → Result State Stop) → (r >>= (λ _. h t)) ≡ ((r >>= (λ (_ : ℕ). Ok t)) >>= h)
after_room (Ok x) t h = refl
after_room (Err e) t h = refl

abbrev with_end : State → ℕ → ℕ → State
with_end t f next = state (ended t.cpu f next) t.view

pub run_finishing : (c : Cpu) (w : Width) (a : Arg) (x f next : ℕ) (v : View) → run (finishing c w a x f next) v ≡ (stored (state c v) w a x >>= (λ t. Ok (state (ended t.cpu f next) t.view)))
unfolding finishing
run_finishing c w (arg.R8 n) x f next v = refl
run_finishing c w (arg.R16 n) x f next v = refl
run_finishing c w (arg.S r) x f next v = refl
run_finishing c w (arg.M ea) x f next v = after_room (or_trap (room_of v ea.seg (offset_of c ea) w)) (state c (poke v ea.seg (offset_of c ea) w (narrow w x))) (λ t. Ok (with_end t f next))
run_finishing c w (arg.Imm n) x f next v = refl
run_finishing c w arg.No x f next v = refl
run_finishing c w (arg.Far o t) x f next v = refl

pub run_exchanging : (c : Cpu) (w : Width) (left : Arg) (b : ℕ) (right : Arg) (a next : ℕ) (v : View) → run (exchanging c w left b right a next) v ≡ (stored (state c v) w left b >>= (λ t. Ok (state (next_at (placed t.cpu right a) next) t.view)))
unfolding exchanging placed
run_exchanging c w (arg.R8 n) b right a next v = refl
run_exchanging c w (arg.R16 n) b right a next v = refl
run_exchanging c w (arg.S r) b right a next v = refl
run_exchanging c w (arg.M ea) b right a next v = after_room (or_trap (room_of v ea.seg (offset_of c ea) w)) (state c (poke v ea.seg (offset_of c ea) w (narrow w b))) (λ t. Ok (state (next_at (placed t.cpu right a) next) t.view))
run_exchanging c w (arg.Imm n) b right a next v = refl
run_exchanging c w arg.No b right a next v = refl
run_exchanging c w (arg.Far o t) b right a next v = refl
