-- Reads, room and pushes one below the other: what one more of them adds, and how the checks of ENTER run.
use Rattle.std.proofs.Common.{rules, ◌≡◌, refl, sym, ◌∙◌, ap, arith, zero, suc, ℕ, ◌+◌, ◌-◌, ◌<◌, add-one}
use Rattle.std.specs.Prelude.{Result, Ok, Err, IsOk}
use Rattle.o2_isa.specs.declared.instr.Width.{Width}
use Rattle.o2_isa.specs.declared.instr.Width.TheVariants.{Word}
use Rattle.o2_isa.specs.declared.instr.Sreg.{Sreg}
use Rattle.o2_isa.specs.declared.instr.Sreg.TheVariants.{Ss}
use Rattle.o2_isa.specs.declared.cpu.Stop.{Stop}
use Rattle.o2_isa.specs.View.{View, read_of, room_of, poke}
use Rattle.o2_isa.specs.Steps.{State, Steps, run, changed, word_there, or_trap, below, ◌>>=◌}
use Rattle.o2_isa.specs.FlowFrames.{reading_down, room_down, frames}
use Rattle.o2_isa.proofs.Pokes.{room_of_poke}
use Rattle.o2_exec_flow.specs.Checks.{reads_down, rooms_down}

none : 0 < 0 → ⊥
none h = omega (arith, h)

less : (k : ℕ) → k ≡ suc k - 1
less k = omega arith

pub reads_step : (k at : ℕ) (v : View) → 0 < k → reads_down k at v ≡ (or_trap (read_of v Ss at Word) >>= (λ _. reads_down (k - 1) (below at) v))
reads_step zero at v h = absurd (none h)
reads_step (suc k) at v h = ap (λ (n : ℕ). or_trap (read_of v Ss at Word) >>= (λ _. reads_down n (below at) v)) (less k)

pub rooms_step : (k at : ℕ) (v : View) → 0 < k → rooms_down k at v ≡ (or_trap (room_of v Ss at Word) >>= (λ _. rooms_down (k - 1) (below at) v))
rooms_step zero at v h = absurd (none h)
rooms_step (suc k) at v h = ap (λ (n : ℕ). or_trap (room_of v Ss at Word) >>= (λ _. rooms_down n (below at) v)) (less k)

pub frames_step : (k from to frame : ℕ) (v : View) → 0 < k → changed (frames k from to frame) v ≡ changed (frames (k - 1) (below from) (below to) frame) (poke v Ss to Word (word_there v Ss from))
frames_step zero from to frame v h = absurd (none h)
frames_step (suc k) from to frame v h = ap (λ (n : ℕ). changed (frames n (below from) (below to) frame) (poke v Ss to Word (word_there v Ss from))) (less k)

after : (r : Result ℕ Stop) (a : Result State Stop) (b : Result ℕ Stop) (c : Result State Stop) → a ≡ (b >>= (λ _. c)) → (r >>= (λ _. a)) ≡ ((r >>= (λ _. b)) >>= (λ _. c))
after (Ok x) a b c e = e
after (Err d) a b c e = refl

pub run_reading : (k at : ℕ) (p : Steps) (v : View) → run (reading_down k at p) v ≡ (reads_down k at v >>= (λ _. run p v))
run_reading zero at p v = refl
run_reading (suc k) at p v = after (or_trap (read_of v Ss at Word)) _ _ (run p v) (run_reading k (below at) p v)

pub run_room : (k at : ℕ) (p : Steps) (v : View) → run (room_down k at p) v ≡ (rooms_down k at v >>= (λ _. run p v))
run_room zero at p v = refl
run_room (suc k) at p v = after (or_trap (room_of v Ss at Word)) _ _ (run p v) (run_room k (below at) p v)

-- a store leaves all room
pub rooms_poke : (k at : ℕ) (v : View) (r : Sreg) (j : ℕ) (w : Width) (x : ℕ) → rooms_down k at (poke v r j w x) ≡ rooms_down k at v
rooms_poke zero at v r j w x = refl
rooms_poke (suc k) at v r j w x =
    ap (λ (q : Result ℕ (ℕ × ℕ)). or_trap q >>= (λ _. rooms_down k (below at) (poke v r j w x))) (room_of_poke v r j w x Ss at Word)
    ∙ ap (λ (q : Result ℕ Stop). or_trap (room_of v Ss at Word) >>= (λ _. q)) (rooms_poke k (below at) v r j w x)

split : (r : Result ℕ (ℕ × ℕ)) (q : Result ℕ Stop) → (or_trap r >>= (λ _. q)) ≡ Ok 0 → IsOk r × (q ≡ Ok 0)
split (Ok x) q e = (search rules, e)
split (Err d) q e = cc

pub rooms_first : (k at : ℕ) (v : View) → rooms_down (k + 1) at v ≡ Ok 0 → IsOk (room_of v Ss at Word)
rooms_first k at v e = (split (room_of v Ss at Word) _ (sym (rooms_step (k + 1) at v (omega arith)) ∙ e)).0

pub rooms_rest : (k at : ℕ) (v : View) → rooms_down (k + 1) at v ≡ Ok 0 → rooms_down k (below at) v ≡ Ok 0
rooms_rest k at v e = (split (room_of v Ss at Word) (rooms_down k (below at) v) (sym (one_more k) ∙ e)).1
  where
    one_more : (k : ℕ) → rooms_down (k + 1) at v ≡ (or_trap (room_of v Ss at Word) >>= (λ _. rooms_down k (below at) v))
    one_more k = ap (λ (n : ℕ). rooms_down n at v) (add-one k)
