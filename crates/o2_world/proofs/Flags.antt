-- The flags of the processes that live.
use Rattle.std.proofs.Common.{◌≡◌, ℕ, zero, suc, ◌-◌, ◌<◌, Bool, true, false, List, [], ◌∷◌, Some, ap, sym, ◌∙◌, refl, arith, slice_index_or, slice_set}
use Rattle.std.specs.Prelude.{slice_get}
use Rattle.o2_world.specs.declared.types.State.{State}
use Rattle.o2_world.specs.declared.types.State.TheVariants.{Live, Exited, Trapped}
use Rattle.o2_world.specs.World.{Process, is_live}
use Rattle.o2_conf.specs.Dispatch.{lives}
use Rattle.o2_world.specs.Holders.{process_at, with_process}
use Rattle.o2_world.specs.Calls.{Effect}
use Rattle.o2_world.specs.Run.{live_flags, process_after}
use Rattle.o2_world.proofs.Numbers.{process_is, with_is}

pub live_is : (s : State) → is_live s ≡ true → s ≡ Live
live_is Live e = refl
live_is (Exited code) e = absurd (cc)
live_is (Trapped vector) e = absurd (cc)

not_both : (b : Bool) → b ≡ true → b ≡ false → ⊥
not_both b e f = cc

live_place : (ps : List Process) (i : ℕ) → slice_index_or (live_flags ps) i false ≡ true
    → (p : Process) × (slice_get ps i ≡ Some p) × (p.state ≡ Live)
live_place [] i e = absurd (not_both _ e refl)
live_place (p ∷ ps) zero e = (p, refl, live_is p.state e)
live_place (p ∷ ps) (suc i) e = live_place ps i e

pub lives_some : (flags : List Bool) (n : ℕ) → lives flags n ≡ true → 0 < n
lives_some flags n e = grind arith

-- a number whose flag is set is that of a process that lives
pub live_process : (ps : List Process) (flags : List Bool) (n : ℕ) → live_flags ps ≡ flags → lives flags n ≡ true
    → (p : Process) × (process_at ps n ≡ Some p) × (p.state ≡ Live)
live_process ps flags n same e =
    let there : slice_index_or flags (n - 1) false ≡ true = grind arith in
    let here = live_place ps (n - 1) (rw same there) in
    (here.0, process_is ps n (lives_some flags n e) ∙ here.1, here.2)

flags_set : (ps : List Process) (i : ℕ) (p : Process) → live_flags (slice_set ps i p) ≡ slice_set (live_flags ps) i (is_live p.state)
flags_set [] i p = refl
flags_set (q ∷ ps) zero p = refl
flags_set (q ∷ ps) (suc i) p = ap (λ z. is_live q.state ∷ z) (flags_set ps i p)

set_same : (flags : List Bool) (i : ℕ) → slice_index_or flags i false ≡ true → slice_set flags i true ≡ flags
set_same [] i e = refl
set_same (b ∷ bs) zero e = ap (λ z. z ∷ bs) (sym e)
set_same (b ∷ bs) (suc i) e = ap (λ z. b ∷ z) (set_same bs i e)

pub state_after : (p : Process) (e : Effect) (b : Bool) → is_live e.state ≡ b → is_live (process_after p e).state ≡ b
state_after p e true is = rw is is
state_after p e false is = rw is is

-- the flags after a step of a process that goes on, and of one that ends
pub flags_after : (ps : List Process) (flags : List Bool) (n : ℕ) (p : Process) (e : Effect) → live_flags ps ≡ flags → lives flags n ≡ true
    → is_live e.state ≡ true
    → live_flags (with_process ps n (process_after p e)) ≡ flags
flags_after ps flags n p e same there is =
    let here : slice_index_or flags (n - 1) false ≡ true = grind arith in
    ap live_flags (with_is ps n (process_after p e) (lives_some flags n there)) ∙ rw (flags_set ps (n - 1) (process_after p e), state_after p e true is, same) (set_same flags (n - 1) here)
