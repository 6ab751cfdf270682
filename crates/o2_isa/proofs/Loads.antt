-- What passes the load rules and is present may be loaded, also with requested privilege level 3.
use Rattle.std.proofs.Common.{◌≡◌, refl, ap, ℕ, ◌%◌, ◌/◌, Bool, true, false, cond, ◌||◌, ◌==◌, arith, ◌∙◌}
use Rattle.std.specs.Prelude.{Option, Some, None}
use Rattle.std.proofs.lemmas.Bool.Decides.{nat_tests}
use Rattle.o2_base.specs.declared.selector.Selector.{Selector}
use Rattle.o2_isa.specs.declared.cpu.Purpose.{Purpose}
use Rattle.o2_isa.specs.declared.cpu.Purpose.TheVariants.{DataReg, StackReg, Jump, Call, Return}
use Rattle.o2_isa.specs.declared.cpu.Loaded.{Loaded}
use Rattle.o2_isa.specs.declared.cpu.Loaded.TheVariants.{Done, Miss, Trap}
use Rattle.o2_isa.specs.View.{View, Hold, is_null, is_local, ring3, is_code, is_readable, is_writable, found, when, here, called, through_gate, gate_at, trap_of, refused, present_hold, probe_of, is_loadable}
use Rattle.o2_isa.specs.Steps.{selector}

here_present : (v : View) (a s : ℕ) (h : Hold) → here v a s h ≡ Done → v.present h.name ≡ true
here_present v a s h e = go (v.discarded h.name) (v.present h.name) refl e
  where
    go : (d b : Bool) → v.present h.name ≡ b → cond d (trap_of a s) (cond b Done (Miss (selector s))) ≡ Done → v.present h.name ≡ true
    go true b q e = cc
    go false true q e = q
    go false false q e = cc

when_present : (v : View) (a s : ℕ) (ok : ℕ → Bool) (o : Option Hold) → when v a s ok o ≡ Done → present_hold v o ≡ true
when_present v a s ok None e = cc
when_present v a s ok (Some h) e = go (ok h.rights) e
  where
    go : (b : Bool) → cond b (here v a s h) (refused s) ≡ Done → v.present h.name ≡ true
    go true e = here_present v a s h e
    go false e = cc

gate_refuses : (s : ℕ) (g : Option ℕ) → through_gate s g ≡ Done → false ≡ true
gate_refuses s None e = cc
gate_refuses s (Some k) e = cc

called_present : (v : View) (s : ℕ) (o : Option Hold) → called v s o ≡ Done → present_hold v o ≡ true
called_present v s (Some h) e = go (is_code h.rights) e
  where
    go : (b : Bool) → cond b (here v 11 s h) (refused s) ≡ Done → v.present h.name ≡ true
    go true e = here_present v 11 s h e
    go false e = cc
called_present v s None e = gate_refuses s (gate_at v s) e

guarded : (b : Bool) (n : ℕ) (c : ℕ) (x : Loaded) (t : Bool) → (x ≡ Done → t ≡ true) → cond b (Trap n c) x ≡ Done → (b || t) ≡ true
guarded true n c x t h e = refl
guarded false n c x t h e = h e

ringed : (b : Bool) (s : ℕ) (x : Loaded) (t : Bool) → (x ≡ Done → t ≡ true) → cond b x (refused s) ≡ Done → t ≡ true
ringed true s x t h e = h e
ringed false s x t h e = cc

data_guarded : (b : Bool) (x : Loaded) (t : Bool) → (x ≡ Done → t ≡ true) → cond b Done x ≡ Done → (b || t) ≡ true
data_guarded true x t h e = refl
data_guarded false x t h e = h e

pub loadable_from_probe : (v : View) (p : Purpose) (s : Selector) → probe_of v p s ≡ Done → is_loadable v s ≡ true
unfolding probe_of is_loadable
loadable_from_probe v DataReg s e = data_guarded (is_null s.0) _ _ (when_present v 11 s.0 is_readable (found v s.0)) e
loadable_from_probe v StackReg s e = guarded (is_null s.0) 13 0 _ _ (λ q. ringed (s.0 % 4 == 3) s.0 _ _ (when_present v 12 s.0 is_writable (found v s.0)) q) e
loadable_from_probe v Jump s e = guarded (is_null s.0) 13 0 _ _ (when_present v 11 s.0 is_code (found v s.0)) e
loadable_from_probe v Call s e = guarded (is_null s.0) 13 0 _ _ (called_present v s.0 (found v s.0)) e
loadable_from_probe v Return s e = guarded (is_null s.0) 13 0 _ _ (λ q. ringed (s.0 % 4 == 3) s.0 _ _ (when_present v 11 s.0 is_code (found v s.0)) q) e

pub null_ring3 : (s : ℕ) → is_null (ring3 s) ≡ is_null s
null_ring3 s = grind (arith, nat_tests)

local_ring3 : (s : ℕ) → is_local (ring3 s) ≡ is_local s
local_ring3 s = ap (λ (n : ℕ). n % 2 == 1) quarter
  where
    quarter : ring3 s / 4 ≡ s / 4
    quarter = omega arith

index_ring3 : (s : ℕ) → ring3 s / 8 ≡ s / 8
index_ring3 s = omega arith

pub found_ring3 : (v : View) (s : ℕ) → found v (ring3 s) ≡ found v s
found_ring3 v s = ap (λ (b : Bool). cond b (v.held (ring3 s / 8)) None) (local_ring3 s) ∙ ap (λ (n : ℕ). cond (is_local s) (v.held n) None) (index_ring3 s)

-- the requested privilege level doesn't matter
pub loadable_ring3 : (v : View) (s : ℕ) → is_loadable v (selector (ring3 s)) ≡ is_loadable v (selector s)
unfolding is_loadable
loadable_ring3 v s = ap (λ (b : Bool). b || present_hold v (found v (ring3 s))) (null_ring3 s) ∙ ap (λ (o : Option Hold). is_null s || present_hold v o) (found_ring3 v s)
