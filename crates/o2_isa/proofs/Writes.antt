-- A step writes only through a register that holds data that can be written.
use Rattle.std.proofs.Common.{◌≡◌, ◌⊎◌, ◌∙◌, refl, sym, ap, subst, inl, inr, ℕ, Bool, true, false, cond, ◌==◌, List, [], ◌∷◌}
use Rattle.std.specs.Prelude.{Option, Some}
use Rattle.std.proofs.lemmas.Bool.{eqb-true}
use Rattle.o2_isa.specs.declared.instr.Width.{Width}
use Rattle.o2_isa.specs.declared.instr.Width.TheVariants.{Word}
use Rattle.o2_isa.specs.declared.instr.Sreg.{Sreg}
use Rattle.o2_isa.specs.declared.cpu.Outcome.{Outcome}
use Rattle.o2_isa.specs.View.{View, Hold, Registers, in_register, is_writable, bind, poke, poke_hold, put_at, with_bytes}
use Rattle.o2_isa.specs.Steps.{State, Change, Bind, Write, Copy, changed, word_there, selector}
use Rattle.o2_isa.specs.Step.{Answers, stepped}
use Rattle.o2_isa.specs.Presence.{OnlyBinds, WritesFirst}
use Rattle.o2_isa.specs.Writes.{HoldsAsWritable, WritesData}
use Rattle.o2_isa.proofs.Pokes.{poke_cases}
use Rattle.o2_isa.proofs.Endings.{EndsBy}
use Rattle.o2_isa.proofs.StepLaws.{stepped_ends}

registers_stay : (v : View) (o : Option Hold) (k : ℕ) (w : Width) (x : ℕ) → (poke_hold v o k w x).registers ≡ v.registers
registers_stay v o k w x = poke_cases (λ (z : View). z.registers ≡ v.registers) v o k w x refl (λ y e t. refl)

-- from the view at the beginning to the one behind one more store, by the registers of the beginning
stored : (u v : View) (r : Sreg) (k : ℕ) (w : Width) (x : ℕ) → v.registers ≡ u.registers → WritesData u v → WritesData u (poke_hold v (in_register v.registers r) k w x)
stored u v r k w x same d = poke_cases (λ (z : View). WritesData u z) v (in_register v.registers r) k w x d at_hold
  where
    at_hold : (h : Hold) → in_register v.registers r ≡ Some h → is_writable h.rights ≡ true → WritesData u (with_bytes v h.name (put_at (v.bytes h.name) k w x))
    at_hold h e t n = go (n == h.name) refl
      where
        go : (b : Bool) → (n == h.name) ≡ b → (cond b (put_at (v.bytes h.name) k w x) (v.bytes n) ≡ u.bytes n) ⊎ HoldsAsWritable u n
        go true q = inr (record { register = r; hold = h; there = ap (λ (g : Registers). in_register g r) (sym same) ∙ e; named = sym (eqb-true n h.name q); writable = t })
        go false q = d n

bound : (cs : List Change) (u v : View) → OnlyBinds cs → WritesData u v → WritesData u (changed cs v)
unfolding bind
bound [] u v o d = d
bound (Bind r s ∷ cs) u v o d = bound cs u (bind v r (selector s)) o d
bound (Write r k w x ∷ cs) u v o d = absurd o
bound (Copy r a b ∷ cs) u v o d = absurd o

written : (cs : List Change) (u v : View) → WritesFirst cs → v.registers ≡ u.registers → WritesData u v → WritesData u (changed cs v)
unfolding bind poke
written [] u v f same d = d
written (Bind r s ∷ cs) u v f same d = bound cs u (bind v r (selector s)) f d
written (Write r k w x ∷ cs) u v f same d =
    written cs u (poke v r k w x) f (registers_stay v (in_register v.registers r) k w x ∙ same) (stored u v r k w x same d)
written (Copy r a b ∷ cs) u v f same d =
    written cs u (poke v r b Word (word_there v r a)) f (registers_stay v (in_register v.registers r) b Word (word_there v r a) ∙ same)
    (stored u v r b Word (word_there v r a) same d)

pub stepped_writes : (o : Outcome) (new old : State) → Answers o new old (stepped old) → WritesData old.view new.view
stepped_writes o new old a = left (stepped_ends o new old a)
  where
    left : (new ≡ old) ⊎ EndsBy old.cpu old.view new → WritesData old.view new.view
    left (inl e) = subst (λ (z : State). WritesData old.view z.view) (sym e) (λ n. inl refl)
    left (inr b) = subst (λ (z : View). WritesData old.view z) b.left (written b.changes old.view old.view b.first refl (λ n. inl refl))
