-- A store changes no size, so what had room has it still, and what could be loaded still can.
use Rattle.std.proofs.Common.{◌≡◌, refl, sym, ◌∙◌, ap, ℕ, ◌+◌, ◌%◌, ◌/◌, Bool, true, false, cond, ◌==◌, List, length, slice_set}
use Rattle.std.specs.Prelude.{Option, Some, None, Ok, Err, nat_le}
use Rattle.std.proofs.lemmas.Bool.{eqb-true}
use Rattle.std.proofs.lemmas.List.{length-set}
use Rattle.o2_isa.specs.declared.instr.Width.{Width}
use Rattle.o2_isa.specs.declared.instr.Width.TheVariants.{Byte, Word}
use Rattle.o2_isa.specs.declared.instr.Sreg.{Sreg}
use Rattle.o2_base.specs.declared.selector.Selector.{Selector}
use Rattle.o2_isa.specs.View.{View, Hold, in_register, is_writable, reached, room_of, poke, poke_hold, with_bytes, put_at, width_len, outside, is_loadable}

pub length_put_at : (bs : List ℕ) (k : ℕ) (w : Width) (x : ℕ) → length (put_at bs k w x) ≡ length bs
length_put_at bs k Byte x = length-set bs k x
length_put_at bs k Word x = length-set (slice_set bs k (x % 256)) (k + 1) (x / 256) ∙ length-set bs k (x % 256)

pub length_after : (v : View) (n m k : ℕ) (w : Width) (x : ℕ) → length (cond (m == n) (put_at (v.bytes n) k w x) (v.bytes m)) ≡ length (v.bytes m)
length_after v n m k w x = go (m == n) refl
  where
    go : (b : Bool) → (m == n) ≡ b → length (cond b (put_at (v.bytes n) k w x) (v.bytes m)) ≡ length (v.bytes m)
    go true e = length_put_at (v.bytes n) k w x ∙ ap (λ i. length (v.bytes i)) (sym (eqb-true m n e))
    go false e = refl

-- what a store leaves: all as it was, or the bytes of a name that the register holds as data that can be written
pub poke_cases : (P : View → Type 0) (v : View) (o : Option Hold) (k : ℕ) (w : Width) (x : ℕ) → P v
    → ((h : Hold) → o ≡ Some h → is_writable h.rights ≡ true → P (with_bytes v h.name (put_at (v.bytes h.name) k w x))) → P (poke_hold v o k w x)
poke_cases P v None k w x p q = p
poke_cases P v (Some h) k w x p q = go (is_writable h.rights) refl
  where
    go : (b : Bool) → is_writable h.rights ≡ b → P (cond b (with_bytes v h.name (put_at (v.bytes h.name) k w x)) v)
    go true e = q h refl e
    go false e = p

room_after : (v : View) (g h : Option Hold) (k : ℕ) (w : Width) (x : ℕ) (r : Sreg) (j : ℕ) (u : Width) → reached h is_writable (poke_hold v g k w x) r j u ≡ reached h is_writable v r j u
room_after v g None k w x r j u = refl
room_after v g (Some h) k w x r j u =
    poke_cases (λ (z : View). reached (Some h) is_writable z r j u ≡ reached (Some h) is_writable v r j u) v g k w x refl
    (λ y e t. ap (λ (n : ℕ). cond (is_writable h.rights) (cond (nat_le (j + width_len u) n) (Ok h.name) (Err (outside r))) (Err (13, 0))) (length_after v y.name h.name k w x))

same_registers : (v : View) (g : Option Hold) (k : ℕ) (w : Width) (x : ℕ) (r : Sreg) → in_register (poke_hold v g k w x).registers r ≡ in_register v.registers r
same_registers v g k w x r = poke_cases (λ (z : View). in_register z.registers r ≡ in_register v.registers r) v g k w x refl (λ y e t. refl)

pub room_of_poke : (v : View) (s : Sreg) (k : ℕ) (w : Width) (x : ℕ) (r : Sreg) (j : ℕ) (u : Width) → room_of (poke v s k w x) r j u ≡ room_of v r j u
unfolding room_of poke
room_of_poke v s k w x r j u =
    ap (λ (h : Option Hold). reached h is_writable (poke_hold v (in_register v.registers s) k w x) r j u) (same_registers v (in_register v.registers s) k w x r)
    ∙ room_after v (in_register v.registers s) (in_register v.registers r) k w x r j u

loadable_after : (v : View) (g : Option Hold) (k : ℕ) (w : Width) (x : ℕ) (s : Selector) → is_loadable (poke_hold v g k w x) s ≡ is_loadable v s
unfolding is_loadable
loadable_after v g k w x s = poke_cases (λ (z : View). is_loadable z s ≡ is_loadable v s) v g k w x refl (λ y e t. refl)

pub is_loadable_poke : (v : View) (r : Sreg) (k : ℕ) (w : Width) (x : ℕ) (s : Selector) → is_loadable (poke v r k w x) s ≡ is_loadable v s
unfolding poke
is_loadable_poke v r k w x s = loadable_after v (in_register v.registers r) k w x s
