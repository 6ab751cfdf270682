-- Processes by number, and who holds a name or an index.
use Rattle.std.proofs.Common.{◌≡◌, ◌≢◌, ℕ, zero, suc, ◌+◌, ◌-◌, ◌<◌, Bool, true, false, cond, ◌||◌, List, [], ◌∷◌, Option, Some, None, is_some, refl, sym, ap, ◌∙◌, arith}
use Rattle.std.specs.Prelude.{◌==◌, slice_get, slice_set}
use Rattle.std.proofs.lemmas.Bool.{false≢true, eq-eqb}
use Rattle.o2_world.specs.Holders.{is_held, process_at, with_process}
use Rattle.o2_world.specs.Known.{held_at, holds_index}
use Rattle.o2_world.specs.Map.{get}
use Rattle.o2_world.specs.Sound.{held_in, held_of}
use Rattle.o2_world.specs.World.{Held, Process}
use Rattle.o2_world.proofs.Holding.{held_by}
use Rattle.o2_world.proofs.Keeps.{at_other, held_found}
use Rattle.o2_world.proofs.Numbers.{at_place_of, number_some, process_is, with_is}

none_some : {X : Type 0} (x : X) → None ≡ Some x → ⊥
none_some x e = cc

-- Numbers and places.

pub number_is : (ps : List Process) (place : ℕ) → process_at ps (place + 1) ≡ slice_get ps place
number_is ps place = process_is ps (place + 1) (omega arith) ∙ ap (slice_get ps) (omega arith)

pub to_place : (ps : List Process) (n i : ℕ) (h : Held) → held_at ps n i ≡ Some h → held_in ps (n - 1) i ≡ Some h
to_place ps n i h e = go (n == 0) e
  where
    go : (b : Bool) → held_of (cond b None (slice_get ps (n - 1))) i ≡ Some h → held_of (slice_get ps (n - 1)) i ≡ Some h
    go true q = absurd (none_some h q)
    go false q = q

pub held_number : (ps : List Process) (n i : ℕ) (h : Held) → held_at ps n i ≡ Some h → 0 < n
held_number ps n i h e = go (n == 0) refl e
  where
    above : (n : ℕ) → (n == 0) ≡ false → 0 < n
    above n e = grind arith

    go : (b : Bool) → (n == 0) ≡ b → held_of (cond b None (slice_get ps (n - 1))) i ≡ Some h → 0 < n
    go true is q = absurd (none_some h q)
    go false is q = above n is

-- who holds a name
pub name_held : (ps : List Process) (n i : ℕ) (h : Held) → held_at ps n i ≡ Some h → is_held ps h.name ≡ true
name_held ps n i h e = held_found ps (n - 1) i h (to_place ps n i h e)

pub record Holds (ps : List Process) (name : ℕ) : Type 0 where
  pub number : ℕ
  pub index : ℕ
  pub hold : Held
  pub there : held_at ps number index ≡ Some hold
  pub named : hold.name ≡ name

pub holds_of : (ps : List Process) (name : ℕ) → is_held ps name ≡ true → Holds ps name
holds_of ps name e =
    let x = held_by name ps e in
    record { number = x.place + 1; index = x.index; hold = x.hold; there = ap (λ (o : Option Process). held_of o x.index) (number_is ps x.place) ∙ x.there; named = x.named }

-- A process that is put in place of another.

at_same : {X : Type 0} (xs : List X) (i : ℕ) (x y : X) → slice_get xs i ≡ Some x → slice_get (slice_set xs i y) i ≡ Some y
at_same [] i x y e = absurd (none_some x e)
at_same (a ∷ xs) zero x y e = refl
at_same (a ∷ xs) (suc i) x y e = at_same xs i x y e

module _ (ps : List Process) (pid : ℕ) (x q : Process) (there : process_at ps pid ≡ Some x) where
  some : 0 < pid
  some = number_some ps pid x there

  pub put_here : process_at (with_process ps pid q) pid ≡ Some q
  put_here =
      process_is (with_process ps pid q) pid some
      ∙ (ap (λ (qs : List Process). slice_get qs (pid - 1)) (with_is ps pid q some)
      ∙ at_same ps (pid - 1) x q (at_place_of ps pid x there))

  pub put_other : (n : ℕ) → n ≢ pid → process_at (with_process ps pid q) n ≡ process_at ps n
  put_other n other = go (n == 0) refl
    where
      go : (b : Bool) → (n == 0) ≡ b → cond b None (slice_get (with_process ps pid q) (n - 1)) ≡ cond b None (slice_get ps (n - 1))
      go true e = refl
      go false e =
          ap (λ (qs : List Process). slice_get qs (n - 1)) (with_is ps pid q some)
          ∙ at_other ps (pid - 1) (n - 1) q (λ z. (let w : n ≢ 0 = above e in other (omega (arith, z, some, w))))
        where
          above : (n == 0) ≡ false → n ≢ 0
          above e z = false≢true (sym e ∙ eq-eqb n 0 z)

-- Who holds an index.

pub record HoldsIndex (ps : List Process) (i : ℕ) : Type 0 where
  pub place : ℕ
  pub there : is_some (held_in ps place i) ≡ true

pub index_held : (ps : List Process) (i : ℕ) → holds_index ps i ≡ true → HoldsIndex ps i
index_held [] i e = absurd (false≢true e)
index_held (p ∷ ps) i e = go (is_some (get p.held i)) refl e (index_held ps i)
  where
    go : (b : Bool) → is_some (get p.held i) ≡ b → (b || holds_index ps i) ≡ true → (holds_index ps i ≡ true → HoldsIndex ps i) → HoldsIndex (p ∷ ps) i
    go true t q rest = record { place = 0; there = t }
    go false t q rest = (let x = rest q in record { place = suc x.place; there = x.there })

pub index_back : (ps : List Process) (place i : ℕ) → is_some (held_in ps place i) ≡ true → holds_index ps i ≡ true
index_back [] place i e = absurd (false≢true e)
index_back (p ∷ ps) zero i e = ap (λ (b : Bool). b || holds_index ps i) e
index_back (p ∷ ps) (suc place) i e = or_right (is_some (get p.held i)) (holds_index ps i) (index_back ps place i e)
  where
    or_right : (a b : Bool) → b ≡ true → (a || b) ≡ true
    or_right true b e = refl
    or_right false b e = e
