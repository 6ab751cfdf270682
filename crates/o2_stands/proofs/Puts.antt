-- A change of what one process of a world holds at an index.
use Rattle.std.proofs.Common.{◌≡◌, ℕ, zero, suc, ◌-◌, ◌&&◌, ◌==◌, inl, inr, Bool, true, false, cond, eqb, List, Option, Some, None, option_map, refl, sym, ap, ◌∙◌, arith}
use Rattle.std.specs.Prelude.{slice_get}
use Rattle.std.proofs.lemmas.Bool.{cases_eq, eq-eqb, ne_eqb}
use Rattle.o2_world.specs.Map.{Map, get, put}
use Rattle.o2_world.specs.World.{Held, Process}
use Rattle.o2_world.specs.Holders.{process_at}
use Rattle.o2_world.specs.Sound.{held_in, held_of}
use Rattle.o2_world.specs.Known.{held_at}
use Rattle.o2_world.specs.Changes.{at_number, at_place}
use Rattle.o2_world.proofs.Reached.{get-place, get-put, held_at_place, held_then}

-- a process with another map
abbrev pub with_map : (Map Held → Map Held) → Process → Process
with_map g p = record p { held = g p.held }

place_kept : {R : Type 0} (f : Process → R) (g : Map Held → Map Held) → ((p : Process) → f (with_map g p) ≡ f p) → (k j : ℕ) (ps : List Process)
    → option_map f (slice_get (at_place k (with_map g) ps) j) ≡ option_map f (slice_get ps j)
place_kept {R} f g same k j ps = ap (option_map f) (get-place k j (with_map g) ps) ∙ go (j == k) (slice_get ps j)
  where
    one : (o : Option Process) → option_map f (option_map (with_map g) o) ≡ option_map f o
    one None = refl
    one (Some p) = ap Some (same p)

    go : (b : Bool) (o : Option Process) → option_map f (cond b (option_map (with_map g) o) o) ≡ option_map f o
    go true o = one o
    go false o = refl

-- what doesn't look at the map stays of each process
pub number_kept : {R : Type 0} (f : Process → R) (g : Map Held → Map Held) → ((p : Process) → f (with_map g p) ≡ f p) → (k n : ℕ) (ps : List Process)
    → option_map f (process_at (at_number k (with_map g) ps) n) ≡ option_map f (process_at ps n)
number_kept {R} f g same k n ps = go (k == 0) (n == 0)
  where
    go : (b c : Bool) → option_map f (cond c None (slice_get (cond b ps (at_place (k - 1) (with_map g) ps)) (n - 1))) ≡ option_map f (cond c None (slice_get ps (n - 1)))
    go b true = refl
    go true false = refl
    go false false = place_kept f g same (k - 1) (n - 1) ps

-- process n + 1 is at place n
at_suc : (ps : List Process) (n : ℕ) → process_at ps (suc n) ≡ slice_get ps n
at_suc ps n = let e : suc n - 1 ≡ n = omega arith in ap (λ (b : Bool). cond b None (slice_get ps (suc n - 1))) (ne_eqb (suc n) 0 (omega arith)) ∙ ap (slice_get ps) e

pub held_suc : (ps : List Process) (n i : ℕ) → held_at ps (suc n) i ≡ held_in ps n i
held_suc ps n i = ap (λ (o : Option Process). held_of o i) (at_suc ps n)

number_suc : (k : ℕ) (f : Process → Process) (ps : List Process) → at_number (suc k) f ps ≡ at_place k f ps
number_suc k f ps = let e : suc k - 1 ≡ k = omega arith in ap (λ (b : Bool). cond b ps (at_place (suc k - 1) f ps)) (ne_eqb (suc k) 0 (omega arith)) ∙ ap (λ (j : ℕ). at_place j f ps) e

-- a change at one index of the map
abbrev pub put_at : ℕ → (Option Held → Option Held) → Map Held → Map Held
put_at i u m = put i (u (get m i)) m

put_here : (i j : ℕ) (u : Option Held → Option Held) (o : Option Process) (x : Process) → o ≡ Some x → held_then (put_at i u) o j ≡ cond (eqb i j) (u (held_of o i)) (held_of o j)
put_here i j u o x e = rw e (get-put i j (u (get x.held i)) x.held)

pub held_put : (ps : List Process) (k n i j : ℕ) (u : Option Held → Option Held) (x : Process) → process_at ps k ≡ Some x
    → held_at (at_number k (with_map (put_at i u)) ps) n j ≡ cond (eqb n k && eqb j i) (u (held_at ps k i)) (held_at ps n j)
held_put ps zero n i j u x at = absurd (cc)
held_put ps (suc k) zero i j u x at = rw (ne_eqb 0 (suc k) (omega arith)) refl
held_put ps (suc k) (suc n) i j u x at =
    ap (λ (xs : List Process). held_at xs (suc n) j) (number_suc k (with_map (put_at i u)) ps) ∙ held_suc (at_place k (with_map (put_at i u)) ps) n j
    ∙ held_at_place ps k n j (put_at i u) ∙ elim (cases_eq n k) [
      | inr other ↦ rw (ne_eqb n k other, ne_eqb (suc n) (suc k) (λ e. other (omega (arith, e)))) (sym (held_suc ps n j))
      | inl same ↦ rw (eq-eqb n k same, eq-eqb (suc n) (suc k) (ap suc same))
          (put_here i j u (slice_get ps n) x (ap (slice_get ps) same ∙ sym (at_suc ps k) ∙ at) ∙ turned same)
    ]
  where
    turned : n ≡ k → cond (eqb i j) (u (held_in ps n i)) (held_in ps n j) ≡ cond (eqb j i) (u (held_at ps (suc k) i)) (held_at ps (suc n) j)
    turned same =
        let t : eqb i j ≡ eqb j i = grind arith in
        ap (λ (b : Bool). cond b (u (held_in ps n i)) (held_in ps n j)) t
        ∙ ap (λ (y : Option Held). cond (eqb j i) (u y) (held_in ps n j)) (ap (λ (y : ℕ). held_in ps y i) same ∙ sym (held_suc ps k i))
        ∙ ap (λ (y : Option Held). cond (eqb j i) (u (held_at ps (suc k) i)) y) (sym (held_suc ps n j))

-- the process itself is there behind it
pub there_put : (ps : List Process) (k : ℕ) (g : Map Held → Map Held) (x : Process) → process_at ps k ≡ Some x → process_at (at_number k (with_map g) ps) k ≡ Some (with_map g x)
there_put ps zero g x at = absurd (cc)
there_put ps (suc k) g x at =
    ap (λ (xs : List Process). process_at xs (suc k)) (number_suc k (with_map g) ps)
    ∙ at_suc (at_place k (with_map g) ps) k
    ∙ get-place k k (with_map g) ps
    ∙ ap (λ (b : Bool). cond b (option_map (with_map g) (slice_get ps k)) (slice_get ps k)) (eq-eqb k k refl)
    ∙ ap (option_map (with_map g)) (sym (at_suc ps k) ∙ at)
