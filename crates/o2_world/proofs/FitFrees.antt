-- The changes of a call that frees a segment, or a run of them, are fit.
use Rattle.std.proofs.Common.{◌≡◌, ◌≢◌, ◌⊎◌, inl, inr, ℕ, ◌-◌, ◌<◌, ◌==◌, ◌/◌, nat_le, ◌&&◌, ◌||◌, Bool, true, false, List, [], ◌∷◌, Option, Some, None, if◌then◌else◌, ap, sym, ◌∙◌, refl, arith, subst}
use Rattle.std.specs.Prelude.{map, slice_get, option_map}
use Rattle.std.specs.List.{list_any}
use Rattle.o2_isa.specs.declared.cpu.Cpu.{Cpu}
use Rattle.o2_isa.specs.View.{is_null, is_local, is_readable}
use Rattle.o2_world.specs.Map.{Map, get, put}
use Rattle.o2_world.specs.World.{World, Process, Held, is_live}
use Rattle.o2_world.specs.Holders.{process_at}
use Rattle.o2_world.specs.Changes.{Drops, at_place, fewer, with_change}
use Rattle.o2_world.specs.CallParts.{Before}
use Rattle.o2_world.specs.Rulings.{is_gone, is_index, is_last}
use Rattle.o2_world.specs.Sound.{NamesHeld, HasGoodRegisters}
use Rattle.o2_world.specs.Tied.{IsUnnamed, IsFitDrop, AreFitChanges}
use Rattle.o2_world.specs.Moves.{AreApart, Each, IsFreeing}
use Rattle.o2_world.proofs.MapLemmas.{if_no}
use Rattle.o2_world.proofs.Numbers.{process_is, at_place_of, number_some, changed_is}
use Rattle.o2_world.proofs.Reached.{get-put, get-place}

-- Indexes among others.

abbrev pub is_among : List ℕ → ℕ → Bool
is_among is i = list_any (λ (j : ℕ). j == i) is

same_number : (n m : ℕ) → (n == m) ≡ true → n ≡ m
same_number n m e = grind arith

same : (n : ℕ) → (n == n) ≡ true
same n = grind arith

either : (a b c : Bool) → (a ≡ true → c ≡ true) → (b ≡ true → c ≡ true) → (a || b) ≡ true → c ≡ true
either true b c f g e = f refl
either false b c f g e = g e

or_left : (a b : Bool) → a ≡ true → (a || b) ≡ true
or_left true b e = refl
or_left false b e = absurd (cc)

or_right : (a b : Bool) → b ≡ true → (a || b) ≡ true
or_right true b e = refl
or_right false b e = e

any_at : (g : ℕ → Bool) (is : List ℕ) (i : ℕ) → is_among is i ≡ true → g i ≡ true → list_any g is ≡ true
any_at g [] i e h = absurd (cc)
any_at g (j ∷ is) i e h =
    either (j == i) (is_among is i) (g j || list_any g is)
    (λ here. or_left (g j) (list_any g is) (ap g (same_number j i here) ∙ h))
    (λ later. or_right (g j) (list_any g is) (any_at g is i later h)) e

pub none_at : (g : ℕ → Bool) (is : List ℕ) (i : ℕ) → list_any g is ≡ false → is_among is i ≡ true → g i ≡ false
none_at g is i none here = go (g i) refl
  where
    go : (b : Bool) → g i ≡ b → g i ≡ false
    go true e = absurd (let a : true ≡ false = sym (any_at g is i here e) ∙ none in cc)
    go false e = e

-- what holds of each that is among them
pub each_among : (P : ℕ → Type 0) (is : List ℕ) → ((i : ℕ) → is_among is i ≡ true → P i) → Each P is
each_among P [] f = tt
each_among P (j ∷ is) f = (f j (or_left (j == j) (is_among is j) (same j)), each_among P is (λ i e. f i (or_right (j == i) (is_among is i) e)))

pub at_each : (P : ℕ → Type 0) (is : List ℕ) (i : ℕ) → Each P is → is_among is i ≡ true → P i
at_each P [] i h e = absurd (cc)
at_each P (j ∷ is) i h e = go (at_each P is i h.1) (j == i) refl e
  where
    go : (is_among is i ≡ true → P i) → (b : Bool) → (j == i) ≡ b → (b || is_among is i) ≡ true → P i
    go later true here e = subst P (same_number j i here) h.0
    go later false here e = later e

-- Registers behind it.

either_false : (a b : Bool) → (a || b) ≡ false → (a ≡ false) × (b ≡ false)
either_false true b e = absurd (cc)
either_false false b e = (refl, e)

pub other_index : (s i : ℕ) → is_local s ≡ true → is_index s i ≡ false → s / 8 ≢ i
other_index s i local none same = grind arith

pub local_of : (p : Process) (ok : ℕ → Bool) (s : ℕ) → (is_null s ≡ true) ⊎ NamesHeld p ok s → (is_null s ≡ true) ⊎ (is_local s ≡ true)
local_of p ok s (inl null) = inl null
local_of p ok s (inr named) = inr named.0

pub data_other : (s i : ℕ) → (is_null s ≡ true) ⊎ (is_local s ≡ true) → is_index s i ≡ false → (is_null s ≡ true) ⊎ (s / 8 ≢ i)
data_other s i (inl null) none = inl null
data_other s i (inr local) none = inr (other_index s i local none)

module _ (p : Process) (b : Before) (c : Cpu) (is : List ℕ) (i : ℕ) (cpu : b.cpu ≡ p.cpu) (good : HasGoodRegisters p) (frees : IsFreeing b c is) (here : is_among is i ≡ true)
    (held : b.known.held b.number i ≡ get p.held i) where
  -- CS and SS name none of them
  free : (is_index b.cpu.cs i ≡ false) × (is_index b.cpu.ss i ≡ false)
  free = either_false (is_index b.cpu.cs i) (is_index b.cpu.ss i) (none_at (λ (j : ℕ). is_index b.cpu.cs j || is_index b.cpu.ss j) is i frees.unused here)

  -- DS and ES that name an index that isn't held any more are 0
  data_after : (s : ℕ) → (is_null s ≡ true) ⊎ (is_local s ≡ true) → is_last (get p.held i) ≡ true
      → (let t = if is_gone b.known b.number is s then 0 else s in (is_null t ≡ true) ⊎ (t / 8 ≢ i))
  data_after s fits last = go (is_gone b.known b.number is s) refl
    where
      named : is_index s i ≡ true → is_gone b.known b.number is s ≡ true
      named e = any_at (λ (j : ℕ). is_index s j && is_last (b.known.held b.number j)) is i here (both (is_index s i) (is_last (b.known.held b.number i)) e (ap is_last held ∙ last))
        where
          both : (x y : Bool) → x ≡ true → y ≡ true → (x && y) ≡ true
          both true true e f = refl
          both true false e f = absurd (cc)
          both false y e f = absurd (cc)

      go : (gone : Bool) → is_gone b.known b.number is s ≡ gone → (let t = if gone then 0 else s in (is_null t ≡ true) ⊎ (t / 8 ≢ i))
      go true e = inl refl
      go false e = data_other s i fits (unnamed (is_index s i) refl)
        where
          unnamed : (x : Bool) → is_index s i ≡ x → is_index s i ≡ false
          unnamed true f = absurd (let a : true ≡ false = sym (named f) ∙ e in cc)
          unnamed false f = f

  unnamed_after : is_last (get p.held i) ≡ true → IsUnnamed c i
  unnamed_after last = record {
    cs = λ e. other_index b.cpu.cs i (subst (λ (x : Cpu). is_local x.cs ≡ true) (sym cpu) good.cs.0) free.0 (ap (λ (x : ℕ). x / 8) (sym frees.cs) ∙ e);
    ss = λ e. other_index b.cpu.ss i (subst (λ (x : Cpu). is_local x.ss ≡ true) (sym cpu) good.ss.0) free.1 (ap (λ (x : ℕ). x / 8) (sym frees.ss) ∙ e);
    ds = subst (λ (x : ℕ). (is_null x ≡ true) ⊎ (x / 8 ≢ i)) (sym frees.ds) (data_after b.cpu.ds (subst (λ (x : Cpu). (is_null x.ds ≡ true) ⊎ (is_local x.ds ≡ true)) (sym cpu) (local_of p is_readable p.cpu.ds good.ds)) last);
    es = subst (λ (x : ℕ). (is_null x ≡ true) ⊎ (x / 8 ≢ i)) (sym frees.es) (data_after b.cpu.es (subst (λ (x : Cpu). (is_null x.es ≡ true) ⊎ (is_local x.es ≡ true)) (sym cpu) (local_of p is_readable p.cpu.es good.es)) last);
  }

  left_or_last : (o : Option Held) (t : Bool) → is_last o ≡ t → ((h : Held) → o ≡ Some h → 1 < h.holds) ⊎ (is_last o ≡ true)
  left_or_last o true e = inr e
  left_or_last None false e = inl (λ h f. absurd (cc))
  left_or_last (Some x) false e = inl (λ h f. let z : x ≡ h = cc in subst (λ (y : Held). 1 < y.holds) z (above x.holds e))
    where
      above : (n : ℕ) → nat_le n 1 ≡ false → 1 < n
      above n e = grind arith

  -- the process behind the step, before its changes: it holds what it held, and has these registers
  pub free_fit : (w : World) (q : Process) → process_at w.processes b.number ≡ Some q → q.held ≡ p.held → q.cpu ≡ c → IsFitDrop w b.number i 1
  free_fit w q at held_same registers x there lives = go (left_or_last (get p.held i) (is_last (get p.held i)) refl)
    where
      here_is : x ≡ q
      here_is = let a : Some q ≡ Some x = sym at ∙ there in cc

      go : ((h : Held) → get p.held i ≡ Some h → 1 < h.holds) ⊎ (is_last (get p.held i) ≡ true)
          → ((h : Held) → get x.held i ≡ Some h → 1 < h.holds) ⊎ IsUnnamed x.cpu i
      go (inl left) = inl (λ h e. left h (ap (λ (m : Map Held). get m i) (sym held_same ∙ ap (λ (y : Process). y.held) (sym here_is)) ∙ e))
      go (inr last) = inr (subst (λ (y : Cpu). IsUnnamed y i) (sym registers ∙ ap (λ (y : Process). y.cpu) (sym here_is)) (unnamed_after last))

-- One drop behind another.

other_key : (i j : ℕ) → i ≢ j → (i == j) ≡ false
other_key i j other = go (i == j) refl
  where
    go : (b : Bool) → (i == j) ≡ b → (i == j) ≡ false
    go true e = absurd (other (same_number i j e))
    go false e = e

-- the process at a number behind a drop of it
record IsDropped (w : World) (n i : ℕ) (x : Process) : Type 0 where
  old : Process
  there : process_at w.processes n ≡ Some old
  state : x.state ≡ old.state
  cpu : x.cpu ≡ old.cpu
  others : (j : ℕ) → i ≢ j → get x.held j ≡ get old.held j

dropped_from : (w : World) (n i : ℕ) (x : Process) → process_at (with_change w (Drops n i 1)).processes n ≡ Some x → IsDropped w n i x
dropped_from w n i x e = go (slice_get w.processes (n - 1)) refl
  where
    some : 0 < n
    some = number_some (with_change w (Drops n i 1)).processes n x e

    f : Process → Process
    f y = record y { held = put i (fewer 1 (get y.held i)) y.held }

    there : slice_get (at_place (n - 1) f w.processes) (n - 1) ≡ Some x
    there = ap (λ (ps : List Process). slice_get ps (n - 1)) (sym (changed_is n f w.processes some)) ∙ at_place_of (with_change w (Drops n i 1)).processes n x e

    mapped : option_map f (slice_get w.processes (n - 1)) ≡ Some x
    mapped = sym (ap (λ (b : Bool). if b then option_map f (slice_get w.processes (n - 1)) else slice_get w.processes (n - 1)) (same (n - 1))) ∙ sym (get-place (n - 1) (n - 1) f w.processes) ∙ there

    go : (o : Option Process) → slice_get w.processes (n - 1) ≡ o → IsDropped w n i x
    go None at = absurd (let z : option_map f None ≡ Some x = ap (option_map f) (sym at) ∙ mapped in cc)
    go (Some y) at =
        let z : Some (f y) ≡ Some x = ap (option_map f) (sym at) ∙ mapped in
        let is : x ≡ f y = cc in
        record {
          old = y;
          there = process_is w.processes n some ∙ at;
          state = ap (λ (q : Process). q.state) is;
          cpu = ap (λ (q : Process). q.cpu) is;
          others = λ j other. ap (λ (q : Process). get q.held j) is ∙ get-put i j (fewer 1 (get y.held i)) y.held ∙ if_no (i == j) (fewer 1 (get y.held i)) (get y.held j) (other_key i j other);
        }

still_fit : (w : World) (n i j : ℕ) → i ≢ j → IsFitDrop w n j 1 → IsFitDrop (with_change w (Drops n i 1)) n j 1
still_fit w n i j other fit x there lives = go (fit from.old from.there (ap is_live (sym from.state) ∙ lives))
  where
    from : IsDropped w n i x
    from = dropped_from w n i x there

    go : ((h : Held) → get from.old.held j ≡ Some h → 1 < h.holds) ⊎ IsUnnamed from.old.cpu j
        → ((h : Held) → get x.held j ≡ Some h → 1 < h.holds) ⊎ IsUnnamed x.cpu j
    go (inl left) = inl (λ h e. left h (sym (from.others j other) ∙ e))
    go (inr last) = inr (subst (λ (y : Cpu). IsUnnamed y j) (sym from.cpu) last)

each_still : (w : World) (n i : ℕ) (is : List ℕ) → Each (λ (j : ℕ). i ≢ j) is → Each (λ (j : ℕ). IsFitDrop w n j 1) is
    → Each (λ (j : ℕ). IsFitDrop (with_change w (Drops n i 1)) n j 1) is
each_still w n i [] others fit = tt
each_still w n i (j ∷ is) others fit = (still_fit w n i j others.0 fit.0, each_still w n i is others.1 fit.1)

-- drops at indexes of which each one is fit, and none stands twice
pub drops_fit : (w : World) (n : ℕ) (is : List ℕ) → AreApart is → Each (λ (i : ℕ). IsFitDrop w n i 1) is
    → AreFitChanges w (map (λ (i : ℕ). Drops n i 1) is)
drops_fit w n [] apart fit = tt
drops_fit w n (i ∷ is) apart fit = (fit.0, drops_fit (with_change w (Drops n i 1)) n is apart.1 (each_still w n i is apart.0 fit.1))
