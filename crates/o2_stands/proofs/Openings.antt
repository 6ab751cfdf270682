-- The world before the first step is tidy.
use Rattle.std.proofs.Common.{◌≡◌, inl, ℕ, ◌+◌, ◌-◌, ◌<◌, ◌≤◌, Bool, true, false, cond, ◌&&◌, ◌||◌, ◌==◌, List, [], ◌∷◌, length, map, Option, Some, None, is_some, refl, sym, ap, ◌∙◌, subst, arith, if◌then◌else◌}
use Rattle.std.specs.Prelude.{Ok, nat_le, nat_lt, not}
use Rattle.std.specs.List.{list_any}
use Rattle.std.proofs.lemmas.Bool.{false≢true}
use Rattle.o2_conf.specs.declared.script.Word.{Word}
use Rattle.o2_world.specs.Holders.{process_at}
use Rattle.o2_regions.specs.declared.held.Region.TheVariants.{Private, Shared}
use Rattle.o2_world.specs.Known.{held_at, is_for_the_run, lives_at, reserves}
use Rattle.o2_world.specs.Map.{Map, get}
use Rattle.o2_world.specs.Rulings.{is_in_run}
use Rattle.o2_world.specs.Sound.{held_of}
use Rattle.o2_world.specs.Starts.{Built, Holding, Start, all_started, for_the_run, holdings, holds_as, name_in, nothing_built, opening_of, segment_of, with_holding, with_holdings}
use Rattle.o2_world.specs.Tied.{IsSound}
use Rattle.o2_world.specs.World.{ByLoad, Held, Process, Reserve, Setting, World}
use Rattle.o2_world.proofs.Numbers.{at_place_of}
use Rattle.o2_world.proofs.OpeningSound.{Keeps, SoFar, all_so_far, opened}
use Rattle.o2_world.proofs.OpeningLoads.{opening_loads}
use Rattle.o2_world.proofs.Openings.{opening_reserves}
use Rattle.o2_stands.specs.Stands.{AllDisjoint, AllStay, AreOnce, IsDisjointFrom, IsTidy, is_by_load, number_of}
use Rattle.o2_stands.proofs.RunsKept.{no_runs}
use Rattle.o2_stands.proofs.Worlds.{held_number, to_place}

-- between two starts each name stands once, and is below the next one
record OnceSoFar (b : Built) : Type 0 where
  once : AreOnce b.names
  below : (q : ℕ) → is_some (get b.names q) ≡ true → q < b.next_name

none_of : {X : Type 0} (o : Option X) → (is_some o ≡ true → ⊥) → o ≡ None
none_of None f = refl
none_of (Some x) f = absurd (f refl)

holding_once : (b : Built) (h : Holding) (o : Option ℕ) → OnceSoFar b → OnceSoFar (holds_as b h o)
holding_once b h (Some name) x = record { once = x.once; below = x.below }
holding_once b h None x = record {
  once = (none_of (get b.names b.next_name) (λ e. (let l = x.below b.next_name e in absurd (omega (arith, l)))), x.once);
  below = λ q s. low q (b.next_name == q) refl s;
}
  where
    equal : (i j : ℕ) → (i == j) ≡ true → i ≡ j
    equal i j e = grind arith

    low : (q : ℕ) (t : Bool) → (b.next_name == q) ≡ t → is_some (cond t (Some (segment_of h)) (get b.names q)) ≡ true → q < b.next_name + 1
    low q true e s = (let same : b.next_name ≡ q = equal b.next_name q e in omega (arith, same))
    low q false e s = (let l = x.below q s in omega (arith, l))

holdings_once : (hs : List Holding) (b : Built) → OnceSoFar b → OnceSoFar (with_holdings b hs)
holdings_once [] b x = x
holdings_once (h ∷ hs) b x = holdings_once hs (with_holding b h) (holding_once b h (cond h.common (name_in b.made h.place h.number) None) x)

started_once : Keeps OnceSoFar (λ (s : Start). Unit {0})
started_once b s u checked fit x =
    let y = holdings_once (holdings (length b.processes + 1) s) b x in
    record { once = y.once; below = y.below }

opening_once : (s : Setting) (reserved : List (ℕ × ℕ)) (script : List Word) (input : List ℕ) (starts : List Start) (w : World)
    → opening_of s reserved script input starts ≡ Ok w → AreOnce w.names
unfolding all_started
opening_once s reserved script input starts w e =
    let so_far : SoFar OnceSoFar (all_started s.segments starts) =
    all_so_far OnceSoFar (λ (x : Start). Unit {0}) s.segments starts (Ok nothing_built) started_once (λ k d l. tt) (record { once = tt; below = λ q f. absurd (false≢true f) }) in
    opened (λ (x : World). AreOnce x.names) OnceSoFar reserved script s.budget input (all_started s.segments starts) w (λ b x. x.once) so_far e

all_for_the_run : (ps : List Process) (rs : List (ℕ × ℕ)) → AllStay ps (map for_the_run rs)
all_for_the_run ps [] = tt
all_for_the_run ps (r ∷ rs) = (refl, all_for_the_run ps rs)

disjoint_one : (r : ℕ × ℕ) (rs : List (ℕ × ℕ)) → IsDisjointFrom (for_the_run r) (map for_the_run rs)
disjoint_one r [] = tt
disjoint_one r (q ∷ rs) = (inl refl, disjoint_one r rs)

all_disjoint : (rs : List (ℕ × ℕ)) → AllDisjoint (map for_the_run rs)
all_disjoint [] = tt
all_disjoint (r ∷ rs) = (disjoint_one r rs, all_disjoint rs)

-- none is of a process's own region
no_own : (rs : List (ℕ × ℕ)) (n i : ℕ) → 0 < n → list_any (reserves n i) (map for_the_run rs) ≡ false
no_own [] n i some = refl
no_own (r ∷ rs) n i some = ap (λ (b : Bool). (b && (nat_le r.0 i && nat_lt i (r.0 + r.1))) || list_any (reserves n i) (map for_the_run rs)) (other n some) ∙ no_own rs n i some
  where
    other : (n : ℕ) → 0 < n → (0 == n) ≡ false
    other n h = grind arith

high_is : (i : ℕ) → nat_lt i 4096 ≡ false → 4096 ≤ i
high_is i e = grind arith

-- who has ended holds nothing
nothing_held : (w : World) → IsSound w → (n i : ℕ) → lives_at (process_at w.processes n) ≡ false → held_at w.processes n i ≡ None
nothing_held w sound n i e = go (process_at w.processes n) refl e
  where
    go : (o : Option Process) → process_at w.processes n ≡ o → lives_at o ≡ false → held_of (process_at w.processes n) i ≡ None
    go None at f = ap (λ (o : Option Process). held_of o i) at
    go (Some p) at f =
        ap (λ (o : Option Process). held_of o i) at
        ∙ ap (λ (m : Map Held). get m i) (sound.tied.ended (n - 1) p (at_place_of w.processes n p at) f)

pub opening_tidy : (s : Setting) (reserved : List (ℕ × ℕ)) (script : List Word) (input : List ℕ) (starts : List Start) (w : World)
    → opening_of s reserved script input starts ≡ Ok w → IsSound w
    → ((n i : ℕ) → 4096 ≤ i → is_some (held_at w.processes n i) ≡ true → list_any (is_for_the_run i) w.reserved ≡ true)
    → IsTidy w.processes w.names w.reserved
opening_tidy s reserved script input starts w e sound shared = record {
  once = opening_once s reserved script input starts w e;
  used = sound.swept.named;
  ended = nothing_held w sound;
  stay = subst (AllStay w.processes) (sym reserves_are) (all_for_the_run w.processes reserved);
  shared = λ n i h high there load. shared n i high (ap is_some there);
  run = λ n i h there run. absurd (out_of_runs n i h there run);
  free = λ n i h there alone other. free n i h there other (nat_lt i 4096) refl;
  disjoint = subst AllDisjoint (sym reserves_are) (all_disjoint reserved);
  runs = no_runs (held_at w.processes) (λ n i h m. out_of_runs n i h m.there m.run);
  flags = record { each = λ n i h m. absurd (out_of_runs n i h m.there m.run) };
  full = record { each = λ n i h m s some. absurd (out_of_runs n i h m.there m.run) };
}
  where
    reserves_are : w.reserved ≡ map for_the_run reserved
    reserves_are = opening_reserves s reserved script input starts w e

    held : (n i : ℕ) (h : Held) → held_at w.processes n i ≡ Some h → (h.cause ≡ ByLoad) × (h.reserved ≡ 0)
    held n i h there = opening_loads s reserved script input starts w e (n - 1) i h (to_place w.processes n i h there)

    out_of_runs : (n i : ℕ) (h : Held) → held_at w.processes n i ≡ Some h → is_in_run h ≡ true → ⊥
    out_of_runs n i h there run = false≢true (sym (ap (λ (c : ℕ). not (c == 0)) (held n i h there).1) ∙ run)

    free : (n i : ℕ) (h : Held) → held_at w.processes n i ≡ Some h → (4096 ≤ i → is_by_load h.cause ≡ false) → (b : Bool) → nat_lt i 4096 ≡ b
        → list_any (reserves (number_of (if b then Private n else Shared)) i) w.reserved ≡ false
    free n i h there other true low =
        ap (λ (rs : List Reserve). list_any (reserves n i) rs) reserves_are ∙ no_own reserved n i (held_number w.processes n i h there)
    free n i h there other false high = absurd (false≢true (sym (other (high_is i high)) ∙ ap is_by_load (held n i h there).0))
