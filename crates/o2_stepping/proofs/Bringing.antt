-- A process may step once what it needs is in memory.
use Rattle.std.proofs.Common.{◌≡◌, ℕ, ◌/◌, ◌==◌, ◌||◌, Bool, cond, true, false, List, [], ◌∷◌, ◌++◌, length, Option, Some, None, IsSome, ap, sym, ◌∙◌, refl, subst, arith}
use Rattle.std.specs.Prelude.{option_map}
use Rattle.std.proofs.lemmas.Option.{slice_get_within}
use Rattle.std.proofs.lemmas.Bool.{eq-eqb}
use Rattle.o2_isa.specs.declared.cpu.Cpu.{Cpu}
use Rattle.o2_isa.specs.declared.instr.Sreg.{Sreg}
use Rattle.o2_isa.specs.declared.instr.Sreg.TheVariants.{Es, Cs, Ss, Ds}
use Rattle.o2_isa.specs.Registers.{sreg}
use Rattle.o2_isa.specs.View.{Hold, IsBound, bound_in, bound_registers, in_register, is_null, is_local, present_or_none}
use Rattle.o2_place.specs.declared.seg_id.SegId.{SegId}
use Rattle.o2_regions.specs.declared.held.Held.{Held}
use Rattle.o2_regions.specs.Maps.{Maps, IsProcess}
use Rattle.o2_store.specs.Shelf.{Shelf, place_of}
use Rattle.o2_segbus.specs.Bus.{held_under}
use Rattle.o2_segbus.specs.Frames.{CanStep}
use Rattle.o2_segbus.specs.Seen.{AreNamed, hold_in, hold_of, present_in, present_under, seen, seen_with}
use Rattle.o2_segbus.specs.Settled.{IsSettled}
use Rattle.o2_segbus.proofs.Holds.{bound_is, under_at}
use Rattle.o2_service.specs.Needs.{ArePresent, needs}
use Rattle.o2_stepping.specs.Rooms.{AreNeeded, pair_of, seated_in}
use Rattle.o2_stepping.specs.Shapes.{SameHolds}
use Rattle.o2_stepping.proofs.Keeping.{held_stays}
use Rattle.o2_stepping.proofs.Named.{needed_at, or_front, or_back}

-- the number of a segment that is needed has its place
placed_at : (t : Shelf) (need : List (SegId × ℕ)) (k : ℕ) → ArePresent t need (length need) → needs need k ≡ true → IsSome (place_of t k)
placed_at t need k here e =
    let n = needed_at need k e in
    subst (λ (j : ℕ). IsSome (place_of t j)) n.1.1.1 (here.each n.0 n.1.0 (slice_get_within need n.0 n.1.0 n.1.1.0) n.1.1.0)

or_assoc : (a b c : Bool) → (a || (b || c)) ≡ ((a || b) || c)
or_assoc true b c = refl
or_assoc false b c = refl

pub needs_both : (xs ys : List (SegId × ℕ)) (k : ℕ) → needs (xs ++ ys) k ≡ (needs xs k || needs ys k)
needs_both [] ys k = refl
needs_both (x ∷ xs) ys k = ap (λ (b : Bool). (k == x.0.key) || b) (needs_both xs ys k) ∙ or_assoc (k == x.0.key) (needs xs k) (needs ys k)

in_front : (xs ys : List (SegId × ℕ)) (k : ℕ) → needs xs k ≡ true → needs (xs ++ ys) k ≡ true
in_front xs ys k e = needs_both xs ys k ∙ or_front (needs xs k) (needs ys k) e

in_back : (xs ys : List (SegId × ℕ)) (k : ℕ) → needs ys k ≡ true → needs (xs ++ ys) k ≡ true
in_back xs ys k e = needs_both xs ys k ∙ or_back (needs xs k) (needs ys k) e

abbrev seat_of : Maps → ℕ → ℕ → List (SegId × ℕ)
seat_of m pid s = pair_of (held_under m pid s)

-- what a segment register names is among the segments in them
seat_needed : (m : Maps) (pid : ℕ) (c : Cpu) (r : Sreg) (h : Held) → held_under m pid (sreg c r) ≡ Some h → needs (seated_in m pid c) h.id.key ≡ true
seat_needed m pid c r h e = by r (one (held_under m pid (sreg c r)) e)
  where
    one : (o : Option Held) → o ≡ Some h → needs (pair_of o) h.id.key ≡ true
    one o e = subst (λ (x : Option Held). needs (pair_of x) h.id.key ≡ true) (sym e) (or_front (h.id.key == h.id.key) false (eq-eqb h.id.key h.id.key refl))

    by : (r : Sreg) → needs (seat_of m pid (sreg c r)) h.id.key ≡ true → needs (seated_in m pid c) h.id.key ≡ true
    by Es f = in_front (seat_of m pid c.es ++ seat_of m pid c.cs ++ seat_of m pid c.ss) (seat_of m pid c.ds) h.id.key (in_front (seat_of m pid c.es ++ seat_of m pid c.cs) (seat_of m pid c.ss) h.id.key (in_front (seat_of m pid c.es) (seat_of m pid c.cs) h.id.key f))
    by Cs f = in_front (seat_of m pid c.es ++ seat_of m pid c.cs ++ seat_of m pid c.ss) (seat_of m pid c.ds) h.id.key (in_front (seat_of m pid c.es ++ seat_of m pid c.cs) (seat_of m pid c.ss) h.id.key (in_back (seat_of m pid c.es) (seat_of m pid c.cs) h.id.key f))
    by Ss f = in_front (seat_of m pid c.es ++ seat_of m pid c.cs ++ seat_of m pid c.ss) (seat_of m pid c.ds) h.id.key (in_back (seat_of m pid c.es ++ seat_of m pid c.cs) (seat_of m pid c.ss) h.id.key f)
    by Ds f = in_back (seat_of m pid c.es ++ seat_of m pid c.cs ++ seat_of m pid c.ss) (seat_of m pid c.ds) h.id.key f

pub by_register : (held : ℕ → Option Hold) (c : Cpu) (r : Sreg) → in_register (bound_registers held c) r ≡ bound_in held (sreg c r)
by_register held c Es = refl
by_register held c Cs = refl
by_register held c Ss = refl
by_register held c Ds = refl

-- where all segments in the segment registers are in memory, the process may step
pub can_step : (t : Shelf) (m n : Maps) (pid : ℕ) (c : Cpu) (need : List (SegId × ℕ)) → IsProcess m pid → SameHolds m n → AreNamed t n → IsSettled t n
    → ArePresent t need (length need) → AreNeeded need (seated_in m pid c) → CanStep t n pid c
unfolding seen_with
can_step t m n pid c need process same named settled here seats = record {
  process = (process.0, (let e = same.processes in let l = process.1 in omega (arith, e, l)));
  named = named;
  settled = settled;
  bound = bound;
}
  where
    held_same : (s : ℕ) → held_under n pid s ≡ held_under m pid s
    held_same s = ap (λ (o : Option Held). cond (is_null s) None (cond (is_local s) o None)) (held_stays m n same pid (s / 8))

    by_hold : (r : Sreg) (o : Option Held) → held_under n pid (sreg c r) ≡ o → present_or_none (present_in t) (option_map (hold_of n pid (sreg c r / 8)) o) ≡ true
    by_hold r None e = refl
    by_hold r (Some h) e =
        ap (present_under t) (named pid (sreg c r / 8) h (under_at n pid (sreg c r) h e))
        ∙ placed_at t need h.id.key here (seats.each h.id.key (seat_needed m pid c r h (sym (held_same (sreg c r)) ∙ e)))

    bound : IsBound (seen t n pid c)
    bound r =
        subst (λ (o : Option Hold). present_or_none (present_in t) o ≡ true) (sym (by_register (hold_in n pid) c r ∙ bound_is n pid (sreg c r)))
        (by_hold r (held_under n pid (sreg c r)) refl)
