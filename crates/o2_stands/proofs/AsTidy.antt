-- A world beside a tidy one: what processes hold in it is the same.
use Rattle.std.proofs.Common.{◌≡◌, inl, inr, ℕ, ◌+◌, ◌-◌, ◌%◌, not, ◌<◌, ◌≤◌, ◌==◌, ◌||◌, nat_le, nat_lt, Bool, true, false, List, [], Option, Some, None, is_some, if◌then◌else◌, ap, sym, ◌∙◌, refl, arith}
use Rattle.std.specs.List.{list_any}
use Rattle.std.proofs.lemmas.Bool.{false≢true}
use Rattle.o2_desc.specs.Choice.{chosen}
use Rattle.o2_world.specs.Changes.{Change, with_changes}
use Rattle.o2_world.specs.Holders.{process_at}
use Rattle.o2_world.specs.HugeRulings.{free_run, run_reserve}
use Rattle.o2_world.specs.Known.{held_at, holds_index, known_of, reserves, taken_in}
use Rattle.o2_world.specs.Map.{get}
use Rattle.o2_world.specs.Rulings.{region_by}
use Rattle.o2_world.specs.Sound.{held_of}
use Rattle.o2_world.specs.Tied.{IsTied}
use Rattle.o2_world.specs.World.{Held, Process, Segment, Setting, World}
use Rattle.o2_world.proofs.HugeMoves.{IsFreeRun, chosen_run}
use Rattle.o2_stands.specs.Runs.{HasFullMembers, HasRunFlags, IsOneFor, is_full, region_end}
use Rattle.o2_stands.specs.Stands.{IsTidy, is_placed, region_at}
use Rattle.o2_stands.specs.Tidies.{AreTidyChanges}
use Rattle.o2_stands.proofs.RunsKept.{full_same, runs_same}
use Rattle.o2_stands.proofs.RunSteps.{AreBehind, high_region, low_region}
use Rattle.o2_stands.proofs.Worlds.{index_back, to_place}

none_some : (h : Held) → ◌≡◌ {A = Option Held} None (Some h) → ⊥
none_some h e = cc

right_false : (a b : Bool) → (a || b) ≡ false → b ≡ false
right_false true b e = absurd (false≢true (sym e))
right_false false b e = e

left_false : (a b : Bool) → (a || b) ≡ false → a ≡ false
left_false true b e = absurd (false≢true (sym e))
left_false false b e = refl

-- who holds something is there
pub holder_there : (ps : List Process) (q j : ℕ) (h : Held) → held_at ps q j ≡ Some h → is_some (process_at ps q) ≡ true
holder_there ps q j h e = go (process_at ps q) refl e
  where
    go : (o : Option Process) → process_at ps q ≡ o → held_of o j ≡ Some h → is_some (process_at ps q) ≡ true
    go None at f = absurd (none_some h f)
    go (Some x) at f = ap is_some at

-- Its processes are there, its segments are as large, and members of runs have flags and sizes as they should.
pub record IsAsTidy (w v : World) (n : ℕ) (p : Process) : Type 0 where
  pub at : process_at w.processes n ≡ Some p
  pub same : (q j : ℕ) → held_at v.processes q j ≡ held_at w.processes q j
  pub reserved : v.reserved ≡ w.reserved
  pub next : v.next_name ≡ w.next_name
  pub there : (q : ℕ) → is_some (process_at w.processes q) ≡ true → is_some (process_at v.processes q) ≡ true
  pub flagged : HasRunFlags (held_at w.processes) v.names
  pub fulled : HasFullMembers (held_at w.processes) v.names
  pub sizes : (q : ℕ) → is_full (get v.names q) ≡ is_full (get w.names q)
  pub tied : IsTied w
  pub tidy : IsTidy w.processes w.names w.reserved

abbrev pub Keeps : World → List Change → Type 0
Keeps v cs = AreTidyChanges v cs × AreBehind (with_changes v cs)

module _ (w v : World) (n : ℕ) (p : Process) (b : IsAsTidy w v n p) where
  abbrev held : ℕ → ℕ → Option Held
  held = held_at w.processes

  pub lives_named : (q j : ℕ) (h : Held) → held q j ≡ Some h → is_some (get w.names h.name) ≡ true
  lives_named q j h e = (b.tied.held (q - 1) j h (to_place w.processes q j h e)).0

  pub low_name : (q j : ℕ) (h : Held) → held q j ≡ Some h → h.name < w.next_name
  low_name q j h e = b.tied.below h.name (lives_named q j h e)

  pub segment_of : (q j : ℕ) (h : Held) → held q j ≡ Some h → (x : Segment) × (get w.names h.name ≡ Some x)
  segment_of q j h e = go (get w.names h.name) refl (lives_named q j h e)
    where
      go : (o : Option Segment) → get w.names h.name ≡ o → is_some o ≡ true → (x : Segment) × (get w.names h.name ≡ Some x)
      go None f l = absurd (false≢true l)
      go (Some x) f l = (x, f)

  pub nothing_kept : Keeps v []
  unfolding with_changes
  nothing_kept = (
    tt,
    record {
      runs = runs_same held (held_at v.processes) b.same b.tidy.runs;
      flags = record { each = λ q j h m. b.flagged.each q j h (record { there = sym (b.same q j) ∙ m.there; run = m.run }) };
      full = full_same held (held_at v.processes) v.names b.same b.fulled;
    },
  )

-- A stretch of indexes of a region that are free.

pub record IsOpenStretch (w : World) (n region first count : ℕ) : Type 0 where
  pub low : 0 < first
  pub end : first + count ≤ region_end first
  pub one : (j : ℕ) → first ≤ j → j < first + count → region_at n j ≡ region
  pub free : (j : ℕ) → first ≤ j → j < first + count → list_any (reserves region j) w.reserved ≡ false
  pub near : (q j : ℕ) → first ≤ j → j < first + count → IsOneFor n q j → held_at w.processes q j ≡ None
  pub back : (q j : ℕ) → first ≤ j → j < first + count → region_at q j ≡ region → IsOneFor n q j
  pub placed : is_placed (run_reserve region first count) ≡ true

at_end : (end first count : ℕ) → region_end first ≡ end → first + count ≤ end → first + count ≤ region_end first
at_end end first count e l = omega (arith, e, l)

high_end : (f : ℕ) → 4096 ≤ f → region_end f ≡ 8192
high_end f l = ap (λ (b : Bool). if b then 4096 else 8192) (above f l)
  where
    above : (f : ℕ) → 4096 ≤ f → nat_lt f 4096 ≡ false
    above f l = grind arith

low_end_is : (f : ℕ) → f < 4096 → region_end f ≡ 4096
low_end_is f l = ap (λ (b : Bool). if b then 4096 else 8192) (below f l)
  where
    below : (f : ℕ) → f < 4096 → nat_lt f 4096 ≡ true
    below f l = grind arith

module _ (w : World) (n first count : ℕ) where
  shared_stretch : chosen (taken_in w 0) 4096 8192 count ≡ Some first → IsOpenStretch w n 0 first count
  shared_stretch e = record {
    low = (let l = run.from in omega (arith, l));
    end = at_end 8192 first count (high_end first run.from) run.below;
    one = λ j low high. high_region n j (let l = run.from in omega (arith, l, low));
    free = λ j low high. right_false (holds_index w.processes j) (list_any (reserves 0 j) w.reserved) (run.free j low high);
    near = λ q j low high one. unheld q j (left_false (holds_index w.processes j) (list_any (reserves 0 j) w.reserved) (run.free j low high)) (held_at w.processes q j) refl;
    back = λ q j low high is. inr (let l = run.from in omega (arith, l, low));
    placed = placed_high first run.from;
  }
    where
      run : IsFreeRun (taken_in w 0) 4096 8192 count first
      run = chosen_run (taken_in w 0) 4096 8192 count first e

      unheld : (q j : ℕ) → holds_index w.processes j ≡ false → (o : Option Held) → held_at w.processes q j ≡ o → held_at w.processes q j ≡ None
      unheld q j none None f = f
      unheld q j none (Some h) f = absurd (false≢true (sym none ∙ index_back w.processes (q - 1) j (ap is_some (to_place w.processes q j h f))))

      placed_high : (f : ℕ) → 4096 ≤ f → nat_le 4096 f ≡ true
      placed_high f l = grind arith

  own_stretch : (n == 0) ≡ false → chosen (taken_in w n) 1 4096 count ≡ Some first → 0 < count → IsOpenStretch w n n first count
  own_stretch some e positive = record {
    low = (let l = run.from in omega (arith, l));
    end = at_end 4096 first count (low_end_is first (let h = run.below in omega (arith, h, positive))) run.below;
    one = λ j low high. low_region n j (let h = run.below in omega (arith, h, high));
    free = λ j low high. right_false (if n == 0 then holds_index w.processes j else is_some (held_at w.processes n j)) (list_any (reserves n j) w.reserved) (run.free j low high);
    near = λ q j low high one. unheld q j (let h = run.below in omega (arith, h, high)) one
        (sym (ap (λ (t : Bool). if t then holds_index w.processes j else is_some (held_at w.processes n j)) some) ∙ left_false (if n == 0 then holds_index w.processes j else is_some (held_at w.processes n j)) (list_any (reserves n j) w.reserved) (run.free j low high));
    back = λ q j low high is. inl (sym (low_region q j (let h = run.below in omega (arith, h, high))) ∙ is);
    placed = ap (λ (t : Bool). if t then nat_le 4096 first else nat_lt first 4096) some ∙ placed_low first (let h = run.below in omega (arith, h, positive));
  }
    where
      run : IsFreeRun (taken_in w n) 1 4096 count first
      run = chosen_run (taken_in w n) 1 4096 count first e

      none_of : (o : Option Held) → is_some o ≡ false → o ≡ None
      none_of None e = refl
      none_of (Some h) e = absurd (false≢true (sym e))

      unheld : (q j : ℕ) → j < 4096 → IsOneFor n q j → is_some (held_at w.processes n j) ≡ false → held_at w.processes q j ≡ None
      unheld q j low (inl same) none = ap (λ (m : ℕ). held_at w.processes m j) same ∙ none_of (held_at w.processes n j) none
      unheld q j low (inr high) none = absurd (omega (arith, low, high))

      placed_low : (f : ℕ) → f < 4096 → nat_lt f 4096 ≡ true
      placed_low f l = grind arith

  -- what is found free
  pub open_stretch : (s : Setting) (flags : ℕ) → 0 < n → 0 < count → free_run (known_of s w) (region_by n flags) count ≡ Some first → IsOpenStretch w n (region_by n flags) first count
  open_stretch s flags some positive e = go (flags % 4 == 0) refl e
    where
      not_zero : (m : ℕ) → 0 < m → (m == 0) ≡ false
      not_zero m l = grind arith

      own : (t : Bool) → (n == 0) ≡ t → (if t then chosen (taken_in w 0) 4096 8192 count else chosen (taken_in w n) 1 4096 count) ≡ Some first → IsOpenStretch w n n first count
      own true f g = absurd (false≢true (sym (not_zero n some) ∙ f))
      own false f g = own_stretch f g positive

      go : (t : Bool) → (flags % 4 == 0) ≡ t
          → (if (if t then n else 0) == 0 then chosen (taken_in w 0) 4096 8192 count else chosen (taken_in w (if t then n else 0)) 1 4096 count) ≡ Some first
          → IsOpenStretch w n (if t then n else 0) first count
      go true f g = own (n == 0) refl g
      go false f g = shared_stretch g

  -- a segment with flags of none of the shared kinds lies in the region of its process
  pub flags_fit : (flags : ℕ) → 0 < n → IsOpenStretch w n (region_by n flags) first count → (j : ℕ) → first ≤ j → j < first + count → (nat_lt j 4096 || not (flags == 0)) ≡ true
  flags_fit flags some o j low high = go (flags == 0) refl
    where
      no_flags : (f : ℕ) → (f == 0) ≡ true → region_by n f ≡ n
      no_flags f e = ap (λ (t : Bool). if t then n else 0) (rest f e)
        where
          rest : (f : ℕ) → (f == 0) ≡ true → (f % 4 == 0) ≡ true
          rest f e = grind arith

      or_right : (a b : Bool) → b ≡ true → (a || b) ≡ true
      or_right true b e = refl
      or_right false b e = e

      small : (m j : ℕ) → 0 < m → region_at m j ≡ m → nat_lt j 4096 ≡ true
      small m j l e = by (nat_lt j 4096) refl
        where
          region_zero : nat_lt j 4096 ≡ false → region_at m j ≡ 0
          region_zero f = high_region m j (from_false j f)
            where
              from_false : (j : ℕ) → nat_lt j 4096 ≡ false → 4096 ≤ j
              from_false j f = grind arith

          by : (t : Bool) → nat_lt j 4096 ≡ t → nat_lt j 4096 ≡ true
          by true f = f
          by false f = (let z : m ≡ 0 = sym e ∙ region_zero f in absurd (omega (arith, l, z)))

      go : (t : Bool) → (flags == 0) ≡ t → (nat_lt j 4096 || not (flags == 0)) ≡ true
      go false f = or_right (nat_lt j 4096) (not (flags == 0)) (ap not f)
      go true f = ap (λ (t : Bool). t || not (flags == 0)) (small n j some (o.one j low high ∙ no_flags flags f))
