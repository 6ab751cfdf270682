-- What each call leaves true of the maps and of what stands beside them.
use Rattle.std.proofs.Common.{◌≡◌, ◌+◌, ◌*◌, ℕ, ◌<◌, ◌≤◌, Bool, true, false, List, [], ◌∷◌, length, Option, Some, None, arith, refl, sym, ◌∙◌, subst, get_or, set, replicate}
use Rattle.std.proofs.lemmas.List.{get_or_read}
use Rattle.o2_desc.specs.declared.descriptor.Descriptor.{Descriptor}
use Rattle.o2_desc.specs.Bytes.{empty}
use Rattle.o2_regions.specs.declared.held.Held.{Held}
use Rattle.o2_regions.specs.Kept.{AreWhole}
use Rattle.o2_regions.specs.Links.{AreNext, ArePrev}
use Rattle.o2_regions.specs.Maps.{Maps, IsProcess, is_reserved, nothing, place, region_of, with_entry, with_held}
use Rattle.o2_regions.proofs.Beginnings.{AreNext-more, ArePrev-more, AreNext-sized, ArePrev-sized, AreNext-nothing, ArePrev-nothing}
use Rattle.o2_regions.proofs.Keeps.{held_read, counted_some, AreKept-made, AreKept-more, AreKept-new, AreKept-none, AreMarked-more, AreMarked-nothing, AreMarked-set, made, place_in}

pub AreWhole-made : (n : ℕ) (held : List (Option Held)) (reserved : List Bool) (tables : List (List Descriptor)) (marks : List Bool) (next prev : List ℕ) → 1 ≤ n → n ≤ 64
    → held ≡ replicate ((n + 1) * 8192) None → reserved ≡ replicate ((n + 1 + 1) * 64 * 64) false → tables ≡ [] ∷ replicate n (replicate 8192 empty) → marks ≡ replicate ((n + 1) * 128 * 64) false
    → length next ≡ (n + 1) * 8192 + 65536 → ((x : ℕ) → x < (n + 1) * 8192 + 65536 → get_or next x 0 ≡ x) → length prev ≡ (n + 1) * 8192 + 65536 → ((x : ℕ) → x < (n + 1) * 8192 + 65536 → get_or prev x 0 ≡ x)
    → AreWhole (record { processes = n; held = held; reserved = reserved; tables = tables }) marks next prev
AreWhole-made n held reserved tables marks next prev some most e r t k nl ns pl ps = (
  AreKept-made n held reserved tables some most e r t,
  AreMarked-nothing held marks ((n + 1) * 8192) ((n + 1) * 128 * 64) e k (omega arith),
  AreNext-nothing held next ((n + 1) * 8192) e nl ns,
  ArePrev-nothing held prev ((n + 1) * 8192) e pl ps,
)

module _ (m : Maps) (marks : List Bool) (next prev : List ℕ) (pid i : ℕ) (x : Option Held) (whole : AreWhole m marks next prev)
    (process : IsProcess m pid) (small : i < 8192) (read : x ≡ get_or m.held (place pid i) x) where
  -- the place is one of the table
  pub inside : place pid i < length m.held
  inside = place_in m pid i whole.0 process small

  pub few : length m.held < 2147483648
  few = omega (arith, whole.0.held_long, whole.0.most)

  pub there : get_or m.held (place pid i) None ≡ x
  there = sym (get_or_read m.held (place pid i) x inside read None)

  pub at_least_one : (was : Held) → x ≡ Some was → 0 < was.holds
  at_least_one was e = counted_some m pid i was whole.0 (sym e ∙ held_read m pid i x whole.0 process small read)

  -- what is held there is held a different number of times
  pub AreWhole-more : (was : Held) (n : ℕ) → x ≡ Some was → 0 < n → AreWhole (with_held m pid i (Some (record was { holds = n }))) marks next prev
  AreWhole-more was n e h =
      let now = record was { holds = n } in
      let r = sym e ∙ held_read m pid i x whole.0 process small read in (
        AreKept-more m pid i n was whole.0 process small h r,
        AreMarked-more m.held marks (place pid i) was now whole.1 inside (subst (λ (o : Option Held). o ≡ get_or m.held (place pid i) o) e read),
        AreNext-more m.held next (place pid i) was now inside (there ∙ e) refl whole.2,
        ArePrev-more m.held prev (place pid i) was now inside (there ∙ e) refl whole.3,
      )

  -- something is held where nothing was
  pub AreWhole-new : (held : Held) (d : Descriptor) (linked back : List ℕ) → 0 < held.holds → is_reserved m (region_of pid i) i ≡ true
      → AreNext (length m.held) (set m.held (place pid i) (Some held)) linked → ArePrev (length m.held) (set m.held (place pid i) (Some held)) back
      → AreWhole (with_entry (with_held m pid i (Some held)) pid i d) (set marks (place pid i) true) linked back
  AreWhole-new held d linked back h r a b = (
    AreKept-new m pid i held d whole.0 process small h r,
    AreMarked-set m.held marks (place pid i) (Some held) true whole.1 inside refl,
    AreNext-sized m.held (place pid i) (Some held) linked a,
    ArePrev-sized m.held (place pid i) (Some held) back b,
  )

  -- nothing is held any longer
  pub AreWhole-none : (d : Descriptor) (linked back : List ℕ) → AreNext (length m.held) (set m.held (place pid i) None) linked → ArePrev (length m.held) (set m.held (place pid i) None) back
      → AreWhole (with_entry (with_held m pid i None) pid i d) (set marks (place pid i) false) linked back
  AreWhole-none d linked back a b = (
    AreKept-none m pid i d whole.0 process small,
    AreMarked-set m.held marks (place pid i) None false whole.1 inside refl,
    AreNext-sized m.held (place pid i) None linked a,
    ArePrev-sized m.held (place pid i) None back b,
  )

-- the maps at first, by what their lists are
pub all_made : (n : ℕ) (held : List (Option Held)) (reserved : List Bool) (tables : List (List Descriptor))
    → held ≡ replicate ((n + 1) * 8192) None → reserved ≡ replicate ((n + 1 + 1) * 64 * 64) false → tables ≡ [] ∷ replicate n (replicate 8192 empty)
    → record { processes = n; held = held; reserved = reserved; tables = tables } ≡ made n
all_made n held reserved tables e r t =
    let s : (n + 1 + 1) * 64 * 64 ≡ (n + 2) * 4096 = omega arith in
    rw (e, r, t, s) refl

pub is_nothing : (n : ℕ) → made n ≡ nothing n
unfolding nothing
is_nothing n = refl
