-- What is held keeps at least one byte.
use Rattle.std.proofs.Common.{◌≡◌, ℕ, ◌<◌, List, [], length, sym, subst, arith, true, false, Bool}
use Rattle.std.specs.Prelude.{Option, Some, None, slice_get, if◌then◌else◌}
use Rattle.o2_isa.specs.View.{Hold}
use Rattle.o2_bus.specs.declared.plain.Map.{Map}
use Rattle.o2_bus.specs.declared.segment.Segment.{Segment}
use Rattle.o2_bus.specs.Maps.{in_map, segment_bytes, AreFilled}
use Rattle.o2_bus.proofs.Writes.{name_within}

-- the same maps, over segments that keep their sizes
pub filled_sizes : (xs ys : List Segment) (ms : List Map) → AreFilled xs ms → ((n : ℕ) → length (segment_bytes (slice_get ys n)) ≡ length (segment_bytes (slice_get xs n))) → AreFilled ys ms
filled_sizes xs ys ms filled same p i h e = subst (λ (k : ℕ). 0 < k) (sym (same h.name)) (filled p i h e)

-- the same sizes, and no hold more
pub filled_fewer : (xs ys : List Segment) (ms ns : List Map) → AreFilled xs ms
    → ((p i : ℕ) (h : Hold) → in_map (slice_get ns p) i ≡ Some h → in_map (slice_get ms p) i ≡ Some h)
    → ((p i : ℕ) (h : Hold) → in_map (slice_get ns p) i ≡ Some h → segment_bytes (slice_get ys h.name) ≡ segment_bytes (slice_get xs h.name)) → AreFilled ys ns
filled_fewer xs ys ms ns filled was same p i h e = subst (λ (bs : List ℕ). 0 < length bs) (sym (same p i h e)) (filled p i h (was p i h e))

-- segments that keep the bytes of those that were there
pub filled_longer : (xs ys : List Segment) (ms : List Map) → AreFilled xs ms → ((n : ℕ) → n < length xs → segment_bytes (slice_get ys n) ≡ segment_bytes (slice_get xs n)) → AreFilled ys ms
filled_longer xs ys ms filled kept p i h e =
    let some = filled p i h e in
    subst (λ (bs : List ℕ). 0 < length bs) (sym (kept h.name (name_within xs h.name 0 (omega (arith, some))))) some

pub was_held : (b : Bool) (o : Option Hold) (h : Hold) → (if b then None else o) ≡ Some h → o ≡ Some h
was_held true o h e = absurd (cc)
was_held false o h e = e

pub kept_by : (b : Bool) (old new : List ℕ) → b ≡ true → new ≡ (if b then old else []) → new ≡ old
kept_by true old new t e = e
kept_by false old new t e = absurd (cc)
