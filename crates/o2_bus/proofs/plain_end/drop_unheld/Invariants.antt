use Rattle.std.proofs.Common.{◌≡◌, ◌<◌, ◌≤◌, ℕ, [], length, if◌then◌else◌}
use Rattle.std.specs.Prelude.{slice_get}
use Rattle.o2_bus.specs.Plain.{segment_bytes, is_shown}
use Rattle.o2_bus.specs.Ends.{maps_name}
use Rattle.o2_bus.proofs.plain_end.drop_unheld.Given as goal

abbrev pub invariant-loop-name : goal.invariant-loop-name
invariant-loop-name l = record {
  count : length l.segments.items ≡ length l.fn.segments.items;
  done : (n : ℕ) → n < l.name → segment_bytes (slice_get l.segments.items n) ≡ (if maps_name l.maps n then segment_bytes (slice_get l.fn.segments.items n) else []);
  rest : (n : ℕ) → l.name ≤ n → segment_bytes (slice_get l.segments.items n) ≡ segment_bytes (slice_get l.fn.segments.items n);
  shown : (n : ℕ) → is_shown (slice_get l.segments.items n) ≡ is_shown (slice_get l.fn.segments.items n);
}
