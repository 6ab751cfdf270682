-- The sizes of the segments of a plain memory.
use Rattle.std.specs.Prelude.{◌≤◌, length, slice_get, Option, Some, None, refl}
use Rattle.std.proofs.Common.{arith}
use Rattle.o2_isa.specs.Sizes.{IsSized}
use Rattle.o2_bus.specs.declared.segment.Segment.{Segment}
use Rattle.o2_bus.specs.declared.plain_bus.PlainBus.{PlainBus}
use Rattle.o2_bus.specs.Plain.{held_in, bytes_in, bus_view, view_in, segment_bytes}

small : (o : Option Segment) → length (segment_bytes o) ≤ 65536
small None = omega arith
small (Some s) = s.small

pub plain_sized : (b : PlainBus) → IsSized (view_in b)
unfolding bus_view held_in bytes_in
plain_sized b = record {
  bytes = λ n present. refl;
  most = λ n present. small (slice_get b.plain.now.segments.items n);
  least = λ i h held present. b.plain.now.filled b.pid i h held;
}
