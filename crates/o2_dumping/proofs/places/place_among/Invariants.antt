use Rattle.std.proofs.Common.{ℕ, ◌-◌, ◌<◌, ◌≤◌, length, get_or}
use Rattle.o2_dumping.specs.Told.{numbers}
use Rattle.o2_dumping.proofs.places.place_among.Given as goal

abbrev pub invariant-loop-low : goal.invariant-loop-low
invariant-loop-low l = record {
  order : l.low ≤ l.high;
  within : l.high ≤ length (numbers l.store);
  below : (i : ℕ) → i < l.low → get_or (numbers l.store) i 0 < l.key;
  from : (i : ℕ) → l.high ≤ i → i < length (numbers l.store) → l.key ≤ get_or (numbers l.store) i 0;
}

abbrev pub decreases-loop-low : goal.decreases-loop-low
decreases-loop-low l = l.high - l.low
