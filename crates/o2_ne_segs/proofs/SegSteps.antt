-- A loop that reads by steps and fails by a segment's fault.
use Rattle.std.proofs.Common.{◌≡◌, ℕ, ◌-◌, ◌<◌, Result}
use Rattle.o2_base.specs.declared.memory.Fail.TheVariants.{Bad}
use Rattle.o2_ne.specs.Steps.{steps}
use Rattle.o2_ne.proofs.Stepwise as stepwise
use Rattle.o2_base.specs.declared.faults.SegFault.{SegFault}
use Rattle.o2_base.specs.declared.faults.SegFault.TheVariants as fault
use Rattle.o2_ne_segs.specs.SegmentTable.{SegFails}

module _ {S : Type 0} where
  -- a step that failed is the end
  pub fails_here : (e : SegFault) (f : S → Result S SegFault) (count i : ℕ) (s : S) (total : Result S SegFault) → i < count → SegFails e (f s)
      → steps f (count - i) s ≡ total → SegFails e total
  fails_here fault.NoMemory f count i s total lt h so_far = tt
  fails_here (fault.Truncated p) f count i s total lt h so_far = stepwise.fails_here (Bad (fault.Truncated p)) f count i s total lt h so_far
  fails_here (fault.OutOfProfile p) f count i s total lt h so_far = stepwise.fails_here (Bad (fault.OutOfProfile p)) f count i s total lt h so_far
