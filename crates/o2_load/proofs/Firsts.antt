-- The numbers of a checked module's segments are small.
use Rattle.std.proofs.Common.{◌≡◌, ℕ, Bool, true, false, not, ◌≤◌, ◌<◌, Option, Some, None, if◌then◌else◌, ◌==◌, ◌&&◌, sym, refl, arith}
use Rattle.std.specs.Prelude.{Result, Ok, Err}
use Rattle.o2_base.specs.declared.faults.ModuleFault.{ModuleFault}
use Rattle.o2_base.specs.declared.faults.ModuleFault.TheVariants.{NoStack, NoEntry}
use Rattle.o2_ne_segs.specs.declared.segment.Segment.{Segment}
use Rattle.o2_ne_segs.specs.SegmentTable.{nth_segment}
use Rattle.o2_image.specs.Whole.{IsRunnable}
use Rattle.o2_image.specs.Parts.{Parts}
use Rattle.o2_image.specs.Getters.{is_library}
use Rattle.o2_load.specs.Loads.{is_stack_segment, is_entry_segment, stack_of, parts_check}
use Rattle.o2_load.proofs.Images.{exists, sized}

-- a segment that exists has a small number
pub few_segments : (m : Parts) (n : ℕ) (s : Segment) → IsRunnable m → nth_segment n m.segments ≡ Some s → n < 8192
few_segments m n s runs e = let h = exists (n == 0) m.segments n s refl e in let f = runs.few in omega (arith, h.1, f)

pub small_size : (m : Parts) (n : ℕ) (s : Segment) → IsRunnable m → nth_segment n m.segments ≡ Some s → s.size ≤ 65536
small_size m n s runs e = sized (n == 0) m.segments n s runs.sizes e

stack_there : (m : Parts) (n : ℕ) (o : Option Segment) → o ≡ nth_segment n m.segments → IsRunnable m → is_stack_segment o ≡ true → n < 8192
stack_there m n None e runs is = absurd (cc)
stack_there m n (Some s) e runs is = few_segments m n s runs (sym e)

entry_there : (m : Parts) (ip n : ℕ) (o : Option Segment) → o ≡ nth_segment n m.segments → IsRunnable m → is_entry_segment ip o ≡ true → n < 8192
entry_there m ip n None e runs is = absurd (cc)
entry_there m ip n (Some s) e runs is = few_segments m n s runs (sym e)

passes : (a b : Bool) → ◌≡◌ {A = Result (Unit {0}) ModuleFault} (if not a then Err NoStack else (if b then Ok tt else Err NoEntry)) (Ok tt) → (a ≡ true) × (b ≡ true)
passes true true e = (refl, refl)
passes true false e = absurd (cc)
passes false b e = absurd (cc)

second : (a b : Bool) → a && b ≡ true → b ≡ true
second true b e = e
second false b e = absurd (cc)

pub checked_stack : (m : Parts) → IsRunnable m → parts_check m ≡ Ok tt → stack_of m < 8192
checked_stack m runs e =
    stack_there m (stack_of m) _ refl runs (passes (is_stack_segment (nth_segment (stack_of m) m.segments)) (not (is_library m) && is_entry_segment m.head.ip (nth_segment m.head.cs m.segments)) e).0

pub checked_code : (m : Parts) → IsRunnable m → parts_check m ≡ Ok tt → m.head.cs < 8192
checked_code m runs e =
    entry_there m m.head.ip m.head.cs _ refl runs
    (second _ _ (passes (is_stack_segment (nth_segment (stack_of m) m.segments)) (not (is_library m) && is_entry_segment m.head.ip (nth_segment m.head.cs m.segments)) e).1)
