use Rattle.std.proofs.Common.{◌≡◌, ℕ, ◌*◌, ◌/◌, ◌≢◌, ◌<◌, ◌==◌, min, false, arith, refl}
use Rattle.std.proofs.lemmas.Bool.Decides.{nat_tests}
use Rattle.o2_world.specs.HeapRulings.{area_of}
use Rattle.o2_subseg.proofs.plans.area.Goals as goal

whole_area : (size : ℕ) → size ≡ 0 → 65532 ≡ area_of size
unfolding area_of
whole_area size h = rw h refl

not_zero : (size : ℕ) → size ≢ 0 → (size == 0) ≡ false
not_zero size h = grind (arith, nat_tests)

part : (size : ℕ) → size < 65536 → size / 4 * 4 ≡ min 65532 (size / 4 * 4)
part size h = omega arith

some_area : (size : ℕ) → size ≢ 0 → size < 65536 → size / 4 * 4 ≡ area_of size
unfolding area_of
some_area size n h = rw (not_zero size n) (part size h)

pub returns-then-size-eq0 : goal.returns-then-size-eq0
returns-then-size-eq0 c = record { is = whole_area c.args.size c.if-size-eq0.true; whole = refl }

pub returns-else-size-eq0 : goal.returns-else-size-eq0
returns-else-size-eq0 c = record { is = some_area c.args.size c.if-size-eq0.false c.ranges.size.fits; whole = omega arith }
