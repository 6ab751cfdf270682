use Rattle.std.proofs.Common.{◌≡◌, ◌+◌, arith, ap, ◌∙◌, length, subst, sym, take, ℕ}
use Rattle.o2_place.specs.Layout.{used}
use Rattle.o2_place.proofs.RangeLemmas.{packed_end}
use Rattle.std.proofs.lemmas.Grind.{common_steps}
use Rattle.o2_compact.proofs.Fronts.{HaveSlid, behind_slide, front_stays, slid_more, slid_none}
use Rattle.o2_compact.proofs.Steps.{keeps_refl, keeps_trans, sink_fits, sunk_packed, sunk_end}
use Rattle.o2_compact.proofs.close_up.Goals as goal

pub loop-k-init : goal.loop-k-init
loop-k-init c = record {
  kept = keeps_refl c.args.phys.now c.args.places.now;
  packed = c.packed_front-front.ensures.packed;
  ends = c.end_below-end.ensures;
  slid = slid_none c.args.places.now c.packed_front-front.result c.end_below-end.result c.end_below-end.ensures c.packed_front-front.ensures.gap;
}

pub move_range-end-requires-clause-below : goal.move_range-end-requires-clause-below
move_range-end-requires-clause-below c = let i = c.loop-k.invariant in sink_fits c.loop-k.places c.loop-k.k c.loop-k.end c.law-in-loop-k.ensures.layout (omega (arith, i.kept.count, c.count-k-end.ensures.count)) i.ends

pub loop-k-preserved : goal.loop-k-preserved
loop-k-preserved c =
    let i = c.loop-k.invariant in
    let m = c.move_range-end in
    let e = m.ensures.end in
    let p = c.args.places.now in
    let q = c.loop-k.places in
    record {
      kept = keeps_trans c.args.phys.now c.loop-k.phys m.new.phys p q m.new.places i.kept m.ensures.kept;
      packed = sunk_packed q m.new.places c.loop-k.k c.loop-k.end (omega (arith, i.kept.count, c.count-k-end.ensures.count)) i.packed i.ends m.ensures.moved;
      ends = e ∙ sunk_end q m.new.places c.loop-k.k c.loop-k.end (omega (arith, i.kept.count, c.count-k-end.ensures.count)) m.ensures.moved;
      slid = subst (λ (x : ℕ). HaveSlid p m.new.places c.packed_front-front.result (c.loop-k.k + 1) x) (sym e)
          (slid_more p q m.new.places c.packed_front-front.result c.loop-k.k c.loop-k.end c.law.ensures.layout i.slid (omega (arith, c.count-k-end.ensures.count)) i.kept.count m.ensures.moved);
    }

pub returns-clause-room : goal.returns-clause-room
returns-clause-room c =
    let i = c.loop-k.invariant in
    let rs = c.loop-k.places.ranges in
    let n : c.loop-k.k ≡ length rs = omega (arith, i.kept.count, c.count-k-end.ensures.count) in
    let p = packed_end rs (length rs) (omega arith) (λ k l. i.packed k (omega (arith, n))) in
    let t : take (length rs) rs ≡ rs = grind (arith, common_steps) in
    let u = ap used t in
    λ len l. c.law-2.ensures.past (used rs) len (omega (arith, p, u)) l

pub returns-clause-stay : goal.returns-clause-stay
returns-clause-stay c =
    let i = c.loop-k.invariant in
    front_stays c.args.phys.now c.loop-k.phys c.args.places.now c.loop-k.places c.packed_front-front.result c.loop-k.k c.loop-k.end i.kept c.law.ensures.positive i.slid

pub returns-clause-slide : goal.returns-clause-slide
returns-clause-slide c =
    let i = c.loop-k.invariant in
    behind_slide c.args.places.now c.loop-k.places c.packed_front-front.result c.loop-k.k c.loop-k.end (omega (arith, i.kept.count, c.count-k-end.ensures.count, c.loop-k-test.false)) i.slid
