use Rattle.std.proofs.Common.{ℕ, arith, get_or, take}
use Rattle.std.proofs.lemmas.Option.{slice_get-get_or}
use Rattle.o2_place.specs.declared.seg_id.SegId.{SegId}
use Rattle.o2_service.proofs.Amounts.{live_within, needed_more, needed_part}
use Rattle.o2_service.proofs.amount.amount.Goals as goal

pub overflow_sub-total : goal.overflow_sub-total
overflow_sub-total c =
    let s = c.args.store.now in
    let need = c.args.need.now in
    let k = c.loop-k.k in
    let d : SegId × ℕ = (record { key = 0; age = 0 }, 0) in
    let w = live_within s (get_or need k d).0 (c.requires.live.each k (get_or need k d) (slice_get-get_or need k d c.loop-k-test.true)) in
    let p = needed_part s (take k need) (get_or need k d).0.key w in
    omega (arith, p, c.loop-k.invariant.total, c.part_of-before.ensures.value)

pub loop-k-preserved : goal.loop-k-preserved
loop-k-preserved c =
    let s = c.args.store.now in
    let need = c.args.need.now in
    let k = c.loop-k.k in
    let i = c.loop-k.invariant in
    let d : SegId × ℕ = (record { key = 0; age = 0 }, 0) in
    let w = live_within s (get_or need k d).0 (c.requires.live.each k (get_or need k d) (slice_get-get_or need k d c.loop-k-test.true)) in
    let p = needed_part s (take k need) (get_or need k d).0.key w in
    let m = needed_more s need k d c.loop-k-test.true w in
    record {
      total = omega (arith, p, m, i.total, c.part_of-before.ensures.value, c.part_of-after.ensures.value);
      small = omega (arith, i.small, c.part_of-after.ensures.small);
    }
