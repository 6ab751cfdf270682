use Rattle.std.proofs.Common.{◌++◌, ℕ, List, take, ap, sym, ◌∙◌, arith}
use Rattle.std.proofs.lemmas.List.{append_assoc}
use Rattle.std.specs.Prelude.{get_or}
use Rattle.o2_place.specs.declared.seg_id.SegId.{SegId}
use Rattle.o2_segbus.specs.Bus.{held_under}
use Rattle.o2_stepping.specs.Rooms.{pair_of, seated_in, under_all}
use Rattle.o2_stepping.proofs.Seated.{all_under, next_under_more}
use Rattle.o2_stepping.proofs.seats.call_need.Goals as goal

pub seat-requires-clause-room : goal.seat-requires-clause-room
seat-requires-clause-room c =
    (let a = c.loop-selector.invariant.few in
    let b = c.loop-selector-test.true in
    let d = c.as_slice-selector-items.ensures.few in
    omega (arith, a, b, d))

pub loop-selector-preserved : goal.loop-selector-preserved
loop-selector-preserved c =
    let m = c.args.regions.now in
    let pid = c.args.pid in
    let ss = c.as_slice-selector-items.result.now in
    let k = c.loop-selector.selector-index in
    let seats = seated_in m pid c.args.cpu.now in
    let one = pair_of (held_under m pid (get_or ss k 0)) in
    record {
      so_far =
          c.seat.ensures.seated
          ∙ (ap (λ (l : List (SegId × ℕ)). l ++ one) c.loop-selector.invariant.so_far
          ∙ (append_assoc seats (under_all m pid (take k ss)) one
          ∙ ap (λ (l : List (SegId × ℕ)). seats ++ l) (sym (next_under_more m pid ss k c.loop-selector-test.true))));
      few = (let a = c.loop-selector.invariant.few in let b = c.seat.ensures.few in omega (arith, a, b));
    }

pub returns : goal.returns
returns c =
    let m = c.args.regions.now in
    let pid = c.args.pid in
    let ss = c.as_slice-selector-items.result.now in
    let seats = seated_in m pid c.args.cpu.now in
    c.loop-selector.invariant.so_far
    ∙ ap (λ (l : List (SegId × ℕ)). seats ++ l)
    (all_under m pid ss c.loop-selector.selector-index c.loop-selector-test.false ∙ ap (under_all m pid) (c.as_slice-selector-items.ensures.all ∙ c.selectors_of-aims.ensures))
