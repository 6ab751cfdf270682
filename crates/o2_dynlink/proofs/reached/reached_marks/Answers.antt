use Rattle.std.proofs.Common.{◌∙◌, map, Bool, Global, Vec}
use Rattle.o2_dynlink.specs.Reached.{refers}
use Rattle.o2_dynlink.proofs.Marking.{next_round}
use Rattle.o2_dynlink.proofs.Indexes.{as_long}
use Rattle.o2_dynlink.proofs.reached.reached_marks.Goals as goal

pub next_marks-requires : goal.next_marks-requires
next_marks-requires c =
    as_long (refers c.args.shim.now c.args.«module».now) c.args.modules.now c.as_slice.result.now (λ (v : Vec Bool Global). v.items) (λ l. map (λ k. refers c.args.shim.now k l) c.args.modules.now) c.args.columns.now
    (c.as_slice.ensures.value ∙ c.in_ok-first.ensures) c.requires

pub loop-preserved : goal.loop-preserved
loop-preserved c =
    next_round c.args.shim.now c.args.modules.now c.loop.counter c.args.«module».now c.as_slice.result.now c.as_slice-in-loop.result.now c.in_ok-marks-2.marks.items
    (map (λ (v : Vec Bool Global). v.items) c.args.columns.now) (c.as_slice.ensures.value ∙ c.in_ok-first.ensures) c.requires
    (c.as_slice-in-loop.ensures.value ∙ c.loop.invariant) c.in_ok-marks-2.ensures
