use Rattle.std.proofs.Common.{List, Ok, Result, ap, arith, sym, ◌∙◌}
use Rattle.std.proofs.lemmas.Result.{err_from_is_err_and}
use Rattle.o2_base.specs.declared.faults.ModuleFault.{ModuleFault}
use Rattle.o2_image.specs.Images.{Target}
use Rattle.o2_dynlink.specs.Imports.{each, on_list, target_in}
use Rattle.o2_dynlink.proofs.Ordered.{numbered}
use Rattle.o2_dynlink.proofs.Passing.{unpassed}
use Rattle.o2_dynlink.proofs.gathering.in_turn.Goals as goal

pub returns-in_err-check_in : goal.returns-in_err-check_in
returns-in_err-check_in c =
    let f = target_in c.args.scope.now.modules.now c.args.scope.now.bases.now c.args.scope.now.shim c.args.scope.now.ordinals.now c.args.base c.args.«module».now in
    let p = err_from_is_err_and c.from_residual-in_err-check_in.result c.from_residual-in_err-check_in.ensures.1 in
    let all = numbered f c.args.«module».now.relocs c.segment_count.result (omega (arith, c.segment_count.ensures, c.is_runnable.ensures.records)) in
    let h = unpassed c.in_err-check_in.field-0.0 (each (on_list f c.args.«module».now.relocs) c.as_slice-order.result.now) c.in_err-check_in.ensures.exact in
    rw (p.1, p.2) (rw (c.as_slice-order.ensures.value, c.in_ok-numbers.ensures.exact, all) at h)

pub returns-in_err-found : goal.returns-in_err-found
returns-in_err-found c =
    let f = target_in c.args.scope.now.modules.now c.args.scope.now.bases.now c.args.scope.now.shim c.args.scope.now.ordinals.now c.args.base c.args.«module».now in
    let p = err_from_is_err_and c.from_residual-in_err-found.result c.from_residual-in_err-found.ensures.1 in
    let all = numbered f c.args.«module».now.relocs c.segment_count.result (omega (arith, c.segment_count.ensures, c.is_runnable.ensures.records)) in
    rw (p.1, p.2) (rw (c.as_slice-order.ensures.value, c.in_ok-numbers.ensures.exact, all) at c.in_err-found.ensures.exact)

pub returns : goal.returns
returns c =
    let f = target_in c.args.scope.now.modules.now c.args.scope.now.bases.now c.args.scope.now.shim c.args.scope.now.ordinals.now c.args.base c.args.«module».now in
    let ok : List (List Target) → Result (List (List Target)) ModuleFault = λ r. Ok r in
    let all = numbered f c.args.«module».now.relocs c.segment_count.result (omega (arith, c.segment_count.ensures, c.is_runnable.ensures.records)) in
    (rw (c.as_slice-order.ensures.value, c.in_ok-numbers.ensures.exact, all) at c.in_ok-found.ensures.exact) ∙ ap ok (sym c.in_ok-targets.ensures)
