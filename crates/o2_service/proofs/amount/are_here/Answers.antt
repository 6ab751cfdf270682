use Rattle.std.proofs.Common.{◌≡◌, arith, get_or, length, subst, ℕ}
use Rattle.std.proofs.lemmas.Option.{slice_get-get_or}
use Rattle.o2_place.specs.declared.seg_id.SegId.{SegId}
use Rattle.o2_service.proofs.Fitting.{FitAt, all_fit}
use Rattle.o2_service.proofs.amount.are_here.Goals as goal

pub returns-clause-fits : goal.returns-clause-fits
returns-clause-fits c = λ e.
    (let s = c.args.store.now in
    let need = c.args.need.now in
    let k : c.loop-k.k ≡ length need = omega (arith, c.loop-k.auto.k-end, c.loop-k-test.false) in
    all_fit s need c.law.ensures.shelf (subst (λ (x : ℕ). FitAt s need x) k c.loop-k.invariant) c.law.ensures.sum c.law.ensures.room)

pub returns-then-not-is_served-clause-missing : goal.returns-then-not-is_served-clause-missing
returns-then-not-is_served-clause-missing c = λ e a.
    (let need = c.args.need.now in
    let k = c.loop-k.k in
    let d : SegId × ℕ = (record { key = 0; age = 0 }, 0) in
    let at = slice_get-get_or need k d c.loop-k-test.true in
    let l = c.is_served.ensures.missing c.if-not-is_served.true (a.place k (get_or need k d) at) in
    let m = a.size k (get_or need k d) at in
    absurd (omega (arith, l, m)))
