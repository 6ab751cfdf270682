use Rattle.std.proofs.Common.{◌≡◌, ◌≤◌, ℕ, List, Some, length, take, ap, sym, ◌∙◌, subst, arith}
use Rattle.std.proofs.lemmas.Bool.Decides.{nat_tests}
use Rattle.o2_outer.specs.Reads.{bytes_left}
use Rattle.o2_outer.proofs.Readers.{front_lent, left_seen, left_unseen}
use Rattle.o2_outer.proofs.stdin.StreamSource.hold.Goals as goal

pub returns-clause-left : goal.returns-clause-left
returns-clause-left g c = λ t e.
    let old = c.args.self.now in
    let read = c.read_on-held in
    let size : length read.new.buffer ≡ 65536 = read.ensures.len ∙ ap (λ (z : List ℕ). length z) c.as_mut_slice.ensures.value ∙ old.room in
    let most : read.result.0 ≤ length read.new.buffer = omega (arith, size, read.ensures.most, c.requires) in
    let fits : read.result.0 ≤ old.buffer.len = omega (arith, old.buffer.ok.0, old.room, read.ensures.most, c.requires) in
    left_seen _ _ _ t (λ less. read.ensures.end c.if-not-whole.false (grind (arith, nat_tests, less)))
    (subst (λ (z : List ℕ). bytes_left z (g.R.Read.remaining read.new.reader) ≡ Some t) (sym (front_lent read.result.0 old.buffer.len read.new.buffer _ fits most))
    (read.ensures.left t (subst (λ (z : List ℕ). bytes_left (take old.held z) (g.R.Read.remaining old.reader) ≡ Some t) (sym c.as_mut_slice.ensures.value) (left_unseen _ _ _ t c.if-self.false e))))
