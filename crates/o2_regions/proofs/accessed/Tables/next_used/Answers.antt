use Rattle.std.proofs.Common.{◌≡◌, ◌<◌, arith, ap, sym, subst, List, refl, length, ℕ, ◌/◌}
use Rattle.o2_desc.specs.declared.descriptor.Descriptor.{Descriptor}
use Rattle.o2_regions.specs.Accessed.{AreListed}
use Rattle.o2_regions.proofs.Listing.{listed_less}
use Rattle.o2_regions.proofs.accessed.Tables.next_used.Goals as goal

pub invariant_of-self-then-is_used : goal.invariant_of-self-then-is_used
invariant_of-self-then-is_used c =
    let t = c.self.inside.tables.items in
    let p = c.in-Some.place in
    let l : p / 8192 < length t = rw c.deref.ensures.value at (c.is_used.ensures.inside c.if-is_used.true) in
    let q : c.pair_of-pid.result.0 ≡ p / 8192 = ap (λ (x : ℕ × ℕ). x.0) c.pair_of-pid.ensures in
    let w : c.pair_of-pid.result.0 < length t = omega (arith, l, q) in
    subst (λ (x : List (List Descriptor)). AreListed x c.take.new.self) (sym (c.unmark_entry.ensures))
    (listed_less t c.self.inside.listed c.take.new.self _ _ p c.self.invariant c.take.ensures.few c.in-Some.ensures.some w (ap (λ (x : ℕ × ℕ). x.0) (sym c.pair_of-pid.ensures)) (ap (λ (x : ℕ × ℕ). x.1) (sym c.pair_of-pid.ensures)))

pub returns-then-is_used-clause-stays : goal.returns-then-is_used-clause-stays
returns-then-is_used-clause-stays c = λ f. absurd (f c.in-Some.place refl)
