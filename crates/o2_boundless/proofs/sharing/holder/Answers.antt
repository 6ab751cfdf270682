use Rattle.std.proofs.Common.{◌≡◌, ℕ, ◌+◌, ◌-◌, Bool, length, find, ap, sym, ◌∙◌, arith}
use Rattle.std.specs.Prelude.{is_some}
use Rattle.o2_world.specs.Known.{held_at}
use Rattle.o2_world.specs.Rulings.{indexes}
use Rattle.o2_boundless.proofs.Walks.{find_next}
use Rattle.o2_boundless.proofs.sharing.holder.Goals as goal

pub loop-k-preserved : goal.loop-k-preserved
loop-k-preserved c =
    let p : ℕ → Bool = λ n. is_some (held_at c.args.processes.now n c.args.index) in
    let k : ℕ = c.loop-k.k in
    let n : ℕ = length c.args.processes.now in
    let one : n - k - 1 ≡ n - (k + 1) = omega arith in
    ap (λ (j : ℕ). find p (indexes (k + 1 + 1) j)) (sym one)
    ∙ (sym (find_next p (k + 1) (n - k) (omega arith) (sym c.is_held_under.ensures ∙ c.if-is_held_under.false)) ∙ c.loop-k.invariant)
