use Rattle.std.proofs.Common.{◌≡◌, ◌-◌, ◌<◌, ◌∙◌, ℕ, inl, inr, length, sym, arith, get_or, set, subst}
use Rattle.std.proofs.lemmas.Bool.{cases_eq}
use Rattle.std.proofs.lemmas.List.{get_or-set_same, get_or-set_other}
use Rattle.o2_swapmap.specs.Piles.{pile}
use Rattle.o2_swapmap.proofs.Moves.{top_is, walk_step, walk_end}
use Rattle.o2_swapmap.proofs.piles.list_out.Goals as goal

pub loop-k-preserved : goal.loop-k-preserved
loop-k-preserved c =
    let i = c.loop-k.invariant in
    let n = c.loop-k.k in
    let at = c.loop-k.at in
    let some : 0 < n = omega arith in
    let whole = pile c.args.blocks.now c.args.top c.args.count in
    record {
      within = omega (arith, i.within);
      chain = (top_is c.args.blocks.now c.args.owner at n i.chain some).3;
      same = λ j l. sym (walk_step c.args.blocks.now c.args.owner at n j i.chain (omega arith)).1 ∙ i.same j (omega arith);
      listed = λ j l m. elim (cases_eq j (n - 1)) [
        | inl e ↦
            (let w : n - 1 < length c.loop-k.into = omega (arith, i.within, c.loop-k.auto.into, c.requires.room) in
            let last : get_or (pile c.args.blocks.now at n) (n - 1) 0 ≡ at = walk_end c.args.blocks.now c.args.owner at n (n - 1) i.chain (omega arith) in
            subst (λ (x : ℕ). get_or (set c.loop-k.into (n - 1) at) x 0 ≡ get_or whole x 0) (sym e) (get_or-set_same c.loop-k.into (n - 1) at 0 w ∙ sym last ∙ i.same (n - 1) (omega arith)))
        | inr d ↦ get_or-set_other c.loop-k.into (n - 1) j at 0 d ∙ i.listed j (omega (arith, d)) m
      ];
    }
