use Rattle.std.proofs.Common.{◌≡◌, ℕ, ◌+◌, inl, inr, arith, refl, subst, sym, ◌∙◌}
use Rattle.o2_world.specs.Rulings.{indexes}
use Rattle.o2_changes.proofs.KeepingHolds.{holds_refl}
use Rattle.o2_huge.specs.Cuts.{MatchesCut}
use Rattle.o2_huge.proofs.Cutting.{cut_none, cut_then, shrinks_none, shrinks_then}
use Rattle.o2_huge.proofs.Growing.{indexes_more}
use Rattle.o2_huge.proofs.losing.cut.Goals as goal

pub loop-place-init : goal.loop-place-init
loop-place-init c = record {
  shrinks = shrinks_none c.args.store.now c.args.regions.now c.requires.may_cut.order;
  others = λ q i other. refl;
  none = λ first. holds_refl c.args.regions.now;
  matches = cut_none c.args.store.now c.args.regions.now c.args.pid;
}

pub cut_one-requires-clause-may_cut : goal.cut_one-requires-clause-may_cut
cut_one-requires-clause-may_cut c =
    let may = c.requires.may_cut in
    let i = c.loop-place.invariant in
    record {
      process = (may.process.0, (let a = may.process.1 in let e = i.shrinks.processes in omega (arith, a, e)));
      behind = (let a = may.behind in omega (arith, a));
      head = record { held = may.head.held; there = i.others c.args.pid c.args.first (λ own. inl may.behind) ∙ may.head.there; run = may.head.run };
      order = i.shrinks.goes_on.order;
    }

pub cut_one-requires-clause-member : goal.cut_one-requires-clause-member
cut_one-requires-clause-member c =
    let x = c.requires.members (c.args.from + c.loop-place.place) (omega arith) (let a = c.loop-place-test.true in omega (arith, a)) in
    record {
      held = x.held;
      there = c.loop-place.invariant.others c.args.pid (c.args.from + c.loop-place.place) (λ own. inr (omega arith)) ∙ x.there;
      run = x.run;
    }

pub loop-place-preserved : goal.loop-place-preserved
loop-place-preserved c =
    let i = c.loop-place.invariant in
    let s = c.args.store.now in
    let t = c.loop-place.store in
    let u = c.cut_one.new.store in
    let l = c.args.regions.now in
    let m = c.loop-place.regions in
    let n = c.cut_one.new.regions in
    let k = c.loop-place.place in
    let from = c.args.from in
    let pid = c.args.pid in
    let x = c.requires.members (from + k) (omega arith) (let a = c.loop-place-test.true in omega (arith, a)) in
    record {
      shrinks = shrinks_then s t u l m n i.shrinks c.cut_one.ensures.shrinks;
      others = λ q j other.
          c.cut_one.ensures.others q j (λ own same. elim (other own) [ inl low ↦ omega (arith, low, same) | inr high ↦ omega (arith, high, same) ])
          ∙ i.others q j (λ own. elim (other own) [ inl low ↦ inl low | inr high ↦ inr (omega (arith, high)) ]);
      none = λ first. absurd (omega (arith, first));
      matches = subst (MatchesCut s u l n pid) (sym (indexes_more from k))
          (cut_then s t u l m n pid (from + k) _ x.held x.there (i.others pid (from + k) (λ own. inr (omega arith)) ∙ x.there) i.matches c.cut_one.ensures.matches);
    }

pub returns-clause-matches : goal.returns-clause-matches
returns-clause-matches c =
    let below = c.loop-place.auto.place-end in
    let over = c.loop-place-test.false in
    let end : c.loop-place.place ≡ c.args.count = omega (arith, below, over) in
    subst (λ (k : ℕ). MatchesCut c.args.store.now c.loop-place.store c.args.regions.now c.loop-place.regions c.args.pid (indexes c.args.from k)) end c.loop-place.invariant.matches

pub returns-clause-none : goal.returns-clause-none
returns-clause-none c = λ none.
    (let below = c.loop-place.auto.place-end in
    c.loop-place.invariant.none (omega (arith, below, none)))
