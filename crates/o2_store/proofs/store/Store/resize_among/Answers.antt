use Rattle.std.proofs.Common.{◌≡◌, ◌+◌, ◌<◌, ◌≤◌, length, ap, sym, subst, ◌∙◌, is_some, arith}
use Rattle.o2_place.specs.Layout.{used}
use Rattle.o2_store.specs.Needs.{all_need}
use Rattle.o2_store.specs.Shelf.{Shelf, entry, rounded}
use Rattle.o2_store.specs.Sizes.{StaysPut, start_in}
use Rattle.o2_store.proofs.Leaving.{written_after}
use Rattle.o2_store.proofs.Loads.{full_load, sized_load, same_swap_load, same_load_at}
use Rattle.o2_store.proofs.Tables.{within_at}
use Rattle.o2_store.proofs.Collecting.{kept_has, need_holds, same_need}
use Rattle.o2_store.proofs.Grown.{resizes_after}
use Rattle.o2_store.specs.Idle.{NoneTaken}
use Rattle.o2_store.proofs.store.Store.resize_among.Goals as goal

pub returns-in-Here-clause-resized : goal.returns-in-Here-clause-resized
returns-in-Here-clause-resized g c =
    let S = g.S.SwapDevice in
    let v = c.evict_until-answer in
    let told = S.told v.new.swap in
    let b = S.block v.new.swap in
    λ pic a e. resizes_after told pic c.args.self.now v.new.self c.set_size.new.self (S.block c.args.swap.now) b b c.args.key c.args.size (v.ensures.keeps pic a) (c.set_size.ensures.resizes told pic b)

pub returns-in-Here-clause-kept : goal.returns-in-Here-clause-kept
returns-in-Here-clause-kept g c = λ k h i. c.set_size.ensures.presence k ∙ ap is_some (c.evict_until-answer.ensures.kept k (kept_has c.args.self.now.keys k h)) ∙ i

pub returns-in-Here-clause-written : goal.returns-in-Here-clause-written
returns-in-Here-clause-written g c = written_after c.args.self.now c.evict_until-answer.new.self c.set_size.new.self c.args.key c.evict_until-answer.ensures.evicts c.set_size.ensures.presence c.set_size.ensures.others

pub returns-in-Here-clause-in_place : goal.returns-in-Here-clause-in_place
returns-in-Here-clause-in_place g c = λ q.
    (let s = c.args.self.now in
    let l : used s.places.ranges + c.saturating_sub-growth.result ≤ s.places.size = omega (arith, q, c.saturating_sub-growth.ensures, c.rounded_size.ensures.value, c.law.ensures.room) in
    let e = c.evict_until-answer.ensures.enough l in
    λ k. c.set_size.ensures.in_place (subst (λ (x : Shelf). rounded c.args.size ≤ rounded (entry x c.args.key).size) (sym e) q) k ∙ ap (λ (x : Shelf). start_in x.places k) e)

pub returns-in-Here-clause-grows : goal.returns-in-Here-clause-grows
returns-in-Here-clause-grows g c = λ a q.
    (let s = c.args.self.now in
    let l : used s.places.ranges + c.saturating_sub-growth.result ≤ s.places.size = omega (arith, q, c.saturating_sub-growth.ensures, c.rounded_size.ensures.value, c.law.ensures.room) in
    subst (λ (x : Shelf). StaysPut x c.set_size.new.self c.args.key c.args.size) (c.evict_until-answer.ensures.enough l) c.set_size.ensures.grows q)

pub returns-in-Here-clause-idle : goal.returns-in-Here-clause-idle
returns-in-Here-clause-idle g c = λ none load.
    (let s = c.args.self.now in
    let v = c.evict_until-answer in
    let b = sized_load s c.args.key c.args.size c.law.ensures.shelf c.law.ensures.sum (within_at s.entries c.args.key c.requires.live) in
    let l : used s.places.ranges + c.saturating_sub-growth.result ≤ s.places.size = omega (arith, b, load, c.saturating_sub-growth.ensures, c.rounded_size.ensures.value, c.law.ensures.room) in
    record { device = v.ensures.idle l; none = c.set_size.ensures.unused (subst (λ (x : Shelf). NoneTaken x.swap) (sym (v.ensures.enough l)) none) })

pub returns-in_default : goal.returns-in_default
returns-in_default g c =
    let s = c.args.self.now in
    let key = c.args.key in
    let v = c.evict_until-answer in
    let t = v.new.self in
    let grow = c.saturating_sub-growth.ensures in
    let was = c.rounded_size.ensures.value in
    record {
      resized = λ pic a e. absurd (c.in_default.not-Here e);
      keeps = λ pic a n. v.ensures.keeps pic a;
      clean = λ pic a. v.ensures.clean pic a;
      device = v.ensures.device;
      map = v.ensures.map;
      out = λ k e. ap is_some (v.ensures.none k e);
      kept = λ k h i. ap is_some (v.ensures.kept k (kept_has s.keys k h)) ∙ i;
      locked = λ k l i. ap is_some (v.ensures.locked k l) ∙ i;
      still = λ q k i. absurd
          (let l : used s.places.ranges + c.saturating_sub-growth.result ≤ s.places.size = omega (arith, q, grow, was, c.law.ensures.room) in
          let e = v.ensures.enough l in
          let f : used t.places.ranges ≡ used s.places.ranges = ap (λ (x : Shelf). used x.places.ranges) e in
          let z : t.places.size ≡ s.places.size = ap (λ (x : Shelf). x.places.size) e in
          omega (arith, l, f, z, v.ensures.short c.in_default.not-Here));
      full = λ e. (v.ensures.full e, omega (arith, v.ensures.short c.in_default.not-Here, grow, was, c.law-2.ensures.room));
      idle = λ none load. absurd
          (let b = sized_load s key c.args.size c.law.ensures.shelf c.law.ensures.sum (within_at s.entries key c.requires.live) in
          let l : used s.places.ranges + c.saturating_sub-growth.result ≤ s.places.size = omega (arith, b, load, grow, was, c.law.ensures.room) in
          let e = v.ensures.enough l in
          let f : used t.places.ranges ≡ used s.places.ranges = ap (λ (x : Shelf). used x.places.ranges) e in
          let z : t.places.size ≡ s.places.size = ap (λ (x : Shelf). x.places.size) e in
          omega (arith, l, f, z, v.ensures.short c.in_default.not-Here));
      loads = λ e.
          (let h = c.law-2.ensures.shelf in
          let l : key < length t.entries = omega (arith, v.ensures.tables.count, within_at s.entries key c.requires.live) in
          let a = full_load t h c.law-2.ensures.blocks (v.ensures.full e) in
          let b = sized_load t key c.args.size h c.law-2.ensures.sum l in
          let n : rounded (entry t key).size ≡ rounded (entry s key).size = ap rounded (v.ensures.tables.same key).size in (
            omega (arith, a, v.ensures.map, same_swap_load s t v.ensures.tables),
            omega (arith, b, n, v.ensures.tables.size, same_load_at s t key c.args.size v.ensures.tables, v.ensures.short c.in_default.not-Here, grow, was, c.law-2.ensures.room),
          ));
      written = λ k d i n q. v.ensures.evicts.written k i n q;
      in_place = λ q. absurd
          (let l : used s.places.ranges + c.saturating_sub-growth.result ≤ s.places.size = omega (arith, q, grow, was, c.law.ensures.room) in
          let e = v.ensures.enough l in
          let f : used t.places.ranges ≡ used s.places.ranges = ap (λ (x : Shelf). used x.places.ranges) e in
          let z : t.places.size ≡ s.places.size = ap (λ (x : Shelf). x.places.size) e in
          omega (arith, l, f, z, v.ensures.short c.in_default.not-Here));
      grows = λ e. absurd (c.in_default.not-Here e);
      never = (
        λ e.
            (let n = need_holds t t.keys c.law-2.ensures.shelf (v.ensures.no_room e) c.law-2.ensures.sum in
            let m = same_need s t t.keys v.ensures.tables in
            let k : all_need s.entries t.keys ≡ all_need s.entries s.keys = ap (all_need s.entries) v.ensures.keys in
            omega (arith, n, m, k, grow, was, v.ensures.short c.in_default.not-Here, v.ensures.tables.size, c.law-2.ensures.room, c.requires.fits)),
        v.ensures.never,
      );
    }
