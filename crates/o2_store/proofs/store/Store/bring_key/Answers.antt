use Rattle.std.proofs.Common.{◌≡◌, ◌<◌, ◌≤◌, ◌+◌, length, ap, refl, sym, subst, ◌∙◌, None, is_some, arith, rules, true}
use Rattle.o2_place.specs.Layout.{used}
use Rattle.o2_store.specs.Leaving.{lacking}
use Rattle.o2_store.specs.Pictures.{picture}
use Rattle.o2_store.specs.Needs.{has, all_need}
use Rattle.o2_store.specs.Shelf.{Shelf, place_of, entry, rounded}
use Rattle.o2_store.proofs.Tables.{within_at}
use Rattle.o2_store.proofs.Keeping.{keeps_later, keeps_trans}
use Rattle.o2_store.proofs.Asking.{asks_behind, asks_nothing}
use Rattle.o2_store.proofs.Collecting.{kept_has, need_exceeds, same_need}
use Rattle.o2_store.proofs.Departing.{leave_in, leave_out, leave_still}
use Rattle.o2_store.proofs.Leaving.{some_not_none, written_in}
use Rattle.o2_store.specs.Idle.{NoneTaken}
use Rattle.o2_store.proofs.Loads.{out_load}
use Rattle.o2_store.proofs.Framing.{device_behind}
use Rattle.o2_store.proofs.store.Store.bring_key.Goals as goal

pub returns-in-Here-clause-keeps : goal.returns-in-Here-clause-keeps
returns-in-Here-clause-keeps g c =
    let S = g.S.SwapDevice in
    let told = S.told c.come_in.new.swap in
    let a = S.block c.args.swap.now in
    let b = S.block c.evict_until-answer.new.swap in
    let pic = picture c.args.images.now in
    let s = c.args.self.now in
    let v = c.evict_until-answer in
    let t = v.new.self in
    λ q. keeps_trans told pic s t c.come_in.new.self a b (S.block c.come_in.new.swap) (keeps_later (S.told v.new.swap) told pic s t a b c.come_in.ensures.device.told (v.ensures.keeps pic q)) c.come_in.ensures.keeps

pub returns-in-Here-clause-kept : goal.returns-in-Here-clause-kept
returns-in-Here-clause-kept g c =
    let S = g.S.SwapDevice in
    let a = S.block c.args.swap.now in
    let pic = picture c.args.images.now in
    let s = c.args.self.now in
    let key = c.args.key in
    let v = c.evict_until-answer in
    let t = v.new.self in
    λ k h i. c.come_in.ensures.others k (ap is_some (v.ensures.kept k (kept_has s.keys k h)) ∙ i)

pub returns-in-Here-clause-same : goal.returns-in-Here-clause-same
returns-in-Here-clause-same g c = λ i. absurd (let out : place_of c.args.self.now c.args.key ≡ None = search rules in some_not_none (place_of c.args.self.now c.args.key) i out)

pub returns-in-Here-clause-written : goal.returns-in-Here-clause-written
returns-in-Here-clause-written g c =
    let v = c.evict_until-answer in
    written_in c.args.self.now v.new.self c.come_in.new.self v.ensures.evicts.written c.come_in.ensures.entries c.come_in.ensures.others

pub returns-in-Here-clause-idle : goal.returns-in-Here-clause-idle
returns-in-Here-clause-idle g c = λ none load.
    (let s = c.args.self.now in
    let v = c.evict_until-answer in
    let out : place_of s c.args.key ≡ None = search rules in
    let l : used s.places.ranges + c.rounded_size-len.result ≤ s.places.size = omega (arith, load, out_load s c.args.key c.law.ensures.shelf c.law.ensures.sum out, c.rounded_size-len.ensures.value) in
    let i = c.come_in.ensures.idle (subst (λ (x : Shelf). NoneTaken x.swap) (sym (v.ensures.enough l)) none) in
    record { device = i.device ∙ v.ensures.idle l; none = i.none })

pub returns-in_default : goal.returns-in_default
returns-in_default g c =
    let S = g.S.SwapDevice in
    let a = S.block c.args.swap.now in
    let pic = picture c.args.images.now in
    let s = c.args.self.now in
    let key = c.args.key in
    let v = c.evict_until-answer in
    let t = v.new.self in
    record {
      keeps = λ q. v.ensures.keeps pic q;
      clean = λ q. v.ensures.clean pic q;
      tables = v.ensures.tables;
      device = v.ensures.device;
      map = v.ensures.map;
      here = search rules;
      same = λ i. absurd (let out : place_of s key ≡ None = search rules in some_not_none (place_of s key) i out);
      out = λ n. (let out : place_of s key ≡ None = search rules in v.ensures.none key out);
      none = λ k d e. v.ensures.none k e;
      written = v.ensures.evicts.written;
      leave = (let out : place_of s key ≡ None = search rules in leave_out s t key _ v.ensures.tables (v.ensures.none key out) c.rounded_size-len.ensures.value v.ensures.leave);
      asks = λ n. asks_nothing _ _ _ _ _ v.ensures.unasked (λ e. absurd (c.in_default.not-Here e));
      kept = λ k h i. ap is_some (v.ensures.kept k (kept_has s.keys k h)) ∙ i;
      still = λ q k i. absurd
          (let l : used s.places.ranges + c.rounded_size-len.result ≤ s.places.size = omega (arith, q, c.rounded_size-len.ensures.value) in
          let e = v.ensures.enough l in
          let f : used t.places.ranges ≡ used s.places.ranges = ap (λ (x : Shelf). used x.places.ranges) e in
          let z : t.places.size ≡ s.places.size = ap (λ (x : Shelf). x.places.size) e in
          omega (arith, l, f, z, v.ensures.short c.in_default.not-Here));
      idle = λ none load. absurd
          (let l : used s.places.ranges + c.rounded_size-len.result ≤ s.places.size = omega (arith, load, out_load s key c.law.ensures.shelf c.law.ensures.sum (search rules), c.rounded_size-len.ensures.value) in
          let e = v.ensures.enough l in
          let f : used t.places.ranges ≡ used s.places.ranges = ap (λ (x : Shelf). used x.places.ranges) e in
          let z : t.places.size ≡ s.places.size = ap (λ (x : Shelf). x.places.size) e in
          omega (arith, l, f, z, v.ensures.short c.in_default.not-Here));
      full = λ e. (v.ensures.full e, omega (arith, v.ensures.short c.in_default.not-Here, c.rounded_size-len.ensures.value));
      never = (
        λ e.
            (let l : key < length t.entries = omega (arith, v.ensures.tables.count, within_at s.entries key c.requires.live) in
            let out : place_of s key ≡ None = search rules in
            let among : has t.keys key ≡ true = ap (λ (x : _). has x key) v.ensures.keys ∙ c.requires.among in
            let n = need_exceeds t t.keys key c.law-2.ensures.shelf l among (v.ensures.none key out) (v.ensures.no_room e) c.law-2.ensures.sum in
            let m = same_need s t t.keys v.ensures.tables in
            let k : all_need s.entries t.keys ≡ all_need s.entries s.keys = ap (all_need s.entries) v.ensures.keys in
            let z : rounded (entry t key).size ≡ rounded (entry s key).size = ap rounded (v.ensures.tables.same key).size in
            omega (arith, n, m, k, z, v.ensures.short c.in_default.not-Here, v.ensures.tables.size, c.rounded_size-len.ensures.value, c.requires.fits)),
        v.ensures.never,
      );
    }

pub returns-in-Here-clause-device : goal.returns-in-Here-clause-device
returns-in-Here-clause-device g c = (let v = c.evict_until-answer.ensures.device in device_behind _ _ _ _ _ _ _ v.blocks v.told v.faults c.come_in.ensures.device)

pub returns-then-is_some-clause-leave : goal.returns-then-is_some-clause-leave
returns-then-is_some-clause-leave g c = leave_still c.args.self.now c.args.self.now _ refl

pub returns-in-Here-clause-leave : goal.returns-in-Here-clause-leave
returns-in-Here-clause-leave g c =
    let s = c.args.self.now in
    let v = c.evict_until-answer in
    let t = v.new.self in
    let q = c.come_in.ensures in
    let out : place_of s c.args.key ≡ None = search rules in
    let len : c.rounded_size-len.result ≡ rounded (entry t c.args.key).size = c.rounded_size-len.ensures.value ∙ sym (ap rounded (v.ensures.tables.same c.args.key).size) in
    let takes : used c.come_in.new.self.places.ranges + lacking c.come_in.new.self c.args.key ≡ used t.places.ranges + c.rounded_size-len.result = omega (arith, q.takes, len) in
    leave_in s t c.come_in.new.self c.args.key _ q.tables out len takes q.others q.none v.ensures.leave

pub returns-in-Here-clause-asks : goal.returns-in-Here-clause-asks
returns-in-Here-clause-asks g c = λ n.
    (let v = c.evict_until-answer in
    asks_behind _ _ _ _ _ _ _ _ (v.ensures.piles c.args.key (within_at c.args.self.now.entries c.args.key c.requires.live) n) v.ensures.unasked (λ e. e) c.come_in.ensures.asks)

pub returns-then-is_some-clause-asks : goal.returns-then-is_some-clause-asks
returns-then-is_some-clause-asks g c = λ n. absurd (let here : is_some (place_of c.args.self.now c.args.key) ≡ true = search rules in some_not_none (place_of c.args.self.now c.args.key) here n)
