-- One range is moved or widened.
use Rattle.std.proofs.Common.{◌≡◌, ◌≢◌, ◌⊎◌, inl, inr, ℕ, ◌+◌, ◌<◌, ◌≤◌, List, length, take, Option, Some, None, option_map, cond, eqb, true, false, refl, sym, ap, ◌∙◌, arith, rules, subst, set, add-one, IsSome, suc, unwrap_or, ◌-◌}
use Rattle.std.proofs.lemmas.Bool.Decides.{nat_tests}
use Rattle.std.proofs.lemmas.Bool.{cases_eq, cases_lt}
use Rattle.std.proofs.lemmas.Grind.{common_steps}
use Rattle.std.proofs.lemmas.List.{length-set}
use Rattle.o2_phys.specs.Bytes.{part, with_part}
use Rattle.o2_phys.proofs.Parts.{part-same, part-other, length-part, length-with_part}
use Rattle.o2_place.specs.declared.ranges.Range.{Range}
use Rattle.o2_place.specs.Layout.{Layout, find_in, used, IsLayout, reshaped, range_at, no_range, len_of, IsPacked, start_of, end_before, ids_of, without, IsFree, Changes}
use Rattle.o2_place.proofs.RangeLemmas.{find_in-at, find_in-reshape, used-reshape, laid_at, used-take_more, packed_end, packed-more, end_before-set, start_of-set, start_of-end, ids-set, start_of-at}
use Rattle.o2_compact.specs.Parts.{part_of, length_of, KeepsParts, OpensGap, StayBut, GrowsInPlace}

abbrev pub Within : Layout → Type 0
Within p = (k at len : ℕ) → find_in p.ranges k ≡ Some (at, len) → at + len ≤ p.size

abbrev pub Apart : Layout → Type 0
Apart p = (i j a l b m : ℕ) → i ≢ j → find_in p.ranges i ≡ Some (a, l) → find_in p.ranges j ≡ Some (b, m) → (a + l ≤ b) ⊎ (b + m ≤ a)

other_part : (m ys : List ℕ) (q : Layout) (id to len : ℕ) → length ys ≡ len → to + len ≤ length m → q.size ≤ length m → Within q → Apart q
    → find_in q.ranges id ≡ Some (to, len) → (j : ℕ) → j ≢ id → (o : Option (ℕ × ℕ)) → find_in q.ranges j ≡ o
    → option_map (λ r. part (with_part m to ys) r.0 r.1) o ≡ option_map (λ r. part m r.0 r.1) o
other_part m ys q id to len e w s within apart here j ne None h = refl
other_part m ys q id to len e w s within apart here j ne (Some r) h =
    let d = apart j id r.0 r.1 to len ne h here in
    let f : r.0 + r.1 ≤ q.size = within j r.0 r.1 h in
    ap Some (part-other m ys to r.0 r.1 (omega arith) (omega arith) (elim d [ inl x ↦ inl x | inr x ↦ inr (omega arith) ]))

-- a range moves with its bytes
pub kept_move : (m : List ℕ) (p : Layout) (k to : ℕ) → IsLayout p → k < length p.ranges → p.size ≤ length m → Within p
    → Within (reshaped p k (range_at p.ranges k).id to (range_at p.ranges k).len) → Apart (reshaped p k (range_at p.ranges k).id to (range_at p.ranges k).len)
    → KeepsParts m p (with_part m to (part m (range_at p.ranges k).at (range_at p.ranges k).len)) (reshaped p k (range_at p.ranges k).id to (range_at p.ranges k).len)
kept_move m p k to h l size before within apart =
    let r : Range = range_at p.ranges k in
    let q : Layout = reshaped p k r.id to r.len in
    let ys = part m r.at r.len in
    let was : find_in p.ranges r.id ≡ Some (r.at, r.len) = find_in-at p.ranges k no_range l h.apart in
    let now : (j : ℕ) → find_in q.ranges j ≡ cond (eqb j r.id) (Some (to, r.len)) (find_in p.ranges j) = find_in-reshape p.ranges k no_range to r.len l h.apart in
    let here : find_in q.ranges r.id ≡ Some (to, r.len) = now r.id ∙ (let e : eqb r.id r.id ≡ true = grind (arith, nat_tests) in rw e refl) in
    let from_in : r.at + r.len ≤ length m = (let b = before r.id r.at r.len was in omega (arith, b)) in
    let to_in : to + r.len ≤ length m = (let b : to + r.len ≤ p.size = within r.id to r.len here in omega arith) in
    let n : length ys ≡ r.len = length-part m r.at r.len from_in in
    record {
      parts = λ j. elim (cases_eq j r.id) [
        | inl same ↦ rw same (rw here (ap Some (part-same m ys to r.len n to_in)) ∙ sym (ap (option_map (λ r. part m r.0 r.1)) was))
        | inr other ↦
            (let e : eqb j r.id ≡ false = grind (arith, nat_tests) in
            let f : find_in q.ranges j ≡ find_in p.ranges j = rw e at (now j) in
            other_part m ys q r.id to r.len n to_in size within apart here j other (find_in q.ranges j) refl
            ∙ ap (option_map (λ r. part m r.0 r.1)) f)
      ];
      lengths = λ j. elim (cases_eq j r.id) [
        | inl same ↦ rw same (ap len_of here ∙ sym (ap len_of was))
        | inr other ↦ (let e : eqb j r.id ≡ false = grind (arith, nat_tests) in let f : find_in q.ranges j ≡ find_in p.ranges j = rw e at (now j) in ap len_of f)
      ];
      whole = length-with_part m ys to (omega arith);
      size = refl;
      most = refl;
      count = length-set p.ranges k (record { id = r.id; at = to; len = r.len });
      load = (let u = used-reshape p.ranges k r.id to r.len no_range l in omega (arith, u));
      order = ids-set p.ranges k r.id to r.len no_range l refl;
    }

pub keeps_refl : (m : List ℕ) (p : Layout) → KeepsParts m p m p
keeps_refl m p = record { parts = λ id. refl; lengths = λ id. refl; whole = refl; size = refl; most = refl; count = refl; load = refl; order = refl }

pub keeps_trans : (m n o : List ℕ) (p q s : Layout) → KeepsParts m p n q → KeepsParts n q o s → KeepsParts m p o s
keeps_trans m n o p q s a b = record {
  parts = λ id. b.parts id ∙ a.parts id;
  lengths = λ id. b.lengths id ∙ a.lengths id;
  whole = b.whole ∙ a.whole;
  size = b.size ∙ a.size;
  most = b.most ∙ a.most;
  count = b.count ∙ a.count;
  load = b.load ∙ a.load;
  order = b.order ∙ a.order;
}

-- a range becomes longer where it lies
pub opened : (m n : List ℕ) (p q : Layout) (i id at was len : ℕ) → KeepsParts m p n q → IsLayout q → i < length q.ranges → range_at q.ranges i ≡ record { id = id; at = at; len = was } → was ≤ len
    → OpensGap m p n (reshaped q i id at len) id len
opened m n p q i id at was len h a l e longer =
    let r : Range = range_at q.ranges i in
    let found : find_in q.ranges id ≡ Some (at, was) = subst (λ (x : Range). find_in q.ranges x.id ≡ Some (x.at, x.len)) e (find_in-at q.ranges i no_range l a.apart) in
    let same_id : r.id ≡ id = ap (λ (x : Range). x.id) e in
    let same_len : r.len ≡ was = ap (λ (x : Range). x.len) e in
    let s : Layout = reshaped q i id at len in
    let now : (j : ℕ) → find_in s.ranges j ≡ cond (eqb j id) (Some (at, len)) (find_in q.ranges j) =
    subst (λ (x : ℕ). (j : ℕ) → find_in (set q.ranges i (record { id = x; at = at; len = len })) j ≡ cond (eqb j x) (Some (at, len)) (find_in q.ranges j)) same_id (find_in-reshape q.ranges i no_range at len l a.apart) in
    let here : find_in s.ranges id ≡ Some (at, len) = now id ∙ (let t : eqb id id ≡ true = grind (arith, nat_tests) in rw t refl) in
    let old : length_of p id ≡ was = sym (h.lengths id) ∙ ap len_of found in
    let u = used-reshape q.ranges i id at len no_range l in
    record {
      wanted = ap len_of here;
      front =
          (let f : take was (part n at len) ≡ part n at was = grind (arith, common_steps) in
          let g : part_of n q id ≡ Some (part n at was) = ap (option_map (λ r. part n r.0 r.1)) found in
          rw (here, old) (ap Some f ∙ sym g ∙ h.parts id));
      others = λ k ne. (let t : eqb k id ≡ false = grind (arith, nat_tests) in let f : find_in s.ranges k ≡ find_in q.ranges k = rw t at (now k) in ap (option_map (λ r. part n r.0 r.1)) f ∙ h.parts k);
      lengths = λ k ne. (let t : eqb k id ≡ false = grind (arith, nat_tests) in let f : find_in s.ranges k ≡ find_in q.ranges k = rw t at (now k) in ap len_of f ∙ h.lengths k);
      whole = h.whole;
      size = h.size;
      most = h.most;
      count = length-set q.ranges i (record { id = id; at = at; len = len }) ∙ h.count;
      load = omega (arith, u, same_len, old, h.load);
      order = ap (without id) (ids-set q.ranges i id at len no_range l (sym same_id) ∙ h.order);
    }

-- first all gaps are closed, and then one is opened
pub opens_after : (m n o : List ℕ) (p q s : Layout) (id len : ℕ) → KeepsParts m p n q → OpensGap n q o s id len → OpensGap m p o s id len
opens_after m n o p q s id len a b = record {
  wanted = b.wanted;
  front = subst (λ (x : ℕ). option_map (λ (bytes : List ℕ). take x bytes) (part_of o s id) ≡ part_of n q id) (a.lengths id) b.front ∙ a.parts id;
  others = λ k ne. b.others k ne ∙ a.parts k;
  lengths = λ k ne. b.lengths k ne ∙ a.lengths k;
  whole = b.whole ∙ a.whole;
  size = b.size ∙ a.size;
  most = b.most ∙ a.most;
  count = b.count ∙ a.count;
  load = omega (arith, b.load, a.load, a.lengths id);
  order = b.order ∙ ap (without id) a.order;
}

both_placed : (f g : ℕ × ℕ → List ℕ) (o w : Option (ℕ × ℕ)) → option_map f o ≡ option_map g w → IsSome w → IsSome o
both_placed f g None None e s = s
both_placed f g None (Some w) e s = cc
both_placed f g (Some o) w e s = search rules

pub placed_after : (m n : List ℕ) (p q : Layout) (id : ℕ) → KeepsParts m p n q → IsSome (find_in p.ranges id) → IsSome (find_in q.ranges id)
placed_after m n p q id h s = both_placed (λ r. part n r.0 r.1) (λ r. part m r.0 r.1) (find_in q.ranges id) (find_in p.ranges id) (h.parts id) s

-- the same with the range as it was read
pub move_law : (m n : List ℕ) (p q : Layout) (k to : ℕ) (was : Range) → was ≡ range_at p.ranges k → q ≡ reshaped p k (range_at p.ranges k).id to was.len → n ≡ with_part m to (part m was.at was.len)
    → IsLayout p → k < length p.ranges → p.size ≤ length m → Within p → Within q → Apart q → KeepsParts m p n q
move_law m n p q k to was e qe ne h l size before within apart =
    let r : Range = range_at p.ranges k in
    let qf : q ≡ reshaped p k r.id to r.len = qe ∙ ap (λ (x : Range). reshaped p k r.id to x.len) e in
    let nf : n ≡ with_part m to (part m r.at r.len) = ne ∙ ap (λ (x : Range). with_part m to (part m x.at x.len)) e in
    let moved = kept_move m p k to h l size before (subst Within qf within) (subst Apart qf apart) in
    let inner : KeepsParts m p (with_part m to (part m r.at r.len)) q = subst (λ (x : Layout). KeepsParts m p (with_part m to (part m r.at r.len)) x) (sym qf) moved in
    subst (λ (x : List ℕ). KeepsParts m p x q) (sym nf) inner

pub from_inside : (p : Layout) (k : ℕ) (was : Range) → was ≡ range_at p.ranges k → IsLayout p → k < length p.ranges → Within p → was.at + was.len ≤ p.size
from_inside p k was e h l before =
    let r : Range = range_at p.ranges k in
    let b : r.at + r.len ≤ p.size = before r.id r.at r.len (find_in-at p.ranges k no_range l h.apart) in
    subst (λ (x : Range). x.at + x.len ≤ p.size) (sym e) b

pub to_inside : (p q : Layout) (k to : ℕ) (was : Range) → was ≡ range_at p.ranges k → q ≡ reshaped p k (range_at p.ranges k).id to was.len → IsLayout p → k < length p.ranges → Within q → to + was.len ≤ p.size
to_inside p q k to was e qe h l within =
    let r : Range = range_at p.ranges k in
    let qf : q ≡ reshaped p k r.id to r.len = qe ∙ ap (λ (x : Range). reshaped p k r.id to x.len) e in
    let w : Within (reshaped p k r.id to r.len) = subst Within qf within in
    let here : find_in (reshaped p k r.id to r.len).ranges r.id ≡ Some (to, r.len) = find_in-reshape p.ranges k no_range to r.len l h.apart r.id ∙ (let t : eqb r.id r.id ≡ true = grind (arith, nat_tests) in rw t refl) in
    let b : to + r.len ≤ p.size = w r.id to r.len here in
    subst (λ (x : Range). to + x.len ≤ p.size) (sym e) b

-- the k-th range is laid at the end of those before it
pub sunk_packed : (p q : Layout) (k end : ℕ) → k < length p.ranges → IsPacked p.ranges k → end ≡ end_before 0 p.ranges k → q ≡ reshaped p k (range_at p.ranges k).id end (range_at p.ranges k).len → IsPacked q.ranges (k + 1)
sunk_packed p q k end l h e qe =
    let r : Range = record { id = (range_at p.ranges k).id; at = end; len = (range_at p.ranges k).len } in
    let t : end ≡ used (take k p.ranges) = e ∙ packed_end p.ranges k (omega arith) h in
    subst (λ (x : Layout). IsPacked x.ranges (k + 1)) (sym qe) (packed-more p.ranges k r l h t)

pub sunk_end : (p q : Layout) (k end : ℕ) → k < length p.ranges → q ≡ reshaped p k (range_at p.ranges k).id end (range_at p.ranges k).len → end + (range_at p.ranges k).len ≡ end_before 0 q.ranges (k + 1)
sunk_end p q k end l qe =
    let r : Range = record { id = (range_at p.ranges k).id; at = end; len = (range_at p.ranges k).len } in
    let t : end_before 0 (set p.ranges k r) (k + 1) ≡ end + (range_at p.ranges k).len = rw (add-one k) (end_before-set p.ranges k 0 r l) in
    subst (λ (x : Layout). end + (range_at p.ranges k).len ≡ end_before 0 x.ranges (k + 1)) (sym qe) (sym t)

-- there is room for the k-th range at the end of those before it
pub sink_fits : (p : Layout) (k end : ℕ) → IsLayout p → k < length p.ranges → end ≡ end_before 0 p.ranges k → end + (range_at p.ranges k).len ≤ start_of p.size p.ranges (k + 1)
sink_fits p k end h l e =
    let a = laid_at p.ranges k 0 p.size no_range l h.laid in
    let b : (range_at p.ranges k).at + (range_at p.ranges k).len ≤ start_of p.size p.ranges (k + 1) = rw (add-one k) a.1 in
    omega (arith, a.2, b, e)

-- the k-th range is lifted by a growth
pub lift_fits : (p : Layout) (k growth : ℕ) → k < length p.ranges → IsPacked p.ranges (k + 1) → used (take (k + 1) p.ranges) + growth ≤ start_of p.size p.ranges (k + 1)
    → (range_at p.ranges k).at + growth + (range_at p.ranges k).len ≤ start_of p.size p.ranges (k + 1)
lift_fits p k growth l h room = let a = h k (omega arith) in let u = used-take_more p.ranges k no_range l in omega (arith, a, u)

pub lift_room : (p q : Layout) (k growth to : ℕ) → k < length p.ranges → IsPacked p.ranges (k + 1) → to ≡ (range_at p.ranges k).at + growth → q ≡ reshaped p k (range_at p.ranges k).id to (range_at p.ranges k).len
    → used (take k q.ranges) + growth ≤ start_of q.size q.ranges k
lift_room p q k growth to l h e qe =
    let r : Range = record { id = (range_at p.ranges k).id; at = to; len = (range_at p.ranges k).len } in
    let a = h k (omega arith) in
    let s = start_of-set p.ranges k p.size r l in
    let t : take k (set p.ranges k r) ≡ take k p.ranges = grind (arith, common_steps) in
    let u : used (take k (set p.ranges k r)) ≡ used (take k p.ranges) = ap used t in
    subst (λ (x : Layout). used (take k x.ranges) + growth ≤ start_of x.size x.ranges k) (sym qe) (omega (arith, s, u, a, e))

pub ranked_length : (p : Layout) (i id : ℕ) → IsLayout p → i < length p.ranges → (range_at p.ranges i).id ≡ id → length_of p id ≡ (range_at p.ranges i).len
ranked_length p i id h l e = ap len_of (subst (λ (x : ℕ). find_in p.ranges x ≡ Some ((range_at p.ranges i).at, (range_at p.ranges i).len)) e (find_in-at p.ranges i no_range l h.apart))

-- there is room for the longer range
pub widen_fits : (q : Layout) (i k at was len growth : ℕ) (r : Range) → k ≡ i + 1 → i < length q.ranges → IsPacked q.ranges k → used (take k q.ranges) + growth ≤ start_of q.size q.ranges k
    → range_at q.ranges i ≡ r → r.at ≡ at → r.len ≡ was → was + growth ≡ len → (end_before 0 q.ranges i ≤ at) × (at + len ≤ start_of q.size q.ranges (i + 1))
widen_fits q i k at was len growth r e l h room here f g s =
    let a = h i (omega arith) in
    let u = used-take_more q.ranges i no_range l in
    let x : (range_at q.ranges i).at ≡ at = ap (λ (y : Range). y.at) here ∙ f in
    let y : (range_at q.ranges i).len ≡ was = ap (λ (y : Range). y.len) here ∙ g in
    let p : end_before 0 q.ranges i ≡ used (take i q.ranges) = packed_end q.ranges i (omega arith) (λ j m. h j (omega arith)) in
    let room' : used (take (i + 1) q.ranges) + growth ≤ start_of q.size q.ranges (i + 1) = subst (λ (x : ℕ). used (take x q.ranges) + growth ≤ start_of q.size q.ranges x) e room in
    (omega (arith, p, a, x), omega (arith, room', u, a, x, y))

pub start_room : (p : Layout) (n growth : ℕ) → n ≡ length p.ranges → used p.ranges + growth ≤ p.size → used (take n p.ranges) + growth ≤ start_of p.size p.ranges n
start_room p n growth e h =
    let t : take (length p.ranges) p.ranges ≡ p.ranges = grind (arith, common_steps) in
    let u = ap used t in
    let s = start_of-end p.ranges p.size in
    subst (λ (x : ℕ). used (take x p.ranges) + growth ≤ start_of p.size p.ranges x) (sym e) (omega (arith, u, s, h))

-- the range of an id is lengthened in place
pub widened : (m n : List ℕ) (p q s : Layout) (i id len : ℕ) (was : Range) → was ≡ range_at p.ranges i → KeepsParts m p n q → IsLayout q → i < length p.ranges → range_at q.ranges i ≡ range_at p.ranges i
    → (range_at p.ranges i).id ≡ id → was.len ≤ len → s ≡ reshaped q i (range_at q.ranges i).id was.at len → OpensGap m p n s id len
widened m n p q s i id len was e h a l here same longer se =
    let r : Range = range_at p.ranges i in
    let r_is : r ≡ record { id = id; at = r.at; len = r.len } = ap (λ (x : ℕ). let y : Range = record { id = x; at = r.at; len = r.len } in y) same in
    let f : range_at q.ranges i ≡ record { id = id; at = r.at; len = r.len } = here ∙ r_is in
    let g = ap (λ (x : Range). x.len) e in
    let b : OpensGap m p n (reshaped q i id r.at len) id len = opened m n p q i id r.at r.len len h a (omega (arith, h.count)) f (omega (arith, g, longer)) in
    let t : s ≡ reshaped q i id r.at len = se ∙ ap (λ (x : ℕ). reshaped q i x was.at len) (ap (λ (x : Range). x.id) f) ∙ ap (λ (x : Range). reshaped q i id x.at len) e in
    subst (λ (x : Layout). OpensGap m p n x id len) (sym t) b

-- what is free behind a range ends where the next one begins
pub free_behind : (p : Layout) (k id at was growth : ℕ) → IsLayout p → k < length p.ranges → (range_at p.ranges k).id ≡ id → find_in p.ranges id ≡ Some (at, was) → 0 < growth
    → ((i b m : ℕ) → find_in p.ranges i ≡ Some (b, m) → (at + was + growth ≤ b) ⊎ (b + m ≤ at + was)) → at + was + growth ≤ p.size
    → at + was + growth ≤ start_of p.size p.ranges (k + 1)
free_behind p k id at was growth h l same here some apart room =
    let r : Range = range_at p.ranges k in
    let f : Some (r.at, r.len) ≡ Some (at, was) = sym (subst (λ (x : ℕ). find_in p.ranges x ≡ Some (r.at, r.len)) same (find_in-at p.ranges k no_range l h.apart)) ∙ here in
    let at_is : r.at ≡ at = ap (λ (o : Option (ℕ × ℕ)). (unwrap_or o (0, 0)).0) f in
    let len_is : r.len ≡ was = ap (λ (o : Option (ℕ × ℕ)). (unwrap_or o (0, 0)).1) f in
    let a = laid_at p.ranges k 0 p.size no_range l h.laid in
    rw (add-one k) (elim (cases_lt (suc k) (length p.ranges)) [
      | inl more ↦
          (let n : Range = range_at p.ranges (suc k) in
          let s : start_of p.size p.ranges (suc k) ≡ n.at = start_of-at p.ranges (suc k) p.size no_range more in
          let b = laid_at p.ranges (suc k) 0 p.size no_range more h.laid in
          let d = apart n.id n.at n.len (find_in-at p.ranges (suc k) no_range more h.apart) in
          elim d [ inl x ↦ omega (arith, s, x) | inr x ↦ absurd (omega (arith, x, b.0, a.1, s, at_is, len_is)) ])
      | inr last ↦
          (let e : suc k ≡ length p.ranges = omega arith in
          let s : start_of p.size p.ranges (suc k) ≡ p.size = rw e (start_of-end p.ranges p.size) in
          omega (arith, s, room))
    ])

-- bytes are written at a free place
other_kept : (m ys : List ℕ) (p : Layout) (to len : ℕ) → length ys ≤ len → to + len ≤ p.size → p.size ≤ length m → Within p
    → ((k b n : ℕ) → find_in p.ranges k ≡ Some (b, n) → (to + len ≤ b) ⊎ (b + n ≤ to)) → (j : ℕ) (o : Option (ℕ × ℕ)) → find_in p.ranges j ≡ o
    → option_map (λ r. part (with_part m to ys) r.0 r.1) o ≡ option_map (λ r. part m r.0 r.1) o
other_kept m ys p to len e w s within apart j None h = refl
other_kept m ys p to len e w s within apart j (Some r) h =
    let d = apart j r.0 r.1 h in
    let f : r.0 + r.1 ≤ p.size = within j r.0 r.1 h in
    ap Some (part-other m ys to r.0 r.1 (omega arith) (omega arith) (elim d [ inl x ↦ inr (omega arith) | inr x ↦ inl x ]))

-- a range goes to a gap that is long enough for it
pub moved_away : (m n : List ℕ) (p mid q : Layout) (was : Range) (to len taken : ℕ) → n ≡ with_part m to (part m was.at was.len) → Changes p mid was.id None → Changes mid q was.id (Some (to, len))
    → find_in p.ranges was.id ≡ Some (was.at, was.len) → was.len ≤ len → to + len ≤ p.size → p.size ≤ length m → Within p
    → ((k b n : ℕ) → find_in p.ranges k ≡ Some (b, n) → (to + len ≤ b) ⊎ (b + n ≤ to))
    → used mid.ranges + was.len ≡ used p.ranges → used q.ranges ≡ used mid.ranges + len → length mid.ranges + 1 ≡ length p.ranges → length q.ranges ≡ length mid.ranges + 1
    → ids_of mid.ranges ≡ without was.id (ids_of p.ranges) → without was.id (ids_of q.ranges) ≡ ids_of mid.ranges
    → OpensGap m p n q was.id len
moved_away m n p mid q was to len taken e a b here longer room size within apart u v c d f g =
    let ys = part m was.at was.len in
    let from_in : was.at + was.len ≤ length m = (let w = within was.id was.at was.len here in omega (arith, w)) in
    let long : length ys ≡ was.len = length-part m was.at was.len from_in in
    let now : find_in q.ranges was.id ≡ Some (to, len) = b.at was.id ∙ (let t : eqb was.id was.id ≡ true = grind (arith, nat_tests) in rw t refl) in
    let stay : (k : ℕ) → k ≢ was.id → find_in q.ranges k ≡ find_in p.ranges k = λ k ne. (let t : eqb k was.id ≡ false = grind (arith, nat_tests) in (rw t at (b.at k)) ∙ (rw t at (a.at k))) in
    let whole : length (with_part m to ys) ≡ length m = length-with_part m ys to (omega arith) in
    let same : part (with_part m to ys) to was.len ≡ ys = part-same m ys to was.len long (omega arith) in
    let front : take was.len (part (with_part m to ys) to len) ≡ part (with_part m to ys) to was.len = grind (arith, common_steps) in
    record {
      wanted = ap len_of now;
      front = rw (e, now, here) (ap Some (front ∙ same));
      others = λ k ne. rw (e, stay k ne) (other_kept m ys p to len (omega (arith, long)) room size within apart k (find_in p.ranges k) refl);
      lengths = λ k ne. ap len_of (stay k ne);
      whole = rw e whole;
      size = b.size ∙ a.size;
      most = b.most ∙ a.most;
      count = omega (arith, c, d);
      load = (let h = ap len_of here in omega (arith, u, v, h));
      order = g ∙ f;
    }

pub stays_but : (p mid q : Layout) (id to len : ℕ) → Changes p mid id None → Changes mid q id (Some (to, len)) → StayBut p q id
stays_but p mid q id to len a b k ne = let t : eqb k id ≡ false = grind (arith, nat_tests) in (rw t at (b.at k)) ∙ (rw t at (a.at k))

-- the k-th range alone changes
pub stays_reshaped : (p q : Layout) (k id at len : ℕ) → IsLayout p → k < length p.ranges → (range_at p.ranges k).id ≡ id → q ≡ reshaped p k (range_at p.ranges k).id at len → (find_in q.ranges id ≡ Some (at, len)) × StayBut p q id
stays_reshaped p q k id at len h l same e =
    let now : (j : ℕ) → find_in q.ranges j ≡ cond (eqb j id) (Some (at, len)) (find_in p.ranges j) =
    subst (λ (x : ℕ). (j : ℕ) → find_in q.ranges j ≡ cond (eqb j x) (Some (at, len)) (find_in p.ranges j)) same
    (subst (λ (x : Layout). (j : ℕ) → find_in x.ranges j ≡ cond (eqb j (range_at p.ranges k).id) (Some (at, len)) (find_in p.ranges j)) (sym e) (find_in-reshape p.ranges k no_range at len l h.apart)) in
    (now id ∙ (let t : eqb id id ≡ true = grind (arith, nat_tests) in rw t refl), λ j ne. (let t : eqb j id ≡ false = grind (arith, nat_tests) in rw t at (now j)))

-- the range of an id as it was read at its rank
pub record AtRank (p : Layout) (k id : ℕ) (was : Range) : Type 0 where
  pub here : find_in p.ranges id ≡ Some (was.at, was.len)
  pub same : was.id ≡ id
  pub some : 0 < was.len
  pub below : was.at + was.len ≤ start_of p.size p.ranges (k + 1)
  pub above : end_before 0 p.ranges k ≤ was.at
  pub long : length_of p id ≡ was.len

pub at_rank : (p : Layout) (k id : ℕ) (was : Range) → IsLayout p → k < length p.ranges → (range_at p.ranges k).id ≡ id → was ≡ range_at p.ranges k → AtRank p k id was
at_rank p k id was h l same e =
    let r : Range = range_at p.ranges k in
    let a = laid_at p.ranges k 0 p.size no_range l h.laid in
    let f : find_in p.ranges id ≡ Some (r.at, r.len) = subst (λ (x : ℕ). find_in p.ranges x ≡ Some (r.at, r.len)) same (find_in-at p.ranges k no_range l h.apart) in
    let g : AtRank p k id r = record {
      here = f;
      same = same;
      some = a.0;
      below = rw (add-one k) a.1;
      above = a.2;
      long = ap len_of f;
    } in
    subst (AtRank p k id) (sym e) g

-- the next range begins where the gap ends
pub gap_next : (p : Layout) (k : ℕ) (next : Range) → k + 1 < length p.ranges → next ≡ range_at p.ranges (k + 1) → next.at ≡ start_of p.size p.ranges (k + 1)
gap_next p k next l e = ap (λ (r : Range). r.at) e ∙ sym (start_of-at p.ranges (k + 1) p.size no_range l)

pub gap_last : (p : Layout) (k size : ℕ) → k < length p.ranges → length p.ranges ≤ k + 1 → size ≡ p.size → size ≡ start_of p.size p.ranges (k + 1)
gap_last p k size l m e = let f : k + 1 ≡ length p.ranges = omega arith in e ∙ sym (rw f (start_of-end p.ranges p.size))

-- a range grows where it lies
pub grown_here : (m : List ℕ) (p q : Layout) (k id len : ℕ) (was : Range) → IsLayout p → k < length p.ranges → (range_at p.ranges k).id ≡ id → was ≡ range_at p.ranges k → was.len ≤ len
    → q ≡ reshaped p k (range_at p.ranges k).id was.at len → OpensGap m p m q id len
grown_here m p q k id len was h l same e longer qe = widened m m p p q k id len was e (keeps_refl m p) h l refl same longer qe

pub grows_here : (p q : Layout) (k id len : ℕ) (was : Range) → IsLayout p → k < length p.ranges → (range_at p.ranges k).id ≡ id → was ≡ range_at p.ranges k
    → q ≡ reshaped p k (range_at p.ranges k).id was.at len → GrowsInPlace p q id len
grows_here p q k id len was h l same e qe at old here free =
    let a = at_rank p k id was h l same e in
    let f : Some (was.at, was.len) ≡ Some (at, old) = sym a.here ∙ here in
    let at_is : was.at ≡ at = ap (λ (o : Option (ℕ × ℕ)). (unwrap_or o (0, 0)).0) f in
    let s = stays_reshaped p q k id was.at len h l same qe in
    (subst (λ (x : ℕ). find_in q.ranges id ≡ Some (x, len)) at_is s.0, s.1)

-- where there is no room behind a range, none is free there
pub no_room_behind : (p q : Layout) (k id len gap : ℕ) (was : Range) → IsLayout p → k < length p.ranges → (range_at p.ranges k).id ≡ id → was ≡ range_at p.ranges k → was.len ≤ len
    → gap ≡ start_of p.size p.ranges (k + 1) → gap < was.at + len
    → ((at n k b m : ℕ) → IsFree p.size p.ranges at n → find_in p.ranges k ≡ Some (b, m) → (at + n ≤ b) ⊎ (b + m ≤ at)) → ((at n : ℕ) → IsFree p.size p.ranges at n → at + n ≤ p.size)
    → GrowsInPlace p q id len
no_room_behind p q k id len gap was h l same e longer ge short apart within at old here free =
    let a = at_rank p k id was h l same e in
    let f : Some (was.at, was.len) ≡ Some (at, old) = sym a.here ∙ here in
    let at_is : was.at ≡ at = ap (λ (o : Option (ℕ × ℕ)). (unwrap_or o (0, 0)).0) f in
    let len_is : was.len ≡ old = ap (λ (o : Option (ℕ × ℕ)). (unwrap_or o (0, 0)).1) f in
    let b = free_behind p k id at old (len - old) h l same here (omega (arith, a.below, ge)) (λ i b m w. apart (at + old) (len - old) i b m free w) (within (at + old) (len - old) free) in
    absurd (omega (arith, b, ge))
