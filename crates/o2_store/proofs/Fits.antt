-- A range that gets another length.
use Rattle.std.proofs.Common.{◌≡◌, ◌≢◌, ◌⊎◌, inl, inr, ℕ, ◌+◌, ◌<◌, ◌≤◌, List, [], length, take, get_or, Option, Some, None, IsSome, option_map, refl, sym, ap, ◌∙◌, subst, arith, unwrap_or, true, false}
use Rattle.std.proofs.lemmas.Bool.{cases_eq}
use Rattle.std.proofs.lemmas.List.{get_or-take}
use Rattle.o2_phys.specs.Bytes.{part}
use Rattle.o2_phys.proofs.Parts.{get-part}
use Rattle.o2_place.specs.Layout.{Layout, find_in, len_of}
use Rattle.o2_compact.specs.Parts.{OpensGap}
use Rattle.o2_store.specs.Shelf.{rounded}
use Rattle.o2_store.specs.Sizes.{Relengths, Refits}
use Rattle.o2_store.proofs.Tables.{none_is_none}
use Rattle.o2_store.proofs.Shifts.{moved_part, moved_none}

pub pair_at : (a l b m : ℕ) → ◌≡◌ {A = Option (ℕ × ℕ)} (Some (a, l)) (Some (b, m)) → (a ≡ b) × (l ≡ m)
pair_at a l b m e = (ap (λ (o : Option (ℕ × ℕ)). (unwrap_or o (0, 0)).0) e, ap (λ (o : Option (ℕ × ℕ)). (unwrap_or o (0, 0)).1) e)

-- the first bytes of a range that was moved and lengthened
front_part : (m n : List ℕ) (a l len : ℕ) (o : Option (ℕ × ℕ)) → option_map (λ (bytes : List ℕ). take l bytes) (option_map (λ (r : ℕ × ℕ). part n r.0 r.1) o) ≡ Some (part m a l) → (r : ℕ × ℕ) → o ≡ Some r → r.1 ≡ len → l ≤ len
    → (j : ℕ) → j < l → get_or n (r.0 + j) 0 ≡ get_or m (a + j) 0
front_part m n a l len o e r p long less j q =
    let f : take l (part n r.0 r.1) ≡ part m a l = ap (λ (x : Option (List ℕ)). unwrap_or x []) (sym (ap (λ (x : Option (ℕ × ℕ)). option_map (λ (bytes : List ℕ). take l bytes) (option_map (λ (r : ℕ × ℕ). part n r.0 r.1) x)) p) ∙ e) in
    sym (get-part n r.0 r.1 j (omega (arith, long))) ∙ sym (get_or-take l (part n r.0 r.1) j 0 q) ∙ ap (λ (xs : List ℕ). get_or xs j 0) f ∙ get-part m a l j q

-- a range with a length that isn't none's
some_long : (len : ℕ) → 0 < len → (o : Option (ℕ × ℕ)) → len_of o ≡ len → (r : ℕ × ℕ) × (o ≡ Some r) × (r.1 ≡ len)
some_long len l None e = absurd (omega (arith, e, l))
some_long len l (Some r) e = (r, refl, e)

-- a gap was opened behind a range
pub opened_range : (m n : List ℕ) (p q : Layout) (key at was len : ℕ) → OpensGap m p n q key len → find_in p.ranges key ≡ Some (at, was) → was ≤ len → 0 < len → p.size ≡ length m
    → ((k at l : ℕ) → find_in p.ranges k ≡ Some (at, l) → at + l ≤ p.size) → ((k at l : ℕ) → find_in q.ranges k ≡ Some (at, l) → at + l ≤ q.size) → Relengths m p n q key len
opened_range m n p q key at was len g placed longer pos whole w v = record {
  none = λ k e. elim (cases_eq k key) [
    | inl same ↦ absurd (none_is_none placed (subst (λ (x : ℕ). find_in p.ranges x ≡ None) same e))
    | inr ne ↦ moved_none m n (find_in q.ranges k) (g.others k ne ∙ ap (option_map (λ (r : ℕ × ℕ). part m r.0 r.1)) e)
  ];
  others = λ k a l ne e. moved_part m n a l (find_in q.ranges k) (g.others k ne ∙ ap (option_map (λ (r : ℕ × ℕ). part m r.0 r.1)) e) (λ x y f. let b = v k x y f in omega (arith, b, g.size, g.whole, whole)) (let b = w k a l e in omega (arith, b, whole));
  here = λ a l e.
      (let s = some_long len pos (find_in q.ranges key) g.wanted in
      let d : len_of (find_in p.ranges key) ≡ l = ap len_of e in
      let same : was ≡ l = (pair_at at was a l (sym placed ∙ e)).1 in
      let front : option_map (λ (bytes : List ℕ). take l bytes) (option_map (λ (r : ℕ × ℕ). part n r.0 r.1) (find_in q.ranges key)) ≡ Some (part m a l) =
      ap (λ (x : ℕ). option_map (λ (bytes : List ℕ). take x bytes) (option_map (λ (r : ℕ × ℕ). part n r.0 r.1) (find_in q.ranges key))) (sym d) ∙ g.front ∙ ap (option_map (λ (r : ℕ × ℕ). part m r.0 r.1)) e in
      (s.0.0, s.1 ∙ ap (λ (x : ℕ). Some (s.0.0, x)) s.2, λ j jl jlen. front_part m n a l len (find_in q.ranges key) front s.0 s.1 s.2 (omega (arith, same, longer)) j jl));
  whole = g.whole;
  size = g.size;
  most = g.most;
}

-- a range gets the length for a size, and what it has grown is cleared
pub refitted : (m o n : List ℕ) (p q : Layout) (key old new len : ℕ) → Relengths m p o q key len → len ≡ rounded new → length n ≡ length o
    → ((at l : ℕ) → find_in p.ranges key ≡ Some (at, l) → l ≡ rounded old)
    → ((i at l : ℕ) → find_in q.ranges key ≡ Some (at, l) → (i < at + old) ⊎ (at + l ≤ i) → get_or n i 0 ≡ get_or o i 0)
    → ((at l j : ℕ) → find_in q.ranges key ≡ Some (at, l) → old ≤ j → j < new → get_or n (at + j) 0 ≡ 0)
    → ((i j a l b m : ℕ) → i ≢ j → find_in q.ranges i ≡ Some (a, l) → find_in q.ranges j ≡ Some (b, m) → (a + l ≤ b) ⊎ (b + m ≤ a))
    → IsSome (find_in p.ranges key) → Refits m p n q key old new
refitted m o n p q key old new len r le long was outside zeros apart some = record {
  none = r.none;
  others = λ k a l ne e.
      (let g = r.others k a l ne e in
      let h = there (find_in p.ranges key) refl some in
      (g.0, g.1, λ j x. outside (g.0 + j) h.0 len h.1 (elim (apart k key g.0 l h.0 len ne g.1 h.1) [ inl b ↦ inl (omega arith) | inr b ↦ inr (omega arith) ]) ∙ g.2 j x));
  here = λ a l e.
      (let g = r.here a l e in
      let w = was a l e in
      (g.0, rw le at g.1, λ j x y. outside (g.0 + j) g.0 len g.1 (inl (omega arith)) ∙ g.2 j (omega (arith, w, x)) (omega (arith, le, y)), λ j x y. zeros g.0 len j g.1 x y));
  whole = long ∙ r.whole;
  size = r.size;
  most = r.most;
}
  where
    there : (x : Option (ℕ × ℕ)) → find_in p.ranges key ≡ x → IsSome x → (to : ℕ) × (find_in q.ranges key ≡ Some (to, len))
    there None e i = absurd (let f : false ≡ true = i in cc)
    there (Some y) e i = let g = r.here y.0 y.1 e in (g.0, g.1)

-- a range that has the length already
pub same_length : (m : List ℕ) (p : Layout) (key len : ℕ) → ((at : ℕ) × (find_in p.ranges key ≡ Some (at, len))) → Relengths m p m p key len
same_length m p key len h = record {
  none = λ k e. e;
  others = λ k a l ne e. (a, e, λ j x. refl);
  here = λ a l e. (h.0, h.1, λ j x y. ap (λ (z : ℕ). get_or m (z + j) 0) (pair_at h.0 len a l (sym h.1 ∙ e)).0);
  whole = refl;
  size = refl;
  most = refl;
}
