-- What the segments take together, and what is left of it.
use Rattle.std.proofs.Common.{◌≡◌, inl, inr, ℕ, zero, suc, ◌+◌, ◌<◌, ◌≤◌, List, [], ◌∷◌, length, get_or, Option, Some, None, is_some, Bool, true, false, eqb, refl, sym, ap, ◌∙◌, subst, arith, sum_by, if◌then◌else◌}
use Rattle.std.proofs.lemmas.Bool.{cases_eq, cases_lt}
use Rattle.std.proofs.lemmas.Bool.Decides.{nat_tests}
use Rattle.std.proofs.lemmas.List.{length-set}
use Rattle.std.proofs.lemmas.List.Sums.{sum_by-cons}
use Rattle.o2_entries.specs.declared.Attr.{Attr}
use Rattle.o2_entries.specs.declared.Entry.{Entry}
use Rattle.o2_entries.specs.Tables.{slot_at}
use Rattle.o2_place.specs.declared.seg_id.SegId.{SegId}
use Rattle.o2_place.specs.Layout.{over, used, len_of}
use Rattle.o2_place.proofs.Sums.{over-same, over-le, over-add, over-only, only}
use Rattle.o2_swapmap.specs.Piles.{Blocks, blocks_of, free, all_of}
use Rattle.o2_store.specs.Shelf.{Shelf, Adds, IsShelf, SameTables, IsFull, entry, entry_or, place_of, rounded, blocks_for}
use Rattle.o2_store.specs.Loads.{block_load, block_load_but, swap_load, swap_load_but, memory_load, live_load, memory_load_at, live_load_at}
use Rattle.o2_store.proofs.Tables.{over-change, slot-past, slot-set_other, placed_at}
use Rattle.o2_store.proofs.Keeping.{placed_below}

-- a sum from its first summand on
over-first : (f : ℕ → ℕ) (n : ℕ) → over f (suc n) ≡ f 0 + over (λ k. f (suc k)) n
over-first f zero = omega arith
over-first f (suc n) = let a = over-first f n in omega (arith, a)

-- what the lists of owners have, one after the other
over-lists : (xss : List (List ℕ)) → over (λ k. length (get_or xss k [])) (length xss) ≡ sum_by (λ (xs : List ℕ). length xs) xss
over-lists [] = refl
over-lists (xs ∷ xss) =
    let a = over-first (λ k. length (get_or (xs ∷ xss) k [])) (length xss) in
    let b = over-lists xss in
    let c = sum_by-cons (λ (ys : List ℕ). length ys) xs xss in
    omega (arith, a, b, c)

-- each block has an owner or is free
pub all_blocks : (m : Blocks) (n : ℕ) → length m.lists ≡ m.most + 1 → m.most ≡ n → over (λ k. length (blocks_of m k)) n + length (free m) ≡ all_of m
all_blocks m n long most =
    let a = over-lists m.lists in
    let l : length m.lists ≡ suc n = omega (arith, long, most) in
    let b : over (λ k. length (blocks_of m k)) (length m.lists) ≡ over (λ k. length (blocks_of m k)) n + length (blocks_of m n) = ap (over (λ k. length (blocks_of m k))) l in
    let c : length (free m) ≡ length (blocks_of m n) = ap (λ (k : ℕ). length (blocks_of m k)) most in
    omega (arith, a, b, c)

-- a segment has no more blocks than it may need
block_le : (s : Shelf) (k : ℕ) → IsShelf s → k < length s.entries → length (blocks_of s.swap k) ≤ block_load s k
block_le s k h l = go (entry s k).image refl (entry s k).attr.clean refl
  where
    go : (o : Option (ℕ × ℕ)) → (entry s k).image ≡ o → (b : Bool) → (entry s k).attr.clean ≡ b → length (blocks_of s.swap k) ≤ (if b then 0 else blocks_for (entry s k).size)
    go None e true c = absurd (let i = (h.each k l).clean c in let f : false ≡ true = sym (ap is_some e) ∙ i in cc)
    go None e false c = let a = (h.each k l).stored e in omega (arith, a, (h.each k l).kept)
    go (Some p) e true c = let a = (h.each k l).pure (ap is_some e) in omega (arith, a)
    go (Some p) e false c = let a = (h.each k l).pure (ap is_some e) in omega (arith, a)

-- where one segment lacks blocks, all together may need more than there are
pub full_load : (s : Shelf) → IsShelf s → over (λ k. length (blocks_of s.swap k)) (length s.entries) + length (free s.swap) ≡ all_of s.swap → IsFull s → all_of s.swap < swap_load s
full_load s h all full =
    let v = full.victim in
    let spare = length (free s.swap) + 1 in
    let l = placed_below s v h full.present in
    let a = over-add (λ k. length (blocks_of s.swap k)) (only v spare) (length s.entries) in
    let b = over-only v spare (length s.entries) l in
    let c = over-le (λ k. length (blocks_of s.swap k) + only v spare k) (block_load s) (length s.entries) (λ k w. elim (cases_eq k v) [
      | inl same ↦
          (let t : eqb k v ≡ true = grind (arith, nat_tests) in
          let x : length (blocks_of s.swap k) ≡ length (blocks_of s.swap v) = ap (λ (i : ℕ). length (blocks_of s.swap i)) same in
          let y : block_load s k ≡ blocks_for (entry s v).size = ap (block_load s) same ∙ ap (λ (b : Bool). if b then 0 else blocks_for (entry s v).size) full.written in
          rw t (omega (arith, x, y, full.lacks)))
      | inr other ↦ (let t : eqb k v ≡ false = grind (arith, nat_tests) in let x = block_le s k h w in rw t (omega (arith, x)))
    ]) in
    omega (arith, a, b, c, all)

-- a segment that was never written out has no blocks
bare_le : (s : Shelf) (k : ℕ) → IsShelf s → k < length s.entries → (entry s k).image ≡ None → (entry s k).kept ≡ 0 → length (blocks_of s.swap k) ≤ 0
bare_le s k h l none unkept = let a = (h.each k l).stored none in omega (arith, a, unkept)

-- the same without one that is out of memory and was never written out
pub full_load_but : (s : Shelf) (key : ℕ) → IsShelf s → over (λ k. length (blocks_of s.swap k)) (length s.entries) + length (free s.swap) ≡ all_of s.swap → IsFull s
    → place_of s key ≡ None → (entry s key).image ≡ None → (entry s key).kept ≡ 0 → all_of s.swap < swap_load_but s key
full_load_but s key h all full out none unkept =
    let v = full.victim in
    let spare = length (free s.swap) + 1 in
    let l = placed_below s v h full.present in
    let a = over-add (λ k. length (blocks_of s.swap k)) (only v spare) (length s.entries) in
    let b = over-only v spare (length s.entries) l in
    let c = over-le (λ k. length (blocks_of s.swap k) + only v spare k) (block_load_but s key) (length s.entries) (λ k w. elim (cases_eq k v) [
      | inl same ↦
          (let t : eqb k v ≡ true = grind (arith, nat_tests) in
          let u : eqb k key ≡ false = apart k same in
          let x : length (blocks_of s.swap k) ≡ length (blocks_of s.swap v) = ap (λ (i : ℕ). length (blocks_of s.swap i)) same in
          let y : block_load s k ≡ blocks_for (entry s v).size = ap (block_load s) same ∙ ap (λ (b : Bool). if b then 0 else blocks_for (entry s v).size) full.written in
          rw (t, u) (omega (arith, x, y, full.lacks)))
      | inr other ↦ (let t : eqb k v ≡ false = grind (arith, nat_tests) in elim (cases_eq k key) [
        | inl here ↦
            (let u : eqb k key ≡ true = grind (arith, nat_tests) in
            let x = bare_le s k h w (subst (λ (i : ℕ). (entry s i).image ≡ None) (sym here) none) (subst (λ (i : ℕ). (entry s i).kept ≡ 0) (sym here) unkept) in
            rw (t, u) (omega (arith, x)))
        | inr away ↦ (let u : eqb k key ≡ false = grind (arith, nat_tests) in let x = block_le s k h w in rw (t, u) (omega (arith, x)))
      ])
    ]) in
    omega (arith, a, b, c, all)
  where
    apart : (k : ℕ) → k ≡ full.victim → eqb k key ≡ false
    apart k same = elim (cases_eq k key) [
      | inl here ↦ absurd (let z : ◌≡◌ {A = Bool} false true = sym (ap is_some (ap (place_of s) (sym same ∙ here) ∙ out)) ∙ full.present in cc)
      | inr away ↦ (grind (arith, nat_tests))
    ]

len_le : (s : Shelf) (k : ℕ) → IsShelf s → (o : Option (ℕ × ℕ)) → place_of s k ≡ o → len_of o ≤ memory_load s k
len_le s k h None e = omega arith
len_le s k h (Some r) e = let p = (placed_at s k r.0 r.1 h e).1 in omega (arith, p)

-- what is in memory and a segment that isn't are part of what all take
pub out_load : (s : Shelf) (key : ℕ) → IsShelf s → over (λ k. len_of (place_of s k)) (length s.entries) ≡ used s.places.ranges → place_of s key ≡ None → used s.places.ranges + rounded (entry s key).size ≤ live_load s
out_load s key h sum none = elim (cases_lt key (length s.entries)) [
  | inl l ↦
      (let n = rounded (entry s key).size in
      let a = over-add (λ k. len_of (place_of s k)) (only key n) (length s.entries) in
      let b = over-only key n (length s.entries) l in
      let c = over-le (λ k. len_of (place_of s k) + only key n k) (memory_load s) (length s.entries) (λ k w. elim (cases_eq k key) [
        | inl same ↦
            (let t : eqb k key ≡ true = grind (arith, nat_tests) in
            let x : len_of (place_of s k) ≡ 0 = ap (λ (i : ℕ). len_of (place_of s i)) same ∙ ap len_of none in
            let y : memory_load s k ≡ n = ap (memory_load s) same in
            rw t (omega (arith, x, y)))
        | inr other ↦ (let t : eqb k key ≡ false = grind (arith, nat_tests) in let x = len_le s k h (place_of s k) refl in rw t (omega (arith, x)))
      ]) in
      omega (arith, a, b, c, sum))
  | inr past ↦
      (let z : (entry s key).size ≡ 0 = ap (λ (o : Option Entry). (entry_or o).size) (slot-past s.entries key past) in
      let c = over-le (λ k. len_of (place_of s k)) (memory_load s) (length s.entries) (λ k w. len_le s k h (place_of s k) refl) in
      omega (arith, z, c, sum))
]

-- the same, where a segment in memory gets another size
pub sized_load : (s : Shelf) (key size : ℕ) → IsShelf s → over (λ k. len_of (place_of s k)) (length s.entries) ≡ used s.places.ranges → key < length s.entries
    → used s.places.ranges + rounded size ≤ live_load_at s key size + rounded (entry s key).size
sized_load s key size h sum l =
    let a = over-change (memory_load s) (memory_load_at s key size) key (length s.entries) (λ k d. (let t : eqb k key ≡ false = grind (arith, nat_tests) in rw t refl)) l in
    let t : eqb key key ≡ true = grind (arith, nat_tests) in
    let b : memory_load_at s key size key ≡ rounded size = rw t refl in
    let c = over-le (λ k. len_of (place_of s k)) (memory_load s) (length s.entries) (λ k w. len_le s k h (place_of s k) refl) in
    omega (arith, a, b, c, sum)

-- sizes and attributes alone count
pub same_swap_load : (s t : Shelf) → SameTables s t → swap_load t ≡ swap_load s
same_swap_load s t q =
    ap (over (block_load t)) q.count
    ∙ over-same (block_load t) (block_load s) (length s.entries)
    (λ k l. ap (λ (a : Attr). if a.clean then 0 else blocks_for (entry t k).size) (q.same k).attr
    ∙ ap (λ (n : ℕ). if (entry s k).attr.clean then 0 else blocks_for n) (q.same k).size)

pub same_load_but : (s t : Shelf) (key : ℕ) → SameTables s t → swap_load_but t key ≡ swap_load_but s key
same_load_but s t key q =
    ap (over (block_load_but t key)) q.count
    ∙ over-same (block_load_but t key) (block_load_but s key) (length s.entries)
    (λ k l. ap (λ (n : ℕ). if eqb k key then 0 else n)
    (ap (λ (a : Attr). if a.clean then 0 else blocks_for (entry t k).size) (q.same k).attr
    ∙ ap (λ (n : ℕ). if (entry s k).attr.clean then 0 else blocks_for n) (q.same k).size))

-- a new segment adds nothing to what the others may need
pub added_load : (s t : Shelf) (id : SegId) (e : Entry) → Adds s t id e → swap_load_but t id.key ≡ swap_load s
added_load s t id e a =
    ap (over (block_load_but t id.key)) (ap (λ (x : Shelf). length x.entries) a.shelf ∙ length-set s.entries id.key (Some e))
    ∙ over-same (block_load_but t id.key) (block_load s) (length s.entries) (λ k l. elim (cases_eq k id.key) [
      | inl same ↦
          (let u : eqb k id.key ≡ true = grind (arith, nat_tests) in
          rw u (sym (ap (λ (o : Option Entry). if (entry_or o).attr.clean then 0 else blocks_for (entry_or o).size) (ap (slot_at s.entries) same ∙ a.vacant))))
      | inr other ↦
          (let u : eqb k id.key ≡ false = grind (arith, nat_tests) in
          rw u (ap (λ (o : Option Entry). if (entry_or o).attr.clean then 0 else blocks_for (entry_or o).size) (ap (λ (x : Shelf). slot_at x.entries k) a.shelf ∙ slot-set_other s.entries id.key k (Some e) other)))
    ])

pub same_live_load : (s t : Shelf) → SameTables s t → live_load t ≡ live_load s
same_live_load s t q = ap (over (memory_load t)) q.count ∙ over-same (memory_load t) (memory_load s) (length s.entries) (λ k l. ap rounded (q.same k).size)

pub same_load_at : (s t : Shelf) (key size : ℕ) → SameTables s t → live_load_at t key size ≡ live_load_at s key size
same_load_at s t key size q =
    ap (over (memory_load_at t key size)) q.count
    ∙ over-same (memory_load_at t key size) (memory_load_at s key size) (length s.entries)
    (λ k l. ap (λ (n : ℕ). if eqb k key then rounded size else n) (ap rounded (q.same k).size))
