-- A segment that has got another size.
use Rattle.std.proofs.Common.{◌≡◌, ◌≢◌, inl, inr, ℕ, ◌+◌, ◌/◌, ◌%◌, ◌<◌, ◌≤◌, List, length, take, get_or, set, Option, Some, None, is_some, Bool, true, false, ltb, ◌&&◌, eqb, refl, sym, ap, ◌∙◌, subst, arith, if◌then◌else◌, min}
use Rattle.std.proofs.lemmas.Bool.{cases_lt, cases_eq}
use Rattle.std.proofs.lemmas.Bool.Decides.{nat_tests}
use Rattle.std.proofs.lemmas.List.{length-set, length-take-le, length-take, get_or-take}
use Rattle.o2_entries.specs.declared.Entry.{Entry}
use Rattle.o2_entries.specs.Tables.{slot_at}
use Rattle.o2_place.specs.Layout.{Layout, find_in}
use Rattle.o2_place.specs.Marks.{mark_of}
use Rattle.o2_swapmap.specs.Piles.{Blocks, blocks_of, OnlyOf}
use Rattle.o2_store.specs.Shelf.{Shelf, IsShelf, IsSegment, IsSegmentAt, entry, entry_or, place_of, rounded, blocks_for, Pictures, byte_at, byte_in, out_byte, source_byte, AreClean, KeepsAll, SameEntry}
use Rattle.o2_store.specs.Sizes.{Refits, Resizes, Goes}
use Rattle.o2_store.proofs.Tables.{within_at, slot-past, slot-set_same, slot-set_other, none_is_none, placed_at, kept_at, gone_still}
use Rattle.o2_store.proofs.Keeping.{same_entry, out_kept, clean_source}
use Rattle.o2_store.proofs.Fits.{pair_at}

-- an entry at another size
abbrev pub at_size : Entry → ℕ → Entry
at_size e size = record e { size = size; kept = min e.kept size }

-- no more of its bytes are kept
pub kept_less : (es : List (Option Entry)) (key : ℕ) (e : Entry) (size : ℕ) → slot_at es key ≡ Some e → (entry_or (slot_at (set es key (Some (at_size e size))) key)).kept ≤ (entry_or (slot_at es key)).kept
kept_less es key e size slot =
    let l = within_at es key (ap is_some slot) in
    rw (slot-set_same es key (Some (at_size e size)) l, slot) (omega arith)

-- the store with it
abbrev pub grown : Shelf → List ℕ → Layout → Blocks → ℕ → Entry → Shelf
grown s n q w key f = record s { memory = n; places = q; swap = w; entries = set s.entries key (Some f) }

-- what is known of the parts that change
pub record Grows (s : Shelf) (n : List ℕ) (q : Layout) (w : Blocks) (key size : ℕ) (e : Entry) : Type 0 where
  pub shelf : IsShelf s
  pub slot : slot_at s.entries key ≡ Some e
  pub pos : 0 < size
  pub small : size ≤ 65536
  pub fits : Refits s.memory s.places n q key e.size size
  pub only : OnlyOf key s.swap w
  pub blocks : blocks_of w key ≡ take (blocks_for (min e.kept size)) (blocks_of s.swap key)

none_by : (o : Option (ℕ × ℕ)) → is_some o ≡ false → o ≡ None
none_by None e = refl
none_by (Some r) e = absurd (let f : true ≡ false = e in cc)

segment_moved : (made : ℕ) (o : Option Entry) (p r : Option (ℕ × ℕ)) (b : Bool) (m n : ℕ) → IsSegment made o p b m → n ≡ m → is_some r ≡ is_some p → ((at len : ℕ) → r ≡ Some (at, len) → (x : ℕ) × (p ≡ Some (x, len))) → IsSegment made o r b n
segment_moved made o p r b m n h eq same from = record {
  placed = λ at len e. (let g = from at len e in h.placed g.0 len g.1);
  clock = h.clock ∙ ap (λ (x : Bool). x && (eqb (entry_or o).attr.lock 0)) (sym same);
  locked = λ l. same ∙ h.locked l;
  dead = λ e. none_by r (same ∙ ap is_some (h.dead e));
  live = h.live;
  young = h.young;
  sized = h.sized;
  kept = h.kept;
  stored = λ e. eq ∙ h.stored e;
  pure = λ i. eq ∙ h.pure i;
  clean = h.clean;
  gone = λ q. (let g = h.gone q in gone_still (entry_or o) (entry_or o) p r (none_by r (same ∙ ap is_some g.out)) refl refl refl g);
}

pub fit_presence : (m : List ℕ) (p : Layout) (n : List ℕ) (q : Layout) (key old new k : ℕ) → Refits m p n q key old new → is_some (find_in q.ranges k) ≡ is_some (find_in p.ranges k)
fit_presence m p n q key old new k r = go (find_in p.ranges k) refl
  where
    go : (o : Option (ℕ × ℕ)) → find_in p.ranges k ≡ o → is_some (find_in q.ranges k) ≡ is_some o
    go None e = ap is_some (r.none k e)
    go (Some x) e = elim (cases_eq k key) [
      | inl same ↦ (let g = r.here x.0 x.1 (subst (λ (y : ℕ). find_in p.ranges y ≡ Some x) same e) in ap is_some (subst (λ (y : ℕ). find_in q.ranges y ≡ Some (g.0, rounded new)) (sym same) g.1))
      | inr ne ↦ ap is_some (r.others k x.0 x.1 ne e).1
    ]

-- where a range of another id was
fit_from : (m : List ℕ) (p : Layout) (n : List ℕ) (q : Layout) (key old new k at len : ℕ) → Refits m p n q key old new → k ≢ key → find_in q.ranges k ≡ Some (at, len) → (x : ℕ) × (find_in p.ranges k ≡ Some (x, len)) × Goes m x len n at
fit_from m p n q key old new k at len r ne f = go (find_in p.ranges k) refl
  where
    go : (o : Option (ℕ × ℕ)) → find_in p.ranges k ≡ o → (x : ℕ) × (find_in p.ranges k ≡ Some (x, len)) × Goes m x len n at
    go None e = absurd (none_is_none f (r.none k e))
    go (Some y) e =
        let g = r.others k y.0 y.1 ne e in
        let d = pair_at g.0 y.1 at len (sym g.1 ∙ f) in
        (y.0, e ∙ ap (λ (z : ℕ). Some (y.0, z)) d.1, λ j l. ap (λ (z : ℕ). get_or n (z + j) 0) (sym d.0) ∙ g.2 j (omega (arith, d.1, l)))

-- the range of the id
fit_here : (m : List ℕ) (p : Layout) (n : List ℕ) (q : Layout) (key old new at len : ℕ) → Refits m p n q key old new → find_in q.ranges key ≡ Some (at, len)
    → (x : ℕ) × (l : ℕ) × (find_in p.ranges key ≡ Some (x, l)) × (len ≡ rounded new) × ((j : ℕ) → j < old → j < new → get_or n (at + j) 0 ≡ get_or m (x + j) 0) × ((j : ℕ) → old ≤ j → j < new → get_or n (at + j) 0 ≡ 0)
fit_here m p n q key old new at len r f = go (find_in p.ranges key) refl
  where
    go : (o : Option (ℕ × ℕ)) → find_in p.ranges key ≡ o
        → (x : ℕ) × (l : ℕ) × (find_in p.ranges key ≡ Some (x, l)) × (len ≡ rounded new) × ((j : ℕ) → j < old → j < new → get_or n (at + j) 0 ≡ get_or m (x + j) 0) × ((j : ℕ) → old ≤ j → j < new → get_or n (at + j) 0 ≡ 0)
    go None e = absurd (none_is_none f (r.none key e))
    go (Some y) e =
        let g = r.here y.0 y.1 e in
        let d = pair_at g.0 (rounded new) at len (sym g.1 ∙ f) in
        (y.0, y.1, e, sym d.1, λ j a b. ap (λ (z : ℕ). get_or n (z + j) 0) (sym d.0) ∙ g.2 j a b, λ j a b. ap (λ (z : ℕ). get_or n (z + j) 0) (sym d.0) ∙ g.3 j a b)

-- its segment's record
at_key : (s : Shelf) (n : List ℕ) (q : Layout) (w : Blocks) (key size : ℕ) (e : Entry) → Grows s n q w key size e → IsSegmentAt (grown s n q w key (at_size e size)) key
at_key s n q w key size e g =
    let h = g.shelf in
    let f = at_size e size in
    let l : key < length s.entries = within_at s.entries key (ap is_some g.slot) in
    let old : IsSegment s.made (Some e) (place_of s key) (mark_of s.turns.marks key).present (length (blocks_of s.swap key)) = subst (λ (o : Option Entry). IsSegment s.made o (place_of s key) (mark_of s.turns.marks key).present (length (blocks_of s.swap key))) g.slot (h.each key l) in
    let same = fit_presence s.memory s.places n q key e.size size key g.fits in
    rw (slot-set_same s.entries key (Some f) l, g.blocks) (record {
      placed = λ at len x. (fit_here s.memory s.places n q key e.size size at len g.fits x).3;
      clock = old.clock ∙ ap (λ (x : Bool). x && (eqb e.attr.lock 0)) (sym same);
      locked = λ x. same ∙ old.locked x;
      dead = λ x. absurd cc;
      live = λ x. g.pos;
      young = old.young;
      sized = g.small;
      kept = omega arith;
      stored = λ x. (let z = old.stored x in length-take-le (blocks_for (min e.kept size)) (blocks_of s.swap key) (omega (arith, z)));
      pure = λ i. take_none (blocks_for (min e.kept size)) (blocks_of s.swap key) (old.pure i);
      clean = old.clean;
      gone = λ x. (let y = old.gone x in
          gone_still e f (place_of s key) (find_in q.ranges key) (none_by (find_in q.ranges key) (same ∙ ap is_some y.out)) refl (let none = y.kept in omega (arith, none)) refl y);
    })
  where
    take_none : (n : ℕ) (xs : List ℕ) → length xs ≡ 0 → length (take n xs) ≡ 0
    take_none n xs e = (let a = length-take n xs in omega (arith, a, e))

pub IsShelf-grown : (s : Shelf) (n : List ℕ) (q : Layout) (w : Blocks) (key size : ℕ) (e : Entry) → Grows s n q w key size e → IsShelf (grown s n q w key (at_size e size))
IsShelf-grown s n q w key size e g =
    let h = g.shelf in
    let f = at_size e size in
    let t = grown s n q w key f in
    let count : length t.entries ≡ length s.entries = length-set s.entries key (Some f) in
    let l : key < length s.entries = within_at s.entries key (ap is_some g.slot) in
    record {
      memory = g.fits.size ∙ h.memory ∙ sym g.fits.whole;
      small = omega (arith, h.small, g.fits.whole);
      few = omega (arith, h.few, count);
      places_most = g.fits.most ∙ h.places_most ∙ sym count;
      swap_most = g.only.most ∙ h.swap_most ∙ sym count;
      turns_most = h.turns_most ∙ sym count;
      numbered = λ k at len x. elim (cases_eq k key) [
        | inl same ↦ omega (arith, same, l, count)
        | inr ne ↦ (let y = fit_from s.memory s.places n q key e.size size k at len g.fits ne x in let z = h.numbered k y.0 len y.1 in omega (arith, z, count))
      ];
      each = λ k m. elim (cases_eq k key) [
        | inl same ↦ subst (IsSegmentAt t) (sym same) (at_key s n q w key size e g)
        | inr ne ↦
            (let x : k < length s.entries = omega (arith, m, count) in
            let b : length (blocks_of w k) ≡ length (blocks_of s.swap k) = ap (λ (xs : List ℕ). length xs) (g.only.others k ne (omega (arith, h.swap_most))) in
            rw (slot-set_other s.entries key k (Some f) ne) (segment_moved s.made (slot_at s.entries k) (place_of s k) (find_in q.ranges k) (mark_of s.turns.marks k).present (length (blocks_of s.swap k)) (length (blocks_of w k)) (h.each k x) b
            (fit_presence s.memory s.places n q key e.size size k g.fits) (λ at len y. (let z = fit_from s.memory s.places n q key e.size size k at len g.fits ne y in (z.0, z.1)))))
      ];
    }

-- another segment's bytes
other_grown : (s : Shelf) (n : List ℕ) (q : Layout) (w : Blocks) (key size : ℕ) (e : Entry) → Grows s n q w key size e → (pic : Pictures) (block : ℕ → List ℕ) (k j : ℕ) → k ≢ key → j < (entry s k).size
    → byte_at (grown s n q w key (at_size e size)) pic block k j ≡ byte_at s pic block k j
other_grown s n q w key size e g pic block k j ne jl = elim (cases_lt k (length s.entries)) [
  | inl l ↦
      (let h = g.shelf in
      let d = out_kept (entry s k) pic s.swap w block block k j (g.only.others k ne (omega (arith, h.swap_most))) (h.each k l).stored (λ i x. refl) in
      rw (slot-set_other s.entries key k (Some (at_size e size)) ne) (go (place_of s k) refl _ _ d))
  | inr past ↦ absurd (let z : (entry s k).size ≡ 0 = ap (λ (o : Option Entry). (entry_or o).size) (slot-past s.entries k past) in omega (arith, z, jl))
]
  where
    go : (o : Option (ℕ × ℕ)) → place_of s k ≡ o → (x y : ℕ) → x ≡ y → byte_in n (find_in q.ranges k) x j ≡ byte_in s.memory (place_of s k) y j
    go None e' x y d = rw (g.fits.none k e', e') d
    go (Some r) e' x y d =
        let z = g.fits.others k r.0 r.1 ne e' in
        let p = (placed_at s k r.0 r.1 g.shelf e').1 in
        rw (z.1, e') (z.2 j (omega (arith, p, jl)))

-- the source of a byte that lies in blocks that are kept
source_front : (o : Option (ℕ × ℕ)) (pic : Pictures) (m w : Blocks) (block : ℕ → List ℕ) (k j nb : ℕ) → blocks_of w k ≡ take nb (blocks_of m k) → j / 512 < nb → source_byte o pic w block k j ≡ source_byte o pic m block k j
source_front None pic m w block k j nb e l = ap (λ (xs : List ℕ). get_or (block (get_or xs (j / 512) 0)) (j % 512) 0) e ∙ ap (λ (x : ℕ). get_or (block x) (j % 512) 0) (get_or-take nb (blocks_of m k) (j / 512) 0 l)
source_front (Some p) pic m w block k j nb e l = refl

-- the bytes of the segment out of memory
out_grown : (s : Shelf) (n : List ℕ) (q : Layout) (w : Blocks) (key size : ℕ) (e : Entry) → Grows s n q w key size e → (pic : Pictures) (block : ℕ → List ℕ) (j : ℕ) → j < size
    → out_byte (grown s n q w key (at_size e size)) pic block key j ≡ out_byte s pic block key j
out_grown s n q w key size e g pic block j l =
    let in_list : key < length s.entries = within_at s.entries key (ap is_some g.slot) in
    rw (slot-set_same s.entries key (Some (at_size e size)) in_list, g.slot) (elim (cases_lt j e.kept) [
      | inl x ↦
          (let a : ltb j (min e.kept size) ≡ true = grind (arith, nat_tests) in
          let b : ltb j e.kept ≡ true = grind (arith, nat_tests) in
          rw (a, b) (source_front e.image pic s.swap w block key j (blocks_for (min e.kept size)) g.blocks (omega arith)))
      | inr x ↦
          (let a : ltb j (min e.kept size) ≡ false = grind (arith, nat_tests) in
          let b : ltb j e.kept ≡ false = grind (arith, nat_tests) in
          rw (a, b) refl)
    ])

-- past the kept bytes there are zeros
out_past : (s : Shelf) (key : ℕ) (pic : Pictures) (block : ℕ → List ℕ) (j : ℕ) → (entry s key).kept ≤ j → out_byte s pic block key j ≡ 0
out_past s key pic block j l = let a : ltb j (entry s key).kept ≡ false = grind (arith, nat_tests) in rw a refl

key_front : (s : Shelf) (n : List ℕ) (q : Layout) (w : Blocks) (key size : ℕ) (e : Entry) → Grows s n q w key size e → (pic : Pictures) (block : ℕ → List ℕ) (j : ℕ) → j < (entry s key).size → j < size
    → byte_at (grown s n q w key (at_size e size)) pic block key j ≡ byte_at s pic block key j
key_front s n q w key size e g pic block j a b = go (place_of s key) refl (out_byte (grown s n q w key (at_size e size)) pic block key j) (out_byte s pic block key j) (out_grown s n q w key size e g pic block j b)
  where
    go : (o : Option (ℕ × ℕ)) → place_of s key ≡ o → (x y : ℕ) → x ≡ y → byte_in n (find_in q.ranges key) x j ≡ byte_in s.memory (place_of s key) y j
    go None e' x y d = rw (g.fits.none key e', e') d
    go (Some r) e' x y d =
        let z = g.fits.here r.0 r.1 e' in
        let i : (entry s key).size ≡ e.size = ap (λ (o : Option Entry). (entry_or o).size) g.slot in
        rw (z.1, e') (z.2 j (omega (arith, i, a)) b)

key_zeros : (s : Shelf) (n : List ℕ) (q : Layout) (w : Blocks) (key size : ℕ) (e : Entry) → Grows s n q w key size e → (pic : Pictures) (block : ℕ → List ℕ) (j : ℕ) → (entry s key).size ≤ j → j < size
    → byte_at (grown s n q w key (at_size e size)) pic block key j ≡ 0
key_zeros s n q w key size e g pic block j a b =
    let k = kept_at s key g.shelf in
    go (place_of s key) refl (out_byte (grown s n q w key (at_size e size)) pic block key j) (out_grown s n q w key size e g pic block j b ∙ out_past s key pic block j (omega (arith, k, a)))
  where
    go : (o : Option (ℕ × ℕ)) → place_of s key ≡ o → (x : ℕ) → x ≡ 0 → byte_in n (find_in q.ranges key) x j ≡ 0
    go None e' x d = rw (g.fits.none key e') d
    go (Some r) e' x d =
        let z = g.fits.here r.0 r.1 e' in
        let i : (entry s key).size ≡ e.size = ap (λ (o : Option Entry). (entry_or o).size) g.slot in
        rw z.1 (z.3 j (omega (arith, i, a)) b)

pub resizes_is : (told : Bool) (s : Shelf) (n : List ℕ) (q : Layout) (w : Blocks) (key size : ℕ) (e : Entry) → Grows s n q w key size e → (pic : Pictures) (block : ℕ → List ℕ) → Resizes told pic s block (grown s n q w key (at_size e size)) block key size
resizes_is told s n q w key size e g pic block =
    let f = at_size e size in
    let l : key < length s.entries = within_at s.entries key (ap is_some g.slot) in
    record {
      others = λ t k j ne x. other_grown s n q w key size e g pic block k j ne x;
      front = λ t j a b. key_front s n q w key size e g pic block j a b;
      zeros = λ j a b. key_zeros s n q w key size e g pic block j a b;
      same = λ k ne. rw (slot-set_other s.entries key k (Some f) ne) (same_entry (slot_at s.entries k));
      here = rw (slot-set_same s.entries key (Some f) l, g.slot) (record { live = refl; age = refl; sized = refl; attr = refl; image = λ p x. x });
      count = length-set s.entries key (Some f);
      made = refl;
      whole = g.fits.size;
    }

pub clean_grown : (s : Shelf) (n : List ℕ) (q : Layout) (w : Blocks) (key size : ℕ) (e : Entry) → Grows s n q w key size e → (pic : Pictures) → AreClean s pic → AreClean (grown s n q w key (at_size e size)) pic
clean_grown s n q w key size e g pic c =
    let f = at_size e size in
    let h = g.shelf in
    let t = grown s n q w key f in
    let in_list : key < length s.entries = within_at s.entries key (ap is_some g.slot) in
    let here : slot_at t.entries key ≡ Some f = slot-set_same s.entries key (Some f) in_list in
    let size_is : (entry s key).size ≡ e.size = ap (λ (o : Option Entry). (entry_or o).size) g.slot in
    record {
      bytes = λ k at len j clean place l block. elim (cases_eq k key) [
        | inl same ↦
            subst (λ (x : ℕ). get_or n (at + j) 0 ≡ out_byte t pic block x j) (sym same)
            (let p : find_in q.ranges key ≡ Some (at, len) = subst (λ (x : ℕ). find_in q.ranges x ≡ Some (at, len)) same place in
            let z = fit_here s.memory s.places n q key e.size size at len g.fits p in
            let sz : (entry t key).size ≡ size = ap (λ (o : Option Entry). (entry_or o).size) here in
            let m0 : j < (entry t key).size = subst (λ (x : ℕ). j < (entry t x).size) same l in
            let m : j < size = omega (arith, sz, m0) in
            let y : (entry s key).attr.clean ≡ true = ap (λ (o : Option Entry). (entry_or o).attr.clean) (g.slot) ∙ sym (ap (λ (o : Option Entry). (entry_or o).attr.clean) here) ∙ subst (λ (x : ℕ). (entry t x).attr.clean ≡ true) same clean in
            let out = out_grown s n q w key size e g pic block j m in
            elim (cases_lt j e.size) [
              | inl b ↦ z.4 j b m ∙ c.bytes key z.0 z.1 j y z.2 (omega (arith, size_is, b)) block ∙ sym out
              | inr b ↦ (let k' = kept_at s key h in z.5 j b m ∙ sym (out ∙ out_past s key pic block j (omega (arith, k', size_is, b))))
            ])
        | inr ne ↦
            (let z = fit_from s.memory s.places n q key e.size size k at len g.fits ne place in
            let slot = slot-set_other s.entries key k (Some f) ne in
            let y : (entry s k).attr.clean ≡ true = sym (ap (λ (o : Option Entry). (entry_or o).attr.clean) slot) ∙ clean in
            let m : j < (entry s k).size = subst (λ (o : Option Entry). j < (entry_or o).size) slot l in
            let x = h.numbered k z.0 len z.1 in
            let p = (placed_at s k z.0 len h z.1).1 in
            rw slot (z.2 j (omega (arith, p, m)) ∙ c.bytes k z.0 len j y z.1 m block ∙ ap (λ (v : ℕ). if ltb j (entry s k).kept then v else 0) (sym (clean_source (entry s k).image pic s.swap w block block k j ((h.each k x).clean y)))))
      ];
    }

entry_after : (o p r : Option Entry) → SameEntry o p → SameEntry p r → SameEntry o r
entry_after o p r a b = record { live = b.live ∙ a.live; age = b.age ∙ a.age; size = b.size ∙ a.size; attr = b.attr ∙ a.attr; image = λ x e. a.image x (b.image x e) }

-- a size that is got after changes that keep all bytes
pub resizes_after : (told : Bool) (pic : Pictures) (s t u : Shelf) (a b c : ℕ → List ℕ) (key size : ℕ) → KeepsAll told pic s a t b → Resizes told pic t b u c key size → Resizes told pic s a u c key size
resizes_after told pic s t u a b c key size p q = record {
  others = λ w k j ne l. q.others w k j ne (omega (arith, l, (p.tables.same k).size)) ∙ p.bytes w k j l;
  front = λ w j l m. q.front w j (omega (arith, l, (p.tables.same key).size)) m ∙ p.bytes w key j l;
  zeros = λ j l m. q.zeros j (omega (arith, l, (p.tables.same key).size)) m;
  same = λ k ne. entry_after (slot_at s.entries k) (slot_at t.entries k) (slot_at u.entries k) (p.tables.same k) (q.same k ne);
  here = record {
    live = q.here.live ∙ (p.tables.same key).live;
    age = q.here.age ∙ (p.tables.same key).age;
    sized = q.here.sized;
    attr = q.here.attr ∙ (p.tables.same key).attr;
    image = λ x e. (p.tables.same key).image x (q.here.image x e);
  };
  count = q.count ∙ p.tables.count;
  made = q.made ∙ p.tables.made;
  whole = q.whole ∙ p.tables.size;
}

-- the numbers of a call are no part of it
pub keys_resize : (told : Bool) (pic : Pictures) (s t u : Shelf) (a b : ℕ → List ℕ) (key size : ℕ) → t ≡ record s { keys = t.keys } → Resizes told pic t a u b key size → Resizes told pic s a u b key size
keys_resize told pic s t u a b key size e q =
    let r : Resizes told pic (record s { keys = t.keys }) a u b key size = subst (λ (x : Shelf). Resizes told pic x a u b key size) e q in
    record { others = r.others; front = r.front; zeros = r.zeros; same = r.same; here = r.here; count = r.count; made = r.made; whole = r.whole }
