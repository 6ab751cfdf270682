-- Changes at one number that keep all bytes.
use Rattle.std.proofs.Common.{◌≡◌, ◌≢◌, inl, inr, ℕ, ◌+◌, ◌/◌, ◌%◌, ◌<◌, ◌≤◌, List, length, get_or, set, Option, Some, None, is_some, IsSome, Bool, true, false, ltb}
use Rattle.std.proofs.Common.{IsTrue, ◌&&◌, eqb, refl, sym, ap, ◌∙◌, subst, arith, unwrap_or, if◌then◌else◌}
use Rattle.std.proofs.lemmas.Bool.{cases_lt, cases_eq}
use Rattle.std.proofs.lemmas.Bool.Decides.{nat_tests}
use Rattle.std.proofs.lemmas.List.{length-set, get_or_past}
use Rattle.o2_entries.specs.declared.Entry.{Entry}
use Rattle.o2_entries.specs.declared.Attr.{Attr}
use Rattle.o2_entries.specs.Tables.{slot_at}
use Rattle.o2_place.specs.declared.clock.Mark.{Mark}
use Rattle.o2_place.specs.Layout.{Layout, Changes}
use Rattle.o2_place.specs.Marks.{Turns, mark_of, no_mark, OnlyUnmarks}
use Rattle.o2_swapmap.specs.Piles.{Blocks, blocks_of, OnlyOf, NoneTwice}
use Rattle.o2_store.specs.Shelf.{Shelf, IsShelf, IsSegment, IsDiscardable, discarded_entry, entry, entry_or, place_of, blocks_for, Pictures, byte_at, byte_in, out_byte, source_byte, KeepsAll, SameEntry, SameTables, AreClean, IsOther, IsSaved}
use Rattle.o2_store.proofs.Tables.{Touches, IsShelf-touch, slot-past, slot-set_same, slot-set_other, place-same, place-other, marks_other, marks_same, marks_long, within_at, none_is_none, locked_at, gone_still, never_gone, touched}

pub same_entry : (o : Option Entry) → SameEntry o o
same_entry o = record { live = refl; age = refl; size = refl; attr = refl; image = λ p e. e }

pub same_tables : (s : Shelf) → SameTables s s
same_tables s = record { same = λ k. same_entry (slot_at s.entries k); count = refl; made = refl; size = refl }

pub tables_trans : (s t u : Shelf) → SameTables s t → SameTables t u → SameTables s u
tables_trans s t u p q = record {
  same = λ k. record {
    live = (q.same k).live ∙ (p.same k).live;
    age = (q.same k).age ∙ (p.same k).age;
    size = (q.same k).size ∙ (p.same k).size;
    attr = (q.same k).attr ∙ (p.same k).attr;
    image = λ x e. (p.same k).image x ((q.same k).image x e);
  };
  count = q.count ∙ p.count;
  made = q.made ∙ p.made;
  size = q.size ∙ p.size;
}

pub keeps_refl : (told : Bool) (pic : Pictures) (s : Shelf) (a : ℕ → List ℕ) → KeepsAll told pic s a s a
keeps_refl told pic s a = record { bytes = λ t k j l. refl; tables = same_tables s }

pub keeps_trans : (told : Bool) (pic : Pictures) (s t u : Shelf) (a b c : ℕ → List ℕ) → KeepsAll told pic s a t b → KeepsAll told pic t b u c → KeepsAll told pic s a u c
keeps_trans told pic s t u a b c p q = record {
  bytes = λ w k j l. q.bytes w k j (omega (arith, l, (p.tables.same k).size)) ∙ p.bytes w k j l;
  tables = tables_trans s t u p.tables q.tables;
}

-- what is kept where an earlier device tells is kept where a later one does
pub keeps_later : (earlier later : Bool) (pic : Pictures) (s t : Shelf) (a b : ℕ → List ℕ) → (IsTrue later → IsTrue earlier) → KeepsAll earlier pic s a t b → KeepsAll later pic s a t b
keeps_later earlier later pic s t a b told p = record { bytes = λ w k j l. p.bytes (told w) k j l; tables = p.tables }

-- the source of a byte that lies in an owner's blocks
kept_source : (o : Option (ℕ × ℕ)) (pic : Pictures) (m n : Blocks) (a b : ℕ → List ℕ) (k j : ℕ) → blocks_of n k ≡ blocks_of m k → (o ≡ None → j / 512 < length (blocks_of m k))
    → ((i : ℕ) → i < length (blocks_of m k) → b (get_or (blocks_of m k) i 0) ≡ a (get_or (blocks_of m k) i 0)) → source_byte o pic n b k j ≡ source_byte o pic m a k j
kept_source None pic m n a b k j e l same = ap (λ (xs : List ℕ). get_or (b (get_or xs (j / 512) 0)) (j % 512) 0) e ∙ ap (λ (xs : List ℕ). get_or xs (j % 512) 0) (same (j / 512) (l refl))
kept_source (Some p) pic m n a b k j e l same = refl

pub out_kept : (e : Entry) (pic : Pictures) (m n : Blocks) (a b : ℕ → List ℕ) (k j : ℕ) → blocks_of n k ≡ blocks_of m k → (e.image ≡ None → length (blocks_of m k) ≡ blocks_for e.kept)
    → ((i : ℕ) → i < length (blocks_of m k) → b (get_or (blocks_of m k) i 0) ≡ a (get_or (blocks_of m k) i 0))
    → (if ltb j e.kept then source_byte e.image pic n b k j else 0) ≡ (if ltb j e.kept then source_byte e.image pic m a k j else 0)
out_kept e pic m n a b k j same stored contents = elim (cases_lt j e.kept) [
  | inl w ↦ ap (λ (x : ℕ). if ltb j e.kept then x else 0) (kept_source e.image pic m n a b k j same (λ q. (let z = stored q in omega (arith, z, w))) contents)
  | inr past ↦ (let t : ltb j e.kept ≡ false = grind (arith, nat_tests) in rw t refl)
]

-- another number, whose blocks keep their contents
other_byte : (s t : Shelf) (pic : Pictures) (a b : ℕ → List ℕ) (k j : ℕ) → IsShelf s → t.memory ≡ s.memory → slot_at t.entries k ≡ slot_at s.entries k → place_of t k ≡ place_of s k
    → (k < length s.entries → blocks_of t.swap k ≡ blocks_of s.swap k)
    → ((i : ℕ) → k < length s.entries → i < length (blocks_of s.swap k) → b (get_or (blocks_of s.swap k) i 0) ≡ a (get_or (blocks_of s.swap k) i 0)) → byte_at t pic b k j ≡ byte_at s pic a k j
other_byte s t pic a b k j h memory slot place blocks contents = elim (cases_lt k (length s.entries)) [
  | inl l ↦
      (let d = out_kept (entry s k) pic s.swap t.swap a b k j (blocks l) (h.each k l).stored (λ i. contents i l) in
      rw (memory, slot, place) (ap (λ (x : ℕ). byte_in s.memory (place_of s k) x j) d))
  | inr past ↦
      (let none = slot-past s.entries k past in
      let z : ltb j 0 ≡ false = grind (arith, nat_tests) in
      rw (memory, place, slot, none, z) refl)
]

-- what a change at one number leaves, with the blocks of the others and what these hold
pub record Leaves (told : Bool) (s : Shelf) (a : ℕ → List ℕ) (t : Shelf) (b : ℕ → List ℕ) (key : ℕ) : Type 0 where
  pub touches : Touches s t key
  pub memory : t.memory ≡ s.memory
  pub made : t.made ≡ s.made
  pub blocks : (k : ℕ) → k ≢ key → k < length s.entries → blocks_of t.swap k ≡ blocks_of s.swap k
  pub contents : IsTrue told → (k i : ℕ) → k ≢ key → k < length s.entries → i < length (blocks_of s.swap k) → b (get_or (blocks_of s.swap k) i 0) ≡ a (get_or (blocks_of s.swap k) i 0)

pub keeps_key : (told : Bool) (pic : Pictures) (s t : Shelf) (a b : ℕ → List ℕ) (key : ℕ) → IsShelf s → Leaves told s a t b key → SameEntry (slot_at s.entries key) (slot_at t.entries key)
    → (IsTrue told → (j : ℕ) → j < (entry s key).size → byte_at t pic b key j ≡ byte_at s pic a key j) → KeepsAll told pic s a t b
keeps_key told pic s t a b key h v same here = record {
  bytes = λ w k j l. elim (cases_eq k key) [
    | inl e ↦ subst (λ (x : ℕ). byte_at t pic b x j ≡ byte_at s pic a x j) (sym e) (here w j (subst (λ (x : ℕ). j < (entry s x).size) e l))
    | inr n ↦ other_byte s t pic a b k j h v.memory (v.touches.slot k n) (v.touches.place k n) (v.blocks k n) (λ i. v.contents w k i n)
  ];
  tables = record {
    same = λ k. elim (cases_eq k key) [
      | inl e ↦ subst (λ (x : ℕ). SameEntry (slot_at s.entries x) (slot_at t.entries x)) (sym e) same
      | inr n ↦ subst (λ (o : Option Entry). SameEntry (slot_at s.entries k) o) (sym (v.touches.slot k n)) (same_entry (slot_at s.entries k))
    ];
    count = v.touches.count;
    made = v.made;
    size = v.touches.size;
  };
}

-- a clean segment's source is its image
pub clean_source : (o : Option (ℕ × ℕ)) (pic : Pictures) (m n : Blocks) (a b : ℕ → List ℕ) (k j : ℕ) → IsSome o → source_byte o pic n b k j ≡ source_byte o pic m a k j
clean_source None pic m n a b k j i = absurd (let f : false ≡ true = i in cc)
clean_source (Some p) pic m n a b k j i = refl

-- clean segments stay as they are where another number changes
pub clean_keeps : (s t : Shelf) (pic : Pictures) (key : ℕ) → IsShelf s → AreClean s pic → Touches s t key → t.memory ≡ s.memory
    → ((at len : ℕ) → (entry t key).attr.clean ≡ true → place_of t key ≡ Some (at, len) → ⊥) → AreClean t pic
clean_keeps s t pic key h c v memory never = record {
  bytes = λ k at len j clean place l block. elim (cases_eq k key) [
    | inl e ↦ absurd (never at len (subst (λ (x : ℕ). (entry t x).attr.clean ≡ true) e clean) (subst (λ (x : ℕ). place_of t x ≡ Some (at, len)) e place))
    | inr n ↦
        (let q : place_of s k ≡ Some (at, len) = sym (v.place k n) ∙ place in
        let w = h.numbered k at len q in
        let slot = v.slot k n in
        let y : (entry s k).attr.clean ≡ true = sym (ap (λ (o : Option Entry). (entry_or o).attr.clean) slot) ∙ clean in
        let m : j < (entry s k).size = subst (λ (o : Option Entry). j < (entry_or o).size) slot l in
        rw (memory, slot) (c.bytes k at len j y q m block ∙ ap (λ (x : ℕ). if ltb j (entry s k).kept then x else 0) (sym (clean_source (entry s k).image pic s.swap t.swap block block k j ((h.each k w).clean y)))))
  ];
}

-- a segment in memory gets blocks for its bytes, and no image
pub reserved_touches : (s : Shelf) (m : Blocks) (key : ℕ) (e : Entry) → IsShelf s → OnlyOf key s.swap m → Touches s (record s { swap = m; entries = set s.entries key (Some e) }) key
reserved_touches s m key e h only = record {
  memory = refl;
  size = refl;
  places_most = refl;
  swap_most = only.most;
  marks = refl;
  count = length-set s.entries key (Some e);
  made = omega arith;
  slot = λ k n. slot-set_other s.entries key k (Some e) n;
  place = λ k n. refl;
  mark = λ k n. refl;
  blocks = λ k n l. ap (λ (xs : List ℕ). length xs) (only.others k n (omega (arith, h.swap_most)));
}

pub IsShelf-reserve : (s : Shelf) (m : Blocks) (key kept : ℕ) (e : Entry) → IsShelf s → slot_at s.entries key ≡ Some e → OnlyOf key s.swap m → length (blocks_of m key) ≡ blocks_for kept → kept ≤ e.size → e.attr.clean ≡ false
    → IsSome (place_of s key) → IsShelf (record s { swap = m; entries = set s.entries key (Some (record e { kept = kept; image = None })) })
IsShelf-reserve s m key kept e h slot only enough small written there =
    let f : Entry = record e { kept = kept; image = None } in
    let t : Shelf = record s { swap = m; entries = set s.entries key (Some f) } in
    let l : key < length s.entries = within_at s.entries key (ap is_some slot) in
    let old : IsSegment s.made (Some e) (place_of s key) (mark_of s.turns.marks key).present (length (blocks_of s.swap key)) = subst (λ (o : Option Entry). IsSegment s.made o (place_of s key) (mark_of s.turns.marks key).present (length (blocks_of s.swap key))) slot (h.each key l) in
    IsShelf-touch s t key h (reserved_touches s m key f h only) l (rw (slot-set_same s.entries key (Some f) l) (record {
      placed = old.placed;
      clock = old.clock;
      locked = old.locked;
      dead = λ q. absurd cc;
      live = old.live;
      young = old.young;
      sized = old.sized;
      kept = small;
      stored = λ q. enough;
      pure = λ i. absurd (let g : false ≡ true = i in cc);
      clean = λ q. absurd (let g : false ≡ true = sym written ∙ q in cc);
      gone = λ q. absurd (never_gone e (place_of s key) there (old.gone q));
    }))

-- a segment leaves the memory
pub gone_touches : (s : Shelf) (p : Layout) (u : Turns) (key : ℕ) → Changes s.places p key None → u.marks ≡ set s.turns.marks key no_mark → Touches s (record s { places = p; turns = u }) key
gone_touches s p u key c marks = record {
  memory = refl;
  size = c.size;
  places_most = c.most;
  swap_most = refl;
  marks = marks_long s.turns.marks u.marks key no_mark marks;
  count = refl;
  made = omega arith;
  slot = λ k n. refl;
  place = λ k n. place-other s.places p key k None c n;
  mark = λ k n. marks_other s.turns.marks u.marks key k no_mark marks n;
  blocks = λ k n l. refl;
}

pub IsShelf-gone : (s : Shelf) (p : Layout) (u : Turns) (key : ℕ) → IsShelf s → key < length s.entries → (entry s key).attr.lock ≡ 0 → Changes s.places p key None → u.marks ≡ set s.turns.marks key no_mark
    → IsShelf (record s { places = p; turns = u })
IsShelf-gone s p u key h l lock c marks =
    let t : Shelf = record s { places = p; turns = u } in
    let old = h.each key l in
    let out : place_of t key ≡ None = place-same s.places p key None c in
    let mark : (mark_of u.marks key).present ≡ false = marks_same s.turns.marks u.marks key no_mark marks (omega (arith, h.turns_most)) in
    IsShelf-touch s t key h (gone_touches s p u key c marks) l (rw (out, mark) (record {
      placed = λ at len q. absurd cc;
      clock = refl;
      locked = λ w. absurd (omega (arith, w, lock));
      dead = λ q. refl;
      live = old.live;
      young = old.young;
      sized = old.sized;
      kept = old.kept;
      stored = old.stored;
      pure = old.pure;
      clean = old.clean;
      gone = λ q. gone_still (entry s key) (entry s key) (place_of s key) None refl refl refl refl (old.gone q);
    }))

-- a segment in memory has the same bytes whatever its entry says
pub placed_byte : (s t : Shelf) (pic : Pictures) (a b : ℕ → List ℕ) (key j : ℕ) → t.memory ≡ s.memory → place_of t key ≡ place_of s key → IsSome (place_of s key) → byte_at t pic b key j ≡ byte_at s pic a key j
placed_byte s t pic a b key j memory place some = rw (memory, place) (go (place_of s key) some (out_byte t pic b key j) (out_byte s pic a key j))
  where
    go : (o : Option (ℕ × ℕ)) → IsSome o → (x y : ℕ) → byte_in s.memory o x j ≡ byte_in s.memory o y j
    go None i x y = absurd (let f : false ≡ true = i in cc)
    go (Some r) i x y = refl

pub keeps_reserve : (told : Bool) (pic : Pictures) (s : Shelf) (m : Blocks) (key kept : ℕ) (e : Entry) (block : ℕ → List ℕ) → IsShelf s → slot_at s.entries key ≡ Some e → OnlyOf key s.swap m → IsSome (place_of s key)
    → KeepsAll told pic s block (record s { swap = m; entries = set s.entries key (Some (record e { kept = kept; image = None })) }) block
keeps_reserve told pic s m key kept e block h slot only placed =
    let f : Entry = record e { kept = kept; image = None } in
    let t : Shelf = record s { swap = m; entries = set s.entries key (Some f) } in
    let l = within_at s.entries key (ap is_some slot) in
    keeps_key told pic s t block block key h (record {
      touches = reserved_touches s m key f h only;
      memory = refl;
      made = refl;
      blocks = λ k n w. only.others k n (omega (arith, h.swap_most));
      contents = λ w k i n x y. refl;
    }) (rw (slot, slot-set_same s.entries key (Some f) l) (record { live = refl; age = refl; size = refl; attr = refl; image = λ p e. absurd cc })) (λ w j x. placed_byte s t pic block block key j refl refl placed)

pub clean_reserve : (pic : Pictures) (s : Shelf) (m : Blocks) (key kept : ℕ) (e : Entry) → IsShelf s → slot_at s.entries key ≡ Some e → OnlyOf key s.swap m → e.attr.clean ≡ false → AreClean s pic
    → AreClean (record s { swap = m; entries = set s.entries key (Some (record e { kept = kept; image = None })) }) pic
clean_reserve pic s m key kept e h slot only written c =
    let f : Entry = record e { kept = kept; image = None } in
    let t : Shelf = record s { swap = m; entries = set s.entries key (Some f) } in
    let l = within_at s.entries key (ap is_some slot) in
    clean_keeps s t pic key h c (reserved_touches s m key f h only) refl
    (λ at len clean place. (let q : e.attr.clean ≡ true = sym (ap (λ (o : Option Entry). (entry_or o).attr.clean) (slot-set_same s.entries key (Some f) l)) ∙ clean in let g : false ≡ true = sym written ∙ q in cc))

-- blocks of the others aren't the number's
other_blocks : (s : Shelf) (key k i : ℕ) → NoneTwice s.swap → k ≢ key → i < length (blocks_of s.swap k) → IsOther s.swap key (get_or (blocks_of s.swap k) i 0)
other_blocks s key k i once n l x m e = n (once k key i x l m (sym e)).0

-- the number's blocks are written while it is in memory
pub keeps_device : (told : Bool) (pic : Pictures) (s : Shelf) (key : ℕ) (a b : ℕ → List ℕ) → IsShelf s → NoneTwice s.swap → IsSome (place_of s key)
    → (IsTrue told → (x : ℕ) → IsOther s.swap key x → b x ≡ a x) → KeepsAll told pic s a s b
keeps_device told pic s key a b h once placed others =
    keeps_key told pic s s a b key h (record {
      touches = record { memory = refl; size = refl; places_most = refl; swap_most = refl; marks = refl; count = refl; made = omega arith; slot = λ k n. refl; place = λ k n. refl; mark = λ k n. refl; blocks = λ k n l. refl };
      memory = refl;
      made = refl;
      blocks = λ k n l. refl;
      contents = λ w k i n l m. others w (get_or (blocks_of s.swap k) i 0) (other_blocks s key k i once n m);
    }) (same_entry (slot_at s.entries key)) (λ w j l. placed_byte s s pic a b key j refl refl placed)

-- a segment leaves the memory whose bytes it has elsewhere
pub keeps_gone : (told : Bool) (pic : Pictures) (s : Shelf) (p : Layout) (u : Turns) (key : ℕ) (block : ℕ → List ℕ) → IsShelf s → Changes s.places p key None → u.marks ≡ set s.turns.marks key no_mark
    → IsSome (place_of s key) → IsSaved told pic s block key → KeepsAll told pic s block (record s { places = p; turns = u }) block
keeps_gone told pic s p u key block h c marks placed saved =
    let t : Shelf = record s { places = p; turns = u } in
    keeps_key told pic s t block block key h (record {
      touches = gone_touches s p u key c marks;
      memory = refl;
      made = refl;
      blocks = λ k n l. refl;
      contents = λ w k i n l m. refl;
    }) (same_entry (slot_at s.entries key)) (λ w j l. rw (place-same s.places p key None c) (go (place_of s key) refl placed w j l))
  where
    go : (o : Option (ℕ × ℕ)) → place_of s key ≡ o → IsSome o → IsTrue told → (j : ℕ) → j < (entry s key).size → out_byte s pic block key j ≡ byte_in s.memory o (out_byte s pic block key j) j
    go None e i w j l = absurd (let f : false ≡ true = i in cc)
    go (Some r) e i w j l = saved w r.0 r.1 j e l

pub clean_gone : (pic : Pictures) (s : Shelf) (p : Layout) (u : Turns) (key : ℕ) → IsShelf s → Changes s.places p key None → u.marks ≡ set s.turns.marks key no_mark → AreClean s pic → AreClean (record s { places = p; turns = u }) pic
clean_gone pic s p u key h c marks a =
    let t : Shelf = record s { places = p; turns = u } in
    clean_keeps s t pic key h a (gone_touches s p u key c marks) refl (λ at len clean place. none_is_none place (place-same s.places p key None c))

pub gone_tables : (s : Shelf) (p : Layout) (u : Turns) (key : ℕ) → Changes s.places p key None → SameTables s (record s { places = p; turns = u })
gone_tables s p u key c = record { same = λ k. same_entry (slot_at s.entries k); count = refl; made = refl; size = c.size }

pub same_at : (a l b m : ℕ) → ◌≡◌ {A = Option (ℕ × ℕ)} (Some (a, l)) (Some (b, m)) → a ≡ b
same_at a l b m e = ap (λ (o : Option (ℕ × ℕ)). (unwrap_or o (0, 0)).0) e

-- where a segment is saved at the one place that it has
pub saved_there : (told : Bool) (pic : Pictures) (s : Shelf) (block : ℕ → List ℕ) (key at n : ℕ) → place_of s key ≡ Some (at, n)
    → (IsTrue told → (j : ℕ) → j < (entry s key).size → out_byte s pic block key j ≡ get_or s.memory (at + j) 0) → IsSaved told pic s block key
saved_there told pic s block key at n e saved w to len j q l =
    let same : at ≡ to = same_at at n to len (sym e ∙ q) in
    saved w j l ∙ ap (λ (x : ℕ). get_or s.memory (x + j) 0) same

-- the clock alone changes, and presence stays
pub IsShelf-unmarked : (s : Shelf) (u : Turns) → IsShelf s → OnlyUnmarks s.turns.marks u.marks → IsShelf (record s { turns = u })
IsShelf-unmarked s u h o = record {
  memory = h.memory;
  small = h.small;
  few = h.few;
  places_most = h.places_most;
  swap_most = h.swap_most;
  turns_most = o.size ∙ h.turns_most;
  numbered = h.numbered;
  each = λ k l. rw (o.present k) (h.each k l);
}

pub keeps_unmarked : (told : Bool) (pic : Pictures) (s : Shelf) (u : Turns) (a : ℕ → List ℕ) → KeepsAll told pic s a (record s { turns = u }) a
keeps_unmarked told pic s u a = record { bytes = λ w k j l. refl; tables = record { same = λ k. same_entry (slot_at s.entries k); count = refl; made = refl; size = refl } }

-- who is present in the clock
pub present_yes : (s : Shelf) (k : ℕ) → IsShelf s → (mark_of s.turns.marks k).present ≡ true → (k < length s.entries) × IsSome (place_of s k) × ((entry s k).attr.lock ≡ 0)
present_yes s k h p = elim (cases_lt k (length s.entries)) [
  | inl l ↦
      (let b : (is_some (place_of s k) && eqb (entry s k).attr.lock 0) ≡ true = sym (h.each k l).clock ∙ p in
      (l, first (is_some (place_of s k)) (eqb (entry s k).attr.lock 0) b, (let q = second (is_some (place_of s k)) (eqb (entry s k).attr.lock 0) b in grind (arith, nat_tests))))
  | inr past ↦ absurd (let g : mark_of s.turns.marks k ≡ no_mark = get_or_past s.turns.marks k no_mark (omega (arith, h.turns_most, past)) in let f : false ≡ true = sym (ap (λ (x : Mark). x.present) g) ∙ p in cc)
]
  where
    first : (a b : Bool) → (a && b) ≡ true → a ≡ true
    first true b e = refl
    first false b e = e

    second : (a b : Bool) → (a && b) ≡ true → b ≡ true
    second true b e = e
    second false b e = absurd (let f : false ≡ true = e in cc)

pub present_is : (s : Shelf) (k : ℕ) → IsShelf s → IsSome (place_of s k) → (entry s k).attr.lock ≡ 0 → (k < length s.entries) → (mark_of s.turns.marks k).present ≡ true
present_is s k h i z l =
    let t : eqb (entry s k).attr.lock 0 ≡ true = grind (arith, nat_tests) in
    let j : is_some (place_of s k) ≡ true = i in
    (h.each k l).clock ∙ rw (j, t) refl

pub placed_below : (s : Shelf) (k : ℕ) → IsShelf s → IsSome (place_of s k) → k < length s.entries
placed_below s k h i = go (place_of s k) refl i
  where
    go : (o : Option (ℕ × ℕ)) → place_of s k ≡ o → IsSome o → k < length s.entries
    go None e i = absurd (let f : false ≡ true = i in cc)
    go (Some r) e i = h.numbered k r.0 r.1 e

pub clean_unmarked : (s : Shelf) (u : Turns) (pic : Pictures) → AreClean s pic → AreClean (record s { turns = u }) pic
clean_unmarked s u pic c = record { bytes = c.bytes }

-- the numbers of a call are no part of what is kept
pub keys_keep : (told : Bool) (pic : Pictures) (s t u : Shelf) (a b : ℕ → List ℕ) → t ≡ record s { keys = t.keys } → KeepsAll told pic t a u b → KeepsAll told pic s a u b
keys_keep told pic s t u a b e q =
    let r : KeepsAll told pic (record s { keys = t.keys }) a u b = subst (λ (x : Shelf). KeepsAll told pic x a u b) e q in
    record { bytes = r.bytes; tables = record { same = r.tables.same; count = r.tables.count; made = r.tables.made; size = r.tables.size } }

pub keys_clean : (pic : Pictures) (s t : Shelf) → t ≡ record s { keys = t.keys } → AreClean s pic → AreClean t pic
keys_clean pic s t e c =
    let r : AreClean (record s { keys = t.keys }) pic = record { bytes = c.bytes } in
    subst (λ (x : Shelf). AreClean x pic) (sym e) r

-- locked segments stay in memory
pub locked_stay : (s t : Shelf) → IsShelf t → SameTables s t → (k : ℕ) → 0 < (entry s k).attr.lock → IsSome (place_of t k)
locked_stay s t h q k l =
    let e : (entry t k).attr.lock ≡ (entry s k).attr.lock = ap (λ (x : Attr). x.lock) (q.same k).attr in
    locked_at t k h (omega (arith, e, l))

-- clean segments stay as they are where another one is discarded
pub clean_discarded : (pic : Pictures) (s : Shelf) (p : Layout) (u : Turns) (m : Blocks) (key : ℕ) (e : Entry) → IsShelf s → slot_at s.entries key ≡ Some e → IsDiscardable e.attr → Changes s.places p key None
    → u.marks ≡ set s.turns.marks key no_mark → OnlyOf key s.swap m → AreClean s pic → AreClean (record s { places = p; turns = u; swap = m; entries = set s.entries key (Some (discarded_entry e)) }) pic
clean_discarded pic s p u m key e h slot kind c marks only a =
    let f = discarded_entry e in
    let t : Shelf = record s { places = p; turns = u; swap = m; entries = set s.entries key (Some f) } in
    let l = within_at s.entries key (ap is_some slot) in
    clean_keeps s t pic key h a (touched s p u m key (Some f) None h c (marks_long s.turns.marks u.marks key no_mark marks) (λ k n. marks_other s.turns.marks u.marks key k no_mark marks n) only) refl
    (λ at len clean place. none_is_none place (place-same s.places p key None c))
