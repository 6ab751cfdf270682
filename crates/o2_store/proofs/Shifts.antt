-- Segments that move, and those that come in.
use Rattle.std.proofs.Common.{◌≡◌, ◌≢◌, ◌⊎◌, inl, inr, ℕ, ◌+◌, ◌/◌, ◌%◌, ◌<◌, ◌≤◌, List, [], length, get_or, set, Option, Some, None, is_some, IsSome, option_map, Bool}
use Rattle.std.proofs.Common.{true, false, eqb, ltb, ◌&&◌, IsTrue, refl, sym, ap, ◌∙◌, subst, arith, unwrap_or, if◌then◌else◌}
use Rattle.std.proofs.lemmas.Bool.{cases_lt, cases_eq}
use Rattle.std.proofs.lemmas.Bool.Decides.{nat_tests}
use Rattle.o2_entries.specs.declared.Entry.{Entry}
use Rattle.o2_entries.specs.Tables.{slot_at}
use Rattle.o2_phys.specs.Bytes.{part}
use Rattle.o2_phys.proofs.Parts.{length-part, get-part}
use Rattle.o2_place.specs.declared.clock.Mark.{Mark}
use Rattle.o2_place.specs.Layout.{Layout, find_in, Changes}
use Rattle.o2_place.specs.Marks.{Turns, mark_of}
use Rattle.o2_compact.specs.Parts.{KeepsParts}
use Rattle.o2_swapmap.specs.Piles.{Blocks, blocks_of}
use Rattle.o2_store.specs.Shelf.{Shelf, IsShelf, entry, place_of, rounded, Pictures, byte_in, out_byte, source_byte, KeepsAll, AreClean, IsMoved, base_of}
use Rattle.o2_store.proofs.Tables.{Touches, IsShelf-touch, place-same, place-other, marks_other, marks_same, marks_long, placed_at, none_is_none, gone_still}
use Rattle.o2_store.proofs.Keeping.{same_entry, keeps_trans, same_at}

-- a range that has moved
pub moved_part : (old new : List ℕ) (a l : ℕ) (o : Option (ℕ × ℕ)) → option_map (λ (r : ℕ × ℕ). part new r.0 r.1) o ≡ Some (part old a l) → ((x y : ℕ) → o ≡ Some (x, y) → x + y ≤ length new) → a + l ≤ length old
    → (to : ℕ) × (o ≡ Some (to, l)) × ((j : ℕ) → j < l → get_or new (to + j) 0 ≡ get_or old (a + j) 0)
moved_part old new a l None e w b = cc
moved_part old new a l (Some r) e w b =
    let parts : part new r.0 r.1 ≡ part old a l = ap (λ (x : Option (List ℕ)). unwrap_or x []) e in
    let lr : length (part new r.0 r.1) ≡ r.1 = length-part new r.0 r.1 (w r.0 r.1 refl) in
    let lo : length (part old a l) ≡ l = length-part old a l b in
    let same : r.1 ≡ l = sym lr ∙ ap length parts ∙ lo in
    (r.0, ap (λ (n : ℕ). Some (r.0, n)) same, λ j q. sym (get-part new r.0 r.1 j (omega arith)) ∙ ap (λ (xs : List ℕ). get_or xs j 0) parts ∙ get-part old a l j q)

pub moved_none : (old new : List ℕ) (o : Option (ℕ × ℕ)) → option_map (λ (r : ℕ × ℕ). part new r.0 r.1) o ≡ None → o ≡ None
moved_none old new None e = refl
moved_none old new (Some r) e = cc

pub moved_is : (s : Shelf) (m : List ℕ) (p : Layout) → IsShelf s → KeepsParts s.memory s.places m p
    → ((k at len : ℕ) → place_of s k ≡ Some (at, len) → at + len ≤ s.places.size)
    → ((k at len : ℕ) → find_in p.ranges k ≡ Some (at, len) → at + len ≤ p.size) → IsMoved s (record s { memory = m; places = p })
moved_is s m p h q w v = record {
  shelf = refl;
  none = λ k e. moved_none s.memory m (find_in p.ranges k) (q.parts k ∙ ap (option_map (λ (r : ℕ × ℕ). part s.memory r.0 r.1)) e);
  some = λ k at len e. moved_part s.memory m at len (find_in p.ranges k) (q.parts k ∙ ap (option_map (λ (r : ℕ × ℕ). part s.memory r.0 r.1)) e) (λ x y f. let b = v k x y f in omega (arith, b, q.size, q.whole, h.memory)) (let b = w k at len e in omega (arith, b, h.memory));
  size = q.size;
  load = q.load;
}

presence_by : (s t : Shelf) (k : ℕ) → IsMoved s t → (o : Option (ℕ × ℕ)) → place_of s k ≡ o → is_some (place_of t k) ≡ is_some o
presence_by s t k q None e = ap is_some (q.none k e)
presence_by s t k q (Some r) e = ap is_some (q.some k r.0 r.1 e).1

pub same_presence : (s t : Shelf) (k : ℕ) → IsMoved s t → is_some (place_of t k) ≡ is_some (place_of s k)
same_presence s t k q = presence_by s t k q (place_of s k) refl

-- where a moved segment was
pub moved_from : (s t : Shelf) (k at len : ℕ) → IsMoved s t → place_of t k ≡ Some (at, len) → (o : Option (ℕ × ℕ)) → place_of s k ≡ o
    → (x : ℕ) × (place_of s k ≡ Some (x, len)) × ((j : ℕ) → j < len → get_or t.memory (at + j) 0 ≡ get_or s.memory (x + j) 0)
moved_from s t k at len q e None f = absurd (none_is_none e (q.none k f))
moved_from s t k at len q e (Some r) f =
    let g = q.some k r.0 r.1 f in
    let same : r.1 ≡ len = ap (λ (o : Option (ℕ × ℕ)). (unwrap_or o (0, 0)).1) (sym g.1 ∙ e) in
    let there : g.0 ≡ at = same_at g.0 r.1 at len (sym g.1 ∙ e) in
    (r.0, f ∙ ap (λ (n : ℕ). Some (r.0, n)) same, λ j l. ap (λ (x : ℕ). get_or t.memory (x + j) 0) (sym there) ∙ g.2 j (omega (arith, same, l)))

pub IsShelf-moved : (s : Shelf) (m : List ℕ) (p : Layout) → IsShelf s → IsMoved s (record s { memory = m; places = p }) → length m ≡ length s.memory → p.most ≡ s.places.most → IsShelf (record s { memory = m; places = p })
IsShelf-moved s m p h q whole most =
    let t : Shelf = record s { memory = m; places = p } in
    record {
      memory = q.size ∙ h.memory ∙ sym whole;
      small = rw whole h.small;
      few = h.few;
      places_most = most ∙ h.places_most;
      swap_most = h.swap_most;
      turns_most = h.turns_most;
      numbered = λ k at len e. (let g = moved_from s t k at len q e (place_of s k) refl in h.numbered k g.0 len g.1);
      each = λ k l. (let old = h.each k l in record {
        placed = λ at len e. (let g = moved_from s t k at len q e (place_of s k) refl in old.placed g.0 len g.1);
        clock = old.clock ∙ ap (λ (b : Bool). b && (eqb (entry s k).attr.lock 0)) (sym (same_presence s t k q));
        locked = λ w. same_presence s t k q ∙ old.locked w;
        dead = λ e. q.none k (old.dead e);
        live = old.live;
        young = old.young;
        sized = old.sized;
        kept = old.kept;
        stored = old.stored;
        pure = old.pure;
        clean = old.clean;
        gone = λ e. (let g = old.gone e in gone_still (entry s k) (entry s k) (place_of s k) (place_of t k) (q.none k g.out) refl refl refl g);
      });
    }

-- segments that move keep their bytes
moved_byte : (s t : Shelf) (k j out : ℕ) → IsShelf s → IsMoved s t → j < (entry s k).size → (o : Option (ℕ × ℕ)) → place_of s k ≡ o → byte_in t.memory (place_of t k) out j ≡ byte_in s.memory o out j
moved_byte s t k j out h q l None e = rw (q.none k e) refl
moved_byte s t k j out h q l (Some r) e =
    let g = q.some k r.0 r.1 e in
    let p = (placed_at s k r.0 r.1 h e).1 in
    rw g.1 (g.2 j (omega (arith, p, l)))

pub keeps_moved : (told : Bool) (pic : Pictures) (s t : Shelf) (b : ℕ → List ℕ) → IsShelf s → IsMoved s t → KeepsAll told pic s b t b
keeps_moved told pic s t b h q =
    let r : KeepsAll told pic s b (record s { memory = t.memory; places = t.places }) b = record {
      bytes = λ w k j l. moved_byte s t k j (out_byte s pic b k j) h q l (place_of s k) refl;
      tables = record { same = λ k. same_entry (slot_at s.entries k); count = refl; made = refl; size = q.size };
    } in
    subst (λ (x : Shelf). KeepsAll told pic s b x b) (sym q.shelf) r

pub clean_moved : (pic : Pictures) (s t : Shelf) → IsShelf s → IsMoved s t → AreClean s pic → AreClean t pic
clean_moved pic s t h q c =
    let go : AreClean (record s { memory = t.memory; places = t.places }) pic = record {
      bytes = λ k at len j clean place l block.
          (let g = moved_from s t k at len q place (place_of s k) refl in
          let p = (placed_at s k g.0 len h g.1).1 in
          g.2 j (omega (arith, p, l)) ∙ c.bytes k g.0 len j clean g.1 l block);
    } in
    subst (λ (x : Shelf). AreClean x pic) (sym q.shelf) go

-- the source of a byte, where all blocks have the same contents
source_told : (o : Option (ℕ × ℕ)) (pic : Pictures) (m : Blocks) (a b : ℕ → List ℕ) (k j : ℕ) → ((x : ℕ) → b x ≡ a x) → source_byte o pic m b k j ≡ source_byte o pic m a k j
source_told None pic m a b k j same = ap (λ (xs : List ℕ). get_or xs (j % 512) 0) (same (get_or (blocks_of m k) (j / 512) 0))
source_told (Some p) pic m a b k j same = refl

pub out_told : (s : Shelf) (pic : Pictures) (a b : ℕ → List ℕ) (k j : ℕ) → ((x : ℕ) → b x ≡ a x) → out_byte s pic b k j ≡ out_byte s pic a k j
out_told s pic a b k j same = ap (λ (x : ℕ). if ltb j (entry s k).kept then x else 0) (source_told (entry s k).image pic s.swap a b k j same)

-- bytes outside the ranges may change
filled_byte : (s : Shelf) (m : List ℕ) (at n k j x y : ℕ) → IsShelf s → ((i : ℕ) → (i < at) ⊎ (at + n ≤ i) → get_or m i 0 ≡ get_or s.memory i 0)
    → ((k x y : ℕ) → place_of s k ≡ Some (x, y) → (at + rounded n ≤ x) ⊎ (x + y ≤ at)) → x ≡ y → j < (entry s k).size → (o : Option (ℕ × ℕ)) → place_of s k ≡ o
    → byte_in m o x j ≡ byte_in s.memory o y j
filled_byte s m at n k j x y h out apart same l None e = same
filled_byte s m at n k j x y h out apart same l (Some r) e =
    let p = (placed_at s k r.0 r.1 h e).1 in
    out (r.0 + j) (elim (apart k r.0 r.1 e) [ inl w ↦ inr (omega arith) | inr w ↦ inl (omega (arith, p, l)) ])

pub keeps_fill : (told : Bool) (pic : Pictures) (s : Shelf) (m : List ℕ) (at n : ℕ) (a b : ℕ → List ℕ) → IsShelf s → ((i : ℕ) → (i < at) ⊎ (at + n ≤ i) → get_or m i 0 ≡ get_or s.memory i 0)
    → ((k x y : ℕ) → place_of s k ≡ Some (x, y) → (at + rounded n ≤ x) ⊎ (x + y ≤ at)) → (IsTrue told → (x : ℕ) → b x ≡ a x) → KeepsAll told pic s a (record s { memory = m }) b
keeps_fill told pic s m at n a b h out apart same = record {
  bytes = λ t k j l. filled_byte s m at n k j (out_byte s pic b k j) (out_byte s pic a k j) h out apart (out_told s pic a b k j (same t)) l (place_of s k) refl;
  tables = record { same = λ k. same_entry (slot_at s.entries k); count = refl; made = refl; size = refl };
}

pub clean_fill : (pic : Pictures) (s : Shelf) (m : List ℕ) (at n : ℕ) → IsShelf s → ((i : ℕ) → (i < at) ⊎ (at + n ≤ i) → get_or m i 0 ≡ get_or s.memory i 0)
    → ((k x y : ℕ) → place_of s k ≡ Some (x, y) → (at + rounded n ≤ x) ⊎ (x + y ≤ at)) → AreClean s pic → AreClean (record s { memory = m }) pic
clean_fill pic s m at n h out apart c = record {
  bytes = λ k x y j clean place l block.
      (let p = (placed_at s k x y h place).1 in
      out (x + j) (elim (apart k x y place) [ inl w ↦ inr (omega arith) | inr w ↦ inl (omega (arith, p, l)) ]) ∙ c.bytes k x y j clean place l block);
}

-- a segment whose bytes lie at a place is there from now on
pub settled_touches : (s : Shelf) (p : Layout) (u : Turns) (key at len : ℕ) (x : Mark) → Changes s.places p key (Some (at, len)) → length u.marks ≡ length s.turns.marks
    → ((k : ℕ) → k ≢ key → (mark_of u.marks k).present ≡ (mark_of s.turns.marks k).present) → Touches s (record s { places = p; turns = u }) key
settled_touches s p u key at len x c long marks = record {
  memory = refl;
  size = c.size;
  places_most = c.most;
  swap_most = refl;
  marks = long;
  count = refl;
  made = omega arith;
  slot = λ k n. refl;
  place = λ k n. place-other s.places p key k (Some (at, len)) c n;
  mark = marks;
  blocks = λ k n l. refl;
}

-- a segment that isn't in memory yet has no lock
pub unlocked_out : (s : Shelf) (key : ℕ) → IsShelf s → key < length s.entries → place_of s key ≡ None → (entry s key).attr.lock ≡ 0
unlocked_out s key h l none = elim (cases_lt 0 (entry s key).attr.lock) [
  | inl w ↦ absurd (let i : is_some (place_of s key) ≡ true = (h.each key l).locked w in let f : is_some (place_of s key) ≡ false = ap is_some none in let g : true ≡ false = sym i ∙ f in cc)
  | inr w ↦ omega (arith, w)
]

pub IsShelf-settle : (s : Shelf) (p : Layout) (u : Turns) (key at : ℕ) (x : Mark) → IsShelf s → key < length s.entries → IsSome (slot_at s.entries key) → place_of s key ≡ None → Changes s.places p key (Some (at, rounded (entry s key).size))
    → u.marks ≡ set s.turns.marks key x → x.present ≡ true → (entry s key).attr.gone ≡ false → IsShelf (record s { places = p; turns = u })
IsShelf-settle s p u key at x h l live none c marks there whole =
    let t : Shelf = record s { places = p; turns = u } in
    let old = h.each key l in
    let here : place_of t key ≡ Some (at, rounded (entry s key).size) = place-same s.places p key (Some (at, rounded (entry s key).size)) c in
    let mark : (mark_of u.marks key).present ≡ true = marks_same s.turns.marks u.marks key x marks (omega (arith, h.turns_most)) ∙ there in
    let free = unlocked_out s key h l none in
    let zero_lock : eqb (entry s key).attr.lock 0 ≡ true = grind (arith, nat_tests) in
    IsShelf-touch s t key h (settled_touches s p u key at (rounded (entry s key).size) x c (marks_long s.turns.marks u.marks key x marks) (λ k n. marks_other s.turns.marks u.marks key k x marks n)) l (rw (here, mark) (record {
      placed = λ a n q. sym (ap (λ (o : Option (ℕ × ℕ)). (unwrap_or o (0, 0)).1) q);
      clock = sym zero_lock;
      locked = λ w. refl;
      dead = λ q. absurd (let f : is_some (slot_at s.entries key) ≡ false = ap is_some q in let g : true ≡ false = sym live ∙ f in cc);
      live = old.live;
      young = old.young;
      sized = old.sized;
      kept = old.kept;
      stored = old.stored;
      pure = old.pure;
      clean = old.clean;
      gone = λ q. absurd (let f : false ≡ true = sym whole ∙ q in cc);
    }))

clean_any : (o : Option (ℕ × ℕ)) (pic : Pictures) (m : Blocks) (a b : ℕ → List ℕ) (k j : ℕ) → IsSome o → source_byte o pic m b k j ≡ source_byte o pic m a k j
clean_any None pic m a b k j i = absurd (let f : false ≡ true = i in cc)
clean_any (Some p) pic m a b k j i = refl

-- others stay in memory where one comes in
pub others_in : (s t u v : Shelf) (key at len : ℕ) → IsMoved s t → u ≡ record t { memory = u.memory } → Changes u.places v.places key (Some (at, len)) → (k : ℕ) → IsSome (place_of s k) → IsSome (place_of v k)
others_in s t u v key at len q e c k i = elim (cases_eq k key) [
  | inl same ↦ ap is_some (subst (λ (x : ℕ). find_in v.places.ranges x ≡ Some (at, len)) (sym same) (place-same u.places v.places key (Some (at, len)) c))
  | inr n ↦ ap is_some (place-other u.places v.places key k (Some (at, len)) c n) ∙ ap (λ (x : Shelf). is_some (place_of x k)) e ∙ same_presence s t k q ∙ i
]

pub others_moved : (s t u : Shelf) → IsMoved s t → u ≡ record t { memory = u.memory } → (k : ℕ) → IsSome (place_of s k) → IsSome (place_of u k)
others_moved s t u q e k i = ap (λ (x : Shelf). is_some (place_of x k)) e ∙ same_presence s t k q ∙ i

pub keeps_filled : (told : Bool) (pic : Pictures) (s t u : Shelf) (key at len : ℕ) (a b : ℕ → List ℕ) → IsShelf s → IsShelf t → IsMoved s t → len ≡ rounded (entry s key).size → u ≡ record t { memory = u.memory }
    → ((i : ℕ) → (i < at) ⊎ (at + (entry t key).size ≤ i) → get_or u.memory i 0 ≡ get_or t.memory i 0)
    → ((k x y : ℕ) → place_of t k ≡ Some (x, y) → (at + len ≤ x) ⊎ (x + y ≤ at)) → (IsTrue told → (x : ℕ) → b x ≡ a x) → KeepsAll told pic s a u b
keeps_filled told pic s t u key at len a b h g q size shelf out apart same =
    let e : (entry t key).size ≡ (entry s key).size = ap (λ (x : Shelf). (entry x key).size) q.shelf in
    let d : len ≡ rounded (entry t key).size = size ∙ ap rounded (sym e) in
    let first = keeps_moved told pic s t a h q in
    let second : KeepsAll told pic t a u b = subst (λ (x : Shelf). KeepsAll told pic t a x b) (sym shelf) (keeps_fill told pic t u.memory at (entry t key).size a b g out (rw d at apart) same) in
    keeps_trans told pic s t u a a b first second

pub clean_filled : (pic : Pictures) (s t u : Shelf) (key at len : ℕ) → IsShelf s → IsShelf t → IsMoved s t → len ≡ rounded (entry s key).size → u ≡ record t { memory = u.memory }
    → ((i : ℕ) → (i < at) ⊎ (at + (entry t key).size ≤ i) → get_or u.memory i 0 ≡ get_or t.memory i 0)
    → ((k x y : ℕ) → place_of t k ≡ Some (x, y) → (at + len ≤ x) ⊎ (x + y ≤ at)) → AreClean s pic → AreClean u pic
clean_filled pic s t u key at len h g q size shelf out apart c =
    let e : (entry t key).size ≡ (entry s key).size = ap (λ (x : Shelf). (entry x key).size) q.shelf in
    let d : len ≡ rounded (entry t key).size = size ∙ ap rounded (sym e) in
    subst (λ (x : Shelf). AreClean x pic) (sym shelf) (clean_fill pic t u.memory at (entry t key).size g out (rw d at apart) (clean_moved pic s t h q c))

-- what was read is the segment's bytes
pub read_there : (pic : Pictures) (t u : Shelf) (key at : ℕ) (a b : ℕ → List ℕ) → u ≡ record t { memory = u.memory }
    → ((j : ℕ) → j < (entry t key).size → get_or u.memory (at + j) 0 ≡ out_byte t pic a key j) → ((j : ℕ) → out_byte t pic b key j ≡ out_byte t pic a key j)
    → (j : ℕ) → j < (entry u key).size → get_or u.memory (at + j) 0 ≡ out_byte u pic b key j
read_there pic t u key at a b shelf read same j l =
    let e : (entry u key).size ≡ (entry t key).size = ap (λ (x : Shelf). (entry x key).size) shelf in
    read j (omega (arith, e, l)) ∙ sym (same j) ∙ sym (ap (λ (x : Shelf). out_byte x pic b key j) shelf)

pub out_pictured : (t : Shelf) (pic : Pictures) (a b : ℕ → List ℕ) (k j : ℕ) → IsSome (entry t k).image → out_byte t pic b k j ≡ out_byte t pic a k j
out_pictured t pic a b k j i = ap (λ (z : ℕ). if ltb j (entry t k).kept then z else 0) (clean_any (entry t k).image pic t.swap a b k j i)

-- where a segment in memory begins
pub base_is : (o : Option Entry) (p : Option (ℕ × ℕ)) (at : ℕ) → base_of o p ≡ Some at → (len : ℕ) × (p ≡ Some (at, len))
base_is None p at e = absurd cc
base_is (Some o) None at e = absurd cc
base_is (Some o) (Some r) at e = (r.1, ap (λ (x : ℕ). Some (x, r.1)) (ap (λ (y : Option ℕ). unwrap_or y 0) e))

-- a part of a segment in memory lies in the memory
pub put_fits : (s : Shelf) (o : Option Entry) (key at offset n : ℕ) → IsShelf s → ((k at len : ℕ) → place_of s k ≡ Some (at, len) → at + len ≤ s.places.size) → base_of o (place_of s key) ≡ Some at
    → offset + n ≤ (entry s key).size → at + offset + n ≤ length s.memory
put_fits s o key at offset n h w e l =
    let b = base_is o (place_of s key) at e in
    let f = w key at b.0 b.1 in
    let p = (placed_at s key at b.0 h b.1).1 in
    omega (arith, f, p, l, h.memory)
