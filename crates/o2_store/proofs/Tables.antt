-- What keeps a store one where one number changes.
use Rattle.std.proofs.Common.{◌≡◌, ◌≢◌, inl, inr, ℕ, zero, suc, ◌+◌, ◌-◌, ◌*◌, ◌/◌, ◌%◌, ◌<◌, ◌≤◌, ◌^◌, List, [], length, get_or, set, Option, Some, None, is_some}
use Rattle.std.proofs.Common.{IsSome, Bool, true, false, eqb, ltb, ◌&&◌, refl, sym, ap, ◌∙◌, subst, arith, take, replicate, if◌then◌else◌}
use Rattle.std.proofs.lemmas.Bool.{cases_lt, cases_eq}
use Rattle.std.proofs.lemmas.Bool.Decides.{nat_tests}
use Rattle.std.proofs.lemmas.List.{get_or-set_other, get_or-set_same, length-set, get_or_past, get_or-replicate, length-replicate}
use Rattle.o2_entries.specs.declared.Entry.{Entry}
use Rattle.o2_entries.specs.declared.Attr.{Attr}
use Rattle.o2_entries.specs.Tables.{slot_at}
use Rattle.o2_place.specs.declared.clock.Mark.{Mark}
use Rattle.o2_place.specs.Layout.{Layout, find_in, Changes, over}
use Rattle.o2_place.specs.Marks.{Turns, mark_of, no_mark}
use Rattle.o2_place.proofs.Sums.{over-same, over-zero}
use Rattle.o2_swapmap.specs.Piles.{Blocks, blocks_of, OnlyOf}
use Rattle.o2_store.specs.Shelf.{Shelf, IsShelf, IsSegment, IsGone, IsDiscardable, Discards, discarded_entry, IsSegmentAt, entry, entry_or, place_of, rounded, locked_need, all_locked, aged, FollowsLock, Pictures, byte_at, byte_in, source_byte, Removes}

pub none_is_none : {o : Option (ℕ × ℕ)} {at len : ℕ} → o ≡ Some (at, len) → o ≡ None → ⊥
none_is_none a b = cc (a, b)

-- by cases on one number
pub by_key : (P : ℕ → Type 0) (key : ℕ) → P key → ((k : ℕ) → k ≢ key → P k) → (k : ℕ) → P k
by_key P key here there k = elim (cases_eq k key) [ inl e ↦ subst P (sym e) here | inr n ↦ there k n ]

-- past the numbers there is nothing
pub slot-past : (es : List (Option Entry)) (k : ℕ) → length es ≤ k → slot_at es k ≡ None
slot-past es k l = get_or_past es k None l

-- what a change at one number leaves of the others
pub record Touches (s t : Shelf) (key : ℕ) : Type 0 where
  pub memory : length t.memory ≡ length s.memory
  pub size : t.places.size ≡ s.places.size
  pub places_most : t.places.most ≡ s.places.most
  pub swap_most : t.swap.most ≡ s.swap.most
  pub marks : length t.turns.marks ≡ length s.turns.marks
  pub count : length t.entries ≡ length s.entries
  pub made : s.made ≤ t.made
  pub slot : (k : ℕ) → k ≢ key → slot_at t.entries k ≡ slot_at s.entries k
  pub place : (k : ℕ) → k ≢ key → place_of t k ≡ place_of s k
  pub mark : (k : ℕ) → k ≢ key → (mark_of t.turns.marks k).present ≡ (mark_of s.turns.marks k).present
  pub blocks : (k : ℕ) → k ≢ key → k < length s.entries → length (blocks_of t.swap k) ≡ length (blocks_of s.swap k)

-- another number were made, above its age
pub with_made : (m n : ℕ) (o : Option Entry) (p : Option (ℕ × ℕ)) (b : Bool) (blocks : ℕ) → (IsSome o → (entry_or o).age < n) → IsSegment m o p b blocks → IsSegment n o p b blocks
with_made m n o p b blocks young h = record {
  placed = h.placed;
  clock = h.clock;
  locked = h.locked;
  dead = h.dead;
  live = h.live;
  young = young;
  sized = h.sized;
  kept = h.kept;
  stored = h.stored;
  pure = h.pure;
  clean = h.clean;
  gone = h.gone;
}

-- later ones were made
older : (m n : ℕ) (o : Option Entry) (p : Option (ℕ × ℕ)) (b : Bool) (blocks : ℕ) → m ≤ n → IsSegment m o p b blocks → IsSegment n o p b blocks
older m n o p b blocks l h = with_made m n o p b blocks (λ i. (let y = h.young i in omega (arith, y, l))) h

pub IsShelf-touch : (s t : Shelf) (key : ℕ) → IsShelf s → Touches s t key → key < length s.entries → IsSegmentAt t key → IsShelf t
IsShelf-touch s t key h c l here = record {
  memory = c.size ∙ h.memory ∙ sym c.memory;
  small = omega (arith, h.small, c.memory);
  few = omega (arith, h.few, c.count);
  places_most = c.places_most ∙ h.places_most ∙ sym c.count;
  swap_most = c.swap_most ∙ h.swap_most ∙ sym c.count;
  turns_most = c.marks ∙ h.turns_most ∙ sym c.count;
  numbered = λ k at len e. elim (cases_eq k key) [
    | inl same ↦ omega (arith, same, l, c.count)
    | inr n ↦ (let w = h.numbered k at len (sym (c.place k n) ∙ e) in omega (arith, w, c.count))
  ];
  each = λ k m. elim (cases_eq k key) [
    | inl same ↦ subst (IsSegmentAt t) (sym same) here
    | inr n ↦
        (let w : k < length s.entries = omega (arith, m, c.count) in
        rw (c.slot k n, c.place k n, c.mark k n, c.blocks k n w) (older s.made t.made (slot_at s.entries k) (place_of s k) (mark_of s.turns.marks k).present (length (blocks_of s.swap k)) c.made (h.each k w)))
  ];
}

-- what a range says of a segment
pub placed_at : (s : Shelf) (k at len : ℕ) → IsShelf s → place_of s k ≡ Some (at, len) → (k < length s.entries) × (len ≡ rounded (entry s k).size)
placed_at s k at len h e = let l = h.numbered k at len e in (l, (h.each k l).placed at len e)

-- sizes, also past the numbers
pub sized_at : (s : Shelf) (k : ℕ) → IsShelf s → (entry s k).size ≤ 65536
sized_at s k h = elim (cases_lt k (length s.entries)) [ inl l ↦ (h.each k l).sized | inr past ↦ rw (slot-past s.entries k past) (omega arith) ]

pub kept_at : (s : Shelf) (k : ℕ) → IsShelf s → (entry s k).kept ≤ (entry s k).size
kept_at s k h = elim (cases_lt k (length s.entries)) [ inl l ↦ (h.each k l).kept | inr past ↦ rw (slot-past s.entries k past) (omega arith) ]

pub locked_at : (s : Shelf) (k : ℕ) → IsShelf s → 0 < (entry s k).attr.lock → IsSome (place_of s k)
locked_at s k h l = elim (cases_lt k (length s.entries)) [
  | inl w ↦ (h.each k w).locked l
  | inr past ↦ absurd (let e : (entry s k).attr.lock ≡ 0 = ap (λ (o : Option Entry). (entry_or o).attr.lock) (slot-past s.entries k past) in omega (arith, e, l))
]

-- a number that has a segment
pub within_at : (es : List (Option Entry)) (k : ℕ) → IsSome (slot_at es k) → k < length es
within_at es k i = elim (cases_lt k (length es)) [
  | inl w ↦ w
  | inr past ↦ absurd (let e : is_some (slot_at es k) ≡ false = ap is_some (slot-past es k past) in let f : true ≡ false = sym i ∙ e in cc)
]

pub slot-set_same : (es : List (Option Entry)) (key : ℕ) (o : Option Entry) → key < length es → slot_at (set es key o) key ≡ o
slot-set_same es key o l = get_or-set_same es key o None l

pub slot-set_other : (es : List (Option Entry)) (key k : ℕ) (o : Option Entry) → k ≢ key → slot_at (set es key o) k ≡ slot_at es k
slot-set_other es key k o n = get_or-set_other es key k o None n

pub place-same : (p q : Layout) (key : ℕ) (o : Option (ℕ × ℕ)) → Changes p q key o → find_in q.ranges key ≡ o
place-same p q key o c = c.at key ∙ (let e : eqb key key ≡ true = grind (arith, nat_tests) in rw e refl)

pub place-other : (p q : Layout) (key k : ℕ) (o : Option (ℕ × ℕ)) → Changes p q key o → k ≢ key → find_in q.ranges k ≡ find_in p.ranges k
place-other p q key k o c n = c.at k ∙ (let e : eqb k key ≡ false = grind (arith, nat_tests) in rw e refl)

-- a sum where one summand changes
pub over-change : (f g : ℕ → ℕ) (key n : ℕ) → ((k : ℕ) → k ≢ key → g k ≡ f k) → key < n → over g n + f key ≡ over f n + g key
over-change f g key zero same l = absurd (omega arith)
over-change f g key (suc n) same l = elim (cases_eq n key) [
  | inl e ↦ (let a : over g n ≡ over f n = over-same g f n (λ k m. same k (omega arith)) in let b : f key ≡ f n = ap f (sym e) in let c : g key ≡ g n = ap g (sym e) in omega (arith, a, b, c))
  | inr d ↦ (let a = over-change f g key n same (omega arith) in let b : g n ≡ f n = same n d in omega (arith, a, b))
]

-- what the locked take, where one entry changes
pub locked-set : (es : List (Option Entry)) (key : ℕ) (o : Option Entry) → key < length es → all_locked (set es key o) + locked_need es key ≡ all_locked es + locked_need (set es key o) key
locked-set es key o l =
    let n = length-set es key o in
    rw n (over-change (locked_need es) (locked_need (set es key o)) key (length es) (λ k d. rw (slot-set_other es key k o d) refl) l)

-- none of no segments is locked
pub none_locked : (es : List (Option Entry)) (n : ℕ) → es ≡ replicate n None → 0 ≡ all_locked es
none_locked es n e =
    let none : (k : ℕ) → slot_at es k ≡ None = λ k. rw e (get_or-replicate_same n k) in
    let z : over (locked_need es) (length es) ≡ over (λ k. 0) (length es) = over-same (locked_need es) (λ k. 0) (length es) (λ k l. ap (λ (o : Option Entry). if ltb 0 (entry_or o).attr.lock then rounded (entry_or o).size else 0) (none k)) in
    sym (z ∙ over-zero (length es))
  where
    get_or-replicate_same : (n i : ℕ) → get_or (replicate n (let o : Option Entry = None in o)) i None ≡ None
    get_or-replicate_same zero i = refl
    get_or-replicate_same (suc n) zero = refl
    get_or-replicate_same (suc n) (suc i) = get_or-replicate_same n i

-- a number without anything
pub empty_segment : (made : ℕ) → IsSegment made None None false 0
empty_segment made = record {
  placed = λ at len e. absurd cc;
  clock = refl;
  locked = λ l. absurd (omega (arith, l));
  dead = λ e. refl;
  live = λ i. absurd (let f : false ≡ true = i in cc);
  young = λ i. absurd (let f : false ≡ true = i in cc);
  sized = omega arith;
  kept = omega arith;
  stored = λ e. refl;
  pure = λ i. refl;
  clean = λ e. absurd (let f : false ≡ true = e in cc);
  gone = λ e. absurd (let f : false ≡ true = e in cc);
}

-- a store without segments
pub fresh_shelf : (s : Shelf) (memory segments : ℕ) → s.memory ≡ replicate memory 0 → s.places ≡ record { ranges = []; size = memory; most = segments } → s.turns.marks ≡ replicate segments no_mark
    → ((k : ℕ) → k < segments → blocks_of s.swap k ≡ []) → s.swap.most ≡ segments → s.entries ≡ replicate segments None → memory ≤ 2 ^ 24 → segments < 2 ^ 32 - 1 → IsShelf s
fresh_shelf s memory segments m p t b w e small few =
    let n : length s.entries ≡ segments = ap length e ∙ length-replicate {A = Option Entry} segments None in
    let long : length s.memory ≡ memory = ap length m ∙ length-replicate {A = ℕ} memory 0 in
    let none : (k : ℕ) → place_of s k ≡ None = λ k. ap (λ (x : Layout). find_in x.ranges k) p in
    record {
      memory = ap (λ (x : Layout). x.size) p ∙ sym long;
      small = omega (arith, long, small);
      few = omega (arith, n, few);
      places_most = ap (λ (x : Layout). x.most) p ∙ sym n;
      swap_most = w ∙ sym n;
      turns_most = ap length t ∙ length-replicate {A = Mark} segments no_mark ∙ sym n;
      numbered = λ k at len q. absurd (none_is_none q (none k));
      each = λ k l.
          (let l' : k < segments = omega (arith, l, n) in
          let slot : slot_at s.entries k ≡ None = ap (λ (es : List (Option Entry)). slot_at es k) e ∙ get_or-replicate segments k None None l' in
          let mark : (mark_of s.turns.marks k).present ≡ false = ap (λ (ms : List Mark). (mark_of ms k).present) t ∙ ap (λ (x : Mark). x.present) (get_or-replicate segments k no_mark no_mark l') in
          let none_of : length (blocks_of s.swap k) ≡ 0 = ap (λ (xs : List ℕ). length xs) (b k l') in
          rw (slot, none k, mark, none_of) (empty_segment s.made));
    }

-- a segment that isn't stale is the number's
pub aged_is : (age : ℕ) (o : Option Entry) (e : Entry) → aged age o ≡ Some e → o ≡ Some e
aged_is age None e q = absurd cc
aged_is age (Some f) e q = elim (cases_eq f.age age) [
  | inl same ↦ (let t : eqb f.age age ≡ true = grind (arith, nat_tests) in rw t at q)
  | inr other ↦ (let t : eqb f.age age ≡ false = grind (arith, nat_tests) in let n : (let o : Option Entry = None in o) ≡ Some e = rw t at q in absurd cc)
]

-- one of the summands
pub le_over : (f : ℕ → ℕ) (key n : ℕ) → key < n → f key ≤ over f n
le_over f key zero l = absurd (omega arith)
le_over f key (suc n) l = elim (cases_eq n key) [
  | inl e ↦ (let a : f key ≡ f n = ap f (sym e) in omega (arith, a))
  | inr d ↦ (let a = le_over f key n (omega arith) in omega (arith, a))
]

pub over_small : (f : ℕ → ℕ) (b n : ℕ) → ((k : ℕ) → f k ≤ b) → over f n ≤ b * n
over_small f b zero h = omega arith
over_small f b (suc n) h = let a = over_small f b n h in let c = h n in let d : b * suc n ≡ b * n + b = omega arith in omega (arith, a, c, d)

-- what a segment takes, rounded up
pub rounded_small : (n : ℕ) → n ≤ 65536 → rounded n ≤ 65536
rounded_small n l = omega arith

pub need_small : (es : List (Option Entry)) (k : ℕ) → (entry_or (slot_at es k)).size ≤ 65536 → locked_need es k ≤ 65536
need_small es k l = elim (cases_lt 0 (entry_or (slot_at es k)).attr.lock) [
  | inl w ↦ (let t : ltb 0 (entry_or (slot_at es k)).attr.lock ≡ true = grind (arith, nat_tests) in rw t (rounded_small (entry_or (slot_at es k)).size l))
  | inr w ↦ (let t : ltb 0 (entry_or (slot_at es k)).attr.lock ≡ false = grind (arith, nat_tests) in rw t (omega arith))
]

pub all_small : (s : Shelf) → IsShelf s → all_locked s.entries ≤ 65536 * length s.entries
all_small s h = over_small (locked_need s.entries) 65536 (length s.entries) (λ k. need_small s.entries k (sized_at s k h))

-- what a segment takes for sure
pub need_is : (es : List (Option Entry)) (key : ℕ) (e : Entry) (n : ℕ) → slot_at es key ≡ Some e → n ≡ (if ltb 0 e.attr.lock then rounded e.size else 0) → n ≡ locked_need es key
need_is es key e n q w = w ∙ sym (ap (λ (o : Option Entry). if ltb 0 (entry_or o).attr.lock then rounded (entry_or o).size else 0) q)

-- the sum after a change at one number
pub relocked : (es : List (Option Entry)) (key : ℕ) (o : Option Entry) (sum part part2 : ℕ) → key < length es → sum ≡ all_locked es → part ≡ locked_need es key
    → part2 ≡ locked_need (set es key o) key → (part ≤ sum) × (sum - part + part2 ≡ all_locked (set es key o))
relocked es key o sum part part2 l e p q =
    let a = locked-set es key o l in
    let b = le_over (locked_need es) key (length es) l in
    (omega (arith, b, e, p), omega (arith, a, b, e, p, q))

-- a new segment
pub IsShelf-add : (s : Shelf) (key : ℕ) (e : Entry) → IsShelf s → key < length s.entries → slot_at s.entries key ≡ None → e.age ≡ s.made → 0 < e.size → e.size ≤ 65536 → e.kept ≤ e.size
    → (e.image ≡ None → e.kept ≡ 0) → e.attr.lock ≡ 0 → (e.attr.clean ≡ true → IsSome e.image) → e.attr.gone ≡ false
    → IsShelf (record s { entries = set s.entries key (Some e); made = s.made + 1 })
IsShelf-add s key e h l vacant age some small kept sourced lock clean whole =
    let t : Shelf = record s { entries = set s.entries key (Some e); made = s.made + 1 } in
    let old : IsSegment s.made None (place_of s key) (mark_of s.turns.marks key).present (length (blocks_of s.swap key)) = subst (λ (o : Option Entry). IsSegment s.made o (place_of s key) (mark_of s.turns.marks key).present (length (blocks_of s.swap key))) vacant (h.each key l) in
    let out : place_of s key ≡ None = old.dead refl in
    let mark : (mark_of s.turns.marks key).present ≡ false = old.clock ∙ ap (λ (o : Option (ℕ × ℕ)). is_some o && true) out in
    let none : length (blocks_of s.swap key) ≡ 0 = old.stored refl in
    let here : slot_at t.entries key ≡ Some e = slot-set_same s.entries key (Some e) l in
    IsShelf-touch s t key h (record {
      memory = refl;
      size = refl;
      places_most = refl;
      swap_most = refl;
      marks = refl;
      count = length-set s.entries key (Some e);
      made = omega arith;
      slot = λ k n. slot-set_other s.entries key k (Some e) n;
      place = λ k n. refl;
      mark = λ k n. refl;
      blocks = λ k n m. refl;
    }) l (rw (here, out, mark, none) (record {
      placed = λ at len q. absurd cc;
      clock = refl;
      locked = λ w. absurd (omega (arith, w, lock));
      dead = λ q. refl;
      live = λ i. some;
      young = λ i. omega (arith, age);
      sized = small;
      kept = kept;
      stored = λ q. (let z = sourced q in omega (arith, z));
      pure = λ i. refl;
      clean = clean;
      gone = λ q. absurd (let f : false ≡ true = sym whole ∙ q in cc);
    }))

-- the frame of a change at one number, by the parts that change
pub touched : (s : Shelf) (p : Layout) (u : Turns) (m : Blocks) (key : ℕ) (o : Option Entry) (place : Option (ℕ × ℕ)) → IsShelf s → Changes s.places p key place → length u.marks ≡ length s.turns.marks
    → ((k : ℕ) → k ≢ key → (mark_of u.marks k).present ≡ (mark_of s.turns.marks k).present) → OnlyOf key s.swap m → Touches s (record s { places = p; turns = u; swap = m; entries = set s.entries key o }) key
touched s p u m key o place h c long marks only = record {
  memory = refl;
  size = c.size;
  places_most = c.most;
  swap_most = only.most;
  marks = long;
  count = length-set s.entries key o;
  made = omega arith;
  slot = λ k n. slot-set_other s.entries key k o n;
  place = λ k n. place-other s.places p key k place c n;
  mark = marks;
  blocks = λ k n l. ap (λ (xs : List ℕ). length xs) (only.others k n (omega (arith, h.swap_most)));
}

-- marks but one
pub marks_other : (ms ns : List Mark) (key k : ℕ) (x : Mark) → ns ≡ set ms key x → k ≢ key → (mark_of ns k).present ≡ (mark_of ms k).present
marks_other ms ns key k x e n = ap (λ (y : Mark). y.present) (ap (λ (l : List Mark). mark_of l k) e ∙ get_or-set_other ms key k x no_mark n)

pub marks_same : (ms ns : List Mark) (key : ℕ) (x : Mark) → ns ≡ set ms key x → key < length ms → (mark_of ns key).present ≡ x.present
marks_same ms ns key x e l = ap (λ (y : Mark). y.present) (ap (λ (z : List Mark). mark_of z key) e ∙ get_or-set_same ms key x no_mark l)

pub marks_long : (ms ns : List Mark) (key : ℕ) (x : Mark) → ns ≡ set ms key x → length ns ≡ length ms
marks_long ms ns key x e = ap (λ (l : List Mark). length l) e ∙ length-set ms key x

-- a segment is removed
pub IsShelf-remove : (s : Shelf) (p : Layout) (u : Turns) (m : Blocks) (key : ℕ) → IsShelf s → key < length s.entries → Changes s.places p key None → u.marks ≡ set s.turns.marks key no_mark
    → OnlyOf key s.swap m → blocks_of m key ≡ take 0 (blocks_of s.swap key) → IsShelf (record s { places = p; turns = u; swap = m; entries = set s.entries key None })
IsShelf-remove s p u m key h l c marks only gone =
    let t : Shelf = record s { places = p; turns = u; swap = m; entries = set s.entries key None } in
    let out : place_of t key ≡ None = place-same s.places p key None c in
    let mark : (mark_of u.marks key).present ≡ false = marks_same s.turns.marks u.marks key no_mark marks (omega (arith, h.turns_most)) in
    let none : length (blocks_of m key) ≡ 0 = ap (λ (xs : List ℕ). length xs) gone in
    let here : slot_at t.entries key ≡ None = slot-set_same s.entries key None l in
    IsShelf-touch s t key h (touched s p u m key None None h c (marks_long s.turns.marks u.marks key no_mark marks) (λ k n. marks_other s.turns.marks u.marks key k no_mark marks n) only) l
    (rw (here, out, mark, none) (empty_segment s.made))

-- attributes are set
pub IsShelf-attr : (s : Shelf) (u : Turns) (key : ℕ) (e : Entry) (a : Attr) → IsShelf s → key < length s.entries → slot_at s.entries key ≡ Some e → length u.marks ≡ length s.turns.marks
    → ((k : ℕ) → k ≢ key → (mark_of u.marks k).present ≡ (mark_of s.turns.marks k).present) → FollowsLock (mark_of s.turns.marks key).present (mark_of u.marks key).present e.attr.lock a.lock
    → (0 < a.lock → IsSome (place_of s key)) → a.clean ≡ e.attr.clean → a.gone ≡ false → IsShelf (record s { turns = u; entries = set s.entries key (Some (record e { attr = a })) })
IsShelf-attr s u key e a h l slot long marks follows lock clean whole =
    let f : Entry = record e { attr = a } in
    let t : Shelf = record s { turns = u; entries = set s.entries key (Some f) } in
    let old : IsSegment s.made (Some e) (place_of s key) (mark_of s.turns.marks key).present (length (blocks_of s.swap key)) = subst (λ (o : Option Entry). IsSegment s.made o (place_of s key) (mark_of s.turns.marks key).present (length (blocks_of s.swap key))) slot (h.each key l) in
    let here : slot_at t.entries key ≡ Some f = slot-set_same s.entries key (Some f) l in
    IsShelf-touch s t key h (record {
      memory = refl;
      size = refl;
      places_most = refl;
      swap_most = refl;
      marks = long;
      count = length-set s.entries key (Some f);
      made = omega arith;
      slot = λ k n. slot-set_other s.entries key k (Some f) n;
      place = λ k n. refl;
      mark = marks;
      blocks = λ k n m. refl;
    }) l (rw here (record {
      placed = old.placed;
      clock = follows (is_some (place_of s key)) old.clock old.locked;
      locked = lock;
      dead = λ q. absurd cc;
      live = old.live;
      young = old.young;
      sized = old.sized;
      kept = old.kept;
      stored = old.stored;
      pure = old.pure;
      clean = λ q. old.clean (sym clean ∙ q);
      gone = λ q. absurd (let f : false ≡ true = sym whole ∙ q in cc);
    }))

-- attributes are no bytes
pub attr_byte : (s : Shelf) (u : Turns) (key : ℕ) (e : Entry) (a : Attr) → key < length s.entries → slot_at s.entries key ≡ Some e → (pic : Pictures) (block : ℕ → List ℕ) (k j : ℕ)
    → byte_at (record s { turns = u; entries = set s.entries key (Some (record e { attr = a })) }) pic block k j ≡ byte_at s pic block k j
attr_byte s u key e a l slot pic block k j =
    let f : Entry = record e { attr = a } in
    elim (cases_eq k key) [
      | inl same ↦ subst (λ (x : ℕ). byte_at (record s { turns = u; entries = set s.entries key (Some f) }) pic block x j ≡ byte_at s pic block x j) (sym same) (rw (slot-set_same s.entries key (Some f) l, slot) refl)
      | inr n ↦ rw (slot-set_other s.entries key k (Some f) n) refl
    ]

-- the source of a byte, where an owner's blocks are the same, with the same contents
pub source_same : (o : Option (ℕ × ℕ)) (pic : Pictures) (m n : Blocks) (a b : ℕ → List ℕ) (k j : ℕ) → blocks_of n k ≡ blocks_of m k
    → ((i : ℕ) → b (get_or (blocks_of m k) i 0) ≡ a (get_or (blocks_of m k) i 0)) → source_byte o pic n b k j ≡ source_byte o pic m a k j
source_same None pic m n a b k j e same = ap (λ (xs : List ℕ). get_or (b (get_or xs (j / 512) 0)) (j % 512) 0) e ∙ ap (λ (xs : List ℕ). get_or xs (j % 512) 0) (same (j / 512))
source_same (Some p) pic m n a b k j e same = refl

-- bytes of a number that keeps its entry, its place and its blocks
pub byte_same : (s t : Shelf) (pic : Pictures) (a b : ℕ → List ℕ) (k j : ℕ) → t.memory ≡ s.memory → slot_at t.entries k ≡ slot_at s.entries k → place_of t k ≡ place_of s k → blocks_of t.swap k ≡ blocks_of s.swap k
    → ((i : ℕ) → b (get_or (blocks_of s.swap k) i 0) ≡ a (get_or (blocks_of s.swap k) i 0)) → byte_at t pic b k j ≡ byte_at s pic a k j
byte_same s t pic a b k j memory slot place blocks same =
    let d = source_same (entry s k).image pic s.swap t.swap a b k j blocks same in
    rw (memory, slot, place) (ap (λ (x : ℕ). byte_in s.memory (place_of s k) (if ltb j (entry s k).kept then x else 0) j) d)

-- a number past the last has no bytes but zeros
pub byte_past : (s t : Shelf) (pic : Pictures) (a b : ℕ → List ℕ) (k j : ℕ) → t.memory ≡ s.memory → slot_at s.entries k ≡ None → slot_at t.entries k ≡ None → place_of t k ≡ place_of s k → byte_at t pic b k j ≡ byte_at s pic a k j
byte_past s t pic a b k j memory none none' place =
    let z : ltb j 0 ≡ false = grind (arith, nat_tests) in
    rw (memory, place, none, none', z) refl

-- bytes of the others, where a segment goes or loses what it has
pub removed_byte : (s : Shelf) (p : Layout) (u : Turns) (m : Blocks) (key : ℕ) (o : Option Entry) → IsShelf s → Changes s.places p key None → OnlyOf key s.swap m → (pic : Pictures) (block : ℕ → List ℕ) (k j : ℕ) → k ≢ key
    → byte_at (record s { places = p; turns = u; swap = m; entries = set s.entries key o }) pic block k j ≡ byte_at s pic block k j
removed_byte s p u m key o h c only pic block k j n =
    let t : Shelf = record s { places = p; turns = u; swap = m; entries = set s.entries key o } in
    let slot = slot-set_other s.entries key k o n in
    elim (cases_lt k (length s.entries)) [
      | inl l ↦ byte_same s t pic block block k j refl slot (place-other s.places p key k None c n) (only.others k n (omega (arith, h.swap_most))) (λ i. refl)
      | inr past ↦ byte_past s t pic block block k j refl (slot-past s.entries k past) (slot ∙ slot-past s.entries k past) (place-other s.places p key k None c n)
    ]

pub removes_is : (s : Shelf) (p : Layout) (u : Turns) (m : Blocks) (key : ℕ) → IsShelf s → Changes s.places p key None → OnlyOf key s.swap m → blocks_of m key ≡ take 0 (blocks_of s.swap key)
    → Removes s (record s { places = p; turns = u; swap = m; entries = set s.entries key None }) key
removes_is s p u m key h c only gone = record {
  shelf = refl;
  out = place-same s.places p key None c;
  blocks = gone;
  entries = λ k n. slot-set_other s.entries key k None n;
  places = λ k n. place-other s.places p key k None c n;
  bytes = λ pic block k j n. removed_byte s p u m key None h c only pic block k j n;
}

-- Discarding.

-- a segment that goes on having no place, no image and no kept bytes stays discarded
pub gone_still : (e f : Entry) (p r : Option (ℕ × ℕ)) → r ≡ None → f.image ≡ e.image → f.kept ≡ e.kept → f.attr ≡ e.attr → IsGone e p → IsGone f r
gone_still e f p r out image kept attr g = record {
  out = out;
  image = image ∙ g.image;
  kept = kept ∙ g.kept;
  kind = subst IsDiscardable (sym attr) g.kind;
}

-- a segment in memory isn't discarded
pub never_gone : (e : Entry) (p : Option (ℕ × ℕ)) → IsSome p → IsGone e p → ⊥
never_gone e p there g = (let f : is_some p ≡ false = ap is_some g.out in let h : true ≡ false = sym there ∙ f in cc)

-- what a discarded segment takes for sure is nothing, before and after
pub same_locked : (es : List (Option Entry)) (key : ℕ) (e : Entry) → slot_at es key ≡ Some e → e.attr.lock ≡ 0 → all_locked (set es key (Some (discarded_entry e))) ≡ all_locked es
same_locked es key e slot lock =
    let l = within_at es key (ap is_some slot) in
    let a = locked-set es key (Some (discarded_entry e)) l in
    let before : locked_need es key ≡ 0 = ap (λ (o : Option Entry). if ltb 0 (entry_or o).attr.lock then rounded (entry_or o).size else 0) slot ∙ none e.size e.attr.lock lock in
    let after : locked_need (set es key (Some (discarded_entry e))) key ≡ 0 =
    ap (λ (o : Option Entry). if ltb 0 (entry_or o).attr.lock then rounded (entry_or o).size else 0) (slot-set_same es key (Some (discarded_entry e)) l) ∙ none e.size e.attr.lock lock in
    omega (arith, a, before, after)
  where
    none : (size lock : ℕ) → lock ≡ 0 → (if ltb 0 lock then rounded size else 0) ≡ 0
    none size lock z = ap (λ (x : ℕ). if ltb 0 x then rounded size else 0) z

pub IsShelf-discard : (s : Shelf) (p : Layout) (u : Turns) (m : Blocks) (key : ℕ) (e : Entry) → IsShelf s → slot_at s.entries key ≡ Some e → IsDiscardable e.attr → Changes s.places p key None
    → u.marks ≡ set s.turns.marks key no_mark → OnlyOf key s.swap m → blocks_of m key ≡ take 0 (blocks_of s.swap key)
    → IsShelf (record s { places = p; turns = u; swap = m; entries = set s.entries key (Some (discarded_entry e)) })
IsShelf-discard s p u m key e h slot kind c marks only none_left =
    let f = discarded_entry e in
    let t : Shelf = record s { places = p; turns = u; swap = m; entries = set s.entries key (Some f) } in
    let l = within_at s.entries key (ap is_some slot) in
    let old : IsSegment s.made (Some e) (place_of s key) (mark_of s.turns.marks key).present (length (blocks_of s.swap key)) = subst (λ (o : Option Entry). IsSegment s.made o (place_of s key) (mark_of s.turns.marks key).present (length (blocks_of s.swap key))) slot (h.each key l) in
    let out : place_of t key ≡ None = place-same s.places p key None c in
    let mark : (mark_of u.marks key).present ≡ false = marks_same s.turns.marks u.marks key no_mark marks (omega (arith, h.turns_most)) in
    let none : length (blocks_of m key) ≡ 0 = ap (λ (xs : List ℕ). length xs) none_left in
    let here : slot_at t.entries key ≡ Some f = slot-set_same s.entries key (Some f) l in
    IsShelf-touch s t key h (touched s p u m key (Some f) None h c (marks_long s.turns.marks u.marks key no_mark marks) (λ k n. marks_other s.turns.marks u.marks key k no_mark marks n) only) l
    (rw (here, out, mark, none) (record {
      placed = λ at len q. absurd cc;
      clock = refl;
      locked = λ w. (let z = kind.unlocked in absurd (omega (arith, w, z)));
      dead = λ q. refl;
      live = old.live;
      young = old.young;
      sized = old.sized;
      kept = omega arith;
      stored = λ q. refl;
      pure = λ i. refl;
      clean = λ q. absurd (let f : false ≡ true = sym kind.written ∙ q in cc);
      gone = λ q. record { out = refl; image = refl; kept = refl; kind = record { flag = kind.flag; written = kind.written; unlocked = kind.unlocked } };
    }))

pub discards_is : (s : Shelf) (p : Layout) (u : Turns) (m : Blocks) (key : ℕ) (e : Entry) → IsShelf s → slot_at s.entries key ≡ Some e → Changes s.places p key None → OnlyOf key s.swap m
    → blocks_of m key ≡ take 0 (blocks_of s.swap key) → Discards s (record s { places = p; turns = u; swap = m; entries = set s.entries key (Some (discarded_entry e)) }) key
discards_is s p u m key e h slot c only none_left =
    let l = within_at s.entries key (ap is_some slot) in
    let out : find_in p.ranges key ≡ None = place-same s.places p key None c in
    let here = slot-set_same s.entries key (Some (discarded_entry e)) l in
    record {
      shelf = ap (λ (o : Option Entry). record s { places = p; turns = u; swap = m; entries = set s.entries key (Some (discarded_entry (entry_or o))) }) (sym slot);
      out = out;
      blocks = none_left;
      zeros = λ pic block j. (let z : ltb j 0 ≡ false = grind (arith, nat_tests) in rw (out, here, z) refl);
      entries = λ k n. slot-set_other s.entries key k (Some (discarded_entry e)) n;
      places = λ k n. place-other s.places p key k None c n;
      bytes = λ pic block k j n. removed_byte s p u m key (Some (discarded_entry e)) h c only pic block k j n;
    }
