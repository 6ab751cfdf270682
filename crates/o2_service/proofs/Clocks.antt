-- What the clock has learned, step by step.
use Rattle.std.proofs.Common.{◌≡◌, ◌⊎◌, inl, inr, ℕ, zero, suc, ◌+◌, ◌*◌, ◌/◌, ◌%◌, ◌<◌, ◌≤◌, List, [], length, get_or, set, Option, Some, None, is_some, IsSome, Bool}
use Rattle.std.proofs.Common.{true, false, ◌==◌, cond, not, nat_lt, refl, sym, ap, ◌∙◌, subst, arith, unwrap_or}
use Rattle.std.proofs.lemmas.Bool.{cases_eq, cases_lt, false≢true, ltb-true}
use Rattle.std.proofs.lemmas.List.{get_or_past, get_or-set_same, get_or-set_other, length-set}
use Rattle.o2_desc.specs.declared.descriptor.Descriptor.{Descriptor}
use Rattle.o2_desc.specs.Bits.{is_accessed, rights_of, with_present, unmarked}
use Rattle.o2_desc.specs.Bytes.{empty, entry}
use Rattle.o2_desc.specs.Choice.{IsChosen, IsRun, chosen}
use Rattle.o2_desc.proofs.Choices.{chosen_law}
use Rattle.o2_entries.specs.declared.Entry.{Entry}
use Rattle.o2_place.specs.declared.clock.Mark.{Mark}
use Rattle.o2_place.specs.declared.seg_id.SegId.{SegId}
use Rattle.o2_place.specs.Marks.{mark_of, no_mark}
use Rattle.o2_regions.specs.declared.held.Held.{Held}
use Rattle.o2_regions.specs.Accessed.{ClearsUse, NoneAccessed, is_used_at, segment_of, unmark_at, with_unused}
use Rattle.o2_regions.specs.Kept.{AreKept}
use Rattle.o2_regions.specs.Described.{Describes as Tells}
use Rattle.o2_regions.specs.Maps.{Maps, descriptor_of, held_at, is_of, table_of}
use Rattle.o2_segbus.specs.Settled.{IsSettled, IsSettledAt, descriptor_at}
use Rattle.o2_store.specs.Shelf.{Shelf, IsShelf, base_of, entry_of, place_of}
use Rattle.o2_store.specs.Shelf as shelf
use Rattle.o2_service.specs.Learned.{AreUnused, AreUnusedBelow, AreUnusedTo, ClearsBits, IsLoose, Learns, Touches, TouchesOne, used_mark}
use Rattle.o2_store.specs.Shelf.{AreClean, KeepsAll, Pictures}
use Rattle.o2_store.proofs.Keeping.{clean_unmarked, keeps_trans, keeps_unmarked}
use Rattle.o2_service.specs.Needs.{AreLive, AreWhole, OnlyNeededComes, Stays, all_needed}
use Rattle.o2_service.specs.Told.{IsHeldWell, OnlyTables}
use Rattle.o2_service.proofs.Amounts.{live_within}
use Rattle.o2_service.proofs.Placing.{told_held, told_here, told_other}

pub bits_refl : (m : Maps) → ClearsBits m m
bits_refl m = record { rest = refl; lengths = λ pid. refl; base = λ pid i. refl; limit = λ pid i. refl; access = λ pid i. refl; fewer = λ pid i f. f }

pub bits_trans : (m n o : Maps) → ClearsBits m n → ClearsBits n o → ClearsBits m o
bits_trans m n o p q = record {
  rest = q.rest ∙ ap (λ (z : Maps). record z { tables = o.tables }) p.rest;
  lengths = λ pid. q.lengths pid ∙ p.lengths pid;
  base = λ pid i. q.base pid i ∙ p.base pid i;
  limit = λ pid i. q.limit pid i ∙ p.limit pid i;
  access = λ pid i. q.access pid i ∙ p.access pid i;
  fewer = λ pid i f. q.fewer pid i (p.fewer pid i f);
}

bits_held : (m n : Maps) → ClearsBits m n → (pid i : ℕ) → held_at n pid i ≡ held_at m pid i
bits_held m n c pid i = ap (λ (z : Maps). held_at z pid i) c.rest

-- access bytes that are the same but for the accessed bit have the same rights
same_rights : (a b : ℕ) → unmarked a ≡ unmarked b → rights_of a ≡ rights_of b
same_rights a b e = omega arith

pub only_bits : (m n : Maps) → ClearsBits m n → OnlyTables m n
only_bits m n c = record {
  rest = c.rest;
  lengths = c.lengths;
  rights = λ pid i. same_rights (descriptor_at n pid i).access (descriptor_at m pid i).access (c.access pid i);
}

pub learns_refl : (s : Shelf) (m : Maps) → Learns s s m m
learns_refl s m = record {
  rest = refl;
  count = refl;
  bits = bits_refl m;
  used = λ pid i h e a b l. absurd (false≢true (sym b ∙ a));
  stay = λ k e. e;
  others = λ k f. refl;
}

loose_at : (s t : Shelf) (k : ℕ) → t ≡ record s { turns = t.turns } → IsLoose s k → IsLoose t k
loose_at s t k e l = subst (λ (z : Shelf). IsLoose z k) (sym e) (record { place = l.place; unlocked = l.unlocked })

pub learns_trans : (s t u : Shelf) (m n o : Maps) → Learns s t m n → Learns t u n o → Learns s u m o
learns_trans s t u m n o p q = record {
  rest = q.rest ∙ ap (λ (z : Shelf). record z { turns = u.turns }) p.rest;
  count = q.count ∙ p.count;
  bits = bits_trans m n o p.bits q.bits;
  used = λ pid i h e a b l. by_bit pid i h e a b l (is_used_at n pid i) refl;
  stay = λ k e. q.stay k (p.stay k e);
  others = λ k f. q.others k (λ pid i h e g. p.bits.fewer pid i (f pid i h (sym (bits_held m n p.bits pid i) ∙ e) g)) ∙ p.others k f;
}
  where
    by_bit : (pid i : ℕ) (h : Held) → held_at m pid i ≡ Some h → is_used_at m pid i ≡ true → is_used_at o pid i ≡ false → IsLoose s h.id.key → (b : Bool) → is_used_at n pid i ≡ b → mark_of u.turns.marks h.id.key ≡ used_mark
    by_bit pid i h e a b l false f = q.stay h.id.key (p.used pid i h e a f l)
    by_bit pid i h e a b l true f = q.used pid i h (bits_held m n p.bits pid i ∙ e) f b (loose_at s t h.id.key p.rest l)

-- One index.

-- the descriptor of an index is as it was, or its accessed bit was cleared
abbrev Cleared : Maps → ℕ → ℕ → ℕ → ℕ → Type 0
Cleared m pid i q j = (descriptor_at (with_unused m pid i) q j ≡ descriptor_at m q j) ⊎ ((q ≡ pid) × (j ≡ i) × (descriptor_at (with_unused m pid i) q j ≡ record (descriptor_at m q j) { access = unmarked (descriptor_at m q j).access }))

in_table : (t : List Descriptor) (i j : ℕ) → (get_or (unmark_at t i) j empty ≡ get_or t j empty) ⊎ ((j ≡ i) × (get_or (unmark_at t i) j empty ≡ record (get_or t j empty) { access = unmarked (get_or t j empty).access }))
in_table t i j = elim (cases_eq j i) [
  | inr n ↦ inl (get_or-set_other t i j _ empty n)
  | inl e ↦ elim (cases_lt j (length t)) [
    | inl l ↦ inr (e, subst (λ (k : ℕ). get_or (unmark_at t k) j empty ≡ record (get_or t j empty) { access = unmarked (get_or t j empty).access }) e (get_or-set_same t j _ empty l))
    | inr l ↦ inl (get_or_past (unmark_at t i) j empty (omega (arith, l, length-set t i (record (get_or t i empty) { access = unmarked (get_or t i empty).access }))) ∙ sym (get_or_past t j empty l))
  ]
]

cleared : (m : Maps) (pid i q j : ℕ) → Cleared m pid i q j
cleared m pid i q j = elim (cases_eq q pid) [
  | inr n ↦ inl (ap (λ (t : List Descriptor). get_or t j empty) (get_or-set_other m.tables pid q _ [] n))
  | inl e ↦ elim (cases_lt q (length m.tables)) [
    | inr l ↦ inl (ap (λ (t : List Descriptor). get_or t j empty) (get_or_past (set m.tables pid (unmark_at (table_of m pid) i)) q [] (omega (arith, l, length-set m.tables pid (unmark_at (table_of m pid) i))) ∙ sym (get_or_past m.tables q [] l)))
    | inl l ↦ by_table e (subst (λ (p : ℕ). table_of (with_unused m p i) q ≡ unmark_at (table_of m q) i) e (get_or-set_same m.tables q (unmark_at (table_of m q) i) [] l))
  ]
]
  where
    by_table : q ≡ pid → table_of (with_unused m pid i) q ≡ unmark_at (table_of m q) i → Cleared m pid i q j
    by_table e t = elim (in_table (table_of m q) i j) [
      | inl s ↦ inl (ap (λ (z : List Descriptor). get_or z j empty) t ∙ s)
      | inr s ↦ inr (e, s.0, ap (λ (z : List Descriptor). get_or z j empty) t ∙ s.1)
    ]

twice_unused : (a : ℕ) → unmarked (unmarked a) ≡ unmarked a
twice_unused a = omega arith

unused_clear : (a : ℕ) → is_accessed (unmarked a) ≡ false
unused_clear a = let q : unmarked a / 1 % 2 ≡ 0 = omega arith in ap (λ (n : ℕ). n == 1) q

table_length : (m : Maps) (pid i q : ℕ) → length (table_of (with_unused m pid i) q) ≡ length (table_of m q)
table_length m pid i q = elim (cases_eq q pid) [
  | inr n ↦ ap length (get_or-set_other m.tables pid q _ [] n)
  | inl e ↦ elim (cases_lt q (length m.tables)) [
    | inr l ↦ ap length (get_or_past (set m.tables pid (unmark_at (table_of m pid) i)) q [] (omega (arith, l, length-set m.tables pid (unmark_at (table_of m pid) i))) ∙ sym (get_or_past m.tables q [] l))
    | inl l ↦ subst (λ (p : ℕ). length (table_of (with_unused m p i) q) ≡ length (table_of m q)) e
        (ap length (get_or-set_same m.tables q (unmark_at (table_of m q) i) [] l) ∙ length-set (table_of m q) i _)
  ]
]

pub bits_one : (m : Maps) (pid i : ℕ) → ClearsBits m (with_unused m pid i)
bits_one m pid i = record {
  rest = refl;
  lengths = table_length m pid i;
  base = λ q j. elim (cleared m pid i q j) [ inl e ↦ ap (λ (d : Descriptor). d.base) e | inr e ↦ ap (λ (d : Descriptor). d.base) e.2 ];
  limit = λ q j. elim (cleared m pid i q j) [ inl e ↦ ap (λ (d : Descriptor). d.limit) e | inr e ↦ ap (λ (d : Descriptor). d.limit) e.2 ];
  access = λ q j. elim (cleared m pid i q j) [
    | inl e ↦ ap (λ (d : Descriptor). unmarked d.access) e
    | inr e ↦ ap (λ (d : Descriptor). unmarked d.access) e.2 ∙ twice_unused (descriptor_at m q j).access
  ];
  fewer = λ q j f. elim (cleared m pid i q j) [
    | inl e ↦ ap (λ (d : Descriptor). is_accessed d.access) e ∙ f
    | inr e ↦ ap (λ (d : Descriptor). is_accessed d.access) e.2 ∙ unused_clear (descriptor_at m q j).access
  ];
}

-- an index at which a segment is held, of which the clock is told
pub learns_one : (s t : Shelf) (m : Maps) (pid i : ℕ) (h : Held) → IsShelf s → IsSome (entry_of s h.id) → held_at m pid i ≡ Some h → is_used_at m pid i ≡ true → TouchesOne s t h.id → Learns s t m (with_unused m pid i)
learns_one s t m pid i h shelf live here was w = record {
  rest = w.rest;
  count = elim w.marks [ inl e ↦ ap length e | inr e ↦ ap length e ∙ length-set s.turns.marks h.id.key used_mark ];
  bits = bits_one m pid i;
  used = λ q j x e a b l. elim (cleared m pid i q j) [
    | inl c ↦ absurd (false≢true (sym b ∙ (ap (λ (d : Descriptor). is_accessed d.access) c ∙ a)))
    | inr c ↦ (let same : h ≡ x = one h x (sym (subst (λ (z : ℕ). held_at m pid z ≡ Some h) (sym c.1) here) ∙ subst (λ (z : ℕ). held_at m z j ≡ Some x) c.0 e) in
        let l2 : IsLoose s h.id.key = subst (λ (z : Held). IsLoose s z.id.key) (sym same) l in
        subst (λ (z : Held). mark_of t.turns.marks z.id.key ≡ used_mark) same
        (ap (λ (z : List Mark). mark_of z h.id.key) (w.loose l2) ∙ get_or-set_same s.turns.marks h.id.key used_mark no_mark within))
  ];
  stay = λ k e. elim w.marks [
    | inl f ↦ ap (λ (z : List Mark). mark_of z k) f ∙ e
    | inr f ↦ ap (λ (z : List Mark). mark_of z k) f ∙ elim (cases_eq k h.id.key) [
      | inl g ↦ ap (mark_of (set s.turns.marks h.id.key used_mark)) g ∙ get_or-set_same s.turns.marks h.id.key used_mark no_mark within
      | inr g ↦ get_or-set_other s.turns.marks h.id.key k used_mark no_mark g ∙ e
    ]
  ];
  others = λ k f. elim w.marks [
    | inl e ↦ ap (λ (z : List Mark). mark_of z k) e
    | inr e ↦ ap (λ (z : List Mark). mark_of z k) e ∙ get_or-set_other s.turns.marks h.id.key k used_mark no_mark
        (λ g. false≢true (sym (f pid i h here (sym g)) ∙ was))
  ];
}
  where
    within : h.id.key < length s.turns.marks
    within = (let l = live_within s h.id live in omega (arith, l, shelf.turns_most))

    one : (x y : Held) → ◌≡◌ {A = Option Held} (Some x) (Some y) → x ≡ y
    one x y e = ap (λ (o : Option Held). unwrap_or o x) e

-- an index at which nothing is held
pub learns_none : (s t : Shelf) (m : Maps) (pid i : ℕ) → held_at m pid i ≡ None → t ≡ s → Learns s t m (with_unused m pid i)
learns_none s t m pid i here e = subst (λ (z : Shelf). Learns s z m (with_unused m pid i)) (sym e) (record {
  rest = refl;
  count = refl;
  bits = bits_one m pid i;
  used = λ q j x f a b l. elim (cleared m pid i q j) [
    | inl c ↦ absurd (false≢true (sym b ∙ (ap (λ (d : Descriptor). is_accessed d.access) c ∙ a)))
    | inr c ↦ absurd (none_some x (sym (subst (λ (z : ℕ). held_at m pid z ≡ None) (sym c.1) here) ∙ subst (λ (z : ℕ). held_at m z j ≡ Some x) c.0 f))
  ];
  stay = λ k f. f;
  others = λ k f. refl;
})
  where
    none_some : (x : Held) → ◌≡◌ {A = Option Held} None (Some x) → ⊥
    none_some x z = cc

-- what the list says, and the clock is told
use_learned : (s t : Shelf) (m n : Maps) (o : Option SegId) → IsShelf s → IsHeldWell s m → ClearsUse m n o → Touches s t (Some o) → Learns s t m n
use_learned s t m n o shelf held c w = subst (λ (z : Maps). Learns s t m z) (sym c.now) (go o (held_at m c.pid c.index) refl c.segment w)
  where
    go : (o : Option SegId) (x : Option Held) → held_at m c.pid c.index ≡ x → segment_of x ≡ o → Touches s t (Some o) → Learns s t m (with_unused m c.pid c.index)
    go None None e q w = learns_none s t m c.pid c.index e w
    go (Some id) None e q w = absurd (let z : ◌≡◌ {A = Option SegId} None (Some id) = q in cc)
    go None (Some h) e q w = absurd (let z : ◌≡◌ {A = Option SegId} (Some h.id) None = q in cc)
    go (Some id) (Some h) e q w =
        let same : h.id ≡ id = ap (λ (z : Option SegId). unwrap_or z h.id) q in
        learns_one s t m c.pid c.index h shelf (held.live c.pid c.index h e) e c.was (subst (λ (z : SegId). TouchesOne s t z) (sym same) w)

pub said_learned : (s t : Shelf) (m n : Maps) (u : Option (Option SegId)) → IsShelf s → IsHeldWell s m → ((o : Option SegId) → u ≡ Some o → ClearsUse m n o) → (u ≡ None → n ≡ m) → Touches s t u → Learns s t m n
said_learned s t m n (Some (Some id)) shelf held c stays w = use_learned s t m n (Some id) shelf held (c (Some id) refl) w
said_learned s t m n (Some None) shelf held c stays w = use_learned s t m n None shelf held (c None refl) w
said_learned s t m n None shelf held c stays w = subst (λ (z : Maps). Learns s t m z) (sym (stays refl)) (subst (λ (z : Shelf). Learns s z m m) (sym w) (learns_refl s m))

-- the segment of a use is live
pub use_live : (s : Shelf) (m n : Maps) (id : SegId) → IsHeldWell s m → ClearsUse m n (Some id) → IsSome (entry_of s id)
use_live s m n id held c = go (held_at m c.pid c.index) refl c.segment
  where
    go : (x : Option Held) → held_at m c.pid c.index ≡ x → segment_of x ≡ Some id → IsSome (entry_of s id)
    go None e q = absurd (let z : ◌≡◌ {A = Option SegId} None (Some id) = q in cc)
    go (Some h) e q = subst (λ (z : SegId). IsSome (entry_of s z)) (ap (λ (z : Option SegId). unwrap_or z id) q) (held.live c.pid c.index h e)

-- the clock was told of a live segment
pub touched : (s t : Shelf) (id : SegId) → t ≡ record s { turns = t.turns } → (IsSome (base_of (entry_of s id) (place_of s id.key)) → (shelf.entry s id.key).attr.lock ≡ 0 → t.turns.marks ≡ set s.turns.marks id.key used_mark)
    → (base_of (entry_of s id) (place_of s id.key) ≡ None → t ≡ s) → (0 < (shelf.entry s id.key).attr.lock → t ≡ s) → IsSome (entry_of s id) → TouchesOne s t id
touched s t id rest used out locked live = record { rest = rest; marks = marks (base_of (entry_of s id) (place_of s id.key)) refl; loose = λ l. used (base (entry_of s id) (place_of s id.key) live l.place) l.unlocked }
  where
    base : (e : Option Entry) (p : Option (ℕ × ℕ)) → IsSome e → IsSome p → IsSome (base_of e p)
    base None p a b = absurd (false≢true a)
    base (Some e) None a b = absurd (false≢true b)
    base (Some e) (Some r) a b = refl

    marks : (b : Option ℕ) → base_of (entry_of s id) (place_of s id.key) ≡ b → (t.turns.marks ≡ s.turns.marks) ⊎ (t.turns.marks ≡ set s.turns.marks id.key used_mark)
    marks None e = inl (ap (λ (z : Shelf). z.turns.marks) (out e))
    marks (Some b) e = elim (cases_eq (shelf.entry s id.key).attr.lock 0) [
      | inl z ↦ inr (used (ap is_some e) z)
      | inr z ↦ inl (ap (λ (x : Shelf). x.turns.marks) (locked (omega (arith, z))))
    ]

-- What the clock has learned keeps what the rest needs.

pub held_learned : (s t : Shelf) (m n : Maps) → Learns s t m n → IsHeldWell s m → IsHeldWell t n
held_learned s t m n l h = record {
  live = λ pid i x e. subst (λ (z : Shelf). IsSome (entry_of z x.id)) (sym l.rest) (h.live pid i x (sym (bits_held m n l.bits pid i) ∙ e));
  inside = λ pid i x e. (let a = h.inside pid i x (sym (bits_held m n l.bits pid i) ∙ e) in let b = l.bits.lengths pid in omega (arith, a, b));
}

settled_bits : (s : Shelf) (o : Option Held) (d e : Descriptor) → e.base ≡ d.base → e.limit ≡ d.limit → unmarked e.access ≡ unmarked d.access → (is_accessed d.access ≡ false → is_accessed e.access ≡ false) → IsSettledAt s o d → IsSettledAt s o e
settled_bits s None d e b l a f h =
    let q : unmarked d.access ≡ 0 = ap (λ (z : Descriptor). unmarked z.access) h in
    let g : is_accessed e.access ≡ false = f (ap (λ (z : Descriptor). is_accessed z.access) h) in
    let z : e.access ≡ 0 = even_zero e.access (a ∙ q) g in
    ap (λ (x : ℕ). record { base = x; limit = e.limit; access = e.access }) (b ∙ ap (λ (z : Descriptor). z.base) h)
    ∙ (ap (λ (x : ℕ). record { base = 0; limit = x; access = e.access }) (l ∙ ap (λ (z : Descriptor). z.limit) h)
    ∙ ap (λ (x : ℕ). record { base = 0; limit = 0; access = x }) z)
  where
    even_zero : (x : ℕ) → x / 2 * 2 ≡ 0 → is_accessed x ≡ false → x ≡ 0
    even_zero zero p q = refl
    even_zero (suc zero) p q = absurd (false≢true (sym q))
    even_zero (suc (suc x)) p q = absurd (omega (arith, p))
settled_bits s (Some h) d e b l a f w = record {
  base = b ∙ w.base;
  limit = (let z = w.limit in omega (arith, l, z));
  access = a ∙ (w.access ∙ ap (λ (r : ℕ). with_it r) (rights_same d.access e.access a));
}
  where
    with_it : ℕ → ℕ
    with_it r = with_present r (is_some (place_of s h.id.key))

    rights_same : (x y : ℕ) → unmarked y ≡ unmarked x → rights_of x ≡ rights_of y
    rights_same x y q = omega arith

pub settled_learned : (s t : Shelf) (m n : Maps) → Learns s t m n → IsSettled s m → IsSettled t n
settled_learned s t m n l h pid i =
    subst (λ (z : Shelf). IsSettledAt z (held_at n pid i) (descriptor_at n pid i)) (sym l.rest)
    (subst (λ (o : Option Held). IsSettledAt (record s { turns = t.turns }) o (descriptor_at n pid i)) (sym (bits_held m n l.bits pid i))
    (settled_bits (record s { turns = t.turns }) (held_at m pid i) (descriptor_at m pid i) (descriptor_at n pid i) (l.bits.base pid i) (l.bits.limit pid i) (l.bits.access pid i) (l.bits.fewer pid i) (same (held_at m pid i) (h pid i))))
  where
    same : (o : Option Held) → IsSettledAt s o (descriptor_at m pid i) → IsSettledAt (record s { turns = t.turns }) o (descriptor_at m pid i)
    same None w = w
    same (Some x) w = record { base = w.base; limit = w.limit; access = w.access }

-- Which bits are clear.

-- what is held is held at an index of a table
held_small : (m : Maps) (pid i : ℕ) (h : Held) → held_at m pid i ≡ Some h → i < 8192
held_small m pid i h e = go (nat_lt i 8192) refl e
  where
    none_some : ◌≡◌ {A = Option Held} None (Some h) → ⊥
    none_some z = cc

    go : (b : Bool) → nat_lt i 8192 ≡ b → cond b (get_or m.held (pid * 8192 + i) None) None ≡ Some h → i < 8192
    go true f q = ltb-true i 8192 f
    go false f q = absurd (none_some q)

pub none_unused : (m : Maps) → NoneAccessed m.tables → AreUnused m
none_unused m n = record { each = λ pid i h e. at pid i (held_small m pid i h e) }
  where
    at : (pid i : ℕ) → i < 8192 → is_used_at m pid i ≡ false
    at pid i l =
        let p : (pid * 8192 + i) / 8192 ≡ pid = omega arith in
        let r : (pid * 8192 + i) % 8192 ≡ i = omega arith in
        ap (λ (k : ℕ). is_accessed (entry (table_of m k) i).access) (sym p)
        ∙ (ap (λ (k : ℕ). is_accessed (entry (table_of m ((pid * 8192 + i) / 8192)) k).access) (sym r) ∙ n.none (pid * 8192 + i))

pub unused_none : (s : Shelf) (m : Maps) → IsSettled s m → AreUnused m → NoneAccessed m.tables
unused_none s m t u = record { none = λ p. at (p / 8192) (p % 8192) (held_at m (p / 8192) (p % 8192)) refl (t (p / 8192) (p % 8192)) }
  where
    at : (pid i : ℕ) (o : Option Held) → held_at m pid i ≡ o → IsSettledAt s (held_at m pid i) (descriptor_at m pid i) → is_used_at m pid i ≡ false
    at pid i None e w = ap (λ (d : Descriptor). is_accessed d.access) (subst (λ (o : Option Held). IsSettledAt s o (descriptor_at m pid i)) e w)
    at pid i (Some h) e w = u.each pid i h e

pub stays_unused_to : (m n : Maps) (k : ℕ) → ClearsBits m n → AreUnusedTo m k → AreUnusedTo n k
stays_unused_to m n k c u = record { each = λ pid i h l e. c.fewer pid i (u.each pid i h l (sym (bits_held m n c pid i) ∙ e)) }

pub none_below : (m : Maps) (pid : ℕ) → AreUnusedBelow m pid 0
none_below m pid = record { each = λ i h l e. absurd (omega (arith, l)) }

abbrev free_at : Maps → ℕ → ℕ → Bool
free_at m pid i = not (is_some (held_at m pid i))

run_at : (m : Maps) (pid from j : ℕ) (h : Held) → from ≤ j → j < 8192 → held_at m pid j ≡ Some h → IsRun (free_at m pid) from 8192 1 j
run_at m pid from j h l w e = (l, omega arith, λ k a b. (let q : j ≡ k = omega arith in subst (λ (z : ℕ). free_at m pid z ≡ false) q (ap (λ (o : Option Held). not (is_some o)) e)))

-- the walk over what a process holds has come to the next index
pub below_next : (m n : Maps) (pid from r : ℕ) → chosen (free_at m pid) from 8192 1 ≡ Some r → AreUnusedBelow m pid from → ClearsBits m n
    → ((h : Held) → held_at m pid r ≡ Some h → is_used_at n pid r ≡ false) → AreUnusedBelow n pid (r + 1)
below_next m n pid from r e u c here = record { each = λ i h l g. at i h l (sym (bits_held m n c pid i) ∙ g) }
  where
    law : IsChosen (free_at m pid) from 8192 1 (Some r)
    law = subst (IsChosen (free_at m pid) from 8192 1) e (chosen_law (free_at m pid) from 8192 1)

    at : (i : ℕ) (h : Held) → i < r + 1 → held_at m pid i ≡ Some h → is_used_at n pid i ≡ false
    at i h l g = elim (cases_lt i from) [
      | inl before ↦ c.fewer pid i (u.each i h before g)
      | inr behind ↦ elim (cases_eq i r) [
        | inl same ↦ subst (λ (z : ℕ). is_used_at n pid z ≡ false) (sym same) (here h (subst (λ (z : ℕ). held_at m pid z ≡ Some h) same g))
        | inr other ↦ absurd (law.1 i (omega arith) (run_at m pid from i h behind (held_small m pid i h g) g))
      ]
    ]

-- there is no next index
pub below_end : (m : Maps) (pid from : ℕ) → chosen (free_at m pid) from 8192 1 ≡ None → AreUnusedBelow m pid from → AreUnusedBelow m pid 8192
below_end m pid from e u = record { each = at }
  where
    law : IsChosen (free_at m pid) from 8192 1 None
    law = subst (IsChosen (free_at m pid) from 8192 1) e (chosen_law (free_at m pid) from 8192 1)

    at : (i : ℕ) (h : Held) → i < 8192 → held_at m pid i ≡ Some h → is_used_at m pid i ≡ false
    at i h l g = elim (cases_lt i from) [
      | inl before ↦ u.each i h before g
      | inr behind ↦ absurd (law i (run_at m pid from i h behind l g))
    ]

pub below_far : (m : Maps) (pid from : ℕ) → 8192 ≤ from → AreUnusedBelow m pid from → AreUnusedBelow m pid 8192
below_far m pid from l u = record { each = λ i h w e. u.each i h (omega arith) e }

-- one process more
pub to_next : (m n : Maps) (k : ℕ) → ClearsBits m n → AreUnusedTo m k → AreUnusedBelow n k 8192 → AreUnusedTo n (k + 1)
to_next m n k c u below = record { each = at }
  where
    at : (pid i : ℕ) (h : Held) → pid < k + 1 → held_at n pid i ≡ Some h → is_used_at n pid i ≡ false
    at pid i h l e = elim (cases_lt pid k) [
      | inl before ↦ (stays_unused_to m n k c u).each pid i h before e
      | inr behind ↦ (let q : k ≡ pid = omega arith in
          subst (λ (z : ℕ). is_used_at n z i ≡ false) q (below.each i h (held_small n pid i h e) (subst (λ (z : ℕ). held_at n z i ≡ Some h) (sym q) e)))
    ]

-- nobody is process 0, or behind the last
pub to_first : (m : Maps) → AreKept m → AreUnusedTo m 1
to_first m k = record { each = λ pid i h l e. (let p = k.process pid i h e in absurd (omega arith)) }

-- A telling keeps accessed bits.

accessed_present : (a : ℕ) (b : Bool) → is_accessed (with_present a b) ≡ is_accessed a
accessed_present a true = let q : (a % 128 + 128) / 1 % 2 ≡ a / 1 % 2 = omega arith in ap (λ (n : ℕ). n == 1) q
accessed_present a false = let q : (a % 128 + 0) / 1 % 2 ≡ a / 1 % 2 = omega arith in ap (λ (n : ℕ). n == 1) q

pub told_unused : (s : Shelf) (m n : Maps) (id : SegId) (base : Option ℕ) (limit : ℕ) → IsHeldWell s m → Tells m n id base limit → AreUnused m → AreUnused n
told_unused s m n id base limit w t u = record { each = at }
  where
    at : (pid i : ℕ) (h : Held) → held_at n pid i ≡ Some h → is_used_at n pid i ≡ false
    at pid i h e = go (is_of id (held_at m pid i)) refl
      where
        f : held_at m pid i ≡ Some h
        f = sym (told_held m n id base limit t pid i) ∙ e

        go : (b : Bool) → is_of id (held_at m pid i) ≡ b → is_used_at n pid i ≡ false
        go false g = ap (λ (d : Descriptor). is_accessed d.access) (told_other m n id base limit t pid i g) ∙ u.each pid i h f
        go true g =
            ap (λ (d : Descriptor). is_accessed d.access) (told_here m n id base limit t pid i (w.inside pid i h f) g)
            ∙ (accessed_present (descriptor_at m pid i).access (is_some base) ∙ u.each pid i h f)

-- What the clock's marks don't matter to.

pub live_marked : (s t : Shelf) (need : List (SegId × ℕ)) → t ≡ record s { turns = t.turns } → AreLive s need → AreLive t need
live_marked s t need e l = subst (λ (z : Shelf). AreLive z need) (sym e) (record { each = l.each })

pub whole_marked : (s t : Shelf) (need : List (SegId × ℕ)) → t ≡ record s { turns = t.turns } → AreWhole s need → AreWhole t need
whole_marked s t need e w = subst (λ (z : Shelf). AreWhole z need) (sym e) (record { each = w.each })

pub needed_marked : (s t : Shelf) (need : List (SegId × ℕ)) → t ≡ record s { turns = t.turns } → all_needed s need ≤ s.places.size → all_needed t need ≤ t.places.size
needed_marked s t need e l = subst (λ (z : Shelf). all_needed z need ≤ z.places.size) (sym e) l

pub clean_marked : (s t : Shelf) (pic : Pictures) → t ≡ record s { turns = t.turns } → AreClean s pic → AreClean t pic
clean_marked s t pic e c = subst (λ (z : Shelf). AreClean z pic) (sym e) (clean_unmarked s t.turns pic c)

pub keeps_marked : (told : Bool) (pic : Pictures) (s t u : Shelf) (a b : ℕ → List ℕ) → t ≡ record s { turns = t.turns } → KeepsAll told pic t a u b → KeepsAll told pic s a u b
keeps_marked told pic s t u a b e k =
    keeps_trans told pic s t u a a b (subst (λ (z : Shelf). KeepsAll told pic s a z a) (sym e) (keeps_unmarked told pic s t.turns a)) k

pub stays_marked : (s t u : Shelf) (need : List (SegId × ℕ)) → t ≡ record s { turns = t.turns } → Stays need t u → Stays need s u
stays_marked s t u need e w = let x : Stays need (record s { turns = t.turns }) u = subst (λ (z : Shelf). Stays need z u) e w in record { each = x.each }

pub only_marked : (s t u : Shelf) (need : List (SegId × ℕ)) → t ≡ record s { turns = t.turns } → OnlyNeededComes need t u → OnlyNeededComes need s u
only_marked s t u need e w = let x : OnlyNeededComes need (record s { turns = t.turns }) u = subst (λ (z : Shelf). OnlyNeededComes need z u) e w in record { each = x.each }

pub locked_marked : (s t u : Shelf) → t ≡ record s { turns = t.turns } → ((k : ℕ) → 0 < (shelf.entry t k).attr.lock → IsSome (place_of u k)) → (k : ℕ) → 0 < (shelf.entry s k).attr.lock → IsSome (place_of u k)
locked_marked s t u e w = subst (λ (z : Shelf). (k : ℕ) → 0 < (shelf.entry z k).attr.lock → IsSome (place_of u k)) e w

-- a descriptor that was read is that of the index
pub used_read : (m : Maps) (pid i : ℕ) (h : Held) (d : Descriptor) → held_at m pid i ≡ Some h → descriptor_of (held_at m pid i) (table_of m pid) i ≡ Some d → is_accessed d.access ≡ true → is_used_at m pid i ≡ true
used_read m pid i h d here e a =
    let q : ◌≡◌ {A = Option Descriptor} (Some (entry (table_of m pid) i)) (Some d) = ap (λ (o : Option Held). descriptor_of o (table_of m pid) i) (sym here) ∙ e in
    ap (λ (o : Option Descriptor). is_accessed (unwrap_or o empty).access) q ∙ a

pub next_from : (m : Maps) (pid from r : ℕ) → chosen (free_at m pid) from 8192 1 ≡ Some r → from ≤ r
next_from m pid from r e = (subst (IsChosen (free_at m pid) from 8192 1) e (chosen_law (free_at m pid) from 8192 1)).0.0

pub next_small : (m : Maps) (pid from r : ℕ) → chosen (free_at m pid) from 8192 1 ≡ Some r → r < 8192
next_small m pid from r e = (let w = (subst (IsChosen (free_at m pid) from 8192 1) e (chosen_law (free_at m pid) from 8192 1)).0.1 in omega (arith, w))
