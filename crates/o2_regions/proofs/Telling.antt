-- Descriptors told along a list of places.
use Rattle.std.specs.List.{slice_get}
use Rattle.std.proofs.Common.{◌≡◌, ◌≢◌, ℕ, zero, suc, ◌+◌, ◌-◌, ◌*◌, ◌/◌, ◌%◌, ◌<◌, ◌≤◌, inl, inr, true, false, List, [], ◌∷◌, length, Option, None, cond, arith, refl, sym, ap, ◌∙◌, subst, get_or, set}
use Rattle.std.proofs.lemmas.Bool.{cases_eq, cases_lt, cond-true, cond-false}
use Rattle.std.proofs.lemmas.List.{get_or_past, get_or-set_same, get_or-set_other, length-set}
use Rattle.o2_desc.specs.declared.descriptor.Descriptor.{Descriptor}
use Rattle.o2_desc.specs.Bytes.{empty, entry}
use Rattle.o2_place.specs.declared.seg_id.SegId.{SegId}
use Rattle.o2_regions.specs.declared.held.Held.{Held}
use Rattle.o2_regions.specs.Described.{Describes, entry_at, entry_in, placed}
use Rattle.o2_regions.specs.Links.{IsNext, AreNext, list_of, stands_in}
use Rattle.o2_regions.specs.Maps.{Maps, is_of, place}
use Rattle.o2_regions.proofs.Keeps.{held_in, held_out}
use Rattle.o2_regions.proofs.Walks.{of_in}

-- what a descriptor at a place becomes
abbrev pub told : List (Option Held) → List (List Descriptor) → SegId → Option ℕ → ℕ → ℕ → Descriptor
told held old id base limit p = cond (is_of id (get_or held p None)) (placed base limit (entry_in old p)) (entry_in old p)

-- a walk up the list of a segment's key has come to `at`, and the descriptors of its holders before that are told
pub record IsToldTo (held : List (Option Held)) (old new : List (List Descriptor)) (id : SegId) (base : Option ℕ) (limit : ℕ) (at : ℕ) : Type 0 where
  pub here : at < length held → stands_in held (list_of id.key) at ≡ true
  pub past : length held ≤ at → at ≡ length held + list_of id.key
  pub count : length new ≡ length old
  pub lengths : (pid : ℕ) → length (get_or new pid []) ≡ length (get_or old pid [])
  pub beyond : (pid i : ℕ) → 8192 ≤ i → entry (get_or new pid []) i ≡ entry (get_or old pid []) i
  pub before : (p : ℕ) → p < at → p % 8192 < length (get_or old (p / 8192) []) → entry_in new p ≡ told held old id base limit p
  pub behind : (p : ℕ) → at ≤ p → entry_in new p ≡ entry_in old p

-- a place between two neighbours of the list doesn't hold the segment
not_of : (held : List (Option Held)) (id : SegId) (y at p : ℕ) → IsNext (stands_in held (list_of id.key)) (length held) (length held + list_of id.key) y at → y ≤ p → p < at
    → is_of id (get_or held p None) ≡ false
not_of held id y at p h a b = elim (cases_lt p (length held)) [
  | inl within ↦ of_in id (get_or held p None) (h.clear p a b within)
  | inr over ↦ ap (is_of id) (get_or_past held p None over)
]

pub told_start : (held : List (Option Held)) (next : List ℕ) (tables : List (List Descriptor)) (id : SegId) (base : Option ℕ) (limit : ℕ) (at : ℕ) → AreNext (length held) held next
    → at ≡ get_or next (length held + list_of id.key) 0 → IsToldTo held tables tables id base limit at
told_start held next tables id base limit at h e =
    let n = length held in
    let b = list_of id.key in
    let l = subst (λ (r : ℕ). IsNext (stands_in held b) n (n + b) 0 r) (sym e) (h.leads b (n + b) 0 (omega arith) (inl (refl, refl))) in
    record {
      here = λ a. (l.here a).1;
      past = l.past;
      count = refl;
      lengths = λ pid. refl;
      beyond = λ pid i l. refl;
      before = λ p low within. sym (cond-false (is_of id (get_or held p None)) (placed base limit (entry_in tables p)) (entry_in tables p) (not_of held id 0 at p l (omega arith) low));
      behind = λ p high. refl;
    }

-- the place that the list leads to from one of its places
follows : (held : List (Option Held)) (next : List ℕ) (old new : List (List Descriptor)) (id : SegId) (base : Option ℕ) (limit : ℕ) (at to : ℕ) → AreNext (length held) held next
    → IsToldTo held old new id base limit at → at < length held → to ≡ get_or next at 0 → IsNext (stands_in held (list_of id.key)) (length held) (length held + list_of id.key) (at + 1) to
follows held next old new id base limit at to h u w e =
    let n = length held in
    let b = list_of id.key in
    subst (λ (r : ℕ). IsNext (stands_in held b) n (n + b) (at + 1) r) (sym e) (h.leads b at (at + 1) (omega arith) (inr (w, u.here w, refl)))

pub told_smaller : (held : List (Option Held)) (next : List ℕ) (old new : List (List Descriptor)) (id : SegId) (base : Option ℕ) (limit : ℕ) (at to : ℕ) → AreNext (length held) held next
    → IsToldTo held old new id base limit at → at < length held → to ≡ get_or next at 0 → length held - to < length held - at
told_smaller held next old new id base limit at to h u w e =
    let l = follows held next old new id base limit at to h u w e in
    elim (cases_lt to (length held)) [
      | inl within ↦ omega (arith, (l.here within).0)
      | inr over ↦ omega arith
    ]

-- a place that doesn't hold the segment
pub told_other : (held : List (Option Held)) (next : List ℕ) (old new : List (List Descriptor)) (id : SegId) (base : Option ℕ) (limit : ℕ) (at to : ℕ) → AreNext (length held) held next
    → IsToldTo held old new id base limit at → at < length held → is_of id (get_or held at None) ≡ false → to ≡ get_or next at 0 → IsToldTo held old new id base limit to
told_other held next old new id base limit at to h u w out e =
    let l = follows held next old new id base limit at to h u w e in
    record {
      here = λ a. (l.here a).1;
      past = l.past;
      count = u.count;
      lengths = u.lengths;
      beyond = u.beyond;
      before = λ p low within. elim (cases_lt p at) [
        | inl early ↦ u.before p early within
        | inr late ↦ u.behind p late ∙ sym (cond-false (is_of id (get_or held p None)) (placed base limit (entry_in old p)) (entry_in old p) (elim (cases_eq p at) [
          | inl same ↦ subst (λ (x : ℕ). is_of id (get_or held x None) ≡ false) (sym same) out
          | inr other ↦ not_of held id (at + 1) to p l (omega arith) low
        ]))
      ];
      behind = λ p high. u.behind p (elim (cases_lt to (length held)) [ inl within ↦ omega (arith, (l.here within).0) | inr over ↦ omega arith ]);
    }

-- tables with a descriptor written at a place
abbrev pub written : List (List Descriptor) → ℕ → Descriptor → List (List Descriptor)
written tables at d = set tables (at / 8192) (set (get_or tables (at / 8192) []) (at % 8192) d)

written_lengths : (tables : List (List Descriptor)) (at : ℕ) (d : Descriptor) → at / 8192 < length tables → (pid : ℕ) → length (get_or (written tables at d) pid []) ≡ length (get_or tables pid [])
written_lengths tables at d l pid = elim (cases_eq pid (at / 8192)) [
  | inl same ↦ subst (λ (x : ℕ). length (get_or (written tables at d) x []) ≡ length (get_or tables x [])) (sym same)
      (ap length (get_or-set_same tables (at / 8192) (set (get_or tables (at / 8192) []) (at % 8192) d) [] l) ∙ length-set (get_or tables (at / 8192) []) (at % 8192) d)
  | inr other ↦ ap length (get_or-set_other tables (at / 8192) pid (set (get_or tables (at / 8192) []) (at % 8192) d) [] other)
]

written_here : (tables : List (List Descriptor)) (at : ℕ) (d : Descriptor) → at / 8192 < length tables → at % 8192 < length (get_or tables (at / 8192) []) → entry_in (written tables at d) at ≡ d
written_here tables at d l w =
    ap (λ (t : List Descriptor). entry t (at % 8192)) (get_or-set_same tables (at / 8192) (set (get_or tables (at / 8192) []) (at % 8192) d) [] l)
    ∙ get_or-set_same (get_or tables (at / 8192) []) (at % 8192) d empty w

written_other : (tables : List (List Descriptor)) (at : ℕ) (d : Descriptor) → at / 8192 < length tables → (p : ℕ) → p ≢ at → entry_in (written tables at d) p ≡ entry_in tables p
written_other tables at d l p n =
    let t = get_or tables (at / 8192) [] in
    let row = set t (at % 8192) d in
    elim (cases_eq (p / 8192) (at / 8192)) [
      | inl same ↦
          (let apart : p % 8192 ≢ at % 8192 = λ e. n (omega arith) in
          ap (λ (x : ℕ). entry (get_or (written tables at d) x []) (p % 8192)) same
          ∙ ap (λ (r : List Descriptor). entry r (p % 8192)) (get_or-set_same tables (at / 8192) row [] l)
          ∙ get_or-set_other t (at % 8192) (p % 8192) d empty apart
          ∙ ap (λ (x : ℕ). entry (get_or tables x []) (p % 8192)) (sym same))
      | inr other ↦ ap (λ (r : List Descriptor). entry r (p % 8192)) (get_or-set_other tables (at / 8192) (p / 8192) row [] other)
    ]

written_beyond : (tables : List (List Descriptor)) (at : ℕ) (d : Descriptor) → at / 8192 < length tables → (pid i : ℕ) → 8192 ≤ i → entry (get_or (written tables at d) pid []) i ≡ entry (get_or tables pid []) i
written_beyond tables at d l pid i far =
    let t = get_or tables (at / 8192) [] in
    let row = set t (at % 8192) d in
    elim (cases_eq pid (at / 8192)) [
      | inl same ↦ subst (λ (x : ℕ). entry (get_or (written tables at d) x []) i ≡ entry (get_or tables x []) i) (sym same)
          (ap (λ (r : List Descriptor). entry r i) (get_or-set_same tables (at / 8192) row [] l) ∙ get_or-set_other t (at % 8192) i d empty (λ e. omega arith))
      | inr other ↦ ap (λ (r : List Descriptor). entry r i) (get_or-set_other tables (at / 8192) pid row [] other)
    ]

-- a place that holds the segment
pub told_one : (held : List (Option Held)) (next : List ℕ) (old new : List (List Descriptor)) (id : SegId) (base : Option ℕ) (limit : ℕ) (at to : ℕ) → AreNext (length held) held next
    → length held ≡ length old * 8192 → IsToldTo held old new id base limit at → at < length held → is_of id (get_or held at None) ≡ true → to ≡ get_or next at 0
    → IsToldTo held old (written new at (placed base limit (entry_in new at))) id base limit to
told_one held next old new id base limit at to h long u w one e =
    let l = follows held next old new id base limit at to h u w e in
    let d = placed base limit (entry_in new at) in
    let row : at / 8192 < length new = omega (arith, u.count) in
    record {
      here = λ a. (l.here a).1;
      past = l.past;
      count = length-set new (at / 8192) (set (get_or new (at / 8192) []) (at % 8192) d) ∙ u.count;
      lengths = λ pid. written_lengths new at d row pid ∙ u.lengths pid;
      beyond = λ pid i l. written_beyond new at d row pid i l ∙ u.beyond pid i l;
      before = λ p low within. elim (cases_eq p at) [
        | inl same ↦
            (let inside : at % 8192 < length (get_or new (at / 8192) []) = subst (λ (x : ℕ). at % 8192 < x) (sym (u.lengths (at / 8192))) (subst (λ (x : ℕ). x % 8192 < length (get_or old (x / 8192) [])) same within) in
            subst (λ (x : ℕ). entry_in (written new at d) x ≡ told held old id base limit x) (sym same)
            (written_here new at d row inside ∙ ap (placed base limit) (u.behind at (omega arith)) ∙ sym (cond-true (is_of id (get_or held at None)) (placed base limit (entry_in old at)) (entry_in old at) one)))
        | inr other ↦ written_other new at d row p other ∙ elim (cases_lt p at) [
          | inl early ↦ u.before p early within
          | inr late ↦ u.behind p late ∙ sym (cond-false (is_of id (get_or held p None)) (placed base limit (entry_in old p)) (entry_in old p) (not_of held id (at + 1) to p l (omega arith) low))
        ]
      ];
      behind = λ p high.
          (let low : at + 1 ≤ to = elim (cases_lt to (length held)) [ inl within ↦ (l.here within).0 | inr over ↦ omega arith ] in
          written_other new at d row p (λ q. omega arith) ∙ u.behind p (omega arith));
    }

pub told_end : (held : List (Option Held)) (old new : List (List Descriptor)) (id : SegId) (base : Option ℕ) (limit : ℕ) (at : ℕ) → IsToldTo held old new id base limit at → length held ≤ at
    → (p : ℕ) → p % 8192 < length (get_or old (p / 8192) []) → entry_in new p ≡ told held old id base limit p
told_end held old new id base limit at u far p within = elim (cases_lt p at) [
  | inl early ↦ u.before p early within
  | inr late ↦ u.behind p late ∙ sym (cond-false (is_of id (get_or held p None)) (placed base limit (entry_in old p)) (entry_in old p) (ap (is_of id) (get_or_past held p None (omega arith))))
]

-- past the end of a list stands its default
pub none_past : {X : Type 0} (xs : List X) (i : ℕ) (d : X) → ◌≡◌ {A = Option X} None (slice_get xs i) → d ≡ get_or xs i d
none_past [] i d e = refl
none_past (x ∷ xs) zero d e = absurd cc
none_past (x ∷ xs) (suc i) d e = none_past xs i d e

-- what was told at each place, by process and index
pub told_maps : (m : Maps) (tables : List (List Descriptor)) (id : SegId) (base : Option ℕ) (limit : ℕ) → ((pid : ℕ) → length (get_or tables pid []) ≡ length (get_or m.tables pid []))
    → ((pid i : ℕ) → 8192 ≤ i → entry (get_or tables pid []) i ≡ entry (get_or m.tables pid []) i)
    → ((p : ℕ) → p % 8192 < length (get_or m.tables (p / 8192) []) → entry_in tables p ≡ told m.held m.tables id base limit p) → Describes m (record m { tables = tables }) id base limit
told_maps m tables id base limit lengths beyond entries = record {
  rest = refl;
  lengths = lengths;
  entries = λ pid i within. elim (cases_lt i 8192) [
    | inl small ↦
        (let p = place pid i in
        let row : p / 8192 ≡ pid = omega arith in
        let col : p % 8192 ≡ i = omega arith in
        let w : p % 8192 < length (get_or m.tables (p / 8192) []) = rw (row, col) within in
        let old : entry_in m.tables p ≡ entry_at m pid i = rw (row, col) refl in
        let new : entry_in tables p ≡ entry_at (record m { tables = tables }) pid i = rw (row, col) refl in
        sym new ∙ entries p w ∙ ap (λ (d : Descriptor). cond (is_of id (get_or m.held p None)) (placed base limit d) d) old
        ∙ ap (λ (o : Option Held). cond (is_of id o) (placed base limit (entry_at m pid i)) (entry_at m pid i)) (sym (held_in m pid i small)))
    | inr large ↦ beyond pid i large ∙ sym (ap (λ (o : Option Held). cond (is_of id o) (placed base limit (entry_at m pid i)) (entry_at m pid i)) (held_out m pid i large))
  ];
}
