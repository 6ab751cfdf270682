-- What tests keep of a store.
use Rattle.std.proofs.Common.{◌≡◌, ◌≢◌, ◌⊎◌, inl, inr, ℕ, ◌+◌, ◌<◌, ◌≤◌, List, length, get_or, set, Option, Some, None, IsSome, Bool, true, false, ltb, refl, sym, ap, ◌∙◌, subst, arith, option_map, unwrap_or, eqb, if◌then◌else◌}
use Rattle.std.proofs.lemmas.Bool.{cases_eq, cases_lt}
use Rattle.std.proofs.lemmas.Bool.Decides.{nat_tests}
use Rattle.std.proofs.lemmas.List.{length-set}
use Rattle.o2_entries.specs.declared.Entry.{Entry}
use Rattle.o2_entries.specs.declared.Attr.{Attr}
use Rattle.o2_entries.specs.Tables.{slot_at}
use Rattle.o2_image.specs.ImageList.{ImageList}
use Rattle.o2_phys.specs.Bytes.{with_part}
use Rattle.o2_phys.proofs.Parts.{get-with_part-before, get-with_part-after}
use Rattle.o2_place.specs.Marks.{Turns}
use Rattle.o2_swapmap.specs.Piles.{all_of}
use Rattle.o2_store.specs.Pictures.{picture, HasPicture}
use Rattle.o2_store.specs.Shelf.{Shelf, IsShelf, SameTables, AreClean, Removes, entry, entry_or, place_of, aged, base_of, out_byte}
use Rattle.o2_store.specs.Trials.{IsReady}
use Rattle.o2_store.proofs.Tables.{slot-past, slot-set_same, slot-set_other, none_is_none, placed_at}
use Rattle.o2_store.proofs.Keeping.{clean_source}
use Rattle.o2_store.proofs.Shifts.{base_is, put_fits}

-- after a call that keeps the tables
pub ready_same : (s t : Shelf) (im : ImageList) (m n : ℕ) → IsReady s im m → SameTables s t → AreClean t (picture im) → all_of t.swap ≡ all_of s.swap → n ≡ m → IsReady t im n
ready_same s t im m n h q c map b = record {
  pictured = λ k x y e. h.pictured k x y ((q.same k).image (x, y) e);
  clean = c;
  device = omega (arith, h.device, map, b);
}

empty_slot : (es : List (Option Entry)) (key : ℕ) → slot_at (set es key None) key ≡ None
empty_slot es key = elim (cases_lt key (length es)) [
  | inl l ↦ slot-set_same es key None l
  | inr past ↦ (let z = length-set {A = Option Entry} es key None in slot-past (set es key None) key (omega (arith, z, past)))
]

pub ready_removed : (s t : Shelf) (im : ImageList) (n key : ℕ) → IsShelf s → IsReady s im n → Removes s t key → all_of t.swap ≡ all_of s.swap → IsReady t im n
ready_removed s t im n key shelf h r map =
    let memory : t.memory ≡ s.memory = ap (λ (x : Shelf). x.memory) r.shelf in
    record {
      pictured = λ k x y i. elim (cases_eq k key) [
        | inl same ↦ absurd (none_is_none (sym (gone same) ∙ i) refl)
        | inr ne ↦ h.pictured k x y (ap (λ (o : Option Entry). (entry_or o).image) (sym (r.entries k ne)) ∙ i)
      ];
      clean = record {
        bytes = λ k at len j clean place l block. elim (cases_eq k key) [
          | inl same ↦ absurd (none_is_none (subst (λ (z : ℕ). place_of t z ≡ Some (at, len)) same place) r.out)
          | inr ne ↦
              (let slot = r.entries k ne in
              let was : place_of s k ≡ Some (at, len) = sym (r.places k ne) ∙ place in
              let y : (entry s k).attr.clean ≡ true = sym (ap (λ (o : Option Entry). (entry_or o).attr.clean) slot) ∙ clean in
              let m : j < (entry s k).size = subst (λ (o : Option Entry). j < (entry_or o).size) slot l in
              let w = (placed_at s k at len shelf was).0 in
              rw (memory, slot) (h.clean.bytes k at len j y was m block ∙ ap (λ (v : ℕ). if ltb j (entry s k).kept then v else 0) (sym (clean_source (entry s k).image (picture im) s.swap t.swap block block k j ((shelf.each k w).clean y)))))
        ];
      };
      device = omega (arith, h.device, map);
    }
  where
    gone : {k : ℕ} → k ≡ key → (entry t k).image ≡ None
    gone {k} same = ap (λ (x : Shelf). (entry x k).image) r.shelf ∙ ap (λ (z : ℕ). (entry_or (slot_at (set s.entries key None) z)).image) same ∙ ap (λ (o : Option Entry). (entry_or o).image) (empty_slot s.entries key)

-- after a removal, if there was something to remove
pub ready_remove : (b : Bool) (s t : Shelf) (im : ImageList) (n key : ℕ) → IsShelf s → IsReady s im n → (b ≡ false → t ≡ s) → (b ≡ true → Removes s t key) → all_of t.swap ≡ all_of s.swap → IsReady t im n
ready_remove true s t im n key shelf h stale r map = ready_removed s t im n key shelf h (r refl) map
ready_remove false s t im n key shelf h stale r map = subst (λ (x : Shelf). IsReady x im n) (sym (stale refl)) h

-- other attributes
pub ready_attr : (s t : Shelf) (u : Turns) (im : ImageList) (n key : ℕ) (a : Attr) → IsReady s im n → key < length s.entries → t
    ≡ record s { turns = u; entries = set s.entries key (Some (record (entry s key) { attr = a })) } → a.clean ≡ (entry s key).attr.clean
    → IsReady t im n
ready_attr s t u im n key a h l e clean =
    let f : Entry = record (entry s key) { attr = a } in
    let v : Shelf = record s { turns = u; entries = set s.entries key (Some f) } in
    let here : slot_at v.entries key ≡ Some f = slot-set_same s.entries key (Some f) l in
    let r : IsReady v im n = record {
      pictured = λ k x y i. elim (cases_eq k key) [
        | inl same ↦ h.pictured k x y (subst (λ (z : ℕ). (entry s z).image ≡ Some (x, y)) (sym same) (ap (λ (o : Option Entry). (entry_or o).image) (sym here) ∙ subst (λ (z : ℕ). (entry v z).image ≡ Some (x, y)) same i))
        | inr ne ↦ h.pictured k x y (ap (λ (o : Option Entry). (entry_or o).image) (sym (slot-set_other s.entries key k (Some f) ne)) ∙ i)
      ];
      clean = record {
        bytes = λ k at len j c place m block. elim (cases_eq k key) [
          | inl same ↦
              subst (λ (z : ℕ). get_or s.memory (at + j) 0 ≡ out_byte v (picture im) block z j) (sym same)
              (let c' : a.clean ≡ true = ap (λ (o : Option Entry). (entry_or o).attr.clean) (sym here) ∙ subst (λ (z : ℕ). (entry v z).attr.clean ≡ true) same c in
              let m' : j < (entry v key).size = subst (λ (z : ℕ). j < (entry v z).size) same m in
              let m'' : j < (entry s key).size = subst (λ (o : Option Entry). j < (entry_or o).size) here m' in
              rw here (h.clean.bytes key at len j (sym clean ∙ c') (subst (λ (z : ℕ). place_of s z ≡ Some (at, len)) same place) m'' block))
          | inr ne ↦
              (let slot = slot-set_other s.entries key k (Some f) ne in
              rw slot (h.clean.bytes k at len j (sym (ap (λ (o : Option Entry). (entry_or o).attr.clean) slot) ∙ c) place (subst (λ (o : Option Entry). j < (entry_or o).size) slot m) block))
        ];
      };
      device = h.device;
    } in
    subst (λ (x : Shelf). IsReady x im n) (sym e) r

-- bytes written into a segment that isn't clean
pub ready_put : (s t : Shelf) (im : ImageList) (n : ℕ) (o : Option Entry) (key at offset : ℕ) (bytes : List ℕ) → IsShelf s → IsReady s im n → base_of o (place_of s key) ≡ Some at → offset + length bytes ≤ (entry s key).size → (entry s key).attr.clean ≡ false
    → ((k at len : ℕ) → place_of s k ≡ Some (at, len) → at + len ≤ s.places.size)
    → ((i j a l b m : ℕ) → i ≢ j → place_of s i ≡ Some (a, l) → place_of s j ≡ Some (b, m) → (a + l ≤ b) ⊎ (b + m ≤ a))
    → t ≡ record s { memory = with_part s.memory (at + offset) bytes } → IsReady t im n
ready_put s t im n o key at offset bytes shelf h base fits written within apart e =
    let b = base_is o (place_of s key) at base in
    let p = (placed_at s key at b.0 shelf b.1).1 in
    let w : at + offset + length bytes ≤ length s.memory = put_fits s o key at offset (length bytes) shelf within base fits in
    let r : IsReady (record s { memory = with_part s.memory (at + offset) bytes }) im n = record {
      pictured = h.pictured;
      clean = record {
        bytes = λ k x l j clean place m block. elim (cases_eq k key) [
          | inl same ↦ absurd (let f : (entry s key).attr.clean ≡ true = subst (λ (z : ℕ). (entry s z).attr.clean ≡ true) same clean in let g : false ≡ true = sym written ∙ f in cc)
          | inr ne ↦
              (let q = (placed_at s k x l shelf place).1 in
              elim (apart k key x l at b.0 ne place b.1) [
                | inl before ↦ get-with_part-before s.memory bytes (at + offset) (x + j) w (omega (arith, before, q, m)) ∙ h.clean.bytes k x l j clean place m block
                | inr after ↦ get-with_part-after s.memory bytes (at + offset) (x + j) w (omega (arith, after, p, fits)) ∙ h.clean.bytes k x l j clean place m block
              ])
        ];
      };
      device = h.device;
    } in
    subst (λ (x : Shelf). IsReady x im n) (sym e) r

-- a segment's size, and whether it is clean, as they were asked for
pub size_by : (age : ℕ) (o : Option Entry) (n : ℕ) → option_map (λ (e : Entry). e.size) (aged age o) ≡ Some n → (entry_or o).size ≡ n
size_by age None n q = absurd cc
size_by age (Some e) n q = elim (cases_eq e.age age) [
  | inl same ↦ (let t : eqb e.age age ≡ true = grind (arith, nat_tests) in let r : ◌≡◌ {A = Option ℕ} (Some e.size) (Some n) = rw t at q in ap (λ (x : Option ℕ). unwrap_or x 0) r)
  | inr other ↦ (let t : eqb e.age age ≡ false = grind (arith, nat_tests) in let r : ◌≡◌ {A = Option ℕ} None (Some n) = rw t at q in absurd cc)
]

pub attr_by : (age : ℕ) (o : Option Entry) (a : Attr) → option_map (λ (e : Entry). e.attr) (aged age o) ≡ Some a → (entry_or o).attr ≡ a
attr_by age None a q = absurd cc
attr_by age (Some e) a q = elim (cases_eq e.age age) [
  | inl same ↦ (let t : eqb e.age age ≡ true = grind (arith, nat_tests) in let r : ◌≡◌ {A = Option Attr} (Some e.attr) (Some a) = rw t at q in ap (λ (x : Option Attr). unwrap_or x a) r)
  | inr other ↦ (let t : eqb e.age age ≡ false = grind (arith, nat_tests) in let r : ◌≡◌ {A = Option Attr} None (Some a) = rw t at q in absurd cc)
]

-- other attributes, where the segment is live
pub ready_lock : (b : Bool) (s t : Shelf) (u : Turns) (im : ImageList) (n key : ℕ) (a : Attr) → IsReady s im n → key < length s.entries → (b ≡ false → t ≡ s)
    → (b ≡ true → t ≡ record s { turns = u; entries = set s.entries key (Some (record (entry s key) { attr = a })) }) → a.clean ≡ (entry s key).attr.clean → IsReady t im n
ready_lock true s t u im n key a h l stale is clean = ready_attr s t u im n key a h l (is refl) clean
ready_lock false s t u im n key a h l stale is clean = subst (λ (x : Shelf). IsReady x im n) (sym (stale refl)) h

pub live_by : (age : ℕ) (o : Option Entry) (a : Attr) → option_map (λ (e : Entry). e.attr) (aged age o) ≡ Some a → IsSome o
live_by age None a q = absurd cc
live_by age (Some e) a q = refl

-- the image of the first environment
pub first_environment : (im : ImageList) → 1 ≤ length im.environments → HasPicture im 0 1
unfolding HasPicture
first_environment im l = (omega arith, l)
