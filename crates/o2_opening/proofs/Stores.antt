-- A store gets one segment more, under the next name.
use Rattle.std.proofs.Common.{◌≡◌, ◌≢◌, ◌⊎◌, inl, inr, ℕ, zero, suc, ◌+◌, ◌<◌, ◌≤◌, ◌++◌, ◌==◌, ◌-◌, ◌^◌, Bool, true, false, List, [], ◌∷◌, length, replicate, Option}
use Rattle.std.proofs.Common.{Some, None, IsSome, if◌then◌else◌, get_or, ap, sym, ◌∙◌, refl, arith, subst, length-append, nat_lt}
use Rattle.std.specs.Prelude.{slice_get, slice_set, option_map, is_some}
use Rattle.std.proofs.Math.ListN.{length-set}
use Rattle.std.proofs.lemmas.List.{get_or_append_left, length-replicate}
use Rattle.std.proofs.lemmas.Bool.{cases_eq, cases_lt, eq-eqb, false≢true}
use Rattle.std.proofs.lemmas.Bool.Decides.{nat_tests}
use Rattle.std.proofs.lemmas.List.Edits.{length-insert}
use Rattle.std.proofs.lemmas.Option.{slice_get_within, some_pair_parts}
use Rattle.o2_entries.specs.declared.Entry.{Entry}
use Rattle.o2_entries.specs.Tables.{slot_at, live_numbers}
use Rattle.o2_entries.proofs.Numbers.{rank, listed-add, rank-le, listed-le, listed-lt}
use Rattle.o2_image.specs.ImageList.{ImageList, image_front}
use Rattle.o2_place.specs.declared.seg_id.SegId.{SegId}
use Rattle.o2_store.specs.Pictures.{picture, HasPicture}
use Rattle.o2_store.specs.Idle.{NoneTaken}
use Rattle.o2_swapmap.specs.Piles.{Blocks}
use Rattle.o2_store.specs.Shelf.{Shelf, IsShelf, Adds, Pictures, aged, byte_at, entry, entry_of, entry_or, place_of}
use Rattle.o2_store.proofs.Tables.{slot-set_same, slot-set_other}
use Rattle.o2_store.proofs.Painting.{front_at}
use Rattle.o2_world.specs.World.{Segment}
use Rattle.o2_desc.specs.declared.descriptor.Descriptor.{Descriptor}
use Rattle.o2_desc.specs.Bits.{rights_of, with_present}
use Rattle.o2_regions.specs.declared.held.Held.{Held}
use Rattle.o2_regions.specs.Maps.{Maps, held_at}
use Rattle.o2_segbus.specs.Settled.{IsSettledAt, descriptor_at, start_of}
use Rattle.o2_load.proofs.Wholes.{front_length}
use Rattle.o2_stands.specs.Parts.{Parts}
use Rattle.o2_stands.specs.Stands.{IsNamed}
use Rattle.o2_opening.specs.Starting.{IsNamedAs, AreStored, AreMapped, key_in}

zero_at : (n j : ℕ) → ◌≡◌ {A = ℕ} (get_or (replicate n 0) j 0) 0
zero_at zero j = refl
zero_at (suc n) zero = refl
zero_at (suc n) (suc j) = zero_at n j

zeros_behind : (xs : List ℕ) (n j : ℕ) → length xs ≤ j → get_or (xs ++ replicate n 0) j 0 ≡ 0
zeros_behind [] n j le = zero_at n j
zeros_behind (x ∷ xs) n zero le = absurd (omega (arith, le))
zeros_behind (x ∷ xs) n (suc j) le = zeros_behind xs n j (omega (arith, le))

abbrev numbered : ℕ → ℕ → SegId
numbered k age = record { key = k; age = age }

-- One segment id more, behind all others.

id_behind : (ids : List SegId) (id : SegId) (n : ℕ) → n ≢ length ids → slice_get (ids ++ id ∷ []) n ≡ slice_get ids n
id_behind [] id zero other = absurd (other refl)
id_behind [] id (suc n) other = refl
id_behind (x ∷ ids) id zero other = refl
id_behind (x ∷ ids) id (suc n) other = id_behind ids id n (λ e. other (omega (arith, e)))

id_last : (ids : List SegId) (id : SegId) → slice_get (ids ++ id ∷ []) (length ids) ≡ Some id
id_last [] id = refl
id_last (x ∷ ids) id = id_last ids id

-- an id that is there is one before, or the new one
id_cases : (ids : List SegId) (id x : SegId) (n : ℕ) → slice_get (ids ++ id ∷ []) n ≡ Some x → ((n ≡ length ids) × (id ≡ x)) ⊎ (slice_get ids n ≡ Some x)
id_cases ids id x n e = elim (cases_eq n (length ids)) [
  | inl same ↦ (let last : Some id ≡ Some x = sym (id_last ids id) ∙ ap (slice_get (ids ++ id ∷ [])) (sym same) ∙ e in let is : id ≡ x = cc in inl (same, is))
  | inr other ↦ inr (sym (id_behind ids id n other) ∙ e)
]

pub id_kept : (ids : List SegId) (id x : SegId) (n : ℕ) → slice_get ids n ≡ Some x → slice_get (ids ++ id ∷ []) n ≡ Some x
id_kept ids id x n e = let less = slice_get_within ids n x e in id_behind ids id n (λ same. absurd (omega (arith, same, less))) ∙ e

module _ (s t : Shelf) (ids : List SegId) (id : SegId) (e : Entry) (is : AreStored s ids) (adds : Adds s t id e) (young : e.age ≡ s.made) where
  slots : t.entries ≡ slice_set s.entries id.key (Some e)
  slots = ap (λ (z : Shelf). z.entries) adds.shelf

  slot_here : slot_at t.entries id.key ≡ Some e
  slot_here = ap (λ (es : List (Option Entry)). slot_at es id.key) slots ∙ slot-set_same s.entries id.key (Some e) adds.within

  slot_there : (k : ℕ) → k ≢ id.key → slot_at t.entries k ≡ slot_at s.entries k
  slot_there k other = ap (λ (es : List (Option Entry)). slot_at es k) slots ∙ slot-set_other s.entries id.key k (Some e) other

  -- who was there has another number
  pub other_key : (k : ℕ) (age : ℕ) → IsSome (aged age (slot_at s.entries k)) → k ≢ id.key
  other_key k age some same =
      let none : slot_at s.entries k ≡ None = ap (slot_at s.entries) same ∙ adds.vacant in
      absurd (false≢true (subst (λ (o : Option Entry). IsSome (aged age o)) none some))

  itself : IsSome (entry_of t id)
  itself =
      subst (λ (o : Option Entry). IsSome (aged id.age o)) (sym slot_here)
      (let same : e.age ≡ id.age = young ∙ sym adds.age in rw (eq-eqb e.age id.age same) refl)

  pub stored_more : AreStored t (ids ++ id ∷ [])
  stored_more = record {
    made = let a = ap (λ (z : Shelf). z.made) adds.shelf in let b = is.made in let c = length-append ids (id ∷ []) in omega (arith, a, b, c);
    live =
        let listed = listed-add 0 s.entries id.key e adds.within adds.vacant in
        let more = length-insert (live_numbers 0 s.entries) (rank s.entries id.key) (0 + id.key) (rank-le 0 id.key s.entries) in
        let a = ap (λ (es : List (Option Entry)). length (live_numbers 0 es)) slots in
        let b = ap (λ (ns : List ℕ). length ns) listed in
        let c = is.live in
        let d = length-append ids (id ∷ []) in
        omega (arith, a, b, more, c, d);
    aged = λ n x at. elim (id_cases ids id x n at) [
      | inl last ↦ ap (λ (z : SegId). z.age) (sym last.1) ∙ adds.age ∙ is.made ∙ sym last.0
      | inr before ↦ is.aged n x before
    ];
    there = λ n x at. elim (id_cases ids id x n at) [
      | inl last ↦ subst (λ (z : SegId). IsSome (entry_of t z)) last.1 itself
      | inr before ↦
          (let some = is.there n x before in
          subst (λ (o : Option Entry). IsSome (aged x.age o)) (sym (slot_there x.key (other_key x.key x.age some))) some)
    ];
    back = λ k f at. elim (cases_eq k id.key) [
      | inl same ↦
          (let here : Some e ≡ Some f = sym slot_here ∙ ap (slot_at t.entries) (sym same) ∙ at in
          let equal : e ≡ f = cc in
          let age : f.age ≡ length ids = ap (λ (x : Entry). x.age) (sym equal) ∙ young ∙ is.made in
          ap (slice_get (ids ++ id ∷ [])) age ∙ id_last ids id
          ∙ ap Some (id_is id k f.age (sym same) (adds.age ∙ is.made ∙ sym age)))
      | inr other ↦ id_kept ids id (record { key = k; age = f.age }) f.age (is.back k f (sym (slot_there k other) ∙ at))
    ];
    out = λ k. ap (λ (z : Shelf). place_of z k) adds.shelf ∙ is.out k;
    unused = subst (λ (m : Blocks). NoneTaken m) (sym (ap (λ (z : Shelf). z.swap) adds.shelf)) is.unused;
  }
    where
      id_is : (x : SegId) (k age : ℕ) → x.key ≡ k → x.age ≡ age → ◌≡◌ {A = SegId} x (record { key = k; age = age })
      id_is x k age a b = ap (λ (n : ℕ). numbered n x.age) a ∙ ap (λ (n : ℕ). numbered k n) b

  -- the segments of the names before stay what they were
  pub named_before : (images : ImageList) → ((pic : Pictures) (block : ℕ → List ℕ) (k j : ℕ) → k ≢ id.key → byte_at t pic block k j ≡ byte_at s pic block k j)
      → (n : ℕ) (o : Option Segment) → n ≢ length ids → IsNamedAs s images (key_in ids n) o → IsNamedAs t images (key_in (ids ++ id ∷ []) n) o
  named_before images bytes n o other was =
      subst (λ (q : Option SegId). IsNamedAs t images (option_map (λ (x : SegId). x.key) q) o) (sym (id_behind ids id n other)) (record {
        named = λ p. go p (slice_get ids n) refl o (was.named p);
        picture = λ k m seg at image. was.picture k m seg at (ap (λ (z : Entry). z.image) (sym (entry_kept (slice_get ids n) refl k at)) ∙ image);
      })
    where
      entry_kept : (q : Option SegId) → slice_get ids n ≡ q → (k : ℕ) → option_map (λ (x : SegId). x.key) q ≡ Some k → entry t k ≡ entry s k
      entry_kept None at k e = absurd (cc)
      entry_kept (Some x) at k e =
          let same : x.key ≡ k = cc in
          subst (λ (z : ℕ). entry t z ≡ entry s z) same (ap entry_or (slot_there x.key (other_key x.key x.age (is.there n x at))))

      go : (p : Parts) (q : Option SegId) → slice_get ids n ≡ q → (o : Option Segment)
          → IsNamed (record p { shelf = s; images = images }) (option_map (λ (x : SegId). x.key) q) o → IsNamed (record p { shelf = t; images = images }) (option_map (λ (x : SegId). x.key) q) o
      go p None at None named = tt
      go p None at (Some x) named = named
      go p (Some x) at None named = named
      go p (Some x) at (Some y) named =
          let apart : x.key ≢ id.key = other_key x.key x.age (is.there n x at) in
          let same : entry t x.key ≡ entry s x.key = ap entry_or (slot_there x.key apart) in
          record {
            size = named.size ∙ ap (λ (z : Entry). z.size) (sym same);
            bytes = λ j less.
                (let size = ap (λ (z : Entry). z.size) same in
                named.bytes j (omega (arith, less, size)) ∙ sym (bytes (picture images) p.block x.key j apart));
            clean = named.clean ∙ ap (λ (z : Entry). z.attr.clean) (sym same);
            flags = named.flags ∙ ap (λ (z : Entry). z.attr.flags) (sym same);
            lock = named.lock ∙ ap (λ (z : Entry). z.attr.lock) (sym same);
            shared = named.shared ∙ ap (λ (z : Entry). z.attr.shared) (sym same);
            discarded = named.discarded ∙ ap (λ (z : Entry). z.attr.gone) (sym same);
          }

  -- descriptors agree with it as with the store before
  pub mapped_stored : (m : Maps) → AreMapped s m ids → AreMapped t m (ids ++ id ∷ [])
  mapped_stored m was = record {
    held = λ pid i h at.
        (let w = was.held pid i h at in
        record { id = id_kept ids id h.id h.id.age w.id; holds = w.holds; cause = w.cause; first = w.first; reserved = w.reserved });
    settled = λ pid i. settled (held_at m pid i) (descriptor_at m pid i) (λ h at. (was.held pid i h at).id) (was.settled pid i);
    tables = was.tables;
    own = was.own;
  }
    where
      settled : (o : Option Held) (d : Descriptor) → ((h : Held) → o ≡ Some h → slice_get ids h.id.age ≡ Some h.id) → IsSettledAt s o d → IsSettledAt t o d
      settled None d known at = at
      settled (Some h) d known at =
          let apart : h.id.key ≢ id.key = other_key h.id.key h.id.age (is.there h.id.age h.id (known h refl)) in
          let place : place_of t h.id.key ≡ place_of s h.id.key = ap (λ (z : Shelf). place_of z h.id.key) adds.shelf in
          let size : (entry t h.id.key).size ≡ (entry s h.id.key).size = ap (λ (o : Option Entry). (entry_or o).size) (slot_there h.id.key apart) in
          record {
            base = at.base ∙ ap start_of (sym place);
            limit = at.limit ∙ sym size;
            access = at.access ∙ ap (λ (o : Option (ℕ × ℕ)). with_present (rights_of d.access) (is_some o)) (sym place);
          }

  -- and the new name has its own
  pub named_new : (images : ImageList) (x : Segment) (m seg : ℕ) (room : ℕ) → e.image ≡ Some (m, seg) → e.size ≡ e.kept + room → HasPicture images m seg
      → ((pic : Pictures) (block : ℕ → List ℕ) (j : ℕ) → byte_at t pic block id.key j ≡ (if nat_lt j e.kept then pic m seg j else 0))
      → x.bytes ≡ image_front images m seg e.kept ++ replicate room 0 → x.clean ≡ e.attr.clean → x.flags ≡ e.attr.flags → x.lock ≡ e.attr.lock → x.shared ≡ e.attr.shared → x.discarded ≡ e.attr.gone
      → (n : ℕ) → n ≡ length ids → IsNamedAs t images (key_in (ids ++ id ∷ []) n) (Some x)
  named_new images x m seg room image size has bytes same clean flags lock shared gone n last =
      subst (λ (q : Option SegId). IsNamedAs t images (option_map (λ (y : SegId). y.key) q) (Some x)) (sym (ap (slice_get (ids ++ id ∷ [])) last ∙ id_last ids id)) (record {
        named = λ p. record {
          size = ap (λ (xs : List ℕ). length xs) same ∙ long ∙ sym size ∙ sym (ap (λ (z : Entry). z.size) here);
          bytes = λ j less.
              (let within : j < e.kept + room = let a = ap (λ (z : Entry). z.size) here in omega (arith, a, less, size) in
              ap (λ (xs : List ℕ). get_or xs j 0) same ∙ at_byte j within ∙ sym (bytes (picture images) p.block j));
          clean = clean ∙ sym (ap (λ (z : Entry). z.attr.clean) here);
          flags = flags ∙ sym (ap (λ (z : Entry). z.attr.flags) here);
          lock = lock ∙ sym (ap (λ (z : Entry). z.attr.lock) here);
          shared = shared ∙ sym (ap (λ (z : Entry). z.attr.shared) here);
          discarded = gone ∙ sym (ap (λ (z : Entry). z.attr.gone) here);
        };
        picture = λ k a b at from.
            (let key : id.key ≡ k = cc in
            let pair : ◌≡◌ {A = Option (ℕ × ℕ)} (Some (m, seg)) (Some (a, b)) = sym image ∙ sym (ap (λ (z : Entry). z.image) here) ∙ ap (λ (z : ℕ). (entry t z).image) key ∙ from in
            has_same images m seg a b has pair);
      })
    where
      here : entry t id.key ≡ e
      here = ap entry_or slot_here

      has_same : (images : ImageList) (m seg a b : ℕ) → HasPicture images m seg → ◌≡◌ {A = Option (ℕ × ℕ)} (Some (m, seg)) (Some (a, b)) → HasPicture images a b
      has_same images m seg a b h e =
          let parts = some_pair_parts m a seg b e in
          subst (λ (y : ℕ). HasPicture images y b) parts.0 (subst (λ (y : ℕ). HasPicture images m y) parts.1 h)

      long : length (image_front images m seg e.kept ++ replicate room 0) ≡ e.kept + room
      long =
          let a = length-append (image_front images m seg e.kept) (replicate room 0) in
          let b = front_length images m seg e.kept in
          let c = length-replicate {A = ℕ} room 0 in
          omega (arith, a, b, c)

      at_byte : (j : ℕ) → j < e.kept + room → get_or (image_front images m seg e.kept ++ replicate room 0) j 0 ≡ (if nat_lt j e.kept then picture images m seg j else 0)
      at_byte j less = elim (cases_lt j e.kept) [
        | inl inside ↦
            (let t : nat_lt j e.kept ≡ true = grind (arith, nat_tests) in
            let size = front_length images m seg e.kept in
            get_or_append_left (image_front images m seg e.kept) (replicate room 0) 0 j (omega (arith, inside, size)) ∙ front_at images m seg e.kept j inside ∙ sym (rw t refl))
        | inr behind ↦
            (let f : nat_lt j e.kept ≡ false = grind (arith, nat_tests) in
            zeros_behind (image_front images m seg e.kept) room j (let size = front_length images m seg e.kept in omega (arith, size, behind)) ∙ sym (rw f refl))
      ]

-- There are fewer segments than numbers, and few numbers.

pub few_made : (s : Shelf) (ids : List SegId) → AreStored s ids → IsShelf s → s.made < 2 ^ 32 - 1
few_made s ids is shelf =
    let a = is.made in
    let b = is.live in
    let c = listed-le 0 s.entries in
    let d = shelf.few in
    omega (arith, a, b, c, d)

pub none_left : (s : Shelf) (ids : List SegId) → AreStored s ids → length (live_numbers 0 s.entries) ≡ length s.entries → length s.entries ≤ length ids
none_left s ids is full = let b = is.live in omega (arith, b, full)

pub one_left : (s t : Shelf) (ids : List SegId) (id : SegId) (e : Entry) → AreStored s ids → Adds s t id e → length ids < length s.entries
one_left s t ids id e is adds = let b = is.live in let less = listed-lt 0 s.entries id.key adds.within adds.vacant in omega (arith, b, less)

pub same_most : (s t : Shelf) (id : SegId) (e : Entry) → Adds s t id e → length t.entries ≡ length s.entries
same_most s t id e adds = ap (λ (z : Shelf). length z.entries) adds.shelf ∙ length-set s.entries id.key (Some e)

-- The size of a live segment.

size_go : (x : Entry) (t : Bool) (size : ℕ) → Some size ≡ option_map (λ (e : Entry). e.size) (if t then Some x else None) → size ≡ x.size
size_go x true size e = cc
size_go x false size e = absurd (cc)

size_by : (o : Option Entry) (age size : ℕ) → Some size ≡ option_map (λ (e : Entry). e.size) (aged age o) → size ≡ (entry_or o).size
size_by None age size e = absurd (cc)
size_by (Some x) age size e = size_go x (x.age == age) size e

pub size_is : (s : Shelf) (id : SegId) (size : ℕ) → Some size ≡ option_map (λ (e : Entry). e.size) (entry_of s id) → size ≡ (entry s id.key).size
size_is s id size e = size_by (slot_at s.entries id.key) id.age size e

live_go : (o : Option Entry) (age : ℕ) → IsSome (aged age o) → IsSome o
live_go None age h = absurd (cc)
live_go (Some x) age h = refl

slot_within : (es : List (Option Entry)) (k : ℕ) → IsSome (slot_at es k) → k < length es
slot_within [] k h = absurd (cc)
slot_within (o ∷ es) zero h = omega arith
slot_within (o ∷ es) (suc k) h = let less = slot_within es k h in omega (arith, less)

pub live_sized : (s : Shelf) (id : SegId) → IsShelf s → IsSome (entry_of s id) → (0 < (entry s id.key).size) × ((entry s id.key).size ≤ 65536)
live_sized s id shelf live =
    let slot = live_go (slot_at s.entries id.key) id.age live in
    let each = shelf.each id.key (slot_within s.entries id.key slot) in
    (each.live slot, each.sized)
