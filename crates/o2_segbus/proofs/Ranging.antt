-- Ranges behind pointers are those of the view.
use Rattle.std.proofs.Common.{◌≡◌, ◌≢◌, ◌⊎◌, inl, inr, ◌<◌, ◌≤◌, ◌+◌, ◌-◌, refl, sym, ap, subst, ◌∙◌, ℕ, Bool, true, false, cond, ◌==◌, ◌&&◌, ◌||◌, List, [], length, get_or, arith}
use Rattle.std.specs.Prelude.{Option, Some, None, nat_le}
use Rattle.std.specs.Borrow.{GName}
use Rattle.std.proofs.lemmas.Bool.{false≢true, eqb-true, eq-eqb, leb-true, cases_lt}
use Rattle.std.proofs.lemmas.List.{ext_get_or}
use mathlib.Core.Path.{fun_ext}
use Rattle.o2_desc.specs.declared.descriptor.Descriptor.{Descriptor}
use Rattle.o2_phys.specs.Bytes.{part, with_part}
use Rattle.o2_phys.proofs.Parts.{length-part, get-part, part-other, length-with_part, get-with_part, get-with_part-before, get-with_part-after}
use Rattle.o2_isa.specs.Parts.{put_part}
use Rattle.o2_isa.specs.View.{View, Hold, bound_in, present_or_none}
use Rattle.o2_isa.specs.Pointers.{is_ready, has_present_range, range_of, range_in, put_at_pointer, put_in}
use Rattle.o2_isa.specs.Pointers as pointers
use Rattle.o2_regions.specs.Maps.{Maps}
use Rattle.o2_store.specs.Shelf.{Shelf, IsShelf, entry, place_of}
use Rattle.o2_store.proofs.Tables.{placed_at}
use Rattle.o2_segbus.specs.declared.registers.SegmentRegisters.{SegmentRegisters}
use Rattle.o2_segbus.specs.Settled.{IsSettled}
use Rattle.o2_segbus.specs.Seen.{key_of, hold_in, present_in, bytes_in, bytes_under, bytes_from, seen_with, AreNamed}
use Rattle.o2_segbus.specs.Bus.{AreInside, bus_view}
use Rattle.o2_segbus.specs.Words.{loaded_descriptor}
use Rattle.o2_segbus.proofs.Holds.{IsPart, HasPart, part_is, part_bytes, loaded_is}
use Rattle.o2_segbus.proofs.Writings.{AreApart, with_memory, one_age}

-- a selector names a segment in memory with such rights, in which a range lies
pub record CanReach (s : Shelf) (d : Descriptor) (o : Option Hold) (ok : ℕ → Bool) (k n : ℕ) : Type 0 where
  pub hold : Hold
  pub there : o ≡ Some hold
  pub allowed : ok hold.rights ≡ true
  pub part : HasPart s d hold
  pub room : k + n ≤ d.limit + 1

both : (a b : Bool) → (a && b) ≡ true → (a ≡ true) × (b ≡ true)
both true true e = (refl, refl)
both true false e = absurd (false≢true e)
both false b e = absurd (false≢true e)

-- the part of the memory that a descriptor tells, under a hold
bytes_length : (s : Shelf) (d : Descriptor) (h : Hold) → HasPart s d h → length (bytes_in s h.name) ≡ d.limit + 1
bytes_length s d h p = ap length (part_bytes s d h p) ∙ length-part s.memory d.base (d.limit + 1) p.inside

part_of : (s : Shelf) (m : Maps) (pid sel : ℕ) (h : Hold) → AreInside s → AreNamed s m → IsSettled s m → bound_in (hold_in m pid) sel ≡ Some h → present_in s h.name ≡ true → HasPart s (loaded_descriptor m pid sel) h
part_of s m pid sel h i n t e p =
    subst (λ (o : Option Hold). IsPart s (loaded_descriptor m pid sel) o) e
    (part_is s m pid (record { selector = sel; descriptor = loaded_descriptor m pid sel }) i n
    (loaded_is s m pid sel n t (ap (present_or_none (present_in s)) e ∙ p)))

reach_hold : (s : Shelf) (v : View) (m : Maps) (pid sel : ℕ) (ok : ℕ → Bool) (k n : ℕ) → AreInside s → AreNamed s m → IsSettled s m → v.bytes ≡ bytes_in s → v.present ≡ present_in s
    → (o : Option Hold) → bound_in (hold_in m pid) sel ≡ o → has_present_range ok v k n o ≡ true → CanReach s (loaded_descriptor m pid sel) (bound_in (hold_in m pid) sel) ok k n
reach_hold s v m pid sel ok k n i d t eb ep None e h = absurd (false≢true h)
reach_hold s v m pid sel ok k n i d t eb ep (Some x) e h =
    let a = both (v.present x.name) (ok x.rights && nat_le (k + n) (length (v.bytes x.name))) h in
    let b = both (ok x.rights) (nat_le (k + n) (length (v.bytes x.name))) a.1 in
    let p : HasPart s (loaded_descriptor m pid sel) x = part_of s m pid sel x i d t e (ap (λ (f : ℕ → Bool). f x.name) (sym ep) ∙ a.0) in
    let long : length (v.bytes x.name) ≡ (loaded_descriptor m pid sel).limit + 1 = ap (λ (f : ℕ → List ℕ). length (f x.name)) eb ∙ bytes_length s (loaded_descriptor m pid sel) x p in
    record { hold = x; there = e; allowed = b.0; part = p; room = subst (λ (z : ℕ). k + n ≤ z) long (leb-true _ _ b.1) }

some_count : (n : ℕ) (b c : Bool) → 0 < n → (n == 0) ≡ b → (b || c) ≡ true → c ≡ true
some_count n true c l e q = absurd (let z : n ≡ 0 = eqb-true n 0 e in omega (arith, z, l))
some_count n false c l e q = q

pub reach : (g t : GName) (s : Shelf) (m : Maps) (pid sel : ℕ) (x : SegmentRegisters) (ok : ℕ → Bool) (k n : ℕ) → AreInside s → AreNamed s m → IsSettled s m → 0 < n → is_ready ok (bus_view g t s m pid x) sel k n ≡ true
    → CanReach s (loaded_descriptor m pid sel) (bound_in (hold_in m pid) sel) ok k n
unfolding is_ready bus_view seen_with
reach g t s m pid sel x ok k n i d r some h =
    reach_hold s (bus_view g t s m pid x) m pid sel ok k n i d r refl refl (bound_in (hold_in m pid) sel) refl
    (some_count n (n == 0) (has_present_range ok (bus_view g t s m pid x) k n (bound_in (hold_in m pid) sel)) some refl h)

-- where a range lies
pub reach_inside : (s : Shelf) (d : Descriptor) (o : Option Hold) (ok : ℕ → Bool) (k n : ℕ) → CanReach s d o ok k n → d.base + k + n ≤ length s.memory
reach_inside s d o ok k n c = omega (arith, c.part.inside, c.room)

-- a part of a part
part_within : (bs : List ℕ) (at len k n : ℕ) → at + len ≤ length bs → k + n ≤ len → part bs (at + k) n ≡ part (part bs at len) k n
part_within bs at len k n l r =
    let e : length (part bs at len) ≡ len = length-part bs at len l in
    ext_get_or 0 (part bs (at + k) n) (part (part bs at len) k n) (length-part bs (at + k) n (omega arith) ∙ sym (length-part (part bs at len) k n (omega (arith, e, r))))
    (λ j q. (let u : length (part bs (at + k) n) ≡ n = length-part bs (at + k) n (omega arith) in
    let w : at + (k + j) ≡ at + k + j = omega arith in
    get-part bs (at + k) n j (omega (arith, q, u))
    ∙ (ap (λ (z : ℕ). get_or bs z 0) (sym w)
    ∙ (sym (get-part bs at len (k + j) (omega (arith, q, u, r)))
    ∙ sym (get-part (part bs at len) k n j (omega (arith, q, u)))))))

counted_range : (bs : ℕ → List ℕ) (k n : ℕ) (b : Bool) (o : Option Hold) → 0 < n → (n == 0) ≡ b → cond b [] (range_in bs k n o) ≡ range_in bs k n o
counted_range bs k n true o l e = absurd (let z : n ≡ 0 = eqb-true n 0 e in omega (arith, z, l))
counted_range bs k n false o l e = refl

pub range_view : (g t : GName) (s : Shelf) (m : Maps) (pid sel : ℕ) (x : SegmentRegisters) (ok : ℕ → Bool) (k n : ℕ) → 0 < n → CanReach s (loaded_descriptor m pid sel) (bound_in (hold_in m pid) sel) ok k n
    → part s.memory ((loaded_descriptor m pid sel).base + k) n ≡ range_of (bus_view g t s m pid x).held (bus_view g t s m pid x).bytes sel k n
unfolding range_of bus_view seen_with
range_view g t s m pid sel x ok k n some c =
    let d : Descriptor = loaded_descriptor m pid sel in
    part_within s.memory d.base (d.limit + 1) k n c.part.inside c.room
    ∙ (ap (λ (bs : List ℕ). part bs k n) (sym (part_bytes s d c.hold c.part))
    ∙ (ap (range_in (bytes_in s) k n) (sym c.there)
    ∙ sym (counted_range (bytes_in s) k n (n == 0) (bound_in (hold_in m pid) sel) some refl)))

-- A part put into a segment.

put_within : (bs new : List ℕ) (at len k : ℕ) → at + len ≤ length bs → k + length new ≤ len → part (with_part bs (at + k) new) at len ≡ with_part (part bs at len) k new
put_within bs new at len k l r =
    let e : length (part bs at len) ≡ len = length-part bs at len l in
    let w : length (with_part bs (at + k) new) ≡ length bs = length-with_part bs new (at + k) (omega arith) in
    let f : length (part (with_part bs (at + k) new) at len) ≡ len = length-part (with_part bs (at + k) new) at len (omega (arith, w, l)) in
    let h : length (with_part (part bs at len) k new) ≡ len = length-with_part (part bs at len) new k (omega (arith, e, r)) ∙ e in
    ext_get_or 0 (part (with_part bs (at + k) new) at len) (with_part (part bs at len) k new) (f ∙ sym h) (λ j q. get-part (with_part bs (at + k) new) at len j (omega (arith, q, f)) ∙ at_byte j (omega (arith, q, f)))
  where
    at_byte : (j : ℕ) → j < len → get_or (with_part bs (at + k) new) (at + j) 0 ≡ get_or (with_part (part bs at len) k new) j 0
    at_byte j q =
        let e : length (part bs at len) ≡ len = length-part bs at len l in
        elim (cases_lt j k) [
          | inl low ↦ get-with_part-before bs new (at + k) (at + j) (omega arith) (omega arith)
              ∙ (sym (get-part bs at len j q) ∙ sym (get-with_part-before (part bs at len) new k j (omega (arith, e, r)) low))
          | inr high ↦ elim (cases_lt j (k + length new)) [
            | inl mid ↦ (let i : ℕ = j - k in
                let a : at + k + (j - k) ≡ at + j = omega arith in
                let b : k + (j - k) ≡ j = omega arith in
                ap (λ (z : ℕ). get_or (with_part bs (at + k) new) z 0) (sym a)
                ∙ (get-with_part bs new (at + k) (j - k) (omega arith) (omega arith)
                ∙ (sym (get-with_part (part bs at len) new k (j - k) (omega (arith, e, r)) (omega arith))
                ∙ ap (λ (z : ℕ). get_or (with_part (part bs at len) k new) z 0) b)))
            | inr past ↦ get-with_part-after bs new (at + k) (at + j) (omega arith) (omega arith)
                ∙ (sym (get-part bs at len j q) ∙ sym (get-with_part-after (part bs at len) new k j (omega (arith, e, r)) past))
          ]
        ]

own_bytes : (s : Shelf) (d : Descriptor) (h : Hold) (k : ℕ) (new : List ℕ) → HasPart s d h → k + length new ≤ d.limit + 1
    → bytes_under (with_memory s (with_part s.memory (d.base + k) new)) (key_of s h.name) ≡ put_part (bytes_in s h.name) k new
own_bytes s d h k new p l =
    let t : Shelf = with_memory s (with_part s.memory (d.base + k) new) in
    ap (bytes_under t) p.named
    ∙ (ap (λ (o : Option (ℕ × ℕ)). bytes_from t.memory o (entry s p.key).size) p.place
    ∙ (ap (part t.memory d.base) (sym p.size)
    ∙ (put_within s.memory new d.base (d.limit + 1) k p.inside l
    ∙ ap (λ (bs : List ℕ). with_part bs k new) (sym (part_bytes s d h p)))))

other_bytes : (s : Shelf) (d : Descriptor) (h : Hold) (k : ℕ) (new : List ℕ) (j : ℕ) → IsShelf s → AreInside s → AreApart s → (p : HasPart s d h) → k + length new ≤ d.limit + 1 → p.key ≢ j
    → (o : Option (ℕ × ℕ)) → place_of s j ≡ o → bytes_from (with_part s.memory (d.base + k) new) o (entry s j).size ≡ bytes_from s.memory o (entry s j).size
other_bytes s d h k new j shelf i apart p room n None e = refl
other_bytes s d h k new j shelf i apart p room n (Some r) e =
    part-other s.memory new (d.base + k) r.0 (entry s j).size (omega (arith, p.inside, room)) (i.within j r.0 r.1 e) away
  where
    away : (r.0 + (entry s j).size ≤ d.base + k) ⊎ (d.base + k + length new ≤ r.0)
    away =
        let u = placed_at s p.key d.base p.len shelf p.place in
        let v = placed_at s j r.0 r.1 shelf e in
        elim (apart p.key j d.base p.len r.0 r.1 n p.place e) [
          | inl q ↦ inr (omega (arith, q, u.1, p.size, room))
          | inr q ↦ inl (omega (arith, q, v.1))
        ]

bytes_after : (s : Shelf) (d : Descriptor) (h : Hold) (k : ℕ) (new : List ℕ) → IsShelf s → AreInside s → AreApart s → HasPart s d h → k + length new ≤ d.limit + 1
    → (n : ℕ) → bytes_under (with_memory s (with_part s.memory (d.base + k) new)) (key_of s n) ≡ put_in (bytes_in s) k new (Some h) n
unfolding key_of
bytes_after s d h k new shelf i apart p room n = go (n == h.name) refl
  where
    t : Shelf
    t = with_memory s (with_part s.memory (d.base + k) new)

    elsewhere : (n == h.name) ≡ false → (o : Option ℕ) → key_of s n ≡ o → bytes_under t o ≡ bytes_under s o
    elsewhere e None q = refl
    elsewhere e (Some j) q =
        other_bytes s d h k new j shelf i apart p room
        (λ c. false≢true (sym e ∙ eq-eqb n h.name (one_age n h.name s.entries 0 j q (p.named ∙ ap Some c))))
        (place_of s j) refl

    go : (b : Bool) → (n == h.name) ≡ b → bytes_under t (key_of s n) ≡ cond b (put_part (bytes_in s n) k new) (bytes_in s n)
    go true e =
        let q : n ≡ h.name = eqb-true n h.name e in
        ap (λ (z : ℕ). bytes_under t (key_of s z)) q ∙ (own_bytes s d h k new p room ∙ ap (λ (z : ℕ). put_part (bytes_in s z) k new) (sym q))
    go false e = elsewhere e (key_of s n) refl

-- a bus with other bytes and so much memory
abbrev shown_with : View → (ℕ → List ℕ) → ℕ → View
shown_with v bytes size = record v { bytes = bytes; rest = record v.rest { memory = size } }

pub put_view : (g t : GName) (s : Shelf) (m : Maps) (pid sel : ℕ) (x : SegmentRegisters) (ok : ℕ → Bool) (k : ℕ) (new : List ℕ) → IsShelf s → AreInside s → AreApart s
    → CanReach s (loaded_descriptor m pid sel) (bound_in (hold_in m pid) sel) ok k (length new)
    → bus_view g t (with_memory s (with_part s.memory ((loaded_descriptor m pid sel).base + k) new)) m pid x ≡ pointers.with_part (bus_view g t s m pid x) sel k new
unfolding put_at_pointer bus_view seen_with key_of
put_view g t s m pid sel x ok k new shelf i apart c =
    let d : Descriptor = loaded_descriptor m pid sel in
    let v : View = bus_view g t s m pid x in
    ap (λ (f : ℕ → List ℕ). shown_with v f (length (with_part s.memory (d.base + k) new))) (fun_ext (bytes_after s d c.hold k new shelf i apart c.part c.room))
    ∙ (ap (λ (n : ℕ). shown_with v (put_in (bytes_in s) k new (Some c.hold)) n) (length-with_part s.memory new (d.base + k) (reach_inside s d (bound_in (hold_in m pid) sel) ok k (length new) c))
    ∙ ap (λ (o : Option Hold). shown_with v (put_in (bytes_in s) k new o) (length s.memory)) (sym c.there))

pub inside_behind : (s : Shelf) (at : ℕ) (new : List ℕ) → at + length new ≤ length s.memory → AreInside s → AreInside (with_memory s (with_part s.memory at new))
inside_behind s at new l i =
    let e = length-with_part s.memory new at l in
    record {
      small = omega (arith, e, i.small);
      within = λ k a n q. (let u = i.within k a n q in omega (arith, e, u));
      most = i.most;
    }

-- The same for the calls that a bus makes.

pub reach_by : (g t : GName) (s : Shelf) (m : Maps) (pid sel : ℕ) (x : SegmentRegisters) (d : Descriptor) (ok : ℕ → Bool) (k n : ℕ) → d ≡ loaded_descriptor m pid sel → AreInside s → AreNamed s m → IsSettled s m → 0 < n
    → is_ready ok (bus_view g t s m pid x) sel k n ≡ true → CanReach s d (bound_in (hold_in m pid) sel) ok k n
reach_by g t s m pid sel x d ok k n e i w r some h =
    subst (λ (z : Descriptor). CanReach s z (bound_in (hold_in m pid) sel) ok k n) (sym e) (reach g t s m pid sel x ok k n i w r some h)

pub range_inside : (g t : GName) (s : Shelf) (m : Maps) (pid sel : ℕ) (x : SegmentRegisters) (d : Descriptor) (ok : ℕ → Bool) (memory : List ℕ) (k n : ℕ) → d ≡ loaded_descriptor m pid sel → memory ≡ s.memory → AreInside s → AreNamed s m → IsSettled s m → 0 < n
    → is_ready ok (bus_view g t s m pid x) sel k n ≡ true → d.base + k + n ≤ length memory
range_inside g t s m pid sel x d ok memory k n e f i w r some h =
    subst (λ (z : List ℕ). d.base + k + n ≤ length z) (sym f) (reach_inside s d (bound_in (hold_in m pid) sel) ok k n (reach_by g t s m pid sel x d ok k n e i w r some h))

pub range_is : (g t : GName) (s : Shelf) (m : Maps) (pid sel : ℕ) (x : SegmentRegisters) (d : Descriptor) (ok : ℕ → Bool) (memory : List ℕ) (k n : ℕ) → d ≡ loaded_descriptor m pid sel → memory ≡ s.memory → AreInside s → AreNamed s m → IsSettled s m → 0 < n
    → is_ready ok (bus_view g t s m pid x) sel k n ≡ true → part memory (d.base + k) n ≡ range_of (bus_view g t s m pid x).held (bus_view g t s m pid x).bytes sel k n
range_is g t s m pid sel x d ok memory k n e f i w r some h =
    ap (λ (z : Descriptor). part memory (z.base + k) n) e
    ∙ (ap (λ (z : List ℕ). part z ((loaded_descriptor m pid sel).base + k) n) f
    ∙ range_view g t s m pid sel x ok k n some (reach g t s m pid sel x ok k n i w r some h))
