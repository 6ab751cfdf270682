-- What each call leaves true of the maps.
use Rattle.std.proofs.Common.{◌≡◌, ◌⊎◌, ℕ, ◌+◌, ◌*◌, ◌<◌, ◌≤◌, ◌&&◌, inl, inr, List, [], ◌∷◌, length, cond, eqb, ltb, refl, sym, ap, ◌∙◌, arith, true, false, not, Bool, Option, Some, None, get_or, subst, set, replicate}
use Rattle.std.specs.Option.{is_some, IfSome}
use Rattle.std.proofs.lemmas.Bool.{cases_eq, cases_lt, eq-eqb, ne_eqb, eqb-true, and_parts, and_left, and_right, cond-true, cond-false, lt-ltb, le-ltb}
use Rattle.std.proofs.lemmas.List.{get_or_past, length-set, length-replicate, get_or_read}
use Rattle.std.proofs.lemmas.Option.{slice_get_cases}
use Rattle.std.specs.List.{slice_get}
use Rattle.o2_desc.specs.declared.descriptor.Descriptor.{Descriptor}
use Rattle.o2_desc.specs.Bytes.{empty}
use Rattle.o2_desc.specs.Choice.{chosen}
use Rattle.o2_regions.specs.declared.held.Held.{Held}
use Rattle.o2_regions.specs.declared.held.Region.{Region}
use Rattle.o2_regions.specs.Maps.{Maps, IsProcess, base_of, descriptor_of, end_of, held_at, is_reserved, place, region_of, table_of, with_entry, with_held}
use Rattle.o2_regions.specs.Kept.{AreKept, AreMarked}
use Rattle.o2_regions.proofs.Scans.{chosen-same}
use Rattle.o2_regions.proofs.Writes.{get_or-set, get_or-same}

-- an index of a table stands at its place
pub held_in : (m : Maps) (pid i : ℕ) → i < 8192 → held_at m pid i ≡ get_or m.held (place pid i) None
held_in m pid i h = cond-true (ltb i 8192) (get_or m.held (place pid i) None) None (lt-ltb i 8192 h)

pub held_out : (m : Maps) (pid i : ℕ) → 8192 ≤ i → held_at m pid i ≡ None
held_out m pid i h = cond-false (ltb i 8192) (get_or m.held (place pid i) None) None (le-ltb i 8192 h)

pub place_in : (m : Maps) (pid i : ℕ) → AreKept m → IsProcess m pid → i < 8192 → place pid i < length m.held
place_in m pid i k p h = omega (arith, k.held_long, p.1)

-- what was read at a place is what is held there
pub held_read : (m : Maps) (pid i : ℕ) (x : Option Held) → AreKept m → IsProcess m pid → i < 8192 → x ≡ get_or m.held (place pid i) x → x ≡ held_at m pid i
held_read m pid i x k p h e = get_or_read m.held (place pid i) x (place_in m pid i k p h) e None ∙ sym (held_in m pid i h)

same_place : (q j pid i : ℕ) → j < 8192 → i < 8192 → eqb (place q j) (place pid i) ≡ (eqb q pid && eqb j i)
same_place q j pid i a b = elim (cases_eq (place q j) (place pid i)) [
  | inl one ↦ (let p : q ≡ pid = omega arith in let k : j ≡ i = omega arith in rw (eq-eqb (place q j) (place pid i) one, eq-eqb q pid p, eq-eqb j i k) refl)
  | inr two ↦ ne_eqb (place q j) (place pid i) two ∙ elim (cases_eq q pid) [
    | inr other ↦ sym (and_left (eqb q pid) (eqb j i) (ne_eqb q pid other))
    | inl same ↦ elim (cases_eq j i) [
      | inr apart ↦ sym (and_right (eqb q pid) (eqb j i) (ne_eqb j i apart))
      | inl also ↦ absurd (two (omega arith))
    ]
  ]
]

-- what is held after a write at a place
pub held_at-set : (m : Maps) (pid i : ℕ) (x : Option Held) → place pid i < length m.held → i < 8192 → (q j : ℕ) → held_at (with_held m pid i x) q j ≡ cond (eqb q pid && eqb j i) x (held_at m q j)
held_at-set m pid i x w h q j = elim (cases_lt j 8192) [
  | inl small ↦ held_in (with_held m pid i x) q j small ∙ get_or-set m.held (place pid i) x None w (place q j)
      ∙ ap (λ (t : Bool). cond t x (get_or m.held (place q j) None)) (same_place q j pid i small h)
      ∙ ap (λ (o : Option Held). cond (eqb q pid && eqb j i) x o) (sym (held_in m q j small))
  | inr large ↦ held_out (with_held m pid i x) q j large ∙ sym (cond-false (eqb q pid && eqb j i) x (held_at m q j) (and_right (eqb q pid) (eqb j i) (ne_eqb j i (λ e. omega arith))) ∙ held_out m q j large)
]

split_cond : (t : Bool) (x y : Option Held) (h : Held) → cond t x y ≡ Some h → ((t ≡ true) × (x ≡ Some h)) ⊎ ((t ≡ false) × (y ≡ Some h))
split_cond true x y h e = inl (refl, e)
split_cond false x y h e = inr (refl, e)

-- what is true of all that is held, and of what is written, is true of all that is held then
each_after : (P : ℕ → ℕ → Held → Type 0) (m : Maps) (pid i : ℕ) (x : Option Held) → place pid i < length m.held → i < 8192
    → ((q j : ℕ) (h : Held) → held_at m q j ≡ Some h → P q j h) → ((h : Held) → x ≡ Some h → P pid i h)
    → (q j : ℕ) (h : Held) → held_at (with_held m pid i x) q j ≡ Some h → P q j h
each_after P m pid i x w b old new q j h e =
    elim (split_cond (eqb q pid && eqb j i) x (held_at m q j) h (sym (held_at-set m pid i x w b q j) ∙ e)) [
      | inl here ↦
          (let t = and_parts (eqb q pid) (eqb j i) here.0 in
          subst (λ (y : ℕ). P y j h) (sym (eqb-true q pid t.0)) (subst (λ (y : ℕ). P pid y h) (sym (eqb-true j i t.1)) (new h here.1)))
      | inr there ↦ old q j h there.1
    ]

pub AreKept-set : (m : Maps) (pid i : ℕ) (x : Option Held) → AreKept m → IsProcess m pid → i < 8192
    → ((h : Held) → x ≡ Some h → (0 < h.holds) × (is_reserved m (region_of pid i) i ≡ true)) → AreKept (with_held m pid i x)
AreKept-set m pid i x k p b new =
    let w = place_in m pid i k p b in
    record {
      some = k.some;
      most = k.most;
      held_long = length-set m.held (place pid i) x ∙ k.held_long;
      reserved_long = k.reserved_long;
      tables_long = k.tables_long;
      process = each_after (λ q j h. 1 ≤ q) m pid i x w b k.process (λ h e. p.0);
      counted = each_after (λ q j h. 0 < h.holds) m pid i x w b k.counted (λ h e. (new h e).0);
      covered = each_after (λ q j h. is_reserved m (region_of q j) j ≡ true) m pid i x w b k.covered (λ h e. (new h e).1);
    }

pub AreKept-entry : (m : Maps) (pid i : ℕ) (d : Descriptor) → AreKept m → AreKept (with_entry m pid i d)
AreKept-entry m pid i d k = record {
  some = k.some;
  most = k.most;
  held_long = k.held_long;
  reserved_long = k.reserved_long;
  tables_long = length-set m.tables pid (set (table_of m pid) i d) ∙ k.tables_long;
  process = k.process;
  counted = k.counted;
  covered = k.covered;
}

-- more holds at an index that is held
pub AreKept-more : (m : Maps) (pid i n : ℕ) (was : Held) → AreKept m → IsProcess m pid → i < 8192 → 0 < n → Some was ≡ held_at m pid i → AreKept (with_held m pid i (Some (record was { holds = n })))
AreKept-more m pid i n was k p b some e =
    AreKept-set m pid i (Some (record was { holds = n })) k p b
    (λ h f. (let s : n ≡ h.holds = ap holds_in f in omega arith, k.covered pid i was (sym e)))
  where
    holds_in : Option Held → ℕ
    holds_in None = 0
    holds_in (Some h) = h.holds

-- the first holds at an index
pub AreKept-new : (m : Maps) (pid i : ℕ) (held : Held) (d : Descriptor) → AreKept m → IsProcess m pid → i < 8192 → 0 < held.holds → is_reserved m (region_of pid i) i ≡ true → AreKept (with_entry (with_held m pid i (Some held)) pid i d)
AreKept-new m pid i held d k p b some r =
    AreKept-entry (with_held m pid i (Some held)) pid i d
    (AreKept-set m pid i (Some held) k p b (λ h f. (subst (λ (o : Option Held). 0 < holds_in o) f some, r)))
  where
    holds_in : Option Held → ℕ
    holds_in None = 0
    holds_in (Some h) = h.holds

none_some : {A : Type 0} (h : Held) → None ≡ Some h → A
none_some h e = absurd cc

-- the last hold at an index goes
pub AreKept-none : (m : Maps) (pid i : ℕ) (d : Descriptor) → AreKept m → IsProcess m pid → i < 8192 → AreKept (with_entry (with_held m pid i None) pid i d)
AreKept-none m pid i d k p b =
    AreKept-entry (with_held m pid i None) pid i d (AreKept-set m pid i None k p b (λ h f. none_some h f))

is_some_cond : (t : Bool) (x y : Option Held) → is_some (cond t x y) ≡ cond t (is_some x) (is_some y)
is_some_cond true x y = refl
is_some_cond false x y = refl

pub AreMarked-set : (held : List (Option Held)) (marks : List Bool) (p : ℕ) (x : Option Held) (b : Bool) → AreMarked held marks → p < length held → b ≡ is_some x → AreMarked (set held p x) (set marks p b)
AreMarked-set held marks p x b a w e = record {
  marks_long = length-set marks p b ∙ a.marks_long ∙ sym (length-set held p x);
  marked = λ q. get_or-set marks p b false (omega (arith, a.marks_long)) q
      ∙ ap (λ (y : Bool). cond (eqb q p) y (get_or marks q false)) e
      ∙ ap (λ (y : Bool). cond (eqb q p) (is_some x) y) (a.marked q)
      ∙ sym (is_some_cond (eqb q p) x (get_or held q None))
      ∙ ap is_some (sym (get_or-set held p x None w q));
}

pub AreMarked-more : (held : List (Option Held)) (marks : List Bool) (p : ℕ) (was next : Held) → AreMarked held marks → p < length held → Some was ≡ get_or held p (Some was) → AreMarked (set held p (Some next)) marks
AreMarked-more held marks p was next a w e =
    let r : Some was ≡ get_or held p None = get_or_read held p (Some was) w e None in
    record {
      marks_long = a.marks_long ∙ sym (length-set held p (Some next));
      marked = λ q. a.marked q ∙ same q r ∙ sym (is_some_cond (eqb q p) (Some next) (get_or held q None)) ∙ ap is_some (sym (get_or-set held p (Some next) None w q));
    }
  where
    same : (q : ℕ) → Some was ≡ get_or held p None → is_some (get_or held q None) ≡ cond (eqb q p) true (is_some (get_or held q None))
    same q r = elim (cases_eq q p) [
      | inl one ↦ rw (eq-eqb q p one) (subst (λ (x : ℕ). is_some (get_or held x None) ≡ true) (sym one) (ap is_some (sym r)))
      | inr two ↦ sym (cond-false (eqb q p) true (is_some (get_or held q None)) (ne_eqb q p two))
    ]

-- what was read is held at least once
pub counted_read : (m : Maps) (pid i : ℕ) (x : Option Held) → AreKept m → x ≡ held_at m pid i → IfSome x (λ h. 0 < h.holds)
counted_read m pid i None k e = tt
counted_read m pid i (Some h) k e = k.counted pid i h (sym e)

pub counted_some : (m : Maps) (pid i : ℕ) (was : Held) → AreKept m → Some was ≡ held_at m pid i → 0 < was.holds
counted_some m pid i was k e = k.counted pid i was (sym e)

-- where the table has no entry the descriptor is empty
pub no_entry : (o : Option Held) (h : Held) (table : List Descriptor) (i : ℕ) → o ≡ Some h → length table ≤ i → Some empty ≡ descriptor_of o table i
no_entry o h table i e l = rw e (ap (λ (d : Descriptor). Some d) (sym (get_or_past table i empty l)))

-- the maps at first
abbrev pub made : ℕ → Maps
made n = record {
  processes = n;
  held = replicate ((n + 1) * 8192) None;
  reserved = replicate ((n + 2) * 4096) false;
  tables = [] ∷ replicate n (replicate 8192 empty);
}

pub made_held : (n q j : ℕ) → held_at (made n) q j ≡ None
made_held n q j = elim (cases_lt j 8192) [
  | inl small ↦ held_in (made n) q j small ∙ get_or-same ((n + 1) * 8192) (place q j) None
  | inr large ↦ held_out (made n) q j large
]

pub made_reserved : (n : ℕ) (g : Region) (i : ℕ) → is_reserved (made n) g i ≡ false
made_reserved n g i = and_right (ltb i (end_of g)) (get_or (replicate ((n + 2) * 4096) false) (base_of g + i) false) (get_or-same ((n + 2) * 4096) (base_of g + i) false)

-- nothing is held at first
pub AreKept-nothing : (n : ℕ) → 1 ≤ n → n ≤ 64 → AreKept (made n)
AreKept-nothing n l h = record {
  some = l;
  most = h;
  held_long = length-replicate ((n + 1) * 8192) None;
  reserved_long = length-replicate ((n + 2) * 4096) false;
  tables_long = let e : length (replicate n (replicate 8192 empty)) ≡ n = length-replicate n (replicate 8192 empty) in omega arith;
  process = λ q j g e. none_some g (sym (made_held n q j) ∙ e);
  counted = λ q j g e. none_some g (sym (made_held n q j) ∙ e);
  covered = λ q j g e. none_some g (sym (made_held n q j) ∙ e);
}

pub AreMarked-nothing : (held : List (Option Held)) (marks : List Bool) (a b : ℕ) → held ≡ replicate a None → marks ≡ replicate b false → a ≡ b → AreMarked held marks
AreMarked-nothing held marks a b e f s = record {
  marks_long = ap (λ (l : List Bool). length l) f ∙ length-replicate b false ∙ sym s ∙ sym (ap (λ (l : List (Option Held)). length l) e ∙ length-replicate a None);
  marked = λ q. ap (λ (l : List Bool). get_or l q false) f ∙ get_or-same b q false ∙ sym (ap (λ (l : List (Option Held)). is_some (get_or l q None)) e ∙ ap is_some (get_or-same a q None));
}

-- where the next index that is held stands
pub next-held : (m : Maps) (marks : List Bool) (pid from : ℕ) → AreMarked m.held marks
    → chosen (λ k. not (get_or marks (pid * 8192 + k) false)) from 8192 1 ≡ chosen (λ i. not (is_some (held_at m pid i))) from 8192 1
next-held m marks pid from a =
    chosen-same (λ k. not (get_or marks (pid * 8192 + k) false)) (λ i. not (is_some (held_at m pid i))) from 8192 1
    (λ k l h. ap not (a.marked (place pid k) ∙ ap is_some (sym (held_in m pid k h))))

pub AreKept-made : (n : ℕ) (held : List (Option Held)) (reserved : List Bool) (tables : List (List Descriptor)) → 1 ≤ n → n ≤ 64
    → held ≡ replicate ((n + 1) * 8192) None → reserved ≡ replicate ((n + 1 + 1) * 64 * 64) false → tables ≡ [] ∷ replicate n (replicate 8192 empty)
    → AreKept (record { processes = n; held = held; reserved = reserved; tables = tables })
AreKept-made n held reserved tables l h a b d =
    let s : (n + 1 + 1) * 64 * 64 ≡ (n + 2) * 4096 = omega arith in
    rw (a, b, d, s) (AreKept-nothing n l h)

-- a table that has no such entry is too short for it
pub past_entry : (tables : List (List Descriptor)) (pid : ℕ) (t : List Descriptor) (i : ℕ) → pid < length tables → t ≡ get_or tables pid t → None ≡ slice_get t i → length (get_or tables pid []) ≤ i
past_entry tables pid t i w e none =
    let r : t ≡ get_or tables pid [] = get_or_read tables pid t w e [] in
    subst (λ (x : List Descriptor). length x ≤ i) r (elim (slice_get_cases t i).1 [
      | inl inside ↦ (let n : None ≡ Some inside.0 = none ∙ inside.2 in absurd cc)
      | inr past ↦ past.0
    ])
