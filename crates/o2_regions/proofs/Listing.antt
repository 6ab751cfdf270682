-- A list of places tells each accessed bit that is set.
use Rattle.std.proofs.Common.{◌≡◌, ◌⊎◌, inl, inr, ℕ, ◌+◌, ◌*◌, ◌/◌, ◌%◌, ◌<◌, ◌≤◌, Bool, true, false, ◌==◌, List, [], ◌∷◌, length, Option, None, Some, arith, refl, sym}
use Rattle.std.proofs.Common.{ap, ◌∙◌, subst, get_or, set, replicate, zero, suc, cond, nat_lt, unwrap_or}
use Rattle.std.proofs.lemmas.Bool.{cases_eq, cases_lt, false≢true}
use Rattle.std.proofs.lemmas.Bool.Decides.{nat_tests}
use Rattle.std.proofs.lemmas.List.{get_or_past, get_or-set_same, get_or-set_other, length-set}
use Rattle.o2_desc.specs.declared.descriptor.Descriptor.{Descriptor}
use Rattle.o2_desc.specs.Bits.{is_accessed, marked, unmarked}
use Rattle.o2_desc.specs.Bytes.{empty, entry, mark_at}
use Rattle.o2_regions.specs.declared.listed.Listed.{Listed}
use Rattle.o2_place.specs.declared.seg_id.SegId.{SegId}
use Rattle.o2_regions.specs.declared.accessed.Next.{Next}
use Rattle.o2_regions.specs.declared.accessed.Next.TheVariants as next
use Rattle.o2_regions.specs.declared.held.Held.{Held}
use Rattle.o2_regions.specs.declared.regions.Used.{Used}
use Rattle.o2_regions.specs.declared.regions.Used.TheVariants as used
use Rattle.o2_regions.specs.Accessed.{AreListed, ClearsPlace, ClearsUse, Lists, is_used, unmark_at, segment_of}
use Rattle.o2_regions.specs.Uses.{used_in, used_of, segment_in}
use Rattle.o2_regions.specs.Maps.{Maps, held_at}
use Rattle.o2_regions.specs.Described.{entry_in}

-- where the descriptor of a process's index is written, and what stays
entry_cases : (tables : List (List Descriptor)) (pid i : ℕ) (d : Descriptor) (p : ℕ) → pid < length tables
    → (entry_in (set tables pid (set (get_or tables pid []) i d)) p ≡ entry_in tables p) ⊎ ((p / 8192 ≡ pid) × (p % 8192 ≡ i) × (entry_in (set tables pid (set (get_or tables pid []) i d)) p ≡ d))
entry_cases tables pid i d p w = elim (cases_eq (p / 8192) pid) [
  | inr other ↦ inl (ap (λ (t : List Descriptor). entry t (p % 8192)) (get_or-set_other tables pid (p / 8192) _ [] other))
  | inl same ↦ in_table same (get_or-set_same tables pid (set (get_or tables pid []) i d) [] w)
]
  where
    t : List Descriptor
    t = get_or tables pid []

    in_table : p / 8192 ≡ pid → get_or (set tables pid (set t i d)) pid [] ≡ set t i d
        → (entry_in (set tables pid (set t i d)) p ≡ entry_in tables p) ⊎ ((p / 8192 ≡ pid) × (p % 8192 ≡ i) × (entry_in (set tables pid (set t i d)) p ≡ d))
    in_table same e =
        let f : get_or (set tables pid (set t i d)) (p / 8192) [] ≡ set t i d = ap (λ (k : ℕ). get_or (set tables pid (set t i d)) k []) same ∙ e in
        let g : get_or tables (p / 8192) [] ≡ t = ap (λ (k : ℕ). get_or tables k []) same in
        elim (cases_eq (p % 8192) i) [
          | inr other ↦ inl (ap (λ (z : List Descriptor). entry z (p % 8192)) f ∙ (get_or-set_other t i (p % 8192) d empty other ∙ ap (λ (z : List Descriptor). entry z (p % 8192)) (sym g)))
          | inl here ↦ elim (cases_lt (p % 8192) (length t)) [
            | inl l ↦ inr (same, here, ap (λ (z : List Descriptor). entry z (p % 8192)) f ∙ subst (λ (k : ℕ). get_or (set t k d) (p % 8192) empty ≡ d) here (get_or-set_same t (p % 8192) d empty l))
            | inr l ↦ inl (ap (λ (z : List Descriptor). entry z (p % 8192)) f ∙ (get_or_past (set t i d) (p % 8192) empty (omega (arith, l, length-set t i d)) ∙ (sym (get_or_past t (p % 8192) empty l) ∙ ap (λ (z : List Descriptor). entry z (p % 8192)) (sym g))))
          ]
        ]

used_by : (tables new : List (List Descriptor)) (p : ℕ) → entry_in new p ≡ entry_in tables p → is_used new p ≡ true → is_used tables p ≡ true
used_by tables new p e u = ap (λ (d : Descriptor). is_accessed d.access) (sym e) ∙ u

-- a descriptor is written whose accessed bit is listed, if it is set
pub listed_set : (tables : List (List Descriptor)) (l k : Listed) (pid i : ℕ) (d : Descriptor) → AreListed tables l → k.count ≤ 256 → ((p : ℕ) → Lists l p → Lists k p) → pid < length tables → i < 8192
    → (is_accessed (entry (get_or tables pid []) i).access ≡ false → is_accessed d.access ≡ true → Lists k (pid * 8192 + i))
    → AreListed (set tables pid (set (get_or tables pid []) i d)) k
listed_set tables l k pid i d a few keeps w small has = record { few = few; all = λ p u. at p u (entry_cases tables pid i d p w) }
  where
    new : List (List Descriptor)
    new = set tables pid (set (get_or tables pid []) i d)

    written : (p : ℕ) → p / 8192 ≡ pid → p % 8192 ≡ i → is_accessed d.access ≡ true → (b : Bool) → is_accessed (entry (get_or tables pid []) i).access ≡ b → Lists k p
    written p e f u false was = (let g : pid * 8192 + i ≡ p = omega (arith, e, f) in subst (Lists k) g (has was u))
    written p e f u true was =
        let g : entry_in tables p ≡ entry (get_or tables pid []) i = ap (λ (z : ℕ). entry (get_or tables z []) (p % 8192)) e ∙ ap (entry (get_or tables pid [])) f in
        keeps p (a.all p (ap (λ (z : Descriptor). is_accessed z.access) g ∙ was))

    at : (p : ℕ) → is_used new p ≡ true → (entry_in new p ≡ entry_in tables p) ⊎ ((p / 8192 ≡ pid) × (p % 8192 ≡ i) × (entry_in new p ≡ d)) → Lists k p
    at p u (inl e) = keeps p (a.all p (used_by tables new p e u))
    at p u (inr e) = written p e.0 e.1 (ap (λ (z : Descriptor). is_accessed z.access) (sym e.2) ∙ u) (is_accessed (entry (get_or tables pid []) i).access) refl

cleared : (a : ℕ) → is_accessed (unmarked a) ≡ false
cleared a = let q : unmarked a / 1 % 2 ≡ 0 = omega arith in ap (λ (n : ℕ). n == 1) q

-- the accessed bit of an index is cleared
abbrev without : List Descriptor → ℕ → Descriptor
without t i = record (entry t i) { access = unmarked (entry t i).access }

pub listed_clear : (tables : List (List Descriptor)) (l : Listed) (pid i : ℕ) → AreListed tables l → pid < length tables → i < 8192 → AreListed (set tables pid (unmark_at (get_or tables pid []) i)) l
listed_clear tables l pid i a w small =
    listed_set tables l l pid i (without (get_or tables pid []) i) a a.few (λ p h. h) w small
    (λ b u. absurd (false≢true (sym (cleared (entry (get_or tables pid []) i).access) ∙ u)))

-- the accessed bit of an index is set, which is listed
pub listed_mark : (tables : List (List Descriptor)) (l k : Listed) (pid i : ℕ) → AreListed tables l → k.count ≤ 256 → ((p : ℕ) → Lists l p → Lists k p) → pid < length tables → i < 8192
    → (is_accessed (entry (get_or tables pid []) i).access ≡ false → is_accessed 1 ≡ true → Lists k (pid * 8192 + i))
    → AreListed (set tables pid (mark_at (get_or tables pid []) i)) k
listed_mark tables l k pid i a few keeps w small has =
    listed_set tables l k pid i (record (entry (get_or tables pid []) i) { access = marked (entry (get_or tables pid []) i).access }) a few keeps w small (λ b u. has b refl)

unused_at : (tables : List (List Descriptor)) (pid i q : ℕ) → pid < length tables → q / 8192 ≡ pid → q % 8192 ≡ i → is_used (set tables pid (unmark_at (get_or tables pid []) i)) q ≡ false
unused_at tables pid i q w e f =
    ap (λ (k : ℕ). is_accessed (entry (get_or new k []) (q % 8192)).access) e
    ∙ (ap (λ (t : List Descriptor). is_accessed (entry t (q % 8192)).access) (get_or-set_same tables pid (set t i (without t i)) [] w)
    ∙ (ap (λ (k : ℕ). is_accessed (entry (set t i (without t i)) k).access) f ∙ in_table))
  where
    t : List Descriptor
    t = get_or tables pid []

    new : List (List Descriptor)
    new = set tables pid (unmark_at t i)

    in_table : is_accessed (entry (set t i (without t i)) i).access ≡ false
    in_table = elim (cases_lt i (length t)) [
      | inl l ↦ ap (λ (d : Descriptor). is_accessed d.access) (get_or-set_same t i (without t i) empty l) ∙ cleared (entry t i).access
      | inr l ↦ ap (λ (d : Descriptor). is_accessed d.access) (get_or_past (set t i (without t i)) i empty (omega (arith, l, length-set t i (without t i))))
    ]

-- a place left the list whose bit isn't set
pub listed_stale : (tables : List (List Descriptor)) (l k : Listed) (q : ℕ) → AreListed tables l → k.count ≤ 256 → ((p : ℕ) → Lists l p → (p ≡ q) ⊎ Lists k p) → is_used tables q ≡ false → AreListed tables k
listed_stale tables l k q a few keeps none = record { few = few; all = λ p u. at p u (keeps p (a.all p u)) }
  where
    at : (p : ℕ) → is_used tables p ≡ true → (p ≡ q) ⊎ Lists k p → Lists k p
    at p u (inl e) = absurd (false≢true (sym none ∙ subst (λ (z : ℕ). is_used tables z ≡ true) e u))
    at p u (inr h) = h

-- the accessed bit of a place that left the list is clear
pub listed_less : (tables : List (List Descriptor)) (l k : Listed) (pid i q : ℕ) → AreListed tables l → k.count ≤ 256 → ((p : ℕ) → Lists l p → (p ≡ q) ⊎ Lists k p) → pid < length tables → q / 8192 ≡ pid → q % 8192 ≡ i
    → AreListed (set tables pid (unmark_at (get_or tables pid []) i)) k
listed_less tables l k pid i q a few keeps w e f = record { few = few; all = λ p u. at p u (entry_cases tables pid i (without t i) p w) }
  where
    t : List Descriptor
    t = get_or tables pid []

    new : List (List Descriptor)
    new = set tables pid (unmark_at t i)

    kept : (p : ℕ) → is_used new p ≡ true → (p ≡ q) ⊎ Lists k p → Lists k p
    kept p u (inr h) = h
    kept p u (inl h) = absurd (false≢true (sym (unused_at tables pid i q w e f) ∙ subst (λ (z : ℕ). is_used new z ≡ true) h u))

    at : (p : ℕ) → is_used new p ≡ true → (entry_in new p ≡ entry_in tables p) ⊎ ((p / 8192 ≡ pid) × (p % 8192 ≡ i) × (entry_in new p ≡ without t i)) → Lists k p
    at p u (inl g) = kept p u (keeps p (a.all p (used_by tables new p g u)))
    at p u (inr g) = absurd (false≢true (sym (cleared (entry t i).access) ∙ (ap (λ (z : Descriptor). is_accessed z.access) (sym g.2) ∙ u)))

-- a list without places, where no bit is set
pub listed_none : (tables : List (List Descriptor)) (l : Listed) → ((p : ℕ) → is_used tables p ≡ false) → l.count ≡ 0 → AreListed tables l
listed_none tables l none e = record { few = omega (arith, e); all = λ p u. absurd (false≢true (sym (none p) ∙ u)) }

-- a list at its end has all
pub none_used : (tables : List (List Descriptor)) (l : Listed) → AreListed tables l → l.count ≡ 0 → l.more ≡ false → (p : ℕ) → is_used tables p ≡ false
none_used tables l a e m p = go (is_used tables p) refl
  where
    absurd_at : Lists l p → ⊥
    absurd_at (inl t) = false≢true (sym m ∙ t)
    absurd_at (inr h) = omega (arith, h.below, e)

    go : (b : Bool) → is_used tables p ≡ b → b ≡ false
    go false u = refl
    go true u = absurd (absurd_at (a.all p u))

-- the tables at first
empties : (m j : ℕ) → get_or (replicate m empty) j empty ≡ empty
empties zero j = refl
empties (suc m) zero = refl
empties (suc m) (suc j) = empties m j

rows_empty : (n m k j : ℕ) → get_or (get_or (replicate n (replicate m empty)) k []) j empty ≡ empty
rows_empty zero m k j = refl
rows_empty (suc n) m zero j = empties m j
rows_empty (suc n) m (suc k) j = rows_empty n m k j

first_empty : (n m k j : ℕ) → get_or (get_or ([] ∷ replicate n (replicate m empty)) k []) j empty ≡ empty
first_empty n m zero j = refl
first_empty n m (suc k) j = rows_empty n m k j

pub listed_made : (tables : List (List Descriptor)) (n m : ℕ) (l : Listed) → tables ≡ [] ∷ replicate n (replicate m empty) → l.count ≡ 0 → AreListed tables l
listed_made tables n m l t e =
    listed_none tables l (λ p. ap (λ (z : List (List Descriptor)). is_used z p) t ∙ ap (λ (d : Descriptor). is_accessed d.access) (first_empty n m (p / 8192) (p % 8192))) e

-- What the list says next, of maps.

pub said_segment : (m : Maps) (new : List (List Descriptor)) (n : Next) (o : Option SegId) (u : Used) → ((p : ℕ) → n ≡ next.Place p → ClearsPlace m.tables new p) → used_of m.held n ≡ u → segment_in u ≡ Some o → ClearsUse m (record m { tables = new }) o
said_segment m new (next.Place p) o u c e s =
    let w = c p refl in
    let q : p / 8192 * 8192 + p % 8192 ≡ p = omega arith in
    record {
      pid = p / 8192;
      index = p % 8192;
      small = omega arith;
      was = w.was;
      segment = at (p % 8192) (omega arith) ∙ (ap (λ (k : ℕ). segment_of (get_or m.held k None)) q ∙ place (get_or m.held p None) (ap segment_in e ∙ s));
      now = ap (λ (t : List (List Descriptor)). record m { tables = t }) w.now;
    }
  where
    at : (i : ℕ) → i < 8192 → segment_of (held_at m (p / 8192) i) ≡ segment_of (get_or m.held (p / 8192 * 8192 + i) None)
    at i l = ap (λ (b : Bool). segment_of (cond b (get_or m.held (p / 8192 * 8192 + i) None) None)) (let t : nat_lt i 8192 ≡ true = grind (arith, nat_tests) in t)

    place : (h : Option Held) → segment_in (used_in h) ≡ Some o → segment_of h ≡ o
    place None z = ap (λ (x : Option (Option SegId)). unwrap_or x None) z
    place (Some h) z = ap (λ (x : Option (Option SegId)). unwrap_or x None) z
said_segment m new next.Stale o u c e s = absurd (none_some (ap segment_in e ∙ s))
  where
    none_some : ◌≡◌ {A = Option (Option SegId)} None (Some o) → ⊥
    none_some z = cc
said_segment m new next.Clear o u c e s = absurd (none_some (ap segment_in e ∙ s))
  where
    none_some : ◌≡◌ {A = Option (Option SegId)} None (Some o) → ⊥
    none_some z = cc
said_segment m new next.More o u c e s = absurd (none_some (ap segment_in e ∙ s))
  where
    none_some : ◌≡◌ {A = Option (Option SegId)} None (Some o) → ⊥
    none_some z = cc

pub said_stays : (m : Maps) (new : List (List Descriptor)) (n : Next) (u : Used) → (((p : ℕ) → n ≡ next.Place p → ⊥) → new ≡ m.tables) → used_of m.held n ≡ u → segment_in u ≡ None → new ≡ m.tables
said_stays m new (next.Place p) u f e s = absurd (place (get_or m.held p None) (ap segment_in e ∙ s))
  where
    place : (h : Option Held) → segment_in (used_in h) ≡ None → ⊥
    place None z = cc
    place (Some h) z = cc
said_stays m new next.Stale u f e s = f (λ p z. cc)
said_stays m new next.Clear u f e s = f (λ p z. cc)
said_stays m new next.More u f e s = f (λ p z. cc)

pub said_clear : (held : List (Option Held)) (n : Next) (u : Used) → used_of held n ≡ u → u ≡ used.Clear → n ≡ next.Clear
said_clear held (next.Place p) u e s = absurd (place (get_or held p None) (e ∙ s))
  where
    place : (h : Option Held) → used_in h ≡ used.Clear → ⊥
    place None z = cc
    place (Some h) z = cc
said_clear held next.Stale u e s = absurd (let z : used.Stale ≡ used.Clear = e ∙ s in cc)
said_clear held next.Clear u e s = refl
said_clear held next.More u e s = absurd (let z : used.More ≡ used.Clear = e ∙ s in cc)
