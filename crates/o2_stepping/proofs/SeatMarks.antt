-- What a selector names wasn't discarded: by the test of it, where it is in memory, and where a step misses it.
use Rattle.std.proofs.Common.{◌≡◌, ℕ, zero, suc, ◌/◌, ◌==◌, Bool, true, false, not, cond, ◌&&◌, if◌then◌else◌, List, [], ◌∷◌, ◌++◌, Option, Some, None, is_some, IsSome, ap, sym, ◌∙◌, refl, subst, arith}
use Rattle.std.specs.Prelude.{option_map, slice_get}
use Rattle.std.proofs.lemmas.Bool.{eq-eqb, false≢true}
use Rattle.o2_base.specs.declared.selector.Selector.{Selector}
use Rattle.o2_entries.specs.declared.Attr.{Attr}
use Rattle.o2_entries.specs.declared.Entry.{Entry}
use Rattle.o2_entries.specs.Tables.{slot_at}
use Rattle.o2_isa.specs.declared.cpu.Cpu.{Cpu}
use Rattle.o2_isa.specs.Presence.{is_in}
use Rattle.o2_isa.specs.View.{Agrees, Hold, KeepsFrame, found, is_local, is_null}
use Rattle.o2_place.specs.declared.seg_id.SegId.{SegId}
use Rattle.o2_regions.specs.declared.held.Held.{Held}
use Rattle.o2_regions.specs.Maps.{Maps, held_at}
use Rattle.o2_store.specs.Shelf.{IsShelf, SameTables, Shelf, aged, entry, entry_of, entry_or}
use Rattle.o2_segbus.specs.declared.seg_bus.SegBus.{SegBus}
use Rattle.o2_segbus.specs.Bus.{bus_view, held_under}
use Rattle.o2_segbus.specs.Calls.{view_of}
use Rattle.o2_segbus.specs.Guards.{AreAged}
use Rattle.o2_segbus.specs.Seen.{AreNamed, gone_in, gone_under, hold_in, hold_of, present_in, seen_with}
use Rattle.o2_segbus.specs.Words.{gone_held, is_gone}
use Rattle.o2_segbus.proofs.Called.{leaves}
use Rattle.o2_segbus.proofs.Holds.{under_at}
use Rattle.o2_segbus.proofs.Rulings.{gone_out}
use Rattle.o2_service.specs.Needs.{AreWhole}
use Rattle.o2_service.specs.Told.{IsHeldWell}
use Rattle.o2_gate.specs.Pointed.{IsAway}
use Rattle.o2_stepping.specs.Rooms.{ages_of, pair_of, seated_in}
use Rattle.o2_stepping.specs.Seated.{HasWholeSeats, IsWholeUnder, are_whole, is_whole}
use Rattle.o2_stepping.specs.Shapes.{SameHolds}
use Rattle.o2_stepping.proofs.Keeping.{held_stays}
use Rattle.o2_stepping.proofs.Named.{or_back, or_front}
use Rattle.o2_stepping.proofs.Rounds.{live_seated}
use Rattle.o2_stepping.proofs.Wholes.{gone_by_key}

-- Lists of what is needed.

pub whole_more : (s : Shelf) (xs ys : List (SegId × ℕ)) → AreWhole s xs → AreWhole s ys → AreWhole s (xs ++ ys)
whole_more s xs ys a b = record { each = λ i p e. go xs i p e (λ j q f. a.each j q f) }
  where
    go : (zs : List (SegId × ℕ)) (i : ℕ) (p : SegId × ℕ) → slice_get (zs ++ ys) i ≡ Some p → ((j : ℕ) (q : SegId × ℕ) → slice_get zs j ≡ Some q → (entry s q.0.key).attr.gone ≡ false)
        → (entry s p.0.key).attr.gone ≡ false
    go [] i p e f = b.each i p e
    go (z ∷ zs) zero p e f = f 0 p e
    go (z ∷ zs) (suc i) p e f = go zs i p e (λ j q h. f (suc j) q h)

pub whole_pair : (s : Shelf) (m : Maps) (pid sel : ℕ) → IsWholeUnder s m pid sel → AreWhole s (pair_of (held_under m pid sel))
whole_pair s m pid sel w = record { each = λ i p e. go (held_under m pid sel) refl i p e }
  where
    none_some : {p : SegId × ℕ} → None ≡ Some p → ⊥
    none_some q = cc

    id_or : SegId → Option (SegId × ℕ) → SegId
    id_or x None = x
    id_or x (Some q) = q.0

    go : (o : Option Held) → held_under m pid sel ≡ o → (i : ℕ) (p : SegId × ℕ) → slice_get (pair_of o) i ≡ Some p → (entry s p.0.key).attr.gone ≡ false
    go None is i p e = absurd (none_some e)
    go (Some h) is zero p e = subst (λ (x : SegId). (entry s x.key).attr.gone ≡ false) (ap (id_or h.id) e) (w h is)
    go (Some h) is (suc i) p e = absurd (none_some e)

abbrev seat_of : Maps → ℕ → ℕ → List (SegId × ℕ)
seat_of m pid sel = pair_of (held_under m pid sel)

pub whole_seated : (s : Shelf) (m : Maps) (pid : ℕ) (c : Cpu) → HasWholeSeats s m pid c → AreWhole s (seated_in m pid c)
whole_seated s m pid c x =
    whole_more s (seat_of m pid c.es ++ seat_of m pid c.cs ++ seat_of m pid c.ss) (seat_of m pid c.ds)
    (whole_more s (seat_of m pid c.es ++ seat_of m pid c.cs) (seat_of m pid c.ss)
    (whole_more s (seat_of m pid c.es) (seat_of m pid c.cs) (whole_pair s m pid c.es x.es) (whole_pair s m pid c.cs x.cs)) (whole_pair s m pid c.ss x.ss)) (whole_pair s m pid c.ds x.ds)

pub all_whole_same : (s t : Shelf) (need : List (SegId × ℕ)) → SameTables s t → AreWhole s need → AreWhole t need
all_whole_same s t need w x = record { each = λ i p e. ap (λ (a : Attr). a.gone) (w.same p.0.key).attr ∙ x.each i p e }

-- What is in memory wasn't discarded.

none_is : {p : SegId × ℕ} → None ≡ Some p → ⊥
none_is e = cc

age_in : (need : List (SegId × ℕ)) (i : ℕ) (p : SegId × ℕ) → slice_get need i ≡ Some p → is_in p.0.age (ages_of need) ≡ true
age_in [] i p e = absurd (none_is e)
age_in (q ∷ qs) zero p e =
    let same : q ≡ p = cc in
    or_front (q.0.age == p.0.age) (is_in p.0.age (ages_of qs)) (eq-eqb q.0.age p.0.age (ap (λ (x : SegId × ℕ). x.0.age) same))
age_in (q ∷ qs) (suc i) p e = or_back (q.0.age == p.0.age) (is_in p.0.age (ages_of qs)) (age_in qs i p e)

pub whole_here : (s : Shelf) (m : Maps) (pid : ℕ) (c : Cpu) → IsShelf s → AreAged s → IsHeldWell s m → ((n : ℕ) → is_in n (ages_of (seated_in m pid c)) ≡ true → present_in s n ≡ true)
    → AreWhole s (seated_in m pid c)
whole_here s m pid c shelf once well here = record {
  each = λ i p e.
      by p.0 (gone_by_key s once p.0 ((live_seated s m pid c well).each i p e)) (here p.0.age (age_in (seated_in m pid c) i p e)) (entry s p.0.key).attr.gone refl;
}
  where
    by : (id : SegId) → gone_in s id.age ≡ (entry s id.key).attr.gone → present_in s id.age ≡ true → (g : Bool) → (entry s id.key).attr.gone ≡ g → (entry s id.key).attr.gone ≡ false
    by id same present true is = absurd (false≢true (sym (gone_out s id.age shelf (same ∙ is)) ∙ present))
    by id same present false is = is

-- The test.

pub mark_tells : (o : Option Entry) (a : Attr) → Some a ≡ option_map (λ (e : Entry). e.attr) o → a.gone ≡ is_gone o
mark_tells None a e = absurd (cc)
mark_tells (Some x) a e = let same : a ≡ x.attr = cc in ap (λ (z : Attr). z.gone) same

pub no_mark : (o : Option Entry) → None ≡ option_map (λ (e : Entry). e.attr) o → false ≡ is_gone o
no_mark None e = refl
no_mark (Some x) e = absurd (cc)

pub whole_tells : (s : Shelf) (o : Option Held) (id : SegId) (b : Bool) → Some id ≡ option_map (λ (h : Held). h.id) o → b ≡ is_gone (entry_of s id) → not b ≡ not (gone_held s o)
whole_tells s None id b e f = absurd (cc)
whole_tells s (Some h) id b e f = let same : id ≡ h.id = cc in ap not (f ∙ ap (λ (i : SegId). is_gone (entry_of s i)) same)

pub none_whole : (s : Shelf) (o : Option Held) → None ≡ option_map (λ (h : Held). h.id) o → true ≡ not (gone_held s o)
none_whole s None e = refl
none_whole s (Some h) e = absurd (cc)

live_gone : (age : ℕ) (o : Option Entry) → IsSome (aged age o) → is_gone (aged age o) ≡ (entry_or o).attr.gone
live_gone age None l = absurd (false≢true l)
live_gone age (Some e) l = at (e.age == age) l
  where
    at : (b : Bool) → is_some (cond b (Some e) None) ≡ true → is_gone (cond b (Some e) None) ≡ e.attr.gone
    at true z = refl
    at false z = absurd (false≢true z)

module _ (s : Shelf) (m : Maps) (pid : ℕ) (well : IsHeldWell s m) where
  gone_is : (sel : ℕ) (h : Held) → held_under m pid sel ≡ Some h → gone_held s (held_under m pid sel) ≡ (entry s h.id.key).attr.gone
  gone_is sel h e =
      ap (gone_held s) e ∙ live_gone h.id.age (slot_at s.entries h.id.key) (well.live pid (sel / 8) h (under_at m pid sel h e))

  not_gone : (b : Bool) → not b ≡ true → b ≡ false
  not_gone true e = absurd (false≢true e)
  not_gone false e = refl

  under_tested : (sel : ℕ) → is_whole s m pid sel ≡ true → IsWholeUnder s m pid sel
  under_tested sel e h is = sym (gone_is sel h is) ∙ not_gone (gone_held s (held_under m pid sel)) e

  all_four : (a b c d : Bool) → (a && b && c && d) ≡ true → (a ≡ true) × (b ≡ true) × (c ≡ true) × (d ≡ true)
  all_four a b c d e = (grind arith, grind arith, grind arith, grind arith)

  pub seats_tested : (c : Cpu) → are_whole s m pid c ≡ true → HasWholeSeats s m pid c
  seats_tested c e =
      let x = all_four (is_whole s m pid c.es) (is_whole s m pid c.cs) (is_whole s m pid c.ss) (is_whole s m pid c.ds) e in
      record { es = under_tested c.es x.0; cs = under_tested c.cs x.1; ss = under_tested c.ss x.2; ds = under_tested c.ds x.3 }

  tests : (sel : ℕ) → IsWholeUnder s m pid sel → is_whole s m pid sel ≡ true
  tests sel w = go (held_under m pid sel) refl
    where
      go : (o : Option Held) → held_under m pid sel ≡ o → is_whole s m pid sel ≡ true
      go None is = ap (λ (x : Option Held). not (gone_held s x)) is
      go (Some h) is = ap not (gone_is sel h is ∙ w h is)

  four_true : (a b c d : Bool) → a ≡ true → b ≡ true → c ≡ true → d ≡ true → (a && b && c && d) ≡ true
  four_true a b c d p q r t = grind arith

  pub not_tested : (c : Cpu) → are_whole s m pid c ≡ false → HasWholeSeats s m pid c → ⊥
  not_tested c e x =
      let all = four_true (is_whole s m pid c.es) (is_whole s m pid c.cs) (is_whole s m pid c.ss) (is_whole s m pid c.ds) (tests c.es x.es) (tests c.cs x.cs) (tests c.ss x.ss) (tests c.ds x.ds) in
      false≢true (sym e ∙ all)

-- On the bus.

held_whole : (b : SegBus) → AreNamed b.store.now b.regions.now → (sel : ℕ) (x : Hold) → found (view_of b) sel ≡ Some x → (view_of b).discarded x.name ≡ false → IsWholeUnder b.store.now b.regions.now b.pid sel
unfolding bus_view seen_with hold_in
held_whole b named sel x found_it whole h under = by (is_null sel) (is_local sel) under found_it
  where
    s : Shelf
    s = b.store.now

    m : Maps
    m = b.regions.now

    marked : held_at m b.pid (sel / 8) ≡ Some h → hold_of m b.pid (sel / 8) h ≡ x → (entry s h.id.key).attr.gone ≡ false
    marked at same =
        sym (ap (gone_under s) (named b.pid (sel / 8) h at))
        ∙ (ap (λ (z : Hold). gone_in s z.name) same ∙ whole)

    by : (n l : Bool) → cond n None (cond l (held_at m b.pid (sel / 8)) None) ≡ Some h → cond l (option_map (hold_of m b.pid (sel / 8)) (held_at m b.pid (sel / 8))) None ≡ Some x
        → (entry s h.id.key).attr.gone ≡ false
    by true l e f = absurd (cc)
    by false false e f = absurd (cc)
    by false true e f =
        (let there : option_map (hold_of m b.pid (sel / 8)) (Some h) ≡ Some x = ap (option_map (hold_of m b.pid (sel / 8))) (sym e) ∙ f in
        let same : hold_of m b.pid (sel / 8) h ≡ x = cc in
        marked e same)

-- what is away wasn't discarded
pub away_whole : (b : SegBus) → AreNamed b.store.now b.regions.now → (z : Selector) → IsAway (view_of b) z → IsWholeUnder b.store.now b.regions.now b.pid z.0
away_whole b named z a = held_whole b named z.0 a.hold a.found_it a.whole

-- what is held is live, where the registers are those of the bus
pub named_now : (b : SegBus) (c : Cpu) → Agrees c (view_of b) → AreNamed b.store.now b.regions.now
named_now b c agrees =
    let same : KeepsFrame (view_of b) (view_of b) = record { held = refl; gate = refl; size = refl; present = refl; discarded = refl; rest = refl; hidden = refl } in
    ((leaves b b same).next c agrees).named

pub under_stays : (s t : Shelf) (m n : Maps) (pid sel : ℕ) → SameTables s t → SameHolds m n → IsWholeUnder s m pid sel → IsWholeUnder t n pid sel
under_stays s t m n pid sel w k x h e =
    ap (λ (a : Attr). a.gone) (w.same h.id.key).attr
    ∙ x h (sym (ap (λ (o : Option Held). if is_null sel then None else (if is_local sel then o else None)) (held_stays m n k pid (sel / 8))) ∙ e)
