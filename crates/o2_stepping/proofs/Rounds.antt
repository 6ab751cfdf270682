-- What is needed from one try to the next.
use Rattle.std.proofs.Common.{◌≡◌, ◌⊎◌, inl, inr, ℕ, zero, suc, ◌+◌, ◌/◌, ◌<◌, ◌≤◌, ◌==◌, Bool, true, false, cond, List, [], ◌∷◌, ◌++◌, length, Option, Some, None, IsSome, ap, sym, ◌∙◌, refl, subst, arith, length-append}
use Rattle.std.specs.Prelude.{max, option_map, slice_get}
use Rattle.std.proofs.lemmas.Bool.{false≢true, eqb-true, eq-eqb}
use Rattle.o2_isa.specs.declared.cpu.Cpu.{Cpu}
use Rattle.o2_isa.specs.Presence.{is_in}
use Rattle.o2_isa.specs.View.{bound_in, bound_registers, is_null, is_local}
use Rattle.o2_place.specs.declared.seg_id.SegId.{SegId}
use Rattle.o2_regions.specs.declared.held.Held.{Held}
use Rattle.o2_regions.specs.Maps.{Maps}
use Rattle.o2_run.specs.Room.{name_in, seated}
use Rattle.o2_store.specs.Shelf.{Shelf, SameTables, entry, entry_of}
use Rattle.o2_segbus.specs.Bus.{held_under}
use Rattle.o2_segbus.specs.Seen.{hold_in, hold_of}
use Rattle.o2_segbus.proofs.Holds.{bound_is, under_at}
use Rattle.o2_service.specs.Needs.{AreLive, all_needed, needs, size_in}
use Rattle.o2_service.specs.Told.{IsHeldWell}
use Rattle.o2_stepping.specs.Rooms.{AreNeeded, ages_of, pair_of, room_in, seated_in}
use Rattle.o2_stepping.specs.Shapes.{SameHolds}
use Rattle.o2_stepping.proofs.Bringing.{needs_both}
use Rattle.o2_stepping.proofs.Keeping.{held_stays}
use Rattle.o2_stepping.proofs.Lefts.{ages_both, in_more}
use Rattle.o2_stepping.proofs.Rooms.{need_fits, room_same}
use Rattle.o2_stepping.proofs.Named.{age_is, one_of, or_front, or_back}

abbrev seat_of : Maps → ℕ → ℕ → List (SegId × ℕ)
seat_of m pid s = pair_of (held_under m pid s)

abbrev name_of : Maps → ℕ → ℕ → List ℕ
name_of m pid s = name_in (bound_in (hold_in m pid) s)

-- What the segment registers name.

pub under_same : (m n : Maps) (pid s : ℕ) → SameHolds m n → held_under n pid s ≡ held_under m pid s
under_same m n pid s same = ap (λ (o : Option Held). cond (is_null s) None (cond (is_local s) o None)) (held_stays m n same pid (s / 8))

pub seated_same : (m n : Maps) (pid : ℕ) (c : Cpu) → SameHolds m n → seated_in n pid c ≡ seated_in m pid c
seated_same m n pid c same =
    ap (λ (o : Option Held). pair_of o ++ pair_of (held_under n pid c.cs) ++ pair_of (held_under n pid c.ss) ++ pair_of (held_under n pid c.ds)) (under_same m n pid c.es same)
    ∙ ap (λ (o : Option Held). pair_of (held_under m pid c.es) ++ pair_of o ++ pair_of (held_under n pid c.ss) ++ pair_of (held_under n pid c.ds)) (under_same m n pid c.cs same)
    ∙ ap (λ (o : Option Held). pair_of (held_under m pid c.es) ++ pair_of (held_under m pid c.cs) ++ pair_of o ++ pair_of (held_under n pid c.ds)) (under_same m n pid c.ss same)
    ∙ ap (λ (o : Option Held). pair_of (held_under m pid c.es) ++ pair_of (held_under m pid c.cs) ++ pair_of (held_under m pid c.ss) ++ pair_of o) (under_same m n pid c.ds same)

pub pair_name : (m : Maps) (pid s : ℕ) → ages_of (pair_of (held_under m pid s)) ≡ name_in (bound_in (hold_in m pid) s)
pair_name m pid s = go (held_under m pid s) ∙ ap name_in (sym (bound_is m pid s))
  where
    go : (o : Option Held) → ages_of (pair_of o) ≡ name_in (option_map (hold_of m pid (s / 8)) o)
    go None = refl
    go (Some h) = refl

pub joined : (xs ys : List (SegId × ℕ)) (a b : List ℕ) → ages_of xs ≡ a → ages_of ys ≡ b → ages_of (xs ++ ys) ≡ a ++ b
joined xs ys a b e f = ages_both xs ys ∙ ap (λ (l : List ℕ). l ++ ages_of ys) e ∙ ap (λ (l : List ℕ). a ++ l) f

pub ages_seated : (m : Maps) (pid : ℕ) (c : Cpu) → ages_of (seated_in m pid c) ≡ seated (bound_registers (hold_in m pid) c)
ages_seated m pid c =
    joined (seat_of m pid c.es ++ seat_of m pid c.cs ++ seat_of m pid c.ss) (seat_of m pid c.ds) (name_of m pid c.es ++ name_of m pid c.cs ++ name_of m pid c.ss) (name_of m pid c.ds)
    (joined (seat_of m pid c.es ++ seat_of m pid c.cs) (seat_of m pid c.ss) (name_of m pid c.es ++ name_of m pid c.cs) (name_of m pid c.ss)
    (joined (seat_of m pid c.es) (seat_of m pid c.cs) (name_of m pid c.es) (name_of m pid c.cs) (pair_name m pid c.es)
    (pair_name m pid c.cs)) (pair_name m pid c.ss))
    (pair_name m pid c.ds)

pair_few : (o : Option Held) → length (pair_of o) ≤ 1
pair_few None = omega arith
pair_few (Some h) = omega arith

pub seated_few : (m : Maps) (pid : ℕ) (c : Cpu) → length (seated_in m pid c) ≤ 4
seated_few m pid c =
    let a = pair_few (held_under m pid c.es) in
    let b = pair_few (held_under m pid c.cs) in
    let d = pair_few (held_under m pid c.ss) in
    let e = pair_few (held_under m pid c.ds) in
    let x = length-append (pair_of (held_under m pid c.es)) (pair_of (held_under m pid c.cs)) in
    let y = length-append (pair_of (held_under m pid c.es) ++ pair_of (held_under m pid c.cs)) (pair_of (held_under m pid c.ss)) in
    let z = length-append (pair_of (held_under m pid c.es) ++ pair_of (held_under m pid c.cs) ++ pair_of (held_under m pid c.ss)) (pair_of (held_under m pid c.ds)) in
    omega (arith, a, b, d, e, x, y, z)

-- All are live.

pub live_more : (s : Shelf) (xs ys : List (SegId × ℕ)) → AreLive s xs → AreLive s ys → AreLive s (xs ++ ys)
live_more s xs ys a b = record { each = λ i p e. go xs i p e (λ j q f. a.each j q f) }
  where
    go : (zs : List (SegId × ℕ)) (i : ℕ) (p : SegId × ℕ) → slice_get (zs ++ ys) i ≡ Some p → ((j : ℕ) (q : SegId × ℕ) → slice_get zs j ≡ Some q → IsSome (entry_of s q.0)) → IsSome (entry_of s p.0)
    go [] i p e f = b.each i p e
    go (z ∷ zs) zero p e f = f 0 p e
    go (z ∷ zs) (suc i) p e f = go zs i p e (λ j q h. f (suc j) q h)

pub live_pair : (s : Shelf) (m : Maps) (pid z : ℕ) → IsHeldWell s m → AreLive s (pair_of (held_under m pid z))
live_pair s m pid z well = record { each = λ i p e. go (held_under m pid z) refl i p e }
  where
    none_some : {p : SegId × ℕ} → None ≡ Some p → ⊥
    none_some q = cc

    id_or : SegId → Option (SegId × ℕ) → SegId
    id_or x None = x
    id_or x (Some q) = q.0

    go : (o : Option Held) → held_under m pid z ≡ o → (i : ℕ) (p : SegId × ℕ) → slice_get (pair_of o) i ≡ Some p → IsSome (entry_of s p.0)
    go None h i p e = absurd (none_some e)
    go (Some x) h zero p e = subst (λ (k : SegId). IsSome (entry_of s k)) (ap (id_or x.id) e) (well.live pid (z / 8) x (under_at m pid z x h))
    go (Some x) h (suc i) p e = absurd (none_some e)

pub live_seated : (s : Shelf) (m : Maps) (pid : ℕ) (c : Cpu) → IsHeldWell s m → AreLive s (seated_in m pid c)
live_seated s m pid c well =
    live_more s (seat_of m pid c.es ++ seat_of m pid c.cs ++ seat_of m pid c.ss) (seat_of m pid c.ds)
    (live_more s (seat_of m pid c.es ++ seat_of m pid c.cs) (seat_of m pid c.ss)
    (live_more s (seat_of m pid c.es) (seat_of m pid c.cs) (live_pair s m pid c.es well) (live_pair s m pid c.cs well))
    (live_pair s m pid c.ss well)) (live_pair s m pid c.ds well)

-- None gets another size.

both_zero : (a b : ℕ) → max a b ≡ 0 → (a ≡ 0) × (b ≡ 0)
both_zero a b e = (omega arith, omega arith)

pub none_more : (xs ys : List (SegId × ℕ)) (k : ℕ) → size_in xs k ≡ 0 → size_in ys k ≡ 0 → size_in (xs ++ ys) k ≡ 0
none_more [] ys k e f = f
none_more (x ∷ xs) ys k e f =
    let z = both_zero (cond (k == x.0.key) x.1 0) (size_in xs k) e in
    ap (max (cond (k == x.0.key) x.1 0)) (none_more xs ys k z.1 f) ∙ ap (λ (n : ℕ). max n 0) z.0

pub none_pair : (o : Option Held) (k : ℕ) → size_in (pair_of o) k ≡ 0
none_pair None k = refl
none_pair (Some h) k = go (k == h.id.key)
  where
    go : (b : Bool) → max (cond b 0 0) 0 ≡ 0
    go true = refl
    go false = refl

pub none_seated : (m : Maps) (pid : ℕ) (c : Cpu) (k : ℕ) → size_in (seated_in m pid c) k ≡ 0
none_seated m pid c k =
    none_more (seat_of m pid c.es ++ seat_of m pid c.cs ++ seat_of m pid c.ss) (seat_of m pid c.ds) k
    (none_more (seat_of m pid c.es ++ seat_of m pid c.cs) (seat_of m pid c.ss) k
    (none_more (seat_of m pid c.es) (seat_of m pid c.cs) k (none_pair (held_under m pid c.es) k) (none_pair (held_under m pid c.cs) k))
    (none_pair (held_under m pid c.ss) k)) (none_pair (held_under m pid c.ds) k)

-- Each is still needed.

pub needed_all : (xs : List (SegId × ℕ)) → AreNeeded xs xs
needed_all xs = record { each = λ k e. e }

pub needed_more : (xs ys zs : List (SegId × ℕ)) → AreNeeded xs zs → AreNeeded (xs ++ ys) zs
needed_more xs ys zs a = record { each = λ k e. needs_both xs ys k ∙ or_front (needs xs k) (needs ys k) (a.each k e) }

-- The names of what is needed are of a step's names.

pub named_more : (names : List ℕ) (xs : List (SegId × ℕ)) (h : Held) (o : Option Held) → o ≡ Some h → ((n : ℕ) → is_in n (ages_of xs) ≡ true → is_in n names ≡ true) → is_in h.id.age names ≡ true
    → (n : ℕ) → is_in n (ages_of (xs ++ pair_of o)) ≡ true → is_in n names ≡ true
named_more names xs h o is all one n e = go (one_of (is_in n (ages_of xs)) (is_in n (ages_of (pair_of o))) (sym (in_more n xs (pair_of o)) ∙ e))
  where
    same : (m : ℕ) → is_in n (m ∷ []) ≡ true → m ≡ n
    same m f = grind arith

    go : (is_in n (ages_of xs) ≡ true) ⊎ (is_in n (ages_of (pair_of o)) ≡ true) → is_in n names ≡ true
    go (inl a) = all n a
    go (inr b) = (let f = subst (λ (z : Option Held). is_in n (ages_of (pair_of z)) ≡ true) is b in subst (λ (m : ℕ). is_in m names ≡ true) (same h.id.age f) one)

age_needed : (s : Shelf) (need : List (SegId × ℕ)) (k : ℕ) → ((i : ℕ) (p : SegId × ℕ) → slice_get need i ≡ Some p → IsSome (entry_of s p.0)) → needs need k ≡ true → is_in (entry s k).age (ages_of need) ≡ true
age_needed s [] k live e = absurd (false≢true e)
age_needed s (p ∷ ps) k live e =
    let rest = λ (f : needs ps k ≡ true). age_needed s ps k (λ i q h. live (suc i) q h) f in
    elim (one_of (k == p.0.key) (needs ps k) e) [
      | inl a ↦
          or_front (p.0.age == (entry s k).age) (is_in (entry s k).age (ages_of ps))
          (eq-eqb p.0.age (entry s k).age (sym (ap (λ (j : ℕ). (entry s j).age) (eqb-true k p.0.key a) ∙ age_is s p.0 (live 0 p refl))))
      | inr b ↦ or_back (p.0.age == (entry s k).age) (is_in (entry s k).age (ages_of ps)) (rest b)
    ]

-- what lacks room for these has none for those names, before anything moved
pub lacks_room : (s t : Shelf) (need : List (SegId × ℕ)) (names : List ℕ) → SameTables s t → AreLive t need → ((k : ℕ) → size_in need k ≡ 0)
    → ((n : ℕ) → is_in n (ages_of need) ≡ true → is_in n names ≡ true) → t.places.size < all_needed t need → s.places.size < room_in s names
lacks_room s t need names w live none named lt =
    let le = need_fits t need names none (λ k e. named (entry t k).age (age_needed t need k (λ i p h. live.each i p h) e)) in
    let same = room_same s t names w in
    let size = w.size in
    omega (arith, lt, le, same, size)

-- One more segment.

pub own_in : (o : Option Held) (h : Held) → o ≡ Some h → is_in h.id.age (ages_of (pair_of o)) ≡ true
own_in o h is = subst (λ (x : Option Held). is_in h.id.age (ages_of (pair_of x)) ≡ true) (sym is) (or_front (h.id.age == h.id.age) false (eq-eqb h.id.age h.id.age refl))

pub length_one : (old : List (SegId × ℕ)) (o : Option Held) (h : Held) → o ≡ Some h → length (old ++ pair_of o) ≡ length old + 1
length_one old o h is = length-append old (pair_of o) ∙ ap (λ (x : Option Held). length old + length (pair_of x)) is

pub length_some : (old : List (SegId × ℕ)) (o : Option Held) → IsSome o → length (old ++ pair_of o) ≡ length old + 1
length_some old None some = absurd (false≢true some)
length_some old (Some h) some = length_one old (Some h) h refl

-- there is a place for what was missed
pub no_place : (o : Option Held) (h : Held) (l k : ℕ) → o ≡ Some h → l + k ≤ 7 → (o ≡ None) ⊎ (k ≡ 16) → ⊥
no_place o h l k is few (inl none) = (let e : None ≡ Some h = sym none ∙ is in cc)
no_place o h l k is few (inr full) = omega (arith, few, full)
