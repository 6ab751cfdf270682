-- Drops at one index, and the end of its reservation.
use Rattle.std.proofs.Common.{◌≡◌, ◌≢◌, ℕ, ◌+◌, ◌-◌, ◌<◌, ◌≤◌, inl, inr, Bool, true, false, cond, max, ◌&&◌, not, List, length, set, get_or, Option, Some, None, refl, sym, ap, ◌∙◌, subst, arith}
use Rattle.std.specs.Prelude.{nat_lt, nat_le, ◌==◌, if◌then◌else◌, IfSome}
use Rattle.std.proofs.lemmas.Bool.{cases_eq, cases_lt, eq-eqb, ne_eqb}
use Rattle.std.proofs.lemmas.List.{get_or_past, get_or-set_other, get_or-set_same, length-set}
use Rattle.o2_desc.specs.declared.descriptor.Descriptor.{Descriptor}
use Rattle.o2_desc.specs.Bytes.{empty}
use Rattle.o2_regions.specs.declared.held.Cause.{Cause}
use Rattle.o2_regions.specs.declared.held.Cause.TheVariants.{Called}
use Rattle.o2_regions.specs.declared.held.Held.{Held}
use Rattle.o2_regions.specs.declared.held.Region.{Region}
use Rattle.o2_regions.specs.declared.held.Region.TheVariants.{Private, Shared}
use Rattle.o2_regions.specs.Kept.{AreKept}
use Rattle.o2_regions.specs.Maps.{IsProcess, Maps, dropped, emptied, held_at, is_reserved, less_of, some_holds, table_of, with_reserved}
use Rattle.o2_regions.proofs.AfterCalls.{dropped-processes, dropped-reserved, held_at-dropped, table_of-dropped}
use Rattle.o2_regions.proofs.Reserves.{is_reserved-with}
use Rattle.o2_segbus.specs.Settled.{descriptor_at}
use Rattle.o2_stands.specs.Stands.{IsIndex}
use Rattle.o2_stands.proofs.Moves.{index_same}
use Rattle.o2_ends.specs.Drops.{Drops, Empties, left_after}
use Rattle.o2_ends.specs.LetsGo.{FreesAt, FreesOwn, FreesShared, end_in, goes_with, is_last_member, is_left, is_left_of, is_loaded}
use Rattle.o2_ends.proofs.Somes.{some_all}

-- the descriptor of an index that was emptied or not
emptied_entry : (t : List Descriptor) (i j : ℕ) → get_or (set t i empty) j empty ≡ (if j == i then empty else get_or t j empty)
emptied_entry t i j = elim (cases_eq j i) [
  | inr other ↦ rw (ne_eqb j i other) (get_or-set_other t i j empty empty other)
  | inl same ↦ rw (eq-eqb j i same) (elim (cases_lt i (length t)) [
    | inl l ↦ ap (λ (k : ℕ). get_or (set t i empty) k empty) same ∙ get_or-set_same t i empty empty l
    | inr past ↦ (let l = length-set t i empty in get_or_past (set t i empty) j empty (omega (arith, l, past, same)))
  ])
]

entry_left : (was : Held) (t : List Descriptor) (i j : ℕ) → get_or (emptied (Some was) t i) j empty ≡ (if (j == i) && (was.holds - 1 == 0) then empty else get_or t j empty)
entry_left was t i j = go (was.holds - 1 == 0) (j == i) refl
  where
    go : (last same : Bool) → (j == i) ≡ same → get_or (cond last (set t i empty) t) j empty ≡ cond (same && last) empty (get_or t j empty)
    go true true e = emptied_entry t i j ∙ ap (λ (b : Bool). cond b empty (get_or t j empty)) e
    go true false e = emptied_entry t i j ∙ ap (λ (b : Bool). cond b empty (get_or t j empty)) e
    go false true e = refl
    go false false e = refl

length_left : (o : Option Held) (t : List Descriptor) (i : ℕ) → length (emptied o t i) ≡ length t
length_left None t i = refl
length_left (Some was) t i = go (was.holds - 1 == 0)
  where
    go : (last : Bool) → length (cond last (set t i empty) t) ≡ length t
    go true = length-set t i empty
    go false = refl

no_drops : (m : Maps) (pid i : ℕ) (was : Held) → 0 < was.holds → held_at m pid i ≡ Some was → Drops m m pid i was 0
no_drops m pid i was some e =
    let whole : was.holds - 0 ≡ was.holds = omega arith in
    let n : (was.holds - 0 == 0) ≡ false = (let l : was.holds - 0 ≢ 0 = λ q. absurd (omega (arith, q, some)) in ne_eqb (was.holds - 0) 0 l) in
    record {
      processes = refl;
      reserved = refl;
      lengths = λ q. refl;
      held = λ q j. elim (cases_eq q pid) [
        | inr other ↦ rw (ne_eqb q pid other) refl
        | inl same ↦ elim (cases_eq j i) [
          | inr apart ↦ rw (eq-eqb q pid same, ne_eqb j i apart) refl
          | inl also ↦ rw (eq-eqb q pid same, eq-eqb j i also, n) (subst (λ (a : ℕ). held_at m a j ≡ Some was) (sym same) (subst (λ (b : ℕ). held_at m pid b ≡ Some was) (sym also) e) ∙ ap (λ (h : ℕ). Some (record was { holds = h })) (sym whole))
        ]
      ];
      described = λ q j. rw n (go (q == pid) (j == i) (descriptor_at m q j));
    }
  where
    go : (a b : Bool) (d : Descriptor) → d ≡ cond ((a && b) && false) empty d
    go true true d = refl
    go true false d = refl
    go false b d = refl

-- one more
module _ (m n : Maps) (pid i : ℕ) (was : Held) (k : ℕ) (kept : AreKept n) (process : IsProcess n pid) (low : i < 8192) (l : k < was.holds) (d : Drops m n pid i was k) where
  some_left : left_after was k ≡ Some (record was { holds = was.holds - k })
  some_left = (let x : was.holds - k ≢ 0 = λ q. absurd (omega (arith, q, l)) in rw (ne_eqb (was.holds - k) 0 x) refl)

  here : held_at n pid i ≡ Some (record was { holds = was.holds - k })
  here = d.held pid i ∙ rw (eq-eqb pid pid refl, eq-eqb i i refl) some_left

  less : less_of (held_at n pid i) ≡ left_after was (k + 1)
  less = ap less_of here ∙ (let x : was.holds - k - 1 ≡ was.holds - (k + 1) = omega arith in ap (λ (h : ℕ). if h == 0 then None else Some (record was { holds = h })) x)

  held_more : (q j : ℕ) → held_at (dropped n pid i) q j ≡ (if (q == pid) && (j == i) then left_after was (k + 1) else held_at m q j)
  held_more q j =
      held_at-dropped n pid i q j kept process low
      ∙ (ap (λ (o : Option Held). if (q == pid) && (j == i) then o else held_at n q j) less
      ∙ go ((q == pid) && (j == i)) (d.held q j))
    where
      go : (b : Bool) → held_at n q j ≡ cond b (left_after was k) (held_at m q j) → cond b (left_after was (k + 1)) (held_at n q j) ≡ cond b (left_after was (k + 1)) (held_at m q j)
      go true e = refl
      go false e = e

  entry_more : (q j : ℕ) → descriptor_at (dropped n pid i) q j ≡ (if ((q == pid) && (j == i)) && (was.holds - (k + 1) == 0) then empty else descriptor_at m q j)
  entry_more q j =
      ap (λ (t : List Descriptor). get_or t j empty) (table_of-dropped n pid i q kept process)
      ∙ at (q == pid) refl (d.described q j)
    where
      last : (was.holds - k == 0) ≡ false
      last = (let x : was.holds - k ≢ 0 = λ z. absurd (omega (arith, z, l)) in ne_eqb (was.holds - k) 0 x)

      before : (b : Bool) → descriptor_at n q j ≡ (if b && (was.holds - k == 0) then empty else descriptor_at m q j) → descriptor_at n q j ≡ descriptor_at m q j
      before b e = e ∙ rw last (none b)
        where
          none : (b : Bool) → cond (b && false) empty (descriptor_at m q j) ≡ descriptor_at m q j
          none true = refl
          none false = refl

      at : (b : Bool) → (q == pid) ≡ b → descriptor_at n q j ≡ (if (b && (j == i)) && (was.holds - k == 0) then empty else descriptor_at m q j)
          → get_or (cond b (emptied (held_at n pid i) (table_of n pid) i) (table_of n q)) j empty ≡ (if (b && (j == i)) && (was.holds - (k + 1) == 0) then empty else descriptor_at m q j)
      at false t e = e
      at true t e =
          (let same : descriptor_at n q j ≡ descriptor_at m q j = before (j == i) e in
          let one : q ≡ pid = grind arith in
          let x : was.holds - k - 1 ≡ was.holds - (k + 1) = omega arith in
          ap (λ (o : Option Held). get_or (emptied o (table_of n pid) i) j empty) here
          ∙ (entry_left (record was { holds = was.holds - k }) (table_of n pid) i j
          ∙ (ap (λ (h : ℕ). if (j == i) && (h == 0) then empty else get_or (table_of n pid) j empty) x
          ∙ ap (λ (y : Descriptor). if (j == i) && (was.holds - (k + 1) == 0) then empty else y) (ap (λ (a : ℕ). descriptor_at n a j) (sym one) ∙ same))))

  pub drops_more : Drops m (dropped n pid i) pid i was (k + 1)
  drops_more = record {
    processes = dropped-processes n pid i ∙ d.processes;
    reserved = dropped-reserved n pid i ∙ d.reserved;
    lengths = λ q. ap (λ (t : List Descriptor). length t) (table_of-dropped n pid i q kept process) ∙ (at q (q == pid) refl ∙ d.lengths q);
    held = held_more;
    described = entry_more;
  }
    where
      at : (q : ℕ) (b : Bool) → (q == pid) ≡ b → length (cond b (emptied (held_at n pid i) (table_of n pid) i) (table_of n q)) ≡ length (table_of n q)
      at q false e = refl
      at q true e = length_left (held_at n pid i) (table_of n pid) i ∙ ap (λ (a : ℕ). length (table_of n a)) (let one : q ≡ pid = grind arith in sym one)

pub all_drops : (m n : Maps) (pid i : ℕ) (was : Held) (k : ℕ) → k ≡ was.holds → Drops m n pid i was k → Empties m n pid i
all_drops m n pid i was k e d =
    let last : (was.holds - k == 0) ≡ true = (let x : was.holds - k ≡ 0 = omega (arith, e) in eq-eqb (was.holds - k) 0 x) in
    record {
      processes = d.processes;
      reserved = d.reserved;
      lengths = d.lengths;
      held = λ q j. d.held q j ∙ ap (λ (o : Option Held). if (q == pid) && (j == i) then o else held_at m q j) (rw last refl);
      described = λ q j. d.described q j ∙ rw last (go ((q == pid) && (j == i)) (descriptor_at m q j));
    }
  where
    go : (b : Bool) (x : Descriptor) → cond (b && true) empty x ≡ cond b empty x
    go true x = refl
    go false x = refl

-- Reservations.

one_index : (i j : ℕ) → (nat_le i j && nat_lt j (i + 1)) ≡ (j == i)
one_index i j = grind arith

pub own_freed : (m : Maps) (pid : ℕ) → AreKept m → IsProcess m pid → FreesOwn m (with_reserved m (Private pid) 1 4095 false) pid
own_freed m pid kept process = record {
  maps = refl;
  own = λ q i x.
      is_reserved-with m (Private pid) (Private q) 1 4095 i false kept process x.region (omega arith)
      ∙ ap (λ (b : Bool). if b then false else is_reserved m (Private q) i) (inside (q == pid) i x.from x.to);
  shared = λ j x. is_reserved-with m (Private pid) Shared 1 4095 j false kept process tt (omega arith);
}
  where
    all : (i : ℕ) → 1 ≤ i → i < 4096 → (nat_le 1 i && nat_lt i (1 + 4095)) ≡ true
    all i a b = grind arith

    inside : (b : Bool) (i : ℕ) → 1 ≤ i → i < 4096 → (b && (nat_le 1 i && nat_lt i (1 + 4095))) ≡ b
    inside true i low high = all i low high
    inside false i low high = refl

-- A shared index.

pub none_freed : (m : Maps) (test : ℕ → Bool) → ((j : ℕ) → IsIndex m Shared j → test j ≡ false) → FreesShared m m test
none_freed m test none = record {
  maps = refl;
  own = λ q j x. refl;
  shared = λ j x. ap (λ (b : Bool). if b then false else is_reserved m Shared j) (sym (none j x));
}

no_and : (b : Bool) → (b && false) ≡ false
no_and true = refl
no_and false = refl

kept_shared : (m : Maps) (i : ℕ) (cause : Cause) → is_left m i cause ≡ false → FreesShared m m (λ j. (j == i) && is_left m i cause)
kept_shared m i cause e = none_freed m (λ (j : ℕ). (j == i) && is_left m i cause) (λ j x. ap (λ (b : Bool). (j == i) && b) e ∙ no_and (j == i))

pub loaded_shared : (m : Maps) (i : ℕ) (cause : Cause) → is_loaded cause ≡ true → FreesShared m m (λ j. (j == i) && is_left m i cause)
loaded_shared m i cause e = kept_shared m i cause (ap (λ (b : Bool). not b && not (some_holds m i m.processes)) e)

pub held_shared : (m : Maps) (i : ℕ) (cause : Cause) → some_holds m i m.processes ≡ true → FreesShared m m (λ j. (j == i) && is_left m i cause)
held_shared m i cause e = kept_shared m i cause (ap (λ (b : Bool). not (is_loaded cause) && not b) e ∙ no_and (not (is_loaded cause)))

pub freed_shared : (m : Maps) (i : ℕ) (cause : Cause) → AreKept m → 4096 ≤ i → i < 8192 → is_loaded cause ≡ false → some_holds m i m.processes ≡ false
    → FreesShared m (with_reserved m Shared i 1 false) (λ j. (j == i) && is_left m i cause)
freed_shared m i cause kept high low load none = record {
  maps = refl;
  own = λ q j x. is_reserved-with m Shared (Private q) i 1 j false kept tt x.region (omega (arith, low));
  shared = λ j x.
      is_reserved-with m Shared Shared i 1 j false kept tt x.region (omega (arith, low))
      ∙ (ap (λ (b : Bool). if b then false else is_reserved m Shared j) (one_index i j ∙ sym (and_true (j == i)))
      ∙ ap (λ (b : Bool). if (j == i) && b then false else is_reserved m Shared j) (sym left));
}
  where
    left : is_left m i cause ≡ true
    left = ap (λ (b : Bool). not b && not (some_holds m i m.processes)) load ∙ ap not none

    and_true : (b : Bool) → (b && true) ≡ b
    and_true true = refl
    and_true false = refl

-- The shared indexes of a run, one by one.

-- those below one that nobody holds
abbrev pub is_below : Maps → (from end j : ℕ) → Bool
is_below m from end j = (nat_le from j && nat_lt j end) && not (some_holds m j m.processes)

pub below_none : (m : Maps) (from : ℕ) → FreesShared m m (λ j. is_below m from from j)
below_none m from = none_freed m (λ (j : ℕ). is_below m from from j) (λ j x. ap (λ (b : Bool). b && not (some_holds m j m.processes)) (empty from j))
  where
    empty : (f j : ℕ) → (nat_le f j && nat_lt j f) ≡ false
    empty f j = grind arith

-- what is held stays as another reservation is made or ends
pub same_holds : (m n : Maps) (j : ℕ) → n ≡ record m { reserved = n.reserved } → some_holds n j n.processes ≡ some_holds m j m.processes
same_holds m n j is = some_all m n j (ap (λ (x : Maps). x.processes) is) (λ q. ap (λ (x : Maps). held_at x q j) is)

pub below_more : (l m n : Maps) (from k : ℕ) → from ≤ k → FreesShared l m (λ j. is_below l from k j) → FreesShared m n (λ j. (j == k) && is_left m k Called) → FreesShared l n (λ j. is_below l from (k + 1) j)
below_more l m n from k low a b = record {
  maps = b.maps ∙ ap (λ (x : Maps). record x { reserved = n.reserved }) a.maps;
  own = λ q i x. b.own q i (index_same m l (Private q) i (sym processes) x) ∙ a.own q i x;
  shared = λ j x. b.shared j (index_same m l Shared j (sym processes) x) ∙ (ap (λ (r : Bool). if (j == k) && is_left m k Called then false else r) (a.shared j x) ∙ go j (j == k) refl);
}
  where
    processes : m.processes ≡ l.processes
    processes = ap (λ (x : Maps). x.processes) a.maps

    here : (f k j : ℕ) → f ≤ k → (j == k) ≡ true → (nat_le f j && nat_lt j (k + 1)) ≡ true
    here f k j l e = grind arith

    not_yet : (f k j : ℕ) → (j == k) ≡ true → (nat_le f j && nat_lt j k) ≡ false
    not_yet f k j e = grind arith

    other : (f k j : ℕ) → (j == k) ≡ false → (nat_le f j && nat_lt j (k + 1)) ≡ (nat_le f j && nat_lt j k)
    other f k j e = grind arith

    number : (a b : ℕ) → (a == b) ≡ true → a ≡ b
    number a b e = grind arith

    go : (j : ℕ) (c : Bool) → (j == k) ≡ c
        → (if (j == k) && is_left m k Called then false else (if is_below l from k j then false else is_reserved l Shared j)) ≡ (if is_below l from (k + 1) j then false else is_reserved l Shared j)
    go j false e = rw (e, other from k j e) refl
    go j true e =
        rw (e, here from k j low e, not_yet from k j e)
        (ap (λ (h : Bool). if not h then false else is_reserved l Shared j) (same_holds l m k a.maps ∙ ap (λ (i : ℕ). some_holds l i l.processes) (sym (number j k e))))

-- a whole stretch
pub stretch_freed : (m n : Maps) (h : Held) (from end : ℕ) → from ≡ max h.first 4096 → end ≡ end_in h → some_holds m h.first m.processes ≡ false → FreesShared m n (λ j. is_below m from end j) → FreesShared m n (λ j. is_left_of m h j)
stretch_freed m n h from end first last none a = record {
  maps = a.maps;
  own = a.own;
  shared = λ j x. a.shared j x ∙ ap (λ (b : Bool). if b then false else is_reserved m Shared j) (same j x.from);
}
  where
    low : (f g j : ℕ) → f ≡ max g 4096 → 4096 ≤ j → nat_le f j ≡ nat_le g j
    low f g j e l = grind arith

    same : (j : ℕ) → 4096 ≤ j → is_below m from end j ≡ is_left_of m h j
    same j l =
        ap (λ (b : Bool). (b && nat_lt j end) && not (some_holds m j m.processes)) (low from h.first j first l)
        ∙ (ap (λ (e : ℕ). (nat_le h.first j && nat_lt j e) && not (some_holds m j m.processes)) last
        ∙ ap (λ (b : Bool). (nat_le h.first j && nat_lt j (end_in h)) && (not b && not (some_holds m j m.processes))) (sym none))

-- where there is none, or its first index is held
pub no_stretch : (m : Maps) (h : Held) (from end : ℕ) → from ≡ max h.first 4096 → end ≡ end_in h → end ≤ from → FreesShared m m (λ j. is_left_of m h j)
no_stretch m h from end first last less = none_freed m (λ (j : ℕ). is_left_of m h j) (λ j x. ap (λ (b : Bool). b && (not (some_holds m h.first m.processes) && not (some_holds m j m.processes))) (out from end h.first (end_in h) j first last less x.from))
  where
    out : (f e g d j : ℕ) → f ≡ max g 4096 → e ≡ d → e ≤ f → 4096 ≤ j → (nat_le g j && nat_lt j d) ≡ false
    out f e g d j a b c l = grind arith

pub held_stretch : (m : Maps) (h : Held) → some_holds m h.first m.processes ≡ true → FreesShared m m (λ j. is_left_of m h j)
held_stretch m h e = none_freed m (λ (j : ℕ). is_left_of m h j) (λ j x. ap (λ (b : Bool). (nat_le h.first j && nat_lt j (end_in h)) && (not b && not (some_holds m j m.processes))) e ∙ no_and (nat_le h.first j && nat_lt j (end_in h)))

-- What was held at an index.

pub own_stays : (m : Maps) (pid i : ℕ) (h : Held) → i < 4096 → FreesShared m m (λ j. goes_with m pid i h j)
own_stays m pid i h low = none_freed m (λ (j : ℕ). goes_with m pid i h j) (λ j x. ap (λ (b : Bool). not b && (if h.reserved == 0 then (j == i) && is_left m i h.cause else is_last_member m pid i h && is_left_of m h j)) (below i low))
  where
    below : (i : ℕ) → i < 4096 → nat_lt i 4096 ≡ true
    below i l = grind arith

above : (i : ℕ) → 4096 ≤ i → nat_lt i 4096 ≡ false
above i l = grind arith

pub alone_goes : (m n : Maps) (pid i : ℕ) (h : Held) → 4096 ≤ i → h.reserved ≡ 0 → FreesShared m n (λ j. (j == i) && is_left m i h.cause) → FreesShared m n (λ j. goes_with m pid i h j)
alone_goes m n pid i h high alone a = record {
  maps = a.maps;
  own = a.own;
  shared = λ j x. a.shared j x ∙ sym (rw (above i high, eq-eqb h.reserved 0 alone) refl);
}

pub run_goes : (m n : Maps) (pid i : ℕ) (h : Held) → 4096 ≤ i → h.reserved ≢ 0 → is_last_member m pid i h ≡ true → FreesShared m n (λ j. is_left_of m h j) → FreesShared m n (λ j. goes_with m pid i h j)
run_goes m n pid i h high run last a = record {
  maps = a.maps;
  own = a.own;
  shared = λ j x. a.shared j x ∙ sym (rw (above i high, ne_eqb h.reserved 0 run) (ap (λ (b : Bool). if b && is_left_of m h j then false else is_reserved m Shared j) last));
}

pub run_stays : (m : Maps) (pid i : ℕ) (h : Held) → 4096 ≤ i → h.reserved ≢ 0 → is_last_member m pid i h ≡ false → FreesShared m m (λ j. goes_with m pid i h j)
run_stays m pid i h high run last = none_freed m (λ (j : ℕ). goes_with m pid i h j) (λ j x. rw (above i high, ne_eqb h.reserved 0 run) (ap (λ (b : Bool). b && is_left_of m h j) last))

-- the drops before it leave what is reserved
pub frees_at : (m mid n : Maps) (pid i : ℕ) (h : Held) → Empties m mid pid i → FreesShared mid n (λ j. goes_with mid pid i h j) → FreesAt m n (λ j. goes_with n pid i h j)
frees_at m mid n pid i h d f = record {
  own = λ q j x. f.own q j (index_same mid m (Private q) j (sym d.processes) x) ∙ before (Private q) j;
  shared = λ j x.
      f.shared j (index_same mid m Shared j (sym d.processes) x)
      ∙ (ap (λ (r : Bool). if goes_with mid pid i h j then false else r) (before Shared j) ∙ ap (λ (b : Bool). if b then false else is_reserved m Shared j) (sym (goes j)));
}
  where
    before : (g : Region) (j : ℕ) → is_reserved mid g j ≡ is_reserved m g j
    before g j = ap (λ (z : List Bool). is_reserved (record mid { reserved = z }) g j) d.reserved

    some : (j : ℕ) → some_holds n j n.processes ≡ some_holds mid j mid.processes
    some j = same_holds mid n j f.maps

    next : held_at n pid (i + 1) ≡ held_at mid pid (i + 1)
    next = ap (λ (x : Maps). held_at x pid (i + 1)) f.maps

    goes : (j : ℕ) → goes_with n pid i h j ≡ goes_with mid pid i h j
    goes j = rw (some i, some h.first, some j, next) refl

-- what is said of all holds
pub all_of_it : (o : Option Held) (was : Held) (holds : ℕ) → IfSome o (λ h. h.holds ≡ holds) → o ≡ Some was → was.holds ≡ holds
all_of_it None was holds f e = absurd (let x : None ≡ Some was = e in cc)
all_of_it (Some h) was holds f e = ap (λ (o : Option Held). holds_in o) (sym e) ∙ f
  where
    holds_in : Option Held → ℕ
    holds_in None = 0
    holds_in (Some x) = x.holds
