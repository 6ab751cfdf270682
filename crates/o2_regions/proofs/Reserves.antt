-- What is reserved, and what may be chosen.
use Rattle.std.proofs.Common.{◌≡◌, ℕ, zero, suc, ◌+◌, ◌*◌, ◌<◌, ◌≤◌, ◌&&◌, ◌||◌, inl, inr, length, cond, ltb, nat_le, nat_lt, refl, sym, ap, ◌∙◌, arith, true, false, Bool, Option, Some, None, get_or, subst}
use Rattle.std.specs.Option.{is_some}
use Rattle.std.proofs.lemmas.Bool.{cases_eq, eq-eqb, ne_eqb, cases_lt, and_parts, cond-true, cond-false, lt-ltb, le-ltb, both_ways, or_cases, or_parts}
use Rattle.std.proofs.lemmas.Bool.Decides.{nat_tests}
use Rattle.std.proofs.lemmas.List.{get_or_past}
use Rattle.o2_desc.specs.Choice.{chosen}
use Rattle.o2_regions.specs.declared.held.Held.{Held}
use Rattle.o2_regions.specs.declared.held.Region.{Region}
use Rattle.o2_regions.specs.declared.held.Region.TheVariants.{Private, Shared}
use Rattle.o2_regions.specs.Maps.{Maps, IsProcess, IsRegion, base_of, end_of, fill, first_of, held_at, is_held, is_reserved, is_taken, place, region_of, same_region, some_holds, with_reserved}
use Rattle.o2_regions.specs.Kept.{AreKept}
use Rattle.o2_regions.proofs.Keeps.{held_in, held_out}
use Rattle.o2_regions.proofs.Scans.{chosen-same}
use Rattle.o2_regions.proofs.Writes.{get_or-fill, length-fill}

-- the marks of a region lie among those of all
pub region_in : (m : Maps) (g : Region) → AreKept m → IsRegion m g → base_of g + end_of g ≤ length m.reserved
region_in m (Private pid) k p = omega (arith, k.reserved_long, p.1)
region_in m Shared k p = omega (arith, k.reserved_long, k.some)

pub marks_few : (m : Maps) → AreKept m → length m.reserved ≤ 270336
marks_few m k = omega (arith, k.reserved_long, k.most)

pub end_small : (g : Region) → end_of g ≤ 8192
end_small (Private pid) = omega arith
end_small Shared = omega arith

-- more is reserved
true_stays : (t b : Bool) → b ≡ true → cond t true b ≡ true
true_stays true b e = refl
true_stays false b e = e

-- whoever holds an index does so as one of the processes
pub holder_in : (m : Maps) (pid i : ℕ) (h : Held) → AreKept m → held_at m pid i ≡ Some h → IsProcess m pid × (i < 8192)
holder_in m pid i h k e = elim (cases_lt i 8192) [
  | inr large ↦ (let n : None ≡ Some h = sym (held_out m pid i large) ∙ e in absurd cc)
  | inl small ↦ elim (cases_lt (place pid i) (length m.held)) [
    | inl within ↦ ((k.process pid i h e, omega (arith, k.held_long)), small)
    | inr past ↦ (let n : None ≡ Some h = sym (held_in m pid i small ∙ get_or_past m.held (place pid i) None past) ∙ e in absurd cc)
  ]
]

pub AreKept-reserve : (m : Maps) (g : Region) (first count : ℕ) → AreKept m → IsRegion m g → first + count ≤ end_of g → AreKept (with_reserved m g first count true)
AreKept-reserve m g first count k p h =
    let w : base_of g + first + count ≤ length m.reserved = omega (arith, region_in m g k p) in
    record {
      some = k.some;
      most = k.most;
      held_long = k.held_long;
      reserved_long = length-fill m.reserved (base_of g + first) count true w ∙ k.reserved_long;
      tables_long = k.tables_long;
      process = k.process;
      counted = k.counted;
      covered = λ q j x e.
          (let r = region_of q j in
          let t = and_parts (nat_lt j (end_of r)) (get_or m.reserved (base_of r + j) false) (k.covered q j x e) in
          subst (λ (b : Bool). (b && get_or (fill m.reserved (base_of g + first) count true) (base_of r + j) false) ≡ true) (sym t.0)
          (get_or-fill m.reserved (base_of g + first) count true false w (base_of r + j) ∙ true_stays (nat_le (base_of g + first) (base_of r + j) && nat_lt (base_of r + j) (base_of g + first + count)) (get_or m.reserved (base_of r + j) false) t.1));
    }

-- who holds an index that no process holds: nobody
pub unheld_shared : (m : Maps) (i n pid : ℕ) → some_holds m i n ≡ false → 1 ≤ pid → pid ≤ n → is_some (held_at m pid i) ≡ false
unfolding some_holds
unheld_shared m i zero pid e a b = absurd (omega arith)
unheld_shared m i (suc n) pid e a b =
    let p = or_parts (is_some (held_at m (n + 1) i)) (some_holds m i n) e in
    elim (cases_eq pid (n + 1)) [
      | inl same ↦ subst (λ (x : ℕ). is_some (held_at m x i) ≡ false) (sym same) p.0
      | inr other ↦ unheld_shared m i n pid p.1 a (omega arith)
    ]

pub held_shared : (m : Maps) (i n : ℕ) → some_holds m i n ≡ true → (pid : ℕ) × (is_some (held_at m pid i) ≡ true)
unfolding some_holds
held_shared m i zero e = absurd cc
held_shared m i (suc n) e = elim (or_cases (is_some (held_at m (n + 1) i)) (some_holds m i n) e) [
  | inl here ↦ (n + 1, here)
  | inr there ↦ held_shared m i n there
]

some_is : (o : Option Held) → is_some o ≡ true → (h : Held) × (o ≡ Some h)
some_is None e = absurd cc
some_is (Some h) e = (h, refl)

pub is_private : (pid i : ℕ) → i < 4096 → region_of pid i ≡ Private pid
is_private pid i h = cond-true (ltb i 4096) (Private pid) Shared (lt-ltb i 4096 h)

pub is_shared : (pid i : ℕ) → 4096 ≤ i → region_of pid i ≡ Shared
is_shared pid i h = cond-false (ltb i 4096) (Private pid) Shared (le-ltb i 4096 h)

-- what is held is reserved
pub held_reserved : (m : Maps) (g : Region) (i : ℕ) → AreKept m → first_of g ≤ i → i < end_of g → is_held m g i ≡ true → is_reserved m g i ≡ true
held_reserved m (Private pid) i k a b e =
    let h = some_is (held_at m pid i) e in
    subst (λ (r : Region). is_reserved m r i ≡ true) (is_private pid i b) (k.covered pid i h.0 h.1)
held_reserved m Shared i k a b e =
    let s = held_shared m i m.processes e in
    let h = some_is (held_at m s.0 i) s.1 in
    subst (λ (r : Region). is_reserved m r i ≡ true) (is_shared s.0 i a) (k.covered s.0 i h.0 h.1)

join : (t r b : Bool) → t ≡ true → ((b ≡ true) → (t && r) ≡ true) → r ≡ (b || (t && r))
join true r true e f = f refl
join true r false e f = refl
join false r b e f = absurd cc

-- what may not be chosen is what is reserved
pub taken_is : (m : Maps) (g : Region) (i : ℕ) → AreKept m → first_of g ≤ i → i < end_of g → get_or m.reserved (base_of g + i) false ≡ is_taken m g i
taken_is m g i k a b = join (nat_lt i (end_of g)) (get_or m.reserved (base_of g + i) false) (is_held m g i) (lt-ltb i (end_of g) b) (held_reserved m g i k a b)

pub chosen-taken : (m : Maps) (g : Region) (n : ℕ) → AreKept m
    → chosen (λ k. get_or m.reserved (base_of g + k) false) (first_of g) (end_of g) n ≡ chosen (is_taken m g) (first_of g) (end_of g) n
chosen-taken m g n k = chosen-same (λ i. get_or m.reserved (base_of g + i) false) (is_taken m g) (first_of g) (end_of g) n (λ i a b. taken_is m g i k a b)

-- an index that is held isn't among those of a region that nobody holds
apart : (m : Maps) (g : Region) (first count : ℕ) → AreKept m → IsRegion m g → first_of g ≤ first → first + count ≤ end_of g
    → ((i : ℕ) → first ≤ i → i < first + count → is_held m g i ≡ false) → (q j : ℕ) (h : Held) → held_at m q j ≡ Some h
    → (nat_le (base_of g + first) (base_of (region_of q j) + j) && nat_lt (base_of (region_of q j) + j) (base_of g + first + count)) ≡ false
apart m g first count k p a b free q j h e = elim (cases_lt j 4096) [
  | inl low ↦ rw (is_private q j low) (private_apart m g first count q j h k p a b free e low)
  | inr high ↦ rw (is_shared q j high) (shared_apart m g first count q j h k p a b free e high)
]
  where
    private_apart : (m : Maps) (g : Region) (first count q j : ℕ) (h : Held) → AreKept m → IsRegion m g → first_of g ≤ first → first + count ≤ end_of g
        → ((i : ℕ) → first ≤ i → i < first + count → is_held m g i ≡ false) → held_at m q j ≡ Some h → j < 4096
        → (nat_le (base_of g + first) ((q + 1) * 4096 + j) && nat_lt ((q + 1) * 4096 + j) (base_of g + first + count)) ≡ false
    private_apart m Shared first count q j h k p a b free e low =
        let r = k.process q j h e in
        grind (arith, nat_tests)
    private_apart m (Private pid) first count q j h k p a b free e low = elim (cases_eq q pid) [
      | inr other ↦ far q pid j first count other low b
      | inl same ↦ elim (cases_lt j first) [
        | inl before ↦ below q pid j first count same before
        | inr from ↦ elim (cases_lt j (first + count)) [
          | inr past ↦ above q pid j first count same past
          | inl inside ↦
              (let f : is_some (held_at m q j) ≡ false = subst (λ (x : ℕ). is_some (held_at m x j) ≡ false) (sym same) (free j from inside) in
              absurd (both_ways (is_some (held_at m q j)) f (ap is_some e)))
        ]
      ]
    ]
      where
        far : (q pid j first count : ℕ) → (q ≡ pid → ⊥) → j < 4096 → first + count ≤ 4096 → (nat_le ((pid + 1) * 4096 + first) ((q + 1) * 4096 + j) && nat_lt ((q + 1) * 4096 + j) ((pid + 1) * 4096 + first + count)) ≡ false
        far q pid j first count n l b = grind (arith, nat_tests)

        below : (q pid j first count : ℕ) → q ≡ pid → j < first → (nat_le ((pid + 1) * 4096 + first) ((q + 1) * 4096 + j) && nat_lt ((q + 1) * 4096 + j) ((pid + 1) * 4096 + first + count)) ≡ false
        below q pid j first count n l = grind (arith, nat_tests)

        above : (q pid j first count : ℕ) → q ≡ pid → first + count ≤ j → (nat_le ((pid + 1) * 4096 + first) ((q + 1) * 4096 + j) && nat_lt ((q + 1) * 4096 + j) ((pid + 1) * 4096 + first + count)) ≡ false
        above q pid j first count n l = grind (arith, nat_tests)

    shared_apart : (m : Maps) (g : Region) (first count q j : ℕ) (h : Held) → AreKept m → IsRegion m g → first_of g ≤ first → first + count ≤ end_of g
        → ((i : ℕ) → first ≤ i → i < first + count → is_held m g i ≡ false) → held_at m q j ≡ Some h → 4096 ≤ j
        → (nat_le (base_of g + first) (0 + j) && nat_lt (0 + j) (base_of g + first + count)) ≡ false
    shared_apart m (Private pid) first count q j h k p a b free e high =
        let s = (holder_in m q j h k e).1 in
        grind (arith, nat_tests)
    shared_apart m Shared first count q j h k p a b free e high =
        let s = (holder_in m q j h k e).0 in
        elim (cases_lt j first) [
          | inl before ↦ grind (arith, nat_tests)
          | inr from ↦ elim (cases_lt j (first + count)) [
            | inr past ↦ grind (arith, nat_tests)
            | inl inside ↦ absurd (both_ways (is_some (held_at m q j)) (unheld_shared m j m.processes q (free j from inside) s.0 s.1) (ap is_some e))
          ]
        ]

kept_out : (t b : Bool) → t ≡ false → b ≡ true → cond t false b ≡ true
kept_out true b e f = absurd cc
kept_out false b e f = f

pub AreKept-release : (m : Maps) (g : Region) (first count : ℕ) → AreKept m → IsRegion m g → first_of g ≤ first → first + count ≤ end_of g
    → ((i : ℕ) → first ≤ i → i < first + count → is_held m g i ≡ false) → AreKept (with_reserved m g first count false)
AreKept-release m g first count k p a h free =
    let w : base_of g + first + count ≤ length m.reserved = omega (arith, region_in m g k p) in
    record {
      some = k.some;
      most = k.most;
      held_long = k.held_long;
      reserved_long = length-fill m.reserved (base_of g + first) count false w ∙ k.reserved_long;
      tables_long = k.tables_long;
      process = k.process;
      counted = k.counted;
      covered = λ q j x e.
          (let r = region_of q j in
          let t = and_parts (nat_lt j (end_of r)) (get_or m.reserved (base_of r + j) false) (k.covered q j x e) in
          subst (λ (b : Bool). (b && get_or (fill m.reserved (base_of g + first) count false) (base_of r + j) false) ≡ true) (sym t.0)
          (get_or-fill m.reserved (base_of g + first) count false false w (base_of r + j)
          ∙ kept_out (nat_le (base_of g + first) (base_of r + j) && nat_lt (base_of r + j) (base_of g + first + count)) (get_or m.reserved (base_of r + j) false) (apart m g first count k p a h free q j x e) t.1));
    }

-- the place of an index's mark lies among those of a run exactly where the index lies in the run
mark_within : (m : Maps) (g h : Region) (first count i : ℕ) → IsRegion m g → IsRegion m h → first + count ≤ end_of g → i < end_of h
    → (nat_le (base_of g + first) (base_of h + i) && nat_lt (base_of h + i) (base_of g + first + count)) ≡ (same_region h g && (nat_le first i && nat_lt i (first + count)))
mark_within m (Private p) (Private q) first count i a b l s = elim (cases_eq q p) [
  | inl same ↦ rw (eq-eqb q p same) (grind (arith, nat_tests))
  | inr other ↦ rw (ne_eqb q p other) (far q p i first count other s l)
]
  where
    far : (q p i first count : ℕ) → (q ≡ p → ⊥) → i < 4096 → first + count ≤ 4096 → (nat_le ((p + 1) * 4096 + first) ((q + 1) * 4096 + i) && nat_lt ((q + 1) * 4096 + i) ((p + 1) * 4096 + first + count)) ≡ false
    far q p i first count n s b = grind (arith, nat_tests)
mark_within m (Private p) Shared first count i a b l s = grind (arith, nat_tests)
mark_within m Shared (Private q) first count i a b l s = grind (arith, nat_tests)
mark_within m Shared Shared first count i a b l s = grind (arith, nat_tests)

past_region : (g h : Region) (first count i : ℕ) → first + count ≤ end_of g → end_of h ≤ i → (same_region h g && (nat_le first i && nat_lt i (first + count))) ≡ false
past_region (Private p) (Private q) first count i l s = grind (arith, nat_tests)
past_region (Private p) Shared first count i l s = refl
past_region Shared (Private q) first count i l s = refl
past_region Shared Shared first count i l s = grind (arith, nat_tests)

-- what is reserved after a run was, or no longer is
pub is_reserved-with : (m : Maps) (g h : Region) (first count i : ℕ) (mark : Bool) → AreKept m → IsRegion m g → IsRegion m h → first + count ≤ end_of g
    → is_reserved (with_reserved m g first count mark) h i ≡ cond (same_region h g && (nat_le first i && nat_lt i (first + count))) mark (is_reserved m h i)
is_reserved-with m g h first count i mark k a b l =
    let w : base_of g + first + count ≤ length m.reserved = omega (arith, region_in m g k a) in
    let t = same_region h g && (nat_le first i && nat_lt i (first + count)) in
    elim (cases_lt i (end_of h)) [
      | inl small ↦
          (let in_now = lt-ltb i (end_of h) small in
          ap (λ (x : Bool). x && get_or (fill m.reserved (base_of g + first) count mark) (base_of h + i) false) in_now
          ∙ get_or-fill m.reserved (base_of g + first) count mark false w (base_of h + i)
          ∙ ap (λ (x : Bool). cond x mark (get_or m.reserved (base_of h + i) false)) (mark_within m g h first count i a b l small)
          ∙ ap (λ (x : Bool). cond t mark (x && get_or m.reserved (base_of h + i) false)) (sym in_now))
      | inr large ↦
          (let out_now = le-ltb i (end_of h) large in
          ap (λ (x : Bool). x && get_or (fill m.reserved (base_of g + first) count mark) (base_of h + i) false) out_now
          ∙ ap (λ (x : Bool). x && get_or m.reserved (base_of h + i) false) (sym out_now)
          ∙ ap (λ (x : Bool). cond x mark (is_reserved m h i)) (sym (past_region g h first count i l large)))
    ]

own_run : (g : Region) (first count i : ℕ) → first ≤ i → i < first + count → (same_region g g && (nat_le first i && nat_lt i (first + count))) ≡ true
own_run (Private p) first count i l h = rw (eq-eqb p p refl) (grind (arith, nat_tests))
own_run Shared first count i l h = grind (arith, nat_tests)

-- the run is reserved
pub run_reserved : (m : Maps) (g : Region) (first count i : ℕ) → AreKept m → IsRegion m g → first + count ≤ end_of g → first ≤ i → i < first + count → is_reserved (with_reserved m g first count true) g i ≡ true
run_reserved m g first count i k a l b d =
    is_reserved-with m g g first count i true k a a l ∙ cond-true (same_region g g && (nat_le first i && nat_lt i (first + count))) true (is_reserved m g i) (own_run g first count i b d)
