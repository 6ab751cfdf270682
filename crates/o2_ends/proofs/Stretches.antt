-- The indexes that a tidy world has reserved behind the end of a process.
use Rattle.std.proofs.Common.{◌≡◌, ◌≢◌, inl, inr, ℕ, ◌+◌, ◌<◌, ◌≤◌, Bool, true, false, cond, not, ◌&&◌, ◌||◌, List, [], ◌∷◌, filter, Option, Some, None, is_some, refl, sym, ap, ◌∙◌, subst, arith, if◌then◌else◌}
use Rattle.std.specs.Prelude.{nat_le, nat_lt, ◌==◌}
use Rattle.std.specs.List.{list_any}
use Rattle.std.proofs.lemmas.Bool.{cases_eq, eq-eqb, false≢true}
use Rattle.o2_world.specs.Changes.{holds_run, is_used, own_run_held, run_held, used}
use Rattle.o2_world.specs.Holders.{process_at, with_process}
use Rattle.o2_world.specs.Known.{held_at, reserves}
use Rattle.o2_world.specs.Map.{Map}
use Rattle.o2_world.specs.Rulings.{is_in_run}
use Rattle.o2_world.specs.World.{Held, Process, Reserve, Segment}
use Rattle.o2_stands.specs.Runs.{IsInStretch, IsMemberOf}
use Rattle.o2_stands.specs.Stands.{AllDisjoint, AllStay, AreDisjoint, IsDisjointFrom, IsTidy, is_placed, is_stretch, region_at, stays_or_is_held}
use Rattle.o2_stands.proofs.Reserved.{and_parts, is_used_of}
use Rattle.o2_stands.proofs.RunSteps.{high_region, member_region}
use Rattle.o2_stands.proofs.Used.{IsUsedBy, used_by, used_found}
use Rattle.o2_stands.proofs.Worlds.{put_here, put_other}
use Rattle.o2_ends.proofs.Worlds.{held_here, held_other}

none_some : (h : Held) → ◌≡◌ {A = Option Held} None (Some h) → ⊥
none_some h e = cc

number : (a b : ℕ) → (a == b) ≡ true → a ≡ b
number a b e = grind arith

-- Entries of a list.

and_true : (b : Bool) → (b && true) ≡ b
and_true true = refl
and_true false = refl

and_false : (b : Bool) → (b && false) ≡ false
and_false true = refl
and_false false = refl

any_filter : (f p : Reserve → Bool) (rs : List Reserve) → list_any f (filter p rs) ≡ list_any (λ (r : Reserve). f r && p r) rs
any_filter f p [] = refl
any_filter f p (r ∷ rs) = go (any_filter f p rs) (p r)
  where
    go : list_any f (filter p rs) ≡ list_any (λ (x : Reserve). f x && p x) rs → (b : Bool) → list_any f (cond b (r ∷ filter p rs) (filter p rs)) ≡ ((f r && b) || list_any (λ (x : Reserve). f x && p x) rs)
    go rest true = ap (λ (b : Bool). f r || b) rest ∙ ap (λ (b : Bool). b || list_any (λ (x : Reserve). f x && p x) rs) (sym (and_true (f r)))
    go rest false = rest ∙ ap (λ (b : Bool). b || list_any (λ (x : Reserve). f x && p x) rs) (sym (and_false (f r)))

-- an entry that passes two tests
record IsBoth (f g : Reserve → Bool) : Type 0 where
  entry : Reserve
  first : f entry ≡ true
  second : g entry ≡ true

region_zero : (r : Reserve) (i : ℕ) → reserves 0 i r ≡ true → r.region ≡ 0
region_zero r i e = number r.region 0 (and_parts (r.region == 0) _ e).0

-- where an index is reserved by one that passes a test, and by one that passes another and doesn't stay, they are one
module _ (i : ℕ) (f g : Reserve → Bool) (ff : (r : Reserve) → f r ≡ true → reserves 0 i r ≡ true) (gg : (r : Reserve) → g r ≡ true → (reserves 0 i r ≡ true) × (r.stays ≡ false)) where
  not_two : (r q : Reserve) → AreDisjoint r q → reserves 0 i r ≡ true → reserves 0 i q ≡ true → ((r.stays && q.stays) ≡ true → ⊥) → ⊥
  not_two r q (inl both) a b never = never both
  not_two r q (inr apart) a b never =
      let z = region_zero r i a in
      false≢true (sym (subst (λ (n : ℕ). reserves n i r ≡ true → reserves n i q ≡ false) z (apart i) a) ∙ b)

  clash_g : (r : Reserve) (qs : List Reserve) → IsDisjointFrom r qs → f r ≡ true → list_any g qs ≡ true → ⊥
  clash_g r [] from e any = false≢true any
  clash_g r (q ∷ qs) from e any = go (λ later. clash_g r qs from.1 e later) (g q) refl any
    where
      stay : q.stays ≡ false → (r.stays && q.stays) ≡ true → ⊥
      stay goes both = false≢true (sym (ap (λ (b : Bool). r.stays && b) goes ∙ and_false r.stays) ∙ both)

      go : (list_any g qs ≡ true → ⊥) → (b : Bool) → g q ≡ b → (b || list_any g qs) ≡ true → ⊥
      go rest true h any = not_two r q from.0 (ff r e) (gg q h).0 (stay (gg q h).1)
      go rest false h any = rest any

  clash_f : (r : Reserve) (qs : List Reserve) → IsDisjointFrom r qs → g r ≡ true → list_any f qs ≡ true → ⊥
  clash_f r [] from e any = false≢true any
  clash_f r (q ∷ qs) from e any = go (λ later. clash_f r qs from.1 e later) (f q) refl any
    where
      stay : r.stays ≡ false → (r.stays && q.stays) ≡ true → ⊥
      stay goes both = false≢true (sym (ap (λ (b : Bool). b && q.stays) goes) ∙ both)

      go : (list_any f qs ≡ true → ⊥) → (b : Bool) → f q ≡ b → (b || list_any f qs) ≡ true → ⊥
      go rest true h any = not_two r q from.0 (gg r e).0 (ff q h) (stay (gg r e).1)
      go rest false h any = rest any

  one_entry : (rs : List Reserve) → AllDisjoint rs → list_any f rs ≡ true → list_any g rs ≡ true → IsBoth f g
  one_entry [] all a b = absurd (false≢true a)
  one_entry (r ∷ rs) all a b = go (λ c d. one_entry rs all.1 c d) (f r) refl (g r) refl a b
    where
      go : (list_any f rs ≡ true → list_any g rs ≡ true → IsBoth f g) → (x : Bool) → f r ≡ x → (y : Bool) → g r ≡ y → (x || list_any f rs) ≡ true → (y || list_any g rs) ≡ true → IsBoth f g
      go rest true e true h a b = record { entry = r; first = e; second = h }
      go rest true e false h a b = absurd (clash_g r rs all.0 e b)
      go rest false e true h a b = absurd (clash_f r rs all.0 h a)
      go rest false e false h a b = rest a b

-- an entry that has an index and isn't used any more
record IsUnused (ps qs : List Process) (rs : List Reserve) (i : ℕ) : Type 0 where
  entry : Reserve
  here : reserves 0 i entry ≡ true
  unused : is_used qs entry ≡ false
  was : stays_or_is_held ps entry ≡ true
  among : (t : Reserve → Bool) → t entry ≡ true → list_any t rs ≡ true

find_unused : (ps qs : List Process) (rs : List Reserve) (i : ℕ) → AllStay ps rs → list_any (reserves 0 i) rs ≡ true → list_any (λ (r : Reserve). reserves 0 i r && is_used qs r) rs ≡ false → IsUnused ps qs rs i
find_unused ps qs [] i all e none = absurd (false≢true e)
find_unused ps qs (r ∷ rs) i all e none = go (λ a b. find_unused ps qs rs i all.1 a b) (reserves 0 i r) refl (is_used qs r) refl e none
  where
    or_right : (a b : Bool) → b ≡ true → (a || b) ≡ true
    or_right true b e = refl
    or_right false b e = e

    later : IsUnused ps qs rs i → IsUnused ps qs (r ∷ rs) i
    later u = record { entry = u.entry; here = u.here; unused = u.unused; was = u.was; among = λ t te. or_right (t r) (list_any t rs) (u.among t te) }

    go : (list_any (reserves 0 i) rs ≡ true → list_any (λ (x : Reserve). reserves 0 i x && is_used qs x) rs ≡ false → IsUnused ps qs rs i)
        → (a : Bool) → reserves 0 i r ≡ a → (b : Bool) → is_used qs r ≡ b → (a || list_any (reserves 0 i) rs) ≡ true → ((a && b) || list_any (λ (x : Reserve). reserves 0 i x && is_used qs x) rs) ≡ false → IsUnused ps qs (r ∷ rs) i
    go rest true f true g e none = absurd (false≢true (sym none))
    go rest true f false g e none = record { entry = r; here = f; unused = g; was = all.0; among = λ t te. ap (λ (b : Bool). b || list_any t rs) te }
    go rest false f b g e none = later (rest e none)

-- A process that has ended, in a tidy world.

-- a process held a member of a run with an index, of which nobody holds the first one any more
pub record IsGone (ps qs : List Process) (pid i : ℕ) : Type 0 where
  pub index : ℕ
  pub hold : Held
  pub there : held_at ps pid index ≡ Some hold
  pub run : is_in_run hold ≡ true
  pub covers : IsInStretch hold i
  pub high : 4096 ≤ hold.first
  pub nobody : (n : ℕ) → is_some (held_at qs n hold.first) ≡ true → ⊥

module _ (ps : List Process) (names : Map Segment) (reserved : List Reserve) (pid : ℕ) (x q : Process) (there : process_at ps pid ≡ Some x) (none : q.held ≡ []) (tidy : IsTidy ps names reserved) where
  abbrev qs : List Process
  qs = with_process ps pid q

  -- who holds something behind held it before
  not_pid : (n i : ℕ) (h : Held) → held_at qs n i ≡ Some h → n ≢ pid
  not_pid n i h e same = none_some h (sym (ap (λ (a : ℕ). held_at qs a i) same ∙ held_here ps pid x q there none i) ∙ e)

  pub was_held : (n i : ℕ) (h : Held) → held_at qs n i ≡ Some h → held_at ps n i ≡ Some h
  was_held n i h e = sym (held_other ps pid x q there n i (not_pid n i h e)) ∙ e

  some_was : (n i : ℕ) → is_some (held_at qs n i) ≡ true → (h : Held) × (held_at qs n i ≡ Some h)
  some_was n i e = go (held_at qs n i) refl e
    where
      go : (o : Option Held) → held_at qs n i ≡ o → is_some o ≡ true → (h : Held) × (held_at qs n i ≡ Some h)
      go None f s = absurd (false≢true s)
      go (Some h) f s = (h, f)

  -- its own indexes
  pub unused_own : (r : Reserve) → 0 < pid → r.region ≡ pid → is_used qs r ≡ false
  unfolding holds_run
  unused_own r some region =
      ap (λ (g : ℕ). if g == 0 then r.stays || run_held qs r.first else own_run_held (process_at qs g) r.first) region
      ∙ (ap (λ (b : Bool). if b then r.stays || run_held qs r.first else own_run_held (process_at qs pid) r.first) (not_zero pid some)
      ∙ (ap (λ (o : Option Process). own_run_held o r.first) (put_here ps pid x q there) ∙ ap (λ (m : Map Held). holds_run m r.first) none))
    where
      not_zero : (n : ℕ) → 0 < n → (n == 0) ≡ false
      not_zero n s = grind arith

  pub own_free : (i : ℕ) → 0 < pid → list_any (reserves pid i) (used qs reserved) ≡ false
  own_free i some = any_filter (reserves pid i) (is_used qs) reserved ∙ all reserved
    where
      here : (r : Reserve) (a : Bool) → reserves pid i r ≡ a → (a && is_used qs r) ≡ false
      here r false e = refl
      here r true e = unused_own r some (number r.region pid (and_parts (r.region == pid) _ e).0)

      all : (rs : List Reserve) → list_any (λ (r : Reserve). reserves pid i r && is_used qs r) rs ≡ false
      all [] = refl
      all (r ∷ rs) = ap (λ (b : Bool). b || list_any (λ (y : Reserve). reserves pid i y && is_used qs y) rs) (here r (reserves pid i r) refl) ∙ all rs

  -- those of another process
  pub other_same : (a i : ℕ) → a ≢ pid → 0 < a → list_any (reserves a i) (used qs reserved) ≡ list_any (reserves a i) reserved
  other_same a i apart some = any_filter (reserves a i) (is_used qs) reserved ∙ all reserved tidy.stay
    where
      not_zero : (n : ℕ) → 0 < n → (n == 0) ≡ false
      not_zero n s = grind arith

      own : (zs : List Process) (r : Reserve) → r.region ≡ a → is_used zs r ≡ own_run_held (process_at zs a) r.first
      own zs r region =
          ap (λ (g : ℕ). if g == 0 then r.stays || run_held zs r.first else own_run_held (process_at zs g) r.first) region
          ∙ ap (λ (b : Bool). if b then r.stays || run_held zs r.first else own_run_held (process_at zs a) r.first) (not_zero a some)

      here : (r : Reserve) → stays_or_is_held ps r ≡ true → (c : Bool) → reserves a i r ≡ c → (c && is_used qs r) ≡ c
      here r stay false e = refl
      here r stay true e =
          let region : r.region ≡ a = number r.region a (and_parts (r.region == a) _ e).0 in
          own qs r region ∙ (ap (λ (o : Option Process). own_run_held o r.first) (put_other ps pid x q there a apart) ∙ (sym (own ps r region) ∙ is_used_of ps r stay))

      all : (rs : List Reserve) → AllStay ps rs → list_any (λ (r : Reserve). reserves a i r && is_used qs r) rs ≡ list_any (reserves a i) rs
      all [] stay = refl
      all (r ∷ rs) stay =
          ap (λ (b : Bool). b || list_any (λ (y : Reserve). reserves a i y && is_used qs y) rs) (here r stay.0 (reserves a i r) refl)
          ∙ ap (λ (b : Bool). reserves a i r || b) (all rs stay.1)

  -- what a stretch is
  stretch_parts : (g f c : ℕ) (r : Reserve) → is_stretch g f c r ≡ true → (r.stays ≡ false) × (r.region ≡ g) × (r.first ≡ f) × (r.count ≡ c)
  stretch_parts g f c r e =
      let a = and_parts (not r.stays) _ e in
      let b = and_parts (r.region == g) _ a.1 in
      let d = and_parts (r.first == f) (r.count == c) b.1 in
      (no r.stays a.0, number r.region g b.0, number r.first f d.0, number r.count c d.1)
    where
      no : (b : Bool) → not b ≡ true → b ≡ false
      no true e = absurd (false≢true e)
      no false e = refl

  has_index : (r : Reserve) (i : ℕ) → r.region ≡ 0 → r.first ≤ i → i < r.first + r.count → reserves 0 i r ≡ true
  has_index r i region low high = rw (eq-eqb r.region 0 region, le r.first i low) (lt i (r.first + r.count) high)
    where
      le : (a b : ℕ) → a ≤ b → nat_le a b ≡ true
      le a b e = grind arith

      lt : (a b : ℕ) → a < b → nat_lt a b ≡ true
      lt a b e = grind arith

  index_parts : (r : Reserve) (i : ℕ) → reserves 0 i r ≡ true → (r.region ≡ 0) × (r.first ≤ i) × (i < r.first + r.count)
  index_parts r i e =
      let a = and_parts (r.region == 0) _ e in
      let b = and_parts (nat_le r.first i) (nat_lt i (r.first + r.count)) a.1 in
      (number r.region 0 a.0, le r.first i b.0, lt i (r.first + r.count) b.1)
    where
      le : (a b : ℕ) → nat_le a b ≡ true → a ≤ b
      le a b e = grind arith

      lt : (a b : ℕ) → nat_lt a b ≡ true → a < b
      lt a b e = grind arith

  -- where a shared index of a run that it held is reserved still, somebody holds the run's first one
  pub used_holder : (a i : ℕ) (h : Held) → held_at ps pid a ≡ Some h → is_in_run h ≡ true → IsInStretch h i → 4096 ≤ i → list_any (reserves 0 i) (used qs reserved) ≡ true
      → (n : ℕ) × (is_some (held_at qs n h.first) ≡ true)
  used_holder a i h at run s high e = by (used_by qs b.entry parts.0 used_now)
    where
      m : IsMemberOf (held_at ps) pid a h
      m = record { there = at; run = run }

      zero_region : region_at pid a ≡ 0
      zero_region = member_region (held_at ps) tidy.runs pid a h m pid i s (inl refl) ∙ high_region pid i high

      b : IsBoth (λ (r : Reserve). reserves 0 i r && is_used qs r) (is_stretch 0 h.first h.reserved)
      b = one_entry i (λ (r : Reserve). reserves 0 i r && is_used qs r) (is_stretch 0 h.first h.reserved)
          (λ r f. (and_parts (reserves 0 i r) (is_used qs r) f).0)
          (λ r g. let p = stretch_parts 0 h.first h.reserved r g in let c = p.2 in let d = p.3 in let low = s.0 in let less = s.1 in (has_index r i p.1 (omega (arith, c, low)) (omega (arith, c, d, less)), p.0))
          reserved tidy.disjoint (sym (any_filter (reserves 0 i) (is_used qs) reserved) ∙ e)
          (ap (λ (g : ℕ). list_any (is_stretch g h.first h.reserved) reserved) (sym zero_region) ∙ tidy.run pid a h at run)

      parts : (b.entry.stays ≡ false) × (b.entry.region ≡ 0) × (b.entry.first ≡ h.first) × (b.entry.count ≡ h.reserved)
      parts = stretch_parts 0 h.first h.reserved b.entry b.second

      used_now : is_used qs b.entry ≡ true
      used_now = (and_parts (reserves 0 i b.entry) (is_used qs b.entry) b.first).1

      by : IsUsedBy qs b.entry.region b.entry.first → (n : ℕ) × (is_some (held_at qs n h.first) ≡ true)
      by u =
          let r = and_parts (u.hold.first == b.entry.first) (not (u.hold.reserved == 0)) u.runs in
          let first : u.hold.first ≡ h.first = number u.hold.first b.entry.first r.0 ∙ parts.2 in
          let mk : IsMemberOf (held_at ps) u.number u.index u.hold = record { there = was_held u.number u.index u.hold u.there; run = r.1 } in
          let o = tidy.runs.fronts.front u.number u.index u.hold mk u.hold.first (omega arith) (tidy.runs.stretches.inside u.number u.index u.hold mk).0 in
          (u.number, ap is_some (ap (held_at qs u.number) (sym first) ∙ (held_other ps pid x q there u.number u.hold.first (not_pid u.number u.index u.hold u.there) ∙ o.there)))

  -- and where one isn't that was, the process held its run
  pub gone_member : (i : ℕ) → list_any (reserves 0 i) reserved ≡ true → list_any (reserves 0 i) (used qs reserved) ≡ false → IsGone ps qs pid i
  gone_member i e f = go r.stays refl u.was
    where
      u : IsUnused ps qs reserved i
      u = find_unused ps qs reserved i tidy.stay e (sym (any_filter (reserves 0 i) (is_used qs) reserved) ∙ f)

      r : Reserve
      r = u.entry

      inside : (r.region ≡ 0) × (r.first ≤ i) × (i < r.first + r.count)
      inside = index_parts r i u.here

      by_member : r.stays ≡ false → 4096 ≤ r.first → IsUsedBy ps r.region r.first → IsGone ps qs pid i
      by_member goes high y = record {
        index = y.index;
        hold = y.hold;
        there = there_pid;
        run = runs.1;
        covers = (let a = last.2 in let b = last.3 in let c = now.1 in let d = now.2 in (omega (arith, a, c), omega (arith, a, b, d)));
        high = omega (arith, first, high);
        nobody = nobody;
      }
        where
          runs : ((y.hold.first == r.first) ≡ true) × (is_in_run y.hold ≡ true)
          runs = and_parts (y.hold.first == r.first) (not (y.hold.reserved == 0)) y.runs

          first : y.hold.first ≡ r.first
          first = number y.hold.first r.first runs.0

          is_pid : y.number ≡ pid
          is_pid = elim (cases_eq y.number pid) [
            | inl same ↦ same
            | inr other ↦ absurd (false≢true (sym u.unused ∙ used_found qs r (record {
              number = y.number;
              index = y.index;
              hold = y.hold;
              there = held_other ps pid x q there y.number y.index other ∙ y.there;
              runs = y.runs;
              own = y.own;
            })))
          ]

          there_pid : held_at ps pid y.index ≡ Some y.hold
          there_pid = ap (λ (n : ℕ). held_at ps n y.index) (sym is_pid) ∙ y.there

          m : IsMemberOf (held_at ps) pid y.index y.hold
          m = record { there = there_pid; run = runs.1 }

          some_reserved : 0 < y.hold.reserved
          some_reserved = above y.hold.reserved runs.1
            where
              above : (n : ℕ) → not (n == 0) ≡ true → 0 < n
              above n e = grind arith

          zero_region : region_at pid y.index ≡ 0
          zero_region = high_region pid y.index (let a = (tidy.runs.stretches.inside pid y.index y.hold m).0 in omega (arith, a, first, high))

          t : Reserve → Bool
          t z = (reserves 0 i z && not (is_used qs z)) && (z.first == y.hold.first)

          b : IsBoth t (is_stretch 0 y.hold.first y.hold.reserved)
          b = one_entry y.hold.first t (is_stretch 0 y.hold.first y.hold.reserved)
              (λ z tz. let a = and_parts (reserves 0 i z && not (is_used qs z)) _ tz in let c = index_parts z i (and_parts (reserves 0 i z) _ a.0).0 in
              let d = number z.first y.hold.first a.1 in let low = c.1 in let less = c.2 in has_index z y.hold.first c.0 (omega (arith, d)) (omega (arith, d, low, less)))
              (λ z gz. let p = stretch_parts 0 y.hold.first y.hold.reserved z gz in let c = p.2 in let d = p.3 in let some = some_reserved in
              (has_index z y.hold.first p.1 (omega (arith, c)) (omega (arith, c, d, some)), p.0))
              reserved tidy.disjoint
              (u.among t (rw (u.here, u.unused) (eq-eqb r.first y.hold.first (sym first))))
              (ap (λ (g : ℕ). list_any (is_stretch g y.hold.first y.hold.reserved) reserved) (sym zero_region) ∙ tidy.run pid y.index y.hold there_pid runs.1)

          last : (b.entry.stays ≡ false) × (b.entry.region ≡ 0) × (b.entry.first ≡ y.hold.first) × (b.entry.count ≡ y.hold.reserved)
          last = stretch_parts 0 y.hold.first y.hold.reserved b.entry b.second

          now : (b.entry.region ≡ 0) × (b.entry.first ≤ i) × (i < b.entry.first + b.entry.count)
          now = index_parts b.entry i (and_parts (reserves 0 i b.entry) _ (and_parts (reserves 0 i b.entry && not (is_used qs b.entry)) _ b.first).0).0

          nobody : (n : ℕ) → is_some (held_at qs n y.hold.first) ≡ true → ⊥
          nobody n some =
              let h = some_was n y.hold.first some in
              let s = some_reserved in
              let one = tidy.runs.stretches.whole pid y.index y.hold m n y.hold.first h.0 (was_held n y.hold.first h.0 h.1) (omega arith, omega (arith, s)) (inr (omega (arith, first, high))) in
              false≢true (sym u.unused ∙ used_found qs r (record {
                number = n;
                index = y.hold.first;
                hold = h.0;
                there = h.1;
                runs = rw (eq-eqb h.0.first r.first (one.0 ∙ first)) (ap (λ (c : ℕ). not (c == 0)) one.1 ∙ runs.1);
                own = λ no. absurd (false≢true (sym no ∙ eq-eqb r.region 0 inside.0));
              }))

      go : (b : Bool) → r.stays ≡ b → stays_or_is_held ps r ≡ true → IsGone ps qs pid i
      go true stays was =
          absurd (false≢true (sym u.unused
          ∙ (ap (λ (b : Bool). if b then r.stays || run_held qs r.first else own_run_held (process_at qs r.region) r.first) (eq-eqb r.region 0 inside.0) ∙ ap (λ (b : Bool). b || run_held qs r.first) stays)))
      go false goes was =
          let a : (is_placed r && is_used ps r) ≡ true = sym (both goes (r.region == 0) (is_placed r && is_used ps r)) ∙ was in
          let p = and_parts (is_placed r) (is_used ps r) a in
          by_member goes (placed (sym (ap (λ (b : Bool). if b then nat_le 4096 r.first else nat_lt r.first 4096) (eq-eqb r.region 0 inside.0)) ∙ p.0)) (used_by ps r goes p.1)
        where
          both : r.stays ≡ false → (z y : Bool) → ((z && r.stays) || (not r.stays && y)) ≡ y
          both e z y = ap (λ (b : Bool). (z && b) || (not b && y)) e ∙ ap (λ (b : Bool). b || y) (and_false z)

          placed : nat_le 4096 r.first ≡ true → 4096 ≤ r.first
          placed e = grind arith
