-- A new run keeps a world tidy.
use Rattle.std.proofs.Common.{◌≡◌, inl, inr, ℕ, ◌+◌, ◌-◌, ◌<◌, ◌≤◌, ◌==◌, ◌&&◌, ◌||◌, nat_le, nat_lt, not, Bool, true, false, List, [], ◌∷◌, ◌++◌, get_or, length, Option}
use Rattle.std.proofs.Common.{Some, None, is_some, if◌then◌else◌, ap, sym, ◌∙◌, refl, arith, subst}
use Rattle.std.specs.Prelude.{max}
use Rattle.std.specs.List.{list_any}
use Rattle.std.proofs.lemmas.Bool.{eq-eqb, false≢true}
use Rattle.o2_desc.specs.Bits.{has_bit}
use Rattle.o2_world.specs.Changes.{Reserves, with_changes}
use Rattle.o2_world.specs.Holders.{process_at}
use Rattle.o2_world.specs.HugeRulings.{held_in_run, new_members, run_reserve, segments_of, sizes_of}
use Rattle.o2_world.specs.Known.{held_at, known_of, reserves}
use Rattle.o2_world.specs.Map.{get}
use Rattle.o2_world.specs.Rulings.{indexes, is_in_run, made_segment, region_by}
use Rattle.o2_world.specs.World.{Held, Process, Reserve, Setting, World}
use Rattle.o2_world.proofs.HugeMoves.{above_zero, at_most, sizes_length}
use Rattle.o2_world.proofs.Numbers.{number_some}
use Rattle.o2_world.proofs.TiedWorld.{with_more}
use Rattle.o2_stands.specs.Runs.{IsInStretch, IsMemberOf, IsOneFor, is_full, may_be_member}
use Rattle.o2_stands.specs.Stands.{is_stretch, region_at}
use Rattle.o2_stands.specs.Tidies.{AreTidyChanges, IsNewStretch, is_or_will_be}
use Rattle.o2_stands.proofs.AsTidy.{IsAsTidy, IsOpenStretch, Keeps, flags_fit, low_name, open_stretch}
use Rattle.o2_stands.proofs.Granted.{IsAllocated, allocated_changes}
use Rattle.o2_stands.proofs.NewMembers.{is_holder, members_are, members_from, members_reserved, members_tidy, names_kept, names_new, often_of}
use Rattle.o2_stands.proofs.Reserved.{and_parts}
use Rattle.o2_stands.proofs.Resizing.{made_full, zero_size}
use Rattle.o2_stands.proofs.RunsMade.{IsNewRun, flags_made, full_made, runs_made}
use Rattle.o2_stands.proofs.RunSteps.{AreBehind, member_region, stretch_reserves}

none_some : (h : Held) → ◌≡◌ {A = Option Held} None (Some h) → ⊥
none_some h e = cc

number : (a b : ℕ) → (a == b) ≡ true → a ≡ b
number a b e = grind arith

turned : (a b : ℕ) → (a == b) ≡ (b == a)
turned a b = grind arith

le_of : (a b : ℕ) → nat_le a b ≡ true → a ≤ b
le_of a b e = grind arith

lt_of : (a b : ℕ) → nat_lt a b ≡ true → a < b
lt_of a b e = grind arith

not_zero : (n : ℕ) → 0 < n → (n == 0) ≡ false
not_zero n l = grind arith

above : (n : ℕ) → (n == 0) ≡ false → 0 < n
above n e = grind arith

right_false : (a b : Bool) → (a || b) ≡ false → b ≡ false
right_false true b e = absurd (false≢true (sym e))
right_false false b e = e

left_false : (a b : Bool) → (a || b) ≡ false → a ≡ false
left_false true b e = absurd (false≢true (sym e))
left_false false b e = refl

module _ (s : Setting) (w v : World) (n : ℕ) (p : Process) (b : IsAsTidy w v n p) (segs part most flags first : ℕ) (a : IsAllocated (known_of s w) n segs part most flags first) where
  abbrev held : ℕ → ℕ → Option Held
  held = held_at w.processes

  abbrev m : ℕ
  m = segments_of segs part

  abbrev count : ℕ
  count = max m most

  abbrev zs : List ℕ
  zs = sizes_of segs part

  abbrev region : ℕ
  region = region_by n flags

  abbrev alone : List (ℕ × ℕ)
  alone = (n, 1) ∷ []

  abbrev r : Reserve
  r = run_reserve region first count

  -- the world with the members alone
  abbrev u : World
  u = with_changes v (members_from w.next_name first count flags first alone zs)

  abbrev now : ℕ → ℕ → Option Held
  now = held_at u.processes

  abbrev name : ℕ → ℕ
  name j = w.next_name + (j - first)

  n_some : 0 < n
  n_some = number_some w.processes n p b.at

  some_member : (m == 0) ≡ false
  some_member = left_false (m == 0) _ (right_false (has_bit flags 2) _ (right_false (nat_lt 15 flags) _ a.sound))

  no_bit : has_bit flags 2 ≡ false
  no_bit = left_false (has_bit flags 2) _ (right_false (nat_lt 15 flags) _ a.sound)

  positive : 0 < count
  positive = above_zero m most some_member

  few : m ≤ count
  few = at_most m most

  stretch : IsOpenStretch w n region first count
  stretch = open_stretch w n first count s flags n_some positive a.free

  inside : (j : ℕ) → j < first + length zs → j < first + count
  inside j l = (let e = sizes_length segs part in let f = few in omega (arith, e, f, l))

  holder_is : (q : ℕ) → is_holder alone q ≡ true → n ≡ q
  holder_is q e = go (n == q) refl e
    where
      go : (t : Bool) → (n == q) ≡ t → (t || false) ≡ true → n ≡ q
      go true f g = number n q f
      go false f g = absurd (false≢true g)

  is_there : is_some (process_at v.processes n) ≡ true
  is_there = b.there n (ap is_some b.at)

  none_held : (q j : ℕ) → is_holder alone q ≡ true → first ≤ j → j < first + length zs → held_at v.processes q j ≡ None
  none_held q j e low high = b.same q j ∙ stretch.near q j low (inside j high) (inl (sym (holder_is q e)))

  now_is : (q j : ℕ) → now q j ≡ (if (q == n) && (nat_le first j && nat_lt j (first + m)) then Some (held_in_run (name j) first count 1) else held q j)
  now_is q j =
      members_are first count flags alone zs v w.next_name first (is_there, tt) (refl, tt) none_held q j
      ∙ (ap (λ (c : ℕ). if is_holder alone q && (nat_le first j && nat_lt j (first + c)) then Some (held_in_run (name j) first count (often_of alone q)) else held_at v.processes q j) (sizes_length segs part)
      ∙ (one (n == q) (nat_le first j && nat_lt j (first + m)) (held_at v.processes q j)
      ∙ (ap (λ (t : Bool). if t && (nat_le first j && nat_lt j (first + m)) then Some (held_in_run (name j) first count 1) else held_at v.processes q j) (turned n q)
      ∙ ap (λ (o : Option Held). if (q == n) && (nat_le first j && nat_lt j (first + m)) then Some (held_in_run (name j) first count 1) else o) (b.same q j))))
    where
      one : (t c : Bool) (o : Option Held) → (if (t || false) && c then Some (held_in_run (name j) first count (if t then 1 else 0)) else o) ≡ (if t && c then Some (held_in_run (name j) first count 1) else o)
      one true c o = refl
      one false c o = refl

  new_run : IsNewRun held now n first count m name
  new_run = record {
    some = above m some_member;
    most = few;
    low = stretch.low;
    end = stretch.end;
    is = now_is;
    free = λ q j low high one. stretch.near q j low high one;
    apart = apart;
    fresh = λ q j i h e same. let l = low_name w v n p b q j h e in absurd (omega (arith, l, same));
    once = λ i j low high same. omega (arith, low, high, same);
  }
    where
      apart : (q i : ℕ) (h : Held) → IsMemberOf held q i h → (l : ℕ) → IsInStretch h l → first ≤ l → l < first + count → IsOneFor n q l → ⊥
      apart q i h mem l t low high one =
          let g : region_at q i ≡ region = member_region held b.tidy.runs q i h mem n l t (back one) ∙ stretch.one l low high in
          false≢true (sym (stretch.free l low high)
          ∙ (ap (λ (x : ℕ). list_any (reserves x l) w.reserved) (sym g)
          ∙ stretch_reserves (region_at q i) h.first h.reserved l w.reserved (b.tidy.run q i h mem.there mem.run) t.0 t.1))
        where
          back : IsOneFor n q l → IsOneFor q n l
          back (inl e) = inl (sym e)
          back (inr e) = inr e

  names_old : (q j : ℕ) (h : Held) → held q j ≡ Some h → get u.names h.name ≡ get v.names h.name
  names_old q j h e = names_kept first count flags alone zs v w.next_name first b.next h.name (low_name w v n p b q j h e)

  names_now : (j : ℕ) → first ≤ j → j < first + m → get u.names (name j) ≡ Some (made_segment (get_or zs (j - first) 0) flags)
  names_now j low high = names_new first count flags alone zs v w.next_name first b.next (j - first) (let e = sizes_length segs part in omega (arith, e, low, high))

  behind_members : AreBehind u
  behind_members = record {
    runs = runs_made held now n first count m name new_run b.tidy.runs;
    flags = flags_made held now n first count m name new_run b.tidy.runs u.names v.names b.flagged names_old
        (λ j low high. ap (may_be_member j) (names_now j low high) ∙ fit j low high);
    full = full_made held now n first count m name new_run b.tidy.runs u.names v.names b.fulled names_old
        (λ j low high. ap is_full (names_now j low (omega (arith, high))) ∙ made_full (get_or zs (j - first) 0) flags (zero_size segs part (j - first) (omega (arith, low, high))));
  }
    where
      fit : (j : ℕ) → first ≤ j → j < first + m → (not (has_bit flags 2) && (nat_lt j 4096 || not (flags == 0))) ≡ true
      fit j low high =
          ap (λ (t : Bool). not t && (nat_lt j 4096 || not (flags == 0))) no_bit
          ∙ flags_fit w n first count flags n_some stretch j low (let f = few in omega (arith, f, high))

  new_stretch : IsNewStretch u r
  new_stretch = record {
    goes = refl;
    placed = stretch.placed;
    new = λ i e. ap (λ (rs : List Reserve). list_any (reserves region i) rs) (members_reserved first count flags alone zs v w.next_name first ∙ b.reserved) ∙ free i e;
    runs = λ q i h e outside. runs q i h e outside (reserves (region_at q i) i r) refl;
  }
    where
      parts : (g i : ℕ) → reserves g i r ≡ true → (region ≡ g) × ((first ≤ i) × (i < first + count))
      parts g i e =
          let x = and_parts (region == g) _ e in
          let y = and_parts (nat_le first i) _ x.1 in
          (number region g x.0, (le_of first i y.0, lt_of i (first + count) y.1))

      free : (i : ℕ) → reserves region i r ≡ true → list_any (reserves region i) w.reserved ≡ false
      free i e = (let x = parts region i e in stretch.free i x.1.0 x.1.1)

      runs : (q i : ℕ) (h : Held) → now q i ≡ Some h → is_in_run h ≡ false → (t : Bool) → reserves (region_at q i) i r ≡ t → reserves (region_at q i) i r ≡ false
      runs q i h e outside false f = f
      runs q i h e outside true f =
          (let x = parts (region_at q i) i f in
          by ((q == n) && (nat_le first i && nat_lt i (first + m))) (sym (now_is q i) ∙ e) (stretch.near q i x.1.0 x.1.1 (stretch.back q i x.1.0 x.1.1 (sym x.0))))
        where
          by : (t : Bool) → (if t then Some (held_in_run (name i) first count 1) else held q i) ≡ Some h → held q i ≡ None → reserves (region_at q i) i r ≡ false
          by true g none =
              (let z : held_in_run (name i) first count 1 ≡ h = cc in
              absurd (false≢true (sym outside ∙ (ap is_in_run (sym z) ∙ ap not (not_zero count positive)))))
          by false g none = absurd (none_some h (sym none ∙ g))

  tidy_changes : AreTidyChanges v (members_from w.next_name first count flags first alone zs ++ Reserves r ∷ [])
  tidy_changes =
      members_tidy first count flags alone zs v w.next_name first (Reserves r ∷ []) (not_zero count positive)
      (λ q j e low high. fit q j (holder_is q e) low (inside j high)) (new_stretch, tt)
    where
      or_left : (x y : Bool) → x ≡ true → (x || y) ≡ true
      or_left true y e = refl
      or_left false y e = absurd (false≢true e)

      fit : (q j : ℕ) → n ≡ q → first ≤ j → j < first + count → is_or_will_be v.reserved (r ∷ []) (region_at q j) first count ≡ true
      fit q j e low high =
          let g : region ≡ region_at q j = sym (stretch.one j low high) ∙ ap (λ (x : ℕ). region_at x j) e in
          or_left (list_any (is_stretch (region_at q j) first count) (r ∷ [])) _
          (or_left (is_stretch (region_at q j) first count r) false (rw (eq-eqb region (region_at q j) g, eq-eqb first first refl, eq-eqb count count refl) refl))

  changes_are : allocated_changes (known_of s w) n segs part most flags first ≡ members_from w.next_name first count flags first alone zs ++ Reserves r ∷ []
  changes_are = ap (λ (c : ℕ). new_members w.next_name first count flags alone (indexes first c) zs ++ Reserves r ∷ []) (sym (sizes_length segs part))

  behind_all : AreBehind (with_changes v (members_from w.next_name first count flags first alone zs ++ Reserves r ∷ []))
  unfolding with_changes
  behind_all =
      subst AreBehind (sym (with_more v (members_from w.next_name first count flags first alone zs) (Reserves r ∷ [])))
      (record { runs = behind_members.runs; flags = behind_members.flags; full = behind_members.full })

  pub allocated_keeps : Keeps v (allocated_changes (known_of s w) n segs part most flags first)
  allocated_keeps = subst (Keeps v) (sym changes_are) (tidy_changes, behind_all)
