-- What a call on a huge allocation does to segments that live: all that it sizes get no larger, or none of them gets smaller and none goes.
use Rattle.std.proofs.Common.{◌≡◌, ◌⊎◌, inl, inr, ℕ, zero, suc, ◌+◌, ◌-◌, ◌/◌, ◌<◌, ◌≤◌, ◌==◌, ◌&&◌, ◌||◌, not, nat_lt, Bool, true, false, cond, max, List, [], ◌∷◌, ◌++◌}
use Rattle.std.proofs.Common.{length, filter, drop, replicate, Option, Some, None, is_some, option_map, ap, sym, ◌∙◌, refl, subst, arith, if◌then◌else◌}
use Rattle.std.specs.Prelude.{nat_le}
use Rattle.std.specs.List.{list_any}
use Rattle.std.proofs.lemmas.Bool.{and_parts, cases_lt, eqb-true, false≢true}
use Rattle.std.proofs.lemmas.List.{length-drop}
use Rattle.o2_isa.specs.declared.cpu.Cpu.{Cpu}
use Rattle.o2_isa.specs.View.{is_local}
use Rattle.o2_run.specs.Room.{size_of}
use Rattle.o2_world.specs.Changes.{Change, Drops, Finishes, Frees, Holds, Locks, Makes, Marks, Names, Reserves, Resizes, takes}
use Rattle.o2_world.specs.HugeRulings.{all_bytes, all_dropped, all_hold, bytes_of, dropped_members, flags_in, free_run, huge_allocation, huge_at, huge_reallocation}
use Rattle.o2_world.specs.HugeRulings.{huge_reallocation_of, is_first, is_huge_fault, left_in_run, new_members, other_shares, resized_members, resized_one, run_changes}
use Rattle.o2_world.specs.HugeRulings.{run_resized, segments_of, sizes_of}
use Rattle.o2_world.specs.Known.{Known, held_at, known_of, marks_of}
use Rattle.o2_world.specs.Map.{Map, get}
use Rattle.o2_world.specs.Rulings.{Ruling, full_size, held_under, in_use, indexes, is_in_run, members, region_by}
use Rattle.o2_world.specs.SharedRulings.{marks_under, shared_from}
use Rattle.o2_world.specs.Tied.{IsTied}
use Rattle.o2_world.specs.World.{Held, Segment, Setting, World}
use Rattle.o2_world.proofs.FitRows.{full_is}
use Rattle.o2_stands.specs.Runs.{IsMemberOf, is_full}
use Rattle.o2_stands.specs.Stands.{IsTidy}

-- a change by which no segment of these names grows
abbrev pub IsCutBy : Map Segment → Change → Type 0
IsCutBy names (Makes s) = ⊥
IsCutBy names (Resizes n size) = size ≤ size_of (get names n)
IsCutBy names (Locks n count) = ⊥
IsCutBy names (Marks n discarded) = ⊥
IsCutBy names (Holds p i h) = Unit {0}
IsCutBy names (Drops p i count) = Unit {0}
IsCutBy names (Finishes p state) = ⊥
IsCutBy names (Reserves r) = Unit {0}
IsCutBy names (Frees region first) = ⊥
IsCutBy names (Names text n) = ⊥

-- a change by which none of them shrinks or goes, and those that are sized get this size
abbrev pub IsGrownBy : Map Segment → ℕ → Change → Type 0
IsGrownBy names z (Makes s) = Unit {0}
IsGrownBy names z (Resizes n size) = (size ≡ z) × (size_of (get names n) ≤ z)
IsGrownBy names z (Locks n count) = ⊥
IsGrownBy names z (Marks n discarded) = ⊥
IsGrownBy names z (Holds p i h) = Unit {0}
IsGrownBy names z (Drops p i count) = ⊥
IsGrownBy names z (Finishes p state) = ⊥
IsGrownBy names z (Reserves r) = Unit {0}
IsGrownBy names z (Frees region first) = ⊥
IsGrownBy names z (Names text n) = ⊥

abbrev pub AllAre : (Change → Type 0) → List Change → Type 0
AllAre P [] = Unit {0}
AllAre P (c ∷ cs) = P c × AllAre P cs

pub data IsSizing (names : Map Segment) (cs : List Change) : Type 0 where
  Cut : AllAre (IsCutBy names) cs → IsSizing names cs
  Grown : (z : ℕ) → AllAre (IsGrownBy names z) cs → IsSizing names cs

-- what grows takes no holds
pub grown_takes : (names : Map Segment) (z : ℕ) (cs : List Change) → AllAre (IsGrownBy names z) cs → list_any takes cs ≡ false
grown_takes names z [] are = refl
grown_takes names z (Makes s ∷ cs) are = grown_takes names z cs are.1
grown_takes names z (Resizes n size ∷ cs) are = grown_takes names z cs are.1
grown_takes names z (Locks n count ∷ cs) are = absurd are.0
grown_takes names z (Marks n discarded ∷ cs) are = absurd are.0
grown_takes names z (Holds p i h ∷ cs) are = grown_takes names z cs are.1
grown_takes names z (Drops p i count ∷ cs) are = absurd are.0
grown_takes names z (Finishes p state ∷ cs) are = absurd are.0
grown_takes names z (Reserves r ∷ cs) are = grown_takes names z cs are.1
grown_takes names z (Frees region first ∷ cs) are = absurd are.0
grown_takes names z (Names text n ∷ cs) are = absurd are.0

all_append : (P : Change → Type 0) (xs ys : List Change) → AllAre P xs → AllAre P ys → AllAre P (xs ++ ys)
all_append P [] ys a b = b
all_append P (x ∷ xs) ys a b = (a.0, all_append P xs ys a.1 b)

-- Lists of which all but the last are so.

abbrev AllBut : (ℕ → Type 0) → List ℕ → Type 0
AllBut P [] = Unit {0}
AllBut P (x ∷ []) = Unit {0}
AllBut P (x ∷ y ∷ ys) = P x × AllBut P (y ∷ ys)

record IsHead (f : ℕ → Bool) (a c j : ℕ) : Type 0 where
  passes : f j ≡ true
  low : a ≤ j
  high : j < a + c

head_of : (f : ℕ → Bool) (a c j : ℕ) (js : List ℕ) → filter f (indexes a c) ≡ j ∷ js → IsHead f a c j
head_of f a zero j js e = absurd (cc)
head_of f a (suc c) j js e = go (λ z. head_of f (a + 1) c j js z) (f a) refl e
  where
    heads : {x y : ℕ} {xs ys : List ℕ} → x ∷ xs ≡ y ∷ ys → x ≡ y
    heads e = cc

    go : (filter f (indexes (a + 1) c) ≡ j ∷ js → IsHead f (a + 1) c j) → (b : Bool) → f a ≡ b → cond b (a ∷ filter f (indexes (a + 1) c)) (filter f (indexes (a + 1) c)) ≡ j ∷ js → IsHead f a (suc c) j
    go rest true is e = (let same : a ≡ j = heads e in record { passes = ap f (sym same) ∙ is; low = omega (arith, same); high = omega (arith, same) })
    go rest false is e = (let h = rest e in let a1 = h.low in let a2 = h.high in record { passes = h.passes; low = omega (arith, a1); high = omega (arith, a2) })

filter_but : (f : ℕ → Bool) (P : ℕ → Type 0) (a c : ℕ) → ((i j : ℕ) → f i ≡ true → f j ≡ true → a ≤ i → i < j → j < a + c → P i) → AllBut P (filter f (indexes a c))
filter_but f P a zero each = tt
filter_but f P a (suc c) each = go (filter_but f P (a + 1) c (λ i j x y low less high. each i j x y (omega (arith, low)) less (omega (arith, high)))) (f a) refl
  where
    front : f a ≡ true → (xs : List ℕ) → filter f (indexes (a + 1) c) ≡ xs → AllBut P xs → AllBut P (a ∷ xs)
    front is [] e rest = tt
    front is (j ∷ js) e rest =
        (let h = head_of f (a + 1) c j js e in
        let low = h.low in
        let high = h.high in
        (each a j is h.passes (omega arith) (omega (arith, low)) (omega (arith, high)), rest))

    go : AllBut P (filter f (indexes (a + 1) c)) → (b : Bool) → f a ≡ b → AllBut P (cond b (a ∷ filter f (indexes (a + 1) c)) (filter f (indexes (a + 1) c)))
    go rest true is = front is (filter f (indexes (a + 1) c)) refl rest
    go rest false is = rest

-- The sizes of a run: all but the last are 0, which stands for 65,536.

zeros_but : (segs : ℕ) (xs : List ℕ) → AllBut (λ (z : ℕ). z ≡ 0) xs → AllBut (λ (z : ℕ). z ≡ 0) (replicate segs 0 ++ xs)
zeros_but zero xs last = last
zeros_but (suc segs) xs last = front (replicate segs 0 ++ xs) (zeros_but segs xs last)
  where
    front : (ys : List ℕ) → AllBut (λ (z : ℕ). z ≡ 0) ys → AllBut (λ (z : ℕ). z ≡ 0) (0 ∷ ys)
    front [] rest = tt
    front (y ∷ ys) rest = (refl, rest)

sizes_but : (segs part : ℕ) → AllBut (λ (z : ℕ). z ≡ 0) (sizes_of segs part)
sizes_but segs part = zeros_but segs _ (last (part == 0))
  where
    last : (b : Bool) → AllBut (λ (z : ℕ). z ≡ 0) (if b then [] else part ∷ [])
    last true = tt
    last false = tt

none_past : (n : ℕ) (xs : List ℕ) → length xs ≤ n → drop n xs ≡ []
none_past n xs l = go (drop n xs) (let e = length-drop n xs in omega (arith, e, l))
  where
    go : (ys : List ℕ) → length ys ≡ 0 → ys ≡ []
    go [] e = refl
    go (y ∷ ys) e = absurd (omega (arith, e))

-- Members.

either : (P : List Change → Type 0) (b : Bool) (r q : Ruling) → P r.changes → P q.changes → P (cond b r q).changes
either P true r q h k = h
either P false r q h k = k

module _ (names : Map Segment) (z : ℕ) where
  hold_grown : (name first count i : ℕ) (ps : List (ℕ × ℕ)) → AllAre (IsGrownBy names z) (all_hold name first count i ps)
  hold_grown name first count i [] = tt
  hold_grown name first count i (p ∷ ps) = (tt, hold_grown name first count i ps)

  new_grown : (name first count flags : ℕ) (ps : List (ℕ × ℕ)) (is zs : List ℕ) → AllAre (IsGrownBy names z) (new_members name first count flags ps is zs)
  new_grown name first count flags ps [] zs = tt
  new_grown name first count flags ps (i ∷ is) [] = tt
  new_grown name first count flags ps (i ∷ is) (y ∷ ys) =
      (tt, all_append (IsGrownBy names z) (all_hold name first count i ps) (new_members (name + 1) first count flags ps is ys) (hold_grown name first count i ps) (new_grown (name + 1) first count flags ps is ys))

no_new : (name first count flags : ℕ) (ps : List (ℕ × ℕ)) (is : List ℕ) → new_members name first count flags ps is [] ≡ []
no_new name first count flags ps [] = refl
no_new name first count flags ps (i ∷ is) = refl

dropped_cut : (names : Map Segment) (k : Known) (n : ℕ) (is : List ℕ) → AllAre (IsCutBy names) (dropped_members k n is)
dropped_cut names k n [] = tt
dropped_cut names k n (i ∷ is) = all_append (IsCutBy names) (all_dropped n i (k.held n i)) (dropped_members k n is) (one (k.held n i)) (dropped_cut names k n is)
  where
    one : (o : Option Held) → AllAre (IsCutBy names) (all_dropped n i o)
    one None = tt
    one (Some h) = (tt, tt)

-- A new run.
pub allocation_sizing : (s : Setting) (w : World) (n segs part most flags : ℕ) → IsSizing w.names (huge_allocation (known_of s w) n segs part most flags).changes
allocation_sizing s w n segs part most flags =
    let k : Known = known_of s w in
    let m : ℕ = segments_of segs part in
    either (IsSizing w.names) (is_huge_fault m most flags) _ _ (Cut tt)
    (either (IsSizing w.names) (nat_lt k.most (k.count + m)) _ _ (Cut tt) (at (free_run k (region_by n flags) (max m most))))
  where
    at : (o : Option ℕ) → IsSizing w.names (huge_at (known_of s w) n segs part (max (segments_of segs part) most) flags o).changes
    at None = Cut tt
    at (Some i) =
        Grown 0 (all_append (IsGrownBy w.names 0) _ _
        (new_grown w.names 0 (known_of s w).next i (max (segments_of segs part) most) flags ((n, 1) ∷ []) (indexes i (segments_of segs part)) (sizes_of segs part)) (tt, tt))

-- A run that gets other sizes, in a tidy world.

module _ (s : Setting) (w : World) (tied : IsTied w) (tidy : IsTidy w.processes w.names w.reserved) (n : ℕ) where
  abbrev k : Known
  k = known_of s w

  -- what the process holds at an index has 65,536 bytes
  abbrev IsFullAt : ℕ → Type 0
  IsFullAt i = (h : Held) → held_at w.processes n i ≡ Some h → is_full (get w.names h.name) ≡ true

  full_bytes : (g : Segment) → is_full (Some g) ≡ true → length g.bytes ≡ 65536
  full_bytes g e = eqb-true (length g.bytes) 65536 e

  -- a member that is sized
  one_by : (P : Change → Type 0) (z : ℕ) (o : Option Held)
      → ((h : Held) → o ≡ Some h → (g : Segment) → get w.names h.name ≡ Some g → (length g.bytes == full_size z) ≡ false → P (Resizes h.name (full_size z)))
      → AllAre P (resized_one z o (marks_under k o))
  one_by P z None each = tt
  one_by P z (Some h) each = by_segment (get w.names h.name) refl
    where
      by_test : (g : Segment) → get w.names h.name ≡ Some g → (b : Bool) → (length g.bytes == full_size z) ≡ b → AllAre P (if b then [] else Resizes h.name (full_size z) ∷ [])
      by_test g e true f = tt
      by_test g e false f = (each h refl g e f, tt)

      by_segment : (o : Option Segment) → get w.names h.name ≡ o → AllAre P (resized_one z (Some h) (option_map marks_of o))
      by_segment None e = tt
      by_segment (Some g) e = by_test g e (length g.bytes == full_size z) refl

  size_is : (q : ℕ) (g : Segment) → get w.names q ≡ Some g → size_of (get w.names q) ≡ length g.bytes
  size_is q g e = ap size_of e

  -- none grows where fewer sizes are left
  cut_all : (is zs : List ℕ) → AllBut IsFullAt is → length zs < length is → AllAre (IsCutBy w.names) (resized_members k n is zs)
  cut_all [] zs full l = absurd (omega (arith, l))
  cut_all (i ∷ is) [] full l = tt
  cut_all (i ∷ []) (z ∷ zs) full l = absurd (omega (arith, l))
  cut_all (i ∷ j ∷ is) (z ∷ zs) full l =
      all_append (IsCutBy w.names) (resized_one z (k.held n i) (marks_under k (k.held n i))) (resized_members k n (j ∷ is) zs)
      (one_by (IsCutBy w.names) z (k.held n i)
      (λ h there g e other.
      (let a = full_bytes g (ap is_full (sym e) ∙ full.0 h there) in
      let b = (full_is z).1 in
      let c = size_is h.name g e in
      omega (arith, a, b, c))))
      (cut_all (j ∷ is) zs full.1 (omega (arith, l)))

  -- all get 65,536 bytes where more are wanted
  grown_all : (is zs : List ℕ) → AllBut (λ (z : ℕ). z ≡ 0) zs → length is < length zs → AllAre (IsGrownBy w.names 65536) (resized_members k n is zs)
  grown_all [] zs zeros l = tt
  grown_all (i ∷ is) [] zeros l = absurd (omega (arith, l))
  grown_all (i ∷ is) (z ∷ []) zeros l = absurd (omega (arith, l))
  grown_all (i ∷ is) (z ∷ y ∷ ys) zeros l =
      all_append (IsGrownBy w.names 65536) (resized_one z (k.held n i) (marks_under k (k.held n i))) (resized_members k n is (y ∷ ys))
      (one_by (IsGrownBy w.names 65536) z (k.held n i)
      (λ h there g e other. (ap full_size zeros.0, (let a = (tied.sized h.name g e).1 in let b = size_is h.name g e in omega (arith, a, b)))))
      (grown_all is (y ∷ ys) zeros.1 (omega (arith, l)))

  -- and with as many the last one alone may get another size
  same_all : (is zs : List ℕ) → AllBut IsFullAt is → AllBut (λ (z : ℕ). z ≡ 0) zs → length is ≡ length zs → IsSizing w.names (resized_members k n is zs)
  same_all [] zs full zeros l = Cut tt
  same_all (i ∷ is) [] full zeros l = Cut tt
  same_all (i ∷ []) (z ∷ []) full zeros l = by_held (k.held n i)
    where
      by_size : (h : Held) (g : Segment) → get w.names h.name ≡ Some g → (b : Bool) → IsSizing w.names ((if b then [] else Resizes h.name (full_size z) ∷ []) ++ [])
      by_size h g e true = Cut tt
      by_size h g e false = elim (cases_lt (full_size z) (length g.bytes)) [
        | inl less ↦ Cut ((let c = size_is h.name g e in omega (arith, less, c)), tt)
        | inr more ↦ Grown (full_size z) ((refl, (let c = size_is h.name g e in omega (arith, more, c))), tt)
      ]

      by_segment : (h : Held) (o : Option Segment) → get w.names h.name ≡ o → IsSizing w.names (resized_one z (Some h) (option_map marks_of o) ++ [])
      by_segment h None e = Cut tt
      by_segment h (Some g) e = by_size h g e (length g.bytes == full_size z)

      by_held : (o : Option Held) → IsSizing w.names (resized_one z o (marks_under k o) ++ [])
      by_held None = Cut tt
      by_held (Some h) = by_segment h (get w.names h.name) refl
  same_all (i ∷ []) (z ∷ y ∷ ys) full zeros l = absurd (omega (arith, l))
  same_all (i ∷ j ∷ is) (z ∷ []) full zeros l = absurd (omega (arith, l))
  same_all (i ∷ j ∷ is) (z ∷ y ∷ ys) full zeros l =
      subst (λ (cs : List Change). IsSizing w.names (cs ++ resized_members k n (j ∷ is) (y ∷ ys))) (sym (none (k.held n i) (λ h there. full.0 h there)))
      (same_all (j ∷ is) (y ∷ ys) full.1 zeros.1 (omega (arith, l)))
    where
      by_segment : (h : Held) (o : Option Segment) → is_full o ≡ true → resized_one z (Some h) (option_map marks_of o) ≡ []
      by_segment h None e = refl
      by_segment h (Some g) e = ap (λ (b : Bool). if b then [] else Resizes h.name (full_size z) ∷ []) (ap (λ (x : ℕ). length g.bytes == full_size x) zeros.0 ∙ e)

      none : (o : Option Held) → ((h : Held) → o ≡ Some h → is_full (get w.names h.name) ≡ true) → resized_one z o (marks_under k o) ≡ []
      none None each = refl
      none (Some h) each = by_segment h (get w.names h.name) (each h refl)

  -- a member before another one is full
  member_full : (i : ℕ) (h : Held) → held_at w.processes n i ≡ Some h → is_in_run h ≡ true → AllBut IsFullAt (members k n i h)
  member_full i h there run = go (h.reserved == 0)
    where
      m : IsMemberOf (held_at w.processes) n i h
      m = record { there = there; run = run }

      holds : ℕ → Bool
      holds j = is_some (held_at w.processes n j)

      held_there : (j : ℕ) → holds j ≡ true → (x : Held) × (held_at w.processes n j ≡ Some x)
      held_there j e = by (held_at w.processes n j) refl e
        where
          by : (o : Option Held) → held_at w.processes n j ≡ o → is_some o ≡ true → (x : Held) × (held_at w.processes n j ≡ Some x)
          by None f some = absurd (false≢true some)
          by (Some x) f some = (x, f)

      some_of : (a b : ℕ) → b ≡ a → not (a == 0) ≡ true → not (b == 0) ≡ true
      some_of a b same some = ap (λ (c : ℕ). not (c == 0)) same ∙ some

      each : (a b : ℕ) → holds a ≡ true → holds b ≡ true → h.first ≤ a → a < b → b < h.first + h.reserved → IsFullAt a
      each a b ha hb low less high x at =
          let y = held_there b hb in
          let one = tidy.runs.stretches.whole n i h m n a x at (low, omega (arith, less, high)) (inl refl) in
          let two = tidy.runs.stretches.whole n i h m n b y.0 y.1 (omega (arith, low, less), high) (inl refl) in
          let mx : IsMemberOf (held_at w.processes) n a x = record { there = at; run = some_of h.reserved x.reserved one.1 run } in
          let my : IsMemberOf (held_at w.processes) n b y.0 = record { there = y.1; run = some_of h.reserved y.0.reserved two.1 run } in
          let f1 = one.0 in
          let r1 = one.1 in
          let f2 = two.0 in
          let z = tidy.runs.fronts.front n b y.0 my (a + 1) (omega (arith, f2, low)) (omega (arith, less)) in
          tidy.full.each n a x mx (omega (arith, f1, low), omega (arith, f1, r1, less, high)) (ap is_some z.there)

      go : (b : Bool) → AllBut IsFullAt (if b then i ∷ [] else filter (λ (j : ℕ). is_some (k.held n j)) (indexes h.first h.reserved))
      go true = tt
      go false = filter_but holds IsFullAt h.first h.reserved each

  run_sizing : (h : Held) (is : List ℕ) (segs part : ℕ) → AllBut IsFullAt is → IsSizing w.names (run_changes k n h is (sizes_of segs part))
  run_sizing h is segs part full = by (cases_lt (length zs) (length is)) (cases_lt (length is) (length zs))
    where
      zs : List ℕ
      zs = sizes_of segs part

      new : List ℕ → List Change
      new ys = new_members k.next h.first h.reserved (flags_in (k.segment h.name)) ((n, h.holds) ∷ other_shares k n h.first) (left_in_run k n h) ys

      no_more : length zs ≤ length is → new (drop (length is) zs) ≡ []
      no_more l = ap new (none_past (length is) zs l) ∙ no_new k.next h.first h.reserved (flags_in (k.segment h.name)) ((n, h.holds) ∷ other_shares k n h.first) (left_in_run k n h)

      no_less : length is ≤ length zs → dropped_members k n (drop (length zs) is) ≡ []
      no_less l = ap (dropped_members k n) (none_past (length zs) is l)

      cut : length zs < length is → IsSizing w.names (run_changes k n h is zs)
      cut l =
          Cut (all_append (IsCutBy w.names) (resized_members k n is zs) _ (cut_all is zs full l)
          (subst (λ (cs : List Change). AllAre (IsCutBy w.names) (cs ++ dropped_members k n (drop (length zs) is))) (sym (no_more (omega (arith, l)))) (dropped_cut w.names k n (drop (length zs) is))))

      grown : length is < length zs → IsSizing w.names (run_changes k n h is zs)
      grown l =
          Grown 65536 (all_append (IsGrownBy w.names 65536) (resized_members k n is zs) _ (grown_all is zs (sizes_but segs part) l)
          (all_append (IsGrownBy w.names 65536) (new (drop (length is) zs)) _
          (new_grown w.names 65536 k.next h.first h.reserved (flags_in (k.segment h.name)) ((n, h.holds) ∷ other_shares k n h.first) (left_in_run k n h) (drop (length is) zs))
          (subst (AllAre (IsGrownBy w.names 65536)) (sym (no_less (omega (arith, l)))) tt)))

      nil : (xs : List Change) → xs ++ [] ≡ xs
      nil [] = refl
      nil (x ∷ xs) = ap (λ (ys : List Change). x ∷ ys) (nil xs)

      same : length is ≡ length zs → IsSizing w.names (run_changes k n h is zs)
      same e =
          subst (λ (cs : List Change). IsSizing w.names (resized_members k n is zs ++ (cs ++ dropped_members k n (drop (length zs) is)))) (sym (no_more (omega (arith, e))))
          (subst (λ (cs : List Change). IsSizing w.names (resized_members k n is zs ++ cs)) (sym (no_less (omega (arith, e))))
          (subst (IsSizing w.names) (sym (nil (resized_members k n is zs))) (same_all is zs full (sizes_but segs part) e)))

      by : (length zs < length is) ⊎ (length is ≤ length zs) → (length is < length zs) ⊎ (length zs ≤ length is) → IsSizing w.names (run_changes k n h is zs)
      by (inl l) other = cut l
      by (inr l) (inl m) = grown m
      by (inr l) (inr m) = same (omega (arith, l, m))

  resized_sizing : (segs part : ℕ) (c : Cpu) (h : Held) (is : List ℕ) → AllBut IsFullAt is → IsSizing w.names (run_resized k n segs part c h is).changes
  resized_sizing segs part c h is full =
      let m : ℕ = segments_of segs part in
      either (IsSizing w.names) (m == 0) _ _ (Cut tt)
      (either (IsSizing w.names) (nat_lt h.reserved m) _ _ (Cut tt)
      (either (IsSizing w.names) ((nat_le shared_from h.first && nat_lt (bytes_of segs part) (all_bytes k n is)) || in_use c (drop m is)) _ _ (Cut tt)
      (either (IsSizing w.names) (nat_lt k.most (k.count + (m - length is)) || nat_lt (length is + length (left_in_run k n h)) m) _ _ (Cut tt) (run_sizing h is segs part full))))

  pub reallocation_sizing : (segs part selector : ℕ) (c : Cpu) → IsSizing w.names (huge_reallocation k n segs part selector c).changes
  reallocation_sizing segs part selector c = go (held_under k n selector) refl
    where
      at_index : (t : Bool) (o : Option Held) (y : Held) → (if t then o else None) ≡ Some y → o ≡ Some y
      at_index true o y f = f
      at_index false o y f = absurd (cc)

      first : (h : Held) → held_at w.processes n (selector / 8) ≡ Some h → (b : Bool) → is_first (selector / 8) h ≡ b
          → IsSizing w.names (cond b (run_resized k n segs part c h (members k n (selector / 8) h)) (huge_reallocation_of k n (selector / 8) segs part c None)).changes
      first h there true e = resized_sizing segs part c h (members k n (selector / 8) h) (member_full (selector / 8) h there (and_parts (is_in_run h) (h.first == selector / 8) e).0)
      first h there false e = Cut tt

      go : (o : Option Held) → held_under k n selector ≡ o → IsSizing w.names (huge_reallocation_of k n (selector / 8) segs part c o).changes
      go None e = Cut tt
      go (Some h) e = first h (at_index (is_local selector) (held_at w.processes n (selector / 8)) h e) (is_first (selector / 8) h) refl
