-- What a step that shares no segment changes, by names: each is one that its process holds, or the next one.
use Rattle.std.proofs.Common.{◌≡◌, ◌⊎◌, inl, inr, refl, sym, ◌∙◌, subst, ℕ, zero, suc, ◌+◌, ◌-◌, ◌<◌, ◌≤◌, ◌/◌, ◌==◌, ◌&&◌, ◌||◌, Bool, true, false, not, cond, List, [], ◌∷◌, ◌++◌, filter, length, arith}
use Rattle.std.specs.Prelude.{Option, Some, None, Result, Ok, Err, not, map, max, drop, is_some, nat_le, nat_lt}
use Rattle.o2_desc.specs.Bits.{is_writable}
use Rattle.o2_isa.specs.declared.cpu.Stop.{Stop}
use Rattle.o2_isa.specs.declared.cpu.Stop.TheVariants as stop
use Rattle.o2_isa.specs.Steps.{State as Machine, state}
use Rattle.o2_isa.specs.Step.{stepped}
use Rattle.o2_world.specs.World.{ByAlias, ByCall, Cause, Held, is_live}
use Rattle.o2_world.specs.Changes.{Change, Makes, Resizes, Locks, Marks, Holds, Drops, Finishes, Reserves, Frees, Names}
use Rattle.o2_world.specs.Known.{Marks as SegmentMarks}
use Rattle.o2_world.specs.declared.types.Slot.{Slot}
use Rattle.o2_world.specs.CallParts.{Before, Effect, argument}
use Rattle.o2_world.specs.Rulings.{Ruling, refusal, held_under, free_index, allocation, allocation_at, held_by_call, region_by, is_alias, is_in_run, full_size}
use Rattle.o2_world.specs.Rulings.{reallocation_of, reallocation_with, keeps_its_size, members, indexes, is_later, in_use, by_load, freeing_of, sizing_of}
use Rattle.o2_world.specs.Rulings.{is_sizeable, resizes_with, sizing_with, is_discardable, locking_of, locking_with, unlocking_of, unlocking_with, aliasing_of, aliasing_at}
use Rattle.o2_world.specs.Outcomes.{CallRow, Outcome, ruled}
use Rattle.o2_world.specs.Calls.{aliasing_by, allocation_by, avail_by, freeing_by, huge_allocation_by, huge_reallocation_by, locking_by, reallocation_by, rows, serviced, shift_by, sizing_by, unlocking_by}
use Rattle.o2_world.specs.RowLaws.{EachEntry, IsQuiet, changes_of}
use Rattle.o2_world.proofs.Serving.{by_entry}
use Rattle.o2_world.specs.Effect.{has_trap_flag, answered, single_stepped, effect}
use Rattle.o2_world.proofs.Quiet.{changes_come, alloc_quiet, free_quiet, read_quiet, request_quiet, set_quiet, wait_quiet, write_quiet}
use Rattle.o2_world.specs.SharedRulings.{marks_under, shared_from}
use Rattle.o2_world.specs.HugeRulings.{all_bytes, all_dropped, bytes_of, dropped_members, flags_in, free_run, held_in_run, huge_allocation, huge_at, huge_reallocation_of}
use Rattle.o2_world.specs.HugeRulings.{is_first, is_huge_fault, left_in_run, new_members, other_shares, resized_members, resized_one, run_changes}
use Rattle.o2_world.specs.HugeRulings.{run_resized, segments_of, sizes_of}
use Rattle.o2_world.specs.Moves.{Each}
use Rattle.o2_world.proofs.SegmentMoves.{held_there, indexes_from, region_is}
use Rattle.o2_alone.proofs.RenamedRuns.{no_other}
use Rattle.o2_alone.specs.Renaming.{Asking, asking_of, asks_members, asks_nothing, asks_others, asks_run, asks_segment, call_of, called_by, reaches_shared}
use Rattle.o2_alone.specs.Keeping.{meets}

pub indexes_to : (first n : ℕ) → Each (λ (j : ℕ). j < first + n) (indexes first n)
indexes_to first zero = tt
indexes_to first (suc n) = (omega arith, weaker (indexes (first + 1) n) (indexes_to (first + 1) n))
  where
    weaker : (is : List ℕ) → Each (λ (j : ℕ). j < first + 1 + n) is → Each (λ (j : ℕ). j < first + suc n) is
    weaker [] all = tt
    weaker (i ∷ is) all = (let l = all.0 in omega (arith, l), weaker is all.1)

pub both_each : (P Q R : ℕ → Type 0) → ((j : ℕ) → P j → Q j → R j) → (is : List ℕ) → Each P is → Each Q is → Each R is
both_each P Q R f [] p q = tt
both_each P Q R f (i ∷ is) p q = (f i p.0 q.0, both_each P Q R f is p.1 q.1)

pub each_kept : (P : ℕ → Type 0) (g : ℕ → Bool) (is : List ℕ) → Each P is → Each P (filter g is)
each_kept P g [] all = tt
each_kept P g (i ∷ is) all = go (g i) (each_kept P g is all.1)
  where
    go : (t : Bool) → Each P (filter g is) → Each P (cond t (i ∷ filter g is) (filter g is))
    go true rest = (all.0, rest)
    go false rest = rest

-- a name that the process holds, of a segment with such marks
pub record IsOwnName (b : Before) (ok : SegmentMarks → Bool) (n : ℕ) : Type 0 where
  pub index : ℕ
  pub hold : Held
  pub there : b.known.held b.number index ≡ Some hold
  pub named : hold.name ≡ n
  pub marks : SegmentMarks
  pub segment : b.known.segment n ≡ Some marks
  pub good : ok marks ≡ true

abbrev pub may_change : SegmentMarks → Bool
may_change m = not m.clean

-- only what is discardable is locked, or what was made anew
abbrev pub may_lock : SegmentMarks → Bool
may_lock m = is_discardable m || may_change m

-- Segments that may change get other sizes and are made anew, and those that are discardable get other lock counts. The process holds more of what it holds, or
-- of what it makes.
-- a segment that the process holds as data that can be written
pub record IsWritableName (b : Before) (n : ℕ) : Type 0 where
  pub index : ℕ
  pub hold : Held
  pub there : b.known.held b.number index ≡ Some hold
  pub named : hold.name ≡ n
  pub writable : is_writable hold.rights ≡ true

-- only that gets an alias
abbrev pub IsGoodAlias : Before → Held → Type 0
IsGoodAlias b h = h.cause ≡ ByAlias → IsWritableName b h.name

called_alias : (c : Cause) → c ≡ ByCall → c ≡ ByAlias → ⊥
called_alias c e f = no (sym e ∙ f)
  where
    no : ◌≡◌ {A = Cause} ByCall ByAlias → ⊥
    no e = cc

pub no_alias : (b : Before) (h : Held) → h.cause ≡ ByCall → IsGoodAlias b h
no_alias b h e f = absurd (called_alias h.cause e f)

-- what the process holds in the stretch of a run may change
abbrev pub RunsMayChange : Before → Type 0
RunsMayChange b = (i j : ℕ) (h g : Held) (m : SegmentMarks) → b.known.held b.number i ≡ Some h → is_in_run h ≡ true → h.first ≤ j → j < h.first + h.reserved → b.known.held b.number j ≡ Some g
    → b.known.segment g.name ≡ Some m → may_change m ≡ true

abbrev pub IsOfOwn : Before → Change → Type 0
IsOfOwn b (Makes s) = s.clean ≡ false
IsOfOwn b (Resizes n size) = IsOwnName b may_change n
IsOfOwn b (Locks n count) = IsOwnName b may_lock n
IsOfOwn b (Marks n discarded) = IsOwnName b may_change n
IsOfOwn b (Holds p i h) = (p ≡ b.number) × (((b.known.next ≤ h.name) ⊎ ((index : ℕ) × (hold : Held) × (b.known.held b.number index ≡ Some hold) × (hold.name ≡ h.name))) × IsGoodAlias b h)
IsOfOwn b (Drops p i count) = p ≡ b.number
IsOfOwn b (Finishes p state) = ⊥
IsOfOwn b (Reserves r) = (r.region ≡ b.number) ⊎ (r.region ≡ 0)
IsOfOwn b (Frees region first) = ⊥
IsOfOwn b (Names text name) = ⊥

abbrev pub AreOfOwn : Before → List Change → Type 0
AreOfOwn b [] = Unit {0}
AreOfOwn b (c ∷ cs) = IsOfOwn b c × AreOfOwn b cs

-- a call by which no segment is shared
abbrev pub IsUnshared : Before → Option ℕ → Type 0
IsUnshared b None = Unit {0}
IsUnshared b (Some service) = (asking_of service).others b (argument b.view b.cpu) ≡ false

-- one that tells nothing of other processes, and of which they can tell nothing, shares none
pub quiet_unshared : (b : Before) (call : Option ℕ) → meets b call ≡ false → IsUnshared b call
quiet_unshared b None quiet = tt
quiet_unshared b (Some service) quiet = second (asking_of service).input _ _ quiet
  where
    second : (x y z : Bool) → (x || (y || z)) ≡ false → y ≡ false
    second true y z e = absurd (cc)
    second false true z e = absurd (cc)
    second false false z e = refl

module _ (b : Before) where
  -- Rulings.

  rules : (t : Bool) (r q : Ruling) → AreOfOwn b r.changes → (t ≡ false → AreOfOwn b q.changes) → AreOfOwn b (cond t r q).changes
  rules true r q h k = h
  rules false r q h k = k refl

  allocation_own : (size flags : ℕ) → AreOfOwn b (allocation b.known b.number size flags).changes
  allocation_own size flags = rules (nat_lt 15 flags) _ _ tt (λ _. rules (nat_le b.known.most b.known.count) _ _ tt (λ _. at_index (free_index b.known (region_by b.number flags))))
    where
      at_index : (o : Option ℕ) → AreOfOwn b (allocation_at b.known b.number size flags o).changes
      at_index None = tt
      at_index (Some i) = (refl, ((refl, (inl (omega arith), no_alias b (held_by_call b.known.next) refl)), tt))

  not_clean : (a c : Bool) → (a || c) ≡ false → not a ≡ true
  not_clean true c e = cc
  not_clean false c e = refl

  discardable : (a c : Bool) → a ≡ true → (a || c) ≡ true
  discardable true c e = refl
  discardable false c e = absurd (cc)

  lockable : (a c : Bool) → c ≡ true → (a || c) ≡ true
  lockable true c e = refl
  lockable false c e = e

  resize_own : (name size : ℕ) → IsOwnName b may_change name → (d : Bool) → AreOfOwn b (resizes_with name size d)
  resize_own name size own true = (
    own,
    (
      own,
      (
        record {
          index = own.index;
          hold = own.hold;
          there = own.there;
          named = own.named;
          marks = own.marks;
          segment = own.segment;
          good = lockable (is_discardable own.marks) (may_change own.marks) own.good;
        },
        tt,
      ),
    ),
  )
  resize_own name size own false = (own, tt)

  realloc_own : (size s : ℕ) (o : Option Held) → held_under b.known b.number s ≡ o → AreOfOwn b (reallocation_of b.known (full_size size) o).changes
  realloc_own size s None e = tt
  realloc_own size s (Some h) e = rules (is_alias h.cause || is_in_run h) _ _ tt (λ _. by_marks (b.known.segment h.name) refl)
    where
      by_marks : (o : Option SegmentMarks) → b.known.segment h.name ≡ o → AreOfOwn b (reallocation_with h.name (full_size size) o).changes
      by_marks None is = tt
      by_marks (Some m) is = rules (keeps_its_size (full_size size) m) _ _ tt (λ changes.
          resize_own h.name (full_size size)
          (record {
            index = s / 8;
            hold = h;
            there = held_there b.known b.number s h e;
            named = refl;
            marks = m;
            segment = is;
            good = not_clean m.clean (m.shared && (not (is_sizeable m) && nat_lt (full_size size) m.size)) changes;
          }) m.discarded)

  drops_own : (is : List ℕ) → AreOfOwn b (map (λ (i : ℕ). Drops b.number i 1) is)
  drops_own [] = tt
  drops_own (i ∷ is) = (refl, drops_own is)

  free_own : (s : ℕ) (o : Option Held) → AreOfOwn b (freeing_of b.known b.number s b.cpu o).changes
  free_own s None = tt
  free_own s (Some h) = rules (by_load h.cause || is_later (s / 8) h) _ _ tt (λ _. rules (in_use b.cpu (members b.known b.number (s / 8) h)) _ _ tt (λ _. drops_own (members b.known b.number (s / 8) h)))

  size_own : (o : Option Held) → AreOfOwn b (sizing_of b.known o).changes
  size_own None = tt
  size_own (Some h) = by_marks (b.known.segment h.name)
    where
      by_marks : (o : Option SegmentMarks) → AreOfOwn b (sizing_with o).changes
      by_marks None = tt
      by_marks (Some m) = tt

  -- of a segment that is discardable
  locks : (s : ℕ) (h : Held) (m : SegmentMarks) (r : Ruling) → held_under b.known b.number s ≡ Some h → b.known.segment h.name ≡ Some m
      → (IsOwnName b may_lock h.name → AreOfOwn b r.changes) → AreOfOwn b (cond (is_discardable m) r (refusal 5)).changes
  locks s h m r e is own = go (is_discardable m) refl
    where
      go : (t : Bool) → is_discardable m ≡ t → AreOfOwn b (cond t r (refusal 5)).changes
      go true good = own (record { index = s / 8; hold = h; there = held_there b.known b.number s h e; named = refl; marks = m; segment = is; good = discardable (is_discardable m) (may_change m) good })
      go false good = tt

  lock_own : (s : ℕ) (o : Option Held) → held_under b.known b.number s ≡ o → AreOfOwn b (locking_of b.known o).changes
  lock_own s None e = tt
  lock_own s (Some h) e = by_marks (b.known.segment h.name) refl
    where
      by_marks : (o : Option SegmentMarks) → b.known.segment h.name ≡ o → AreOfOwn b (locking_with h.name o).changes
      by_marks None is = tt
      by_marks (Some m) is = locks s h m _ e is (λ own. rules m.discarded _ _ tt (λ _. (own, tt)))

  unlock_own : (s : ℕ) (o : Option Held) → held_under b.known b.number s ≡ o → AreOfOwn b (unlocking_of b.known o).changes
  unlock_own s None e = tt
  unlock_own s (Some h) e = by_marks (b.known.segment h.name) refl
    where
      by_marks : (o : Option SegmentMarks) → b.known.segment h.name ≡ o → AreOfOwn b (unlocking_with h.name o).changes
      by_marks None is = tt
      by_marks (Some m) is = locks s h m _ e is (λ own. rules (m.lock == 0) _ _ tt (λ _. (own, tt)))

  alias_own : (s : ℕ) (o : Option Held) → held_under b.known b.number s ≡ o → AreOfOwn b (aliasing_of b.known b.number (s / 8) o).changes
  alias_own s None e = tt
  alias_own s (Some h) e = rules (nat_le 4096 (s / 8) || (not (is_writable h.rights) || is_in_run h)) _ _ tt (λ good. at_index (writes (nat_le 4096 (s / 8)) (is_writable h.rights) (is_in_run h) good) (free_index b.known b.number))
    where
      there : b.known.held b.number (s / 8) ≡ Some h
      there = held_there b.known b.number s h e

      writes : (x y z : Bool) → (x || (not y || z)) ≡ false → y ≡ true
      writes true y z f = cc
      writes false true z f = refl
      writes false false z f = cc

      at_index : is_writable h.rights ≡ true → (o : Option ℕ) → AreOfOwn b (aliasing_at b.number h.name o).changes
      at_index good None = tt
      at_index good (Some i) = ((refl, (inr (s / 8, h, there, refl), λ _. record { index = s / 8; hold = h; there = there; named = refl; writable = good })), tt)

  -- Huge allocations.

  append_own : (xs ys : List Change) → AreOfOwn b xs → AreOfOwn b ys → AreOfOwn b (xs ++ ys)
  append_own [] ys h k = k
  append_own (x ∷ xs) ys h k = (h.0, append_own xs ys h.1 k)

  new_own : (first count flags times : ℕ) (is zs : List ℕ) (name : ℕ) → b.known.next ≤ name → AreOfOwn b (new_members name first count flags ((b.number, times) ∷ []) is zs)
  new_own first count flags times [] zs name low = tt
  new_own first count flags times (i ∷ is) [] name low = tt
  new_own first count flags times (i ∷ is) (z ∷ zs) name low =
      (refl, ((refl, (inl low, no_alias b (held_in_run name first count times) refl)), new_own first count flags times is zs (name + 1) (omega (arith, low))))

  huge_own : (segs part most flags : ℕ) → AreOfOwn b (huge_allocation b.known b.number segs part most flags).changes
  huge_own segs part most flags =
      rules (is_huge_fault (segments_of segs part) most flags) _ _ tt
      (λ _. rules (nat_lt b.known.most (b.known.count + segments_of segs part)) _ _ tt (λ _. at_index (free_run b.known (region_by b.number flags) (max (segments_of segs part) most))))
    where
      at_index : (o : Option ℕ) → AreOfOwn b (huge_at b.known b.number segs part (max (segments_of segs part) most) flags o).changes
      at_index None = tt
      at_index (Some i) =
          append_own (new_members b.known.next i (max (segments_of segs part) most) flags ((b.number, 1) ∷ []) (indexes i (segments_of segs part)) (sizes_of segs part)) _
          (new_own i (max (segments_of segs part) most) flags 1 (indexes i (segments_of segs part)) (sizes_of segs part) b.known.next (omega arith)) (region_is b.number flags, tt)

  -- the sizes of what may change
  pub sizes_own : (is zs : List ℕ) → Each (λ (i : ℕ). (g : Held) (m : SegmentMarks) → b.known.held b.number i ≡ Some g → b.known.segment g.name ≡ Some m → may_change m ≡ true) is
      → AreOfOwn b (resized_members b.known b.number is zs)
  sizes_own [] zs may = tt
  sizes_own (i ∷ is) [] may = tt
  sizes_own (i ∷ is) (z ∷ zs) may =
      append_own (resized_one z (b.known.held b.number i) (marks_under b.known (b.known.held b.number i))) (resized_members b.known b.number is zs) (one (b.known.held b.number i) refl) (sizes_own is zs may.1)
    where
      named : (h : Held) → b.known.held b.number i ≡ Some h → (o : Option SegmentMarks) → b.known.segment h.name ≡ o → AreOfOwn b (resized_one z (Some h) o)
      named h at None is = tt
      named h at (Some m) is = pick (m.size == full_size z)
        where
          pick : (t : Bool) → AreOfOwn b (cond t [] (Resizes h.name (full_size z) ∷ []))
          pick true = tt
          pick false = (record { index = i; hold = h; there = at; named = refl; marks = m; segment = is; good = may.0 h m at is }, tt)

      one : (o : Option Held) → b.known.held b.number i ≡ o → AreOfOwn b (resized_one z o (marks_under b.known o))
      one None at = tt
      one (Some h) at = named h at (b.known.segment h.name) refl

  pub dropped_own : (is : List ℕ) → AreOfOwn b (dropped_members b.known b.number is)
  dropped_own [] = tt
  dropped_own (i ∷ is) = append_own (all_dropped b.number i (b.known.held b.number i)) (dropped_members b.known b.number is) (one (b.known.held b.number i)) (dropped_own is)
    where
      one : (o : Option Held) → AreOfOwn b (all_dropped b.number i o)
      one None = tt
      one (Some h) = (refl, tt)

  pub members_may : RunsMayChange b → (s : ℕ) (h : Held) → b.known.held b.number s ≡ Some h → is_in_run h ≡ true
      → Each (λ (i : ℕ). (g : Held) (m : SegmentMarks) → b.known.held b.number i ≡ Some g → b.known.segment g.name ≡ Some m → may_change m ≡ true) (members b.known b.number s h)
  members_may may s h at run =
      subst (λ (t : Bool). Each May (cond t (s ∷ []) (filter (λ (i : ℕ). is_some (b.known.held b.number i)) (indexes h.first h.reserved)))) (sym (some_reserved h.reserved run))
      (each_kept May (λ (i : ℕ). is_some (b.known.held b.number i)) (indexes h.first h.reserved)
      (both_each (λ (j : ℕ). h.first ≤ j) (λ (j : ℕ). j < h.first + h.reserved) May (λ j low high g m there is. may s j h g m at run low high there is) (indexes h.first h.reserved) (indexes_from h.first h.reserved) (indexes_to h.first h.reserved)))
    where
      May : ℕ → Type 0
      May i = (g : Held) (m : SegmentMarks) → b.known.held b.number i ≡ Some g → b.known.segment g.name ≡ Some m → may_change m ≡ true

      some_reserved : (c : ℕ) → not (c == 0) ≡ true → (c == 0) ≡ false
      some_reserved c e = grind arith

  resized_own : RunsMayChange b → (segs part s : ℕ) (o : Option Held) → held_under b.known b.number s ≡ o → reaches_shared o ≡ false → AreOfOwn b (huge_reallocation_of b.known b.number (s / 8) segs part b.cpu o).changes
  resized_own may segs part s None e own = tt
  resized_own may segs part s (Some h) e own = first (is_first (s / 8) h) refl
    where
      is : List ℕ
      is = members b.known b.number (s / 8) h

      there : b.known.held b.number (s / 8) ≡ Some h
      there = held_there b.known b.number s h e

      in_run : is_first (s / 8) h ≡ true → is_in_run h ≡ true
      in_run f = go (is_in_run h) f
        where
          go : (t : Bool) → (t && (h.first == s / 8)) ≡ true → t ≡ true
          go true g = refl
          go false g = g

      low : is_in_run h ≡ true → nat_le shared_from h.first ≡ false
      low run = by (h.first + h.reserved) h.first h.reserved (second (is_in_run h) (nat_lt 4096 (h.first + h.reserved)) run own) (above h.reserved run)
        where
          second : (x y : Bool) → x ≡ true → (x && y) ≡ false → y ≡ false
          second true y f g = g
          second false y f g = cc

          above : (c : ℕ) → not (c == 0) ≡ true → 0 < c
          above c f = grind arith

          by : (t x c : ℕ) → nat_lt 4096 (x + c) ≡ false → 0 < c → nat_le 4096 x ≡ false
          by t x c f g = grind arith

      granted : is_in_run h ≡ true → AreOfOwn b (run_changes b.known b.number h is (sizes_of segs part))
      granted run =
          append_own (resized_members b.known b.number is (sizes_of segs part)) _ (sizes_own is (sizes_of segs part) (members_may may (s / 8) h there run))
          (append_own (new_members b.known.next h.first h.reserved (flags_in (b.known.segment h.name)) ((b.number, h.holds) ∷ other_shares b.known b.number h.first) (left_in_run b.known b.number h) (drop (length is) (sizes_of segs part))) _
          (subst (λ (ps : List (ℕ × ℕ)). AreOfOwn b (new_members b.known.next h.first h.reserved (flags_in (b.known.segment h.name)) ((b.number, h.holds) ∷ ps) (left_in_run b.known b.number h) (drop (length is) (sizes_of segs part)))) (sym none_other)
          (new_own h.first h.reserved (flags_in (b.known.segment h.name)) h.holds (left_in_run b.known b.number h) (drop (length is) (sizes_of segs part)) b.known.next (omega arith)))
          (dropped_own (drop (length (sizes_of segs part)) is)))
        where
          none_other : other_shares b.known b.number h.first ≡ []
          none_other = no_other b.known b.number h.first (low run)

      first : (t : Bool) → is_first (s / 8) h ≡ t → AreOfOwn b (cond t (run_resized b.known b.number segs part b.cpu h is) (refusal 5)).changes
      first false f = tt
      first true f =
          rules (segments_of segs part == 0) _ _ tt
          (λ _. rules (nat_lt h.reserved (segments_of segs part)) _ _ tt
          (λ _. rules ((nat_le shared_from h.first && nat_lt (bytes_of segs part) (all_bytes b.known b.number is)) || in_use b.cpu (drop (segments_of segs part) is)) _ _ tt
          (λ _. rules (nat_lt b.known.most (b.known.count + (segments_of segs part - length is)) || nat_lt (length is + length (left_in_run b.known b.number h)) (segments_of segs part)) _ _ tt (λ _. granted (in_run f)))))

-- Calls.

pub record IsOwnRuling (asking : Asking) (ruling : Before → (ℕ → ℕ) → Ruling) : Type 0 where
  pub own : (b : Before) (a : ℕ → ℕ) → RunsMayChange b → asking.others b a ≡ false → AreOfOwn b (ruling b a).changes

pub record IsOwnRow (asking : Asking) (r : CallRow) : Type 0 where
  pub own : (b : Before) (a : ℕ → ℕ) → RunsMayChange b → asking.others b a ≡ false → AreOfOwn b (changes_of (r.outcome b a))

either : (b : Before) (t : Bool) (o q : Outcome) → AreOfOwn b (changes_of o) → AreOfOwn b (changes_of q) → AreOfOwn b (changes_of (cond t o q))
either b true o q h k = h
either b false o q h k = k

by_its_ruling : (asking : Asking) (name : List ℕ) (ss : List Slot) (ruling : Before → (ℕ → ℕ) → Ruling) → IsOwnRuling asking ruling → IsOwnRow asking (ruled name ss ruling)
by_its_ruling asking name ss ruling h = record { own = λ b a may alone. either b ((ruling b a).error == 0) _ _ (h.own b a may alone) tt }

quiet : (asking : Asking) (r : CallRow) → IsQuiet r → IsOwnRow asking r
quiet asking r none = record { own = λ b a may alone. subst (AreOfOwn b) (sym (none b a)) tt }

goes_by_others : (r : CallRow) → IsOwnRow asks_others r
goes_by_others r = record { own = λ b a may alone. absurd (cc) }

pub allocation_is : IsOwnRuling asks_segment allocation_by
allocation_is = record { own = λ b a may alone. allocation_own b (a 3) (a 0) }

pub reallocation_is : IsOwnRuling asks_nothing reallocation_by
reallocation_is = record { own = λ b a may alone. realloc_own b (a 1) (a 0) (held_under b.known b.number (a 0)) refl }

pub freeing_is : IsOwnRuling asks_nothing freeing_by
freeing_is = record { own = λ b a may alone. free_own b (a 0) (held_under b.known b.number (a 0)) }

pub sizing_is : IsOwnRuling asks_nothing sizing_by
sizing_is = record { own = λ b a may alone. size_own b (held_under b.known b.number (a 2)) }

pub locking_is : IsOwnRuling asks_nothing locking_by
locking_is = record { own = λ b a may alone. lock_own b (a 0) (held_under b.known b.number (a 0)) refl }

pub unlocking_is : IsOwnRuling asks_nothing unlocking_by
unlocking_is = record { own = λ b a may alone. unlock_own b (a 0) (held_under b.known b.number (a 0)) refl }

pub aliasing_is : IsOwnRuling asks_nothing aliasing_by
aliasing_is = record { own = λ b a may alone. alias_own b (a 2) (held_under b.known b.number (a 2)) refl }

pub huge_allocation_is : IsOwnRuling asks_run huge_allocation_by
huge_allocation_is = record { own = λ b a may alone. huge_own b (a 5) (a 4) (a 1) (a 0) }

huge_reallocation_is : IsOwnRuling asks_members huge_reallocation_by
huge_reallocation_is = record { own = λ b a may alone. resized_own b may (a 2) (a 1) (a 0) (held_under b.known b.number (a 0)) refl alone }

pub shift_is : IsOwnRuling asks_nothing shift_by
shift_is = record { own = λ b a may alone. tt }

pub avail_is : IsOwnRuling asks_nothing avail_by
avail_is = record { own = λ b a may alone. tt }

-- in the order of the table
own_rows : EachEntry (λ (service : ℕ) (r : CallRow). IsOwnRow (asking_of service) r) rows
unfolding asking_of
own_rows = (
  quiet _ _ (λ b a. refl),
  (
    quiet _ _ (λ b a. refl),
    (
      quiet _ _ read_quiet,
      (
        quiet _ _ write_quiet,
        (
          by_its_ruling _ _ _ _ allocation_is,
          (
            by_its_ruling _ _ _ _ reallocation_is,
            (
              by_its_ruling _ _ _ _ freeing_is,
              (
                by_its_ruling _ _ _ _ sizing_is,
                (
                  by_its_ruling _ _ _ _ locking_is,
                  (
                    by_its_ruling _ _ _ _ unlocking_is,
                    (
                      by_its_ruling _ _ _ _ aliasing_is,
                      (
                        goes_by_others _,
                        (
                          goes_by_others _,
                          (
                            goes_by_others _,
                            (
                              goes_by_others _,
                              (
                                by_its_ruling _ _ _ _ huge_allocation_is,
                                (
                                  by_its_ruling _ _ _ _ huge_reallocation_is,
                                  (by_its_ruling _ _ _ _ shift_is, (by_its_ruling _ _ _ _ avail_is, (quiet _ _ set_quiet, (quiet _ _ alloc_quiet, (quiet _ _ free_quiet, (quiet _ _ request_quiet, (quiet _ _ (λ b a. refl), (quiet _ _ wait_quiet, (quiet _ _ (λ b a. refl), tt))))))))),
                                ),
                              ),
                            ),
                          ),
                        ),
                      ),
                    ),
                  ),
                ),
              ),
            ),
          ),
        ),
      ),
    ),
  ),
)

module _ (b : Before) where
  served_own : RunsMayChange b → (service : ℕ) (next : ℕ) → IsUnshared b (Some service) → AreOfOwn b (serviced b service next).changes
  served_own may service next unshared =
      by_entry (λ (e : Effect). AreOfOwn b e.changes) (λ (n : ℕ) (r : CallRow). IsOwnRow (asking_of n) r) b next own_rows tt tt service
      (λ r row lies good.
      subst (AreOfOwn b) (sym (changes_come r b next (argument b.view b.cpu) (r.outcome b (argument b.view b.cpu)))) (row.own b (argument b.view b.cpu) may unshared))

  answered_own : RunsMayChange b → (r : Result Machine Stop) → IsUnshared b (called_by r) → AreOfOwn b (answered b r).changes
  answered_own may (Ok s) unshared = tt
  answered_own may (Err (stop.Trap vector code)) unshared = tt
  answered_own may (Err (stop.Gate service next)) unshared = served_own may service next unshared
  answered_own may (Err (stop.Miss s)) unshared = tt

  either_step : (t : Bool) (e f : Effect) → AreOfOwn b e.changes → AreOfOwn b f.changes → AreOfOwn b (cond t e f).changes
  either_step true e f h k = h
  either_step false e f h k = k

  single_own : (e : Effect) → AreOfOwn b e.changes → AreOfOwn b (single_stepped b e).changes
  single_own e h = either_step (has_trap_flag b.cpu.flags && (is_live e.state && not e.waits)) _ e h h

  pub effect_of_own : RunsMayChange b → IsUnshared b (call_of b) → AreOfOwn b (effect b).changes
  unfolding effect
  effect_of_own may unshared = single_own (answered b (stepped (state b.cpu b.view))) (answered_own may (stepped (state b.cpu b.view)) unshared)
