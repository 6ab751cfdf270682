-- A step of a process that shares nothing brings it no run of the region that all share.
use Rattle.std.proofs.Common.{◌≡◌, refl, sym, subst, ℕ, ◌+◌, ◌-◌, ◌<◌, ◌≤◌, ◌/◌, ◌%◌, ◌==◌, ◌&&◌, ◌||◌, Bool, true, false, cond, List, [], ◌∷◌, ◌++◌, length, arith}
use Rattle.std.specs.Prelude.{Option, Some, None, Result, Ok, Err, not, map, max, drop, nat_le, nat_lt}
use Rattle.o2_desc.specs.Bits.{is_writable}
use Rattle.o2_desc.specs.Choice.{chosen}
use Rattle.o2_isa.specs.declared.cpu.Stop.{Stop}
use Rattle.o2_isa.specs.declared.cpu.Stop.TheVariants as stop
use Rattle.o2_isa.specs.Steps.{State as Machine, state}
use Rattle.o2_isa.specs.Step.{stepped}
use Rattle.o2_world.specs.World.{Held, is_live}
use Rattle.o2_world.specs.Changes.{Change, Makes, Resizes, Locks, Marks, Holds, Drops, Finishes, Reserves, Frees, Names}
use Rattle.o2_world.specs.Known.{Marks as SegmentMarks}
use Rattle.o2_world.specs.declared.types.Slot.{Slot}
use Rattle.o2_world.specs.CallParts.{Before, Effect, argument}
use Rattle.o2_world.specs.Rulings.{Ruling, refusal, held_under, free_index, allocation, allocation_at, region_by, is_alias, is_in_run, full_size}
use Rattle.o2_world.specs.Rulings.{reallocation_of, reallocation_with, resizes_with, keeps_its_size, members, indexes, is_later, in_use, by_load, freeing_of, sizing_of}
use Rattle.o2_world.specs.Rulings.{sizing_with, is_discardable, locking_of, locking_with, unlocking_of, unlocking_with, aliasing_of, aliasing_at}
use Rattle.o2_world.specs.Outcomes.{CallRow, Outcome, ruled}
use Rattle.o2_world.specs.Calls.{aliasing_by, allocation_by, avail_by, freeing_by, huge_allocation_by, huge_reallocation_by, locking_by, reallocation_by, rows, serviced, shift_by, sizing_by, unlocking_by}
use Rattle.o2_world.specs.RowLaws.{EachEntry, IsQuiet, changes_of}
use Rattle.o2_world.specs.Effect.{has_trap_flag, answered, single_stepped, effect}
use Rattle.o2_world.specs.SharedRulings.{marks_under, shared_from}
use Rattle.o2_world.specs.HugeRulings.{all_bytes, all_dropped, all_hold, bytes_of, dropped_members, flags_in, free_run, held_in_run, huge_allocation, huge_at, huge_reallocation_of}
use Rattle.o2_world.specs.HugeRulings.{is_first, is_huge_fault, left_in_run, new_members, other_shares, resized_members, resized_one, run_changes}
use Rattle.o2_world.specs.HugeRulings.{run_resized, segments_of, sizes_of}
use Rattle.o2_world.proofs.HugeMoves.{chosen_run}
use Rattle.o2_world.proofs.Quiet.{changes_come, alloc_quiet, free_quiet, read_quiet, request_quiet, set_quiet, wait_quiet, write_quiet}
use Rattle.o2_world.proofs.Serving.{by_entry}
use Rattle.o2_alone.specs.Renaming.{Asking, are_for_others, asking_of, asks_members, asks_nothing, asks_others, asks_run, asks_segment, call_of, called_by, is_shared_run, reaches_shared}
use Rattle.o2_alone.specs.Keeping.{meets}

-- what is held by this change is no run of the region that all share
abbrev pub IsUnsharedChange : Change → Type 0
IsUnsharedChange (Makes s) = Unit {0}
IsUnsharedChange (Resizes name size) = Unit {0}
IsUnsharedChange (Locks name count) = Unit {0}
IsUnsharedChange (Marks name discarded) = Unit {0}
IsUnsharedChange (Holds p i h) = is_shared_run h ≡ false
IsUnsharedChange (Drops p i count) = Unit {0}
IsUnsharedChange (Finishes p state) = Unit {0}
IsUnsharedChange (Reserves r) = Unit {0}
IsUnsharedChange (Frees region first) = Unit {0}
IsUnsharedChange (Names text name) = Unit {0}

abbrev pub AreUnshared : List Change → Type 0
AreUnshared [] = Unit {0}
AreUnshared (c ∷ cs) = IsUnsharedChange c × AreUnshared cs

append_unshared : (xs ys : List Change) → AreUnshared xs → AreUnshared ys → AreUnshared (xs ++ ys)
append_unshared [] ys h k = k
append_unshared (x ∷ xs) ys h k = (h.0, append_unshared xs ys h.1 k)

-- it tells of no other process, and of no index of the region that all share
pub record IsForItself (b : Before) (asking : Asking) (a : ℕ → ℕ) : Type 0 where
  pub number : 0 < b.number
  pub others : asking.others b a ≡ false
  pub region : asking.region a ≡ false

abbrev pub IsForItselfAt : Before → Option ℕ → Type 0
IsForItselfAt b None = Unit {0}
IsForItselfAt b (Some service) = IsForItself b (asking_of service) (argument b.view b.cpu)

pub quiet_itself : (b : Before) (call : Option ℕ) → 0 < b.number → meets b call ≡ false → IsForItselfAt b call
quiet_itself b None some quiet = tt
quiet_itself b (Some service) some quiet = (let both = last (asking_of service).input _ _ quiet in record { number = some; others = both.0; region = both.1 })
  where
    last : (x y z : Bool) → (x || (y || z)) ≡ false → (y ≡ false) × (z ≡ false)
    last true y z e = absurd (cc)
    last false true z e = absurd (cc)
    last false false z e = (refl, e)

-- a stretch that ends below
in_own_region : (h : Held) → nat_lt 4096 (h.first + h.reserved) ≡ false → is_shared_run h ≡ false
in_own_region h e = go (is_in_run h) (nat_lt 4096 (h.first + h.reserved)) e
  where
    go : (x y : Bool) → y ≡ false → (x && y) ≡ false
    go true y e = e
    go false y e = refl

module _ (b : Before) where
  rules : (t : Bool) (r q : Ruling) → AreUnshared r.changes → (t ≡ false → AreUnshared q.changes) → AreUnshared (cond t r q).changes
  rules true r q h k = h
  rules false r q h k = k refl

  allocation_unshared : (size flags : ℕ) → AreUnshared (allocation b.known b.number size flags).changes
  allocation_unshared size flags = rules (nat_lt 15 flags) _ _ tt (λ _. rules (nat_le b.known.most b.known.count) _ _ tt (λ _. at_index (free_index b.known (region_by b.number flags))))
    where
      at_index : (o : Option ℕ) → AreUnshared (allocation_at b.known b.number size flags o).changes
      at_index None = tt
      at_index (Some i) = (tt, (refl, tt))

  resizes : (name size : ℕ) (discarded : Bool) → AreUnshared (resizes_with name size discarded)
  resizes name size true = (tt, (tt, (tt, tt)))
  resizes name size false = (tt, tt)

  realloc_unshared : (size : ℕ) (o : Option Held) → AreUnshared (reallocation_of b.known (full_size size) o).changes
  realloc_unshared size None = tt
  realloc_unshared size (Some h) = rules (is_alias h.cause || is_in_run h) _ _ tt (λ _. by_marks (b.known.segment h.name))
    where
      by_marks : (o : Option SegmentMarks) → AreUnshared (reallocation_with h.name (full_size size) o).changes
      by_marks None = tt
      by_marks (Some m) = rules (keeps_its_size (full_size size) m) _ _ tt (λ changes. resizes h.name (full_size size) m.discarded)

  drops_unshared : (is : List ℕ) → AreUnshared (map (λ (i : ℕ). Drops b.number i 1) is)
  drops_unshared [] = tt
  drops_unshared (i ∷ is) = (tt, drops_unshared is)

  free_unshared : (s : ℕ) (o : Option Held) → AreUnshared (freeing_of b.known b.number s b.cpu o).changes
  free_unshared s None = tt
  free_unshared s (Some h) = rules (by_load h.cause || is_later (s / 8) h) _ _ tt (λ _. rules (in_use b.cpu (members b.known b.number (s / 8) h)) _ _ tt (λ _. drops_unshared (members b.known b.number (s / 8) h)))

  size_unshared : (o : Option Held) → AreUnshared (sizing_of b.known o).changes
  size_unshared None = tt
  size_unshared (Some h) = by_marks (b.known.segment h.name)
    where
      by_marks : (o : Option SegmentMarks) → AreUnshared (sizing_with o).changes
      by_marks None = tt
      by_marks (Some m) = tt

  lock_unshared : (o : Option Held) → AreUnshared (locking_of b.known o).changes
  lock_unshared None = tt
  lock_unshared (Some h) = by_marks (b.known.segment h.name)
    where
      by_marks : (o : Option SegmentMarks) → AreUnshared (locking_with h.name o).changes
      by_marks None = tt
      by_marks (Some m) = rules (is_discardable m) _ _ (rules m.discarded _ _ tt (λ _. (tt, tt))) (λ _. tt)

  unlock_unshared : (o : Option Held) → AreUnshared (unlocking_of b.known o).changes
  unlock_unshared None = tt
  unlock_unshared (Some h) = by_marks (b.known.segment h.name)
    where
      by_marks : (o : Option SegmentMarks) → AreUnshared (unlocking_with h.name o).changes
      by_marks None = tt
      by_marks (Some m) = rules (is_discardable m) _ _ (rules (m.lock == 0) _ _ tt (λ _. (tt, tt))) (λ _. tt)

  alias_unshared : (index : ℕ) (o : Option Held) → AreUnshared (aliasing_of b.known b.number index o).changes
  alias_unshared index None = tt
  alias_unshared index (Some h) = rules (nat_le 4096 index || (not (is_writable h.rights) || is_in_run h)) _ _ tt (λ good. at_index (free_index b.known b.number))
    where
      at_index : (o : Option ℕ) → AreUnshared (aliasing_at b.number h.name o).changes
      at_index None = tt
      at_index (Some i) = (refl, tt)

  -- Runs.

  all_unshared : (name first count i : ℕ) (qs : List (ℕ × ℕ)) → nat_lt 4096 (first + count) ≡ false → AreUnshared (all_hold name first count i qs)
  all_unshared name first count i [] low = tt
  all_unshared name first count i (q ∷ qs) low = (in_own_region (held_in_run name first count q.1) low, all_unshared name first count i qs low)

  new_unshared : (first count flags : ℕ) (qs : List (ℕ × ℕ)) (is zs : List ℕ) (name : ℕ) → nat_lt 4096 (first + count) ≡ false → AreUnshared (new_members name first count flags qs is zs)
  new_unshared first count flags qs [] zs name low = tt
  new_unshared first count flags qs (i ∷ is) [] name low = tt
  new_unshared first count flags qs (i ∷ is) (z ∷ zs) name low = (
    tt,
    append_unshared (all_hold name first count i qs) (new_members (name + 1) first count flags qs is zs) (all_unshared name first count i qs low) (new_unshared first count flags qs is zs (name + 1) low),
  )

  -- a run of the process's own region
  own_run : (flags count first : ℕ) → 0 < b.number → are_for_others flags ≡ false → free_run b.known (region_by b.number flags) count ≡ Some first → nat_lt 4096 (first + count) ≡ false
  own_run flags count first some own e = by_flags (flags % 4 == 0) (is_own (flags % 4 == 0) own) e
    where
      is_own : (t : Bool) → not t ≡ false → t ≡ true
      is_own true f = refl
      is_own false f = cc

      not_above : (n : ℕ) → n ≤ 4096 → nat_lt 4096 n ≡ false
      not_above n l = grind arith

      by_number : (t : Bool) → (b.number == 0) ≡ t → cond t (chosen (b.known.taken 0) 4096 8192 count) (chosen (b.known.taken b.number) 1 4096 count) ≡ Some first → nat_lt 4096 (first + count) ≡ false
      by_number true z f = absurd (none b.number some z)
        where
          none : (n : ℕ) → 0 < n → (n == 0) ≡ true → ⊥
          none n l z = grind arith
      by_number false z f = not_above (first + count) (chosen_run (b.known.taken b.number) 1 4096 count first f).below

      by_flags : (t : Bool) → t ≡ true → cond (cond t b.number 0 == 0) (chosen (b.known.taken 0) 4096 8192 count) (chosen (b.known.taken (cond t b.number 0)) 1 4096 count) ≡ Some first → nat_lt 4096 (first + count) ≡ false
      by_flags true is f = by_number (b.number == 0) refl f
      by_flags false is f = absurd (cc)

  huge_unshared : (segs part most flags : ℕ) → 0 < b.number → are_for_others flags ≡ false → AreUnshared (huge_allocation b.known b.number segs part most flags).changes
  huge_unshared segs part most flags some own =
      rules (is_huge_fault (segments_of segs part) most flags) _ _ tt
      (λ _. rules (nat_lt b.known.most (b.known.count + segments_of segs part)) _ _ tt (λ _. at_index (free_run b.known (region_by b.number flags) (max (segments_of segs part) most)) refl))
    where
      at_index : (o : Option ℕ) → free_run b.known (region_by b.number flags) (max (segments_of segs part) most) ≡ o → AreUnshared (huge_at b.known b.number segs part (max (segments_of segs part) most) flags o).changes
      at_index None e = tt
      at_index (Some i) e =
          append_unshared (new_members b.known.next i (max (segments_of segs part) most) flags ((b.number, 1) ∷ []) (indexes i (segments_of segs part)) (sizes_of segs part)) _
          (new_unshared i (max (segments_of segs part) most) flags ((b.number, 1) ∷ []) (indexes i (segments_of segs part)) (sizes_of segs part) b.known.next (own_run flags (max (segments_of segs part) most) i some own e)) (tt, tt)

  sizes_unshared : (is zs : List ℕ) → AreUnshared (resized_members b.known b.number is zs)
  sizes_unshared [] zs = tt
  sizes_unshared (i ∷ is) [] = tt
  sizes_unshared (i ∷ is) (z ∷ zs) =
      append_unshared (resized_one z (b.known.held b.number i) (marks_under b.known (b.known.held b.number i))) (resized_members b.known b.number is zs)
      (one (b.known.held b.number i) (marks_under b.known (b.known.held b.number i))) (sizes_unshared is zs)
    where
      one : (o : Option Held) (m : Option SegmentMarks) → AreUnshared (resized_one z o m)
      one None None = tt
      one None (Some m) = tt
      one (Some h) None = tt
      one (Some h) (Some m) = pick (m.size == full_size z)
        where
          pick : (t : Bool) → AreUnshared (cond t [] (Resizes h.name (full_size z) ∷ []))
          pick true = tt
          pick false = (tt, tt)

  dropped_unshared : (is : List ℕ) → AreUnshared (dropped_members b.known b.number is)
  dropped_unshared [] = tt
  dropped_unshared (i ∷ is) = append_unshared (all_dropped b.number i (b.known.held b.number i)) (dropped_members b.known b.number is) (one (b.known.held b.number i)) (dropped_unshared is)
    where
      one : (o : Option Held) → AreUnshared (all_dropped b.number i o)
      one None = tt
      one (Some h) = (tt, tt)

  resized_unshared : (segs part index : ℕ) (o : Option Held) → reaches_shared o ≡ false → AreUnshared (huge_reallocation_of b.known b.number index segs part b.cpu o).changes
  resized_unshared segs part index None own = tt
  resized_unshared segs part index (Some h) own = first (is_first index h) refl
    where
      is : List ℕ
      is = members b.known b.number index h

      in_run : is_first index h ≡ true → is_in_run h ≡ true
      in_run f = go (is_in_run h) f
        where
          go : (t : Bool) → (t && (h.first == index)) ≡ true → t ≡ true
          go true g = refl
          go false g = g

      low : is_in_run h ≡ true → nat_lt 4096 (h.first + h.reserved) ≡ false
      low run = second (is_in_run h) (nat_lt 4096 (h.first + h.reserved)) run own
        where
          second : (x y : Bool) → x ≡ true → (x && y) ≡ false → y ≡ false
          second true y f g = g
          second false y f g = cc

      granted : is_in_run h ≡ true → AreUnshared (run_changes b.known b.number h is (sizes_of segs part))
      granted run =
          append_unshared (resized_members b.known b.number is (sizes_of segs part)) _ (sizes_unshared is (sizes_of segs part))
          (append_unshared (new_members b.known.next h.first h.reserved (flags_in (b.known.segment h.name)) ((b.number, h.holds) ∷ other_shares b.known b.number h.first) (left_in_run b.known b.number h) (drop (length is) (sizes_of segs part))) _
          (new_unshared h.first h.reserved (flags_in (b.known.segment h.name)) ((b.number, h.holds) ∷ other_shares b.known b.number h.first) (left_in_run b.known b.number h) (drop (length is) (sizes_of segs part)) b.known.next (low run))
          (dropped_unshared (drop (length (sizes_of segs part)) is)))

      first : (t : Bool) → is_first index h ≡ t → AreUnshared (cond t (run_resized b.known b.number segs part b.cpu h is) (refusal 5)).changes
      first false f = tt
      first true f =
          rules (segments_of segs part == 0) _ _ tt
          (λ _. rules (nat_lt h.reserved (segments_of segs part)) _ _ tt
          (λ _. rules ((nat_le shared_from h.first && nat_lt (bytes_of segs part) (all_bytes b.known b.number is)) || in_use b.cpu (drop (segments_of segs part) is)) _ _ tt
          (λ _. rules (nat_lt b.known.most (b.known.count + (segments_of segs part - length is)) || nat_lt (length is + length (left_in_run b.known b.number h)) (segments_of segs part)) _ _ tt (λ _. granted (in_run f)))))

-- Calls.

pub record IsUnsharedRuling (asking : Asking) (ruling : Before → (ℕ → ℕ) → Ruling) : Type 0 where
  pub come : (b : Before) (a : ℕ → ℕ) → IsForItself b asking a → AreUnshared (ruling b a).changes

pub record IsUnsharedRow (asking : Asking) (r : CallRow) : Type 0 where
  pub come : (b : Before) (a : ℕ → ℕ) → IsForItself b asking a → AreUnshared (changes_of (r.outcome b a))

either : (t : Bool) (o q : Outcome) → AreUnshared (changes_of o) → AreUnshared (changes_of q) → AreUnshared (changes_of (cond t o q))
either true o q h k = h
either false o q h k = k

by_its_ruling : (asking : Asking) (name : List ℕ) (ss : List Slot) (ruling : Before → (ℕ → ℕ) → Ruling) → IsUnsharedRuling asking ruling → IsUnsharedRow asking (ruled name ss ruling)
by_its_ruling asking name ss ruling h = record { come = λ b a own. either ((ruling b a).error == 0) _ _ (h.come b a own) tt }

quiet : (asking : Asking) (r : CallRow) → IsQuiet r → IsUnsharedRow asking r
quiet asking r none = record { come = λ b a own. subst AreUnshared (sym (none b a)) tt }

goes_by_others : (r : CallRow) → IsUnsharedRow asks_others r
goes_by_others r = record { come = λ b a own. absurd (let no : true ≡ false = own.others in cc) }

allocation_is : IsUnsharedRuling asks_segment allocation_by
allocation_is = record { come = λ b a own. allocation_unshared b (a 3) (a 0) }

reallocation_is : IsUnsharedRuling asks_nothing reallocation_by
reallocation_is = record { come = λ b a own. realloc_unshared b (a 1) (held_under b.known b.number (a 0)) }

freeing_is : IsUnsharedRuling asks_nothing freeing_by
freeing_is = record { come = λ b a own. free_unshared b (a 0) (held_under b.known b.number (a 0)) }

sizing_is : IsUnsharedRuling asks_nothing sizing_by
sizing_is = record { come = λ b a own. size_unshared b (held_under b.known b.number (a 2)) }

locking_is : IsUnsharedRuling asks_nothing locking_by
locking_is = record { come = λ b a own. lock_unshared b (held_under b.known b.number (a 0)) }

unlocking_is : IsUnsharedRuling asks_nothing unlocking_by
unlocking_is = record { come = λ b a own. unlock_unshared b (held_under b.known b.number (a 0)) }

aliasing_is : IsUnsharedRuling asks_nothing aliasing_by
aliasing_is = record { come = λ b a own. alias_unshared b (a 2 / 8) (held_under b.known b.number (a 2)) }

huge_allocation_is : IsUnsharedRuling asks_run huge_allocation_by
huge_allocation_is = record { come = λ b a own. huge_unshared b (a 5) (a 4) (a 1) (a 0) own.number own.region }

huge_reallocation_is : IsUnsharedRuling asks_members huge_reallocation_by
huge_reallocation_is = record { come = λ b a own. resized_unshared b (a 2) (a 1) (a 0 / 8) (held_under b.known b.number (a 0)) own.others }

shift_is : IsUnsharedRuling asks_nothing shift_by
shift_is = record { come = λ b a own. tt }

avail_is : IsUnsharedRuling asks_nothing avail_by
avail_is = record { come = λ b a own. tt }

-- in the order of the table
unshared_rows : EachEntry (λ (service : ℕ) (r : CallRow). IsUnsharedRow (asking_of service) r) rows
unfolding asking_of
unshared_rows = (
  quiet _ _ (λ b a. refl),
  (
    quiet _ _ (λ b a. refl),
    (
      quiet _ _ read_quiet,
      (
        quiet _ _ write_quiet,
        (
          by_its_ruling _ _ _ _ allocation_is,
          (
            by_its_ruling _ _ _ _ reallocation_is,
            (
              by_its_ruling _ _ _ _ freeing_is,
              (
                by_its_ruling _ _ _ _ sizing_is,
                (
                  by_its_ruling _ _ _ _ locking_is,
                  (
                    by_its_ruling _ _ _ _ unlocking_is,
                    (
                      by_its_ruling _ _ _ _ aliasing_is,
                      (
                        goes_by_others _,
                        (
                          goes_by_others _,
                          (
                            goes_by_others _,
                            (
                              goes_by_others _,
                              (
                                by_its_ruling _ _ _ _ huge_allocation_is,
                                (
                                  by_its_ruling _ _ _ _ huge_reallocation_is,
                                  (by_its_ruling _ _ _ _ shift_is, (by_its_ruling _ _ _ _ avail_is, (quiet _ _ set_quiet, (quiet _ _ alloc_quiet, (quiet _ _ free_quiet, (quiet _ _ request_quiet, (quiet _ _ (λ b a. refl), (quiet _ _ wait_quiet, (quiet _ _ (λ b a. refl), tt))))))))),
                                ),
                              ),
                            ),
                          ),
                        ),
                      ),
                    ),
                  ),
                ),
              ),
            ),
          ),
        ),
      ),
    ),
  ),
)

module _ (b : Before) where
  served_unshared : (service : ℕ) (next : ℕ) → IsForItselfAt b (Some service) → AreUnshared (serviced b service next).changes
  served_unshared service next own =
      by_entry (λ (e : Effect). AreUnshared e.changes) (λ (n : ℕ) (r : CallRow). IsUnsharedRow (asking_of n) r) b next unshared_rows tt tt service
      (λ r row lies good.
      subst AreUnshared (sym (changes_come r b next (argument b.view b.cpu) (r.outcome b (argument b.view b.cpu)))) (row.come b (argument b.view b.cpu) own))

  answered_unshared : (r : Result Machine Stop) → IsForItselfAt b (called_by r) → AreUnshared (answered b r).changes
  answered_unshared (Ok s) own = tt
  answered_unshared (Err (stop.Trap vector code)) own = tt
  answered_unshared (Err (stop.Gate service next)) own = served_unshared service next own
  answered_unshared (Err (stop.Miss s)) own = tt

  either_step : (t : Bool) (e f : Effect) → AreUnshared e.changes → AreUnshared f.changes → AreUnshared (cond t e f).changes
  either_step true e f h k = h
  either_step false e f h k = k

  single_unshared : (e : Effect) → AreUnshared e.changes → AreUnshared (single_stepped b e).changes
  single_unshared e h = either_step (has_trap_flag b.cpu.flags && (is_live e.state && not e.waits)) _ e h h

  pub effect_unshared : IsForItselfAt b (call_of b) → AreUnshared (effect b).changes
  unfolding effect
  effect_unshared own = single_unshared (answered b (stepped (state b.cpu b.view))) (answered_unshared (stepped (state b.cpu b.view)) own)
