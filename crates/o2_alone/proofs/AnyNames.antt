-- What any step changes, by names: it sizes and locks what its process holds, and what it makes may change.
use Rattle.std.proofs.Common.{◌≡◌, ◌⊎◌, refl, sym, subst, ℕ, ◌+◌, ◌-◌, ◌/◌, ◌==◌, ◌&&◌, ◌||◌, Bool, true, false, not, cond, List, [], ◌∷◌, ◌++◌, length}
use Rattle.std.specs.Prelude.{Option, Some, None, Result, Ok, Err, drop, is_some, nat_le, nat_lt}
use Rattle.o2_isa.specs.declared.cpu.Stop.{Stop}
use Rattle.o2_isa.specs.declared.cpu.Stop.TheVariants as stop
use Rattle.o2_isa.specs.View.{is_local}
use Rattle.o2_isa.specs.Steps.{State as Machine, state}
use Rattle.o2_isa.specs.Step.{stepped}
use Rattle.o2_world.specs.World.{ByCall, Held, is_live}
use Rattle.o2_world.specs.Changes.{Change, Makes, Resizes, Locks, Marks, Holds, Drops, Finishes, Reserves, Frees, Names}
use Rattle.o2_world.specs.declared.types.Slot.{Slot}
use Rattle.o2_world.specs.CallParts.{Before, Effect}
use Rattle.o2_world.specs.Rulings.{Ruling, free_index, held_by_call, held_under, in_use, is_in_run, is_later, members, refusal}
use Rattle.o2_world.specs.SharedNames.{name_by, text_at}
use Rattle.o2_world.specs.SharedRulings.{shared_from, each_more, getting, getting_at, getting_from, giving_of, holder, index_of, lacks_flag, naming, naming_at, one_more, sharing, sharing_at, sharing_from, sharing_of}
use Rattle.o2_world.specs.HugeRulings.{all_bytes, all_hold, bytes_of, dropped_members, flags_in, held_in_run, huge_reallocation_of, is_first, left_in_run, new_members, other_shares, resized_members, run_changes, run_resized, segments_of, sizes_of}
use Rattle.o2_world.proofs.SegmentMoves.{held_there}
use Rattle.o2_world.specs.Outcomes.{CallRow, Outcome, ruled}
use Rattle.o2_world.specs.Calls.{getting_by, giving_by, huge_reallocation_by, naming_by, rows, serviced, sharing_by}
use Rattle.o2_world.specs.RowLaws.{EachRow, IsQuiet, changes_of}
use Rattle.o2_world.proofs.Quiet.{changes_come, alloc_quiet, free_quiet, read_quiet, request_quiet, set_quiet, wait_quiet, write_quiet}
use Rattle.o2_world.proofs.Serving.{by_service}
use Rattle.o2_alone.specs.Renaming.{Asking}
use Rattle.o2_world.specs.Effect.{has_trap_flag, answered, single_stepped, effect}
use Rattle.o2_alone.proofs.OwnNames.{AreOfOwn, IsGoodAlias, IsOfOwn, IsOwnName, IsOwnRuling, RunsMayChange, aliasing_is, allocation_is, avail_is, dropped_own, freeing_is, huge_allocation_is}
use Rattle.o2_alone.proofs.OwnNames.{locking_is, may_change, may_lock, members_may, no_alias, reallocation_is, shift_is, sizes_own, sizing_is, unlocking_is}

abbrev pub IsOfAny : Before → Change → Type 0
IsOfAny b (Makes s) = s.clean ≡ false
IsOfAny b (Resizes n size) = IsOwnName b may_change n
IsOfAny b (Locks n count) = IsOwnName b may_lock n
IsOfAny b (Marks n discarded) = IsOwnName b may_change n
IsOfAny b (Holds p i h) = IsGoodAlias b h
IsOfAny b (Drops p i count) = Unit {0}
IsOfAny b (Finishes p state) = Unit {0}
IsOfAny b (Reserves r) = (r.region ≡ b.number) ⊎ (r.region ≡ 0)
IsOfAny b (Frees region first) = ⊥
IsOfAny b (Names text name) = Unit {0}

abbrev pub AreOfAny : Before → List Change → Type 0
AreOfAny b [] = Unit {0}
AreOfAny b (c ∷ cs) = IsOfAny b c × AreOfAny b cs

module _ (b : Before) where
  own_one : (c : Change) → IsOfOwn b c → IsOfAny b c
  own_one (Makes s) own = own
  own_one (Resizes n size) own = own
  own_one (Locks n count) own = own
  own_one (Marks n discarded) own = own
  own_one (Holds p i h) own = own.1.1
  own_one (Drops p i count) own = tt
  own_one (Finishes p state) own = tt
  own_one (Reserves r) own = own
  own_one (Frees region first) own = own
  own_one (Names text name) own = tt

  own_any : (cs : List Change) → AreOfOwn b cs → AreOfAny b cs
  own_any [] own = tt
  own_any (c ∷ cs) own = (own_one c own.0, own_any cs own.1)

  -- Rulings.

  rules : (t : Bool) (r q : Ruling) → AreOfAny b r.changes → AreOfAny b q.changes → AreOfAny b (cond t r q).changes
  rules true r q h k = h
  rules false r q h k = k

  one_any : (to i : ℕ) (o : Option Held) (cs : List Change) → AreOfAny b cs → AreOfAny b (one_more to i o ++ cs)
  one_any to i None cs rest = rest
  one_any to i (Some h) cs rest = (no_alias b (record h { holds = 1; cause = ByCall }) refl, rest)

  each_any : (from to : ℕ) (is : List ℕ) → AreOfAny b (each_more b.known from to is)
  each_any from to [] = tt
  each_any from to (i ∷ is) = one_any to i (b.known.held from i) (each_more b.known from to is) (each_any from to is)

  naming_any : (size : ℕ) (o : Option (List ℕ)) → AreOfAny b (naming b.known b.number size o).changes
  naming_any size None = tt
  naming_any size (Some name) =
      rules (is_some (b.known.text name)) _ _ tt (rules (nat_le b.known.most b.known.count) _ _ tt (at_index (free_index b.known 0)))
    where
      at_index : (o : Option ℕ) → AreOfAny b (naming_at b.known b.number size name o).changes
      at_index None = tt
      at_index (Some i) = (refl, (no_alias b (held_by_call b.known.next) refl, (tt, tt)))

  sharing_any : (o : Option (List ℕ)) → AreOfAny b (sharing b.known b.number o).changes
  sharing_any None = tt
  sharing_any (Some name) = of_text (b.known.text name)
    where
      of_holder : (i : ℕ) (o : Option ℕ) → AreOfAny b (sharing_from b.known b.number i o).changes
      of_holder i None = tt
      of_holder i (Some from) = each_any from b.number (i ∷ [])

      of_index : (o : Option ℕ) → AreOfAny b (sharing_at b.known b.number o).changes
      of_index None = tt
      of_index (Some i) = of_holder i (holder b.known i)

      of_text : (o : Option ℕ) → AreOfAny b (sharing_of b.known b.number o).changes
      of_text None = tt
      of_text (Some q) = of_index (index_of b.known q)

  giving_any : (i pid : ℕ) (o : Option Held) → AreOfAny b (giving_of b.known b.number i pid o).changes
  giving_any i pid None = tt
  giving_any i pid (Some h) =
      let is = members b.known b.number i h in
      rules (is_later i h || lacks_flag b.known 0 b.number is) _ _ tt (rules (b.known.lives pid) _ _ (each_any b.number pid is) tt)

  getting_any : (s : ℕ) → AreOfAny b (getting b.known b.number s).changes
  getting_any s = rules (is_local s) _ _ (of_holder (holder b.known (s / 8))) tt
    where
      from_holder : (from : ℕ) (o : Option Held) → AreOfAny b (getting_from b.known b.number (s / 8) from o).changes
      from_holder from None = tt
      from_holder from (Some h) =
          let is = members b.known from (s / 8) h in
          rules (is_later (s / 8) h || lacks_flag b.known 1 from is) _ _ tt (each_any from b.number is)

      of_holder : (o : Option ℕ) → AreOfAny b (getting_at b.known b.number (s / 8) o).changes
      of_holder None = tt
      of_holder (Some from) = from_holder from (b.known.held from (s / 8))

  -- Huge allocations.

  append_any : (xs ys : List Change) → AreOfAny b xs → AreOfAny b ys → AreOfAny b (xs ++ ys)
  append_any [] ys h k = k
  append_any (x ∷ xs) ys h k = (h.0, append_any xs ys h.1 k)

  holds_any : (name first count i : ℕ) (ps : List (ℕ × ℕ)) → AreOfAny b (all_hold name first count i ps)
  holds_any name first count i [] = tt
  holds_any name first count i (p ∷ ps) = (no_alias b (held_in_run name first count p.1) refl, holds_any name first count i ps)

  new_any : (first count flags : ℕ) (ps : List (ℕ × ℕ)) (is zs : List ℕ) (name : ℕ) → AreOfAny b (new_members name first count flags ps is zs)
  new_any first count flags ps [] zs name = tt
  new_any first count flags ps (i ∷ is) [] name = tt
  new_any first count flags ps (i ∷ is) (z ∷ zs) name =
      (refl, append_any (all_hold name first count i ps) (new_members (name + 1) first count flags ps is zs) (holds_any name first count i ps) (new_any first count flags ps is zs (name + 1)))

  resized_any : RunsMayChange b → (segs part s : ℕ) (o : Option Held) → held_under b.known b.number s ≡ o → AreOfAny b (huge_reallocation_of b.known b.number (s / 8) segs part b.cpu o).changes
  resized_any may segs part s None e = tt
  resized_any may segs part s (Some h) e = first (is_first (s / 8) h) refl
    where
      is : List ℕ
      is = members b.known b.number (s / 8) h

      in_run : (t : Bool) → (t && (h.first == s / 8)) ≡ true → t ≡ true
      in_run true g = refl
      in_run false g = g

      granted : is_in_run h ≡ true → AreOfAny b (run_changes b.known b.number h is (sizes_of segs part))
      granted run =
          append_any (resized_members b.known b.number is (sizes_of segs part)) _
          (own_any (resized_members b.known b.number is (sizes_of segs part)) (sizes_own b is (sizes_of segs part) (members_may b may (s / 8) h (held_there b.known b.number s h e) run)))
          (append_any (new_members b.known.next h.first h.reserved (flags_in (b.known.segment h.name)) ((b.number, h.holds) ∷ other_shares b.known b.number h.first) (left_in_run b.known b.number h) (drop (length is) (sizes_of segs part))) _
          (new_any h.first h.reserved (flags_in (b.known.segment h.name)) ((b.number, h.holds) ∷ other_shares b.known b.number h.first) (left_in_run b.known b.number h) (drop (length is) (sizes_of segs part)) b.known.next)
          (own_any (dropped_members b.known b.number (drop (length (sizes_of segs part)) is)) (dropped_own b (drop (length (sizes_of segs part)) is))))

      first : (t : Bool) → is_first (s / 8) h ≡ t → AreOfAny b (cond t (run_resized b.known b.number segs part b.cpu h is) (refusal 5)).changes
      first false f = tt
      first true f =
          rules (segments_of segs part == 0) _ _ tt
          (rules (nat_lt h.reserved (segments_of segs part)) _ _ tt
          (rules ((nat_le shared_from h.first && nat_lt (bytes_of segs part) (all_bytes b.known b.number is)) || in_use b.cpu (drop (segments_of segs part) is)) _ _ tt
          (rules (nat_lt b.known.most (b.known.count + (segments_of segs part - length is)) || nat_lt (length is + length (left_in_run b.known b.number h)) (segments_of segs part)) _ _ tt (granted (in_run (is_in_run h) f)))))

-- Calls.

record IsAnyRow (r : CallRow) : Type 0 where
  any : (b : Before) (a : ℕ → ℕ) → RunsMayChange b → AreOfAny b (changes_of (r.outcome b a))

record IsAnyRuling (ruling : Before → (ℕ → ℕ) → Ruling) : Type 0 where
  any : (b : Before) (a : ℕ → ℕ) → RunsMayChange b → AreOfAny b (ruling b a).changes

either : (b : Before) (t : Bool) (o q : Outcome) → AreOfAny b (changes_of o) → AreOfAny b (changes_of q) → AreOfAny b (changes_of (cond t o q))
either b true o q h k = h
either b false o q h k = k

by_its_ruling : (name : List ℕ) (ss : List Slot) (ruling : Before → (ℕ → ℕ) → Ruling) → IsAnyRuling ruling → IsAnyRow (ruled name ss ruling)
by_its_ruling name ss ruling h = record { any = λ b a may. either b ((ruling b a).error == 0) _ _ (h.any b a may) tt }

-- of one that never goes by what other processes hold
own : (asking : Asking) (name : List ℕ) (ss : List Slot) (ruling : Before → (ℕ → ℕ) → Ruling) → IsOwnRuling asking ruling → ((b : Before) (a : ℕ → ℕ) → asking.others b a ≡ false)
    → IsAnyRow (ruled name ss ruling)
own asking name ss ruling h alone = by_its_ruling name ss ruling (record { any = λ b a may. own_any b (ruling b a).changes (h.own b a may (alone b a)) })

quiet : (r : CallRow) → IsQuiet r → IsAnyRow r
quiet r none = record { any = λ b a may. subst (AreOfAny b) (sym (none b a)) tt }

naming_is : IsAnyRuling naming_by
naming_is = record { any = λ b a may. naming_any b (a 4) (name_by (text_at b.view (a 3) (a 2))) }

sharing_is : IsAnyRuling sharing_by
sharing_is = record { any = λ b a may. sharing_any b (name_by (text_at b.view (a 3) (a 2))) }

giving_is : IsAnyRuling giving_by
giving_is = record { any = λ b a may. giving_any b (a 3 / 8) (a 2) (held_under b.known b.number (a 3)) }

getting_is : IsAnyRuling getting_by
getting_is = record { any = λ b a may. getting_any b (a 0) }

huge_reallocation_is : IsAnyRuling huge_reallocation_by
huge_reallocation_is = record { any = λ b a may. resized_any b may (a 2) (a 1) (a 0) (held_under b.known b.number (a 0)) refl }

-- in the order of the table
any_rows : EachRow IsAnyRow rows
any_rows = (
  quiet _ (λ b a. refl),
  (
    quiet _ (λ b a. refl),
    (
      quiet _ read_quiet,
      (
        quiet _ write_quiet,
        (
          own _ _ _ _ allocation_is (λ b a. refl),
          (
            own _ _ _ _ reallocation_is (λ b a. refl),
            (
              own _ _ _ _ freeing_is (λ b a. refl),
              (
                own _ _ _ _ sizing_is (λ b a. refl),
                (
                  own _ _ _ _ locking_is (λ b a. refl),
                  (
                    own _ _ _ _ unlocking_is (λ b a. refl),
                    (
                      own _ _ _ _ aliasing_is (λ b a. refl),
                      (
                        by_its_ruling _ _ _ naming_is,
                        (
                          by_its_ruling _ _ _ sharing_is,
                          (
                            by_its_ruling _ _ _ giving_is,
                            (
                              by_its_ruling _ _ _ getting_is,
                              (
                                own _ _ _ _ huge_allocation_is (λ b a. refl),
                                (
                                  by_its_ruling _ _ _ huge_reallocation_is,
                                  (own _ _ _ _ shift_is (λ b a. refl), (own _ _ _ _ avail_is (λ b a. refl), (quiet _ set_quiet, (quiet _ alloc_quiet, (quiet _ free_quiet, (quiet _ request_quiet, (quiet _ (λ b a. refl), (quiet _ wait_quiet, (quiet _ (λ b a. refl), tt))))))))),
                                ),
                              ),
                            ),
                          ),
                        ),
                      ),
                    ),
                  ),
                ),
              ),
            ),
          ),
        ),
      ),
    ),
  ),
)

module _ (b : Before) where
  served_any : RunsMayChange b → (service : ℕ) (next : ℕ) → AreOfAny b (serviced b service next).changes
  served_any may service next =
      by_service (λ (e : Effect). AreOfAny b e.changes) IsAnyRow b next any_rows tt tt
      (λ r row a good. subst (AreOfAny b) (sym (changes_come r b next a (r.outcome b a))) (row.any b a may)) service

  answered_any : RunsMayChange b → (r : Result Machine Stop) → AreOfAny b (answered b r).changes
  answered_any may (Ok s) = tt
  answered_any may (Err (stop.Trap vector code)) = tt
  answered_any may (Err (stop.Gate service next)) = served_any may service next
  answered_any may (Err (stop.Miss s)) = tt

  either_step : (t : Bool) (e f : Effect) → AreOfAny b e.changes → AreOfAny b f.changes → AreOfAny b (cond t e f).changes
  either_step true e f h k = h
  either_step false e f h k = k

  single_any : (e : Effect) → AreOfAny b e.changes → AreOfAny b (single_stepped b e).changes
  single_any e h = either_step (has_trap_flag b.cpu.flags && (is_live e.state && not e.waits)) _ e h h

  pub effect_of_any : RunsMayChange b → AreOfAny b (effect b).changes
  unfolding effect
  effect_of_any may = single_any (answered b (stepped (state b.cpu b.view))) (answered_any may (stepped (state b.cpu b.view)))
