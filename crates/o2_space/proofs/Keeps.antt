-- What a call on segments keeps in memory: the segments in the segment registers, and that behind its pointer.
use Rattle.std.proofs.Common.{◌≡◌, ◌⊎◌, inl, inr, ℕ, zero, suc, ◌+◌, ◌==◌, ◌&&◌, ◌||◌, nat_le, Bool, true, false, cond, List, [], ◌∷◌, ◌++◌, Option, Some, None, is_some, IsSome, ap, sym, ◌∙◌, refl, subst, append-nil, arith, if◌then◌else◌}
use Rattle.std.specs.Prelude.{length, slice_get}
use Rattle.std.proofs.lemmas.Bool.{eqb-true, false≢true}
use Rattle.o2_entries.specs.declared.Entry.{Entry}
use Rattle.o2_entries.specs.Tables.{slot_at}
use Rattle.o2_isa.specs.declared.cpu.Cpu.{Cpu}
use Rattle.o2_isa.specs.declared.cpu.Loaded.TheVariants as loaded
use Rattle.o2_isa.specs.Pointers.{has_present_range, is_for_es, is_passed, is_ready}
use Rattle.o2_isa.specs.Presence.{is_in}
use Rattle.o2_isa.specs.Steps.{selector}
use Rattle.o2_isa.specs.View.{Hold, View, bound_in, bound_registers, found, is_null, is_readable, is_writable, probe_of, refused, trap_of, when}
use Rattle.o2_place.specs.declared.seg_id.SegId.{SegId}
use Rattle.o2_regions.specs.declared.held.Held.{Held}
use Rattle.o2_regions.specs.Maps.{Maps, held_at}
use Rattle.o2_store.specs.Needs.{is_named, named_in}
use Rattle.o2_store.specs.Shelf.{Shelf, aged, entry, entry_of, place_of}
use Rattle.o2_segbus.specs.Bus.{held_under}
use Rattle.o2_segbus.specs.Frames.{CanStep}
use Rattle.o2_segbus.specs.Guards.{AreAged}
use Rattle.o2_segbus.specs.Seen.{hold_in, key_of, present_in, present_under, seen, seen_with}
use Rattle.o2_service.specs.Needs.{AreLive, needs, segments_of}
use Rattle.o2_service.specs.Told.{IsHeldWell}
use Rattle.o2_world.specs.Slots.{Pointer}
use Rattle.o2_run.specs.Room.{name_in, passed, pointed, seated}
use Rattle.o2_gate.specs.declared.requests.SegmentArguments.{SegmentArguments}
use Rattle.o2_gate.specs.declared.arguments.Arguments.{Arguments}
use Rattle.o2_gate.specs.declared.requests.SegmentArguments.TheVariants.{Alloc, Realloc, Free, Size, Lock, Unlock, Alias, Shared, Huge}
use Rattle.o2_gate.specs.declared.requests.HugeArguments.TheVariants as huge
use Rattle.o2_gate.specs.Given.{word_in}
use Rattle.o2_gate.specs.Requests.{request_of}
use Rattle.o2_gate.specs.Rows.{slots_by}
use Rattle.o2_gate.specs.Targets.{looked_in, target_in, targets}
use Rattle.o2_world.specs.Calls.{row_of}
use Rattle.o2_space.proofs.ForValues.{AreSome, targets_some}
use Rattle.o2_gate.specs.Pointed.{are_ready, pointer}
use Rattle.o2_calls.specs.Acts.{MayStop}
use Rattle.o2_changes.proofs.Keys.{has_is}
use Rattle.o2_stepping.specs.Rooms.{aimed_in, ages_of, pair_of, seated_in, selectors_of, under_all}
use Rattle.o2_stepping.proofs.Lefts.{ages_both}
use Rattle.o2_stepping.proofs.Named.{both_in, key_of_live, one_of, or_back, or_front, seated_present}
use Rattle.o2_stepping.proofs.Rounds.{ages_seated, live_more, live_seated, pair_name}
use Rattle.o2_space.proofs.Aimed.{live_aimed}

-- Segments of a list, by their names and their numbers.

in_ages : (need : List (SegId × ℕ)) (n : ℕ) → is_in n (ages_of need) ≡ true → (i : ℕ) × (p : SegId × ℕ) × (slice_get need i ≡ Some p) × (p.0.age ≡ n)
in_ages [] n e = absurd (false≢true e)
in_ages (p ∷ ps) n e = by (one_of (p.0.age == n) (is_in n (ages_of ps)) e) (in_ages ps n)
  where
    by : ((p.0.age == n) ≡ true) ⊎ (is_in n (ages_of ps) ≡ true) → (is_in n (ages_of ps) ≡ true → (i : ℕ) × (q : SegId × ℕ) × (slice_get ps i ≡ Some q) × (q.0.age ≡ n))
        → (i : ℕ) × (q : SegId × ℕ) × (slice_get (p ∷ ps) i ≡ Some q) × (q.0.age ≡ n)
    by (inl x) rest = (0, p, refl, eqb-true p.0.age n x)
    by (inr x) rest = (let r = rest x in (suc r.0, r.1, r.2, r.3))

same_number : (n : ℕ) → (n == n) ≡ true
same_number n = grind arith

some_is : {a b : SegId × ℕ} → Some a ≡ Some b → a ≡ b
some_is e = cc

none_some : {X : Type 0} {x : X} → None ≡ Some x → ⊥
none_some e = cc

number_some : {a b : ℕ} → Some a ≡ Some b → a ≡ b
number_some e = cc

need_at : (need : List (SegId × ℕ)) (i : ℕ) (p : SegId × ℕ) → slice_get need i ≡ Some p → needs need p.0.key ≡ true
need_at [] i p e = absurd (none_some e)
need_at (q ∷ qs) zero p e = subst (λ (x : SegId × ℕ). ((x.0.key == q.0.key) || needs qs x.0.key) ≡ true) (some_is e) (or_front (q.0.key == q.0.key) (needs qs q.0.key) (same_number q.0.key))
need_at (q ∷ qs) (suc i) p e = or_back (p.0.key == q.0.key) (needs qs p.0.key) (need_at qs i p e)

left_true : (a b : Bool) → (a && b) ≡ true → a ≡ true
left_true true b e = refl
left_true false b e = absurd (false≢true e)

right_true : (a b : Bool) → (a && b) ≡ true → b ≡ true
right_true true b e = e
right_true false b e = absurd (false≢true e)

-- a number that is named has one of the names
pub named_age : (s : Shelf) (need : List (SegId × ℕ)) (k : ℕ) → named_in s.entries (segments_of need) k ≡ true → is_in (entry s k).age (ages_of need) ≡ true
named_age s [] k e = absurd (false≢true e)
named_age s (p ∷ ps) k e = by (one_of (is_named s.entries p.0 && k == p.0.key) (named_in s.entries (segments_of ps) k) e) (named_age s ps k)
  where
    by : ((is_named s.entries p.0 && k == p.0.key) ≡ true) ⊎ (named_in s.entries (segments_of ps) k ≡ true) → (named_in s.entries (segments_of ps) k ≡ true → is_in (entry s k).age (ages_of ps) ≡ true)
        → ((p.0.age == (entry s k).age) || is_in (entry s k).age (ages_of ps)) ≡ true
    by (inl x) rest =
        (let same = eqb-true k p.0.key (right_true (is_named s.entries p.0) (k == p.0.key) x) in
        let age = (has_is (slot_at s.entries p.0.key) p.0.age (left_true (is_named s.entries p.0) (k == p.0.key) x)).1 in
        let n : (entry s k).age ≡ p.0.age = ap (λ (j : ℕ). (entry s j).age) same ∙ age in
        or_front (p.0.age == (entry s k).age) (is_in (entry s k).age (ages_of ps)) (subst (λ (m : ℕ). (p.0.age == m) ≡ true) (sym n) (same_number p.0.age)))
    by (inr x) rest = or_back (p.0.age == (entry s k).age) (is_in (entry s k).age (ages_of ps)) (rest x)

-- A segment with one of the names that stays in memory is there.

slot_some : (s : Shelf) (id : SegId) → IsSome (entry_of s id) → IsSome (slot_at s.entries id.key)
slot_some s id live = go (slot_at s.entries id.key) refl live
  where
    go : (o : Option Entry) → slot_at s.entries id.key ≡ o → is_some (aged id.age o) ≡ true → is_some o ≡ true
    go None e l = absurd (false≢true l)
    go (Some x) e l = refl

pub stays_here : (s t : Shelf) (need : List (SegId × ℕ)) → AreAged s → AreAged t → AreLive s need → AreLive t need
    → ((k : ℕ) → needs need k ≡ true → IsSome (slot_at t.entries k) → IsSome (place_of s k) → IsSome (place_of t k))
    → (n k : ℕ) → is_in n (ages_of need) ≡ true → present_in s n ≡ true → key_of t n ≡ Some k → IsSome (place_of t k)
stays_here s t need once now live lives stays n k named present key =
    let r = in_ages need n named in
    let id : SegId = r.1.0 in
    let was : key_of s n ≡ Some id.key = ap (key_of s) (sym r.3) ∙ key_of_live s once id (live.each r.0 r.1 r.2) in
    let is : key_of t n ≡ Some id.key = ap (key_of t) (sym r.3) ∙ key_of_live t now id (lives.each r.0 r.1 r.2) in
    let same : id.key ≡ k = number_some (sym is ∙ key) in
    subst (λ (j : ℕ). IsSome (place_of t j)) same
    (stays id.key (need_at need r.0 r.1 r.2) (slot_some t id (lives.each r.0 r.1 r.2)) (ap (present_under s) (sym was) ∙ present))

-- What goes on to be held lives on.

pub well_kept : (t : Shelf) (m o : Maps) → ((pid i : ℕ) (h : Held) → held_at m pid i ≡ Some h → (k : Held) × (held_at o pid i ≡ Some k) × (k.id ≡ h.id)) → IsHeldWell t o → (s : Shelf) → IsHeldWell s m → IsHeldWell t m
well_kept t m o keeps well s was = record { live = λ pid i h e. (let x = keeps pid i h e in subst (λ (id : SegId). IsSome (entry_of t id)) x.2 (well.live pid i x.0 x.1)); inside = was.inside }

-- Names behind a pointer, and behind those that are looked at next.

pointed_in : (v : View) (p : Pointer) (ps : List Pointer) (q : ℕ) → is_in q (pointed v (p ∷ ps)) ≡ true → (is_in q (name_in (bound_in v.held p.selector)) ≡ true) ⊎ (is_in q (pointed v ps) ≡ true)
pointed_in v p ps q e = go (p.count == 0) (bound_in v.held p.selector) e
  where
    front : (h : Hold) (fits : Bool) → ((h.name == q) ≡ true) ⊎ (is_in q (if fits then pointed v ps else []) ≡ true) → (is_in q (h.name ∷ []) ≡ true) ⊎ (is_in q (pointed v ps) ≡ true)
    front h fits (inl f) = inl (or_front (h.name == q) false f)
    front h true (inr f) = inr f
    front h false (inr f) = absurd (false≢true f)

    hold : (h : Hold) (ok fits : Bool) → is_in q (if ok then h.name ∷ (if fits then pointed v ps else []) else []) ≡ true → (is_in q (h.name ∷ []) ≡ true) ⊎ (is_in q (pointed v ps) ≡ true)
    hold h true fits f = front h fits (one_of (h.name == q) (is_in q (if fits then pointed v ps else [])) f)
    hold h false fits f = absurd (false≢true f)

    go : (z : Bool) (o : Option Hold) → is_in q (if z then pointed v ps else passed v o p (pointed v ps)) ≡ true → (is_in q (name_in o) ≡ true) ⊎ (is_in q (pointed v ps) ≡ true)
    go true o f = inr f
    go false None f = absurd (false≢true f)
    go false (Some h) f = hold h (is_for_es v p.selector) (p.good h.rights && nat_le (p.offset + p.count) (length (v.bytes h.name))) f

-- a selector that names what can be written may be loaded into ES

writable_reads : (access : ℕ) → is_writable access ≡ true → is_readable access ≡ true
writable_reads access e = grind arith

hold_is : {a b : Hold} → Some a ≡ Some b → a ≡ b
hold_is e = cc

is_es : (v : View) (z : ℕ) (h : Hold) → v.discarded h.name ≡ false → bound_in v.held z ≡ Some h → is_writable h.rights ≡ true → is_for_es v z ≡ true
unfolding probe_of
is_es v z h kept bound good = go (is_null z) (found v z) bound
  where
    passes : (r d p : Bool) → r ≡ true → d ≡ false → is_passed (cond r (cond d (trap_of 11 z) (cond p loaded.Done (loaded.Miss (selector z)))) (refused z)) ≡ true
    passes true true p e f = absurd (false≢true (sym f))
    passes true false true e f = refl
    passes true false false e f = refl
    passes false d p e f = absurd (false≢true e)

    go : (n : Bool) (o : Option Hold) → cond n None o ≡ Some h → is_passed (cond n loaded.Done (when v 11 z is_readable o)) ≡ true
    go true o e = refl
    go false None e = absurd (none_some e)
    go false (Some y) e =
        passes (is_readable y.rights) (v.discarded y.name) (v.present y.name) (ap (λ (x : Hold). is_readable x.rights) (hold_is e) ∙ writable_reads h.rights good) (ap (λ (x : Hold). v.discarded x.name) (hold_is e) ∙ kept)

-- What the registers and the pointer of a call name.

module _ (s : Shelf) (m : Maps) (pid : ℕ) (c : Cpu) where
  -- the segment behind a pointer that is ready is there, and has its rights
  record IsAimed (test : ℕ → Bool) (z n : ℕ) : Type 0 where
    hold : Hold
    bound : bound_in (hold_in m pid) z ≡ Some hold
    rights : test hold.rights ≡ true
    present : present_in s hold.name ≡ true
    named : is_in n (hold.name ∷ []) ≡ true

  aimed_by : (test : ℕ → Bool) (z o count n : ℕ) → (count == 0) ≡ false → is_ready test (seen s m pid c) z o count ≡ true → is_in n (name_in (bound_in (hold_in m pid) z)) ≡ true → IsAimed test z n
  unfolding is_ready seen_with
  aimed_by test z o count n some ready named = go (one_of (count == 0) (has_present_range test (seen s m pid c) o count (bound_in (hold_in m pid) z)) ready)
    where
      by : (q : Option Hold) → bound_in (hold_in m pid) z ≡ q → has_present_range test (seen s m pid c) o count q ≡ true → is_in n (name_in q) ≡ true → IsAimed test z n
      by None e x f = absurd (false≢true x)
      by (Some h) e x f = record {
        hold = h;
        bound = e;
        rights = left_true (test h.rights) _ (right_true (present_in s h.name) _ x);
        present = left_true (present_in s h.name) _ x;
        named = f;
      }

      go : ((count == 0) ≡ true) ⊎ (has_present_range test (seen s m pid c) o count (bound_in (hold_in m pid) z) ≡ true) → IsAimed test z n
      go (inl e) = absurd (false≢true (sym some ∙ e))
      go (inr x) = by (bound_in (hold_in m pid) z) refl x named

  aged_pair : (z n : ℕ) → is_in n (ages_of (pair_of (held_under m pid z))) ≡ true → is_in n (name_in (bound_in (hold_in m pid) z)) ≡ true
  aged_pair z n e = subst (λ (ns : List ℕ). is_in n ns ≡ true) (pair_name m pid z) e

  same_name : (a n : ℕ) → is_in n (a ∷ []) ≡ true → a ≡ n
  same_name a n e = go (one_of (a == n) false e)
    where
      go : ((a == n) ≡ true) ⊎ (false ≡ true) → a ≡ n
      go (inl x) = eqb-true a n x
      go (inr x) = absurd (false≢true x)

  aimed_there : (test : ℕ → Bool) (z n : ℕ) → IsAimed test z n → present_in s n ≡ true
  aimed_there test z n x = subst (λ (k : ℕ). present_in s k ≡ true) (same_name x.hold.name n x.named) x.present

  -- of segments under selectors, that under the first, or one of the others
  first_or_later : (first later : List (SegId × ℕ)) (n : ℕ) → is_in n (ages_of (first ++ later)) ≡ true → (is_in n (ages_of first) ≡ true) ⊎ (is_in n (ages_of later) ≡ true)
  first_or_later first later n e = one_of (is_in n (ages_of first)) (is_in n (ages_of later)) (sym (both_in n (ages_of first) (ages_of later)) ∙ (ap (is_in n) (sym (ages_both first later)) ∙ e))

  module _ (v : View) (held : v.held ≡ hold_in m pid) (kept : (n : ℕ) → present_in s n ≡ true → v.discarded n ≡ false) where
    aimed_passes : (z o count n : ℕ) → (count == 0) ≡ false → IsAimed is_writable z n → is_in n (pointed v (pointer true z o count ∷ [])) ≡ true
    aimed_passes z o count n some x =
        subst (λ (b : Bool). is_in n (if b then [] else passed v (bound_in v.held z) (pointer true z o count) []) ≡ true) (sym some)
        (subst (λ (q : Option Hold). is_in n (passed v q (pointer true z o count) []) ≡ true) (sym bound)
        (pass (is_for_es v z) (is_writable x.hold.rights && nat_le (o + count) (length (v.bytes x.hold.name))) (is_es v z x.hold (kept x.hold.name x.present) bound x.rights)))
      where
        bound : bound_in v.held z ≡ Some x.hold
        bound = ap (λ (f : ℕ → Option Hold). bound_in f z) held ∙ x.bound

        pass : (es fits : Bool) → es ≡ true → is_in n (if es then x.hold.name ∷ (if fits then [] else []) else []) ≡ true
        pass true true e = x.named
        pass true false e = x.named
        pass false fits e = absurd (false≢true e)

    one_passes : (z o count n : ℕ) → (count == 0) ≡ false → are_ready (seen s m pid c) (pointer true z o count ∷ []) ≡ true → is_in n (ages_of (pair_of (held_under m pid z))) ≡ true
        → is_in n (pointed v (pointer true z o count ∷ [])) ≡ true
    one_passes z o count n some ready named =
        aimed_passes z o count n some (aimed_by is_writable z o count n some (left_true (is_ready is_writable (seen s m pid c) z o count) true ready) (aged_pair z n named))

    -- behind the pointer of a call that may stop is what it keeps in memory for it
    pub passes_for : (a : Arguments) → MayStop a.request → (n : ℕ) → are_ready (seen s m pid c) (targets a) ≡ true → is_in n (ages_of (aimed_in m pid a)) ≡ true → is_in n (pointed v (targets a)) ≡ true
    unfolding row_of
    passes_for a may n ready e = go a.request a.service a.same may ready e
      where
        Aims : SegmentArguments → ℕ → List Pointer
        Aims x service = target_in (slots_by (row_of service)) (looked_in x) (word_in a.words)

        Passes : List Pointer → Type 0
        Passes ps = are_ready (seen s m pid c) ps ≡ true → is_in n (ages_of (under_all m pid (selectors_of ps))) ≡ true → is_in n (pointed v ps) ≡ true

        none_passes : Passes []
        none_passes ready e = absurd (false≢true e)

        by_number : (x : SegmentArguments) (service number : ℕ) → service ≡ number → Passes (Aims x number) → Passes (Aims x service)
        by_number x service number same = subst (λ (k : ℕ). Passes (Aims x k)) (sym same)

        go : (x : SegmentArguments) (service : ℕ) → service ≡ (request_of x).service → MayStop x → Passes (Aims x service)
        go (Alloc size flags) service same may =
            by_number (Alloc size flags) service 5 same
            (λ ready e. one_passes (word_in a.words 2) (word_in a.words 1) 2 n refl ready
            (ap (λ (l : List (SegId × ℕ)). is_in n (ages_of l)) (sym (append-nil (pair_of (held_under m pid (word_in a.words 2))))) ∙ e))
        go (Realloc size z) service same may = by_number (Realloc size z) service 6 same none_passes
        go (Free z) service same may = absurd may
        go (Size y) service same may = absurd may
        go (Lock z) service same may = by_number (Lock z) service 9 same none_passes
        go (Unlock z) service same may = absurd may
        go (Alias y) service same may = absurd may
        go (Shared y) service same may = absurd may
        go (Huge (huge.Alloc segs part most flags)) service same may = absurd may
        go (Huge (huge.Realloc segs part z)) service same may = by_number (Huge (huge.Realloc segs part z)) service 17 same none_passes
        go (Huge huge.Shift) service same may = absurd may

  module _ (v : View) (held : v.held ≡ hold_in m pid) where
    -- the segment that a selector names
    named_for : (z n : ℕ) → is_in n (name_in (bound_in v.held z)) ≡ true → is_in n (ages_of (pair_of (held_under m pid z))) ≡ true
    named_for z n e =
        subst (λ (ns : List ℕ). is_in n ns ≡ true) (sym (pair_name m pid z))
        (subst (λ (f : ℕ → Option Hold). is_in n (name_in (bound_in f z)) ≡ true) held e)

    both_ages : (first second : List (SegId × ℕ)) (n : ℕ) → (is_in n (ages_of first) ≡ true) ⊎ (is_in n (ages_of second) ≡ true) → is_in n (ages_of (first ++ second)) ≡ true
    both_ages first second n (inl e) = ap (is_in n) (ages_both first second) ∙ (both_in n (ages_of first) (ages_of second) ∙ or_front (is_in n (ages_of first)) (is_in n (ages_of second)) e)
    both_ages first second n (inr e) = ap (is_in n) (ages_both first second) ∙ (both_in n (ages_of first) (ages_of second) ∙ or_back (is_in n (ages_of first)) (is_in n (ages_of second)) e)

    keeps_all : (ps : List Pointer) (n : ℕ) → is_in n (pointed v ps) ≡ true → is_in n (ages_of (under_all m pid (selectors_of ps))) ≡ true
    keeps_all [] n e = absurd (false≢true e)
    keeps_all (p ∷ ps) n e = by (keeps_all ps n) (pointed_in v p ps n e)
      where
        by : (is_in n (pointed v ps) ≡ true → is_in n (ages_of (under_all m pid (selectors_of ps))) ≡ true)
            → (is_in n (name_in (bound_in v.held p.selector)) ≡ true) ⊎ (is_in n (pointed v ps) ≡ true) → is_in n (ages_of (under_all m pid (selectors_of (p ∷ ps)))) ≡ true
        by rest (inl f) = both_ages (pair_of (held_under m pid p.selector)) (under_all m pid (selectors_of ps)) n (inl (named_for p.selector n f))
        by rest (inr f) = both_ages (pair_of (held_under m pid p.selector)) (under_all m pid (selectors_of ps)) n (inr (rest f))

    pub keeps_for : (a : Arguments) (n : ℕ) → is_in n (pointed v (targets a)) ≡ true → is_in n (ages_of (aimed_in m pid a)) ≡ true
    keeps_for a n e = keeps_all (targets a) n e

  there_all : (ps : List Pointer) → AreSome ps → (n : ℕ) → are_ready (seen s m pid c) ps ≡ true → is_in n (ages_of (under_all m pid (selectors_of ps))) ≡ true → present_in s n ≡ true
  there_all [] some n ready e = absurd (false≢true e)
  there_all (p ∷ ps) some n ready e = by (there_all ps some.1 n (right_true _ (are_ready (seen s m pid c) ps) ready)) (first_or_later (pair_of (held_under m pid p.selector)) (under_all m pid (selectors_of ps)) n e)
    where
      now : Bool
      now = is_ready p.good (seen s m pid c) p.selector p.offset p.count

      by : (is_in n (ages_of (under_all m pid (selectors_of ps))) ≡ true → present_in s n ≡ true)
          → (is_in n (ages_of (pair_of (held_under m pid p.selector))) ≡ true) ⊎ (is_in n (ages_of (under_all m pid (selectors_of ps))) ≡ true) → present_in s n ≡ true
      by rest (inl f) =
          aimed_there p.good p.selector n
          (aimed_by p.good p.selector p.offset p.count n some.0 (left_true now (are_ready (seen s m pid c) ps) ready) (aged_pair p.selector n f))
      by rest (inr f) = rest f

  there_for : (a : Arguments) (n : ℕ) → are_ready (seen s m pid c) (targets a) ≡ true → is_in n (ages_of (aimed_in m pid a)) ≡ true → present_in s n ≡ true
  there_for a n ready e = there_all (targets a) (targets_some a) n ready e

  abbrev need : Arguments → List (SegId × ℕ)
  need a = seated_in m pid c ++ aimed_in m pid a

  pub ages_need : (a : Arguments) → ages_of (need a) ≡ seated (bound_registers (hold_in m pid) c) ++ ages_of (aimed_in m pid a)
  ages_need a = ages_both (seated_in m pid c) (aimed_in m pid a) ∙ ap (λ (ns : List ℕ). ns ++ ages_of (aimed_in m pid a)) (ages_seated m pid c)

  pub live_need : (a : Arguments) → (t : Shelf) → IsHeldWell t m → AreLive t (need a)
  live_need a t well = live_more t (seated_in m pid c) (aimed_in m pid a) (live_seated t m pid c well) (live_aimed t m pid a well)

  -- all of it is in memory before the call
  pub need_present : (a : Arguments) → CanStep s m pid c → are_ready (seen s m pid c) (targets a) ≡ true → (n : ℕ) → is_in n (ages_of (need a)) ≡ true → present_in s n ≡ true
  unfolding seen_with
  need_present a step ready n e =
      by (one_of (is_in n seats) (is_in n aimed) (sym (both_in n seats aimed) ∙ (ap (is_in n) (sym (ages_need a)) ∙ e)))
    where
      seats : List ℕ
      seats = seated (bound_registers (hold_in m pid) c)

      aimed : List ℕ
      aimed = ages_of (aimed_in m pid a)

      by : (is_in n (seated (bound_registers (hold_in m pid) c)) ≡ true) ⊎ (is_in n (ages_of (aimed_in m pid a)) ≡ true) → present_in s n ≡ true
      by (inl x) = seated_present (present_in s) (bound_registers (hold_in m pid) c) step.bound n x
      by (inr x) = there_for a n ready x
