-- The pointer of a call on segments goes on to be good behind what the call changes, and its segment stays in memory.
use Rattle.std.proofs.Common.{◌≡◌, List, ◌∷◌, [], ◌⊎◌, inl, inr, ℕ, ◌+◌, ◌/◌, ◌==◌, ◌&&◌, ◌||◌, nat_le, Bool, true, false, cond, length, Option, Some, None, IsSome, is_some, ap, sym, ◌∙◌, refl, subst, arith}
use Rattle.std.specs.Prelude.{option_map}
use Rattle.std.proofs.lemmas.Bool.{false≢true}
use Rattle.o2_phys.proofs.Parts.{length-part}
use Rattle.o2_isa.specs.declared.cpu.Cpu.{Cpu}
use Rattle.o2_isa.specs.Pointers.{has_present_range, is_ready}
use Rattle.o2_isa.specs.View.{Hold, bound_in, is_local, is_null}
use Rattle.o2_regions.specs.declared.held.Held.{Held}
use Rattle.o2_regions.specs.Maps.{Maps, held_at}
use Rattle.o2_entries.specs.Tables.{slot_at}
use Rattle.o2_store.specs.Shelf.{Shelf, entry, place_of}
use Rattle.o2_segbus.specs.Bus.{AreInside, held_under}
use Rattle.o2_desc.specs.Bits.{rights_of}
use Rattle.o2_segbus.specs.Settled.{descriptor_at}
use Rattle.o2_segbus.specs.Seen.{AreNamed, bytes_from, bytes_in, bytes_under, hold_in, hold_of, key_of, present_in, present_under, seen, seen_with}
use Rattle.o2_segbus.proofs.Holds.{bound_is, under_at}
use Rattle.o2_service.specs.Needs.{AreLive, needs}
use Rattle.o2_service.specs.Told.{IsHeldWell}
use Rattle.o2_place.specs.declared.seg_id.SegId.{SegId}
use Rattle.o2_shared.specs.Shares.{StillHolds}
use Rattle.o2_calls.proofs.SharedOver.{keeps_still}
use Rattle.o2_gate.specs.declared.requests.HugeArguments.TheVariants as huge
use Rattle.o2_ends.proofs.Letting.{live_id}
use Rattle.o2_segs.specs.Limits.{KeepsEntries}
use Rattle.o2_gate.specs.declared.requests.SegmentArguments.{SegmentArguments}
use Rattle.o2_gate.specs.declared.requests.SegmentArguments.TheVariants.{Alloc, Realloc, Free, Size, Lock, Unlock, Alias, Shared, Huge}
use Rattle.o2_gate.specs.declared.arguments.Arguments.{Arguments}
use Rattle.o2_gate.specs.Given.{word_in}
use Rattle.o2_gate.specs.Requests.{request_of}
use Rattle.o2_gate.specs.Rows.{slots_by}
use Rattle.o2_gate.specs.Targets.{looked_in, target_in, targets}
use Rattle.o2_world.specs.Calls.{row_of}
use Rattle.o2_gate.specs.Pointed.{are_ready}
use Rattle.o2_calls.specs.Stops.{LeavesEntries, LeavesHolds}
use Rattle.o2_world.specs.Slots.{Pointer}
use Rattle.o2_stepping.specs.Rooms.{aimed_in, pair_of, selectors_of, under_all}
use Rattle.o2_stepping.proofs.Bringing.{needs_both}
use Rattle.o2_stepping.proofs.Named.{one_of, or_back, or_front}
use Rattle.o2_stepping.proofs.Rounds.{live_more, live_pair}

-- What a conjunction says.

left_of : (a b : Bool) → (a && b) ≡ true → a ≡ true
left_of true b e = refl
left_of false b e = absurd (false≢true e)

right_of : (a b : Bool) → (a && b) ≡ true → b ≡ true
right_of true b e = e
right_of false b e = absurd (false≢true e)

all_of : (a b c : Bool) → a ≡ true → b ≡ true → c ≡ true → (a && (b && c)) ≡ true
all_of a b c e f g = rw (e, f, g) refl

both_true : (a b : Bool) → a ≡ true → b ≡ true → (a && b) ≡ true
both_true a b e f = rw (e, f) refl

none_some : {X : Type 0} {x : X} → None ≡ Some x → ⊥
none_some e = cc

-- What is held under a selector goes on to be held.

under_still : (m n : Maps) (pid z : ℕ) (h : Held) → StillHolds m n → held_under m pid z ≡ Some h → (k : Held) × (held_under n pid z ≡ Some k) × (k.id ≡ h.id)
under_still m n pid z h holds e = go (is_null z) (is_local z) e
  where
    go : (a b : Bool) → cond a None (cond b (held_at m pid (z / 8)) None) ≡ Some h → (k : Held) × (cond a None (cond b (held_at n pid (z / 8)) None) ≡ Some k) × (k.id ≡ h.id)
    go true b f = absurd (none_some f)
    go false false f = absurd (none_some f)
    go false true f = (let x = holds.held pid (z / 8) h f in (x.0, x.1, x.2))

pub under_of : (m n : Maps) (pid z : ℕ) (h : Held) → StillHolds m n → held_under m pid z ≡ Some h → option_map (hold_of n pid (z / 8)) (held_under n pid z) ≡ Some (hold_of n pid (z / 8) h)
under_of m n pid z h holds e =
    let x = under_still m n pid z h holds e in
    ap (option_map (hold_of n pid (z / 8))) x.1 ∙ ap (λ (id : SegId). Some (record { name = id.age; rights = rights_of (descriptor_at n pid (z / 8)).access })) x.2

pub hold_same : (m n : Maps) (pid i : ℕ) (h : Held) → StillHolds m n → held_at m pid i ≡ Some h → hold_of n pid i h ≡ hold_of m pid i h
hold_same m n pid i h holds e = ap (λ (r : ℕ). record { name = h.id.age; rights = r }) (holds.rights pid i (ap is_some e))

-- the bytes of a segment in memory are as many as its size says
long : (u : Shelf) → AreInside u → (k : ℕ) → IsSome (place_of u k) → length (bytes_from u.memory (place_of u k) (entry u k).size) ≡ (entry u k).size
long u inside k some = go (place_of u k) refl some
  where
    go : (o : Option (ℕ × ℕ)) → place_of u k ≡ o → is_some o ≡ true → length (bytes_from u.memory o (entry u k).size) ≡ (entry u k).size
    go None e x = absurd (false≢true x)
    go (Some r) e x = length-part u.memory r.0 (entry u k).size (inside.within k r.0 r.1 e)

-- A call without a pointer, or one that leaves all that is held and all that lives.

pub record LeavesAll (x : SegmentArguments) (m n : Maps) (s t : Shelf) : Type 0 where
  pub holds : LeavesHolds x m n → StillHolds m n
  pub entries : LeavesEntries x s t → KeepsEntries s t

pub leaves_aimed : (a : Arguments) (m n : Maps) (s t : Shelf) → (targets a ≡ []) ⊎ LeavesAll a.request m n s t
unfolding row_of
leaves_aimed a m n s t = go a.request a.service a.same
  where
    Aims : SegmentArguments → ℕ → List Pointer
    Aims x service = target_in (slots_by (row_of service)) (looked_in x) (word_in a.words)

    nowhere : (x : SegmentArguments) (service number : ℕ) → service ≡ number → Aims x number ≡ [] → Aims x service ≡ []
    nowhere x service number same none = ap (Aims x) same ∙ none

    go : (x : SegmentArguments) (service : ℕ) → service ≡ (request_of x).service → (Aims x service ≡ []) ⊎ LeavesAll x m n s t
    go (Alloc size flags) service same = inr (record { holds = keeps_still m n; entries = λ e. e })
    go (Realloc size z) service same = inl (nowhere (Realloc size z) service 6 same refl)
    go (Free z) service same = inl (nowhere (Free z) service 7 same refl)
    go (Size y) service same = inr (record { holds = keeps_still m n; entries = λ e. e })
    go (Lock z) service same = inl (nowhere (Lock z) service 9 same refl)
    go (Unlock z) service same = inl (nowhere (Unlock z) service 10 same refl)
    go (Alias y) service same = inr (record { holds = keeps_still m n; entries = λ e. e })
    go (Shared x) service same = inr (record { holds = λ h. h; entries = λ e. e })
    go (Huge (huge.Alloc segs part most flags)) service same = inr (record { holds = keeps_still m n; entries = λ e. e })
    go (Huge (huge.Realloc segs part z)) service same = inl (nowhere (Huge (huge.Realloc segs part z)) service 17 same refl)
    go (Huge huge.Shift) service same = inr (record { holds = keeps_still m n; entries = λ e. e })

module _ (s t : Shelf) (m n : Maps) (pid : ℕ) (well : IsHeldWell s m) (named : AreNamed s m) (now : AreNamed t n) (inside : AreInside s) (within : AreInside t) where
  module _ (z : ℕ) (holds : StillHolds m n) (entries : KeepsEntries s t) (stays : (k : ℕ) → needs (pair_of (held_under m pid z)) k ≡ true → IsSome (slot_at t.entries k) → IsSome (place_of s k) → IsSome (place_of t k)) where
    module _ (h : Held) (under : held_under m pid z ≡ Some h) where
      at : held_at m pid (z / 8) ≡ Some h
      at = under_at m pid z h under

      abbrev key : ℕ
      key = h.id.key

      slot : IsSome (slot_at s.entries key)
      slot = (live_id s h.id (well.live pid (z / 8) h at)).0

      key_was : key_of s h.id.age ≡ Some key
      key_was = named pid (z / 8) h at

      key_is : key_of t h.id.age ≡ Some key
      key_is = (let x = holds.held pid (z / 8) h at in subst (λ (id : SegId). key_of t id.age ≡ Some id.key) x.2 (now pid (z / 8) x.0 x.1))

      needed : needs (pair_of (held_under m pid z)) key ≡ true
      needed = ap (λ (o : Option Held). needs (pair_of o) key) under ∙ same key
        where
          same : (k : ℕ) → ((k == k) || false) ≡ true
          same k = grind arith

      here : present_in s h.id.age ≡ true → IsSome (place_of s key)
      here x = ap (present_under s) (sym key_was) ∙ x

      there : present_in s h.id.age ≡ true → IsSome (place_of t key)
      there x = stays key needed (entries.each key slot).0 (here x)

      same_length : present_in s h.id.age ≡ true → length (bytes_in t h.id.age) ≡ length (bytes_in s h.id.age)
      same_length x =
          ap (λ (o : Option ℕ). length (bytes_under t o)) key_is
          ∙ (long t within key (there x)
          ∙ ((entries.each key slot).2
          ∙ (sym (long s inside key (here x)) ∙ ap (λ (o : Option ℕ). length (bytes_under s o)) (sym key_was))))

      range_kept : (test : ℕ → Bool) (a b : Cpu) (o c : ℕ) → has_present_range test (seen s m pid a) o c (Some (hold_of m pid (z / 8) h)) ≡ true
          → has_present_range test (seen t n pid b) o c (Some (hold_of n pid (z / 8) h)) ≡ true
      unfolding seen_with
      range_kept test a b o c x =
          let ok : Bool = test (hold_of m pid (z / 8) h).rights in
          let fits : Bool = nat_le (o + c) (length (bytes_in s h.id.age)) in
          let present = left_of (present_in s h.id.age) (ok && fits) x in
          let rest = right_of (present_in s h.id.age) (ok && fits) x in
          all_of (present_in t h.id.age) (test (hold_of n pid (z / 8) h).rights) (nat_le (o + c) (length (bytes_in t h.id.age)))
          (ap (present_under t) key_is ∙ there present)
          (ap (λ (x : Hold). test x.rights) (hold_same m n pid (z / 8) h holds at) ∙ left_of ok fits rest)
          (ap (nat_le (o + c)) (same_length present) ∙ right_of ok fits rest)

    pub pointer_kept : (test : ℕ → Bool) (a b : Cpu) (o c : ℕ) → is_ready test (seen s m pid a) z o c ≡ true → is_ready test (seen t n pid b) z o c ≡ true
    unfolding is_ready seen_with
    pointer_kept test a b o c x = go (one_of (c == 0) (has_present_range test (seen s m pid a) o c (bound_in (hold_in m pid) z)) x)
      where
        by : (q : Option Held) → held_under m pid z ≡ q → has_present_range test (seen s m pid a) o c (option_map (hold_of m pid (z / 8)) q) ≡ true
            → has_present_range test (seen t n pid b) o c (bound_in (hold_in n pid) z) ≡ true
        by None e y = absurd (false≢true y)
        by (Some h) e y =
            subst (λ (q : Option Hold). has_present_range test (seen t n pid b) o c q ≡ true)
            (sym (bound_is n pid z ∙ under_of m n pid z h holds e))
            (range_kept h e test a b o c y)

        go : ((c == 0) ≡ true) ⊎ (has_present_range test (seen s m pid a) o c (bound_in (hold_in m pid) z) ≡ true)
            → ((c == 0) || has_present_range test (seen t n pid b) o c (bound_in (hold_in n pid) z)) ≡ true
        go (inl e) = or_front (c == 0) (has_present_range test (seen t n pid b) o c (bound_in (hold_in n pid) z)) e
        go (inr y) =
            or_back (c == 0) (has_present_range test (seen t n pid b) o c (bound_in (hold_in n pid) z))
            (by (held_under m pid z) refl (subst (λ (q : Option Hold). has_present_range test (seen s m pid a) o c q ≡ true) (bound_is m pid z) y))

  -- those of all pointers
  pointers_kept : (ps : List Pointer) (a b : Cpu) → StillHolds m n → KeepsEntries s t
      → ((k : ℕ) → needs (under_all m pid (selectors_of ps)) k ≡ true → IsSome (slot_at t.entries k) → IsSome (place_of s k) → IsSome (place_of t k))
      → are_ready (seen s m pid a) ps ≡ true → are_ready (seen t n pid b) ps ≡ true
  pointers_kept [] a b holds entries stays ready = refl
  pointers_kept (p ∷ ps) a b holds entries stays ready =
      let first = pair_of (held_under m pid p.selector) in
      let later = under_all m pid (selectors_of ps) in
      let now = is_ready p.good (seen s m pid a) p.selector p.offset p.count in
      both_true (is_ready p.good (seen t n pid b) p.selector p.offset p.count) (are_ready (seen t n pid b) ps)
      (pointer_kept p.selector holds entries (λ k need. stays k (needs_both first later k ∙ or_front (needs first k) (needs later k) need)) p.good a b p.offset p.count
      (left_of now (are_ready (seen s m pid a) ps) ready))
      (pointers_kept ps a b holds entries (λ k need. stays k (needs_both first later k ∙ or_back (needs first k) (needs later k) need)) (right_of now (are_ready (seen s m pid a) ps) ready))

  -- a call with a pointer leaves what is held, and what lives
  pub aimed_kept : (x : Arguments) (a b : Cpu) → LeavesHolds x.request m n → LeavesEntries x.request s t
      → ((k : ℕ) → needs (aimed_in m pid x) k ≡ true → IsSome (slot_at t.entries k) → IsSome (place_of s k) → IsSome (place_of t k))
      → are_ready (seen s m pid a) (targets x) ≡ true → are_ready (seen t n pid b) (targets x) ≡ true
  aimed_kept x a b holds entries stays ready = go (leaves_aimed x m n s t)
    where
      go : (targets x ≡ []) ⊎ LeavesAll x.request m n s t → are_ready (seen t n pid b) (targets x) ≡ true
      go (inl none) = ap (are_ready (seen t n pid b)) none
      go (inr all) = pointers_kept (targets x) a b (all.holds holds) (all.entries entries) stays ready

-- What a ready pointer names is held.

pub held_by_ready : (test : ℕ → Bool) (s : Shelf) (m : Maps) (pid : ℕ) (a : Cpu) (z o c : ℕ) → (c == 0) ≡ false → is_ready test (seen s m pid a) z o c ≡ true
    → (h : Held) × (held_under m pid z ≡ Some h)
unfolding is_ready seen_with
held_by_ready test s m pid a z o c some x = go (one_of (c == 0) (has_present_range test (seen s m pid a) o c (bound_in (hold_in m pid) z)) x)
  where
    by : (q : Option Held) → held_under m pid z ≡ q → has_present_range test (seen s m pid a) o c (option_map (hold_of m pid (z / 8)) q) ≡ true → (h : Held) × (held_under m pid z ≡ Some h)
    by None e y = absurd (false≢true y)
    by (Some h) e y = (h, e)

    go : ((c == 0) ≡ true) ⊎ (has_present_range test (seen s m pid a) o c (bound_in (hold_in m pid) z) ≡ true) → (h : Held) × (held_under m pid z ≡ Some h)
    go (inl e) = absurd (false≢true (sym some ∙ e))
    go (inr y) = by (held_under m pid z) refl (subst (λ (q : Option Hold). has_present_range test (seen s m pid a) o c q ≡ true) (bound_is m pid z) y)

-- What a call keeps in memory lives.

live_under : (s : Shelf) (m : Maps) (pid : ℕ) (ss : List ℕ) → IsHeldWell s m → AreLive s (under_all m pid ss)
live_under s m pid [] well = record { each = λ i p e. absurd (none_some e) }
live_under s m pid (z ∷ ss) well = live_more s (pair_of (held_under m pid z)) (under_all m pid ss) (live_pair s m pid z well) (live_under s m pid ss well)

pub live_aimed : (s : Shelf) (m : Maps) (pid : ℕ) (a : Arguments) → IsHeldWell s m → AreLive s (aimed_in m pid a)
live_aimed s m pid a well = live_under s m pid (selectors_of (targets a)) well
