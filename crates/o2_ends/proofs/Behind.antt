-- What the machine goes by, and what it stands for, behind the end of a process.
use Rattle.std.proofs.Common.{◌≡◌, ◌≢◌, ℕ, ◌+◌, ◌<◌, inl, inr, Bool, true, false, cond, ◌&&◌, ◌||◌, not, List, [], length, get_or, Option, Some, None, is_some, IsSome, refl, sym, ap, ◌∙◌, subst, arith, if◌then◌else◌, option_map}
use Rattle.std.specs.Prelude.{nat_lt, ◌==◌}
use Rattle.std.specs.List.{list_any}
use Rattle.std.proofs.lemmas.Bool.{cases_eq, cases_lt, false≢true, eq-eqb, ne_eqb}
use Rattle.std.proofs.lemmas.List.{get_or_past}
use Rattle.o2_desc.specs.declared.descriptor.Descriptor.{Descriptor}
use Rattle.o2_desc.specs.Bits.{is_writable, rights_of}
use Rattle.o2_desc.specs.Bytes.{empty}
use Rattle.o2_entries.specs.declared.Entry.{Entry}
use Rattle.o2_entries.specs.Tables.{slot_at}
use Rattle.o2_place.specs.declared.seg_id.SegId.{SegId}
use Rattle.o2_regions.specs.declared.held.Cause.{Cause}
use Rattle.o2_regions.specs.declared.held.Cause.TheVariants.{Alias, Called, Loaded}
use Rattle.o2_regions.specs.declared.held.Held.{Held}
use Rattle.o2_regions.specs.declared.held.Region.{Region}
use Rattle.o2_regions.specs.declared.held.Region.TheVariants.{Private, Shared}
use Rattle.o2_regions.specs.Kept.{AreKept}
use Rattle.o2_regions.specs.Lives.{lives}
use Rattle.o2_regions.specs.Maps.{IsProcess, Maps, held_at, is_held as is_held_in, is_reserved, is_taken, some_holds}
use Rattle.o2_regions.proofs.Reserves.{held_reserved, held_shared as shared_held, holder_in, unheld_shared}
use Rattle.o2_segbus.specs.Guards.{AreAged}
use Rattle.o2_segbus.specs.Seen.{key_of}
use Rattle.o2_segbus.specs.Settled.{Describes, IsSettled, IsSettledAt, descriptor_at}
use Rattle.o2_segbus.proofs.Ages.{aged_key, named_by_age}
use Rattle.o2_service.specs.Told.{IsHeldWell}
use Rattle.o2_store.specs.Pictures.{picture}
use Rattle.o2_store.specs.Shelf.{AreClean, IsShelf, Pictures, Shelf, entry, entry_or, numbered, out_byte, place_of, source_byte}
use Rattle.o2_swapmap.specs.Piles.{Blocks}
use Rattle.o2_world.specs.Holders.{is_held, kept, process_at, with_process}
use Rattle.o2_world.specs.Changes.{is_used, used}
use Rattle.o2_world.specs.Rulings.{is_in_run}
use Rattle.o2_stands.specs.Runs.{IsInStretch}
use Rattle.o2_world.specs.Known.{held_at as world_held, holds_index, reserves}
use Rattle.o2_world.specs.Map.{Map, get}
use Rattle.o2_world.specs.World.{Held as WorldHeld, Process, Reserve, Segment, is_live}
use Rattle.o2_stands.specs.Parts.{Parts, Running, cause_of, goes_on, held_in, held_of, running_of}
use Rattle.o2_stands.specs.Stands.{AreMarked, IsIndex, IsNamed, IsReady, IsSegment, StandsIn, is_by_load, number_of, region_at, taken_by}
use Rattle.o2_stands.specs.Moves.{stepped_to, with_running}
use Rattle.o2_stands.proofs.Moves.{index_same}
use Rattle.o2_stands.proofs.Rooms.{found_at}
use Rattle.o2_ends.specs.Ended.{StandsBehind}
use Rattle.o2_ends.specs.LetsGo.{FreesAll, IsAloneLeft, IsRunLeft, KeepsSegment, LetsGo, Sheds, is_loaded, some_has}
use Rattle.o2_ends.proofs.Holders.{has_there, holder_of, id_same, some_is}
use Rattle.o2_ends.proofs.Letting.{held_before, held_behind, live_id}
use Rattle.o2_ends.proofs.Somes.{some_all}
use Rattle.o2_ends.proofs.Stretches.{gone_member, other_same, own_free, used_holder}
use Rattle.o2_stands.proofs.Running.{running_put, running_ready}
use Rattle.o2_stands.proofs.Worlds.{holds_of, name_held}
use Rattle.o2_ends.proofs.Worlds.{absorbed, held_here, held_other, kept_is, or_right, run_reserves, tidy_behind}
use Rattle.o2_stands.proofs.Matching.{matched_by}
use Rattle.o2_stands.proofs.Reserved.{any_left_false}
use Rattle.o2_stands.proofs.RunSteps.{high_region, stretch_reserves}
use Rattle.o2_stands.proofs.RunsSeen.{runs_seen}
use Rattle.o2_changes.proofs.Worlds.{index_held}

none_some : {X : Type 0} (x : X) → None ≡ Some x → ⊥
none_some x e = cc

same_entry : (s t : Shelf) (k : ℕ) → KeepsSegment s t k → entry t k ≡ entry s k
same_entry s t k x = ap (λ (o : Option Entry). entry_or o) x.entry

-- no segment is there that doesn't show in its entry
shows : (t : Shelf) (k : ℕ) (P : Entry → Type 0) → P (entry t k) → ((o : Option Entry) → o ≡ None → P (entry_or o) → ⊥) → IsSome (slot_at t.entries k)
shows t k P p f = go (slot_at t.entries k) refl
  where
    go : (o : Option Entry) → slot_at t.entries k ≡ o → is_some o ≡ true
    go (Some e) q = refl
    go None q = absurd (f (slot_at t.entries k) q p)

below : (s : Shelf) (k : ℕ) → IsSome (slot_at s.entries k) → k < length s.entries
below s k x = elim (cases_lt k (length s.entries)) [
  | inl l ↦ l
  | inr l ↦ absurd (false≢true (ap is_some (sym (get_or_past s.entries k None l)) ∙ x))
]

module _ (p : Parts) (s : Shelf) (m : Maps) (t : Shelf) (n : Maps) (pid : ℕ) (shelf : IsShelf s) (w : LetsGo m n pid (λ i. true)) (d : Sheds s m t n) where
  before : (q i : ℕ) (h : Held) → held_at n q i ≡ Some h → held_at m q i ≡ Some h
  before q i h e = (held_before m n pid (λ i. true) w q i h e).0

  entry_before : (q i : ℕ) (h : Held) → held_at n q i ≡ Some h → descriptor_at n q i ≡ descriptor_at m q i
  entry_before q i h e =
      w.described q i ∙ ap (λ (b : Bool). if b then empty else descriptor_at m q i) (held_before m n pid (λ i. true) w q i h e).1

  -- what is held is still there
  stays : IsHeldWell s m → (q i : ℕ) (h : Held) → held_at n q i ≡ Some h → KeepsSegment s t h.id.key
  stays held q i h e =
      let a = live_id s h.id (held.live q i h (before q i h e)) in
      d.same h.id.key (d.left h.id.key a.0 (subst (λ (id : SegId). some_has n id ≡ true) (sym a.1) (has_there n q i h e)))

  aged_behind : AreAged s → AreAged t
  aged_behind a j k x y e =
      let u = d.same j x in
      let v = d.same k y in
      a j k (ap is_some (sym u.entry) ∙ x) (ap is_some (sym v.entry) ∙ y)
      (ap (λ (z : Entry). z.age) (sym (same_entry s t j u)) ∙ (e ∙ ap (λ (z : Entry). z.age) (same_entry s t k v)))

  settled_behind : IsHeldWell s m → IsSettled s m → IsSettled t n
  settled_behind held settled q i = go (held_at n q i) refl
    where
      go : (o : Option Held) → held_at n q i ≡ o → IsSettledAt t o (descriptor_at n q i)
      go (Some h) e =
          (let x = stays held q i h e in
          let a : IsSettledAt s (Some h) (descriptor_at m q i) = subst (λ (o : Option Held). IsSettledAt s o (descriptor_at m q i)) (before q i h e) (settled q i) in
          let b : Describes (place_of t h.id.key) (entry t h.id.key).size (rights_of (descriptor_at m q i).access) (descriptor_at m q i) =
          subst (λ (z : Option (ℕ × ℕ)). Describes z (entry t h.id.key).size (rights_of (descriptor_at m q i).access) (descriptor_at m q i)) (sym x.place)
          (subst (λ (z : Entry). Describes (place_of s h.id.key) z.size (rights_of (descriptor_at m q i).access) (descriptor_at m q i)) (sym (same_entry s t h.id.key x)) a) in
          subst (λ (y : Descriptor). Describes (place_of t h.id.key) (entry t h.id.key).size (rights_of y.access) y) (sym (entry_before q i h e)) b)
      go None e = bare ((q == pid) && true) (sym (w.held q i) ∙ e) (w.described q i)
        where
          bare : (b : Bool) → cond b None (held_at m q i) ≡ None → descriptor_at n q i ≡ cond b empty (descriptor_at m q i) → descriptor_at n q i ≡ empty
          bare true f g = g
          bare false f g = g ∙ subst (λ (o : Option Held). IsSettledAt s o (descriptor_at m q i)) f (settled q i)

  -- a clean segment has the bytes of its image, whatever its blocks are
  pure_byte : (o : Option (ℕ × ℕ)) (pic : Pictures) (a b : Blocks) (block : ℕ → List ℕ) (k j : ℕ) → IsSome o → source_byte o pic a block k j ≡ source_byte o pic b block k j
  pure_byte None pic a b block k j x = absurd (false≢true x)
  pure_byte (Some r) pic a b block k j x = refl

  clean_behind : (pic : Pictures) → AreClean s pic → AreClean t pic
  clean_behind pic clean = record { bytes = λ k at len j c e l block. byte k at len j c e l block }
    where
      byte : (k at len j : ℕ) → (entry t k).attr.clean ≡ true → place_of t k ≡ Some (at, len) → j < (entry t k).size → (block : ℕ → List ℕ)
          → get_or t.memory (at + j) 0 ≡ out_byte t pic block k j
      byte k at len j c e l block =
          (let live = shows t k (λ (z : Entry). z.attr.clean ≡ true) c (λ o q x. false≢true (ap (λ (o : Option Entry). (entry_or o).attr.clean) (sym q) ∙ x)) in
          let x = d.same k live in
          let same = same_entry s t k x in
          let c2 : (entry s k).attr.clean ≡ true = ap (λ (z : Entry). z.attr.clean) (sym same) ∙ c in
          let old : IsSome (slot_at s.entries k) = ap is_some (sym x.entry) ∙ live in
          let image : IsSome (entry s k).image = (shelf.each k (below s k old)).clean c2 in
          let size : j < (entry s k).size = subst (λ (z : Entry). j < z.size) same l in
          ap (λ (ys : List ℕ). get_or ys (at + j) 0) d.memory
          ∙ (clean.bytes k at len j c2 (sym x.place ∙ e) size block
          ∙ (ap (λ (z : ℕ). if nat_lt j (entry s k).kept then z else 0) (pure_byte (entry s k).image pic s.swap t.swap block k j image)
          ∙ ap (λ (z : Entry). if nat_lt j z.kept then source_byte z.image pic t.swap block k j else 0) (sym same))))

  pub ready_behind : IsReady (stepped_to p s m) → IsReady (stepped_to p t n)
  ready_behind r =
      let held = held_behind s t m n pid (λ i. true) r.held w d in
      let aged = aged_behind r.aged in
      record {
        aged = aged;
        named = named_by_age t n aged held.live;
        held = held;
        settled = settled_behind r.held r.settled;
        guarded = λ q i h e u.
            ap (λ (z : Entry). z.attr.clean) (same_entry s t h.id.key (stays r.held q i h e))
            ∙ r.guarded q i h (before q i h e) (subst (λ (y : Descriptor). is_writable (rights_of y.access) ≡ true) (entry_before q i h e) u);
        clean = clean_behind (picture p.images) r.clean;
        pictures = λ k a seg e.
            (let live = shows t k (λ (z : Entry). z.image ≡ Some (a, seg)) e (λ o q x. none_some (a, seg) (ap (λ (o : Option Entry). (entry_or o).image) (sym q) ∙ x)) in
            r.pictures k a seg (ap (λ (z : Entry). z.image) (sym (same_entry s t k (d.same k live))) ∙ e));
        device = (let a = r.device in let b = d.map in omega (arith, a, b));
      }

-- What is held, index by index.

in_as : (m n : Maps) (q i : ℕ) → held_at n q i ≡ held_at m q i → descriptor_at n q i ≡ descriptor_at m q i → held_in n q i ≡ held_in m q i
unfolding held_in
in_as m n q i e f =
    ap (option_map (held_of n q i)) e
    ∙ ap (λ (y : Descriptor). option_map (λ (h : Held). record (held_of m q i h) { rights = rights_of y.access }) (held_at m q i)) f

in_none : (n : Maps) (q i : ℕ) → held_at n q i ≡ None → held_in n q i ≡ None
unfolding held_in
in_none n q i e = ap (option_map (held_of n q i)) e

in_some : (n : Maps) (q i : ℕ) (h : Held) → held_at n q i ≡ Some h → held_in n q i ≡ Some (held_of n q i h)
unfolding held_in
in_some n q i h e = ap (option_map (held_of n q i)) e

some_in : (n : Maps) (q i : ℕ) → is_some (held_in n q i) ≡ is_some (held_at n q i)
unfolding held_in
some_in n q i = go (held_at n q i)
  where
    go : (o : Option Held) → is_some (option_map (held_of n q i) o) ≡ is_some o
    go None = refl
    go (Some h) = refl

record IsIn (n : Maps) (q i : ℕ) (x : WorldHeld) : Type 0 where
  hold : Held
  there : held_at n q i ≡ Some hold
  name : hold.id.age ≡ x.name

in_back : (n : Maps) (q i : ℕ) (x : WorldHeld) → held_in n q i ≡ Some x → IsIn n q i x
unfolding held_in
in_back n q i x e = go (held_at n q i) refl e
  where
    go : (o : Option Held) → held_at n q i ≡ o → option_map (held_of n q i) o ≡ Some x → IsIn n q i x
    go None f g = absurd (none_some x g)
    go (Some h) f g = record { hold = h; there = f; name = ap (λ (y : WorldHeld). y.name) (some_is (held_of n q i h) x g) }

-- what a world holds by the maps
record IsBack (n : Maps) (q i : ℕ) (x : WorldHeld) : Type 0 where
  hold : Held
  there : held_at n q i ≡ Some hold
  is : held_of n q i hold ≡ x

back_in : (n : Maps) (q i : ℕ) (x : WorldHeld) → held_in n q i ≡ Some x → IsBack n q i x
unfolding held_in
back_in n q i x e = go (held_at n q i) refl e
  where
    go : (o : Option Held) → held_at n q i ≡ o → option_map (held_of n q i) o ≡ Some x → IsBack n q i x
    go None f g = absurd (none_some x g)
    go (Some h) f g = record { hold = h; there = f; is = some_is (held_of n q i h) x g }

-- who holds a shared index, and nobody
somebody_holds : (m : Maps) (q i : ℕ) → AreKept m → is_some (held_at m q i) ≡ true → some_holds m i m.processes ≡ true
somebody_holds m q i kept e = go (some_holds m i m.processes) refl
  where
    process : (o : Option Held) → held_at m q i ≡ o → is_some o ≡ true → IsProcess m q
    process None f s = absurd (false≢true s)
    process (Some h) f s = (holder_in m q i h kept f).0

    go : (b : Bool) → some_holds m i m.processes ≡ b → b ≡ true
    go true f = refl
    go false f = (let p = process (held_at m q i) refl e in absurd (false≢true (sym (unheld_shared m i m.processes q f p.0 p.1) ∙ e)))

nobody_holds : (m : Maps) (i : ℕ) → ((q : ℕ) → is_some (held_at m q i) ≡ true → ⊥) → some_holds m i m.processes ≡ false
nobody_holds m i none = go (some_holds m i m.processes) refl
  where
    go : (b : Bool) → some_holds m i m.processes ≡ b → b ≡ false
    go true f = (let x = shared_held m i m.processes f in absurd (none x.0 x.1))
    go false f = refl

-- a cause of a world is by load where that of the maps is
by_load : (c : Cause) → is_by_load (cause_of c) ≡ is_loaded c
by_load Loaded = refl
by_load Called = refl
by_load Alias = refl

taken_is : (m : Maps) (g : Region) (i : ℕ) → AreKept m → IsIndex m g i → is_taken m g i ≡ is_reserved m g i
taken_is m g i kept x = absorbed (is_held_in m g i) (is_reserved m g i) (λ e. held_reserved m g i kept x.from x.to e)

module _ (p : Parts) (s : Shelf) (m : Maps) (t : Shelf) (n : Maps) (pid : ℕ) (shelf : IsShelf s) (old : AreKept m) (new : AreKept n) (w : LetsGo m n pid (λ i. true)) (d : Sheds s m t n) (frees : FreesAll m n pid)
    (ps : List Process) (names : Map Segment) (next : ℕ) (reserved : List Reserve) (x q : Process) (stands : StandsIn (stepped_to p s m) ps names next reserved)
    (there : process_at ps pid ≡ Some x) (none : q.held ≡ []) where
  abbrev qs : List Process
  qs = with_process ps pid q

  ready : IsReady (stepped_to p t n)
  ready = ready_behind p s m t n pid shelf w d stands.ready

  nothing : (i : ℕ) → held_at n pid i ≡ None
  nothing i = w.held pid i ∙ ap (λ (b : Bool). if b && true then None else held_at m pid i) (eq-eqb pid pid refl)

  other_held : (a i : ℕ) → a ≢ pid → held_at n a i ≡ held_at m a i
  other_held a i apart = w.held a i ∙ ap (λ (b : Bool). if b && true then None else held_at m a i) (ne_eqb a pid apart)

  other_entry : (a i : ℕ) → a ≢ pid → descriptor_at n a i ≡ descriptor_at m a i
  other_entry a i apart = w.described a i ∙ ap (λ (b : Bool). if b && true then empty else descriptor_at m a i) (ne_eqb a pid apart)

  holds : (a i : ℕ) → world_held qs a i ≡ held_in n a i
  holds a i = elim (cases_eq a pid) [
    | inl same ↦
        ap (λ (b : ℕ). world_held qs b i) same
        ∙ (held_here ps pid x q there none i ∙ sym (ap (λ (b : ℕ). held_in n b i) same ∙ in_none n pid i (nothing i)))
    | inr apart ↦ held_other ps pid x q there a i apart ∙ (stands.held a i ∙ sym (in_as m n a i (other_held a i apart) (other_entry a i apart)))
  ]

  -- Names.

  abbrev Before : ℕ → ℕ → Type 0
  Before name k = some_has m (numbered s k) ≡ true

  -- the segment of a name that is held
  named_id : (a i name k : ℕ) (h : Held) → held_at m a i ≡ Some h → h.id.age ≡ name → key_of s name ≡ Some k → h.id ≡ numbered s k
  named_id a i name k h e f key =
      let g : Some h.id.key ≡ Some k = sym (stands.ready.named a i h e) ∙ (ap (key_of s) f ∙ key) in
      let age = (found_at s name k key).1 in
      id_same h.id (numbered s k) (some_is h.id.key k g) (f ∙ sym age)

  -- a name that somebody holds behind, before
  held_behind_is : (name k : ℕ) → key_of s name ≡ Some k → is_held qs name ≡ true → some_has n (numbered s k) ≡ true
  held_behind_is name k key e =
      let y = holds_of qs name e in
      let z = in_back n y.number y.index y.hold (sym (holds y.number y.index) ∙ y.there) in
      let i = named_id y.number y.index name k z.hold (held_before m n pid (λ i. true) w y.number y.index z.hold z.there).0 (z.name ∙ y.named) key in
      subst (λ (id : SegId). some_has n id ≡ true) i (has_there n y.number y.index z.hold z.there)

  held_before_is : (name k : ℕ) → key_of s name ≡ Some k → is_held ps name ≡ true → some_has m (numbered s k) ≡ true
  held_before_is name k key e =
      let y = holds_of ps name e in
      let z = in_back m y.number y.index y.hold (sym (stands.held y.number y.index) ∙ y.there) in
      let i = named_id y.number y.index name k z.hold z.there (z.name ∙ y.named) key in
      subst (λ (id : SegId). some_has m id ≡ true) i (has_there m y.number y.index z.hold z.there)

  unheld_is : (name k : ℕ) → key_of s name ≡ Some k → is_held qs name ≡ false → some_has n (numbered s k) ≡ false
  unheld_is name k key e = go (some_has n (numbered s k)) refl
    where
      go : (b : Bool) → some_has n (numbered s k) ≡ b → b ≡ false
      go false f = refl
      go true f =
          (let y = holder_of n (numbered s k) f in
          let there : world_held qs y.pid y.index ≡ Some (held_of n y.pid y.index y.hold) = holds y.pid y.index ∙ in_some n y.pid y.index y.hold y.there in
          let age : y.hold.id.age ≡ name = ap (λ (id : SegId). id.age) y.named ∙ (found_at s name k key).1 in
          absurd (false≢true (sym e ∙ subst (λ (z : ℕ). is_held qs z ≡ true) age (name_held qs y.pid y.index (held_of n y.pid y.index y.hold) there))))

  -- the number of a name behind is the one before
  key_before : (name k : ℕ) → key_of t name ≡ Some k → key_of s name ≡ Some k
  key_before name k e =
      let a = found_at t name k e in
      let y = d.same k a.0 in
      let live : IsSome (slot_at s.entries k) = ap is_some (sym y.entry) ∙ a.0 in
      let age : (entry s k).age ≡ name = ap (λ (z : Entry). z.age) (sym (same_entry s t k y)) ∙ a.1 in
      subst (λ (z : ℕ). key_of s z ≡ Some k) age (aged_key s k stands.ready.aged live)

  key_behind : (name k : ℕ) → key_of s name ≡ Some k → IsSome (slot_at t.entries k) → key_of t name ≡ Some k
  key_behind name k e live =
      let a = found_at s name k e in
      let age : (entry t k).age ≡ name = ap (λ (z : Entry). z.age) (same_entry s t k (d.same k live)) ∙ a.1 in
      subst (λ (z : ℕ). key_of t z ≡ Some k) age (aged_key t k ready.aged live)

  no_key : (name k : ℕ) → key_of s name ≡ Some k → slot_at t.entries k ≡ None → key_of t name ≡ None
  no_key name k e gone = go (key_of t name) refl
    where
      go : (o : Option ℕ) → key_of t name ≡ o → o ≡ None
      go None f = refl
      go (Some j) f =
          (let same : j ≡ k = some_is j k (sym (key_before name j f) ∙ e) in
          let live = (found_at t name j f).0 in
          absurd (false≢true (ap is_some (sym (ap (slot_at t.entries) same ∙ gone)) ∙ live)))

  no_name : (name : ℕ) → key_of s name ≡ None → key_of t name ≡ None
  no_name name e = go (key_of t name) refl
    where
      go : (o : Option ℕ) → key_of t name ≡ o → o ≡ None
      go None f = refl
      go (Some j) f = absurd (none_some j (sym e ∙ key_before name j f))

  segment_behind : (k : ℕ) (y : Segment) → IsSegment (stepped_to p s m) k y → KeepsSegment s t k → IsSegment (with_running (stepped_to p t n) pid (running_of q)) k y
  segment_behind k y is z =
      let same = same_entry s t k z in
      record {
        size = is.size ∙ ap (λ (e : Entry). e.size) (sym same);
        bytes = λ j l. is.bytes j (subst (λ (e : Entry). j < e.size) same l) ∙ sym (z.bytes (picture p.images) p.block j);
        clean = is.clean ∙ ap (λ (e : Entry). e.attr.clean) (sym same);
        flags = is.flags ∙ ap (λ (e : Entry). e.attr.flags) (sym same);
        lock = is.lock ∙ ap (λ (e : Entry). e.attr.lock) (sym same);
        shared = is.shared ∙ ap (λ (e : Entry). e.attr.shared) (sym same);
        discarded = is.discarded ∙ ap (λ (e : Entry). e.attr.gone) (sym same);
      }

  abbrev behind : Parts
  behind = with_running (stepped_to p t n) pid (running_of q)

  segments : (name : ℕ) → IsNamed behind (key_of t name) (get (kept qs names) name)
  segments name = subst (λ (v : Option Segment). IsNamed behind (key_of t name) v) (sym (kept_is qs names name)) (at (key_of s name) (get names name) refl refl (stands.segments name) (is_held qs name) refl)
    where
      both : (o : Option ℕ) (v : Option Segment) → key_of t name ≡ o → IsNamed behind o v → IsNamed behind (key_of t name) v
      both o v e is = subst (λ (z : Option ℕ). IsNamed behind z v) (sym e) is

      at : (o : Option ℕ) (v : Option Segment) → key_of s name ≡ o → get names name ≡ v → IsNamed (stepped_to p s m) o v → (b : Bool) → is_held qs name ≡ b
          → IsNamed behind (key_of t name) (cond b v None)
      at None None e f is true h = both None None (no_name name e) is
      at None None e f is false h = both None None (no_name name e) is
      at (Some k) None e f is b h = absurd is
      at None (Some y) e f is b h = absurd is
      at (Some k) (Some y) e f is true h =
          (let live = d.left k (found_at s name k e).0 (held_behind_is name k e h) in
          both (Some k) (Some y) (key_behind name k e live) (segment_behind k y is (d.same k live)))
      at (Some k) (Some y) e f is false h =
          (let was = held_before_is name k e (stands.tidy.used name (ap is_some f)) in
          both None None (no_key name k e (d.gone k was (unheld_is name k e h))) tt)

  -- Indexes.

  abbrev there_in : (i : ℕ) (h : Held) → held_at m pid i ≡ Some h → world_held ps pid i ≡ Some (held_of m pid i h)
  there_in i h e = stands.held pid i ∙ in_some m pid i h e

  -- a shared index that nobody holds any more
  module _ (i : ℕ) (y : IsIndex m Shared i) (free : some_holds n i n.processes ≡ false) where
    abbrev Used : Bool
    Used = list_any (reserves 0 i) (used qs reserved)

    abbrev Was : Bool
    Was = list_any (reserves 0 i) reserved

    was_some : holds_index ps i ≡ some_holds m i m.processes
    was_some = index_held ps m i old (λ a. ap is_some (stands.held a i) ∙ some_in m a i)

    reserved_was : (holds_index ps i || Was) ≡ is_reserved m Shared i
    reserved_was = stands.taken Shared i y ∙ taken_is m Shared i old y

    zero_region : region_at pid i ≡ 0
    zero_region = high_region pid i y.from

    -- what is used still was reserved
    was_used : Used ≡ true → Was ≡ true
    was_used e = go Was refl
      where
        go : (b : Bool) → Was ≡ b → Was ≡ true
        go true f = f
        go false f = absurd (false≢true (sym (any_left_false (reserves 0 i) (is_used qs) reserved f) ∙ e))

    no_alone : Was ≡ true → IsAloneLeft m n pid i → ⊥
    no_alone e a =
        false≢true (sym (ap (λ (g : ℕ). list_any (reserves g i) reserved) (sym zero_region)
        ∙ stands.tidy.free pid i (held_of m pid i a.hold) (there_in i a.hold a.there) (ap not (eq-eqb a.hold.reserved 0 a.alone)) (λ high. by_load a.hold.cause ∙ a.called)) ∙ e)

    no_run : Used ≡ true → IsRunLeft m n pid i → ⊥
    no_run e r =
        let h = used_holder ps names reserved pid x q there none stands.tidy r.index i (held_of m pid r.index r.hold) (there_in r.index r.hold r.member.there) (ap not (ne_eqb r.hold.reserved 0 r.member.run)) r.covers y.from e in
        false≢true (sym r.first ∙ somebody_holds n h.0 r.hold.first new (sym (some_in n h.0 r.hold.first) ∙ (ap is_some (sym (holds h.0 r.hold.first)) ∙ h.1)))

    stays_reserved : Used ≡ true → is_reserved n Shared i ≡ true
    stays_reserved e =
        frees.other i y (no_alone (was_used e)) (no_run e)
        ∙ (sym reserved_was ∙ or_right (holds_index ps i) Was (was_used e))

    run_left : Was ≡ true → Used ≡ false → is_reserved n Shared i ≡ false
    run_left e f =
        let g = gone_member ps names reserved pid x q there none stands.tidy i e f in
        let z = back_in m pid g.index g.hold (sym (stands.held pid g.index) ∙ g.there) in
        let is = z.is in
        frees.run (runs_seen (stepped_to p s m) ps names next reserved old (matched_by (stepped_to p s m) ps names next reserved stands) stands.tidy) i y
        (record {
          index = g.index;
          hold = z.hold;
          member = record { there = z.there; run = not_zero z.hold.reserved (ap (λ (h : WorldHeld). is_in_run h) is ∙ g.run) };
          covers = subst (λ (h : WorldHeld). IsInStretch h i) (sym is) g.covers;
          first = nobody_holds n z.hold.first (λ a some. g.nobody a (ap (λ (k : ℕ). is_some (world_held qs a k)) (sym (ap (λ (h : WorldHeld). h.first) is)) ∙ (ap is_some (holds a z.hold.first) ∙ (some_in n a z.hold.first ∙ some))));
          left = free;
        })
      where
        not_zero : (c : ℕ) → not (c == 0) ≡ true → c ≢ 0
        not_zero c e z = false≢true (sym (ap not (eq-eqb c 0 z)) ∙ e)

    none_left : Was ≡ false → Used ≡ false → is_reserved n Shared i ≡ false
    none_left e f = by_hold (held_at m pid i) refl
      where
        by_hold : (o : Option Held) → held_at m pid i ≡ o → is_reserved n Shared i ≡ false
        by_hold None g = frees.fewer i y (sym reserved_was ∙ (ap (λ (b : Bool). holds_index ps i || b) e ∙ or_false (was_some ∙ (sym (some_all m n i w.processes same) ∙ free))))
          where
            or_false : {b : Bool} → b ≡ false → (b || false) ≡ false
            or_false z = ap (λ (b : Bool). b || false) z

            same : (a : ℕ) → held_at n a i ≡ held_at m a i
            same a = elim (cases_eq a pid) [
              | inl here ↦ ap (λ (b : ℕ). held_at n b i) here ∙ (nothing i ∙ sym (ap (λ (b : ℕ). held_at m b i) here ∙ g))
              | inr apart ↦ other_held a i apart
            ]
        by_hold (Some h) g = by_run (h.reserved == 0) refl
          where
            by_cause : h.reserved ≡ 0 → (c : Bool) → is_loaded h.cause ≡ c → is_reserved n Shared i ≡ false
            by_cause alone false u = frees.alone i y (record { hold = h; there = g; alone = alone; called = u; left = free })
            by_cause alone true u =
                absurd (false≢true (sym e ∙ run_reserves reserved i (stands.tidy.shared pid i (held_of m pid i h) y.from (there_in i h g) (by_load h.cause ∙ u))))

            by_run : (c : Bool) → (h.reserved == 0) ≡ c → is_reserved n Shared i ≡ false
            by_run true u = by_cause (let z : h.reserved ≡ 0 = grind arith in z) (is_loaded h.cause) refl
            by_run false u =
                let k = held_of m pid i h in
                let run : is_in_run k ≡ true = ap not u in
                let inside = stands.tidy.runs.stretches.inside pid i k (record { there = there_in i h g; run = run }) in
                absurd (false≢true (sym e ∙ (ap (λ (r : ℕ). list_any (reserves r i) reserved) (sym zero_region)
                ∙ stretch_reserves (region_at pid i) h.first h.reserved i reserved (stands.tidy.run pid i k (there_in i h g) run) inside.0 inside.1)))

    pub shared_is : Used ≡ is_reserved n Shared i
    shared_is = go Used refl Was refl
      where
        go : (b : Bool) → Used ≡ b → (c : Bool) → Was ≡ c → Used ≡ is_reserved n Shared i
        go true e c f = e ∙ sym (stays_reserved e)
        go false e true f = e ∙ sym (run_left f e)
        go false e false f = e ∙ sym (none_left f e)

  taken : (g : Region) (i : ℕ) → IsIndex n g i → taken_by qs (used qs reserved) (number_of g) i ≡ is_taken n g i
  taken Shared i y = ap (λ (b : Bool). b || list_any (reserves 0 i) (used qs reserved)) now ∙ go (some_holds n i n.processes) refl
    where
      now : holds_index qs i ≡ some_holds n i n.processes
      now = index_held qs n i new (λ a. ap is_some (holds a i) ∙ some_in n a i)

      go : (b : Bool) → some_holds n i n.processes ≡ b → (b || list_any (reserves 0 i) (used qs reserved)) ≡ (b || is_reserved n Shared i)
      go true e = refl
      go false e = shared_is i (index_same m n Shared i w.processes y) e
  taken (Private a) i y =
      ap (λ (b : Bool). (if b then holds_index qs i else is_some (world_held qs a i)) || list_any (reserves a i) (used qs reserved)) (above a some)
      ∙ (ap (λ (b : Bool). b || list_any (reserves a i) (used qs reserved)) (ap is_some (holds a i) ∙ some_in n a i)
      ∙ elim (cases_eq a pid) [
        | inl same ↦
            ap (λ (b : Bool). is_some (held_at n a i) || b)
            (ap (λ (b : ℕ). list_any (reserves b i) (used qs reserved)) same
            ∙ (own_free ps names reserved pid x q there none stands.tidy i (let e = same in omega (arith, some, e))
            ∙ sym (frees.own a i z ∙ ap (λ (b : Bool). if b then false else is_reserved m (Private a) i) (eq-eqb a pid same))))
        | inr apart ↦
            ap (λ (b : Bool). is_some (held_at n a i) || b) (other_same ps names reserved pid x q there none stands.tidy a i apart some)
            ∙ (ap (λ (o : Option Held). is_some o || list_any (reserves a i) reserved) (other_held a i apart)
            ∙ (ap (λ (b : Bool). b || list_any (reserves a i) reserved) (sym (ap is_some (stands.held a i) ∙ some_in m a i))
            ∙ (ap (λ (b : Bool). (if b then holds_index ps i else is_some (world_held ps a i)) || list_any (reserves a i) reserved) (sym (above a some))
            ∙ (stands.taken (Private a) i z
            ∙ (ap (λ (o : Option Held). is_some o || is_reserved m (Private a) i) (sym (other_held a i apart))
            ∙ ap (λ (b : Bool). is_some (held_at n a i) || b) (sym (frees.own a i z ∙ ap (λ (b : Bool). if b then false else is_reserved m (Private a) i) (ne_eqb a pid apart))))))))
      ])
    where
      z : IsIndex m (Private a) i
      z = index_same m n (Private a) i w.processes y

      some : 0 < a
      some = (let b = z.region.0 in omega (arith, b))

      above : (a : ℕ) → 0 < a → (a == 0) ≡ false
      above a s = grind arith

  pub stands_behind : StandsIn behind qs (kept qs names) next (used qs reserved)
  stands_behind = record {
    ready = running_ready (stepped_to p t n) pid (running_of q) ready;
    segments = segments;
    made = stands.made ∙ sym d.made;
    processes = running_put (stepped_to p t n) ps pid x q there stands.processes;
    held = holds;
    taken = taken;
    tidy = tidy_behind ps names reserved pid x q there none stands.tidy;
  }

pub behind_all : (s : Shelf) (m : Maps) (t : Shelf) (n : Maps) (pid : ℕ) → IsShelf s → AreKept m → AreKept n → LetsGo m n pid (λ i. true) → Sheds s m t n → FreesAll m n pid → StandsBehind pid s m t n
behind_all s m t n pid shelf old new w d frees = record {
  ready = λ p r. ready_behind p s m t n pid shelf w d r;
  stands = λ p ps names next reserved x q stands there none dead. stands_behind p s m t n pid shelf old new w d frees ps names next reserved x q stands there none;
}

-- the marks of who lives
pub marked_behind : (old now : List Bool) (p : Parts) (pid : ℕ) (r : Running) → ((a : ℕ) → lives now a ≡ (if a == pid then false else lives old a)) → is_live r.state ≡ false
    → AreMarked old p → AreMarked now (with_running p pid r)
marked_behind old now p pid r e dead marked a = elim (cases_eq a pid) [
  | inl same ↦
      e a ∙ (ap (λ (b : Bool). if b then false else lives old a) (eq-eqb a pid same)
      ∙ (sym dead ∙ ap (λ (b : Bool). goes_on (if b then Some r else p.running a)) (sym (eq-eqb a pid same))))
  | inr apart ↦
      e a ∙ (ap (λ (b : Bool). if b then false else lives old a) (ne_eqb a pid apart)
      ∙ (marked a ∙ ap (λ (b : Bool). goes_on (if b then Some r else p.running a)) (sym (ne_eqb a pid apart))))
]
