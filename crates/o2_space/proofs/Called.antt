-- A call on segments of a process, from what it changes and what is then written, in the world that the machine stands for.
use Rattle.std.proofs.Common.{◌≡◌, ◌⊎◌, inl, inr, ℕ, ◌+◌, ◌/◌, ◌<◌, ◌==◌, ◌&&◌, true, false, cond, Bool, List, [], ◌∷◌, Option, Some, IsSome, option_map, ap, sym, ◌∙◌, refl, subst, arith}
use mathlib.Core.Path.{fun_ext}
use Rattle.o2_conf.specs.Dispatch.{Dispatch}
use Rattle.o2_store.proofs.Tables.{within_at}
use Rattle.o2_entries.specs.Tables.{slot_at}
use Rattle.o2_isa.specs.declared.cpu.Cpu.{Cpu}
use Rattle.o2_isa.specs.Pointers.{is_ready}
use Rattle.o2_isa.specs.View.{Hold, bound_in, is_writable}
use Rattle.o2_regions.specs.declared.held.Held.{Held}
use Rattle.o2_regions.specs.Maps.{Maps}
use Rattle.o2_store.specs.Shelf.{IsShelf, Shelf, entry}
use Rattle.o2_segbus.specs.Bus.{AreInside}
use Rattle.o2_segbus.specs.Frames.{KeepsMaps, KeepsStore}
use Rattle.o2_segbus.specs.Seen.{bytes_in as bytes_there, hold_in, hold_of, key_of, present_in, seen}
use Rattle.o2_segbus.proofs.Holds.{bound_is, under_at}
use Rattle.o2_shared.specs.Shares.{StillHolds}
use Rattle.o2_ends.proofs.Letting.{live_id}
use Rattle.o2_world.specs.declared.types.State.TheVariants.{Live}
use Rattle.o2_world.specs.Changes.{with_all}
use Rattle.o2_world.specs.Holders.{process_at}
use Rattle.o2_world.specs.Known.{known_of}
use Rattle.o2_world.specs.Map.{get}
use Rattle.o2_world.specs.Run.{before, changed}
use Rattle.o2_world.specs.Rulings.{Ruling}
use Rattle.o2_world.specs.Views.{bytes_in, holds_in}
use Rattle.o2_world.specs.World.{Process, Setting, World}
use Rattle.o2_gate.specs.declared.arguments.Arguments.{Arguments}
use Rattle.o2_gate.specs.Given.{word_in}
use Rattle.o2_gate.specs.Targets.{looked_in, slots_of, target_in, targets}
use Rattle.o2_world.specs.declared.types.Slot.{Slot}
use Rattle.o2_world.specs.declared.types.Slot.TheVariants.{Word, Long, Reads, Writes, Text, ToWord, ToLong, ToWords, Heap}
use Rattle.o2_world.specs.Slots.{Pointer, targets_in, words_in}
use Rattle.o2_space.proofs.ForValues.{AreForValues, for_values}
use Rattle.o2_gate.specs.Pointed.{are_ready, pointer}
use Rattle.o2_gate.specs.Replies.{bytes_of}
use Rattle.o2_calls.specs.Acts.{ruling_of}
use Rattle.o2_calls.specs.Seen.{AreAimed, Gives, IsAimedAt, written_in}
use Rattle.o2_calls.specs.Stops.{LeavesHolds}
use Rattle.o2_calls.specs.Tellings.{replied_by}
use Rattle.o2_calls.proofs.Answered.{call_seen}
use Rattle.o2_stands.specs.Moves.{moved, stepped_to, with_running}
use Rattle.o2_stands.specs.Parts.{Parts, away_under}
use Rattle.o2_stands.specs.Stands.{AreLawful, IsReady, Matches, Stands}
use Rattle.o2_stands.proofs.Views.{bytes_by, process_holds}
use Rattle.o2_stepping.specs.Worlds.{bytes_with}
use Rattle.o2_space.proofs.Aimed.{LeavesAll, held_by_ready, hold_same, leaves_aimed, under_of}

and_left : (a b : Bool) → (a && b) ≡ true → a ≡ true
and_left true b e = refl
and_left false b e = cc

and_right : (a b : Bool) → (a && b) ≡ true → b ≡ true
and_right true b e = e
and_right false b e = cc

-- what a number's segment has is younger than what is made next
young : (s : Shelf) → IsShelf s → (k : ℕ) → IsSome (slot_at s.entries k) → (entry s k).age < s.made
young s shelf k some = (shelf.each k (within_at s.entries k some)).young some

-- The pointer goes on to name what it named, which isn't new.

module _ (p : Parts) (w : World) (x : Process) (pid : ℕ) (lawful : AreLawful p.shelf p.maps) (stands : Stands p w) (at : process_at w.processes pid ≡ Some x) (c : Cpu) (n : Maps) where
  holds_are : holds_in x.held ≡ hold_in p.maps pid
  holds_are = fun_ext (process_holds p w.processes w.names w.next_name w.reserved lawful stands pid x at)

  aimed_at : (t : Pointer) → (t.count == 0) ≡ false → StillHolds p.maps n → is_ready is_writable (seen p.shelf p.maps pid c) t.selector t.offset t.count ≡ true
      → IsAimedAt (holds_in x.held) (hold_in n pid) w.next_name t
  aimed_at t some holds ready =
      let found = held_by_ready is_writable p.shelf p.maps pid c t.selector t.offset t.count some ready in
      let h : Held = found.0 in
      let i : ℕ = t.selector / 8 in
      let here = under_at p.maps pid t.selector h found.1 in
      record {
        hold = hold_of p.maps pid i h;
        was =
            ap (λ (held : ℕ → Option Hold). bound_in held t.selector) holds_are
            ∙ (bound_is p.maps pid t.selector ∙ ap (option_map (hold_of p.maps pid i)) found.1);
        still =
            bound_is n pid t.selector
            ∙ (under_of p.maps n pid t.selector h holds found.1 ∙ ap (λ (z : Hold). Some z) (hold_same p.maps n pid i h holds here));
        older =
            (let live = live_id p.shelf h.id (stands.ready.held.live pid i h here) in
            let age = ap (λ z. z.age) live.1 in
            let below = young p.shelf lawful.shelf h.id.key live.0 in
            let made = stands.made in
            omega (arith, age, below, made));
      }

  abbrev Aimed : List Pointer → Type 0
  Aimed ps = AreAimed (holds_in x.held) (hold_in n pid) w.next_name ps

  -- the pointers for a value are among those that are ready
  aimed_slots : (ss : List Slot) (looked : ℕ) (a : ℕ → ℕ) → AreForValues ss → StillHolds p.maps n → are_ready (seen p.shelf p.maps pid c) (target_in ss looked a) ≡ true → Aimed (targets_in ss a)
  aimed_slots [] looked a plain holds ready = tt
  aimed_slots (Word ∷ ss) looked a plain holds ready = aimed_slots ss looked a plain holds ready
  aimed_slots (Long ∷ ss) looked a plain holds ready = absurd plain
  aimed_slots (Reads ∷ ss) looked a plain holds ready = absurd plain
  aimed_slots (Writes ∷ ss) looked a plain holds ready = absurd plain
  aimed_slots (Text ∷ ss) looked a plain holds ready = aimed_slots ss looked a plain holds (and_right _ _ ready)
  aimed_slots (ToWord ∷ ss) looked a plain holds ready =
      (aimed_at (pointer true (a (words_in ss + 1)) (a (words_in ss)) 2) refl holds (and_left _ _ ready), aimed_slots ss looked a plain holds (and_right _ _ ready))
  aimed_slots (ToLong ∷ ss) looked a plain holds ready =
      (aimed_at (pointer true (a (words_in ss + 1)) (a (words_in ss)) 4) refl holds (and_left _ _ ready), aimed_slots ss looked a plain holds (and_right _ _ ready))
  aimed_slots (ToWords count ∷ ss) looked a plain holds ready = absurd plain
  aimed_slots (Heap ∷ ss) looked a plain holds ready = absurd plain

  no_slots : (ss : List Slot) (looked : ℕ) (a : ℕ → ℕ) → AreForValues ss → target_in ss looked a ≡ [] → Aimed (targets_in ss a)
  no_slots [] looked a plain none = tt
  no_slots (Word ∷ ss) looked a plain none = no_slots ss looked a plain none
  no_slots (Long ∷ ss) looked a plain none = absurd plain
  no_slots (Reads ∷ ss) looked a plain none = absurd plain
  no_slots (Writes ∷ ss) looked a plain none = absurd plain
  no_slots (Text ∷ ss) looked a plain none = absurd (cc)
  no_slots (ToWord ∷ ss) looked a plain none = absurd (cc)
  no_slots (ToLong ∷ ss) looked a plain none = absurd (cc)
  no_slots (ToWords count ∷ ss) looked a plain none = absurd plain
  no_slots (Heap ∷ ss) looked a plain none = absurd plain

  written_at : (a : Arguments) (t : Shelf) → LeavesHolds a.request p.maps n → are_ready (seen p.shelf p.maps pid c) (targets a) ≡ true → Aimed (written_in a)
  written_at a t holds ready = go (leaves_aimed a p.maps n p.shelf t)
    where
      go : (targets a ≡ []) ⊎ LeavesAll a.request p.maps n p.shelf t → Aimed (written_in a)
      go (inl none) = no_slots (slots_of a) (looked_in a.request) (word_in a.words) (for_values a) none
      go (inr all) = aimed_slots (slots_of a) (looked_in a.request) (word_in a.words) (for_values a) (all.holds holds) ready

-- What a machine that matches a world has in memory are the bytes of that world.

module _ (q : Parts) (u : World) (lawful : AreLawful q.shelf q.maps) (matches : Matches q u) where
  matched_bytes : (n : ℕ) → bytes_with (bytes_in u.names) q.shelf n ≡ bytes_in u.names n
  matched_bytes n = go (present_in q.shelf n) (bytes_by q lawful (key_of q.shelf n) (get u.names n) (matches.segments n))
    where
      go : (b : Bool) → bytes_in u.names n ≡ cond b (bytes_there q.shelf n) (away_under q (key_of q.shelf n)) → cond b (bytes_there q.shelf n) (bytes_in u.names n) ≡ bytes_in u.names n
      go true e = sym e
      go false e = refl

-- The call.

module _ (p : Parts) (s : Setting) (w : World) (x : Process) (pid : ℕ) (a : Arguments) (next : ℕ) (lawful : AreLawful p.shelf p.maps) (stands : Stands p w) (at : process_at w.processes pid ≡ Some x)
    (c : Cpu) (ready : are_ready (seen p.shelf p.maps pid c) (targets a) ≡ true)
    (t : Shelf) (n : Maps) (block : ℕ → List ℕ) (now : AreLawful t n) (holds : LeavesHolds a.request p.maps n) where
  abbrev k : Ruling
  k = ruling_of a.request (known_of s w) pid x.cpu

  abbrev u : World
  u = with_all w k.changes

  abbrev q : Parts
  q = moved p t n block

  pub called : (error value : ℕ) → error ≡ k.error → value ≡ k.value → Matches q u → (t2 : Shelf) (n2 : Maps)
      → ((away : ℕ → List ℕ) (m : ℕ) → bytes_with away t2 m ≡ bytes_of a error value (hold_in n pid) (bytes_with away t) m)
      → KeepsStore t t2 → KeepsMaps n n2 → AreInside t2 → IsReady (stepped_to q t2 n2) → (d : Dispatch) → d.current ≡ pid
      → Matches (with_running (stepped_to q t2 n2) pid (record { cpu = (replied_by a (before s w pid x) next).cpu; state = Live })) (changed w d x (replied_by a (before s w pid x) next))
  called error value errors values matches t2 n2 bytes store maps inside good d current =
      subst (λ (i : ℕ). Matches (with_running (stepped_to q t2 n2) i (record { cpu = (replied_by a (before s w i x) next).cpu; state = Live })) (changed w d x (replied_by a (before s w i x) next))) current
      (call_seen s w d x a next (ap (process_at w.processes) current ∙ at) q
      (subst (λ (i : ℕ). Matches q (with_all w (ruling_of a.request (known_of s w) i x.cpu).changes)) (sym current) matches) t2 n2
      (subst (λ (i : ℕ). Gives w (with_all w (ruling_of a.request (known_of s w) i x.cpu).changes) i x a (ruling_of a.request (known_of s w) i x.cpu) q t2) (sym current) gives)
      store maps inside good)
    where
      gives : Gives w u pid x a k q t2
      gives = record {
        aimed = λ none. written_at p w x pid lawful stands at c n a t holds ready;
        bytes = λ m live.
            bytes (bytes_in u.names) m
            ∙ (ap (λ (f : ℕ → List ℕ). bytes_of a error value (hold_in n pid) f m) (fun_ext (matched_bytes q u now matches))
            ∙ (ap (λ (e : ℕ). bytes_of a e value (hold_in n pid) (bytes_in u.names) m) errors
            ∙ ap (λ (v : ℕ). bytes_of a k.error v (hold_in n pid) (bytes_in u.names) m) values));
      }
