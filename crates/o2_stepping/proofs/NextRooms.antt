-- What a step in a store needs is the room of the world's next step.
use Rattle.std.proofs.Common.{◌≡◌, ◌⊎◌, inl, inr, ℕ, ◌<◌, ◌≤◌, Bool, true, false, not, cond, ◌||◌, ◌&&◌, List, [], ◌∷◌, ◌++◌, length, Option, Some, None, ap, sym, ◌∙◌, refl, subst, arith, if◌then◌else◌}
use Rattle.std.specs.Prelude.{max, nat_lt, option_map}
use Rattle.std.proofs.lemmas.Bool.{cases_lt, false≢true}
use mathlib.Core.Path.{fun_ext}
use Rattle.o2_entries.specs.declared.Entry.{Entry}
use Rattle.o2_isa.specs.declared.cpu.Cpu.{Cpu}
use Rattle.o2_isa.specs.View.{Hold, Registers, View, bound_in, bound_registers}
use Rattle.o2_isa.specs.Presence.{SameSelectors, is_in}
use Rattle.o2_regions.specs.Maps.{Maps}
use Rattle.o2_store.specs.Loads.{live_load as store_live, swap_load as store_swap}
use Rattle.o2_store.specs.Shelf.{IsShelf, Shelf, entry, entry_or, rounded}
use Rattle.o2_store.proofs.Tables.{slot-past}
use Rattle.o2_swapmap.specs.Piles.{all_of}
use Rattle.o2_segbus.specs.Seen.{bytes_in as bytes_there, gone_in, gone_under, hold_in, key_of, present_in, seen_with, size_in}
use Rattle.o2_world.specs.declared.types.State.TheVariants.{Trapped}
use Rattle.o2_world.specs.Calls.{Before, Effect}
use Rattle.o2_world.specs.Effect.{effect, has_trap_flag, single_stepped}
use Rattle.o2_world.specs.Holders.{is_held, kept, process_at, with_process}
use Rattle.o2_world.specs.Known.{known_of}
use Rattle.o2_world.specs.Map.{Map, get}
use Rattle.o2_world.specs.Run.{names_after, next_dispatch, plainly, process_after, words_coming}
use Rattle.o2_world.specs.Views.{bytes_in, discarded_in, holds_in, is_discarded, segment_bytes, view_of, with_bytes}
use Rattle.o2_world.specs.World.{Process, Segment, Setting, Traps, World, is_live}
use Rattle.o2_world.proofs.MapLemmas.{get-filter, get-map}
use Rattle.o2_world.proofs.Quiet.{changed_plain}
use Rattle.o2_world.proofs.Sizes.{effect_sizes}
use Rattle.o2_gate.specs.Befores.{before_call}
use Rattle.o2_run.specs.Room.{Fits, behind, is_locked, kept_size, live_load, load_next, need, room, room_between, room_next, rounded as whole, seated, seated_in, size_of, swap_load, untrapped}
use Rattle.o2_run.specs.Stops.{IsSwapFull}
use Rattle.o2_run.proofs.Behind.{load_at_once, room_at_once}
use Rattle.o2_stands.specs.Parts.{Parts, away_in, away_under}
use Rattle.o2_stands.specs.Stands.{AreLawful, IsSetTo, Stands}
use Rattle.o2_stands.specs.Sums.{AreAtLeast, AreAtMost, part_of}
use Rattle.o2_stands.proofs.Rooms.{load_least, name_facts, room_at_least, room_at_most, swap_is}
use Rattle.o2_stands.proofs.Views.{name_bytes, name_mark, name_size, process_holds}
use Rattle.o2_stands.proofs.Worlds.{put_here}
use Rattle.o2_stepping.specs.Nexts.{IsNext, next_start}
use Rattle.o2_stepping.specs.Rooms.{all_names, needed_names, room_at, room_in, whole_names}
use Rattle.o2_stepping.specs.Shapes.{SameHolds}
use Rattle.o2_stepping.specs.Worlds.{away_of, before_in, bytes_with, parts_of, world_view}
use Rattle.o2_stepping.proofs.Named.{both_in, one_of, or_back, or_front}
use Rattle.o2_stepping.proofs.Wholes.{of_whole}
use Rattle.o2_stepping.proofs.Worlds.{same_map, shown}

-- The step without the exception 1 that may follow in it.

flagged : {X : Type 0} (f : Effect → X) (b : Before) (e : Effect) → f (record e { state = Trapped 1; lines = e.lines ++ Traps b.number 1 b.cpu.cs b.cpu.ip ∷ [] }) ≡ f e → f (single_stepped b e) ≡ f e
flagged f b e same = go (has_trap_flag b.cpu.flags && (is_live e.state && not e.waits))
  where
    go : (t : Bool) → f (cond t (record e { state = Trapped 1; lines = e.lines ++ Traps b.number 1 b.cpu.cs b.cpu.ip ∷ [] }) e) ≡ f e
    go true = same
    go false = refl

untrapped_cpu : (b : Before) → (effect b).cpu ≡ (untrapped b).cpu
unfolding effect
untrapped_cpu b = flagged (λ (e : Effect). e.cpu) b (untrapped b) refl

untrapped_quiet : (b : Before) → (effect b).changes ≡ [] → (untrapped b).changes ≡ []
unfolding effect
untrapped_quiet b quiet = sym (flagged (λ (e : Effect). e.changes) b (untrapped b) refl) ∙ quiet

pub untrapped_sizes : (b : Before) (n : ℕ) → length ((untrapped b).bytes n) ≡ length (b.view.bytes n)
unfolding effect
untrapped_sizes b n = sym (flagged (λ (e : Effect). length (e.bytes n)) b (untrapped b) refl) ∙ effect_sizes b n

-- Behind it a name has gone, or has as many bytes as before and its lock count.

pub record IsLess (v o : Option Segment) : Type 0 where
  pub none : o ≡ None → v ≡ None
  pub size : size_of v ≤ size_of o
  pub lock : is_locked v ≡ true → is_locked o ≡ true

pub less_none : (o : Option Segment) → IsLess None o
less_none o = record { none = λ e. refl; size = omega arith; lock = λ e. absurd (false≢true e) }

no_some : (s : Segment) → Some s ≡ None → ⊥
no_some s e = cc

pub less_written : (o : Option Segment) (bytes : List ℕ) → length bytes ≡ size_of o → IsLess (option_map (λ (s : Segment). record s { bytes = bytes }) o) o
less_written None bytes l = less_none None
less_written (Some s) bytes l = record { none = λ e. absurd (no_some s e); size = omega (arith, l); lock = λ e. e }

pub less_kept : (b : Bool) (v o : Option Segment) → IsLess v o → IsLess (if b then v else None) o
less_kept true v o x = x
less_kept false v o x = less_none o

pub bytes_long : (o : Option Segment) → length (segment_bytes o) ≡ size_of o
bytes_long None = refl
bytes_long (Some s) = refl

names_less : (ps : List Process) (names : Map Segment) (e : Effect) → ((n : ℕ) → length (e.bytes n) ≡ size_of (get names n)) → (n : ℕ)
    → IsLess (get (names_after ps names e) n) (get names n)
names_less ps names e sizes n = go (is_live e.state)
  where
    written : IsLess (get (with_bytes names e.bytes) n) (get names n)
    written =
        subst (λ (v : Option Segment). IsLess v (get names n)) (sym (get-map (λ (k : ℕ) (s : Segment). record s { bytes = e.bytes k }) names n))
        (less_written (get names n) (e.bytes n) (sizes n))

    go : (b : Bool) → IsLess (get (cond b (with_bytes names e.bytes) (kept ps (with_bytes names e.bytes))) n) (get names n)
    go true = written
    go false =
        subst (λ (v : Option Segment). IsLess v (get names n)) (sym (get-filter (is_held ps) (with_bytes names e.bytes) n))
        (less_kept (is_held ps n) (get (with_bytes names e.bytes) n) (get names n) written)

-- What a name takes against what its number takes.

-- a name that is needed or locked takes no more than a segment that is
pub takes_most : (needed was is lock named : Bool) (size other here : ℕ) → (needed ≡ true → named ≡ true) → was ≡ lock → (is ≡ true → was ≡ true) → size ≤ here → other ≤ here
    → (if needed || (was || is) then whole (max size other) else 0) ≤ (if lock || named then rounded here else 0)
takes_most needed was is lock named size other here f l g e o = go needed refl was refl is refl
  where
    there : (t : Bool) → t ≡ true → whole (max size other) ≤ (if t then rounded here else 0)
    there true q = omega (arith, e, o)
    there false q = absurd (false≢true q)

    go : (a : Bool) → needed ≡ a → (b : Bool) → was ≡ b → (d : Bool) → is ≡ d → (if a || (b || d) then whole (max size other) else 0) ≤ (if lock || named then rounded here else 0)
    go true p b q d r = there (lock || named) (or_back lock named (f p))
    go false p true q d r = there (lock || named) (or_front lock named (sym l ∙ q))
    go false p false q true r = absurd (false≢true (sym q ∙ g r))
    go false p false q false r = omega arith

-- and no less where all that is needed is, and nothing that counts was discarded
pub takes_least : (lock named needed was is : Bool) (size other here : ℕ) → (named ≡ true → needed ≡ true) → was ≡ lock → ((lock || named) ≡ true → size ≡ here)
    → (if lock || named then rounded here else 0) ≤ (if needed || (was || is) then whole (max size other) else 0)
takes_least lock named needed was is size other here f l e = go lock refl named refl
  where
    there : (t : Bool) → t ≡ true → size ≡ here → rounded here ≤ (if t then whole (max size other) else 0)
    there true q same = omega (arith, same)
    there false q same = absurd (false≢true q)

    go : (a : Bool) → lock ≡ a → (b : Bool) → named ≡ b → (if a || b then rounded here else 0) ≤ (if needed || (was || is) then whole (max size other) else 0)
    go true p b q = there (needed || (was || is)) (or_back needed (was || is) (or_front was is (l ∙ p))) (e (or_front lock named p))
    go false p true q = there (needed || (was || is)) (or_front needed (was || is) (f q)) (e (or_back lock named q))
    go false p false q = omega arith

pub no_room : (t : Bool) (n : ℕ) → n ≡ 0 → (if t then rounded n else 0) ≡ 0
no_room true n e = omega (arith, e)
no_room false n e = refl

-- the same segment registers hold the same
registers_same : (held : ℕ → Option Hold) (c d : Cpu) → SameSelectors c d → bound_registers held c ≡ bound_registers held d
registers_same held c d w =
    ap (λ (n : ℕ). record (bound_registers held c) { es = bound_in held n }) w.es
    ∙ (ap (λ (n : ℕ). record (bound_registers held c) { es = bound_in held d.es; cs = bound_in held n }) w.cs
    ∙ (ap (λ (n : ℕ). record (bound_registers held d) { ss = bound_in held n; ds = bound_in held c.ds }) w.ss
    ∙ ap (λ (n : ℕ). record (bound_registers held d) { ds = bound_in held n }) w.ds))

-- What is kept of a segment, and what is locked wasn't discarded.

pub kept_less : (o : Option Segment) → kept_size o ≤ size_of o
kept_less None = omega arith
kept_less (Some s) = go s.discarded
  where
    go : (b : Bool) → (if b then 0 else length s.bytes) ≤ length s.bytes
    go true = omega arith
    go false = omega arith

pub kept_is : (o : Option Segment) → is_discarded o ≡ false → kept_size o ≡ size_of o
kept_is None e = refl
kept_is (Some s) e = ap (λ (b : Bool). if b then 0 else length s.bytes) e

pub lock_whole : (s : Shelf) (k : ℕ) → IsShelf s → nat_lt 0 (entry s k).attr.lock ≡ true → (entry s k).attr.gone ≡ false
lock_whole s k h locked = go (entry s k).attr.gone refl
  where
    none : (n : ℕ) → n ≡ 0 → nat_lt 0 n ≡ true → ⊥
    none n e f = absurd (false≢true (sym (ap (nat_lt 0) e) ∙ f))

    go : (b : Bool) → (entry s k).attr.gone ≡ b → (entry s k).attr.gone ≡ false
    go false is = is
    go true is = elim (cases_lt k (length s.entries)) [
      | inl l ↦ absurd (none (entry s k).attr.lock ((h.each k l).gone is).kind.unlocked locked)
      | inr past ↦ ap (λ (o : Option Entry). (entry_or o).attr.gone) (slot-past s.entries k past)
    ]

-- The next step of a world.

module _ (p : Parts) (s : Setting) (w : World) (q : Process) (next : IsNext p s w q) where
  abbrev pid : ℕ
  pid = (next_dispatch s w).current

  abbrev b : Before
  b = next_start s w q

  abbrev e : Effect
  e = untrapped b

  abbrev after : Process
  after = process_after q e

  abbrev names : Map Segment
  names = names_after (with_process w.processes pid after) w.names e

  abbrev wanted : List ℕ
  wanted = need b names (Some after)

  -- behind a step that changes nothing but bytes
  behind_is : (effect b).changes ≡ [] → behind w (next_dispatch s w) q b ≡ plainly w (next_dispatch s w) q e
  behind_is quiet = changed_plain w (next_dispatch s w) q e (untrapped_quiet b quiet)

  room_is : (effect b).changes ≡ [] → room s w ≡ room_between w.names names wanted
  unfolding plainly
  room_is quiet =
      room_at_once s w next.wordless
      ∙ ap (room_next s w (next_dispatch s w)) next.chosen
      ∙ ap (λ (v : World). room_between w.names v.names (need b v.names (process_at v.processes pid))) (behind_is quiet)
      ∙ ap (λ (o : Option Process). room_between w.names names (need b names o)) (put_here w.processes pid q after next.chosen)

  less : (n : ℕ) → IsLess (get names n) (get w.names n)
  less n = names_less (with_process w.processes pid after) w.names e (λ k. untrapped_sizes b k ∙ bytes_long (get w.names k)) n

  -- The names that are needed.

  holds : holds_in q.held ≡ hold_in p.maps pid
  holds = fun_ext (process_holds p w.processes w.names w.next_name w.reserved next.lawful next.stands pid q next.chosen)

  abbrev seats : List ℕ
  seats = seated (bound_registers (hold_in p.maps pid) e.cpu)

  seated_behind : (n : ℕ) → is_in n (seated_in names (Some after)) ≡ true → is_in n seats ≡ true
  seated_behind n = go (is_live e.state) refl
    where
      live : Process
      live = record q { cpu = e.cpu; state = e.state }

      dead : Process
      dead = record q { cpu = e.cpu; state = e.state; held = [] }

      go : (t : Bool) → is_live e.state ≡ t → is_in n (seated_in names (Some (if t then live else dead))) ≡ true → is_in n seats ≡ true
      go true at h =
          ap (λ (held : ℕ → Option Hold). is_in n (seated (bound_registers held e.cpu))) (sym holds)
          ∙ ap (λ (t : Bool). is_in n (if t then seated (bound_registers (holds_in q.held) e.cpu) else [])) (sym at) ∙ h
      go false at h = absurd (false≢true (ap (λ (t : Bool). is_in n (if t then seated (view_of names dead).registers else [])) (sym at) ∙ h))

  all_wanted : (n : ℕ) → is_in n wanted ≡ true → is_in n (all_names b (bound_registers (hold_in p.maps pid) e.cpu)) ≡ true
  all_wanted n h = both_in n (needed_names b) seats ∙ by (one_of (is_in n (needed_names b)) (is_in n (seated_in names (Some after))) (sym (both_in n (needed_names b) (seated_in names (Some after))) ∙ h))
    where
      by : (is_in n (needed_names b) ≡ true) ⊎ (is_in n (seated_in names (Some after)) ≡ true) → (is_in n (needed_names b) || is_in n seats) ≡ true
      by (inl x) = or_front (is_in n (needed_names b)) (is_in n seats) x
      by (inr y) = or_back (is_in n (needed_names b)) (is_in n seats) (seated_behind n y)

  -- behind any step
  some_wanted : (v : Map Segment) (o : Option Process) (n : ℕ) → is_in n (needed_names b) ≡ true → is_in n (need b v o) ≡ true
  some_wanted v o n h = both_in n (needed_names b) (seated_in v o) ∙ or_front (is_in n (needed_names b)) (is_in n (seated_in v o)) h

  -- What they take.

  at_most : (list : List ℕ) → ((n : ℕ) → is_in n wanted ≡ true → is_in n list ≡ true) → AreAtMost p.shelf w.names names wanted (room_at p.shelf list)
  at_most list among = record { within = record { none = λ n. (less n).none }; each = each }
    where
      each : (n k : ℕ) → key_of p.shelf n ≡ Some k → part_of w.names names wanted n ≤ room_at p.shelf list k
      each n k key =
          (let f = name_facts p w.processes w.names w.next_name w.reserved next.lawful next.stands n k key in
          takes_most (is_in n wanted) (is_locked (get w.names n)) (is_locked (get names n)) (nat_lt 0 (entry p.shelf k).attr.lock) (is_in (entry p.shelf k).age list)
          (kept_size (get w.names n)) (size_of (get names n)) (entry p.shelf k).size
          (λ h. ap (λ (m : ℕ). is_in m list) f.2 ∙ among n h) f.1 (less n).lock
          (let size = f.0 in let kept = kept_less (get w.names n) in omega (arith, size, kept))
          (let size = f.0 in let behind = (less n).size in omega (arith, size, behind)))

  at_least : (v : Map Segment) (want list : List ℕ) → ((n : ℕ) → is_in n list ≡ true → is_in n want ≡ true) → ((n : ℕ) → is_in n list ≡ true → gone_in p.shelf n ≡ false)
      → AreAtLeast p.shelf w.names v want (room_at p.shelf list)
  at_least v want list among whole_list = record {
    none = λ k gone. no_room (nat_lt 0 (entry p.shelf k).attr.lock || is_in (entry p.shelf k).age list) (entry p.shelf k).size (ap (λ (o : Option Entry). (entry_or o).size) gone);
    each = each;
  }
    where
      each : (n k : ℕ) → key_of p.shelf n ≡ Some k → room_at p.shelf list k ≤ part_of w.names v want n
      each n k key =
          (let f = name_facts p w.processes w.names w.next_name w.reserved next.lawful next.stands n k key in
          let marked : gone_in p.shelf n ≡ (entry p.shelf k).attr.gone = ap (gone_under p.shelf) key in
          let counts : (nat_lt 0 (entry p.shelf k).attr.lock || is_in (entry p.shelf k).age list) ≡ true → (entry p.shelf k).attr.gone ≡ false = λ e.
          elim (one_of (nat_lt 0 (entry p.shelf k).attr.lock) (is_in (entry p.shelf k).age list) e) [
            | inl l ↦ lock_whole p.shelf k next.lawful.shelf l
            | inr h ↦ sym marked ∙ (ap (gone_in p.shelf) (sym f.2) ∙ whole_list (entry p.shelf k).age h)
          ] in
          takes_least (nat_lt 0 (entry p.shelf k).attr.lock) (is_in (entry p.shelf k).age list) (is_in n want) (is_locked (get w.names n)) (is_locked (get v n))
          (kept_size (get w.names n)) (size_of (get v n)) (entry p.shelf k).size
          (λ h. among n (ap (λ (m : ℕ). is_in m list) (sym f.2) ∙ h)) f.1
          (λ e. kept_is (get w.names n) (name_mark p w.processes w.names w.next_name w.reserved next.lawful next.stands n ∙ (marked ∙ counts e)) ∙ f.0))

  names_as : (m : Maps) (c : Cpu) → SameHolds p.maps m → c ≡ (effect b).cpu → all_names b (bound_registers (hold_in m pid) c) ≡ all_names b (bound_registers (hold_in p.maps pid) e.cpu)
  names_as m c same is =
      ap (λ (held : ℕ → Option Hold). all_names b (bound_registers held c)) (same_map p.maps m pid same)
      ∙ ap (λ (d : Cpu). all_names b (bound_registers (hold_in p.maps pid) d)) (is ∙ untrapped_cpu b)

  pub fits : (m : Maps) (c : Cpu) → SameHolds p.maps m → c ≡ (effect b).cpu → (effect b).changes ≡ []
      → room_in p.shelf (all_names b (bound_registers (hold_in m pid) c)) ≤ p.shelf.places.size → Fits true s w
  fits m c same is quiet fit =
      let list : List ℕ = all_names b (bound_registers (hold_in p.maps pid) e.cpu) in
      let most = room_at_most p w.processes w.names w.next_name w.reserved next.lawful next.stands names wanted (room_at p.shelf list) (at_most list all_wanted) in
      let rooms = ap (room_in p.shelf) (names_as m c same is) in
      let memory = next.set.memory in
      λ swaps. (let r = room_is quiet in omega (arith, r, most, rooms, fit, memory))

  pub fits_in_part : (m : Maps) (c : Cpu) → SameHolds p.maps m → c ≡ b.cpu → SameSelectors (effect b).cpu b.cpu → (effect b).changes ≡ []
      → room_in p.shelf (all_names b (bound_registers (hold_in m pid) c)) ≤ p.shelf.places.size → Fits true s w
  fits_in_part m c same is stay quiet fit =
      let held : ℕ → Option Hold = hold_in m pid in
      let seats = ap (λ (d : Cpu). bound_registers held d) is ∙ sym (registers_same held (effect b).cpu b.cpu stay) in
      let rooms = ap (λ (r : Registers). room_in p.shelf (all_names b r)) seats in
      fits m (effect b).cpu same refl quiet (omega (arith, rooms, fit))

  -- also where it changes more than bytes
  pub lacks : p.shelf.places.size < room_in p.shelf (whole_names p.shelf (needed_names b)) → s.memory < room s w
  lacks more =
      let list : List ℕ = whole_names p.shelf (needed_names b) in
      let v : World = behind w (next_dispatch s w) q b in
      let want : List ℕ = need b v.names (process_at v.processes pid) in
      let least =
      room_at_least p w.processes w.names w.next_name w.reserved next.lawful next.stands v.names want (room_at p.shelf list)
      (at_least v.names want list (λ n h. some_wanted v.names (process_at v.processes pid) n (of_whole p.shelf n (needed_names b) h).0) (λ n h. (of_whole p.shelf n (needed_names b) h).1)) in
      let memory = next.set.memory in
      let r : room s w ≡ room_between w.names v.names want = room_at_once s w next.wordless ∙ ap (room_next s w (next_dispatch s w)) next.chosen in
      omega (arith, r, least, more, memory)

  -- What it starts from.

  abbrev away : ℕ → List ℕ
  away = away_of p.shelf p.maps p.images p.device p.block

  away_same : (n : ℕ) → away_in p n ≡ away n
  unfolding away_in
  away_same n = go (key_of p.shelf n)
    where
      go : (o : Option ℕ) → away_under p o ≡ away_under (parts_of p.shelf p.maps p.images p.device p.block) o
      go None = refl
      go (Some k) = refl

  bytes_same : (n : ℕ) → bytes_in w.names n ≡ bytes_with away p.shelf n
  bytes_same n =
      name_bytes p w.processes w.names w.next_name w.reserved next.lawful next.stands n
      ∙ ap (λ (l : List ℕ). if present_in p.shelf n then bytes_there p.shelf n else l) (away_same n)

  view_is : view_of w.names q ≡ world_view away p.shelf p.maps pid q.cpu
  unfolding seen_with
  view_is =
      ap (λ (held : ℕ → Option Hold). shown q.cpu held (λ n. length (bytes_in w.names n)) (discarded_in w.names) (bytes_in w.names)) holds
      ∙ (ap (λ (size : ℕ → ℕ). shown q.cpu (hold_in p.maps pid) size (discarded_in w.names) (bytes_in w.names))
      (fun_ext (name_size p w.processes w.names w.next_name w.reserved next.lawful next.stands))
      ∙ (ap (λ (marks : ℕ → Bool). shown q.cpu (hold_in p.maps pid) (size_in p.shelf) marks (bytes_in w.names))
      (fun_ext (name_mark p w.processes w.names w.next_name w.reserved next.lawful next.stands))
      ∙ ap (λ (bytes : ℕ → List ℕ). shown q.cpu (hold_in p.maps pid) (size_in p.shelf) (gone_in p.shelf) bytes) (fun_ext bytes_same)))

  pub starts : before_in away p.shelf p.maps pid q.cpu w.input (known_of s w) ≡ b
  starts = ap (λ (v : View). before_call v pid q.cpu w.input (known_of s w)) (sym view_is)

-- A store whose swap is full.

module _ (p : Parts) (s : Setting) (w : World) (lawful : AreLawful p.shelf p.maps) (set : IsSetTo p s) (stands : Stands p w) (wordless : words_coming w ≡ 0) where
  pub live_least : store_live p.shelf ≤ live_load s w
  live_least = subst (λ (n : ℕ). store_live p.shelf ≤ n) (sym (load_at_once s w wordless)) (go (process_at w.processes (next_dispatch s w).current))
    where
      go : (o : Option Process) → store_live p.shelf ≤ load_next s w (next_dispatch s w) o
      go None = load_least p w.processes w.names w.next_name w.reserved lawful stands w.names
      go (Some q) = load_least p w.processes w.names w.next_name w.reserved lawful stands (behind w (next_dispatch s w) q (next_start s w q)).names

  pub full : (all_of p.shelf.swap < store_swap p.shelf) × (p.shelf.places.size < store_live p.shelf) → IsSwapFull p.device s w
  full x =
      let blocks = set.blocks in
      let memory = set.memory in
      let load : swap_load w ≡ store_swap p.shelf = swap_is p w.processes w.names w.next_name w.reserved lawful stands in
      let live = live_least in
      let more = x.0 in
      let all = x.1 in
      record { swap = omega (arith, blocks, load, more); memory = omega (arith, memory, live, all) }
