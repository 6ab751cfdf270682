-- Where a space stands for a world, what a step in the store left stands for that world with the bytes of the effect.
use Rattle.std.proofs.Common.{◌≡◌, ℕ, List, length, get_or, Option, Some, None, ap, sym, ◌∙◌, refl, subst, arith, option_map}
use Rattle.std.specs.Prelude.{Result, Ok, Err, min}
use Rattle.std.proofs.lemmas.List.FromFn.{get_or-map-range_with_len, length-map-range_with_len}
use Rattle.o2_entries.specs.declared.Attr.{Attr}
use Rattle.o2_isa.specs.declared.cpu.Cpu.{Cpu}
use Rattle.o2_regions.specs.Maps.{Maps}
use Rattle.o2_segbus.specs.Bus.{AreInside}
use Rattle.o2_segbus.specs.Seen.{key_of}
use Rattle.o2_store.specs.Pictures.{picture}
use Rattle.o2_store.specs.Shelf.{Shelf, byte_at, entry}
use Rattle.o2_run.specs.declared.fault.Fault.{Fault}
use Rattle.o2_run.specs.declared.fault.Fault.TheVariants as fault
use Rattle.o2_run.specs.declared.steps.Stop.TheVariants as stop
use Rattle.o2_world.specs.Map.{get}
use Rattle.o2_world.specs.World.{Segment, Setting, World}
use Rattle.o2_world.specs.Views.{bytes_in, segment_bytes, with_bytes}
use Rattle.o2_world.specs.Calls.{Before, Effect}
use Rattle.o2_world.specs.Effect.{effect}
use Rattle.o2_world.proofs.MapLemmas.{get-map}
use Rattle.o2_stands.specs.Parts.{Parts}
use Rattle.o2_stands.specs.Stands.{AreLawful, IsNamed, IsReady, IsSegment, IsSetTo, Stands, StandsIn}
use Rattle.o2_stands.proofs.Moves.{SameFor, same_keys, sizes_kept, stands_as, tidy_written}
use Rattle.o2_stepping.specs.Ran.{IsDone, IsStill}
use Rattle.o2_stepping.specs.Shapes.{SameShape}
use Rattle.o2_stepping.specs.Taken.{Takes, TakesFault}
use Rattle.o2_stepping.specs.Worlds.{away_of, bytes_with}
use Rattle.o2_stepping.specs.declared.one_step.Ran.{Ran}
use Rattle.o2_stepping.specs.declared.one_step.Stepped.{Stepped}
use Rattle.o2_stepping.specs.declared.one_step.Stepped.TheVariants as stepped
use Rattle.o2_stepping.proofs.Worlds.{all_bytes, all_under, table}
use Rattle.o2_space.specs.Acts.{ActsFault, Stays}
use Rattle.o2_space.specs.Between.{IsBetween, Steps}
use Rattle.o2_space.proofs.Sights.{bytes_are}

-- the parts with another store, other maps and another device
abbrev pub after : Parts → Shelf → Maps → ℕ → (ℕ → List ℕ) → Parts
after p t n device block = record p { shelf = t; maps = n; device = device; block = block }

module _ (p : Parts) (t : Shelf) (n : Maps) (device : ℕ) (block : ℕ → List ℕ) (shape : SameShape p.shelf p.maps t n) where
  abbrev q : Parts
  q = after p t n device block

  same_for : SameFor p q
  same_for = record {
    keys = same_keys p.shelf t shape.tables;
    sizes = λ k. (shape.tables.same k).size;
    attrs = λ k. (shape.tables.same k).attr;
    made = shape.tables.made;
    holds = shape.holds.held;
    rights = shape.holds.rights;
    processes = shape.holds.processes;
    reserved = shape.holds.reserved;
    running = λ a. refl;
  }

  pub set_behind : (s : Setting) → device ≡ p.device → IsSetTo p s → IsSetTo q s
  set_behind s same set = record {
    memory = shape.tables.size ∙ set.memory;
    segments = shape.tables.count ∙ set.segments;
    blocks = shape.swap ∙ (set.blocks ∙ ap (λ (d : ℕ). min s.swap d) (sym same));
  }

  module _ (inside : AreInside t) (ready : IsReady q) (bytes : ℕ → List ℕ) (same : (name : ℕ) → bytes_with (away_of t n p.images device block) t name ≡ bytes name) where
    -- the bytes of a number's segment
    each_is : (name k : ℕ) → key_of t name ≡ Some k → bytes name ≡ table (byte_at t (picture p.images) block k) (entry t k).size
    each_is name k e = sym (same name) ∙ (all_bytes t n p.images device block inside name ∙ ap (all_under t (picture p.images) block) e)

    segment_is : (name k : ℕ) (x y : Segment) → key_of t name ≡ Some k → IsSegment p k x → y.bytes ≡ bytes name → y.clean ≡ x.clean → y.flags ≡ x.flags → y.lock ≡ x.lock → y.shared ≡ x.shared
        → y.discarded ≡ x.discarded → IsSegment q k y
    segment_is name k x y e is put clean flags lock shared discarded =
        let b : y.bytes ≡ table (byte_at t (picture p.images) block k) (entry t k).size = put ∙ each_is name k e in
        let f = byte_at t (picture p.images) block k in
        let size = (entry t k).size in
        let attr = (shape.tables.same k).attr in
        record {
          size = ap length b ∙ length-map-range_with_len f 0 size;
          bytes = λ j l. ap (λ (bs : List ℕ). get_or bs j 0) b ∙ get_or-map-range_with_len f 0 size j j 0 l (omega arith);
          clean = clean ∙ (is.clean ∙ ap (λ (a : Attr). a.clean) (sym attr));
          flags = flags ∙ (is.flags ∙ ap (λ (a : Attr). a.flags) (sym attr));
          lock = lock ∙ (is.lock ∙ ap (λ (a : Attr). a.lock) (sym attr));
          shared = shared ∙ (is.shared ∙ ap (λ (a : Attr). a.shared) (sym attr));
          discarded = discarded ∙ (is.discarded ∙ ap (λ (a : Attr). a.gone) (sym attr));
        }

    written : (name : ℕ) (o : Option ℕ) (v : Option Segment) → key_of t name ≡ o → IsNamed p o v → IsNamed q o (option_map (λ (x : Segment). record x { bytes = bytes name }) v)
    written name None None e is = is
    written name (Some k) None e is = absurd is
    written name None (Some x) e is = absurd is
    written name (Some k) (Some x) e is = segment_is name k x (record x { bytes = bytes name }) e is refl refl refl refl refl refl

    unwritten : (name : ℕ) (o : Option ℕ) (v : Option Segment) → key_of t name ≡ o → bytes name ≡ segment_bytes v → IsNamed p o v → IsNamed q o v
    unwritten name None None e b is = is
    unwritten name (Some k) None e b is = absurd is
    unwritten name None (Some x) e b is = absurd is
    unwritten name (Some k) (Some x) e b is = segment_is name k x x e is (sym b) refl refl refl refl refl

    module _ (w : World) (stands : Stands p w) where
      key_is : (name : ℕ) → IsNamed p (key_of t name) (get w.names name)
      key_is name = subst (λ (o : Option ℕ). IsNamed p o (get w.names name)) (sym (same_keys p.shelf t shape.tables name)) (stands.segments name)

      all_written : (name : ℕ) → IsNamed q (key_of t name) (get (with_bytes w.names bytes) name)
      all_written name =
          subst (λ (v : Option Segment). IsNamed q (key_of t name) v) (sym (get-map (λ (a : ℕ) (x : Segment). record x { bytes = bytes a }) w.names name))
          (written name (key_of t name) (get w.names name) refl (key_is name))

      pub stands_written : StandsIn q w.processes (with_bytes w.names bytes) w.next_name w.reserved
      stands_written =
          stands_as p q w.processes w.names (with_bytes w.names bytes) w.next_name w.reserved same_for ready stands all_written
          (tidy_written w.processes w.names w.reserved bytes (sizes_kept p q w.names bytes same_for stands.segments all_written) stands.tidy)

      pub stands_unwritten : ((name : ℕ) → bytes name ≡ bytes_in w.names name) → Stands q w
      stands_unwritten b =
          stands_as p q w.processes w.names w.names w.next_name w.reserved same_for ready stands
          (λ name. unwritten name (key_of t name) (get w.names name) refl (b name) (key_is name))
          stands.tidy

  -- By the answer.
  module _ (lawful : AreLawful p.shelf p.maps) (inside : AreInside t) (ready : IsReady q) (w : World) (stands : Stands p w) where
    abbrev old : ℕ → List ℕ
    old = bytes_with (away_of p.shelf p.maps p.images p.device p.block) p.shelf

    abbrev new : ℕ → List ℕ
    new = bytes_with (away_of t n p.images device block) t

    stays : ((name : ℕ) → new name ≡ old name) → Stands q w
    stays same = stands_unwritten inside ready new (λ name. refl) w stands (λ name. same name ∙ bytes_are p w lawful stands name)

    done : (e : Effect) (ran : Ran) (cpu : Cpu) (j c d r u : Option (List ℕ)) → IsDone e ran cpu new j c d r u → IsBetween w e ran cpu q j c d r u
    done e ran cpu j c d r u x = record {
      state = x.state;
      puts = x.puts;
      changes = x.changes;
      cpu = x.cpu;
      stands = stands_written inside ready e.bytes x.bytes w stands;
      input = x.input;
      to_console = x.to_console;
      to_report = x.to_report;
    }

    still : (cpu before : Cpu) (i j c d r u : Option (List ℕ)) → IsStill cpu before old new i j c d r u → Stays w q i j c d r u
    still cpu before i j c d r u x = record { stands = stays x.bytes; input = x.input; to_console = x.to_console; to_report = x.to_report }

    faults : (b : Before) (cpu : Cpu) (i j c d r u : Option (List ℕ)) (f : Fault) → TakesFault b (effect b) cpu old new i j c d r u f → ActsFault b w q i j c d r u f
    faults b cpu i j c d r u fault.Sink x = record { stands = stays x.bytes; input = x.input; to_console = x.to_console; to_report = x.to_report; in_order = x.in_order; selectors = x.selectors }
    faults b cpu i j c d r u (fault.Stopped stop.Input) x = record { cause = x.cause; still = still cpu b.cpu i j c d r u x.still }
    faults b cpu i j c d r u (fault.Stopped stop.NoRoom) x = still cpu b.cpu i j c d r u x
    faults b cpu i j c d r u (fault.Stopped stop.SwapFull) x = still cpu b.cpu i j c d r u x
    faults b cpu i j c d r u (fault.Stopped stop.SwapFault) x = still cpu b.cpu i j c d r u x

    pub steps_by : (b : Before) (cpu : Cpu) (i j c d r u : Option (List ℕ)) (result : Result Stepped Fault) → Takes b (effect b) cpu old new i j c d r u result → Steps b w cpu q i j c d r u result
    steps_by b cpu i j c d r u (Ok (stepped.Ran ran)) x = done (effect b) ran cpu j c d r u x
    steps_by b cpu i j c d r u (Ok (stepped.Asked a next)) x = record { effect = x.effect; called = x.called; cpu = x.still.cpu; still = still cpu b.cpu i j c d r u x.still }
    steps_by b cpu i j c d r u (Err f) x = faults b cpu i j c d r u f x
