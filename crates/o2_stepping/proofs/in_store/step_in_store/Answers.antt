use Rattle.std.proofs.Common.{◌≡◌, ◌⊎◌, ℕ, ◌+◌, ◌≤◌, ◌<◌, List, length, None, ap, sym, ◌∙◌, refl, subst, arith}
use Rattle.std.specs.Prelude.{Ok, Err, IsTrue, true}
use Rattle.std.proofs.lemmas.Bool.{false≢true}
use Rattle.o2_isa.specs.Presence.{is_in}
use Rattle.o2_isa.specs.View.{Registers, bound_registers}
use Rattle.o2_place.specs.declared.seg_id.SegId.{SegId}
use Rattle.o2_segbus.specs.Bus.{held_under}
use Rattle.o2_segbus.specs.Seen.{hold_in, present_in, seen}
use Rattle.o2_service.proofs.Among.{all_live_same, only_refl, only_trans}
use Rattle.o2_service.specs.Needs.{AreLive, AreWhole, OnlyNeededComes, all_needed, size_in}
use Rattle.o2_outer.specs.Texts.{Rose}
use Rattle.o2_outer.specs.Inputs.{left_as}
use Rattle.o2_store.specs.Loads.{live_load, swap_load}
use Rattle.o2_swapmap.specs.Piles.{all_of}
use Rattle.o2_gate.specs.Pointed.{ArePresent}
use Rattle.o2_world.specs.Known.{Known}
use Rattle.o2_world.specs.Calls.{Before}
use Rattle.o2_world.specs.Effect.{effect}
use Rattle.o2_run.specs.Room.{seated, touched}
use Rattle.o2_stepping.specs.Rooms.{AreNeeded, IsWanted, ages_of, all_names, left_in, needed_names, pair_of, room_in, seated_in, whole_names}
use Rattle.o2_stepping.specs.Worlds.{away_of, before_in, bytes_with}
use Rattle.o2_stepping.proofs.Goings.{goes_refl, goes_then, only_more, only_named}
use Rattle.o2_stepping.proofs.Here.{may_step, seats_here}
use Rattle.o2_stepping.proofs.Keeping.{shape_refl, shape_trans}
use Rattle.o2_stepping.proofs.Lefts.{left_less, left_most, touched_few}
use Rattle.o2_stepping.proofs.Rounds.{ages_seated, lacks_room, length_one, length_some, no_place, own_in, live_more, live_pair, live_seated, named_more, needed_all, needed_more, none_more, none_pair, none_seated, seated_few, seated_same}
use Rattle.o2_stepping.proofs.Named.{both_in, or_front, or_back}
use Rattle.o2_run.specs.Pieces.{Counts, told_counts, Hands}
use Rattle.o2_stepping.specs.Pieces.{StepHands, StepPart}
use Rattle.o2_stepping.proofs.Puts.{missed_hands, part_fault, ran_fault, ran_hands, ran_part}
use Rattle.o2_stepping.proofs.Steps.{asked_at, asks_at, at_begun, at_stop, counts_from, failed_at, first_from, full_then, map_asking, missed_at, missed_then, part_from, ran_at, ran_cause, ran_tries, told_from, tries_from}
use Rattle.o2_stepping.proofs.Rooms.{room_fits, room_same}
use Rattle.o2_stepping.proofs.SeatMarks.{all_whole_same, whole_more, whole_pair}
use Rattle.o2_stepping.proofs.Wholes.{ages_whole, among_whole, marks_stay}
use Rattle.o2_stepping.proofs.Worlds.{registers_are, seen_present, view_same}
use Rattle.o2_store.proofs.Framing.{device_refl}
use Rattle.o2_store.proofs.Idling.{idle_then}
use Rattle.o2_store.proofs.Keeping.{tables_trans}
use Rattle.o2_stepping.proofs.in_store.step_in_store.Goals as goal

pub tries-init : goal.tries-init
tries-init g c =
    let S = g.S.SwapDevice in
    let s = c.args.store.now in
    let m = c.args.regions.now in
    let pid = c.args.pid in
    let cpu = c.args.cpu.now in
    let need = c.seats-need.result in
    let e : need ≡ seated_in m pid cpu = c.seats-need.ensures.seated in
    let r = c.requires.ready in
    let a : ℕ → List ℕ = away_of s m c.args.images.now (S.blocks c.args.swap.now) (S.block c.args.swap.now) in
    record {
      cpu = refl;
      input = refl;
      console = refl;
      report = refl;
      avail = refl;
      shape = shape_refl s m;
      ready = c.requires.ready;
      blocks = refl;
      told = λ w. w;
      faults = omega arith;
      bytes = λ tells k. refl;
      idle = λ none load. record { device = refl; none = none };
      only = only_refl need s;
      leave = goes_refl s;
      live = subst (λ (x : List (SegId × ℕ)). AreLive s x) (sym e) (live_seated s m pid cpu c.requires.ready.held);
      whole = subst (λ (x : List (SegId × ℕ)). AreWhole s x) (sym e) (c.may_serve.ensures.whole c.if-not-may_serve.false);
      seats = subst (λ (x : List (SegId × ℕ)). AreNeeded x (seated_in m pid cpu)) (sym e) (needed_all (seated_in m pid cpu));
      can_step = λ h. may_step s m pid r.named r.settled cpu c.requires.process (sym c.are_here-here.ensures ∙ h);
      here = subst (λ (x : List (SegId × ℕ)). c.are_here-here.result ≡ true → (k : ℕ) → is_in k (ages_of x) ≡ true → present_in s k ≡ true) (sym e)
          (λ h. seats_here s m pid r.named r.settled cpu (sym c.are_here-here.ensures ∙ h));
      sizes = λ k. ap (λ (x : List (SegId × ℕ)). size_in x k) e ∙ none_seated m pid cpu k;
      named = λ bytes known tells k h.
          let z = before_in a s m pid cpu bytes known in
          both_in k (seated z.view.registers) (touched z)
          ∙ or_front (is_in k (seated z.view.registers)) (is_in k (touched z))
          (ap (λ (r : Registers). is_in k (seated r)) (registers_are a s m pid cpu) ∙ ap (is_in k) (sym (ages_seated m pid cpu)) ∙ ap (λ (x : List (SegId × ℕ)). is_in k (ages_of x)) (sym e) ∙ h);
      left = λ bytes known tells.
          let z = before_in a s m pid cpu bytes known in
          let x = left_most (touched z) need in
          let y = touched_few z in
          let w = seated_few m pid cpu in
          let l : length need ≡ length (seated_in m pid cpu) = ap length e in
          omega (arith, x, y, w, l);
    }

pub tries-preserved : goal.tries-preserved
tries-preserved g c =
    let S = g.S.SwapDevice in
    let i = c.tries.invariant in
    let s = c.args.store.now in
    let t = c.tries.store in
    let m = c.args.regions.now in
    let n = c.tries.regions in
    let im = c.args.images.now in
    let pid = c.args.pid in
    let cpu = c.args.cpu.now in
    let a : ℕ → List ℕ = away_of s m im (S.blocks c.args.swap.now) (S.block c.args.swap.now) in
    let b : ℕ → List ℕ = away_of t n im (S.blocks c.tries.swap) (S.block c.tries.swap) in
    let sel = c.in-Ok-Missed.sel in
    let x0 = c.in-Ok-Missed.field-0 in
    let is = c.in-Ok-Missed.field-0-is in
    let u = c.serve_and_try.new.store in
    let o = c.serve_and_try.new.regions in
    let d = c.serve_and_try.new.cpu in
    let e = c.in-Ok-Missed.ensures in
    let st = missed_then _ x0 sel is e.still in
    let old = c.tries.need in
    let added = c.add_missed.ensures.added c.if-not-add_missed.false in
    let more = pair_of (held_under o pid sel.0) in
    let wants = λ (bytes : List ℕ) (known : Known) (tells : IsTrue (S.told c.serve_and_try.new.swap)).
    subst (λ (z : Before). IsWanted o pid old (touched z) sel) (first_from a b s t m n pid cpu bytes known (view_same a b s t m n pid cpu i.shape.tables i.shape.holds (i.bytes (e.device.1 tells))) (i.bytes (e.device.1 tells)) c.tries.cpu i.cpu)
    (missed_at _ x0 sel is (e.missed bytes known tells)) in
    record {
      cpu = st.0 ∙ i.cpu;
      input = st.1 ∙ i.input;
      console = st.2 ∙ i.console;
      report = st.3 ∙ i.report;
      avail = e.avail ∙ i.avail;
      shape = shape_trans s t u m n o i.shape e.shape;
      ready = e.ready;
      blocks = e.device.0 ∙ i.blocks;
      told = λ w. i.told (e.device.1 w);
      faults = omega (arith, i.faults, e.swap_count);
      bytes = λ tells k. missed_then _ x0 sel is (e.same tells) k ∙ i.bytes (e.device.1 tells) k;
      idle = idle_then s t u _ _ _ i.shape.tables i.idle e.idle;
      only = subst (λ (x : List (SegId × ℕ)). OnlyNeededComes x s u) (sym added) (only_more old more s u (only_trans old s t u i.only e.only));
      leave = goes_then old s t u i.shape.tables e.shape.tables.size e.room i.only e.stays i.leave (e.leave refl);
      live = subst (λ (x : List (SegId × ℕ)). AreLive u x) (sym added) (live_more u old more (all_live_same t u old e.shape.tables i.live) (live_pair u o pid sel.0 e.ready.held));
      whole = subst (λ (x : List (SegId × ℕ)). AreWhole u x) (sym added)
          (whole_more u old more (all_whole_same t u old e.shape.tables i.whole) (whole_pair u o pid sel.0 (missed_at _ x0 sel is e.whole)));
      seats = subst (λ (x : List (SegId × ℕ)). AreNeeded x (seated_in o pid d)) (sym added)
          (needed_more old more (seated_in o pid d)
          (subst (λ (x : List (SegId × ℕ)). AreNeeded old x) (sym (seated_same n o pid d e.shape.holds ∙ ap (seated_in n pid) st.0)) i.seats));
      can_step = λ h. absurd (false≢true h);
      here = λ h. absurd (false≢true h);
      sizes = λ k. ap (λ (x : List (SegId × ℕ)). size_in x k) added ∙ none_more old more k (i.sizes k) (none_pair (held_under o pid sel.0) k);
      named = λ bytes known tells k h.
          (let z : Before = before_in a s m pid cpu bytes known in
          let w = wants bytes known tells in
          named_more (needed_names z) old w.held (held_under o pid sel.0) w.under (i.named bytes known (e.device.1 tells))
          (both_in w.held.id.age (seated z.view.registers) (touched z) ∙ or_back (is_in w.held.id.age (seated z.view.registers)) (is_in w.held.id.age (touched z)) w.named) k
          (ap (λ (x : List (SegId × ℕ)). is_in k (ages_of x)) (sym added) ∙ h));
      left = λ bytes known tells.
          (let z : Before = before_in a s m pid cpu bytes known in
          let w = wants bytes known tells in
          let x = left_less (touched z) old more w.held.id.age w.named w.other (own_in (held_under o pid sel.0) w.held w.under) in
          let y = i.left bytes known (e.device.1 tells) in
          let l = length_one old (held_under o pid sel.0) w.held w.under in
          subst (λ (x : List (SegId × ℕ)). left_in (touched z) x + length x ≤ 7) (sym added) (omega (arith, x, y, l)));
    }

pub tries-smaller : goal.tries-smaller
tries-smaller g c =
    let added = ap length (c.add_missed.ensures.added c.if-not-add_missed.false) in
    let room = c.add_missed.ensures.room c.if-not-add_missed.false in
    let held = c.add_missed.ensures.held c.if-not-add_missed.false in
    let l = length_some c.tries.need (held_under c.serve_and_try.new.regions c.args.pid c.in-Ok-Missed.sel.0) held in
    omega (arith, added, room, l)

pub returns-in-Ok-Stepped-clause-takes_as : goal.returns-in-Ok-Stepped-clause-takes_as
returns-in-Ok-Stepped-clause-takes_as g c = λ text may bytes known tells left same.
    let S = g.S.SwapDevice in
    let i = c.tries.invariant in
    let s = c.args.store.now in
    let t = c.tries.store in
    let m = c.args.regions.now in
    let n = c.tries.regions in
    let im = c.args.images.now in
    let pid = c.args.pid in
    let cpu = c.args.cpu.now in
    let a : ℕ → List ℕ = away_of s m im (S.blocks c.args.swap.now) (S.block c.args.swap.now) in
    let b : ℕ → List ℕ = away_of t n im (S.blocks c.tries.swap) (S.block c.tries.swap) in
    let z : Before = before_in a s m pid cpu bytes known in
    let u = c.serve_and_try.new.store in
    let d : ℕ → List ℕ = away_of u c.serve_and_try.new.regions im (S.blocks c.serve_and_try.new.swap) (S.block c.serve_and_try.new.swap) in
    ran_tries z (effect z) c.serve_and_try.new.cpu (bytes_with a s) (bytes_with d u) _ _ _ _ _ _ c.in-Ok-Stepped.field-0 c.in-Ok-Stepped.stepped c.in-Ok-Stepped.field-0-is
    (tries_from a b s t m n pid cpu bytes known (view_same a b s t m n pid cpu i.shape.tables i.shape.holds
    (i.bytes (c.in-Ok-Stepped.ensures.device.1 tells))) (i.bytes (c.in-Ok-Stepped.ensures.device.1 tells)) c.tries.cpu
    c.serve_and_try.new.cpu (bytes_with d u) _ _ _ _ _ _ _ _ _ (Ok c.in-Ok-Stepped.field-0) i.cpu
    (ap (λ x. left_as text (g.I.Source.left x) (g.I.Source.past x)) i.input) (ap g.C.Sink.taken i.console) (ap g.R.Sink.taken i.report)
    (c.in-Ok-Stepped.ensures.tries text may bytes known tells (ap (λ x. left_as text (g.I.Source.left x) (g.I.Source.past x)) i.input ∙ left) (record { avail = same.avail ∙ sym i.avail })))

pub returns-in-Ok-Stepped-clause-takes : goal.returns-in-Ok-Stepped-clause-takes
returns-in-Ok-Stepped-clause-takes g c = λ bytes known tells left same. returns-in-Ok-Stepped-clause-takes_as g c None tt bytes known tells left same

pub returns-in-Err-clause-takes_as : goal.returns-in-Err-clause-takes_as
returns-in-Err-clause-takes_as g c = λ text may bytes known tells left same.
    let S = g.S.SwapDevice in
    let i = c.tries.invariant in
    let s = c.args.store.now in
    let t = c.tries.store in
    let m = c.args.regions.now in
    let n = c.tries.regions in
    let im = c.args.images.now in
    let pid = c.args.pid in
    let cpu = c.args.cpu.now in
    let a : ℕ → List ℕ = away_of s m im (S.blocks c.args.swap.now) (S.block c.args.swap.now) in
    let b : ℕ → List ℕ = away_of t n im (S.blocks c.tries.swap) (S.block c.tries.swap) in
    let u = c.serve_and_try.new.store in
    let d : ℕ → List ℕ = away_of u c.serve_and_try.new.regions im (S.blocks c.serve_and_try.new.swap) (S.block c.serve_and_try.new.swap) in
    tries_from a b s t m n pid cpu bytes known (view_same a b s t m n pid cpu i.shape.tables i.shape.holds
    (i.bytes (c.in-Err.ensures.device.1 tells))) (i.bytes (c.in-Err.ensures.device.1 tells)) c.tries.cpu c.serve_and_try.new.cpu
    (bytes_with d u) _ _ _ _ _ _ _ _ _ (Err c.in-Err.fault) i.cpu
    (ap (λ x. left_as text (g.I.Source.left x) (g.I.Source.past x)) i.input) (ap g.C.Sink.taken i.console) (ap g.R.Sink.taken i.report)
    (c.in-Err.ensures.tries text may bytes known tells (ap (λ x. left_as text (g.I.Source.left x) (g.I.Source.past x)) i.input ∙ left) (record { avail = same.avail ∙ sym i.avail }))

pub returns-in-Err-clause-takes : goal.returns-in-Err-clause-takes
returns-in-Err-clause-takes g c = λ bytes known tells left same. returns-in-Err-clause-takes_as g c None tt bytes known tells left same

pub returns-in-Err-clause-still : goal.returns-in-Err-clause-still
returns-in-Err-clause-still g c =
    let i = c.tries.invariant in
    let new = c.serve_and_try.new in
    let P : Type 0 = (new.cpu ≡ c.tries.cpu) × (new.input ≡ c.tries.input) × (new.console ≡ c.tries.console) × (new.report ≡ c.tries.report) in
    let A : Type 0 = (new.cpu ≡ c.args.cpu.now) × (new.input ≡ c.args.input.now) × (new.console ≡ c.args.console.now) × (new.report ≡ c.args.report.now) in
    let f : P → A = λ p. (p.0 ∙ i.cpu, p.1 ∙ i.input, p.2 ∙ i.console, p.3 ∙ i.report) in
    at_stop P P P A A A c.in-Err.fault f f f c.in-Err.ensures.stopped

pub returns-in-Err-clause-no_room : goal.returns-in-Err-clause-no_room
returns-in-Err-clause-no_room g c = λ seats bytes known tells.
    let S = g.S.SwapDevice in
    let i = c.tries.invariant in
    let s = c.args.store.now in
    let t = c.tries.store in
    let a : ℕ → List ℕ = away_of s c.args.regions.now c.args.images.now (S.blocks c.args.swap.now) (S.block c.args.swap.now) in
    let names = needed_names (before_in a s c.args.regions.now c.args.pid c.args.cpu.now bytes known) in
    let kept = λ (n : ℕ) (h : is_in n (ages_of c.tries.need) ≡ true).
    among_whole s n names (sym (marks_stay s t i.shape.tables n) ∙ ages_whole t c.tries.need i.ready.aged (λ j p f. i.live.each j p f) (λ j p f. i.whole.each j p f) n h)
    (i.named bytes known (c.in-Err.ensures.device.1 tells) n h) in
    at_stop (t.places.size < all_needed t c.tries.need) ((all_of t.swap < swap_load t) × (t.places.size < live_load t)) (Rose (S.faults c.tries.swap) (S.faults c.serve_and_try.new.swap))
    (s.places.size < room_in s (whole_names s names)) (Unit {0}) (Unit {0}) c.in-Err.fault
    (λ p. lacks_room s t c.tries.need (whole_names s names) i.shape.tables i.live i.sizes kept p) (λ p. tt) (λ p. tt) c.in-Err.ensures.causes

pub returns-in-Err-clause-loads : goal.returns-in-Err-clause-loads
returns-in-Err-clause-loads g c =
    let S = g.S.SwapDevice in
    let i = c.tries.invariant in
    let s = c.args.store.now in
    let t = c.tries.store in
    at_stop (t.places.size < all_needed t c.tries.need) ((all_of t.swap < swap_load t) × (t.places.size < live_load t)) (Rose (S.faults c.tries.swap) (S.faults c.serve_and_try.new.swap))
    (Unit {0}) ((all_of s.swap < swap_load s) × (s.places.size < live_load s)) (Unit {0}) c.in-Err.fault
    (λ p. tt) (λ p. full_then s t i.shape p) (λ p. tt) c.in-Err.ensures.causes

pub returns-in-Err-clause-device : goal.returns-in-Err-clause-device
returns-in-Err-clause-device g c =
    let S = g.S.SwapDevice in
    let i = c.tries.invariant in
    let e = c.in-Err.ensures in
    record {
      blocks = e.device.0 ∙ i.blocks;
      told = λ w. i.told (e.device.1 w);
      faults = (let a = i.faults in let b = e.swap_count in omega (arith, a, b));
      cause = λ failed.
          let t = c.tries.store in
          let a = i.faults in
          let b = failed_at (t.places.size < all_needed t c.tries.need) ((all_of t.swap < swap_load t) × (t.places.size < live_load t))
          (Rose (S.faults c.tries.swap) (S.faults c.serve_and_try.new.swap)) (Err c.in-Err.fault) failed e.causes in
          omega (arith, a, b);
    }

pub returns-in-Ok-Stepped-clause-device : goal.returns-in-Ok-Stepped-clause-device
returns-in-Ok-Stepped-clause-device g c =
    let S = g.S.SwapDevice in
    let i = c.tries.invariant in
    let e = c.in-Ok-Stepped.ensures in
    record {
      blocks = e.device.0 ∙ i.blocks;
      told = λ w. i.told (e.device.1 w);
      faults = (let a = i.faults in let b = e.swap_count in omega (arith, a, b));
      cause = λ failed. failed_at (Unit {0}) (Unit {0}) (Rose (S.faults c.args.swap.now) (S.faults c.serve_and_try.new.swap)) _ failed tt;
    }

pub returns-then-not-add_missed-clause-device : goal.returns-then-not-add_missed-clause-device
returns-then-not-add_missed-clause-device g c =
    let S = g.S.SwapDevice in
    let i = c.tries.invariant in
    let e = c.in-Ok-Missed.ensures in
    record {
      blocks = e.device.0 ∙ i.blocks;
      told = λ w. i.told (e.device.1 w);
      faults = (let a = i.faults in let b = e.swap_count in omega (arith, a, b));
      cause = λ failed. failed_at (Unit {0}) (Unit {0}) (Rose (S.faults c.args.swap.now) (S.faults c.serve_and_try.new.swap)) _ failed tt;
    }

pub returns-in-Err-clause-cause : goal.returns-in-Err-clause-cause
returns-in-Err-clause-cause g c = rw (c.tries.invariant.console, c.tries.invariant.report, c.tries.invariant.input) at c.in-Err.ensures.cause

pub returns-in-Err-clause-shape : goal.returns-in-Err-clause-shape
returns-in-Err-clause-shape g c = shape_trans c.args.store.now c.tries.store c.serve_and_try.new.store c.args.regions.now c.tries.regions c.serve_and_try.new.regions c.tries.invariant.shape c.in-Err.ensures.shape

pub returns-in-Ok-Stepped-clause-shape : goal.returns-in-Ok-Stepped-clause-shape
returns-in-Ok-Stepped-clause-shape g c = shape_trans c.args.store.now c.tries.store c.serve_and_try.new.store c.args.regions.now c.tries.regions c.serve_and_try.new.regions c.tries.invariant.shape c.in-Ok-Stepped.ensures.shape

pub returns-in-Ok-Stepped-clause-together : goal.returns-in-Ok-Stepped-clause-together
returns-in-Ok-Stepped-clause-together g c = λ bytes known tells.
    let S = g.S.SwapDevice in
    let i = c.tries.invariant in
    let s = c.args.store.now in
    let t = c.tries.store in
    let m = c.args.regions.now in
    let n = c.tries.regions in
    let im = c.args.images.now in
    let pid = c.args.pid in
    let cpu = c.args.cpu.now in
    let a : ℕ → List ℕ = away_of s m im (S.blocks c.args.swap.now) (S.block c.args.swap.now) in
    let b : ℕ → List ℕ = away_of t n im (S.blocks c.tries.swap) (S.block c.tries.swap) in
    subst (λ (z : Before). ArePresent (seen c.serve_and_try.new.store c.serve_and_try.new.regions pid c.serve_and_try.new.cpu) (all_names z (bound_registers (hold_in c.serve_and_try.new.regions pid) c.serve_and_try.new.cpu)))
    (first_from a b s t m n pid cpu bytes known (view_same a b s t m n pid cpu i.shape.tables i.shape.holds (i.bytes (c.in-Ok-Stepped.ensures.device.1 tells))) (i.bytes (c.in-Ok-Stepped.ensures.device.1 tells)) c.tries.cpu i.cpu)
    (ran_at _ c.in-Ok-Stepped.field-0 c.in-Ok-Stepped.stepped c.in-Ok-Stepped.field-0-is (c.in-Ok-Stepped.ensures.together bytes known tells))

pub returns-in-Ok-Stepped-clause-room : goal.returns-in-Ok-Stepped-clause-room
returns-in-Ok-Stepped-clause-room g c = λ bytes known tells.
    let S = g.S.SwapDevice in
    let i = c.tries.invariant in
    let s = c.args.store.now in
    let t = c.tries.store in
    let m = c.args.regions.now in
    let n = c.tries.regions in
    let im = c.args.images.now in
    let pid = c.args.pid in
    let cpu = c.args.cpu.now in
    let a : ℕ → List ℕ = away_of s m im (S.blocks c.args.swap.now) (S.block c.args.swap.now) in
    let b : ℕ → List ℕ = away_of t n im (S.blocks c.tries.swap) (S.block c.tries.swap) in
    let u = c.serve_and_try.new.store in
    let o = c.serve_and_try.new.regions in
    let d = c.serve_and_try.new.cpu in
    let e = c.in-Ok-Stepped.ensures in
    let z : Before = before_in a s m pid cpu bytes known in
    let names = all_names z (bound_registers (hold_in o pid) d) in
    let here = subst (λ (y : Before). ArePresent (seen u o pid d) (all_names y (bound_registers (hold_in o pid) d)))
    (first_from a b s t m n pid cpu bytes known (view_same a b s t m n pid cpu i.shape.tables i.shape.holds (i.bytes (c.in-Ok-Stepped.ensures.device.1 tells))) (i.bytes (c.in-Ok-Stepped.ensures.device.1 tells)) c.tries.cpu i.cpu)
    (ran_at _ c.in-Ok-Stepped.field-0 c.in-Ok-Stepped.stepped c.in-Ok-Stepped.field-0-is (e.together bytes known tells)) in
    let w = shape_trans s t u m n o i.shape e.shape in
    let fits = room_fits u names c.law-in-Ok-Stepped.ensures.shelf e.ready.aged (seen_present u o pid d names here) c.law-in-Ok-Stepped.ensures.sum c.law-in-Ok-Stepped.ensures.room in
    let same = room_same s u names w.tables in
    let size = w.tables.size in
    omega (arith, fits, same, size)

pub returns-in-Err-clause-room_in_part : goal.returns-in-Err-clause-room_in_part
returns-in-Err-clause-room_in_part g c = λ bytes known tells.
    let S = g.S.SwapDevice in
    let i = c.tries.invariant in
    let s = c.args.store.now in
    let t = c.tries.store in
    let m = c.args.regions.now in
    let n = c.tries.regions in
    let im = c.args.images.now in
    let pid = c.args.pid in
    let cpu = c.args.cpu.now in
    let a : ℕ → List ℕ = away_of s m im (S.blocks c.args.swap.now) (S.block c.args.swap.now) in
    let b : ℕ → List ℕ = away_of t n im (S.blocks c.tries.swap) (S.block c.tries.swap) in
    let u = c.serve_and_try.new.store in
    let o = c.serve_and_try.new.regions in
    let d = c.serve_and_try.new.cpu in
    let e = c.in-Err.ensures in
    let z : Before = before_in a s m pid cpu bytes known in
    let names = all_names z (bound_registers (hold_in o pid) d) in
    let w = shape_trans s t u m n o i.shape e.shape in
    let same = room_same s u names w.tables in
    let size = w.tables.size in
    let first = first_from a b s t m n pid cpu bytes known (view_same a b s t m n pid cpu i.shape.tables i.shape.holds (i.bytes (c.in-Err.ensures.device.1 tells))) (i.bytes (c.in-Err.ensures.device.1 tells)) c.tries.cpu i.cpu in
    let start : Before = before_in b t n pid c.tries.cpu bytes known in
    at_begun (ArePresent (seen u o pid d) (all_names start (bound_registers (hold_in o pid) d))) (room_in s names ≤ s.places.size) c.in-Err.fault
    (λ x.
    (let here = subst (λ (y : Before). ArePresent (seen u o pid d) (all_names y (bound_registers (hold_in o pid) d))) first x in
    let fits = room_fits u names c.law.ensures.shelf e.ready.aged (seen_present u o pid d names here) c.law.ensures.sum c.law.ensures.room in
    omega (arith, fits, same, size))) (e.in_part bytes known tells)

pub returns-then-not-add_missed-clause-takes_as : goal.returns-then-not-add_missed-clause-takes_as
returns-then-not-add_missed-clause-takes_as g c = λ text may bytes known tells left same.
    let S = g.S.SwapDevice in
    let i = c.tries.invariant in
    let s = c.args.store.now in
    let t = c.tries.store in
    let m = c.args.regions.now in
    let n = c.tries.regions in
    let im = c.args.images.now in
    let pid = c.args.pid in
    let cpu = c.args.cpu.now in
    let a : ℕ → List ℕ = away_of s m im (S.blocks c.args.swap.now) (S.block c.args.swap.now) in
    let b : ℕ → List ℕ = away_of t n im (S.blocks c.tries.swap) (S.block c.tries.swap) in
    let sel = c.in-Ok-Missed.sel in
    let w = subst (λ (z : Before). IsWanted c.serve_and_try.new.regions pid c.tries.need (touched z) sel)
    (first_from a b s t m n pid cpu bytes known (view_same a b s t m n pid cpu i.shape.tables i.shape.holds
    (i.bytes (c.in-Ok-Missed.ensures.device.1 tells))) (i.bytes (c.in-Ok-Missed.ensures.device.1 tells)) c.tries.cpu i.cpu)
    (missed_at _ c.in-Ok-Missed.field-0 sel c.in-Ok-Missed.field-0-is (c.in-Ok-Missed.ensures.missed bytes known tells)) in
    absurd (no_place (held_under c.serve_and_try.new.regions pid sel.0) w.held _ (length c.tries.need) w.under (i.left bytes known (c.in-Ok-Missed.ensures.device.1 tells)) (c.add_missed.ensures.full c.if-not-add_missed.true))

pub returns-then-not-add_missed-clause-takes : goal.returns-then-not-add_missed-clause-takes
returns-then-not-add_missed-clause-takes g c = λ bytes known tells left same. returns-then-not-add_missed-clause-takes_as g c None tt bytes known tells left same

pub returns-then-not-add_missed-clause-no_room : goal.returns-then-not-add_missed-clause-no_room
returns-then-not-add_missed-clause-no_room g c = λ seats bytes known tells.
    let S = g.S.SwapDevice in
    let i = c.tries.invariant in
    let s = c.args.store.now in
    let t = c.tries.store in
    let m = c.args.regions.now in
    let n = c.tries.regions in
    let im = c.args.images.now in
    let pid = c.args.pid in
    let cpu = c.args.cpu.now in
    let a : ℕ → List ℕ = away_of s m im (S.blocks c.args.swap.now) (S.block c.args.swap.now) in
    let b : ℕ → List ℕ = away_of t n im (S.blocks c.tries.swap) (S.block c.tries.swap) in
    let sel = c.in-Ok-Missed.sel in
    let w = subst (λ (z : Before). IsWanted c.serve_and_try.new.regions pid c.tries.need (touched z) sel)
    (first_from a b s t m n pid cpu bytes known (view_same a b s t m n pid cpu i.shape.tables i.shape.holds
    (i.bytes (c.in-Ok-Missed.ensures.device.1 tells))) (i.bytes (c.in-Ok-Missed.ensures.device.1 tells)) c.tries.cpu i.cpu)
    (missed_at _ c.in-Ok-Missed.field-0 sel c.in-Ok-Missed.field-0-is (c.in-Ok-Missed.ensures.missed bytes known tells)) in
    absurd (no_place (held_under c.serve_and_try.new.regions pid sel.0) w.held _ (length c.tries.need) w.under (i.left bytes known (c.in-Ok-Missed.ensures.device.1 tells)) (c.add_missed.ensures.full c.if-not-add_missed.true))

pub returns-then-not-add_missed-clause-still : goal.returns-then-not-add_missed-clause-still
returns-then-not-add_missed-clause-still g c =
    let i = c.tries.invariant in
    let st = missed_then _ c.in-Ok-Missed.field-0 c.in-Ok-Missed.sel c.in-Ok-Missed.field-0-is c.in-Ok-Missed.ensures.still in
    (st.0 ∙ i.cpu, st.1 ∙ i.input, st.2 ∙ i.console, st.3 ∙ i.report)

pub returns-then-not-add_missed-clause-shape : goal.returns-then-not-add_missed-clause-shape
returns-then-not-add_missed-clause-shape g c = shape_trans c.args.store.now c.tries.store c.serve_and_try.new.store c.args.regions.now c.tries.regions c.serve_and_try.new.regions c.tries.invariant.shape c.in-Ok-Missed.ensures.shape

pub returns-in-Ok-Stepped-clause-cause : goal.returns-in-Ok-Stepped-clause-cause
returns-in-Ok-Stepped-clause-cause g c =
    let C = g.C.Sink in
    let R = g.R.Sink in
    let new = c.serve_and_try.new in
    rw (c.tries.invariant.console, c.tries.invariant.report) at (ran_cause
    (Rose (C.faults c.tries.console) (C.faults new.console) ⊎ Rose (R.faults c.tries.report) (R.faults new.report)) (Rose (g.I.Source.faults c.tries.input) (g.I.Source.faults new.input))
    c.in-Ok-Stepped.field-0 c.in-Ok-Stepped.stepped c.in-Ok-Stepped.field-0-is c.in-Ok-Stepped.ensures.cause)

pub returns-in-Ok-Stepped-clause-next : goal.returns-in-Ok-Stepped-clause-next
returns-in-Ok-Stepped-clause-next g c = ran_at _ c.in-Ok-Stepped.field-0 c.in-Ok-Stepped.stepped c.in-Ok-Stepped.field-0-is c.in-Ok-Stepped.ensures.next

pub returns-in-Err-clause-puts : goal.returns-in-Err-clause-puts
returns-in-Err-clause-puts g c =
    let new = c.serve_and_try.new in
    counts_from (λ (k : Counts). StepHands k (Err c.in-Err.fault)) (g.C.Sink.puts c.args.console.now) (g.C.Sink.puts new.console) (g.R.Sink.puts c.args.report.now) (g.R.Sink.puts new.report)
    (ap g.C.Sink.puts c.tries.invariant.console) (ap g.R.Sink.puts c.tries.invariant.report) (ran_fault _ c.in-Err.fault c.in-Err.ensures.puts)

pub returns-in-Ok-Stepped-clause-puts : goal.returns-in-Ok-Stepped-clause-puts
returns-in-Ok-Stepped-clause-puts g c =
    let new = c.serve_and_try.new in
    counts_from (λ (k : Counts). StepHands k (Ok c.in-Ok-Stepped.stepped)) (g.C.Sink.puts c.args.console.now) (g.C.Sink.puts new.console) (g.R.Sink.puts c.args.report.now) (g.R.Sink.puts new.report)
    (ap g.C.Sink.puts c.tries.invariant.console) (ap g.R.Sink.puts c.tries.invariant.report) (ran_hands _ c.in-Ok-Stepped.field-0 c.in-Ok-Stepped.stepped c.in-Ok-Stepped.field-0-is c.in-Ok-Stepped.ensures.puts)

pub returns-then-not-add_missed-clause-puts : goal.returns-then-not-add_missed-clause-puts
returns-then-not-add_missed-clause-puts g c =
    let new = c.serve_and_try.new in
    counts_from (λ (k : Counts). Hands k 0 0) (g.C.Sink.puts c.args.console.now) (g.C.Sink.puts new.console) (g.R.Sink.puts c.args.report.now) (g.R.Sink.puts new.report)
    (ap g.C.Sink.puts c.tries.invariant.console) (ap g.R.Sink.puts c.tries.invariant.report) (missed_hands _ c.in-Ok-Missed.field-0 c.in-Ok-Missed.sel c.in-Ok-Missed.field-0-is c.in-Ok-Missed.ensures.puts)

pub returns-in-Err-clause-part : goal.returns-in-Err-clause-part
returns-in-Err-clause-part g c = λ text may bytes known tells left same.
    let S = g.S.SwapDevice in
    let i = c.tries.invariant in
    let s = c.args.store.now in
    let t = c.tries.store in
    let m = c.args.regions.now in
    let n = c.tries.regions in
    let im = c.args.images.now in
    let pid = c.args.pid in
    let cpu = c.args.cpu.now in
    let a : ℕ → List ℕ = away_of s m im (S.blocks c.args.swap.now) (S.block c.args.swap.now) in
    let b : ℕ → List ℕ = away_of t n im (S.blocks c.tries.swap) (S.block c.tries.swap) in
    let view = view_same a b s t m n pid cpu i.shape.tables i.shape.holds (i.bytes (c.in-Err.ensures.device.1 tells)) in
    let z : Before = before_in a s m pid cpu bytes known in
    let new = c.serve_and_try.new in
    let k = told_counts (g.C.Sink.puts c.tries.console) (g.C.Sink.puts new.console) (g.R.Sink.puts c.tries.report) (g.R.Sink.puts new.report) 0 (g.R.Sink.taken c.tries.report) (g.R.Sink.taken new.report) in
    told_from (λ (n : Counts). StepPart (effect z) n (Err c.in-Err.fault)) (g.C.Sink.puts c.args.console.now) (g.C.Sink.puts new.console) (g.R.Sink.puts c.args.report.now) (g.R.Sink.puts new.report)
    (g.R.Sink.taken c.args.report.now) (g.R.Sink.taken new.report) (ap g.C.Sink.puts i.console) (ap g.R.Sink.puts i.report) (ap g.R.Sink.taken i.report) (part_fault (effect z) k c.in-Err.fault
    (part_from a b s t m n pid cpu bytes known view (i.bytes (c.in-Err.ensures.device.1 tells)) c.tries.cpu i.cpu k (Err c.in-Err.fault)
    (c.in-Err.ensures.part text may bytes known tells (ap (λ x. left_as text (g.I.Source.left x) (g.I.Source.past x)) i.input ∙ left) (record { avail = same.avail ∙ sym i.avail }))))

pub returns-in-Ok-Stepped-clause-part : goal.returns-in-Ok-Stepped-clause-part
returns-in-Ok-Stepped-clause-part g c = λ text may bytes known tells left same.
    let S = g.S.SwapDevice in
    let i = c.tries.invariant in
    let s = c.args.store.now in
    let t = c.tries.store in
    let m = c.args.regions.now in
    let n = c.tries.regions in
    let im = c.args.images.now in
    let pid = c.args.pid in
    let cpu = c.args.cpu.now in
    let a : ℕ → List ℕ = away_of s m im (S.blocks c.args.swap.now) (S.block c.args.swap.now) in
    let b : ℕ → List ℕ = away_of t n im (S.blocks c.tries.swap) (S.block c.tries.swap) in
    let view = view_same a b s t m n pid cpu i.shape.tables i.shape.holds (i.bytes (c.in-Ok-Stepped.ensures.device.1 tells)) in
    let z : Before = before_in a s m pid cpu bytes known in
    let new = c.serve_and_try.new in
    let k = told_counts (g.C.Sink.puts c.tries.console) (g.C.Sink.puts new.console) (g.R.Sink.puts c.tries.report) (g.R.Sink.puts new.report) 0 (g.R.Sink.taken c.tries.report) (g.R.Sink.taken new.report) in
    told_from (λ (n : Counts). StepPart (effect z) n (Ok c.in-Ok-Stepped.stepped)) (g.C.Sink.puts c.args.console.now) (g.C.Sink.puts new.console) (g.R.Sink.puts c.args.report.now) (g.R.Sink.puts new.report)
    (g.R.Sink.taken c.args.report.now) (g.R.Sink.taken new.report) (ap g.C.Sink.puts i.console) (ap g.R.Sink.puts i.report) (ap g.R.Sink.taken i.report)
    (ran_part (effect z) k c.in-Ok-Stepped.field-0 c.in-Ok-Stepped.stepped c.in-Ok-Stepped.field-0-is
    (part_from a b s t m n pid cpu bytes known view (i.bytes (c.in-Ok-Stepped.ensures.device.1 tells)) c.tries.cpu i.cpu k (Ok c.in-Ok-Stepped.field-0)
    (c.in-Ok-Stepped.ensures.part text may bytes known tells (ap (λ x. left_as text (g.I.Source.left x) (g.I.Source.past x)) i.input ∙ left) (record { avail = same.avail ∙ sym i.avail }))))

pub returns-in-Ok-Stepped-clause-goes_on : goal.returns-in-Ok-Stepped-clause-goes_on
returns-in-Ok-Stepped-clause-goes_on g c = rw c.tries.invariant.input at c.in-Ok-Stepped.ensures.goes_on

pub returns-in-Err-clause-goes_on : goal.returns-in-Err-clause-goes_on
returns-in-Err-clause-goes_on g c = rw c.tries.invariant.input at c.in-Err.ensures.goes_on

pub returns-then-not-add_missed-clause-goes_on : goal.returns-then-not-add_missed-clause-goes_on
returns-then-not-add_missed-clause-goes_on g c = rw c.tries.invariant.input at c.in-Ok-Missed.ensures.goes_on

-- A call on segments that is asked for.

pub returns-in-Ok-Stepped-clause-asks : goal.returns-in-Ok-Stepped-clause-asks
returns-in-Ok-Stepped-clause-asks g c =
    let i = c.tries.invariant in
    let new = c.serve_and_try.new in
    let P : Type 0 = (new.cpu ≡ c.tries.cpu) × (new.input ≡ c.tries.input) × (new.console ≡ c.tries.console) × (new.report ≡ c.tries.report) in
    map_asking (λ a. P) _ c.in-Ok-Stepped.stepped (λ a p. (p.0 ∙ i.cpu, p.1 ∙ i.input, p.2 ∙ i.console, p.3 ∙ i.report))
    (asks_at P c.in-Ok-Stepped.field-0 c.in-Ok-Stepped.stepped c.in-Ok-Stepped.field-0-is c.in-Ok-Stepped.ensures.still)

pub returns-in-Ok-Stepped-clause-aimed : goal.returns-in-Ok-Stepped-clause-aimed
returns-in-Ok-Stepped-clause-aimed g c = asked_at _ c.in-Ok-Stepped.field-0 c.in-Ok-Stepped.stepped c.in-Ok-Stepped.field-0-is c.in-Ok-Stepped.ensures.aimed

pub returns-in-Err-clause-idle : goal.returns-in-Err-clause-idle
returns-in-Err-clause-idle g c = idle_then c.args.store.now c.tries.store c.serve_and_try.new.store _ _ _ c.tries.invariant.shape.tables c.tries.invariant.idle c.in-Err.ensures.idle

pub returns-in-Ok-Stepped-clause-idle : goal.returns-in-Ok-Stepped-clause-idle
returns-in-Ok-Stepped-clause-idle g c = idle_then c.args.store.now c.tries.store c.serve_and_try.new.store _ _ _ c.tries.invariant.shape.tables c.tries.invariant.idle c.in-Ok-Stepped.ensures.idle

pub returns-then-not-add_missed-clause-idle : goal.returns-then-not-add_missed-clause-idle
returns-then-not-add_missed-clause-idle g c = idle_then c.args.store.now c.tries.store c.serve_and_try.new.store _ _ _ c.tries.invariant.shape.tables c.tries.invariant.idle c.in-Ok-Missed.ensures.idle

-- Who comes and goes.

pub returns-in-Err-clause-only : goal.returns-in-Err-clause-only
returns-in-Err-clause-only g c = λ bytes known tells.
    (let S = g.S.SwapDevice in
    let i = c.tries.invariant in
    let e = c.in-Err.ensures in
    let s = c.args.store.now in
    let t = c.tries.store in
    let u = c.serve_and_try.new.store in
    let need = c.tries.need in
    let z : Before = before_in (away_of s c.args.regions.now c.args.images.now (S.blocks c.args.swap.now) (S.block c.args.swap.now)) s c.args.regions.now c.args.pid c.args.cpu.now bytes known in
    only_named need s u (needed_names z) (all_live_same t u need e.shape.tables i.live) (tables_trans s t u i.shape.tables e.shape.tables) (i.named bytes known (e.device.1 tells)) (only_trans need s t u i.only e.only))

pub returns-in-Ok-Stepped-clause-only : goal.returns-in-Ok-Stepped-clause-only
returns-in-Ok-Stepped-clause-only g c = λ bytes known tells.
    (let S = g.S.SwapDevice in
    let i = c.tries.invariant in
    let e = c.in-Ok-Stepped.ensures in
    let s = c.args.store.now in
    let t = c.tries.store in
    let u = c.serve_and_try.new.store in
    let need = c.tries.need in
    let z : Before = before_in (away_of s c.args.regions.now c.args.images.now (S.blocks c.args.swap.now) (S.block c.args.swap.now)) s c.args.regions.now c.args.pid c.args.cpu.now bytes known in
    only_named need s u (needed_names z) (all_live_same t u need e.shape.tables i.live) (tables_trans s t u i.shape.tables e.shape.tables) (i.named bytes known (e.device.1 tells)) (only_trans need s t u i.only e.only))

pub returns-then-not-add_missed-clause-only : goal.returns-then-not-add_missed-clause-only
returns-then-not-add_missed-clause-only g c = λ bytes known tells.
    (let S = g.S.SwapDevice in
    let i = c.tries.invariant in
    let e = c.in-Ok-Missed.ensures in
    let s = c.args.store.now in
    let t = c.tries.store in
    let u = c.serve_and_try.new.store in
    let need = c.tries.need in
    let z : Before = before_in (away_of s c.args.regions.now c.args.images.now (S.blocks c.args.swap.now) (S.block c.args.swap.now)) s c.args.regions.now c.args.pid c.args.cpu.now bytes known in
    only_named need s u (needed_names z) (all_live_same t u need e.shape.tables i.live) (tables_trans s t u i.shape.tables e.shape.tables) (i.named bytes known (e.device.1 tells)) (only_trans need s t u i.only e.only))

pub returns-in-Ok-Stepped-clause-leave : goal.returns-in-Ok-Stepped-clause-leave
returns-in-Ok-Stepped-clause-leave g c = λ r.
    (let i = c.tries.invariant in
    let e = c.in-Ok-Stepped.ensures in
    goes_then c.tries.need c.args.store.now c.tries.store c.serve_and_try.new.store i.shape.tables e.shape.tables.size e.room i.only e.stays i.leave (e.leave refl))

-- Nothing is tried where a segment register names what was discarded.

pub may_serve-requires-clause-here : goal.may_serve-requires-clause-here
may_serve-requires-clause-here g c = λ h. sym c.are_here-here.ensures ∙ h

pub returns-then-not-may_serve-clause-takes_as : goal.returns-then-not-may_serve-clause-takes_as
returns-then-not-may_serve-clause-takes_as g c = λ text may bytes known tells left same.
    record { cpu = refl; bytes = λ n. refl; input = refl; to_console = refl; to_report = refl }

pub returns-then-not-may_serve-clause-takes : goal.returns-then-not-may_serve-clause-takes
returns-then-not-may_serve-clause-takes g c = λ bytes known tells left same.
    record { cpu = refl; bytes = λ n. refl; input = refl; to_console = refl; to_report = refl }

pub returns-then-not-may_serve-clause-no_room : goal.returns-then-not-may_serve-clause-no_room
returns-then-not-may_serve-clause-no_room g c = λ seats bytes known tells. absurd (c.may_serve.ensures.gone c.if-not-may_serve.true seats)

pub returns-then-not-may_serve-clause-only : goal.returns-then-not-may_serve-clause-only
returns-then-not-may_serve-clause-only g c = λ bytes known tells. record { each = λ k f n. n }

pub returns-then-not-may_serve-clause-shape : goal.returns-then-not-may_serve-clause-shape
returns-then-not-may_serve-clause-shape g c = shape_refl c.args.store.now c.args.regions.now

pub returns-then-not-may_serve-clause-device : goal.returns-then-not-may_serve-clause-device
returns-then-not-may_serve-clause-device g c = device_refl _ _ _ c.args.swap.now _ (λ failed. cc)

pub returns-then-not-may_serve-clause-puts : goal.returns-then-not-may_serve-clause-puts
returns-then-not-may_serve-clause-puts g c = record { to_console = omega arith; to_report = omega arith }

pub returns-then-not-may_serve-clause-idle : goal.returns-then-not-may_serve-clause-idle
returns-then-not-may_serve-clause-idle g c = λ none load. record { device = refl; none = none }
