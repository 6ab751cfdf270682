-- A step leaves what is discarded as it is, but for what its call makes anew.
use Rattle.std.proofs.Common.{◌≡◌, ◌≢◌, ◌⊎◌, inl, inr, ℕ, ◌-◌, ◌%◌, ◌<◌, ◌==◌, ◌&&◌, ◌||◌, Bool, true, false, cond, List, [], ◌∷◌, ◌++◌, map, length, replicate, Option, Some, None, ap, sym, ◌∙◌, refl, arith, subst}
use Rattle.std.specs.Prelude.{option_map, slice_get}
use Rattle.o2_conf.specs.Dispatch.{Dispatch}
use Rattle.o2_isa.specs.declared.cpu.Cpu.{Cpu}
use Rattle.o2_isa.specs.declared.cpu.Loaded.{Loaded}
use Rattle.o2_isa.specs.declared.cpu.Loaded.TheVariants as loaded
use Rattle.o2_isa.specs.declared.cpu.Purpose.TheVariants.{DataReg}
use Rattle.o2_isa.specs.declared.instr.Sreg.{Sreg}
use Rattle.o2_isa.specs.declared.instr.Sreg.TheVariants.{Es, Cs, Ss, Ds}
use Rattle.o2_isa.specs.Pointers.{is_passed}
use Rattle.o2_isa.specs.Registers.{sreg}
use Rattle.o2_isa.specs.SegmentLoads.{LoadsByRules, Passes, rules_for}
use Rattle.o2_isa.specs.View.{Hold, View, bound_in, bound_registers, found, here, in_register, is_code, is_null, is_readable, is_writable, probe_of, refused, trap_of, when}
use Rattle.o2_world.specs.Map.{Map, at_key, get}
use Rattle.o2_world.specs.World.{Held, World, Setting, Process, Segment, is_live}
use Rattle.o2_world.specs.Holders.{process_at, with_process}
use Rattle.o2_world.specs.Views.{discarded_in, holds_in, is_discarded, segment_bytes, view_of}
use Rattle.o2_world.specs.Known.{Known, Marks as SegmentMarks, marks_of}
use Rattle.o2_world.specs.CallParts.{Before, Effect}
use Rattle.o2_world.specs.Changes.{Drops, marked, resized}
use Rattle.o2_world.specs.Discards.{has_seated, is_of, is_seated, seats}
use Rattle.o2_world.specs.Rulings.{full_size}
use Rattle.o2_world.specs.SharedRulings.{each_more, one_more}
use Rattle.o2_world.specs.Run.{before, worked, working}
use Rattle.o2_world.specs.Moves.{AllMoves, IsLockable, Moves, NoneMoves, OneAliased, OneLocked, OneMade, OneNamed, OneRemade, OneRun, OneSized, OwnMoves, SomeFreed, SomeShared}
use Rattle.o2_world.specs.Tied.{AllSpareDiscarded, IsDiscarded, KeepsDiscarded}
use Rattle.o2_world.proofs.DiscardedStays.{IsPlain, plain_spare}
use Rattle.o2_world.proofs.MapLemmas.{get-at_key, get-map, if_yes}
use Rattle.o2_world.proofs.Numbers.{at_place_of}
use Rattle.o2_world.proofs.RunParts.{AllBy, run_parts}
use Rattle.o2_world.proofs.Seats.{Follows, seated_follows, seats_follow, unseated_at, unseated_by}
use Rattle.o2_world.proofs.Keeps.{each_at}
use Rattle.o2_world.proofs.Unreached.{IsUnreached}

not_both : (b : Bool) → b ≡ true → b ≡ false → ⊥
not_both b e f = cc

-- What passes the load rules isn't discarded.

here_whole : (v : View) (a s : ℕ) (h : Hold) → is_passed (here v a s h) ≡ true → v.discarded h.name ≡ false
here_whole v a s h e = go (v.discarded h.name) refl e
  where
    go : (b : Bool) → v.discarded h.name ≡ b → is_passed (cond b (trap_of a s) (cond (v.present h.name) loaded.Done (loaded.Miss (record { 0 = s })))) ≡ true → v.discarded h.name ≡ false
    go true is e = absurd (cc)
    go false is e = is

when_whole : (v : View) (a s : ℕ) (ok : ℕ → Bool) (o : Option Hold) (h : Hold) → o ≡ Some h → is_passed (when v a s ok o) ≡ true → v.discarded h.name ≡ false
when_whole v a s ok None h at e = absurd (cc)
when_whole v a s ok (Some g) h at e = go (ok g.rights) e
  where
    same : g ≡ h
    same = cc

    go : (b : Bool) → is_passed (cond b (here v a s g) (refused s)) ≡ true → v.discarded h.name ≡ false
    go true e = ap (λ (x : Hold). v.discarded x.name) (sym same) ∙ here_whole v a s g e
    go false e = absurd (cc)

-- by the purposes of registers that hold data or a stack, and of a far return
data_whole : (v : View) (s : ℕ) (h : Hold) → bound_in v.held s ≡ Some h → is_passed (probe_of v DataReg (record { 0 = s })) ≡ true → v.discarded h.name ≡ false
unfolding probe_of
data_whole v s h at e = go (is_null s) at e
  where
    go : (z : Bool) → cond z None (found v s) ≡ Some h → is_passed (cond z loaded.Done (when v 11 s is_readable (found v s))) ≡ true → v.discarded h.name ≡ false
    go true at e = absurd (cc)
    go false at e = when_whole v 11 s is_readable (found v s) h at e

ringed_whole : (v : View) (a s : ℕ) (ok : ℕ → Bool) (h : Hold) (z r : Bool) → cond z None (found v s) ≡ Some h
    → is_passed (cond z (loaded.Trap 13 0) (cond r (when v a s ok (found v s)) (refused s))) ≡ true → v.discarded h.name ≡ false
ringed_whole v a s ok h true r at e = absurd (cc)
ringed_whole v a s ok h false true at e = when_whole v a s ok (found v s) h at e
ringed_whole v a s ok h false false at e = absurd (cc)

done_passed : (l : Loaded) → l ≡ loaded.Done → is_passed l ≡ true
done_passed l e = ap is_passed e

loaded_whole : (v : View) (r : Sreg) (s : ℕ) (h : Hold) → bound_in v.held s ≡ Some h → Passes v (rules_for r) s → v.discarded h.name ≡ false
unfolding probe_of
loaded_whole v Es s h at e = data_whole v s h at (done_passed _ e)
loaded_whole v Cs s h at e = ringed_whole v 11 s is_code h (is_null s) (s % 4 == 3) at (done_passed _ e)
loaded_whole v Ss s h at e = ringed_whole v 12 s is_writable h (is_null s) (s % 4 == 3) at (done_passed _ e)
loaded_whole v Ds s h at e = data_whole v s h at (done_passed _ e)

-- A name that is discarded is behind no register and no good pointer.

not_of : (n : ℕ) (h : Hold) → is_of n (Some h) ≡ false → h.name ≢ n
not_of n h e same = not_equal h.name n same e
  where
    not_equal : (a b : ℕ) → a ≡ b → (a == b) ≡ false → ⊥
    not_equal a b e f = grind arith

four : (a b c d : Bool) → ((a || b) || (c || d)) ≡ false → (a ≡ false) × ((b ≡ false) × ((c ≡ false) × (d ≡ false)))
four false false false false e = (refl, (refl, (refl, refl)))
four true b c d e = absurd (cc)
four false true c d e = absurd (cc)
four false false true d e = absurd (cc)
four false false false true e = absurd (cc)

no_seat : (p : Process) (n : ℕ) → is_live p.state ≡ true → seats p n ≡ false → has_seated (bound_registers (holds_in p.held) p.cpu) n ≡ false
no_seat p n lives e = sym (ap (λ (b : Bool). b && has_seated (bound_registers (holds_in p.held) p.cpu) n) lives) ∙ e

pub unreached : (names : Map Segment) (p : Process) (n : ℕ) → is_live p.state ≡ true → seats p n ≡ false → discarded_in names n ≡ true → IsUnreached (view_of names p) n
unreached names p n lives seat gone = record {
  registers = λ r h at w. not_of n h (by r h at);
  pointers = λ s h at for_es w same. not_both (discarded_in names n) gone (ap (discarded_in names) (sym same) ∙ data_whole (view_of names p) s h at for_es);
}
  where
    all : (is_of n (bound_in (holds_in p.held) p.cpu.es) ≡ false) × ((is_of n (bound_in (holds_in p.held) p.cpu.cs) ≡ false) × ((is_of n (bound_in (holds_in p.held) p.cpu.ss) ≡ false) × (is_of n (bound_in (holds_in p.held) p.cpu.ds) ≡ false)))
    all = four (is_of n (bound_in (holds_in p.held) p.cpu.es)) (is_of n (bound_in (holds_in p.held) p.cpu.cs)) (is_of n (bound_in (holds_in p.held) p.cpu.ss)) (is_of n (bound_in (holds_in p.held) p.cpu.ds)) (no_seat p n lives seat)

    by : (r : Sreg) (h : Hold) → in_register (bound_registers (holds_in p.held) p.cpu) r ≡ Some h → is_of n (Some h) ≡ false
    by Es h at = ap (is_of n) (sym at) ∙ all.0
    by Cs h at = ap (is_of n) (sym at) ∙ all.1.0
    by Ss h at = ap (is_of n) (sym at) ∙ all.1.1.0
    by Ds h at = ap (is_of n) (sym at) ∙ all.1.1.1

-- A step loads none.

load_follows : (names : Map Segment) (p : Process) (c : Cpu) (n : ℕ) → discarded_in names n ≡ true → LoadsByRules (view_of names p) p.cpu c → (r : Sreg)
    → Follows (is_of n (bound_in (holds_in p.held) (sreg c r))) (is_of n (bound_in (holds_in p.held) (sreg p.cpu r)))
load_follows names p c n gone ruled r e = by (ruled r)
  where
    named : (o : Option Hold) → is_of n o ≡ true → (h : Hold) × (o ≡ Some h) × (h.name ≡ n)
    named None e = absurd (cc)
    named (Some h) e = (h, refl, equal h.name n e)
      where
        equal : (a b : ℕ) → (a == b) ≡ true → a ≡ b
        equal a b e = grind arith

    by : (sreg c r ≡ sreg p.cpu r) ⊎ Passes (view_of names p) (rules_for r) (sreg c r) → is_of n (bound_in (holds_in p.held) (sreg p.cpu r)) ≡ true
    by (inl same) = ap (λ (s : ℕ). is_of n (bound_in (holds_in p.held) s)) (sym same) ∙ e
    by (inr passes) =
        let h = named (bound_in (holds_in p.held) (sreg c r)) e in
        absurd (not_both (discarded_in names n) gone (ap (discarded_in names) (sym h.2) ∙ loaded_whole (view_of names p) r (sreg c r) h.0 h.1 passes))

seat_stays : (names : Map Segment) (p : Process) (e : Effect) (n : ℕ) → is_live p.state ≡ true → discarded_in names n ≡ true → LoadsByRules (view_of names p) p.cpu e.cpu
    → seats p n ≡ false → seats (working p e) n ≡ false
seat_stays names p e n lives gone ruled seat =
    seats_follow p (working p e) n (λ l. lives)
    (seated_follows (holds_in p.held) (holds_in p.held) p.cpu e.cpu n
    (load_follows names p e.cpu n gone ruled Es) (load_follows names p e.cpu n gone ruled Cs) (load_follows names p e.cpu n gone ruled Ss) (load_follows names p e.cpu n gone ruled Ds))
    seat

module _ (w : World) (d : Dispatch) (p : Process) (e : Effect) (at : process_at w.processes d.current ≡ Some p) (lives : is_live p.state ≡ true)
    (ruled : LoadsByRules (view_of w.names p) p.cpu e.cpu) (still : (q : ℕ) → IsUnreached (view_of w.names p) q → e.bytes q ≡ (view_of w.names p).bytes q)
    (k : KeepsDiscarded w.processes w.names) where
  there : slice_get w.processes (d.current - 1) ≡ Some p
  there = at_place_of w.processes d.current p at

  seat_of : (q : ℕ) → is_seated w.processes q ≡ false → seats p q ≡ false
  seat_of q e = unseated_at w.processes q (d.current - 1) p e there

  unseated_still : (q : ℕ) → discarded_in w.names q ≡ true → is_seated w.processes q ≡ false → is_seated (with_process w.processes d.current (working p e)) q ≡ false
  unseated_still q gone unseated =
      unseated_by (with_process w.processes d.current (working p e)) q
      (each_at {P = λ x. seats x q ≡ false} w.processes d.current (working p e) (seat_stays w.names p e q lives gone ruled (seat_of q unseated))
      (λ place x here. unseated_at w.processes q place x unseated here))

  -- bytes and registers of a step
  pub worked_keeps : (let v = worked w d p e in KeepsDiscarded v.processes v.names)
  worked_keeps = record { each = λ q s f gone. go q s (get w.names q) refl (sym (get-map (λ (n : ℕ) (x : Segment). record x { bytes = e.bytes n }) w.names q) ∙ f) gone }
    where
      go : (q : ℕ) (s : Segment) (o : Option Segment) → get w.names q ≡ o → option_map (λ (x : Segment). record x { bytes = e.bytes q }) (get w.names q) ≡ Some s → s.discarded ≡ true
          → IsDiscarded (with_process w.processes d.current (working p e)) q s
      go q s None here f gone = absurd (let z : None ≡ Some s = sym (ap (option_map (λ (x : Segment). record x { bytes = e.bytes q })) here) ∙ f in cc)
      go q s (Some y) here f gone =
          let z : Some (record y { bytes = e.bytes q }) ≡ Some s = sym (ap (option_map (λ (x : Segment). record x { bytes = e.bytes q })) here) ∙ f in
          let same : record y { bytes = e.bytes q } ≡ s = cc in
          let was : y.discarded ≡ true = ap (λ (x : Segment). x.discarded) same ∙ gone in
          let old = k.each q y here was in
          let m = old.may_be in
          let marked_so : discarded_in w.names q ≡ true = ap is_discarded here ∙ was in
          let bytes : e.bytes q ≡ y.bytes = still q (unreached w.names p q lives (seat_of q m.unseated) marked_so) ∙ ap segment_bytes here in
          subst (IsDiscarded (with_process w.processes d.current (working p e)) q) same
          (record {
            may_be = record { discardable = m.discardable; changes = m.changes; unlocked = m.unlocked; unseated = unseated_still q marked_so m.unseated };
            zeros = bytes ∙ (old.zeros ∙ ap (λ (bs : List ℕ). replicate {A = ℕ} (length bs) 0) (sym bytes));
          })

-- What a step changes spares what is discarded.

drops_plain : (n : ℕ) (is : List ℕ) → AllBy IsPlain (map (λ (i : ℕ). Drops n i 1) is)
drops_plain n [] = tt
drops_plain n (i ∷ is) = (tt, drops_plain n is)

more_plain : (k : Known) (from to : ℕ) (is : List ℕ) → AllBy IsPlain (each_more k from to is)
more_plain k from to [] = tt
more_plain k from to (i ∷ is) = go (k.held from i) (more_plain k from to is)
  where
    go : (o : Option Held) → AllBy IsPlain (each_more k from to is) → AllBy IsPlain (one_more to i o ++ each_more k from to is)
    go None rest = rest
    go (Some h) rest = (tt, rest)

same_name : (n : ℕ) → (n == n) ≡ true
same_name n = grind arith

-- behind a mark that is taken away
unmarked : (names : Map Segment) (n size : ℕ) (s : Segment) → get (at_key n (λ (x : Segment). record x { bytes = resized size x.bytes }) (at_key n (marked false) names)) n ≡ Some s → s.discarded ≡ false
unmarked names n size s e = go (get names n) (sym (at_it (λ (x : Segment). record x { bytes = resized size x.bytes }) (at_key n (marked false) names) ∙ ap (option_map (λ (x : Segment). record x { bytes = resized size x.bytes })) (at_it (marked false) names)) ∙ e)
  where
    at_it : (f : Segment → Segment) (m : Map Segment) → get (at_key n f m) n ≡ option_map f (get m n)
    at_it f m = get-at_key n n f m ∙ if_yes (n == n) (option_map f (get m n)) (get m n) (same_name n)

    go : (o : Option Segment) → option_map (λ (x : Segment). record x { bytes = resized size x.bytes }) (option_map (marked false) o) ≡ Some s → s.discarded ≡ false
    go None e = absurd (cc)
    go (Some y) e =
        let same : record (marked false y) { bytes = resized size y.bytes } ≡ s = cc in
        ap (λ (x : Segment). x.discarded) (sym same)

module _ (s : Setting) (w : World) (d : Dispatch) (p : Process) (e : Effect) (k : KeepsDiscarded w.processes w.names) where
  abbrev b : Before
  b = before s w d.current p

  abbrev v : World
  v = worked w d p e

  -- what is locked, or known not to be discarded, isn't
  lock_fits : (name count : ℕ) → IsLockable b.known name → (x : Segment) → get v.names name ≡ Some x → x.discarded ≡ true → count ≡ 0
  lock_fits name count lockable x there gone = absurd (go (get w.names name) refl lockable.segment (sym (get-map (λ (n : ℕ) (y : Segment). record y { bytes = e.bytes n }) w.names name) ∙ there) lockable.kept)
    where
      some : (n : ℕ) → 0 < n → (n == 0) ≡ true → ⊥
      some n h e = grind arith

      go : (o : Option Segment) → get w.names name ≡ o → option_map marks_of (get w.names name) ≡ Some lockable.marks
          → option_map (λ (y : Segment). record y { bytes = e.bytes name }) (get w.names name) ≡ Some x
          → (lockable.marks.discarded ≡ false) ⊎ (0 < lockable.marks.lock) → ⊥
      go None here known f kept = let z : None ≡ Some x = sym (ap (option_map (λ (y : Segment). record y { bytes = e.bytes name })) here) ∙ f in absurd (cc)
      go (Some y) here known f kept =
          let z : Some (record y { bytes = e.bytes name }) ≡ Some x = sym (ap (option_map (λ (y : Segment). record y { bytes = e.bytes name })) here) ∙ f in
          let same : record y { bytes = e.bytes name } ≡ x = cc in
          let was : y.discarded ≡ true = ap (λ (t : Segment). t.discarded) same ∙ gone in
          let m : Some (marks_of y) ≡ Some lockable.marks = sym (ap (option_map marks_of) here) ∙ known in
          let marks : marks_of y ≡ lockable.marks = cc in
          by kept y here was marks
        where
          by : (lockable.marks.discarded ≡ false) ⊎ (0 < lockable.marks.lock) → (y : Segment) → get w.names name ≡ Some y → y.discarded ≡ true → marks_of y ≡ lockable.marks → ⊥
          by (inl whole) y here was marks = not_both y.discarded was (ap (λ (t : SegmentMarks). t.discarded) marks ∙ whole)
          by (inr more) y here was marks =
              some y.lock (subst (λ (n : ℕ). 0 < n) (ap (λ (t : SegmentMarks). t.lock) (sym marks)) more) (k.each name y here was).may_be.unlocked

  pub moves_spare_discarded : Moves b e.cpu e.changes → AllSpareDiscarded v e.changes
  moves_spare_discarded (NoneMoves is) = subst (AllSpareDiscarded v) (sym is) tt
  moves_spare_discarded (OneMade size flags i free is) = subst (AllSpareDiscarded v) (sym is) (refl, (tt, tt))
  moves_spare_discarded (OneSized name size alone is) = subst (AllSpareDiscarded v) (sym is) (tt, tt)
  moves_spare_discarded (OneRemade name size alone is) =
      subst (AllSpareDiscarded v) (sym is)
      (tt, (tt, ((λ x there gone. absurd (not_both x.discarded gone (unmarked v.names name (full_size size) x there))), tt)))
  moves_spare_discarded (OneLocked name count lockable is) = subst (AllSpareDiscarded v) (sym is) (lock_fits name count lockable, tt)
  moves_spare_discarded (OneAliased index i h holds alone free is) = subst (AllSpareDiscarded v) (sym is) (tt, tt)
  moves_spare_discarded (SomeFreed xs frees is) = subst (AllSpareDiscarded v) (sym is) (plain_spare v (map (λ (i : ℕ). Drops b.number i 1) xs) (drops_plain b.number xs))

  pub all_moves_spare_discarded : AllMoves b e.cpu e.changes → AllSpareDiscarded v e.changes
  all_moves_spare_discarded (OwnMoves moves) = moves_spare_discarded moves
  all_moves_spare_discarded (OneNamed size i name free is) = subst (AllSpareDiscarded v) (sym is) (refl, (tt, (tt, tt)))
  all_moves_spare_discarded (SomeShared from to xs shares is) = subst (AllSpareDiscarded v) (sym is) (plain_spare v (each_more b.known from to xs) (more_plain b.known from to xs))
  all_moves_spare_discarded (OneRun moves ruled) =
      plain_spare v e.changes
      (run_parts b IsPlain (record { makes = λ size flags. refl; resizes = λ name size. tt; holds = λ q i h holder. tt; drops = λ i count. tt; reserves = λ region first count which. tt }) e.cpu e.changes moves)
