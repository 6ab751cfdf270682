-- A step of another process that gives it nothing leaves a process that keeps to itself as it is. And behind each step what never changes isn't discardable.
use Rattle.std.proofs.Common.{◌≡◌, ◌≢◌, ◌⊎◌, inl, inr, refl, sym, ◌∙◌, ap, subst, ℕ, ◌+◌, ◌-◌, ◌<◌, ◌==◌, ◌||◌, Bool, true, false, cond, List, [], ◌∷◌, ◌++◌, arith}
use Rattle.std.specs.Prelude.{Option, Some, None, option_map, is_some, slice_get, not}
use Rattle.std.specs.List.{list_any}
use Rattle.std.proofs.lemmas.Bool.{eqb-true}
use Rattle.o2_conf.specs.Dispatch.{Dispatch}
use Rattle.o2_desc.specs.Bits.{has_bit, is_writable}
use Rattle.o2_isa.specs.declared.instr.Sreg.{Sreg}
use Rattle.o2_isa.specs.declared.instr.Sreg.TheVariants.{Es, Cs, Ss, Ds}
use Rattle.o2_isa.specs.View.{Hold, in_register}
use Rattle.o2_world.specs.Map.{Map, at_key, get}
use Rattle.o2_world.specs.World.{World, Setting, Process, Segment, Held, is_live}
use Rattle.o2_world.specs.Holders.{is_held, process_at}
use Rattle.o2_world.specs.Sound.{held_in, held_of}
use Rattle.o2_world.specs.Tied.{AreUsed, IsTied}
use Rattle.o2_world.specs.Views.{hold_of, holds_in, segment_bytes, with_bytes}
use Rattle.o2_world.specs.Known.{Marks as SegmentMarks, held_at, marks_of}
use Rattle.o2_world.specs.CallParts.{Before, Effect}
use Rattle.o2_world.specs.Changes.{Change, Makes, Resizes, Locks, Marks, Holds, Drops, Finishes, Reserves, Frees, Names, marked, resized, swept, takes, with_change, with_changes}
use Rattle.o2_world.specs.Effect.{effect}
use Rattle.o2_world.specs.Run.{all_changes, before, changed, worked, working}
use Rattle.o2_world.specs.Giving.{gives}
use Rattle.o2_world.proofs.MapLemmas.{get-at_key, get-filter, get-map, if_no}
use Rattle.o2_world.proofs.Keeps.{other_number}
use Rattle.o2_world.proofs.Numbers.{number_some, at_place_of, process_is}
use Rattle.o2_world.proofs.OwnChanges.{LeavePlace, all_leave, all_other}
use Rattle.o2_world.proofs.Reached.{get-put}
use Rattle.o2_world.proofs.Sparing.{moves_spare, spare_place}
use Rattle.o2_world.proofs.StepMoves.{effect_moves}
use Rattle.o2_alone.specs.Renaming.{Renaming, IsIn}
use Rattle.o2_alone.specs.Keeping.{IsApart, IsOfNoOther, is_clean}
use Rattle.o2_alone.specs.Isolation.{AreFixed, IsLike, own_reserves}
use Rattle.o2_alone.proofs.RenamedViews.{bound_is_in}
use Rattle.o2_alone.proofs.Unwritten.{IsUnwritten, effect_keeps}
use Rattle.o2_alone.proofs.OwnNames.{IsOwnName, RunsMayChange, may_change, may_lock}
use Rattle.o2_alone.proofs.AnyNames.{AreOfAny, IsOfAny, effect_of_any}
use Rattle.o2_alone.proofs.Alikes.{lives_here, low_here}
use Rattle.o2_alone.proofs.OwnSteps.{kept_here}
use Rattle.o2_alone.proofs.OwnReserves.{stays_left}

-- Segments that never change aren't discardable.

abbrev IsFixed : Option Segment → Type 0
IsFixed o = (z : Segment) → o ≡ Some z → z.clean ≡ true → has_bit z.flags 2 ≡ false

fixed_some : (x z : Segment) → Some x ≡ Some z → (x.clean ≡ true → has_bit x.flags 2 ≡ false) → z.clean ≡ true → has_bit z.flags 2 ≡ false
fixed_some x z e h clean = subst (λ (z : Segment). z.clean ≡ true → has_bit z.flags 2 ≡ false) (same x z e) h clean
  where
    same : (x z : Segment) → Some x ≡ Some z → x ≡ z
    same x z e = cc

fixed_map : (g : Segment → Segment) (o : Option Segment) → ((x : Segment) → (g x).clean ≡ x.clean) → ((x : Segment) → (g x).flags ≡ x.flags) → IsFixed o → IsFixed (option_map g o)
fixed_map g None clean flags fixed z e = cc
fixed_map g (Some x) clean flags fixed z e =
    fixed_some (g x) z e (λ is. ap (λ (n : ℕ). has_bit n 2) (flags x) ∙ fixed x refl (sym (clean x) ∙ is))

fixed_pick : (b : Bool) (o p : Option Segment) → IsFixed o → IsFixed p → IsFixed (cond b o p)
fixed_pick true o p h k = h
fixed_pick false o p h k = k

fixed_at_key : (names : Map Segment) (n : ℕ) (g : Segment → Segment) → ((x : Segment) → (g x).clean ≡ x.clean) → ((x : Segment) → (g x).flags ≡ x.flags) → AreFixed names → AreFixed (at_key n g names)
fixed_at_key names n g clean flags fixed q =
    subst IsFixed (sym (get-at_key n q g names)) (fixed_pick (n == q) (option_map g (get names n)) (get names q) (fixed_map g (get names n) clean flags (fixed n)) (fixed q))

marked_clean : (d : Bool) (x : Segment) → (marked d x).clean ≡ x.clean
marked_clean true x = refl
marked_clean false x = refl

marked_flags : (d : Bool) (x : Segment) → (marked d x).flags ≡ x.flags
marked_flags true x = refl
marked_flags false x = refl

fixed_change : (b : Before) (c : Change) (v : World) → IsOfAny b c → AreFixed v.names → AreFixed (with_change v c).names
fixed_change b (Makes s) v own fixed q =
    subst IsFixed (sym (get-put v.next_name q (Some s) v.names))
    (fixed_pick (v.next_name == q) (Some s) (get v.names q) (λ z e. fixed_some s z e (λ is. absurd (let no : true ≡ false = sym is ∙ own in cc))) (fixed q))
fixed_change b (Resizes n size) v own fixed q = fixed_at_key v.names n (λ (s : Segment). record s { bytes = resized size s.bytes }) (λ x. refl) (λ x. refl) fixed q
fixed_change b (Locks n count) v own fixed q = fixed_at_key v.names n (λ (s : Segment). record s { lock = count }) (λ x. refl) (λ x. refl) fixed q
fixed_change b (Marks n d) v own fixed q = fixed_at_key v.names n (marked d) (marked_clean d) (marked_flags d) fixed q
fixed_change b (Holds p i h) v own fixed q = fixed q
fixed_change b (Drops p i count) v own fixed q = fixed q
fixed_change b (Finishes p state) v own fixed q = fixed q
fixed_change b (Reserves r) v own fixed q = fixed q
fixed_change b (Frees region at) v own fixed q = fixed q
fixed_change b (Names text name) v own fixed q = fixed q

fixed_changes : (b : Before) (cs : List Change) (v : World) → AreOfAny b cs → AreFixed v.names → AreFixed (with_changes v cs).names
unfolding with_changes
fixed_changes b [] v own fixed = fixed
fixed_changes b (c ∷ cs) v own fixed = fixed_changes b cs (with_change v c) own.1 (fixed_change b c v own.0 fixed)

fixed_end : (b : Before) (number : ℕ) (e : Effect) (v : World) → AreOfAny b e.changes → AreFixed v.names → AreFixed (with_changes v (all_changes number e)).names
unfolding with_changes
fixed_end b number e v own fixed = go (is_live e.state)
  where
    more : (cs : List Change) (v : World) → AreOfAny b cs → AreFixed v.names → AreFixed (with_changes v (cs ++ Finishes number e.state ∷ [])).names
    more [] v own fixed = fixed
    more (c ∷ cs) v own fixed = more cs (with_change v c) own.1 (fixed_change b c v own.0 fixed)

    go : (t : Bool) → AreFixed (with_changes v (cond t e.changes (e.changes ++ Finishes number e.state ∷ []))).names
    go true = fixed_changes b e.changes v own fixed
    go false = more e.changes v own fixed

fixed_swept : (b : Bool) (v : World) → AreFixed v.names → AreFixed (cond b (swept v) v).names
fixed_swept true v fixed q = subst IsFixed (sym (get-filter (is_held v.processes) v.names q)) (fixed_pick (is_held v.processes q) (get v.names q) None (fixed q) (λ z e. absurd (cc)))
fixed_swept false v fixed q = fixed q

pub fixed_step : (s : Setting) (w : World) (d : Dispatch) (p : Process) → RunsMayChange (before s w d.current p) → AreFixed w.names → AreFixed (changed w d p (effect (before s w d.current p))).names
unfolding changed
fixed_step s w d p may fixed =
    let b = before s w d.current p in
    let e = effect b in
    fixed_swept (list_any takes (all_changes d.current e)) (with_changes (worked w d p e) (all_changes d.current e))
    (fixed_end b d.current e (worked w d p e) (effect_of_any b may)
    (λ (q : ℕ). subst IsFixed (sym (get-map (λ (k : ℕ) (z : Segment). record z { bytes = e.bytes k }) w.names q)) (fixed_map (λ (z : Segment). record z { bytes = e.bytes q }) (get w.names q) (λ x. refl) (λ x. refl) (fixed q))))

-- Changes of others leave what is reserved of a process's own region.

own_one : (b : Before) (number : ℕ) (c : Change) (v : World) → 0 < number → b.number ≢ number → IsOfAny b c → own_reserves number (with_change v c).reserved ≡ own_reserves number v.reserved
own_one b number (Makes s) v some other own = refl
own_one b number (Resizes n size) v some other own = refl
own_one b number (Locks n count) v some other own = refl
own_one b number (Marks n discarded) v some other own = refl
own_one b number (Holds p i h) v some other own = refl
own_one b number (Drops p i count) v some other own = refl
own_one b number (Finishes p state) v some other own = refl
own_one b number (Reserves r) v some other own = ap (λ (t : Bool). cond t (r ∷ own_reserves number v.reserved) (own_reserves number v.reserved)) (of_other own)
  where
    of_other : (r.region ≡ b.number) ⊎ (r.region ≡ 0) → (r.region == number) ≡ false
    of_other (inl is) = go (r.region == number) refl
      where
        go : (t : Bool) → (r.region == number) ≡ t → (r.region == number) ≡ false
        go false e = e
        go true e = absurd (other (sym is ∙ eqb-true r.region number e))
    of_other (inr is) = zero_other r.region number is some
      where
        zero_other : (m n : ℕ) → m ≡ 0 → 0 < n → (m == n) ≡ false
        zero_other m n e l = grind arith
own_one b number (Frees region at) v some other own = absurd own
own_one b number (Names text name) v some other own = refl

own_end : (b : Before) (number : ℕ) (e : Effect) (v : World) → 0 < number → b.number ≢ number → AreOfAny b e.changes → own_reserves number (with_changes v (all_changes b.number e)).reserved ≡ own_reserves number v.reserved
unfolding with_changes
own_end b number e v some other own = go (is_live e.state)
  where
    all : (cs : List Change) (v : World) → AreOfAny b cs → own_reserves number (with_changes v cs).reserved ≡ own_reserves number v.reserved
    all [] v own = refl
    all (c ∷ cs) v own = all cs (with_change v c) own.1 ∙ own_one b number c v some other own.0

    more : (cs : List Change) (v : World) → AreOfAny b cs → own_reserves number (with_changes v (cs ++ Finishes b.number e.state ∷ [])).reserved ≡ own_reserves number v.reserved
    more [] v own = refl
    more (c ∷ cs) v own = more cs (with_change v c) own.1 ∙ own_one b number c v some other own.0

    go : (t : Bool) → own_reserves number (with_changes v (cond t e.changes (e.changes ++ Finishes b.number e.state ∷ []))).reserved ≡ own_reserves number v.reserved
    go true = all e.changes v own
    go false = more e.changes v own

-- Changes that leave a name alone.

abbrev LeavesName : ℕ → Change → Type 0
LeavesName n (Makes s) = Unit {0}
LeavesName n (Resizes m size) = m ≢ n
LeavesName n (Locks m count) = m ≢ n
LeavesName n (Marks m discarded) = m ≢ n
LeavesName n (Holds p i h) = Unit {0}
LeavesName n (Drops p i count) = Unit {0}
LeavesName n (Finishes p state) = Unit {0}
LeavesName n (Reserves r) = Unit {0}
LeavesName n (Frees region at) = Unit {0}
LeavesName n (Names text name) = Unit {0}

abbrev LeaveName : ℕ → List Change → Type 0
LeaveName n [] = Unit {0}
LeaveName n (c ∷ cs) = LeavesName n c × LeaveName n cs

not_same : (m n : ℕ) → m ≢ n → (m == n) ≡ false
not_same m n other = go (m == n) refl
  where
    go : (b : Bool) → (m == n) ≡ b → b ≡ false
    go true is = absurd (other (eqb-true m n is))
    go false is = refl

record LeavesIt (n : ℕ) (v u : World) : Type 0 where
  same : get u.names n ≡ get v.names n
  low : n < u.next_name

leaves_key : (n m : ℕ) (g : Segment → Segment) (names : Map Segment) → m ≢ n → get (at_key m g names) n ≡ get names n
leaves_key n m g names other = get-at_key m n g names ∙ if_no (m == n) (option_map g (get names m)) (get names n) (not_same m n other)

leaves_one : (n : ℕ) (c : Change) (v : World) → n < v.next_name → LeavesName n c → LeavesIt n v (with_change v c)
leaves_one n (Makes s) v low leaves = record {
  same = get-put v.next_name n (Some s) v.names ∙ if_no (v.next_name == n) (Some s) (get v.names n) (not_same v.next_name n (λ is. omega (arith, low, is)));
  low = omega (arith, low);
}
leaves_one n (Resizes m size) v low leaves = record { same = leaves_key n m _ v.names leaves; low = low }
leaves_one n (Locks m count) v low leaves = record { same = leaves_key n m _ v.names leaves; low = low }
leaves_one n (Marks m discarded) v low leaves = record { same = leaves_key n m _ v.names leaves; low = low }
leaves_one n (Holds p i h) v low leaves = record { same = refl; low = low }
leaves_one n (Drops p i count) v low leaves = record { same = refl; low = low }
leaves_one n (Finishes p state) v low leaves = record { same = refl; low = low }
leaves_one n (Reserves r) v low leaves = record { same = refl; low = low }
leaves_one n (Frees region at) v low leaves = record { same = refl; low = low }
leaves_one n (Names text name) v low leaves = record { same = refl; low = low }

leaves_all : (n : ℕ) (cs : List Change) (v : World) → n < v.next_name → LeaveName n cs → get (with_changes v cs).names n ≡ get v.names n
unfolding with_changes
leaves_all n [] v low leaves = refl
leaves_all n (c ∷ cs) v low leaves = let one = leaves_one n c v low leaves.0 in leaves_all n cs (with_change v c) one.low leaves.1 ∙ one.same

leaves_end : (n number : ℕ) (e : Effect) → LeaveName n e.changes → LeaveName n (all_changes number e)
leaves_end n number e leaves = go (is_live e.state)
  where
    more : (cs : List Change) → LeaveName n cs → LeaveName n (cs ++ Finishes number e.state ∷ [])
    more [] leaves = (tt, tt)
    more (c ∷ cs) leaves = (leaves.0, more cs leaves.1)

    go : (t : Bool) → LeaveName n (cond t e.changes (e.changes ++ Finishes number e.state ∷ []))
    go true = leaves
    go false = more e.changes leaves

record IsHold (o : Option Held) (h : Hold) : Type 0 where
  held : Held
  there : o ≡ Some held
  same : hold_of held ≡ h

from_hold : (o : Option Held) (h : Hold) → option_map hold_of o ≡ Some h → IsHold o h
from_hold None h e = cc
from_hold (Some k) h e = record { held = k; there = refl; same = hold_is (hold_of k) h e }
  where
    hold_is : (g h : Hold) → Some g ≡ Some h → g ≡ h
    hold_is g h e = cc

discardable : (a c : Bool) → (a || not c) ≡ true → c ≡ true → a ≡ true
discardable true c e f = refl
discardable false true e f = e
discardable false false e f = absurd (cc)

not_clean : (a : Bool) → not a ≡ true → a ≡ true → ⊥
not_clean true e f = cc
not_clean false e f = cc

-- A step of another process.
module _ (s : Setting) (w : World) (tied : IsTied w) (fixed : AreFixed w.names) (d : Dispatch) (r : Process) (at : process_at w.processes d.current ≡ Some r) (may : RunsMayChange (before s w d.current r)) where
  abbrev b : Before
  b = before s w d.current r

  abbrev e : Effect
  e = effect b

  abbrev v : World
  v = with_changes (worked w d r e) (all_changes d.current e)

  has_held : (i : ℕ) → held_at w.processes d.current i ≡ get r.held i
  has_held i = ap (λ (o : Option Process). held_of o i) at

  has_held_in : (i : ℕ) → held_in w.processes (d.current - 1) i ≡ get r.held i
  has_held_in i = ap (λ (o : Option Process). held_of o i) (at_place_of w.processes d.current r at)

  -- a segment that it may neither write nor change: one that never changes, or that it doesn't hold
  module _ (n : ℕ) (x : Segment) (there : get w.names n ≡ Some x) (low : n < w.next_name)
      (apart : (x.clean ≡ true) ⊎ ((i : ℕ) (h : Held) → held_at w.processes d.current i ≡ Some h → h.name ≢ n)) where
    unwritten : IsUnwritten (holds_in r.held) n
    unwritten h is_in writes named = by_case apart
      where
        k : IsHold (get r.held is_in.0) h
        k = from_hold (get r.held is_in.0) h is_in.1

        name_is : k.held.name ≡ n
        name_is = ap (λ (g : Hold). g.name) k.same ∙ named

        by_case : (x.clean ≡ true) ⊎ ((i : ℕ) (h : Held) → held_at w.processes d.current i ≡ Some h → h.name ≢ n) → ⊥
        by_case (inl clean) =
            let no = tied.clean (d.current - 1) is_in.0 k.held x (has_held_in is_in.0 ∙ k.there) (ap (λ (m : ℕ). get w.names m) name_is ∙ there) clean in
            absurd (let both : true ≡ false = sym writes ∙ (ap (λ (g : Hold). is_writable g.rights) (sym k.same) ∙ no) in cc)
        by_case (inr other) = other is_in.0 k.held (has_held is_in.0 ∙ k.there) name_is

    bound : (q : Sreg) (h : Hold) → in_register b.view.registers q ≡ Some h → IsIn b.view.held h
    bound Es h is = bound_is_in (holds_in r.held) r.cpu.es h is
    bound Cs h is = bound_is_in (holds_in r.held) r.cpu.cs h is
    bound Ss h is = bound_is_in (holds_in r.held) r.cpu.ss h is
    bound Ds h is = bound_is_in (holds_in r.held) r.cpu.ds h is

    same_bytes : e.bytes n ≡ x.bytes
    same_bytes = effect_keeps b n unwritten bound ∙ ap (λ (o : Option Segment). segment_bytes o) there

    marks_same : (m : ℕ) (marks : SegmentMarks) → m ≡ n → b.known.segment m ≡ Some marks → marks ≡ marks_of x
    marks_same m marks is known = some_is (sym known ∙ (ap (λ (m : ℕ). b.known.segment m) is ∙ ap (λ (o : Option Segment). option_map marks_of o) there))
      where
        some_is : Some marks ≡ Some (marks_of x) → marks ≡ marks_of x
        some_is f = cc

    own_name : (ok : SegmentMarks → Bool) (m : ℕ) → IsOwnName b ok m → (x.clean ≡ true → ok (marks_of x) ≡ true → ⊥) → m ≢ n
    own_name ok m own never is = by_case apart
      where
        by_case : (x.clean ≡ true) ⊎ ((i : ℕ) (h : Held) → held_at w.processes d.current i ≡ Some h → h.name ≢ n) → ⊥
        by_case (inl clean) = never clean (ap ok (sym (marks_same m own.marks is own.segment)) ∙ own.good)
        by_case (inr other) = other own.index own.hold own.there (own.named ∙ is)

    leaves : (cs : List Change) → AreOfAny b cs → LeaveName n cs
    leaves [] own = tt
    leaves (c ∷ cs) own = (one c own.0, leaves cs own.1)
      where
        one : (c : Change) → IsOfAny b c → LeavesName n c
        one (Makes z) o = tt
        one (Resizes m size) o = own_name may_change m o (λ clean may. not_clean x.clean may clean)
        one (Locks m count) o = own_name may_lock m o (λ clean may. absurd (let no : true ≡ false = sym (discardable (has_bit x.flags 2) x.clean may clean) ∙ fixed n x there clean in cc))
        one (Marks m discarded) o = own_name may_change m o (λ clean may. not_clean x.clean may clean)
        one (Holds p i h) o = tt
        one (Drops p i count) o = tt
        one (Finishes p state) o = tt
        one (Reserves q) o = tt
        one (Frees region place) o = tt
        one (Names text name) o = tt

    worked_same : get (with_bytes w.names e.bytes) n ≡ get w.names n
    worked_same =
        get-map (λ (k : ℕ) (z : Segment). record z { bytes = e.bytes k }) w.names n
        ∙ (ap (λ (o : Option Segment). option_map (λ (z : Segment). record z { bytes = e.bytes n }) o) there
        ∙ (ap (λ (bs : List ℕ). Some (record x { bytes = bs })) same_bytes ∙ sym there))

    changed_same : get v.names n ≡ get w.names n
    changed_same = leaves_all n (all_changes d.current e) (worked w d r e) low (leaves_end n d.current e (leaves e.changes (effect_of_any b may))) ∙ worked_same

  other_process : (number : ℕ) → 0 < number → d.current ≢ number → list_any (gives number) e.changes ≡ false → process_at v.processes number ≡ process_at w.processes number
  other_process number some other none =
      process_is v.processes number some
      ∙ (by_sweep (list_any takes (all_changes d.current e))
      ∙ (all_other (worked w d r e) (all_changes d.current e) (number - 1) leave
      ∙ (other_number w.processes d.current (working r e) (number - 1) past ∙ sym (process_is w.processes number some))))
    where
      by_sweep : (t : Bool) → slice_get v.processes (number - 1) ≡ slice_get (cond t (swept v) v).processes (number - 1)
      by_sweep true = refl
      by_sweep false = refl

      past : number - 1 + 1 ≢ d.current
      past is = other (sym is ∙ omega (arith, some))

      back : number - 1 + 1 ≡ number
      back = omega (arith, some)

      leave : LeavePlace (number - 1) (all_changes d.current e)
      leave = all_leave (number - 1) d.current e
          (spare_place d.current (number - 1) e.changes past (moves_spare b e.cpu e.changes (effect_moves b)) (ap (λ (n : ℕ). list_any (gives n) e.changes) back ∙ none)) past

  pub other_step : (f : Renaming) (number : ℕ) (a : World) → IsTied a → (like : IsLike f number w a) → AreUsed w.processes w.reserved → IsApart w number → d.current ≢ number → list_any (gives number) e.changes ≡ false → IsLike f number (changed w d r e) a
  unfolding changed
  other_step f number a tied_alone like used apart other none = record {
    process = like.process;
    twin = like.twin;
    there = by_sweep (list_any takes (all_changes d.current e)) ∙ stays;
    there_too = like.there_too;
    cpu = like.cpu;
    state = like.state;
    held = like.held;
    segment = λ (i : ℕ) (h : Held) is. like.segment i h is ∙ sym (kept_here (list_any takes (all_changes d.current e)) v number like.process i h stays is ∙ same i h is);
    apart = like.apart;
    reserved = sym (left (list_any takes (all_changes d.current e)));
  }
    where
      some : 0 < number
      some = number_some w.processes number like.process like.there

      stays : process_at v.processes number ≡ Some like.process
      stays = other_process number (number_some w.processes number like.process like.there) other none ∙ like.there

      -- of its region nothing comes
      left_all : own_reserves number v.reserved ≡ own_reserves number w.reserved
      left_all = own_end b number e (worked w d r e) some other (effect_of_any b may)

      left : (t : Bool) → own_reserves number (cond t (swept v) v).reserved ≡ own_reserves number a.reserved
      left true = stays_left number w.processes v.processes like.process w.reserved v.reserved some like.there stays used left_all ∙ sym like.reserved
      left false = left_all ∙ sym like.reserved

      by_sweep : (t : Bool) → process_at (cond t (swept v) v).processes number ≡ process_at v.processes number
      by_sweep true = refl
      by_sweep false = refl

      same : (i : ℕ) (h : Held) → get like.process.held i ≡ Some h → get v.names h.name ≡ get w.names h.name
      same i h is = by_segment (get w.names h.name) refl
        where
          here : held_at w.processes number i ≡ Some h
          here = ap (λ (o : Option Process). held_of o i) like.there ∙ is

          by_segment : (o : Option Segment) → get w.names h.name ≡ o → get v.names h.name ≡ get w.names h.name
          by_segment None none = absurd (let lives = lives_here f number w a like tied tied_alone i h is in
              let no : false ≡ true = ap (λ (o : Option Segment). is_some o) (sym none) ∙ lives in cc)
          by_segment (Some x) some = changed_same h.name x some (low_here f number w a like tied tied_alone i h is) (by_apart (apart i h here))
            where
              by_apart : (is_clean (get w.names h.name) ≡ true) ⊎ IsOfNoOther w number h.name → (x.clean ≡ true) ⊎ ((i : ℕ) (g : Held) → held_at w.processes d.current i ≡ Some g → g.name ≢ h.name)
              by_apart (inl clean) = inl (ap is_clean (sym some) ∙ clean)
              by_apart (inr nobody) = inr (λ j g there. nobody d.current j g other there)
