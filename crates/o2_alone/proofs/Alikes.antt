-- What a step of a process starts from in two worlds in which it is alike.
use Rattle.std.proofs.Common.{◌≡◌, ◌⊎◌, inl, inr, refl, sym, ◌∙◌, ap, subst, ℕ, ◌+◌, ◌-◌, ◌<◌, ◌≤◌, ◌/◌, ◌==◌, ◌&&◌, ◌||◌, Bool, true, false, cond, List, length, arith}
use Rattle.std.specs.Prelude.{Option, Some, None, option_map, is_some, nat_lt, Result, Ok, Err}
use Rattle.std.specs.List.{list_any}
use Rattle.o2_isa.specs.declared.cpu.Cpu.{Cpu}
use Rattle.o2_isa.specs.declared.cpu.Stop.{Stop}
use Rattle.o2_isa.specs.declared.instr.Sreg.{Sreg}
use Rattle.o2_isa.specs.declared.instr.Sreg.TheVariants.{Es, Cs, Ss, Ds}
use Rattle.o2_isa.specs.View.{Hold, in_register, bound_registers}
use Rattle.o2_isa.specs.Steps.{State as Machine, state}
use Rattle.o2_isa.specs.Step.{stepped}
use Rattle.o2_world.specs.Rulings.{held_under, members}
use Rattle.o2_world.specs.HugeRulings.{segments_of}
use Rattle.o2_world.specs.Map.{get}
use Rattle.o2_world.specs.World.{World, Setting, Process, Segment, Held}
use Rattle.o2_world.specs.Sound.{held_of}
use Rattle.o2_world.specs.Tied.{IsTied, lives_in}
use Rattle.o2_world.specs.Views.{hold_of, holds_in, bytes_in, is_discarded, segment_bytes, view_of}
use Rattle.o2_world.specs.Known.{known_of, held_at, holds_index, marks_of, reserves, taken_in}
use Rattle.o2_world.specs.CallParts.{Before, argument, has_arguments}
use Rattle.o2_world.specs.Slots.{are_good, pointers_in, words_in}
use Rattle.o2_world.specs.Outcomes.{CallRow}
use Rattle.o2_world.specs.Calls.{row_of}
use Rattle.o2_world.specs.Run.{before}
use Rattle.o2_world.proofs.MapLemmas.{if_yes, if_no}
use Rattle.o2_world.proofs.Numbers.{number_some, at_place_of, not_zero}
use Rattle.o2_world.proofs.Rows.{found}
use Rattle.o2_alone.specs.Renaming.{Asking, Renaming, renamed_hold, renamed_held, IsIn, IsRenamedView, IsRenamedKnown, IsRenamed, IsRenamedResult, IsAskedAlike}
use Rattle.o2_alone.specs.Renaming.{AreNumberedAlike, asked, asking_by, asking_of, askings, asks_nothing, call_of, called_by, comes_in, comes_to_room, new_in_run, some_where}
use Rattle.o2_alone.specs.Keeping.{lacks, lacks_room, meets}
use Rattle.o2_alone.specs.Isolation.{IsLike}
use Rattle.o2_alone.proofs.RenamedViews.{bound_renamed, bound_is_in, stepped_renamed}
use Rattle.o2_alone.proofs.RenamedCalls.{Twins, are_good_same, arguments_same, has_same, other}
use Rattle.o2_alone.proofs.RenamedRulings.{members_renamed, under_renamed}
use Rattle.o2_alone.proofs.RenamedRuns.{comes_renamed}
use Rattle.o2_alone.proofs.OwnReserves.{same_reserved}
use Rattle.o2_alone.proofs.RenamedSteps.{of_twin, twins_of}
use Rattle.o2_alone.proofs.Twins.{IsRange}

-- Names from the first one on are new in both worlds.
abbrev pub extended : Renaming → (first other : ℕ) → Renaming
extended f first other n = cond (nat_lt n first) (f n) (other + (n - first))

pub extended_low : (f : Renaming) (first other n : ℕ) → n < first → extended f first other n ≡ f n
extended_low f first other n low = let is : nat_lt n first ≡ true = grind arith in if_yes (nat_lt n first) (f n) (other + (n - first)) is

pub extended_high : (f : Renaming) (first other n : ℕ) → first ≤ n → extended f first other n ≡ other + (n - first)
extended_high f first other n high = let is : nat_lt n first ≡ false = grind arith in if_no (nat_lt n first) (f n) (other + (n - first)) is

-- a name that the process holds
pub record IsHeldName (p : Process) (n : ℕ) : Type 0 where
  pub index : ℕ
  pub hold : Held
  pub there : get p.held index ≡ Some hold
  pub named : hold.name ≡ n

abbrev pub IsSpokenOf : Process → ℕ → ℕ → Type 0
IsSpokenOf p first n = IsHeldName p n ⊎ (first ≤ n)

module _ (f : Renaming) (number : ℕ) (w a : World) (like : IsLike f number w a) (tied : IsTied w) (tied_alone : IsTied a) where
  pub lives_here : (i : ℕ) (h : Held) → get like.process.held i ≡ Some h → lives_in w h.name ≡ true
  lives_here i h e = (tied.held (number - 1) i h (ap (λ (o : Option Process). held_of o i) (at_place_of w.processes number like.process like.there) ∙ e)).0

  pub low_here : (i : ℕ) (h : Held) → get like.process.held i ≡ Some h → h.name < w.next_name
  low_here i h e = tied.below h.name (lives_here i h e)

  low_there : (i : ℕ) (h : Held) → get like.process.held i ≡ Some h → f h.name < a.next_name
  low_there i h e = tied_alone.below (f h.name) (ap (λ (o : Option Segment). is_some o) (like.segment i h e) ∙ lives_here i h e)

  abbrev pub further : Renaming
  further = extended f w.next_name a.next_name

  further_held : (i : ℕ) (h : Held) → get like.process.held i ≡ Some h → further h.name ≡ f h.name
  further_held i h e = extended_low f w.next_name a.next_name h.name (low_here i h e)

  pub further_like : IsLike further number w a
  further_like = record {
    process = like.process;
    twin = like.twin;
    there = like.there;
    there_too = like.there_too;
    cpu = like.cpu;
    state = like.state;
    held = λ (i : ℕ). like.held i ∙ by_hold (get like.process.held i) (further_held i);
    segment = λ (i : ℕ) (h : Held) e. ap (λ (n : ℕ). get a.names n) (further_held i h e) ∙ like.segment i h e;
    apart = λ (i j : ℕ) (g h : Held) e k same. like.apart i j g h e k (sym (further_held i g e) ∙ (same ∙ further_held j h k));
    reserved = like.reserved;
  }
    where
      by_hold : (o : Option Held) → ((h : Held) → o ≡ Some h → further h.name ≡ f h.name) → option_map (renamed_held f) o ≡ option_map (renamed_held further) o
      by_hold None same = refl
      by_hold (Some h) same = ap (λ (n : ℕ). Some (record h { name = n })) (sym (same h refl))

  pub spoken_range : IsRange further (IsSpokenOf like.process w.next_name) w.next_name a.next_name
  spoken_range = record { apart = apart; fresh = extended_high f w.next_name a.next_name; above = λ n high. inr high }
    where
      value : (n : ℕ) → IsHeldName like.process n → further n ≡ f n
      value n x = subst (λ (m : ℕ). further m ≡ f m) x.named (further_held x.index x.hold x.there)

      below : (n : ℕ) → IsHeldName like.process n → f n < a.next_name
      below n x = subst (λ (m : ℕ). f m < a.next_name) x.named (low_there x.index x.hold x.there)

      mixed : (m n : ℕ) → IsHeldName like.process m → w.next_name ≤ n → further m ≡ further n → ⊥
      mixed m n x high same =
          let one = value m x in
          let small = below m x in
          let two = extended_high f w.next_name a.next_name n high in
          omega (arith, one, small, two, same, high)

      apart : (m n : ℕ) → IsSpokenOf like.process w.next_name m → IsSpokenOf like.process w.next_name n → further m ≡ further n → m ≡ n
      apart m n (inl x) (inl y) same =
          sym x.named ∙ (like.apart x.index y.index x.hold y.hold x.there y.there (ap f x.named ∙ (sym (value m x) ∙ (same ∙ (value n y ∙ ap f (sym y.named))))) ∙ y.named)
      apart m n (inl x) (inr high) same = absurd (mixed m n x high same)
      apart m n (inr high) (inl y) same = absurd (mixed n m y high (sym same))
      apart m n (inr high) (inr far) same =
          let one = extended_high f w.next_name a.next_name m high in
          let two = extended_high f w.next_name a.next_name n far in
          omega (arith, one, two, same, high, far)

-- with further numbers for the names that come
pub record IsFurther (number : ℕ) (w a : World) : Type 0 where
  pub names : Renaming
  pub like : IsLike names number w a
  pub range : IsRange names (IsSpokenOf like.process w.next_name) w.next_name a.next_name
  pub next : names w.next_name ≡ a.next_name

pub go_further : (f : Renaming) (number : ℕ) (w a : World) → IsLike f number w a → IsTied w → IsTied a → IsFurther number w a
unfolding further_like
go_further f number w a like tied tied_alone = record {
  names = further f number w a like tied tied_alone;
  like = further_like f number w a like tied tied_alone;
  range = spoken_range f number w a like tied tied_alone;
  next = next_is;
}
  where
    next_is : extended f w.next_name a.next_name w.next_name ≡ a.next_name
    next_is = let new = extended_high f w.next_name a.next_name w.next_name (omega arith) in omega (arith, new)

-- Both befores.

record IsHold (o : Option Held) (h : Hold) : Type 0 where
  held : Held
  there : o ≡ Some held
  name : held.name ≡ h.name

from_hold : (o : Option Held) (h : Hold) → option_map hold_of o ≡ Some h → IsHold o h
from_hold None h e = cc
from_hold (Some k) h e = record { held = k; there = refl; name = name_of (hold_of k) h e }
  where
    name_of : (g h : Hold) → Some g ≡ Some h → g.name ≡ h.name
    name_of g h e = cc

taken_own : (v : World) (number i : ℕ) → 0 < number → taken_in v number i ≡ (is_some (held_at v.processes number i) || list_any (reserves number i) v.reserved)
taken_own v number i some =
    ap (λ (b : Bool). b || list_any (reserves number i) v.reserved) (if_no (number == 0) (holds_index v.processes i) (is_some (held_at v.processes number i)) (not_zero number some))

module _ (s : Setting) (f : Renaming) (number : ℕ) (w a : World) (like : IsLike f number w a) (next : f w.next_name ≡ a.next_name) where
  abbrev p : Process
  p = like.process

  abbrev q : Process
  q = like.twin

  same_holds : (i : ℕ) → holds_in q.held i ≡ option_map (renamed_hold f) (holds_in p.held i)
  same_holds i = ap (λ (o : Option Held). option_map hold_of o) (like.held i) ∙ by_hold (get p.held i)
    where
      by_hold : (o : Option Held) → option_map hold_of (option_map (renamed_held f) o) ≡ option_map (renamed_hold f) (option_map hold_of o)
      by_hold None = refl
      by_hold (Some h) = refl

  same_segment : (h : Hold) → IsIn (holds_in p.held) h → get a.names (f h.name) ≡ get w.names h.name
  same_segment h there =
      let k = from_hold (get p.held there.0) h there.1 in
      subst (λ (n : ℕ). get a.names (f n) ≡ get w.names n) k.name (like.segment there.0 k.held k.there)

  same_bytes : (h : Hold) → IsIn (holds_in p.held) h → bytes_in a.names (f h.name) ≡ bytes_in w.names h.name
  same_bytes h there = ap (λ (o : Option Segment). segment_bytes o) (same_segment h there)

  same_apart : (g h : Hold) → IsIn (holds_in p.held) g → IsIn (holds_in p.held) h → f g.name ≡ f h.name → g.name ≡ h.name
  same_apart g h there too e =
      let k = from_hold (get p.held there.0) g there.1 in
      let l = from_hold (get p.held too.0) h too.1 in
      sym k.name ∙ (like.apart there.0 too.0 k.held l.held k.there l.there (ap f k.name ∙ (e ∙ ap f (sym l.name))) ∙ l.name)

  same_registers : (r : Sreg) → in_register (bound_registers (holds_in q.held) q.cpu) r ≡ option_map (renamed_hold f) (in_register (bound_registers (holds_in p.held) p.cpu) r)
  same_registers r = ap (λ (c : Cpu). in_register (bound_registers (holds_in q.held) c) r) like.cpu ∙ go r
    where
      go : (r : Sreg) → in_register (bound_registers (holds_in q.held) p.cpu) r ≡ option_map (renamed_hold f) (in_register (bound_registers (holds_in p.held) p.cpu) r)
      go Es = bound_renamed f (holds_in p.held) (holds_in q.held) same_holds p.cpu.es
      go Cs = bound_renamed f (holds_in p.held) (holds_in q.held) same_holds p.cpu.cs
      go Ss = bound_renamed f (holds_in p.held) (holds_in q.held) same_holds p.cpu.ss
      go Ds = bound_renamed f (holds_in p.held) (holds_in q.held) same_holds p.cpu.ds

  same_view : IsRenamedView f (view_of w.names p) (view_of a.names q)
  same_view = record {
    held = same_holds;
    gate = λ i. refl;
    registers = same_registers;
    bound = λ r. registers_held (holds_in p.held) p.cpu r;
    size = λ (h : Hold) there. ap (λ (bs : List ℕ). length bs) (same_bytes h there);
    present = λ h there. refl;
    discarded = λ h there. ap (λ (o : Option Segment). is_discarded o) (same_segment h there);
    bytes = same_bytes;
    apart = same_apart;
  }
    where
      registers_held : (held : ℕ → Option Hold) (c : Cpu) (r : Sreg) (h : Hold) → in_register (bound_registers held c) r ≡ Some h → IsIn held h
      registers_held held c Es h e = bound_is_in held c.es h e
      registers_held held c Cs h e = bound_is_in held c.cs h e
      registers_held held c Ss h e = bound_is_in held c.ss h e
      registers_held held c Ds h e = bound_is_in held c.ds h e

  held_here : (i : ℕ) → held_at w.processes number i ≡ get p.held i
  held_here i = ap (λ (o : Option Process). held_of o i) like.there

  held_there : (i : ℕ) → held_at a.processes number i ≡ get q.held i
  held_there i = ap (λ (o : Option Process). held_of o i) like.there_too

  same_held : (i : ℕ) → held_at a.processes number i ≡ option_map (renamed_held f) (held_at w.processes number i)
  same_held i = held_there i ∙ (like.held i ∙ ap (option_map (renamed_held f)) (sym (held_here i)))

  same_known : IsRenamedKnown f number (known_of s w) (known_of s a)
  same_known = record {
    held = same_held;
    segment = λ (h : Held) there. ap (λ (o : Option Segment). option_map marks_of o) (like.segment there.0 h (sym (held_here there.0) ∙ there.1));
    taken = λ (i : ℕ). taken_own a number i some
        ∙ (ap (λ (o : Option Held). is_some o || list_any (reserves number i) a.reserved) (same_held i)
        ∙ (ap (λ (b : Bool). b || list_any (reserves number i) a.reserved) (by_hold (held_at w.processes number i))
        ∙ (ap (λ (b : Bool). is_some (held_at w.processes number i) || b) (same_reserved number i w.reserved a.reserved like.reserved) ∙ sym (taken_own w number i some))));
    next = sym next;
    avail = refl;
  }
    where
      some : 0 < number
      some = number_some w.processes number p like.there

      by_hold : (o : Option Held) → is_some (option_map (renamed_held f) o) ≡ is_some o
      by_hold None = refl
      by_hold (Some h) = refl

  pub same_before : IsRenamed f (before s w number p) (before s a number q)
  same_before = record { number = refl; cpu = like.cpu; view = same_view; known = same_known }

-- What a step asks beside that is answered alike, where the process keeps to itself.

called_same : (f : Renaming) (r q : Result Machine Stop) → IsRenamedResult f r q → called_by q ≡ called_by r
called_same f (Ok s) (Ok t) same = refl
called_same f (Ok s) (Err e) same = absurd same
called_same f (Err d) (Ok t) same = absurd same
called_same f (Err d) (Err e) same = ap (λ (e : Stop). called_by (Err e)) same

call_same : (f : Renaming) (b o : Before) → IsRenamed f b o → call_of o ≡ call_of b
call_same f b o same =
    called_same f (stepped (state b.cpu b.view)) (stepped (state o.cpu o.view))
    (subst (λ (c : Cpu). IsRenamedResult f (stepped (state b.cpu b.view)) (stepped (state c o.view))) (sym same.cpu) (stepped_renamed f b.cpu b.view o.view same.view))

comes_in_same : (t : Twins) (o : Option CallRow) → comes_in (other t) o ≡ comes_in t.one o
comes_in_same t None = refl
comes_in_same t (Some r) =
    let n = words_in r.slots in
    let a : ℕ → ℕ = argument t.one.view t.one.cpu in
    ap (λ (x : ℕ → ℕ). has_arguments t.view t.one.cpu n && are_good t.view (pointers_in r.slots t.view x)) (arguments_same t)
    ∙ (ap (λ (x : Bool). x && are_good t.view (pointers_in r.slots t.view a)) (has_same t n)
    ∙ ap (λ (x : Bool). has_arguments t.one.view t.one.cpu n && x) (are_good_same t r.slots a))

-- a call asks for as many segments, whatever numbers names have
record AsksSame (asking : Asking) : Type 0 where
  same : (t : Twins) (a : ℕ → ℕ) → asking.segments (other t) a ≡ asking.segments t.one a

new_same : (t : Twins) (segs part s : ℕ) → new_in_run t.known t.one.number (s / 8) segs part t.one.cpu (held_under t.known t.one.number s) ≡ new_in_run t.one.known t.one.number (s / 8) segs part t.one.cpu (held_under t.one.known t.one.number s)
new_same t segs part s =
    ap (new_in_run t.known t.one.number (s / 8) segs part t.one.cpu) (under_renamed t.names t.one.number t.one.known t.known t.knows s) ∙ by_hold (held_under t.one.known t.one.number s)
  where
    by_hold : (o : Option Held) → new_in_run t.known t.one.number (s / 8) segs part t.one.cpu (option_map (renamed_held t.names) o) ≡ new_in_run t.one.known t.one.number (s / 8) segs part t.one.cpu o
    by_hold None = refl
    by_hold (Some h) =
        ap (λ (x : Bool). some_where x (segments_of segs part - length (members t.known t.one.number (s / 8) (renamed_held t.names h))))
        (comes_renamed t.names t.one.number t.one.known t.known t.knows segs part (s / 8) t.one.cpu h)
        ∙ ap (λ (is : List ℕ). some_where (comes_to_room t.one.known t.one.number (s / 8) segs part t.one.cpu h) (segments_of segs part - length is))
        (members_renamed t.names t.one.number t.one.known t.known t.knows (s / 8) h)

by_words : (asking : Asking) → ((t : Twins) (a : ℕ → ℕ) → asking.segments (other t) a ≡ asking.segments t.one a) → AsksSame asking
by_words asking same = record { same = same }

-- in the order of the table
ask_same : (service : ℕ) → AsksSame (asking_of service)
unfolding asking_of
ask_same service =
    found (λ (n : ℕ) (o : Option Asking). AsksSame (asking_by o)) (λ n. by_words asks_nothing (λ t a. refl)) askings (
      by_words _ (λ t a. refl),
      (
        by_words _ (λ t a. refl),
        (
          by_words _ (λ t a. refl),
          (
            by_words _ (λ t a. refl),
            (
              by_words _ (λ t a. refl),
              (
                by_words _ (λ t a. refl),
                (by_words _ (λ t a. refl), (by_words _ (λ t a. new_same t (a 2) (a 1) (a 0)), tt)),
              ),
            ),
          ),
        ),
      ),
    ) service

asked_same : (f : Renaming) (b o : Before) → IsRenamed f b o → (service : ℕ) → asked o service ≡ asked b service
asked_same f b o same service = of_twin f b o same (λ (o : Before). asked o service ≡ asked b service) (of_twins (twins_of f b o same))
  where
    of_twins : (t : Twins) → asked (other t) service ≡ asked t.one service
    of_twins t =
        let a : ℕ → ℕ = argument t.one.view t.one.cpu in
        ap (λ (x : Bool). cond x ((asking_of service).segments (other t) (argument t.view t.one.cpu)) None) (comes_in_same t (row_of service))
        ∙ (ap (λ (x : ℕ → ℕ). cond (comes_in t.one (row_of service)) ((asking_of service).segments (other t) x) None) (arguments_same t)
        ∙ ap (λ (x : Option ℕ). cond (comes_in t.one (row_of service)) x None) ((ask_same service).same t a))

none_of : (x y z : Bool) → (x || (y || z)) ≡ false → (x ≡ false) × ((y ≡ false) × (z ≡ false))
none_of true y z e = absurd (cc)
none_of false true z e = absurd (cc)
none_of false false true e = absurd (cc)
none_of false false false e = (refl, (refl, refl))

not_both : {P : Type 0} (x : Bool) → x ≡ true → x ≡ false → P
not_both {P} x is is_not = absurd (let both : true ≡ false = sym is ∙ is_not in cc)

pub asked_alike : (f : Renaming) (b o : Before) → IsRenamed f b o → AreNumberedAlike f b.known o.known → meets b (call_of b) ≡ false → lacks_room b (call_of b) ≡ false → lacks_room o (call_of o) ≡ false
    → IsAskedAlike f (call_of b) b o
asked_alike f b o same numbered quiet room room_too = by_call (call_of b) quiet room (subst (λ (call : Option ℕ). lacks_room o call ≡ false) (call_same f b o same) room_too)
  where
    by_call : (call : Option ℕ) → meets b call ≡ false → lacks_room b call ≡ false → lacks_room o call ≡ false → IsAskedAlike f call b o
    by_call None quiet room room_too = tt
    by_call (Some service) quiet room room_too =
        let asking = asking_of service in
        let a : ℕ → ℕ = argument b.view b.cpu in
        let none = none_of asking.input (asking.others b a) (asking.region a) quiet in
        record {
          input = λ reads. not_both asking.input reads none.0;
          alone = none.1.0;
          region = λ shares. not_both (asking.region a) shares none.1.1;
          names = λ many. numbered;
          room = λ n e. ap (lacks o.known) (sym (asked_same f b o same service ∙ e)) ∙ (room_too ∙ sym (ap (lacks b.known) (sym e) ∙ room));
        }
