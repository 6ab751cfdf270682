-- What a load finds agrees with reach.
use Rattle.std.proofs.Common.{◌≡◌, refl, sym, ap, ◌∙◌, ℕ, ◌-◌, ◌/◌, ◌%◌, ◌<◌, ◌==◌, nat_lt, Bool, true, false, arith, if◌then◌else◌, Option, Some, None}
use Rattle.std.specs.Prelude.{is_some, option_map}
use Rattle.std.proofs.lemmas.Bool.{eqb-true, ltb-true, lt-ltb}
use Rattle.o2_base.specs.declared.selector.Selector.{Selector}
use Rattle.o2_isa.specs.declared.cpu.Purpose.{Purpose}
use Rattle.o2_isa.specs.declared.cpu.Purpose.TheVariants.{DataReg, StackReg, Jump, Call, Return}
use Rattle.o2_isa.specs.declared.cpu.Loaded.{Loaded}
use Rattle.o2_isa.specs.declared.cpu.Loaded.TheVariants as loaded
use Rattle.o2_isa.specs.View.{View, found, gate_at, is_local, is_null, is_readable, load_rules, probe_of, refused, through_gate, trap_of}
use Rattle.o2_world.specs.Map.{get}
use Rattle.o2_world.specs.World.{World, Process, Held}
use Rattle.o2_world.specs.Holders.{process_at}
use Rattle.o2_world.specs.Views.{discarded_in, hold_of, view_of}
use Rattle.o2_world.specs.Sound.{held_in, held_of}
use Rattle.o2_world.specs.Reach.{IsTold, holds_of}
use Rattle.o2_world.specs.Tied.{IsSound}
use Rattle.o2_world.proofs.Numbers.{at_place_of, number_some}
use Rattle.o2_world.proofs.Reached.{number_holds}
use Rattle.o2_world.proofs.RunReach.{reach_is}
use Rattle.o2_read_report.specs.Finds.{FindsReach, done_or_gone, reach_of}

-- a selector of the local table isn't null
local_some : (s : ℕ) → is_local s ≡ true → is_null s ≡ false
local_some s here = go (is_null s) refl
  where
    small : (s : ℕ) → s / 4 % 2 ≡ 1 → s < 4 → ⊥
    small s e l = omega arith

    go : (b : Bool) → is_null s ≡ b → is_null s ≡ false
    go true e = absurd (small s (eqb-true (s / 4 % 2) 1 here) (ltb-true s 4 e))
    go false e = e

-- Loads of a selector that names nothing, over plain variables.

no_stack : (v : View) (s : ℕ) (null ring : Bool) → null ≡ false
    → (if null then loaded.Trap 13 0 else (if ring then refused s else refused s)) ≡ refused s
no_stack v s true ring e = absurd (cc)
no_stack v s false true e = refl
no_stack v s false false e = refl

no_jump : (s : ℕ) (null : Bool) → null ≡ false → (if null then loaded.Trap 13 0 else refused s) ≡ refused s
no_jump s true e = absurd (cc)
no_jump s false e = refl

no_data : (s : ℕ) (null : Bool) → null ≡ false → (if null then loaded.Done else refused s) ≡ refused s
no_data s true e = absurd (cc)
no_data s false e = refl

no_gate : (v : View) (s : ℕ) → is_local s ≡ true → through_gate s (gate_at v s) ≡ refused s
no_gate v s here = ap (λ (b : Bool). through_gate s (if b then None else v.gate (s / 8))) here

none_loads : (v : View) (purpose : Purpose) (s : ℕ) → is_local s ≡ true → load_rules v purpose s None ≡ refused s
none_loads v DataReg s here = no_data s (is_null s) (local_some s here)
none_loads v StackReg s here = no_stack v s (is_null s) (s % 4 == 3) (local_some s here)
none_loads v Jump s here = no_jump s (is_null s) (local_some s here)
none_loads v Call s here =
    ap (λ (l : Loaded). if is_null s then loaded.Trap 13 0 else l) (no_gate v s here) ∙ no_jump s (is_null s) (local_some s here)
none_loads v Return s here = no_stack v s (is_null s) (s % 4 == 3) (local_some s here)

-- all is present
gone_by : (r g : Bool) (s : ℕ) → (if r then (if g then trap_of 11 s else loaded.Done) else refused s) ≡ (if r then done_or_gone g s else refused s)
gone_by true true s = refl
gone_by true false s = refl
gone_by false g s = refl

some_data : (null : Bool) (x : Loaded) → null ≡ false → (if null then loaded.Done else x) ≡ x
some_data true x e = absurd (cc)
some_data false x e = refl

is_above : (n : ℕ) → 0 < n → nat_lt 0 n ≡ true
is_above n some = lt-ltb 0 n some

module _ (w : World) (number : ℕ) (p : Process) (sound : IsSound w) (told : IsTold w) (at : process_at w.processes number ≡ Some p) (s : Selector) (here : is_local s.0 ≡ true) where
  abbrev i : ℕ
  i = s.0 / 8

  abbrev v : View
  v = view_of w.names p

  held_here : held_in w.processes (number - 1) i ≡ get p.held i
  held_here = ap (λ (o : Option Process). held_of o i) (at_place_of w.processes number p at)

  reach_here : reach_of w number s.0 ≡ holds_of (get p.held i)
  reach_here =
      let some = number_some w.processes number p at in
      reach_is w told number i some ∙ number_holds w number i some ∙ ap holds_of held_here

  found_here : found v s.0 ≡ option_map hold_of (get p.held i)
  found_here = ap (λ (b : Bool). if b then option_map hold_of (get p.held i) else None) here

  some_held : (h : Held) → get p.held i ≡ Some h → 0 < h.holds
  some_held h e = (sound.tied.held (number - 1) i h (held_here ∙ e)).1

  probe_by : (purpose : Purpose) (o : Option Held) → get p.held i ≡ o → probe_of v purpose s ≡ load_rules v purpose s.0 (option_map hold_of o)
  unfolding probe_of
  probe_by purpose o e = ap (load_rules v purpose s.0) (found_here ∙ ap (option_map hold_of) e)

  found_by : (o : Option Held) → get p.held i ≡ o → found v s.0 ≡ option_map hold_of o
  found_by o e = found_here ∙ ap (option_map hold_of) e

  reach_by : (o : Option Held) → get p.held i ≡ o → reach_of w number s.0 ≡ holds_of o
  reach_by o e = reach_here ∙ ap holds_of e

  no_number : (n : ℕ) → n ≡ 0 → 0 < n → ⊥
  no_number n e some = omega arith

  by_held : (o : Option Held) → get p.held i ≡ o → FindsReach w number p s
  by_held None e = record {
    finds = ap is_some (found_by None e) ∙ sym (ap (λ (n : ℕ). nat_lt 0 n) (reach_by None e));
    refuses = λ none purpose. probe_by purpose None e ∙ none_loads v purpose s.0 here;
    loads = λ some. absurd (no_number (reach_of w number s.0) (reach_by None e) some);
  }
  by_held (Some h) e = record {
    finds = ap is_some (found_by (Some h) e) ∙ sym (is_above h.holds (some_held h e)) ∙ sym (ap (λ (n : ℕ). nat_lt 0 n) (reach_by (Some h) e));
    refuses = λ none purpose. absurd (no_number h.holds (sym (reach_by (Some h) e) ∙ none) (some_held h e));
    loads = λ some. (
      hold_of h,
      found_by (Some h) e,
      probe_by DataReg (Some h) e
          ∙ (some_data (is_null s.0) (if is_readable h.rights then (if discarded_in w.names h.name then trap_of 11 s.0 else loaded.Done) else refused s.0) (local_some s.0 here)
          ∙ gone_by (is_readable h.rights) (discarded_in w.names h.name) s.0),
    );
  }

  pub finds_reach : FindsReach w number p s
  finds_reach = by_held (get p.held i) refl
