-- A name more, and a name that is held.
use Rattle.std.proofs.Common.{◌≡◌, ◌≢◌, ℕ, ◌≤◌, ◌+◌, ◌++◌, ◌==◌, Bool, true, false, List, [], ◌∷◌, Option, Some, None, if◌then◌else◌, ap, sym, ◌∙◌, refl, arith, subst}
use Rattle.std.specs.Prelude.{Result, Ok, Err}
use Rattle.std.specs.Result.{IsErr, IsErrAnd}
use Rattle.o2_base.specs.declared.memory.Fail.{Fail}
use Rattle.o2_base.specs.declared.memory.Fail.TheVariants.{NoMemory, Bad}
use Rattle.o2_base.specs.declared.faults.ModuleFault.{ModuleFault}
use Rattle.o2_base.specs.declared.faults.ModuleFault.TheVariants.{NoSegment}
use Rattle.o2_base.specs.Selectors.{selector_of}
use Rattle.o2_world.specs.declared.types.Made.{Made}
use Rattle.o2_world.specs.Map.{get}
use Rattle.o2_world.specs.World.{Segment, Held}
use Rattle.o2_world.specs.Opening.{held_by_load}
use Rattle.o2_world.specs.Starts.{Built, Holding, segment_of, made_with, name_in, named, holds, holds_as, with_holding}
use Rattle.o2_load.specs.Memory.{Memory, MakesName, KeepsHolds, KeepsSetting, OthersStay}
use Rattle.o2_load.specs.Holds.{Names, Stage, IsHolding, IsOver, HoldsAt, Makes, AddsNew, Adds, ComesTo, gripped}
use Rattle.o2_load.specs.declared.starting_memory.Grip.{Grip}
use Rattle.o2_load.proofs.Names.{as_found}

-- a name that the process holds
pub held_more : (before after : Names) (x y : Stage) (most pid : ℕ) (b : Built) (h : Holding) (name : ℕ) → y.memory.count ≡ x.memory.count → OthersStay x.memory y.memory pid
    → HoldsAt x.memory y.memory pid h.index (held_by_load name h.rights) → ((n : ℕ) (o : Option Segment) → before n o → after n o) → y.made ≡ x.made → y.selectors ≡ x.selectors ++ selector_of h.index ∷ []
    → IsHolding before x most pid b → IsHolding after y most pid (holds b h name)
held_more before after x y most pid b h name count stays at still made selectors is = record {
  count = count ∙ is.count;
  most = stays.setting.most ∙ is.most;
  fits = let c = stays.setting.most in let d = is.fits in omega (arith, count, c, d);
  named = λ n. still n (get b.names n) (is.named n);
  made = is.made ∙ sym made;
  selectors = ap (λ (xs : List ℕ). xs ++ selector_of h.index ∷ []) is.selectors ∙ sym selectors;
  held = λ i. ap (λ (o : Option Held). if h.index == i then Some (held_by_load name h.rights) else o) (is.held i) ∙ sym (at i);
}

equal_or : (m n : ℕ) (t : Bool) → (m == n) ≡ t → (t ≡ true → m ≡ n) × (t ≡ false → n ≢ m)
equal_or m n t e = (λ is. (grind arith), λ is. (λ same. absurd (grind arith)))

-- a name that is made
pub named_more : (before after : Names) (x y : Stage) (most pid : ℕ) (b : Built) (h : Holding) (name : ℕ) → MakesName x.memory y.memory name → after name (Some (segment_of h))
    → ((n : ℕ) (o : Option Segment) → n ≢ x.memory.count → before n o → after n o) → KeepsHolds x.memory y.memory → y.made ≡ made_with x.made h name → y.selectors ≡ x.selectors
    → IsHolding before x most pid b → IsHolding after y most pid (named b h)
named_more before after x y most pid b h name makes new others held made selectors is = record {
  count = makes.count ∙ ap (λ (n : ℕ). n + 1) is.count;
  most = held.setting.most ∙ is.most;
  fits = let a = makes.count in let c = held.setting.most in let d = makes.fits in omega (arith, a, c, d);
  named = λ n. at n (b.next_name == n) refl;
  made = ap (λ (ms : List Made). made_with ms h b.next_name) is.made ∙ ap (made_with x.made h) (sym (makes.name ∙ is.count)) ∙ sym made;
  selectors = is.selectors ∙ sym selectors;
  held = λ i. is.held i ∙ sym (held.held pid i);
}
  where
    at : (n : ℕ) (t : Bool) → (b.next_name == n) ≡ t → after n (if t then Some (segment_of h) else get b.names n)
    at n true e =
        let same : name ≡ n = makes.name ∙ is.count ∙ (equal_or b.next_name n true e).0 refl in
        subst (λ (k : ℕ). after k (Some (segment_of h))) same new
    at n false e =
        let other : n ≢ x.memory.count = λ same. (equal_or b.next_name n false e).1 refl (same ∙ is.count) in
        others n (get b.names n) other (is.named n)

-- one name too many is refused
pub named_over : (names : Names) (x : Stage) (most pid : ℕ) (b : Built) (h : Holding) (fault : ModuleFault) → (fault ≡ NoSegment) × (x.memory.most ≤ x.memory.count)
    → IsHolding names x most pid b → IsOver fault most (named b h)
named_over names x most pid b h fault full is = record {
  fault = full.0;
  over = let a = full.1 in let c = is.most in let d = is.count in omega (arith, a, c, d);
}

-- a new name that is refused
pub new_refused : (first mid last : Names) (a m z : Stage) (pid : ℕ) (h : Holding) (e : Fail ModuleFault) (result : Result (Unit {0}) (Fail ModuleFault)) → IsErr result → IsErrAnd result (λ f. f ≡ e)
    → Makes first a mid m h (Err e) → AddsNew first a last z pid h result
new_refused first mid last a m z pid h e (Ok done) is same makes most b holding = absurd (cc)
new_refused first mid last a m z pid h e (Err NoMemory) is same makes most b holding = tt
new_refused first mid last a m z pid h NoMemory (Err (Bad fault)) is same makes most b holding = absurd (cc)
new_refused first mid last a m z pid h (Bad f) (Err (Bad fault)) is same makes most b holding =
    let over = makes most pid b holding in
    let equal : fault ≡ f = cc in
    record { fault = equal ∙ over.fault; over = over.over }

module _ (before after : Names) (x y : Stage) (pid : ℕ) (g : Grip) (h : Holding) (is_h : gripped g h.bytes ≡ h) where
  -- the process holds a name that is made
  pub adds_made : (name : ℕ) → Some name ≡ (if g.common then name_in x.made g.place g.number else None)
      → ((most : ℕ) (b : Built) (bytes : List ℕ) → IsHolding before x most pid b → IsHolding after y most pid (holds b (gripped g bytes) name)) → Adds before x after y pid h (Ok tt)
  adds_made name found step most b is =
      subst (λ (k : Holding). IsHolding after y most pid (with_holding b k)) is_h
      (subst (λ (z : Built). IsHolding after y most pid z) (as_found b x.made (gripped g h.bytes) (Some name) is.made found) (step most b h.bytes is))

  -- or a new one
  pub adds_new : (bytes : List ℕ) (r : Result (Unit {0}) (Fail ModuleFault)) → bytes ≡ h.bytes → None ≡ (if g.common then name_in x.made g.place g.number else None)
      → AddsNew before x after y pid (gripped g bytes) r → Adds before x after y pid h r
  adds_new bytes r same found adds most b is =
      subst (λ (z : Built). ComesTo after y most pid z r)
      (ap (λ (z : List ℕ). holds_as b (gripped g z) None) same ∙ as_found b x.made (gripped g h.bytes) None is.made found ∙ ap (with_holding b) is_h) (adds most b is)

-- What stays in one step and in another stays in both.

pub setting_on : (a b c : Memory) → KeepsSetting a b → KeepsSetting b c → KeepsSetting a c
setting_on a b c first next = record {
  most = next.most ∙ first.most;
  takes = λ pid i. next.takes pid i ∙ first.takes pid i;
  fixed = next.fixed ∙ first.fixed;
}

pub others_on : (a b c : Memory) (pid : ℕ) → OthersStay a b pid → OthersStay b c pid → OthersStay a c pid
others_on a b c pid first next = record {
  others = λ q i other. next.others q i other ∙ first.others q i other;
  setting = setting_on a b c first.setting next.setting;
}

-- One in which all holds stay, and then another.
pub others_behind : (a b c : Memory) (pid : ℕ) → KeepsHolds a b → OthersStay b c pid → OthersStay a c pid
others_behind a b c pid first next = record {
  others = λ q i other. next.others q i other ∙ first.held q i;
  setting = setting_on a b c first.setting next.setting;
}

pub others_kept : (a b : Memory) (pid : ℕ) → KeepsHolds a b → OthersStay a b pid
others_kept a b pid kept = record { others = λ q i other. kept.held q i; setting = kept.setting }
